use Rattle.std.proofs.Common.{◌≡◌, ◌∙◌, ◌+◌, ◌∷◌, ap, arith, length, drop, get_or, slice_get, subst, ℕ}
use Rattle.std.proofs.lemmas.List.{drop_more, drop_all, length-drop}
use Rattle.sg_list.specs.Lists.{change}
use Rattle.sg_list.proofs.ListLemmas.{length-change}
use Rattle.sg_window.specs.declared.tracker.BegunRecord.{BegunRecord}
use Rattle.sg_standing.specs.Sources.{HasCredit, begun_at, begun_all}
use Rattle.sg_core.proofs.AdmitSources.{begin-step, credit-step, credit-less, begin-done}
use Rattle.sg_core.proofs.admits.begin_all.Goals as goal

pub begin_at-requires-clause-credit : goal.begin_at-requires-clause-credit
begin_at-requires-clause-credit c =
    let k = c.loop-record.record-index in
    let rs = c.args.records.now in
    let len = length-drop k rs in
    credit-less c.loop-record.sources c.args.i (length (drop k rs)) 1 (omega arith) c.loop-record.invariant.credit

pub loop-record-preserved : goal.loop-record-preserved
loop-record-preserved c =
    let k = c.loop-record.record-index in
    let rs = c.args.records.now in
    let r : BegunRecord = get_or rs k (record { end = 0; left = 0 }) in
    let rest = drop (k + 1) rs in
    let parts : drop k rs ≡ r ∷ rest = drop_more rs k (record { end = 0; left = 0 }) (omega arith) in
    let len : length (drop k rs) ≡ length rest + 1 = ap length parts ∙ omega arith in
    record {
      len = ap length c.begin_at.ensures ∙ length-change c.loop-record.sources c.args.i (begun_at r.end r.left) ∙ c.loop-record.invariant.len;
      credit = credit-step c.loop-record.sources c.begin_at.new.sources c.args.i (length rest) r c.begin_at.ensures (subst (λ (n : ℕ). HasCredit (slice_get c.loop-record.sources c.args.i) n) len c.loop-record.invariant.credit);
      begun = begin-step (change c.args.sources.now c.args.i (begun_all rs)) c.loop-record.sources c.begin_at.new.sources c.args.i r rest c.begin_at.ensures (rw parts at c.loop-record.invariant.begun);
    }

pub returns : goal.returns
returns c =
    let rs = c.args.records.now in
    begin-done (change c.args.sources.now c.args.i (begun_all rs)) c.loop-record.sources c.args.i (drop c.loop-record.record-index rs) (drop_all c.loop-record.record-index rs (omega arith)) c.loop-record.invariant.begun
