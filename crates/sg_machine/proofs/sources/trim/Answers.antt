use Rattle.std.proofs.Common.{◌≡◌, ◌≤◌, ◌∙◌, refl, sym, arith, Some, length, slice_get}
use Rattle.sg_machine.proofs.TrimLemmas.{trimmed-at, trimmed-stop, trimmed-all}
use Rattle.sg_machine.proofs.sources.trim.Goals as goal

pub loop-k-preserved : goal.loop-k-preserved
loop-k-preserved c =
    let s = c.loop-k.source in
    let more = trimmed-at s c.loop-k.k c.at-record.result.now c.loop-k.invariant.at c.at-record.ensures c.if-record-ne0.false in
    record { rest = more ∙ c.loop-k.invariant.rest; at = refl; end = c.loop-k.invariant.end }

pub returns-then-record-ne0 : goal.returns-then-record-ne0
returns-then-record-ne0 c =
    let s = c.loop-k.source in
    let here : slice_get s.records s.acked ≡ Some c.at-record.result.now = rw c.loop-k.invariant.at c.at-record.ensures in
    sym (trimmed-stop s c.at-record.result.now here c.if-record-ne0.true) ∙ c.loop-k.invariant.rest

pub returns : goal.returns
returns c =
    let s = c.loop-k.source in
    let all : length s.records ≤ s.acked = (let e = c.loop-k.invariant.end in let a = c.loop-k.invariant.at in omega arith) in
    sym (trimmed-all s all) ∙ c.loop-k.invariant.rest
