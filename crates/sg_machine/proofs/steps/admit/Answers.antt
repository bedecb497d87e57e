use Rattle.std.proofs.Common.{◌≡◌, ◌∙◌, sym, refl, arith, true}
use Rattle.sg_list.specs.Lists.{passes_at}
use Rattle.sg_list.proofs.ListLemmas.{passes_at-some, slice_get-below}
use Rattle.sg_machine.specs.Needs.{may_admit_run}
use Rattle.sg_machine.proofs.FailLemmas.{too-many}
use Rattle.sg_machine.proofs.steps.admit.Goals as goal

pub returns-then-failed-len : goal.returns-then-failed-len
returns-then-failed-len c =
    let passes : passes_at c.args.run.now.sources c.args.i (may_admit_run c.args.records.now) ≡ true = sym c.is_admit_open.ensures ∙ c.if-not-is_admit_open.false in
    rw (passes, too-many c.args.i c.args.failed.now c.args.run.now c.args.records.now c.args.verdicts.now (omega arith)) refl

pub admit_records-requires-clause-there : goal.admit_records-requires-clause-there
admit_records-requires-clause-there c =
    let passes : passes_at c.args.run.now.sources c.args.i (may_admit_run c.args.records.now) ≡ true = sym c.is_admit_open.ensures ∙ c.if-not-is_admit_open.false in
    let there = passes_at-some c.args.run.now.sources c.args.i (may_admit_run c.args.records.now) passes in
    slice_get-below c.args.run.now.sources c.args.i there.0 there.1
