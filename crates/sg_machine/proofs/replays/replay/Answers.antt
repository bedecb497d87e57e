use Rattle.std.proofs.Common.{◌≡◌, refl, ◌∙◌, ap, sym, arith, true, take}
use Rattle.std.proofs.lemmas.List.{take_all}
use Rattle.sg_machine.specs.Runs.{fresh, are_legal, after_all}
use Rattle.sg_machine.specs.Running.{run_of}
use Rattle.sg_machine.proofs.ReplayLemmas.{fresh-same, sound-at, few-dropped, step-agrees, goes-on, ends-there, sum-same}
use Rattle.sg_machine.proofs.replays.replay.Goals as goal

pub loop-event-init : goal.loop-event-init
loop-event-init c = record { legal = refl; at = c.in_ok-run.ensures ∙ fresh-same c.args.setup.now }

pub step-requires : goal.step-requires
step-requires c =
    let few = few-dropped c.args.setup.now c.args.events.now c.loop-event.event-index c.loop-event.invariant.legal in
    rw c.loop-event.invariant.at (omega arith)

pub returns-then-not-branch : goal.returns-then-not-branch
returns-then-not-branch c =
    let setup = c.args.setup.now in
    let es = c.args.events.now in
    let k = c.loop-event.event-index in
    let sound = sound-at setup (take k es) c.loop-event.invariant.legal in
    let same = step-agrees (after_all (fresh setup) (take k es)) c.event-item.result c.loop-event.run c.step.new.run c.in_ok-step.field-0 sound c.loop-event.invariant.at c.in_ok-step.ensures in
    let bad = ends-there (fresh setup) es k c.event-item.result (omega arith) c.event-item.is c.loop-event.invariant.legal (sym same.0 ∙ c.if-not-branch.true) in
    rw bad refl

pub loop-event-preserved : goal.loop-event-preserved
loop-event-preserved c =
    let setup = c.args.setup.now in
    let es = c.args.events.now in
    let k = c.loop-event.event-index in
    let sound = sound-at setup (take k es) c.loop-event.invariant.legal in
    let same = step-agrees (after_all (fresh setup) (take k es)) c.event-item.result c.loop-event.run c.step.new.run c.in_ok-step.field-0 sound c.loop-event.invariant.at c.in_ok-step.ensures in
    let on = goes-on (fresh setup) es k c.event-item.result (omega arith) c.event-item.is c.loop-event.invariant.legal (sym same.0 ∙ c.if-not-branch.false) in
    record { legal = on.0; at = same.1 c.if-not-branch.false ∙ ap run_of (sym on.1) }

pub returns : goal.returns
returns c =
    let setup = c.args.setup.now in
    let es = c.args.events.now in
    let all : take c.loop-event.event-index es ≡ es = take_all c.loop-event.event-index es (omega arith) in
    let legal : are_legal (fresh setup) es ≡ true = rw all at c.loop-event.invariant.legal in
    let at : c.loop-event.run ≡ run_of (after_all (fresh setup) es) = rw all at c.loop-event.invariant.at in
    rw legal (grind (arith, c.in_ok-tally.ensures, at, sum-same (after_all (fresh setup) es)))
