use Rattle.std.proofs.Common.{◌≡◌, ◌≤◌, ◌<◌, ◌+◌, ◌-◌, ◌∙◌, sym, ap, arith, drop}
use Rattle.sg_list.proofs.ListLemmas.{slice_get-below}
use Rattle.sg_sinks.specs.Runs.{run_from}
use Rattle.sg_sinks.proofs.RunLemmas.{run-step, run-full, run-end}
use Rattle.sg_sinks.proofs.runs.run_behind.Goals as goal

pub loop-n-preserved : goal.loop-n-preserved
loop-n-preserved c =
    let items = c.args.lengths.now.items in
    let get = sym c.length_at.ensures ∙ c.in-Some.is in
    let fits : c.in-Some.length ≤ c.loop-n.room = omega (arith, c.if-length-room.false) in
    let step = run-step (c.args.most - c.loop-n.n) c.loop-n.room (c.loop-n.n + 1) c.in-Some.length items get (omega (arith, c.loop-n-test.true)) fits in
    let below = slice_get-below items (c.loop-n.n + 1) c.in-Some.length get in
    let less : c.args.most - c.loop-n.n - 1 ≡ c.args.most - (c.loop-n.n + 1) = omega arith in
    let before = c.loop-n.invariant.0 in
    let now = ap (λ m. 1 + run_from m (c.loop-n.room - c.in-Some.length) (drop (c.loop-n.n + 1 + 1) items)) less in
    (omega (arith, before, step, now), omega (arith, c.loop-n-test.true), omega (arith, below))

pub returns-in_default-clause-value : goal.returns-in_default-clause-value
returns-in_default-clause-value c =
    let none = run-end (c.args.most - c.loop-n.n) c.loop-n.room (c.loop-n.n + 1) c.args.lengths.now.items (sym c.length_at.ensures ∙ c.in_default.is) in
    let before = c.loop-n.invariant.0 in
    omega (arith, before, none)

pub returns-then-length-room-clause-value : goal.returns-then-length-room-clause-value
returns-then-length-room-clause-value c =
    let get = sym c.length_at.ensures ∙ c.in-Some.is in
    let none = run-full (c.args.most - c.loop-n.n) c.loop-n.room (c.loop-n.n + 1) c.in-Some.length c.args.lengths.now.items get (omega (arith, c.if-length-room.true)) in
    let before = c.loop-n.invariant.0 in
    omega (arith, before, none)
