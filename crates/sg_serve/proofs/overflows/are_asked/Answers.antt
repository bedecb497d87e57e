use Rattle.std.proofs.Common.{◌≤◌, length, is_some, refl, arith}
use Rattle.std.proofs.lemmas.Option.{slice_get_read}
use Rattle.sg_overflow.specs.Buffered.{held_state}
use Rattle.sg_serve.proofs.FinishLemmas.{same-bools, asked-step, asked-all}
use Rattle.sg_serve.proofs.overflows.are_asked.Goals as goal

pub loop-d-preserved : goal.loop-d-preserved
loop-d-preserved g c = λ same.
    let outlets = c.args.outlets.now in
    let d = c.loop-d.d in
    let there = slice_get_read outlets (length outlets) d c.index-outlets-d.result refl c.loop-d-test.true c.index-outlets-d.is in
    c.loop-d.invariant (asked-step (λ way. is_some (held_state g.D.Disk.state way)) c.args.asked.now outlets d c.at.result.now c.is_held.result c.index-outlets-d.result c.at.ensures there (same-bools c.at.result.now c.is_held.result c.if-at-is_held.false) c.is_held.ensures same)

pub returns : goal.returns
returns g c = λ yes.
    let asked = c.args.asked.now in
    let outlets = c.args.outlets.now in
    let d = c.loop-d.d in
    let end : length outlets ≤ d = omega (arith, c.loop-d-test.false) in
    let many : length asked ≤ d = omega (arith, end, c.len.ensures, c.if-len-outlets.false) in
    c.loop-d.invariant (asked-all (λ way. is_some (held_state g.D.Disk.state way)) asked outlets d many end)
