use Rattle.std.proofs.Common.{◌≡◌, ◌∙◌, refl, sym, ap, arith, drop, ◌∷◌, ◌++◌, ◌-◌, ◌≤◌, ◌<◌, replicate, max, w64, length}
use mir.Val.{SFits}
use Rattle.std.proofs.lemmas.Int.{to_z-of_z, ints}
use Rattle.sg_frame.specs.Kept.{moments}
use Rattle.sg_frame.proofs.MomentLemmas.{front-split, moments-front}
use Rattle.sg_frame.proofs.moments.moment_at.Goals as goal

pub returns-then-place-end-clause-moment : goal.returns-then-place-end-clause-moment
returns-then-place-end-clause-moment c =
    let place = c.args.place in
    let runs = c.loop-end.runs.items in
    let run = c.in-Some.field-0.now in
    let nonempty = c.in-Some.ensures.variant.0 refl in
    let some : 0 < length runs = omega (arith, c.loop-end.runs.ok.0, nonempty) in
    let split : runs ≡ run ∷ drop 1 runs = front-split runs run some c.in-Some.ensures.lookup in
    let here : place ≤ place = omega arith in
    let fits : SFits w64 run.at = omega (arith, ints) in (
      _,
      sym (c.loop-end.invariant.1 place here) ∙ ap (moments place) split ∙ moments-front place run (drop 1 runs) c.if-place-end.true
          ∙ ap (λ at. at ∷ (replicate (run.end - place - 1) run.at ++ moments (max place run.end) (drop 1 runs))) (sym (to_z-of_z w64 run.at fits)),
    )
