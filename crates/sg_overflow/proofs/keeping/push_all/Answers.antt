use Rattle.std.proofs.Common.{◌≡◌, inl, ◌∙◌, ◌-◌, ◌++◌, ◌∷◌, [], ℕ, List, length, take, drop, sym, ap, refl, arith}
use Rattle.std.proofs.lemmas.List.{length-map}
use Rattle.std.specs.Prelude.{map}
use Rattle.sg_overflow.specs.View.{Held}
use Rattle.sg_overflow.proofs.Keeps.{fits_next, next_frame, pushed_next, passed_next, pushed_none, ended_as}
use Rattle.sg_overflow.proofs.keeping.push_all.Goals as goal

pub loop-size-init : goal.loop-size-init
loop-size-init g c = record {
  rest = c.bytes-rest.ensures;
  inside = omega arith;
  place = refl;
  pushed = ap (λ (l : List (List ℕ)). record c.args.held.now { memory = l }) (pushed_none c.args.held.now.memory c.args.frames.now c.args.first);
}

pub split_at-requires : goal.split_at-requires
split_at-requires g c =
    fits_next c.args.frames.now c.sizes-size-items.result.now c.loop-size.rest.now c.loop-size.size-index c.sizes-size-items.ensures c.loop-size-test.true c.loop-size.invariant.rest

pub loop-size-preserved-then-place-first : goal.loop-size-preserved-then-place-first
loop-size-preserved-then-place-first g c =
    let frames = c.args.frames.now in
    let l = c.loop-size in
    let next = next_frame frames c.sizes-size-items.result.now l.rest.now c.split_at.result.0.now c.split_at.result.1.now l.size-index c.sizes-size-items.ensures c.loop-size-test.true l.invariant.rest c.split_at.ensures.front c.split_at.ensures.back in
    record {
      rest = next.2;
      inside = omega (arith, next.0);
      place = omega (arith, l.invariant.place);
      pushed = l.invariant.pushed ∙ ap (λ (m : List (List ℕ)). record c.args.held.now { memory = m }) (passed_next c.args.held.now.memory frames c.args.first l.size-index (omega (arith, l.invariant.place, c.if-place-first.true)));
    }

pub loop-size-preserved : goal.loop-size-preserved
loop-size-preserved g c =
    let frames = c.args.frames.now in
    let l = c.loop-size in
    let next = next_frame frames c.sizes-size-items.result.now l.rest.now c.split_at.result.0.now c.split_at.result.1.now l.size-index c.sizes-size-items.ensures c.loop-size-test.true l.invariant.rest c.split_at.ensures.front c.split_at.ensures.back in
    record {
      rest = next.2;
      inside = omega (arith, next.0);
      place = omega (arith, l.invariant.place);
      pushed =
          c.in-Ok.ensures.ok
          ∙ ap (λ (h : Held g.row.D.Denot). record h { memory = h.memory ++ c.split_at.result.0.now ∷ [] }) l.invariant.pushed
          ∙ ap (λ (m : List (List ℕ)). record c.args.held.now { memory = m })
          (pushed_next c.args.held.now.memory frames c.split_at.result.0.now c.args.first l.size-index (omega (arith, l.invariant.place, c.if-place-first.false)) next.0 next.1);
    }

pub returns-in-Err-clause-pushes : goal.returns-in-Err-clause-pushes
returns-in-Err-clause-pushes g c =
    let l = c.loop-size in
    let same : length c.sizes-size-items.result.now ≡ length (map length c.args.frames.now) = ap (λ (xs : List ℕ). length xs) c.sizes-size-items.ensures in
    record {
      from = omega (arith, c.if-place-first.false);
      within = omega (arith, l.invariant.place, c.loop-size-test.true, same, length-map c.args.frames.now length);
      pushed = c.in-Err.ensures.same ∙ l.invariant.pushed ∙ ap (λ (k : ℕ). record c.args.held.now { memory = c.args.held.now.memory ++ take (k - c.args.first) (drop c.args.first c.args.frames.now) }) (sym l.invariant.place);
    }

pub returns-in-Err-clause-cause : goal.returns-in-Err-clause-cause
returns-in-Err-clause-cause g c =
    let l = c.loop-size in
    let same : length c.sizes-size-items.result.now ≡ length (map length c.args.frames.now) = ap (λ (xs : List ℕ). length xs) c.sizes-size-items.ensures in
    ended_as c.args.stop c.in-Err.ended l.place (length c.args.frames.now) (omega (arith, l.invariant.place, c.loop-size-test.true, same, length-map c.args.frames.now length)) c.in-Err.ensures.cause

pub returns-clause-pushes : goal.returns-clause-pushes
returns-clause-pushes g c =
    let l = c.loop-size in
    let same : length c.sizes-size-items.result.now ≡ length (map length c.args.frames.now) = ap (λ (xs : List ℕ). length xs) c.sizes-size-items.ensures in
    let all : l.size-index ≡ length c.args.frames.now = omega (arith, c.loop-size-test.false, l.invariant.inside, same, length-map c.args.frames.now length) in
    record {
      from = omega (arith, l.invariant.place, all, c.requires);
      within = omega (arith, l.invariant.place, all);
      pushed = l.invariant.pushed ∙ ap (λ (k : ℕ). record c.args.held.now { memory = c.args.held.now.memory ++ take (k - c.args.first) (drop c.args.first c.args.frames.now) }) (sym l.invariant.place);
    }

pub returns-clause-cause : goal.returns-clause-cause
returns-clause-cause g c = inl refl
