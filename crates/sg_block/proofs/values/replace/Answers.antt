use Rattle.std.proofs.Common.{◌≡◌, ◌≢◌, ◌<◌, ◌+◌, ℕ, List, [], ◌∷◌, ◌++◌, Option, Some, None, take, drop, length, get_or, ap, sym, ◌∙◌, subst, arith}
use Rattle.sg_lex.specs.declared.token.Token.{Token}
use Rattle.sg_block.specs.declared.values.Replaced.TheVariants.{Unknown}
use Rattle.sg_block.specs.Values.{IsCapped, IsReplaced, variable_length, replaced, reached, joined}
use Rattle.sg_block.proofs.Replacing.{FrontTokens, slice-one, slice-name, replaced-byte, replaced-variable, behind-some, behind-none}
use Rattle.sg_block.proofs.values.replace.Goals as goal

pub loop-place-preserved-then-count-eq0 : goal.loop-place-preserved-then-count-eq0
loop-place-preserved-then-count-eq0 c =
    let text = c.args.text.now in
    let place = c.loop-place.place in
    let made : List ℕ = c.loop-place.invariant.1.0 in
    let within : place < length text = c.loop-place-test.true in
    let none : variable_length (drop place text) ≡ 0 = sym c.variable_at-count.ensures.value ∙ c.if-count-eq0.true in (
      omega arith,
      (
        made ++ get_or text place 0 ∷ [],
        (
          subst (λ (ys : List ℕ). IsCapped c.args.room ys c.push_capped.new.whole.items) (ap (λ (b : List ℕ). made ++ b) (slice-one text place within)) (c.in_ok-push_capped.ensures made c.loop-place.invariant.1.1.0),
          c.loop-place.invariant.1.1.1 ∙ replaced-byte c.args.scope.now c.args.variables.now made text place within none,
        ),
      ),
    )

pub returns-in-None : goal.returns-in-None
returns-in-None c =
    let text = c.args.text.now in
    let place = c.loop-place.place in
    let count = c.variable_at-count.result in
    let scope = c.args.scope.now in
    let variables = c.args.variables.now in
    let made : List ℕ = c.loop-place.invariant.1.0 in
    let within : place < length text = c.loop-place-test.true in
    let nonzero : count ≢ 0 = c.if-count-eq0.false in
    let some : 0 < count = omega arith in
    let gone : reached scope variables (take count (drop (place + 1) text)) ≡ None = sym (ap (reached scope variables) (slice-name text place count)) ∙ sym c.in-None.ensures in
    let ends : replaced scope variables 0 text ≡ None =
    c.loop-place.invariant.1.1.1
    ∙ ap (FrontTokens made) (replaced-variable scope variables text place count within some (sym c.variable_at-count.ensures.value))
    ∙ behind-none made (reached scope variables (take count (drop (place + 1) text))) (replaced scope variables 0 (drop (place + count + 2) text)) gone in
    subst (λ (o : Option (List ℕ)). IsReplaced c.args.room o Unknown) (sym ends) tt

pub loop-place-preserved : goal.loop-place-preserved
loop-place-preserved c =
    let text = c.args.text.now in
    let place = c.loop-place.place in
    let count = c.variable_at-count.result in
    let scope = c.args.scope.now in
    let variables = c.args.variables.now in
    let made : List ℕ = c.loop-place.invariant.1.0 in
    let value : List Token = c.in-Some.value.now in
    let within : place < length text = c.loop-place-test.true in
    let nonzero : count ≢ 0 = c.if-count-eq0.false in
    let some : 0 < count = omega arith in
    let next : place + count + 2 ≡ place + (count + 2) = omega arith in
    let found : reached scope variables (take count (drop (place + 1) text)) ≡ Some value = sym (ap (reached scope variables) (slice-name text place count)) ∙ sym c.in-Some.ensures in
    let same : replaced scope variables 0 text ≡ FrontTokens (made ++ joined value) (replaced scope variables 0 (drop (place + (count + 2)) text)) =
    c.loop-place.invariant.1.1.1
    ∙ ap (FrontTokens made) (replaced-variable scope variables text place count within some (sym c.variable_at-count.ensures.value))
    ∙ behind-some made value (reached scope variables (take count (drop (place + 1) text))) (replaced scope variables 0 (drop (place + count + 2) text)) found
    ∙ ap (λ n. FrontTokens (made ++ joined value) (replaced scope variables 0 (drop n text))) next in (
      omega (arith, c.variable_at-count.ensures.bound),
      (
        made ++ joined value,
        (subst (λ (ys : List Token). IsCapped c.args.room (made ++ joined ys) c.push_joined.new.whole.items) c.as_slice.ensures (c.in_ok-push_joined-in-Some.ensures made c.loop-place.invariant.1.1.0), same),
      ),
    )
