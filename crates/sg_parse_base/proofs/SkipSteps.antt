-- Turns of passing over balanced tokens.
use Rattle.std.proofs.Common.{◌≡◌, ℕ, ◌+◌, ◌-◌, ◌<◌, Bool, true, false, List, [], ◌∷◌, reverse, Some, Ok, Err, refl, sym, ap, ◌∙◌}
use Rattle.std.proofs.lemmas.List.{reverse-reverse}
use Rattle.sg_lex.specs.declared.fault.ConfigKind.TheVariants.{Unexpected}
use Rattle.sg_parse_base.specs.declared.spot.Spot.{Spot}
use Rattle.sg_parse_base.specs.declared.skip.BracketEffect.{BracketEffect}
use Rattle.sg_parse_base.specs.Input.{ParseOutcome, behind, fault_at}
use Rattle.sg_parse_base.specs.Skipping.{next_bracket, open_behind, skipped_behind, skipped_from, AreBracketsBehind}
use Rattle.sg_parse_base.proofs.Turns.{one_more}

turn : {x : ParseOutcome (Unit {0})} (turns at : ℕ) (open_ones : List ℕ) (spots : List Spot) (b : BracketEffect) → x ≡ skipped_from (turns - at) open_ones spots → at < turns → b ≡ next_bracket spots
    → x ≡ skipped_behind (open_behind b open_ones) (λ later. skipped_from (turns - (at + 1)) later (behind spots)) spots
unfolding skipped_from
turn turns at open_ones spots b e below is = rw is (one_more (λ n. skipped_from n open_ones spots) turns at below e)

pub refused : {x : ParseOutcome (Unit {0})} (turns at : ℕ) (open_ones new : List ℕ) (spots : List Spot) (b : BracketEffect) (passes : Bool) → x ≡ skipped_from (turns - at) open_ones spots → at < turns → b ≡ next_bracket spots
    → AreBracketsBehind (open_behind b open_ones) new passes → passes ≡ false → x ≡ Err (fault_at Unexpected spots)
refused turns at open_ones new spots b true e below is passed h = absurd cc
refused turns at open_ones new spots b false e below is passed h = rw passed at (turn turns at open_ones spots b e below is)

pub finished : {x : ParseOutcome (Unit {0})} (turns at : ℕ) (open_ones new : List ℕ) (spots : List Spot) (b : BracketEffect) (passes : Bool) → x ≡ skipped_from (turns - at) open_ones spots → at < turns → b ≡ next_bracket spots
    → AreBracketsBehind (open_behind b open_ones) new passes → passes ≡ true → new ≡ [] → x ≡ Ok (tt, behind spots)
finished turns at open_ones new spots b false e below is passed h none = absurd cc
finished turns at open_ones new spots b true e below is passed h none =
    let done : open_behind b open_ones ≡ Some [] = passed ∙ ap (λ (l : List ℕ). Some l) none in
    rw done at (turn turns at open_ones spots b e below is)

pub goes_on : {x : ParseOutcome (Unit {0})} (turns at : ℕ) (open_ones new : List ℕ) (spots : List Spot) (b : BracketEffect) (passes : Bool) → x ≡ skipped_from (turns - at) open_ones spots → at < turns → b ≡ next_bracket spots
    → AreBracketsBehind (open_behind b open_ones) new passes → passes ≡ true → (new ≡ [] → ⊥) → x ≡ skipped_from (turns - (at + 1)) new (behind spots)
goes_on turns at open_ones new spots b false e below is passed h some = absurd cc
goes_on turns at open_ones [] spots b true e below is passed h some = absurd (some refl)
goes_on turns at open_ones (c ∷ new) spots b true e below is passed h some = rw passed at (turn turns at open_ones spots b e below is)

pub nothing_reversed : (xs : List ℕ) → reverse xs ≡ [] → xs ≡ []
nothing_reversed xs e = sym (reverse-reverse xs) ∙ ap reverse e
