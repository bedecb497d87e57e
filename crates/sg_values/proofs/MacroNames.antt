-- No macro's name has more than 16 bytes.
use Rattle.std.proofs.Common.{◌≡◌, ℕ, ◌<◌, Bool, true, false, ◌&&◌, List, [], ◌∷◌, ◌++◌, map, length, bytes_eq, nat_eq, nat_le, codes, refl, arith}
use Rattle.std.specs.List.{list_any}
use Rattle.std.proofs.lemmas.Bool.{and_parts, leb-true}
use Rattle.sg_msg.specs.Macros.{is_hard, date_macros, other_macros}

and-false : (a b : Bool) → b ≡ false → (a && b) ≡ false
and-false true b e = e
and-false false b e = refl

shorter-differs : (listed name : List ℕ) → length listed < length name → bytes_eq listed name ≡ false
shorter-differs [] [] less = absurd (omega (arith, less))
shorter-differs [] (y ∷ name) less = refl
shorter-differs (x ∷ listed) [] less = absurd (omega (arith, less))
shorter-differs (x ∷ listed) (y ∷ name) less = and-false (nat_eq x y) (bytes_eq listed name) (shorter-differs listed name (omega (arith, less)))

abbrev are_short : List (List ℕ) → Bool
are_short [] = true
are_short (name ∷ names) = nat_le (length name) 16 && are_short names

none-listed : (names : List (List ℕ)) (name : List ℕ) → are_short names ≡ true → 16 < length name → list_any (λ listed. bytes_eq listed name) names ≡ false
none-listed [] name short long = refl
none-listed (listed ∷ names) name short long =
    let parts = and_parts (nat_le (length listed) 16) (are_short names) short in
    let less : length listed < length name = omega (arith, leb-true (length listed) 16 parts.0, long) in
    rw (shorter-differs listed name less, none-listed names name parts.1 long) refl

pub long-name : (name : List ℕ) → 16 < length name → is_hard name ≡ false
unfolding is_hard date_macros other_macros
long-name name long =
    rw (
      none-listed other_macros name refl long,
      none-listed date_macros name refl long,
      none-listed (map (λ date. codes "S_" ++ date) date_macros) name refl long,
      none-listed (map (λ date. codes "R_" ++ date) date_macros) name refl long,
    ) refl
