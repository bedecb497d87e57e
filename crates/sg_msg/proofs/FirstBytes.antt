-- What the names of macros begin with.
use Rattle.std.proofs.Common.{◌≡◌, ℕ, Bool, true, false, ◌&&◌, List, [], ◌∷◌, ◌++◌, map, Some, None, slice_get, bytes_eq, nat_eq, codes, eqb-true, true≢false, refl, sym, ap, subst, ◌∙◌}
use Rattle.std.specs.List.{list_any}
use Rattle.sg_msg.specs.Macros.{is_hard, date_macros, other_macros}

abbrev first_bytes : List ℕ
first_bytes = codes "DFHILMPRSTUY_"

abbrev is_among : List ℕ → ℕ → Bool
is_among bytes b = list_any (λ c. nat_eq c b) bytes

-- each name begins with one of the bytes
abbrev begin_with : List ℕ → List (List ℕ) → Bool
begin_with bytes [] = true
begin_with bytes ([] ∷ names) = false
begin_with bytes ((first ∷ rest) ∷ names) = is_among bytes first && begin_with bytes names

and-first : (a b : Bool) → (a && b) ≡ true → a ≡ true
and-first true b e = refl
and-first false b e = absurd (cc)

and-second : (a b : Bool) → (a && b) ≡ true → b ≡ true
and-second true b e = e
and-second false b e = absurd (cc)

differs : (bytes : List ℕ) (b first : ℕ) → is_among bytes b ≡ false → is_among bytes first ≡ true → nat_eq first b ≡ false
differs bytes b first out among = by (nat_eq first b) refl
  where
    by : (t : Bool) → nat_eq first b ≡ t → nat_eq first b ≡ false
    by true is = absurd (true≢false (sym among ∙ ap (is_among bytes) (eqb-true first b is) ∙ out))
    by false is = is

none-listed : (bytes : List ℕ) (names : List (List ℕ)) (b : ℕ) (more : List ℕ) → begin_with bytes names ≡ true → is_among bytes b ≡ false → list_any (λ listed. bytes_eq listed (b ∷ more)) names ≡ false
none-listed bytes [] b more all out = refl
none-listed bytes ([] ∷ names) b more all out = absurd (cc)
none-listed bytes ((first ∷ rest) ∷ names) b more all out =
    let here = and-first (is_among bytes first) (begin_with bytes names) all in
    let others = and-second (is_among bytes first) (begin_with bytes names) all in
    rw (differs bytes b first out here, none-listed bytes names b more others out) refl

not_hard : (b : ℕ) (more : List ℕ) → is_among first_bytes b ≡ false → is_hard (b ∷ more) ≡ false
unfolding is_hard date_macros other_macros
not_hard b more out =
    rw (
      none-listed first_bytes other_macros b more refl out,
      none-listed first_bytes date_macros b more refl out,
      none-listed first_bytes (map (λ date. codes "S_" ++ date) date_macros) b more refl out,
      none-listed first_bytes (map (λ date. codes "R_" ++ date) date_macros) b more refl out,
    ) refl

pub hard-none : (name : List ℕ) → None ≡ slice_get name 0 → is_hard name ≡ false
unfolding is_hard date_macros other_macros
hard-none [] e = refl
hard-none (first ∷ more) e = absurd (cc)

pub hard-first : (name : List ℕ) (b : ℕ) → Some b ≡ slice_get name 0 → is_among first_bytes b ≡ false → is_hard name ≡ false
hard-first [] b e out = absurd (cc)
hard-first (first ∷ more) b e out =
    let same : b ≡ first = cc in
    not_hard first more (subst (λ (x : ℕ). is_among first_bytes x ≡ false) same out)
