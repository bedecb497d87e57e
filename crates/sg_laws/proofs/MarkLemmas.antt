-- How far the records of an inlet are acknowledged, and whether that is stored.
use Rattle.std.proofs.Common.{◌≡◌, ℕ, ◌+◌, ◌≤◌, ◌<◌, List, [], ◌∷◌, ◌++◌, length, Bool, true, false, not, refl, sym, ap, ◌∙◌, arith, suc, zero, inl, inr, if◌then◌else◌}
use Rattle.std.specs.Prelude.{◌==◌}
use Rattle.std.proofs.lemmas.Bool.{cases_eq}
use Rattle.sg_machine.specs.declared.state.Dest.{Dest}
use Rattle.sg_machine.specs.declared.state.InletRecords.{InletRecords}
use Rattle.sg_machine.specs.Marks.{is_acked, outstanding, mark, mark_of}
use Rattle.sg_machine.proofs.WindowLaws.{outstanding-fewer}
use Rattle.sg_actor.specs.Reading.{one_if}
use Rattle.sg_turns.proofs.BoundLemmas.{one-most}

-- as many records are outstanding where the same are acknowledged
pub outstanding-same : (ds fs : List Dest) (i n : ℕ) (ends : List ℕ) → ((k : ℕ) → is_acked ds i k ≡ true → is_acked fs i k ≡ true) → ((k : ℕ) → is_acked fs i k ≡ true → is_acked ds i k ≡ true)
    → outstanding fs i n ends ≡ outstanding ds i n ends
outstanding-same ds fs i n ends forth back =
    let fewer = outstanding-fewer ds fs i n ends forth in
    let more = outstanding-fewer fs ds i n ends back in
    omega (arith, fewer, more)

-- how many stand in the longest prefix of acknowledged ones
abbrev pub acked_from : List Dest → ℕ → ℕ → List ℕ → ℕ
acked_from ds i n [] = 0
acked_from ds i n (end ∷ ends) = if is_acked ds i n then suc (acked_from ds i (n + 1) ends) else 0

-- the end of the last of so many
abbrev pub place_at : ℕ → ℕ → List ℕ → ℕ
place_at zero from ends = from
place_at (suc k) from [] = from
place_at (suc k) from (end ∷ ends) = place_at k end ends

acked-length-if : (b : Bool) (rest len : ℕ) → rest ≤ len → (if b then suc rest else 0) ≤ suc len
acked-length-if true rest len h = omega arith
acked-length-if false rest len h = omega arith

pub acked-length : (ds : List Dest) (i n : ℕ) (ends : List ℕ) → acked_from ds i n ends ≤ length ends
acked-length ds i n [] = omega arith
acked-length ds i n (end ∷ ends) = acked-length-if (is_acked ds i n) (acked_from ds i (n + 1) ends) (length ends) (acked-length ds i (n + 1) ends)

mark-if : (b : Bool) (from end rest marked : ℕ) (ends : List ℕ) → marked ≡ place_at rest end ends → (if b then marked else from) ≡ place_at (if b then suc rest else 0) from (end ∷ ends)
mark-if true from end rest marked ends h = h
mark-if false from end rest marked ends h = refl

mark-place : (ds : List Dest) (i n from : ℕ) (ends : List ℕ) → mark ds i n from ends ≡ place_at (acked_from ds i n ends) from ends
mark-place ds i n from [] = refl
mark-place ds i n from (end ∷ ends) = mark-if (is_acked ds i n) from end (acked_from ds i (n + 1) ends) (mark ds i (n + 1) end ends) ends (mark-place ds i (n + 1) end ends)

place-front : (k from : ℕ) (ends more : List ℕ) → k ≤ length ends → place_at k from (ends ++ more) ≡ place_at k from ends
place-front zero from ends more few = refl
place-front (suc k) from [] more few = absurd (let wrong : ⊥ = omega (arith, few) in wrong)
place-front (suc k) from (end ∷ ends) more few = place-front k end ends more (omega (arith, few))

acked-more-if : (a b : Bool) (old new : ℕ) → (a ≡ true → b ≡ true) → old ≤ new → (if a then suc old else 0) ≤ (if b then suc new else 0)
acked-more-if true true old new i h = omega (arith, h)
acked-more-if true false old new i h = let wrong : false ≡ true = i refl in cc
acked-more-if false true old new i h = omega arith
acked-more-if false false old new i h = omega arith

-- no fewer are where each of these that was acknowledged still is
pub acked-more : (ds fs : List Dest) (i n : ℕ) (ends more : List ℕ) → ((k : ℕ) → n ≤ k → k < n + length ends → is_acked ds i k ≡ true → is_acked fs i k ≡ true) → acked_from ds i n ends ≤ acked_from fs i n (ends ++ more)
acked-more ds fs i n [] more h = omega arith
acked-more ds fs i n (end ∷ ends) more h =
    acked-more-if (is_acked ds i n) (is_acked fs i n) (acked_from ds i (n + 1) ends) (acked_from fs i (n + 1) (ends ++ more)) (h n (omega arith) (omega arith))
    (acked-more ds fs i (n + 1) ends more (λ k l m a. h k (omega (arith, l)) (omega (arith, m)) a))

-- An inlet.

abbrev pub acked_of : List Dest → ℕ → InletRecords → ℕ
acked_of ds i inlet = acked_from ds i 0 inlet.ends

-- the mark isn't the stored position
abbrev pub unstored_of : List Dest → ℕ → InletRecords → ℕ
unstored_of ds i inlet = one_if (not (inlet.stored == mark_of ds i inlet))

-- where the stored position stays, the mark moves on only with a record that is acknowledged
unstored-by : (stored before now : ℕ) (acked acked' : ℕ) → acked ≤ acked' → (acked' ≡ acked → now ≡ before)
    → one_if (not (stored == now)) + acked ≤ one_if (not (stored == before)) + acked'
unstored-by stored before now acked acked' more same = elim (cases_eq acked' acked) [
  | inl e ↦ (let at : one_if (not (stored == now)) ≡ one_if (not (stored == before)) = ap (λ m. one_if (not (stored == m))) (same e) in omega (arith, at, more))
  | inr ne ↦ (let few = one-most (not (stored == now)) in omega (arith, few, more, ne))
]

pub unstored-more : (ds fs : List Dest) (i stored opening : ℕ) (ends more : List ℕ) → acked_from ds i 0 ends ≤ acked_from fs i 0 (ends ++ more)
    → one_if (not (stored == mark fs i 0 opening (ends ++ more))) + acked_from ds i 0 ends ≤ one_if (not (stored == mark ds i 0 opening ends)) + acked_from fs i 0 (ends ++ more)
unstored-more ds fs i stored opening ends more h =
    unstored-by stored (mark ds i 0 opening ends) (mark fs i 0 opening (ends ++ more)) (acked_from ds i 0 ends) (acked_from fs i 0 (ends ++ more)) h (λ e.
    mark-place fs i 0 opening (ends ++ more)
    ∙ ap (λ k. place_at k opening (ends ++ more)) e
    ∙ place-front (acked_from ds i 0 ends) opening ends more (acked-length ds i 0 ends)
    ∙ sym (mark-place ds i 0 opening ends))
