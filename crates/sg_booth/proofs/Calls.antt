-- The calls at the places of a desk.
use Rattle.std.proofs.Common.{◌≡◌, ℕ, zero, suc, ◌+◌, ◌≤◌, ◌<◌, List, [], ◌∷◌, ◌++◌, length, slice_get, Some, sym, refl, ap, ◌∙◌, arith, append_assoc}
use Rattle.std.specs.Option.{option_to_list}
use Rattle.sg_booth.specs.Lists.{Rises, AllRise, joined_up, entries_at}

module _ {E : Type 0} where
  get-more : (xs ys : List E) (p : ℕ) → p < length xs → slice_get (xs ++ ys) p ≡ slice_get xs p
  get-more [] ys p h = absurd (omega arith)
  get-more (x ∷ xs) ys zero h = refl
  get-more (x ∷ xs) ys (suc p) h = get-more xs ys p (omega arith)

  get-last : (xs : List E) (x : E) → slice_get (xs ++ x ∷ []) (length xs) ≡ Some x
  get-last [] x = refl
  get-last (y ∷ xs) x = get-last xs x

pub rises-le : (low : ℕ) (ps : List ℕ) (high : ℕ) → Rises low ps high → low ≤ high
rises-le low [] high r = r
rises-le low (p ∷ ps) high r = let a = rises-le (p + 1) ps high r.1 in let b = r.0 in omega arith

module _ {E : Type 0} where
  pub entries-more : (xs ys : List E) (low : ℕ) (ps : List ℕ) → Rises low ps (length xs) → entries_at (xs ++ ys) ps ≡ entries_at xs ps
  entries-more xs ys low [] r = refl
  entries-more xs ys low (p ∷ ps) r = let a = rises-le (p + 1) ps (length xs) r.1 in
      λ i. option_to_list (get-more xs ys p (omega arith) i) ++ entries-more xs ys (p + 1) ps r.1 i

  entries-append : (xs : List E) (ps qs : List ℕ) → entries_at xs (ps ++ qs) ≡ entries_at xs ps ++ entries_at xs qs
  entries-append xs [] qs = refl
  entries-append xs (p ∷ ps) qs = ap (λ es. option_to_list (slice_get xs p) ++ es) (entries-append xs ps qs) ∙ sym (append_assoc (option_to_list (slice_get xs p)) (entries_at xs ps) (entries_at xs qs))

  entries-joined : (xs ys : List E) (js : List (List ℕ)) → AllRise js (length xs) → entries_at (xs ++ ys) (joined_up js) ≡ entries_at xs (joined_up js)
  entries-joined xs ys [] r = refl
  entries-joined xs ys (ps ∷ js) r =
      entries-append (xs ++ ys) ps (joined_up js)
      ∙ (λ i. entries-more xs ys 0 ps r.0 i ++ entries-joined xs ys js r.1 i)
      ∙ sym (entries-append xs ps (joined_up js))

  -- the calls at all places
  pub entries-placed : (xs ys : List E) (own : List ℕ) (js : List (List ℕ)) → Rises 0 own (length xs) → AllRise js (length xs)
      → entries_at (xs ++ ys) (own ++ joined_up js) ≡ entries_at xs (own ++ joined_up js)
  entries-placed xs ys own js r rs =
      entries-append (xs ++ ys) own (joined_up js)
      ∙ (λ i. entries-more xs ys 0 own r i ++ entries-joined xs ys js rs i)
      ∙ sym (entries-append xs own (joined_up js))

  -- one more call at the end
  pub entries-turned : (seen more : List E) (e : E) (own : List ℕ) → Rises 0 own (length seen)
      → entries_at ((seen ++ more) ++ e ∷ []) (own ++ length (seen ++ more) ∷ []) ≡ entries_at seen own ++ e ∷ []
  entries-turned seen more e own r =
      let all = (seen ++ more) ++ e ∷ [] in
      let same : all ≡ seen ++ (more ++ e ∷ []) = append_assoc seen more (e ∷ []) in
      entries-append all own (length (seen ++ more) ∷ [])
      ∙ (λ i. (ap (λ h. entries_at h own) same ∙ entries-more seen (more ++ e ∷ []) 0 own r) i ++ (option_to_list (get-last (seen ++ more) e i) ++ []))
