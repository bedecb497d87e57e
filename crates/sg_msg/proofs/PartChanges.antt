-- What a change of the pairs by their places does to what they say.
use Rattle.std.proofs.Common.{◌≡◌, ◌<◌, ℕ, suc, List, [], ◌∷◌, ◌++◌, length, map, take, drop, get_or, set, insert, remove, Some, true, false, bytes_eq, ◌+◌, Result, Ok, Err, OnErr, slice_get, add-one, drop-cons, refl, sym, ap, subst, ◌∙◌, arith}
use Rattle.std.specs.List.{All}
use Rattle.std.proofs.lemmas.List.{map-set, map-append, take-map, drop-map, get_or-map, take_more}
use Rattle.std.proofs.lemmas.List.Elements.{All-set, All-append, All-take, All-drop}
use Rattle.std.proofs.lemmas.Option.{get_or_from_slice_get, slice_get_within}
use Rattle.sg_msg.specs.Message.{NameValue, value_of, with_pair, with_all, HaveNames}
use Rattle.sg_msg.specs.Sorting.{put_last, put_each}
use Rattle.sg_msg.specs.Parts.{name_in, value_in, pair_in, pairs_in, IsTextIn, IsPairIn, AreIn, Extends, KeepsText, KeepsName}
use Rattle.sg_msg.specs.declared.pair.Name.{Name}
use Rattle.sg_msg.specs.declared.pair.Text.{Text}
use Rattle.sg_msg.specs.declared.pair.Text.TheVariants.{Own}
use Rattle.sg_msg.specs.declared.pair.Pair.{Pair}
use Rattle.sg_msg.proofs.TextLemmas.{pairs-stay, pairs-there, name-keeps, name-keeps-there, extends-text, extends-two, kept-text, kept-within, all-with}
use Rattle.sg_msg.proofs.ManyPairs.{with_all-append}

pub map-insert : {A B : Type 0} (f : A → B) (xs : List A) (i : ℕ) (x : A) → map f (insert xs i x) ≡ insert (map f xs) i (f x)
map-insert {A} {B} f xs i x =
    map-append f (take i xs) (x ∷ drop i xs)
    ∙ ap (λ (l : List B). l ++ f x ∷ map f (drop i xs)) (sym (take-map f i xs))
    ∙ ap (λ (l : List B). take i (map f xs) ++ f x ∷ l) (sym (drop-map f i xs))

pub map-remove : {A B : Type 0} (f : A → B) (xs : List A) (i : ℕ) → map f (remove xs i) ≡ remove (map f xs) i
map-remove {A} {B} f xs i =
    map-append f (take i xs) (drop (suc i) xs)
    ∙ ap (λ (l : List B). l ++ map f (drop (suc i) xs)) (sym (take-map f i xs))
    ∙ ap (λ (l : List B). take i (map f xs) ++ l) (sym (drop-map f (suc i) xs))

pub all-insert : {X : Type 0} (P : X → Type 0) (xs : List X) (i : ℕ) (x : X) → P x → All P xs → All P (insert xs i x)
all-insert P xs i x holds all = All-append P (take i xs) (x ∷ drop i xs) (All-take P i xs all) (all-with P x (drop i xs) holds (All-drop P i xs all))

pub all-remove : {X : Type 0} (P : X → Type 0) (xs : List X) (i : ℕ) → All P xs → All P (remove xs i)
all-remove P xs i all = All-append P (take i xs) (drop (suc i) xs) (All-take P i xs all) (All-drop P (suc i) xs all)

each-last : (pairs : List NameValue) (last : NameValue) (kept : List NameValue) → put_each (pairs ++ last ∷ []) kept ≡ put_last last (put_each pairs kept)
each-last [] last kept = refl
each-last (pair ∷ pairs) last kept = each-last pairs last (put_last pair kept)

-- a pair is given a value of the message's own
module _ (item : List ℕ) (old new : List (List ℕ)) (pairs : List Pair) (place k : ℕ) (value : List ℕ) (pair : Pair) (all : AreIn old pairs) (kept : KeepsText old new k value) (is : slice_get pairs place ≡ Some pair) where
  abbrev put_value : Pair
  put_value = record { name = pair.name; value = Own k }

  there : IsPairIn old pair
  there = subst (IsPairIn old) (get_or_from_slice_get pairs place pair pair is) (all place pair (slice_get_within pairs place pair is))

  name-same : (d : NameValue) → name_in new pair.name ≡ (get_or (pairs_in item old pairs) place d).name
  name-same d =
      name-keeps old new pair.name (extends-text old new k value kept) there.name
      ∙ ap (λ (p : Pair). name_in old p.name) (sym (get_or_from_slice_get pairs place pair pair is))
      ∙ ap (λ (p : NameValue). p.name) (sym (get_or-map (pair_in item old) pairs place pair d (slice_get_within pairs place pair is)))

  pair-same : (d : NameValue) → pair_in item new put_value ≡ record { name = (get_or (pairs_in item old pairs) place d).name; value = value }
  pair-same d =
      ap (λ (n : List ℕ). record { name = n; value = value_in item new (Own k) }) (name-same d)
      ∙ ap (λ (v : List ℕ). record { name = (get_or (pairs_in item old pairs) place d).name; value = v }) (kept-text old new k value kept)

  pub replaced : (d : NameValue) → pairs_in item new (set pairs place put_value) ≡ set (pairs_in item old pairs) place (record { name = (get_or (pairs_in item old pairs) place d).name; value = value })
  replaced d =
      map-set (pair_in item new) pairs place put_value
      ∙ ap (λ (ps : List NameValue). set ps place (pair_in item new put_value)) (pairs-stay item old new pairs (extends-text old new k value kept) all)
      ∙ ap (λ (p : NameValue). set (pairs_in item old pairs) place p) (pair-same d)

  pub replaced-within : AreIn new (set pairs place put_value)
  replaced-within =
      All-set (IsPairIn new) pairs place put_value
      (record { name = name-keeps-there old new pair.name (extends-text old new k value kept) there.name; value = kept-within old new k value kept })
      (pairs-there old new pairs (extends-text old new k value kept) all)

-- a name that was kept, and a value that was kept then
module _ (item : List ℕ) (old middle new : List (List ℕ)) (pairs : List Pair) (name value : List ℕ) (n : Name) (v : Text) (all : AreIn old pairs) (named : KeepsName old middle n name) (later : Extends middle new) (held : IsTextIn new v) (said : value_in item new v ≡ value) where
  abbrev put_pair : Pair
  put_pair = record { name = n; value = v }

  extends : Extends old new
  extends = extends-two old middle new named.stays later

  pair-is : pair_in item new put_pair ≡ record { name = name; value = value }
  pair-is =
      ap (λ (t : List ℕ). record { name = t; value = value_in item new v }) (name-keeps middle new n later named.there ∙ named.says)
      ∙ ap (λ (t : List ℕ). record { name = name; value = t }) said

  pair-there : IsPairIn new put_pair
  pair-there = record { name = name-keeps-there middle new n later named.there; value = held }

  pub inserted : (place : ℕ) → pairs_in item new (insert pairs place put_pair) ≡ insert (pairs_in item old pairs) place (record { name = name; value = value })
  inserted place =
      map-insert (pair_in item new) pairs place put_pair
      ∙ ap (λ (ps : List NameValue). insert ps place (pair_in item new put_pair)) (pairs-stay item old new pairs extends all)
      ∙ ap (λ (p : NameValue). insert (pairs_in item old pairs) place p) pair-is

  pub inserted-within : (place : ℕ) → AreIn new (insert pairs place put_pair)
  inserted-within place = all-insert (IsPairIn new) pairs place put_pair pair-there (pairs-there old new pairs extends all)

  pub pushed : pairs_in item new (pairs ++ put_pair ∷ []) ≡ pairs_in item old pairs ++ (record { name = name; value = value }) ∷ []
  pushed =
      map-append (pair_in item new) pairs (put_pair ∷ [])
      ∙ ap (λ (ps : List NameValue). ps ++ pair_in item new put_pair ∷ []) (pairs-stay item old new pairs extends all)
      ∙ ap (λ (p : NameValue). pairs_in item old pairs ++ p ∷ []) pair-is

  pub pushed-within : AreIn new (pairs ++ put_pair ∷ [])
  pushed-within = All-append (IsPairIn new) pairs (put_pair ∷ []) (pairs-there old new pairs extends all) (all-with (IsPairIn new) put_pair [] pair-there (λ k d lt. absurd (omega (arith, lt))))

pub names-stay : (item : List ℕ) (old new : List (List ℕ)) (pairs : List Pair) → Extends old new → AreIn old pairs → HaveNames (pairs_in item old pairs) → HaveNames (pairs_in item new pairs)
names-stay item old new pairs extends all names = subst HaveNames (sym (pairs-stay item old new pairs extends all)) names

-- what a refusal leaves
pub on-err : {T E P : Type 0} (r : Result T E) → P → OnErr r P
on-err (Ok x) p = tt
on-err (Err e) p = p

-- the pair at a place
pub said-at : (item : List ℕ) (own : List (List ℕ)) (pairs : List Pair) (place : ℕ) (pair : Pair) (d : NameValue) → slice_get pairs place ≡ Some pair → get_or (pairs_in item own pairs) place d ≡ pair_in item own pair
said-at item own pairs place pair d is =
    get_or-map (pair_in item own) pairs place pair d (slice_get_within pairs place pair is)
    ∙ ap (pair_in item own) (get_or_from_slice_get pairs place pair pair is)

-- one pair on in a walk that looks for a name
module _ (item : List ℕ) (own : List (List ℕ)) (name : List ℕ) (pairs : List Pair) (i : ℕ) (d : Pair) (lt : i < length pairs) where
  pub value-here : bytes_eq (name_in own (get_or pairs i d).name) name ≡ true → value_of name (pairs_in item own (drop i pairs)) ≡ Some (value_in item own (get_or pairs i d).value)
  value-here test = rw (drop-cons pairs i d lt, test) refl

  pub value-later : bytes_eq (name_in own (get_or pairs i d).name) name ≡ false → value_of name (pairs_in item own (drop i pairs)) ≡ value_of name (pairs_in item own (drop (i + 1) pairs))
  value-later test = rw (add-one, drop-cons pairs i d lt, test) refl

  more : take (i + 1) pairs ≡ take i pairs ++ get_or pairs i d ∷ []
  more = take_more pairs i d lt

  pub all-step : with_all (pairs_in item own (take (i + 1) pairs)) [] ≡ with_pair (name_in own (get_or pairs i d).name) (value_in item own (get_or pairs i d).value) (with_all (pairs_in item own (take i pairs)) [])
  all-step =
      ap (λ (ps : List Pair). with_all (pairs_in item own ps) []) more
      ∙ ap (λ (ps : List NameValue). with_all ps []) (map-append (pair_in item own) (take i pairs) (get_or pairs i d ∷ []))
      ∙ with_all-append (pairs_in item own (take i pairs)) (pair_in item own (get_or pairs i d) ∷ []) []

  pub each-step : put_each (pairs_in item own (take (i + 1) pairs)) [] ≡ put_last (pair_in item own (get_or pairs i d)) (put_each (pairs_in item own (take i pairs)) [])
  each-step =
      ap (λ (ps : List Pair). put_each (pairs_in item own ps) []) more
      ∙ ap (λ (ps : List NameValue). put_each ps []) (map-append (pair_in item own) (take i pairs) (get_or pairs i d ∷ []))
      ∙ each-last (pairs_in item own (take i pairs)) (pair_in item own (get_or pairs i d)) []
