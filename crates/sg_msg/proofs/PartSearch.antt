-- What a binary search by the names of pairs finds.
use Rattle.std.proofs.Common.{◌≡◌, ℕ, ◌≤◌, Some, slice_get, ◌<◌, ◌+◌, refl, sym, ap, subst, ◌∙◌, List, length, get_or, Result, Ok, Err, IfOk, IfErr, arith}
use Rattle.std.specs.declared.cmp.Ordering.{Ordering}
use Rattle.std.specs.declared.cmp.Ordering.TheVariants.{Less, Equal, Greater}
use Rattle.std.specs.Ordering.{ordering_index}
use Rattle.std.specs.List.{AllWithin}
use Rattle.std.specs.List.Sorted.{IsSearchInRange, IsBinarySearchResult, IsNonDecreasingBy}
use Rattle.std.proofs.lemmas.List.{length-map, get_or-map}
use Rattle.sg_msg.specs.Message.{NameValue, byte_order, IsAscending}
use Rattle.sg_msg.specs.Places.{IsPairAt, IsGapFor}
use Rattle.sg_msg.specs.Parts.{name_in, pair_in, pairs_in}
use Rattle.sg_msg.specs.declared.pair.Name.TheVariants.{Host}
use Rattle.sg_msg.specs.declared.pair.Text.TheVariants.{Own}
use Rattle.sg_msg.specs.declared.pair.Pair.{Pair}
use Rattle.sg_msg.proofs.ByteOrder.{same-from_equal}
use Rattle.sg_msg.proofs.PartChanges.{said-at}
use Rattle.sg_msg.proofs.PairSearch.{comparisons_rise, pair-here, gap-here, greater-on}

module _ (item : List ℕ) (own : List (List ℕ)) (name : List ℕ) where
  abbrev says : Pair → NameValue
  says = pair_in item own

  abbrev pub by_name : Pair → Ordering
  by_name pair = byte_order (name_in own pair.name) name

  some : Pair
  some = record { name = Host; value = Own 0 }

  rise : (pairs : List Pair) → IsAscending (pairs_in item own pairs) → IsNonDecreasingBy (λ pair. ordering_index (by_name pair)) pairs
  rise pairs up i j d le lt =
      let within : j < length (pairs_in item own pairs) = omega (arith, length-map pairs says, lt) in
      let low = get_or-map says pairs i d (says d) (omega (arith, le, lt)) in
      let high = get_or-map says pairs j d (says d) lt in
      let rises = comparisons_rise name (pairs_in item own pairs) up i j (says d) le within in
      rw (low, high) at rises

  pub searched-in : (pairs : List Pair) → IsAscending (pairs_in item own pairs) → (r : Result ℕ ℕ) → IsSearchInRange r (length pairs) → IsBinarySearchResult by_name pairs r → record { found : IfOk r (IsPairAt (pairs_in item own pairs) name); absent : IfErr r (IsGapFor (pairs_in item own pairs) name) }
  searched-in pairs up (Ok place) in_range equal = record {
    found = record {
      in_range = omega (arith, length-map pairs says, in_range);
      has_name = λ d. rw (get_or-map says pairs place some d in_range) (same-from_equal (name_in own (get_or pairs place some).name) name (equal some));
    };
    absent = tt;
  }
  searched-in pairs up (Err place) in_range parted =
      let parts = parted (rise pairs up) in
      record {
        found = tt;
        absent = record {
          in_range = omega (arith, length-map pairs says, in_range);
          smaller = λ k d low below. rw (get_or-map says pairs k some d (omega (arith, in_range, below))) (parts.0 k some low below);
          greater = λ k d from below. rw (get_or-map says pairs k some d (omega (arith, length-map pairs says, below))) (parts.1 k some from (omega (arith, length-map pairs says, below)));
        };
      }

-- what the name at a place says of the place of another
module _ (item : List ℕ) (own : List (List ℕ)) (name : List ℕ) (pairs : List Pair) (place : ℕ) (pair : Pair) (lt : place < length pairs) (is : pair ≡ get_or pairs place pair) where
  abbrev text : NameValue
  text = pair_in item own pair

  abbrev texts : List NameValue
  texts = pairs_in item own pairs

  count : length texts ≡ length pairs
  count = length-map pairs (pair_in item own)

  within : place < length texts
  within = omega (arith, count, lt)

  pub text-is : text ≡ get_or texts place text
  text-is = ap (pair_in item own) is ∙ sym (get_or-map (pair_in item own) pairs place pair text lt)

  pub part-here : byte_order (name_in own pair.name) name ≡ Equal → IsPairAt texts name place
  part-here equal = pair-here name texts place text (name_in own pair.name) within text-is refl equal

  module _ (end : ℕ) (next : end ≡ place + 1) (greater : AllWithin (λ pair. byte_order pair.name name ≡ Greater) texts end (length pairs)) where
    all : AllWithin (λ pair. byte_order pair.name name ≡ Greater) texts end (length texts)
    all = subst (λ n. AllWithin (λ pair. byte_order pair.name name ≡ Greater) texts end n) (sym count) greater

    pub part-gap : IsAscending texts → byte_order (name_in own pair.name) name ≡ Less → IsGapFor texts name end
    part-gap up less = gap-here name texts place end text (name_in own pair.name) up within next all text-is refl less

    pub part-greater : byte_order (name_in own pair.name) name ≡ Greater → AllWithin (λ pair. byte_order pair.name name ≡ Greater) texts place (length pairs)
    part-greater over =
        subst (λ n. AllWithin (λ pair. byte_order pair.name name ≡ Greater) texts place n) count
        (greater-on name texts place end text (name_in own pair.name) within next all text-is refl over)

least : (o : Ordering) → ordering_index o ≤ ordering_index Less → o ≡ Less
least Less low = refl
least Equal low = absurd (omega (arith, low))
least Greater low = absurd (omega (arith, low))

most : (o : Ordering) → ordering_index Greater ≤ ordering_index o → o ≡ Greater
most Less high = absurd (omega (arith, high))
most Equal high = absurd (omega (arith, high))
most Greater high = refl

-- a name goes between a smaller one and the next, which is greater
module _ (item : List ℕ) (own : List (List ℕ)) (name : List ℕ) (pairs : List Pair) (place : ℕ) (pair next : Pair) (lt : place + 1 < length pairs) (pair-is : slice_get pairs place ≡ Some pair) (next-is : slice_get pairs (place + 1) ≡ Some next) (less : byte_order (name_in own pair.name) name ≡ Less) (over : byte_order (name_in own next.name) name ≡ Greater) where
  abbrev all_texts : List NameValue
  all_texts = pairs_in item own pairs

  how_many : length all_texts ≡ length pairs
  how_many = length-map pairs (pair_in item own)

  at-less : (d : NameValue) → byte_order (get_or all_texts place d).name name ≡ Less
  at-less d = rw (said-at item own pairs place pair d pair-is) less

  at-over : (d : NameValue) → byte_order (get_or all_texts (place + 1) d).name name ≡ Greater
  at-over d = rw (said-at item own pairs (place + 1) next d next-is) over

  pub gap-between : IsAscending all_texts → IsGapFor all_texts name (place + 1)
  gap-between up = record {
    in_range = omega (arith, lt, how_many);
    smaller = λ k d low below.
        least (byte_order (get_or all_texts k d).name name)
        (subst (λ (o : Ordering). ordering_index (byte_order (get_or all_texts k d).name name) ≤ ordering_index o) (at-less d)
        (comparisons_rise name all_texts up k place d (omega (arith, below)) (omega (arith, lt, how_many))));
    greater = λ k d from below.
        most (byte_order (get_or all_texts k d).name name)
        (subst (λ (o : Ordering). ordering_index o ≤ ordering_index (byte_order (get_or all_texts k d).name name)) (at-over d)
        (comparisons_rise name all_texts up (place + 1) k d from below));
  }
