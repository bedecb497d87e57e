-- Reading tags and pairs one after the other.
use Rattle.std.proofs.Common.{◌≡◌, ℕ, suc, ◌-◌, ◌+◌, ◌≤◌, ◌<◌, Bool, true, false, List, [], ◌∷◌, ◌++◌, length, Option, Some, None, Result, Ok, Err, refl, sym, ap, subst, ◌∙◌, arith, slice_get, Bor}
use Rattle.std.specs.Option.{option_copied, is_some}
use Rattle.std.specs.Prelude.{not}
use Rattle.sg_list.proofs.ListLemmas.{slice_get-none}
use Rattle.sg_msg.specs.Build.{Build}
use Rattle.sg_msg.specs.Message.{NameValue, has_tag, with_tag, IsAscending}
use Rattle.sg_codec.specs.declared.refusal.DecodeStop.{DecodeStop}
use Rattle.sg_codec.specs.declared.refusal.DecodeStop.TheVariants.{Damaged, NoMemory}
use Rattle.sg_codec.specs.Answers.{StopsDecoding}
use Rattle.sg_codec.specs.Reading.{text_at, name_at, tags_at, pairs_at, may_follow, last_name}
use Rattle.sg_codec.proofs.FieldLaws.{may_follow-parts}
use Rattle.sg_codec.proofs.PairLemmas.{last_name-append, ascending-append}

-- tags

pub tags-stops : (stop : DecodeStop) (count i : ℕ) (before : List (List ℕ)) (bytes : List ℕ) (total : Result (List (List ℕ) × List ℕ) ℕ) → i < count → StopsDecoding stop (text_at bytes) → tags_at (count - i) before bytes ≡ total → StopsDecoding stop total
unfolding tags_at
tags-stops NoMemory count i before bytes total lt h so_far = tt
tags-stops (Damaged left) count i before bytes total lt h so_far =
    let k : count - i ≡ suc (count - (i + 1)) = omega arith in
    let one : tags_at (count - i) before bytes ≡ Err left = rw (k, h) refl in
    sym so_far ∙ one

-- a tag that was set before
pub tags-repeated : (count i : ℕ) (before : List (List ℕ)) (bytes tag rest : List ℕ) (total : Result (List (List ℕ) × List ℕ) ℕ) → i < count → text_at bytes ≡ Ok (tag, rest) → has_tag tag before ≡ true → tags_at (count - i) before bytes ≡ total → total ≡ Err (length bytes)
unfolding tags_at
tags-repeated count i before bytes tag rest total lt h repeated so_far =
    let k : count - i ≡ suc (count - (i + 1)) = omega arith in
    let one : tags_at (count - i) before bytes ≡ Err (length bytes) = rw (k, h, repeated) refl in
    sym so_far ∙ one

tags-goes_on : (count i : ℕ) (before : List (List ℕ)) (bytes tag rest : List ℕ) (total : Result (List (List ℕ) × List ℕ) ℕ) → i < count → text_at bytes ≡ Ok (tag, rest) → has_tag tag before ≡ false → tags_at (count - i) before bytes ≡ total → tags_at (count - (i + 1)) (before ++ tag ∷ []) rest ≡ total
unfolding tags_at
tags-goes_on count i before bytes tag rest total lt h new so_far =
    let k : count - i ≡ suc (count - (i + 1)) = omega arith in
    let one : tags_at (count - i) before bytes ≡ tags_at (count - (i + 1)) (before ++ tag ∷ []) rest = rw (k, h, new) refl in
    sym one ∙ so_far

pub tags-done : (count i : ℕ) (before : List (List ℕ)) (bytes : List ℕ) (total : Result (List (List ℕ) × List ℕ) ℕ) → count ≤ i → tags_at (count - i) before bytes ≡ total → total ≡ Ok (before, bytes)
unfolding tags_at
tags-done count i before bytes total le so_far =
    let k : count - i ≡ 0 = omega arith in
    let one : tags_at (count - i) before bytes ≡ Ok (before, bytes) = rw k refl in
    sym so_far ∙ one

-- whether a tag was set before shows at the place behind the tags

pub copied-none : (o : Option (Bor (List ℕ))) (b : Bool) → is_some o ≡ not b → b ≡ true → option_copied o ≡ None
copied-none None b e t = refl
copied-none (Some x) b e t = let wrong : true ≡ not true = e ∙ ap not t in absurd cc

pub copied-some : (o : Option (Bor (List ℕ))) (b : Bool) → is_some o ≡ not b → b ≡ false → (x : List ℕ) × (option_copied o ≡ Some x)
copied-some None b e t = let wrong : false ≡ not false = e ∙ ap not t in absurd cc
copied-some (Some x) b e t = (x.now, refl)

slice_get-push : (tags : List (List ℕ)) (tag : List ℕ) → slice_get (tags ++ tag ∷ []) (length tags) ≡ Some tag
slice_get-push [] tag = refl
slice_get-push (first ∷ tags) tag = slice_get-push tags tag

pub repeated-none : (tag : List ℕ) (tags : List (List ℕ)) (place : ℕ) → length tags ≡ place → slice_get (with_tag tag tags) place ≡ None → has_tag tag tags ≡ true
repeated-none tag tags place len none = by (has_tag tag tags) refl
  where
    by : (b : Bool) → has_tag tag tags ≡ b → has_tag tag tags ≡ true
    by true is = is
    by false is =
        let pushed : slice_get (with_tag tag tags) place ≡ Some tag = rw (is, ← len) (slice_get-push tags tag) in
        let wrong : None ≡ Some tag = sym none ∙ pushed in
        absurd cc

pub new-some : (tag : List ℕ) (tags : List (List ℕ)) (place : ℕ) (x : List ℕ) → length tags ≡ place → slice_get (with_tag tag tags) place ≡ Some x → has_tag tag tags ≡ false
new-some tag tags place x len some = by (has_tag tag tags) refl
  where
    by : (b : Bool) → has_tag tag tags ≡ b → has_tag tag tags ≡ false
    by false is = is
    by true is =
        let lacks : slice_get (with_tag tag tags) place ≡ None = rw (is, ← len) (slice_get-none tags (length tags) (omega arith)) in
        let wrong : None ≡ Some x = sym lacks ∙ some in
        absurd cc

length-push : (tags : List (List ℕ)) (tag : List ℕ) → length (tags ++ tag ∷ []) ≡ length tags + 1
length-push [] tag = refl
length-push (first ∷ tags) tag = omega (arith, length-push tags tag)

-- one tag on
pub tags-preserved : (start now new : Build) (count i : ℕ) (bytes tag rest x : List ℕ) (total : Result (List (List ℕ) × List ℕ) ℕ)
    → i < count → text_at bytes ≡ Ok (tag, rest) → new ≡ record now { tags = with_tag tag now.tags } → slice_get new.tags i ≡ Some x
    → now ≡ record start { tags = now.tags } → tags_at (count - i) now.tags bytes ≡ total → length now.tags ≡ i
    → (new ≡ record start { tags = new.tags }) × (tags_at (count - (i + 1)) new.tags rest ≡ total) × (length new.tags ≡ i + 1)
tags-preserved start now new count i bytes tag rest x total lt h set some others so_far len =
    let tags_are : new.tags ≡ with_tag tag now.tags = ap (λ (m : Build). m.tags) set in
    let fresh : has_tag tag now.tags ≡ false = new-some tag now.tags i x len (ap (λ (ts : List (List ℕ)). slice_get ts i) (sym tags_are) ∙ some) in
    let pushed : new.tags ≡ now.tags ++ tag ∷ [] = tags_are ∙ rw fresh refl in
    let next = tags-goes_on count i now.tags bytes tag rest total lt h fresh so_far in (
      set ∙ ap (λ (m : Build). record m { tags = with_tag tag now.tags }) others ∙ ap (λ (ts : List (List ℕ)). record start { tags = ts }) (sym tags_are),
      rw pushed next,
      ap length pushed ∙ length-push now.tags tag ∙ ap (λ (k : ℕ). k + 1) len,
    )

-- pairs

pub pairs-name_stops : (stop : DecodeStop) (count i : ℕ) (before : List NameValue) (last bytes : List ℕ) (total : Result (List NameValue × List ℕ) ℕ) → i < count → last ≡ last_name before → StopsDecoding stop (name_at last bytes) → pairs_at (count - i) before bytes ≡ total → StopsDecoding stop total
unfolding pairs_at
pairs-name_stops NoMemory count i before last bytes total lt is h so_far = tt
pairs-name_stops (Damaged left) count i before last bytes total lt is h so_far =
    let k : count - i ≡ suc (count - (i + 1)) = omega arith in
    let one : pairs_at (count - i) before bytes ≡ Err left = rw (k, ← is, h) refl in
    sym so_far ∙ one

pub pairs-value_stops : (stop : DecodeStop) (count i : ℕ) (before : List NameValue) (last bytes name after : List ℕ) (total : Result (List NameValue × List ℕ) ℕ) → i < count → last ≡ last_name before → name_at last bytes ≡ Ok (name, after) → StopsDecoding stop (text_at after) → pairs_at (count - i) before bytes ≡ total → StopsDecoding stop total
unfolding pairs_at
pairs-value_stops NoMemory count i before last bytes name after total lt is e h so_far = tt
pairs-value_stops (Damaged left) count i before last bytes name after total lt is e h so_far =
    let k : count - i ≡ suc (count - (i + 1)) = omega arith in
    let one : pairs_at (count - i) before bytes ≡ Err left = rw (k, ← is, e, h) refl in
    sym so_far ∙ one

pairs-goes_on : (count i : ℕ) (before : List NameValue) (last bytes name after value rest : List ℕ) (total : Result (List NameValue × List ℕ) ℕ) → i < count → last ≡ last_name before → name_at last bytes ≡ Ok (name, after) → text_at after ≡ Ok (value, rest) → pairs_at (count - i) before bytes ≡ total
    → pairs_at (count - (i + 1)) (before ++ (record { name = name; value = value }) ∷ []) rest ≡ total
unfolding pairs_at
pairs-goes_on count i before last bytes name after value rest total lt is e h so_far =
    let k : count - i ≡ suc (count - (i + 1)) = omega arith in
    let one : pairs_at (count - i) before bytes ≡ pairs_at (count - (i + 1)) (before ++ (record { name = name; value = value }) ∷ []) rest = rw (k, ← is, e, h) refl in
    sym one ∙ so_far

pub pairs-done : (count i : ℕ) (before : List NameValue) (bytes : List ℕ) (total : Result (List NameValue × List ℕ) ℕ) → count ≤ i → pairs_at (count - i) before bytes ≡ total → total ≡ Ok (before, bytes)
unfolding pairs_at
pairs-done count i before bytes total le so_far =
    let k : count - i ≡ 0 = omega arith in
    let one : pairs_at (count - i) before bytes ≡ Ok (before, bytes) = rw k refl in
    sym so_far ∙ one

-- one pair on
pub pairs-preserved : (start now new : Build) (count i : ℕ) (last bytes name after value rest : List ℕ) (total : Result (List NameValue × List ℕ) ℕ)
    → i < count → last ≡ last_name now.put → may_follow last name ≡ true → name_at last bytes ≡ Ok (name, after) → text_at after ≡ Ok (value, rest)
    → new ≡ record now { put = now.put ++ (record { name = name; value = value }) ∷ [] }
    → now ≡ record start { put = now.put } → pairs_at (count - i) now.put bytes ≡ total → IsAscending now.put
    → (new ≡ record start { put = new.put }) × (pairs_at (count - (i + 1)) new.put rest ≡ total) × (name ≡ last_name new.put) × IsAscending new.put
pairs-preserved start now new count i last bytes name after value rest total lt is follows e h set others so_far up =
    let pair : NameValue = record { name = name; value = value } in
    let pairs_are : new.put ≡ now.put ++ pair ∷ [] = ap (λ (m : Build). m.put) set in
    let next = pairs-goes_on count i now.put last bytes name after value rest total lt is e h so_far in
    let below = (may_follow-parts (last_name now.put) name (subst (λ (l : List ℕ). may_follow l name ≡ true) is follows)).0 in (
      set ∙ ap (λ (m : Build). record m { put = now.put ++ pair ∷ [] }) others ∙ ap (λ (ps : List NameValue). record start { put = ps }) (sym pairs_are),
      rw pairs_are next,
      rw pairs_are (sym (last_name-append now.put pair)),
      rw pairs_are (ascending-append now.put pair up below),
    )
