-- Lemmas on counted items.
use Rattle.std.proofs.Common.{◌≡◌, ◌≢◌, ℕ, suc, zero, ◌+◌, ◌-◌, ◌*◌, ◌<◌, ◌≤◌, List, [], ◌∷◌, ◌++◌, length, take, drop, get_or, Bool, true, false, refl, ap, sym, ◌∙◌, subst, arith, eq-eqb, add-one, ◌⊎◌, inl, inr}
use Rattle.std.specs.Prelude.{pos, slice_range, ◌==◌, if◌then◌else◌, nat_lt, nat_le, ◌&&◌}
use Rattle.std.proofs.lemmas.Bool.{ne_eqb, lt-ltb, le-ltb, le-leb, lt-leb}
use Rattle.std.proofs.lemmas.List.{take_more, get_or-drop, length-drop}
use Rattle.sg_device.specs.Inlet.{Stamped}
use Rattle.sg_frame.specs.declared.kind.FrameKind.TheVariants.{Counted}
use Rattle.sg_frame.specs.Items.{Count, Body, Bad, is_digit, count_of, item_of}
use Rattle.sg_frame.specs.Scans.{plain, Continues, ReachesForm, HasNone, HasBad, HasCount, IsItem}
use Rattle.sg_frame.proofs.ScanLemmas.{reach_more, none_whole, bad_next, whole_next}

digit-yes : (b : ℕ) → 48 ≤ b → b ≤ 57 → is_digit b ≡ true
digit-yes b low high = rw (le-leb 48 b low, le-leb b 57 high) refl

digit-no : (b : ℕ) → (b < 48) ⊎ (57 < b) → is_digit b ≡ false
digit-no b (inl low) = rw (lt-leb 48 b low) refl
digit-no b (inr high) = rw (lt-leb b 57 high) (both (nat_le 48 b))
  where
    both : (x : Bool) → (x && false) ≡ false
    both true = refl
    both false = refl

count-good : (limit place value : ℕ) → 0 < value → value ≤ limit → count_of limit place value ≡ Count value
count-good limit place value some most = rw (lt-ltb 0 value some, le-leb value limit most) refl

count-bad : (limit place value : ℕ) → (value ≡ 0) ⊎ (limit < value) → count_of limit place value ≡ Bad place
count-bad limit place value (inl none) = rw (le-ltb 0 value (omega arith)) refl
count-bad limit place value (inr much) = rw (lt-ltb 0 value (omega arith), lt-leb value limit much) refl

pub digit_next : (limit : ℕ) (bytes : List ℕ) (i value next : ℕ) → ReachesForm Counted limit bytes i (Count value) → i < length bytes
    → 48 ≤ get_or bytes i 0 → get_or bytes i 0 ≤ 57 → next ≡ value * 10 + (get_or bytes i 0 - 48) → 0 < next → next ≤ limit
    → ReachesForm Counted limit bytes (i + 1) (Count next)
digit_next limit bytes i value next reaches within low high is some most =
    let digit : is_digit (get_or bytes i 0) ≡ true = digit-yes (get_or bytes i 0) low high in
    reach_more Counted limit bytes i (Count value) (Count next) reaches within (λ place at. refl)
    (λ place. rw digit (ap (count_of limit place) (sym is) ∙ count-good limit place next some most))

pub digit_bad : (limit : ℕ) (bytes : List ℕ) (i value next : ℕ) → ReachesForm Counted limit bytes i (Count value) → i < length bytes
    → 48 ≤ get_or bytes i 0 → get_or bytes i 0 ≤ 57 → next ≡ value * 10 + (get_or bytes i 0 - 48) → (next ≡ 0) ⊎ (limit < next)
    → HasBad Counted limit bytes i
digit_bad limit bytes i value next reaches within low high is wrong =
    let digit : is_digit (get_or bytes i 0) ≡ true = digit-yes (get_or bytes i 0) low high in
    bad_next Counted limit bytes i (Count value) reaches within (λ place at. refl)
    (λ place. rw digit (ap (count_of limit place) (sym is) ∙ count-bad limit place next wrong))

pub space_next : (limit : ℕ) (bytes : List ℕ) (i value : ℕ) → ReachesForm Counted limit bytes i (Count value) → i < length bytes
    → get_or bytes i 0 ≡ 32 → 0 < value → value ≤ limit → HasCount limit bytes value (i + 1)
space_next limit bytes i value reaches within space some most =
    let no_digit : is_digit (get_or bytes i 0) ≡ false = digit-no (get_or bytes i 0) (inl (omega arith)) in
    let is : (get_or bytes i 0 == 32) ≡ true = eq-eqb (get_or bytes i 0) 32 space in
    record {
      some = some;
      most = most;
      within = omega arith;
      reaches = reach_more Counted limit bytes i (Count value) (Body value []) reaches within (λ place at. refl)
          (λ place. rw (no_digit, is, lt-ltb 0 value some) refl);
    }

pub other_bad : (limit : ℕ) (bytes : List ℕ) (i value : ℕ) → ReachesForm Counted limit bytes i (Count value) → i < length bytes
    → (get_or bytes i 0 < 48) ⊎ (57 < get_or bytes i 0) → (get_or bytes i 0 ≢ 32) ⊎ (value ≡ 0) → HasBad Counted limit bytes i
other_bad limit bytes i value reaches within other wrong =
    let no_digit : is_digit (get_or bytes i 0) ≡ false = digit-no (get_or bytes i 0) other in
    bad_next Counted limit bytes i (Count value) reaches within (λ place at. refl) (λ place. rw no_digit (opens wrong place))
  where
    none : (x : Bool) → (x && false) ≡ false
    none true = refl
    none false = refl

    opens : (get_or bytes i 0 ≢ 32) ⊎ (value ≡ 0) → (place : ℕ) → (if get_or bytes i 0 == 32 && nat_lt 0 value then Body value [] else Bad place) ≡ Bad place
    opens (inl not_space) place = rw (ne_eqb (get_or bytes i 0) 32 not_space) refl
    opens (inr zero_value) place = rw (le-ltb 0 value (omega arith), none (get_or bytes i 0 == 32)) refl

-- the text behind a count, as far as it has come
pub reach_body : (limit : ℕ) (bytes : List ℕ) (count from : ℕ) → HasCount limit bytes count from
    → (j : ℕ) → j < count → from + j ≤ length bytes → ReachesForm Counted limit bytes (from + j) (Body (count - j) (take j (drop from bytes)))
reach_body limit bytes count from read zero some within =
    let same : from ≡ from + 0 = omega arith in
    let all : count ≡ count - 0 = omega arith in
    subst (λ n. ReachesForm Counted limit bytes n (Body (count - 0) [])) same (subst (λ n. ReachesForm Counted limit bytes from (Body n [])) all read.reaches)
reach_body limit bytes count from read (suc j) some within =
    let earlier = reach_body limit bytes count from read j (omega arith) (omega arith) in
    let here : from + j < length bytes = omega arith in
    let inside : j < length (drop from bytes) = omega (arith, length-drop from bytes) in
    let not_last : (count - j == 1) ≡ false = ne_eqb (count - j) 1 (λ h. omega arith) in
    let more : take j (drop from bytes) ++ get_or bytes (from + j) 0 ∷ [] ≡ take (suc j) (drop from bytes) =
    ap (λ b. take j (drop from bytes) ++ b ∷ []) (sym (get_or-drop from bytes j 0)) ∙ sym (take_more (drop from bytes) j 0 inside) ∙ ap (λ n. take n (drop from bytes)) (add-one j) in
    let left : count - j - 1 ≡ count - suc j = omega arith in
    let next : from + j + 1 ≡ from + suc j = omega arith in
    subst (λ n. ReachesForm Counted limit bytes n (Body (count - suc j) (take (suc j) (drop from bytes)))) next
    (reach_more Counted limit bytes (from + j) (Body (count - j) (take j (drop from bytes))) (Body (count - suc j) (take (suc j) (drop from bytes))) earlier here
    (λ place at. rw not_last refl)
    (λ place. rw not_last (ap (λ n. Body n (take j (drop from bytes) ++ get_or bytes (from + j) 0 ∷ [])) left ∙ ap (Body (count - suc j)) more)))

pub counted_open : (limit : ℕ) (bytes : List ℕ) (count from : ℕ) → HasCount limit bytes count from → length bytes - from < count → HasNone Counted limit bytes
counted_open limit bytes count from read short =
    let within : from ≤ length bytes = read.within in
    let all : from + (length bytes - from) ≡ length bytes = omega arith in
    let form = Body (count - (length bytes - from)) (take (length bytes - from) (drop from bytes)) in
    none_whole Counted limit bytes form
    (subst (λ n. ReachesForm Counted limit bytes n form) all (reach_body limit bytes count from read (length bytes - from) short (omega arith))) tt

pub counted_item : (limit : ℕ) (bytes : List ℕ) (count from to last : ℕ) → HasCount limit bytes count from → count ≤ length bytes - from
    → to ≡ from + count → last + 1 ≡ to → IsItem Counted limit bytes (record { from = from; to = to; taken = to; last = last })
counted_item limit bytes count from to last read enough ends is =
    let within : from ≤ length bytes = read.within in
    let some : 0 < count = read.some in
    let here : from + (count - 1) < length bytes = omega arith in
    let inside : count - 1 < length (drop from bytes) = omega (arith, length-drop from bytes) in
    let place_of : from + (count - 1) ≡ last = omega arith in
    let one : count - (count - 1) ≡ 1 = omega arith in
    let all : count - 1 + 1 ≡ to - from = omega arith in
    let is_last : (count - (count - 1) == 1) ≡ true = eq-eqb (count - (count - 1)) 1 one in
    let text : take (count - 1) (drop from bytes) ++ get_or bytes (from + (count - 1)) 0 ∷ [] ≡ slice_range bytes from to =
    ap (λ b. take (count - 1) (drop from bytes) ++ b ∷ []) (sym (get_or-drop from bytes (count - 1) 0)) ∙ sym (take_more (drop from bytes) (count - 1) 0 inside)
    ∙ ap (λ n. take n (drop from bytes)) all in
    let whole = whole_next Counted limit bytes (from + (count - 1)) (Body (count - (count - 1)) (take (count - 1) (drop from bytes)))
    (take (count - 1) (drop from bytes) ++ get_or bytes (from + (count - 1)) 0 ∷ [])
    (reach_body limit bytes count from read (count - 1) (omega arith) (omega arith)) here (λ place at. rw is_last refl) (λ place. rw is_last refl) in
    record {
      from = omega arith;
      to = omega arith;
      last = omega arith;
      some = omega arith;
      taken = (omega arith, omega arith);
      first = subst (λ n. (place : ℕ) (held : List Stamped) → plain held ≡ bytes
          → Continues Counted limit place held (item_of (slice_range bytes from to) ((get_or held last (0, pos 0)).1) (place + n)) (place + n) (Count 0) (drop n held)) is
          (subst (λ t. (place : ℕ) (held : List Stamped) → plain held ≡ bytes
          → Continues Counted limit place held (item_of t ((get_or held last (0, pos 0)).1) (place + (last + 1))) (place + (last + 1)) (Count 0) (drop (last + 1) held)) text
          (subst (λ l. (place : ℕ) (held : List Stamped) → plain held ≡ bytes
          → Continues Counted limit place held (item_of (take (count - 1) (drop from bytes) ++ get_or bytes (from + (count - 1)) 0 ∷ []) ((get_or held l (0, pos 0)).1) (place + (l + 1))) (place + (l + 1)) (Count 0) (drop (l + 1) held)) place_of whole));
    }
