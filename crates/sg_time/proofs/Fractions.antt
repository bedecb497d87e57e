-- Fractions of a second and offsets, at the front of a text.
use Rattle.std.proofs.Common.{◌≡◌, ◌≢◌, ℕ, ◌+◌, ◌-◌, ◌*◌, ◌/◌, ◌<◌, ◌≤◌, ◌⊎◌, inl, inr, List, [], ◌∷◌, ◌++◌, length, get_or, take, drop, refl, sym, ap, ◌∙◌, arith, ℤ, pos, negsuc, ◌≤ℤ◌, add-one, drop-cons, length-append}
use Rattle.std.proofs.lemmas.Bool.{cases_order}
use Rattle.std.specs.List.{All}
use Rattle.std.proofs.Math.Nat.{mul-le-mul_right}
use Rattle.std.proofs.lemmas.List.{get_or_append_left, get_or-take, length-take-le}
use Rattle.std.proofs.Math.Seq.{drop-append_seam, get_or-append_seam}
use Rattle.std.proofs.lemmas.List.Elements.{All-head, All-tail, All-get_or, All-from_get_or}
use Rattle.std.proofs.lemmas.Int.{ints}
use Rattle.sg_time.specs.Text.{minutes_text}
use Rattle.sg_time.specs.Reading.{IsDigit, IsFraction, IsZone, micros_from}
use Rattle.sg_time.specs.Reading.IsZone.{zulu, east, west}

-- digits come to less than ten of the first one's unit
pub micros_from-bound : (unit : ℕ) (ds : List ℕ) → All IsDigit ds → micros_from unit ds ≤ 10 * unit - 1
micros_from-bound unit [] h = omega arith
micros_from-bound unit (b ∷ bs) h =
    let here : IsDigit b = All-head IsDigit b bs h in
    let behind = micros_from-bound (unit / 10) bs (All-tail IsDigit b bs h) in
    let most : (b - 48) * unit ≤ 9 * unit = mul-le-mul_right unit (omega arith) in
    omega arith

-- a fraction's digits from one on
pub micros_from-drop : (unit : ℕ) (ds : List ℕ) (i : ℕ) → i < length ds → micros_from unit (drop i ds) ≡ (get_or ds i 0 - 48) * unit + micros_from (unit / 10) (drop (i + 1) ds)
micros_from-drop unit ds i h = rw (add-one, drop-cons ds i 0 h) refl

-- what begins an offset is no digit and no dot
pub record StartsZone (zone : List ℕ) : Type 0 where
  pub first : ℕ
  pub rest : List ℕ
  pub is : zone ≡ first ∷ rest
  pub no_digit : first < 48 ⊎ (57 < first)
  pub no_dot : first ≢ 46

pub starts_zone : (zone : List ℕ) (offset : ℤ) → IsZone zone offset → StartsZone zone
starts_zone _ _ zulu = record { first = 90; rest = []; is = refl; no_digit = inr (omega arith); no_dot = omega arith }
starts_zone _ _ (east n h) = record { first = 43; rest = minutes_text n; is = refl; no_digit = inl (omega arith); no_dot = omega arith }
starts_zone _ _ (west n h) = record { first = 45; rest = minutes_text n; is = refl; no_digit = inl (omega arith); no_dot = omega arith }

-- an offset is less than a day
pub zone_bound : (zone : List ℕ) (offset : ℤ) → IsZone zone offset → (negsuc 1438 ≤ℤ offset) × (offset ≤ℤ pos 1439)
zone_bound _ _ zulu = (omega (arith, ints), omega (arith, ints))
zone_bound _ _ (east n h) = (omega (arith, ints), omega (arith, ints))
zone_bound _ _ (west n h) = (omega (arith, ints), omega (arith, ints))

-- the digits at the front end where the first other byte stands
pub digits_end : (ds : List ℕ) (first : ℕ) (rest : List ℕ) (len : ℕ) → All IsDigit ds → (first < 48) ⊎ (57 < first) → ((k : ℕ) → k < len → IsDigit (get_or (ds ++ first ∷ rest) k 0)) → (len < length (ds ++ first ∷ rest) → ¬ IsDigit (get_or (ds ++ first ∷ rest) len 0)) → len ≤ length (ds ++ first ∷ rest) → len ≡ length ds
digits_end ds first rest len digits other before behind within =
    elim (cases_order len (length ds)) [
      | inl same ↦ same
      | inr (inl lt) ↦ absurd (behind (omega (arith, length-append ds (first ∷ rest))) (rw (get_or_append_left ds (first ∷ rest) 0 len lt) (All-get_or IsDigit ds len 0 lt digits)))
      | inr (inr gt) ↦
          let wrong : IsDigit first = rw (get_or-append_seam ds first rest 0) at (before (length ds) gt) in
          absurd (elim other [ inl low ↦ omega arith | inr high ↦ omega arith ])
    ]

-- behind a dot, the digits that a fraction has are those up to the first other byte
pub fraction_end : (text behind : List ℕ) (len micros : ℕ) (fraction zone rest : List ℕ) (offset : ℤ) → text ≡ 46 ∷ behind → len ≤ length behind → ((k : ℕ) → k < len → IsDigit (get_or behind k 0)) → (len < length behind → ¬ IsDigit (get_or behind len 0)) → IsFraction fraction micros → IsZone zone offset → text ≡ fraction ++ (zone ++ rest) → (1 ≤ len) × (len ≤ 6) × (drop len behind ≡ zone ++ rest)
fraction_end text behind len micros fraction zone rest offset dot within digits other (inl (none, no_micros)) is_zone e =
    let s = starts_zone zone offset is_zone in
    let f : 46 ∷ behind ≡ s.first ∷ s.rest ++ rest = sym dot ∙ (e ∙ (ap (λ t. t ++ (zone ++ rest)) none ∙ ap (λ t. t ++ rest) s.is)) in
    let same : s.first ≡ 46 = cc in
    absurd (s.no_dot same)
fraction_end text behind len micros fraction zone rest offset dot within digits other (inr (ds, (is, all, some, most, value))) is_zone e =
    let s = starts_zone zone offset is_zone in
    let f : behind ≡ ds ++ (zone ++ rest) = ap (drop 1) (sym dot ∙ (e ∙ ap (λ t. t ++ (zone ++ rest)) is)) in
    let g : behind ≡ ds ++ s.first ∷ (s.rest ++ rest) = f ∙ ap (λ t. ds ++ (t ++ rest)) s.is in
    let end : len ≡ length ds = digits_end ds s.first (s.rest ++ rest) len all s.no_digit (rw g at digits) (rw g at other) (rw g at within) in
    (omega arith, omega arith, rw (end, f) (drop-append_seam ds (zone ++ rest)))

-- digits before a place are all digits
pub digits_taken : (ds : List ℕ) (len : ℕ) → len ≤ length ds → ((k : ℕ) → k < len → IsDigit (get_or ds k 0)) → All IsDigit (take len ds)
digits_taken ds len within before =
    All-from_get_or IsDigit (take len ds) 0 (λ i lt. let small : i < len = omega (arith, length-take-le len ds within) in rw (get_or-take len ds i 0 small) (before i small))
