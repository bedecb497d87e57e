-- How a ring goes on from call to call.
use Rattle.std.proofs.Common.{◌≡◌, inl, inr, ℕ, List, refl, subst, arith, Option}
use Rattle.std.proofs.lemmas.Bool.{cases_lt}
use Rattle.sg_device.specs.Disk.{DiskState, clock, IsImage, IsImageAt, Elapses, Within, EachNow}
use Rattle.sg_device.proofs.Disks.{started, goes_on, now_on}
use Rattle.sg_stable.specs.declared.cell.Pair.{Pair}
use Rattle.sg_spool.specs.Lists.{Perhaps}
use Rattle.sg_spool.specs.Ring.{Entries, IsList}
use Rattle.sg_spool.specs.Steps.{RingAt, Stems, After, Spares}
use Rattle.sg_spool.proofs.Rings.{ring_spared, list_of}

-- a step that says less
pub elapses_as : {one two : List ℕ → List ℕ → Type 0} (old new : DiskState) → ((d c : List ℕ) → one d c → two d c) → Elapses one old new → Elapses two old new
elapses_as old new goes time = record {
  later = time.later;
  past = time.past;
  kept = time.kept;
  since = λ t c lt le left. let from = time.since t c lt le left in (from.0, from.1, goes from.0 c from.2);
}

-- two calls of one step
pub elapses_join : (step : List ℕ → List ℕ → Type 0) (old mid new : DiskState) → ((c : List ℕ) → step c c) → ((a b c : List ℕ) → step a b → step b c → step a c) → Elapses step old mid → Elapses step mid new → Elapses step old new
elapses_join step old mid new same joins one two =
    let at_mid : (c : List ℕ) → IsImage mid c → (d : List ℕ) × IsImage old d × step d c = λ c left. elim (cases_lt (clock old) (clock mid)) [
      | inl late ↦ one.since (clock mid) c late (omega arith) left
      | inr early ↦
          let at_once : clock mid ≡ clock old = omega (arith, early, one.later) in
          (c, one.past (clock old) c (omega arith) (subst (λ (n : ℕ). IsImageAt mid n c) at_once left), same c)
    ] in
    record {
      later = omega (arith, one.later, two.later);
      past = λ t c le left. one.past t c le (two.past t c (omega (arith, le, one.later)) left);
      kept = λ t c le left. two.kept t c (omega (arith, le, one.later)) (one.kept t c le left);
      since = λ t c lt le left. elim (cases_lt (clock mid) t) [
        | inr early ↦ one.since t c lt early (two.past t c early left)
        | inl late ↦
            let from = two.since t c late le left in
            let before = at_mid from.0 from.1 in
            (before.0, before.1, joins before.0 from.0 c before.2 from.2)
      ];
    }

-- two calls, the second from the images that the first left
pub within_join : (old mid new : DiskState) (P Q : List ℕ → Type 0) → Within old mid P → Within mid new Q → ((c : List ℕ) → Q c → P c) → Within old new P
within_join old mid new P Q one two goes = record {
  later = omega (arith, one.later, two.later);
  past = λ t c le left. one.past t c le (two.past t c (omega (arith, le, one.later)) left);
  kept = λ t c le left. two.kept t c (omega (arith, le, one.later)) (one.kept t c le left);
  each = λ t c low high left. elim (cases_lt (clock mid) t) [
    | inr early ↦ one.each t c low early (two.past t c early left)
    | inl late ↦ goes c (two.each t c (omega (arith, late)) high left)
  ];
}

-- what holds of each image now
pub stem_now : (d0 : DiskState) (P : List ℕ → Type 0) → EachNow d0 P → EachNow d0 (Stems (IsImage d0) P)
stem_now d0 P start c left = record { origin = c; was = left; holds = start c left }

pub stem_as : (from : List ℕ → Type 0) (P Q : List ℕ → Type 0) (c d : List ℕ) → Stems from P c → (P c → Q d) → Stems from Q d
stem_as from P Q c d stem goes = record { origin = stem.origin; was = stem.was; holds = goes stem.holds }

-- an image that stems from one that stems from others
pub stem_join : (one two : List ℕ → Type 0) (P Q : List ℕ → Type 0) (c : List ℕ) → ((d : List ℕ) → two d → Stems one P d) → Stems two Q c → Stems one Q c
stem_join one two P Q c earlier stem = let first = earlier stem.origin stem.was in record { origin = first.origin; was = first.was; holds = stem.holds }

-- a list that stays, and one of one list
pub after_stays : (step : Entries → Entries → Type 0) (es : Entries) (c : List ℕ) → IsList es c → After (Perhaps step) es c
after_stays step es c is = (es, inl refl, is)

pub after_step : (step : Entries → Entries → Type 0) (es fs : Entries) (c : List ℕ) → step es fs → IsList fs c → After (Perhaps step) es c
after_step step es fs c goes is = (fs, inr goes, is)

-- writes outside a ring
module _ (cell : Pair) (jump : Option ℕ) (head end : ℕ) (es : Entries) (d0 d1 : DiskState) (start : EachNow d0 (RingAt cell jump head end es)) (time : Elapses (Spares jump head end) d0 d1) where
  spared_on : (d c : List ℕ) → Stems (IsImage d0) (RingAt cell jump head end es) d → Spares jump head end d c → Stems (IsImage d0) (RingAt cell jump head end es) c
  spared_on d c at spares = stem_as (IsImage d0) (RingAt cell jump head end es) (RingAt cell jump head end es) d c at (λ ring. ring_spared cell jump head end es d c ring spares)

  pub spared_within : (step : Entries → Entries → Type 0) → Within d0 d1 (Stems (IsImage d0) (After (Perhaps step) es))
  spared_within step =
      let P = Stems (IsImage d0) (After (Perhaps step) es) in
      let goes : (c : List ℕ) → Stems (IsImage d0) (RingAt cell jump head end es) c → P c = λ c at. stem_as (IsImage d0) (RingAt cell jump head end es) (After (Perhaps step) es) c c at (λ ring. after_stays step es c (list_of cell jump head end es c ring)) in
      goes_on d0 d0 d1 P (Stems (IsImage d0) (RingAt cell jump head end es)) (started d0 P (λ c left. goes c (stem_now d0 (RingAt cell jump head end es) start c left))) time (stem_now d0 (RingAt cell jump head end es) start) (λ d c at spares. goes c (spared_on d c at spares))

  pub spared_now : EachNow d1 (Stems (IsImage d0) (RingAt cell jump head end es))
  spared_now = now_on d0 d1 (Stems (IsImage d0) (RingAt cell jump head end es)) (Stems (IsImage d0) (RingAt cell jump head end es)) time (stem_now d0 (RingAt cell jump head end es) start) spared_on (λ c at. at)
