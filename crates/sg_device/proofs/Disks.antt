-- How facts on a disk go on from call to call.
use Rattle.std.proofs.Common.{◌≡◌, ◌⊎◌, inl, inr, ℕ, List, refl, sym, ◌∙◌, ap, subst, arith, Some, Option}
use Rattle.std.specs.Prelude.{Result, Ok, Err, OnOk, OnErr, is_err, is_some, None, true, false}
use Rattle.std.proofs.lemmas.Bool.{cases_lt}
use Rattle.sg_device.specs.DiskBytes.{Same}
use Rattle.sg_device.specs.Disk.{DiskState, content, clock, IsImageAt, IsImage, Changes, Elapses, Preserves, Durable, Moves, Within, EachNow, WhereTold}

-- a step of a disk that tells its bytes
pub changed : (step : List ℕ → List ℕ → Type 0) (a b : List ℕ) → step a b → Changes step (Some a) (Some b)
changed step a b s = record {
  back = λ d is. (a, refl, let same : b ≡ d = cc in subst (λ (l : List ℕ). step a l) same s);
  tells = refl;
}

-- what is told goes on by a step
pub told_on : {step : List ℕ → List ℕ → Type 0} {old new : Option (List ℕ)} (P Q : List ℕ → Type 0) → Changes step old new → WhereTold old P → ((a b : List ℕ) → P a → step a b → Q b) → WhereTold new Q
told_on P Q change told goes b is = let from = change.back b is in goes from.0 b (told from.0 from.1) from.2

pub told_same : {old new : Option (List ℕ)} (P : List ℕ → Type 0) → Changes Same old new → WhereTold old P → WhereTold new P
told_same P change told b is = let from = change.back b is in subst P (sym from.2) (told from.0 from.1)

pub changes_trans : {first second : List ℕ → List ℕ → Type 0} {old mid new : Option (List ℕ)} (both : List ℕ → List ℕ → Type 0) → Changes first old mid → Changes second mid new → ((a b c : List ℕ) → first a b → second b c → both a c) → Changes both old new
changes_trans both one two joins = record {
  back = λ c is. let b = two.back c is in let a = one.back b.0 b.1 in (a.0, a.1, joins a.0 b.0 c a.2 b.2);
  tells = two.tells ∙ one.tells;
}

-- before the first call
pub started : (old : DiskState) (P : List ℕ → Type 0) → EachNow old P → Within old old P
started old P here = record {
  later = omega arith;
  past = λ t c le left. left;
  kept = λ t c le left. left;
  each = λ t c low high left. let same : t ≡ clock old = omega arith in here c (subst (λ (n : ℕ). IsImageAt old n c) same left);
}

-- one call more
pub goes_on : {step : List ℕ → List ℕ → Type 0} (old mid new : DiskState) (P Q : List ℕ → Type 0) → Within old mid P → Elapses step mid new → EachNow mid Q → ((d c : List ℕ) → Q d → step d c → P c) → Within old new P
goes_on old mid new P Q so_far time here goes = record {
  later = omega (arith, so_far.later, time.later);
  past = λ t c le left. so_far.past t c le (time.past t c (omega (arith, le, so_far.later)) left);
  kept = λ t c le left. time.kept t c (omega (arith, le, so_far.later)) (so_far.kept t c le left);
  each = λ t c low high left. elim (cases_lt (clock mid) t) [
    | inr early ↦ so_far.each t c low early (time.past t c early left)
    | inl late ↦ let from = time.since t c late high left in goes from.0 c (here from.0 from.1) from.2
  ];
}

-- what holds of each image goes on by a step, where it also follows without one
pub now_on : {step : List ℕ → List ℕ → Type 0} (mid new : DiskState) (P Q : List ℕ → Type 0) → Elapses step mid new → EachNow mid P → ((d c : List ℕ) → P d → step d c → Q c) → ((c : List ℕ) → P c → Q c) → EachNow new Q
now_on mid new P Q time here goes stays c left = elim (cases_lt (clock mid) (clock new)) [
  | inr early ↦
      let same : clock new ≡ clock mid = omega (arith, early, time.later) in
      stays c (here c (subst (λ (n : ℕ). IsImageAt mid n c) same (time.past (clock new) c early left)))
  | inl late ↦ let from = time.since (clock new) c late (omega arith) left in goes from.0 c (here from.0 from.1) from.2
]

pub now_same : (mid new : DiskState) (P : List ℕ → Type 0) → Elapses Same mid new → EachNow mid P → EachNow new P
now_same mid new P time here = now_on mid new P P time here (λ d c p same. subst P (sym same) p) (λ c p. p)

pub same_on : (old mid new : DiskState) (P : List ℕ → Type 0) → Within old mid P → Elapses Same mid new → Within old new P
same_on old mid new P so_far time = goes_on old mid new P P so_far time (λ c left. so_far.each (clock mid) c so_far.later (omega arith) left) (λ d c p same. subst P (sym same) p)

pub within_as : (old new : DiskState) (P Q : List ℕ → Type 0) → Within old new P → ((c : List ℕ) → P c → Q c) → Within old new Q
within_as old new P Q w goes = record { later = w.later; past = w.past; kept = w.kept; each = λ t c low high left. goes c (w.each t c low high left) }

pub within_now : (old new : DiskState) (P : List ℕ → Type 0) → Within old new P → EachNow new P
within_now old new P w c left = w.each (clock new) c w.later (omega arith) left

-- after a sync each image is what was told
pub synced : (mid new : DiskState) (P : List ℕ → Type 0) → Durable new → Changes Same (content mid) (content new) → WhereTold (content mid) P → EachNow new P
synced mid new P durable change told c left = told_same P change told c (durable c left)

pub durable_now : (disk : DiskState) (P : List ℕ → Type 0) → Durable disk → WhereTold (content disk) P → EachNow disk P
durable_now disk P durable told c left = told c (durable c left)

-- a result is one or the other
pub either_way : {T E A B : Type 0} (r : Result T E) → OnOk r A → OnErr r B → ((is_err r ≡ false) × A) ⊎ ((is_err r ≡ true) × B)
either_way (Ok x) a b = inl (refl, a)
either_way (Err e) a b = inr (refl, b)

pub changes_refl : (old : Option (List ℕ)) → Changes Same old old
changes_refl old = record { back = λ b is. (b, is, refl); tells = refl }

pub preserves_refl : (old : DiskState) → Preserves old old
preserves_refl old = record {
  told = changes_refl (content old);
  still = record { later = omega arith; past = λ t c le left. left; kept = λ t c le left. left; since = λ t c lt le left. absurd (omega arith) };
}

pub preserves_trans : {old mid new : DiskState} → Preserves old mid → Preserves mid new → Preserves old new
preserves_trans {old} {mid} {new} one two =
    let at_mid : (c : List ℕ) → IsImage mid c → IsImage old c = now_same old mid (IsImage old) one.still (λ c left. left) in
    let at_new : (c : List ℕ) → IsImage new c → IsImage old c = now_same mid new (IsImage old) two.still at_mid in
    record {
      told = changes_trans Same one.told two.told (λ a b c first second. second ∙ first);
      still = record {
        later = omega (arith, one.still.later, two.still.later);
        past = λ t c le left. one.still.past t c le (two.still.past t c (omega (arith, le, one.still.later)) left);
        kept = λ t c le left. two.still.kept t c (omega (arith, le, one.still.later)) (one.still.kept t c le left);
        since = λ t c lt le left. elim (cases_lt (clock mid) t) [
          | inr early ↦ one.still.since t c lt early (two.still.past t c early left)
          | inl late ↦ let from = two.still.since t c late le left in (from.0, at_mid from.0 from.1, from.2)
        ];
      };
    }

-- a call that changes nothing, behind one that does
pub changes_on : (step : List ℕ → List ℕ → Type 0) (old mid new : Option (List ℕ)) → Changes step old mid → Changes Same mid new → Changes step old new
changes_on step old mid new one same = changes_trans step one same (λ a b c first is. subst (λ (l : List ℕ). step a l) (sym is) first)

pub elapses_on : (step : List ℕ → List ℕ → Type 0) (old mid new : DiskState) → ((c : List ℕ) → step c c) → Elapses step old mid → Elapses Same mid new → Elapses step old new
elapses_on step old mid new same one two =
    let at_mid : (c : List ℕ) → IsImage mid c → (d : List ℕ) × IsImage old d × step d c = λ c left. elim (cases_lt (clock old) (clock mid)) [
      | inl late ↦ one.since (clock mid) c late (omega arith) left
      | inr early ↦
          let at_once : clock mid ≡ clock old = omega (arith, early, one.later) in
          (c, one.past (clock old) c (omega arith) (subst (λ (n : ℕ). IsImageAt mid n c) at_once left), same c)
    ] in
    record {
      later = omega (arith, one.later, two.later);
      past = λ t c le left. one.past t c le (two.past t c (omega (arith, le, one.later)) left);
      kept = λ t c le left. two.kept t c (omega (arith, le, one.later)) (one.kept t c le left);
      since = λ t c lt le left. elim (cases_lt (clock mid) t) [
        | inr early ↦ one.since t c lt early (two.past t c early left)
        | inl late ↦
            let from = two.since t c late le left in
            let before = at_mid from.0 from.1 in
            (before.0, before.1, subst (λ (l : List ℕ). step before.0 l) (sym from.2) before.2)
      ];
    }

-- a call that changes nothing, in the middle of others
pub within_preserves : (old mid new : DiskState) (P : List ℕ → Type 0) → Within old mid P → Preserves mid new → Within old new P
within_preserves old mid new P so_far keeps = same_on old mid new P so_far keeps.still

-- what holds of each image goes on, and so does what holds of the bytes
pub now_preserves : (old new : DiskState) (P : List ℕ → Type 0) → Preserves old new → EachNow old P → EachNow new P
now_preserves old new P keeps here = now_same old new P keeps.still here

pub told_preserves : (old new : DiskState) (P : List ℕ → Type 0) → Preserves old new → WhereTold (content old) P → WhereTold (content new) P
told_preserves old new P keeps told = told_same P keeps.told told

-- a read of what is told now is one of what was told
pub told_back : (old new : DiskState) (b : List ℕ) → Preserves old new → content new ≡ Some b → content old ≡ Some b
told_back old new b keeps is = let from = keeps.told.back b is in from.1 ∙ ap (λ (l : List ℕ). Some l) (sym from.2)

-- what was told is told on, where nothing changes
pub told_forth : (old new : Option (List ℕ)) (b : List ℕ) → Changes Same old new → old ≡ Some b → new ≡ Some b
told_forth old None b change is = absurd (let e : false ≡ true = change.tells ∙ ap is_some is in cc)
told_forth old (Some x) b change is =
    let from = change.back x refl in
    let from_is : old ≡ Some from.0 = from.1 in
    let same : x ≡ from.0 = from.2 in
    cc

-- what holds of the bytes after a call that changes nothing held before it
pub told_before : (old new : DiskState) (P : List ℕ → Type 0) → Preserves old new → WhereTold (content new) P → WhereTold (content old) P
told_before old new P keeps told b is = told b (told_forth (content old) (content new) b keeps.told is)

pub moves_refl : (old : DiskState) → Moves old old
moves_refl old = record { later = omega arith; past = λ t c le left. left; kept = λ t c le left. left }

pub moves_within : {old new : DiskState} {P : List ℕ → Type 0} → Within old new P → Moves old new
moves_within w = record { later = w.later; past = w.past; kept = w.kept }
