-- What the answers of an outlet that holds frames back come to.
use Rattle.std.proofs.Common.{◌≡◌, ◌≤◌, ◌<◌, ℕ, ◌+◌, ◌-◌, ◌^◌, min, List, [], ◌∷◌, ◌++◌, length, take, refl, sym, ◌∙◌, ap, arith, Option, Some, None, Ok, Err}
use Rattle.std.proofs.lemmas.List.{append-nil}
use Rattle.std.specs.Prelude.{Result}
use Rattle.std.specs.Option.{option_map}
use Rattle.sg_device.specs.Disk.{DiskState}
use Rattle.sg_device.specs.Outlet.{OutletState, TakesFirst, Sends, Reopens}
use Rattle.sg_device.specs.declared.fault.SendRefusal.{SendRefusal}
use Rattle.sg_device.specs.declared.fault.SendRefusal.TheVariants.{Fault, Later, NoMemory}
use Rattle.sg_device.specs.declared.outlet.Reopened.TheVariants.{Ready}
use Rattle.sg_spool.proofs.Calls.{lasts_same}
use Rattle.sg_overflow.specs.Held.{StandsStill}
use Rattle.sg_overflow.specs.Line.{MovesLine, Accepts, Lasts}
use Rattle.sg_overflow.specs.Tallies.{after_send, after_later}
use Rattle.sg_overflow.specs.View.{OverflowView, line_of, outlet_of, taken_of}
use Rattle.sg_overflow.specs.declared.tally.OutletTally.{OutletTally}
use Rattle.sg_overflow.proofs.Sends.{moves_given}
use Rattle.sg_overflow.proofs.Tallying.{Took}

abbrev pub Texts : Type 0
Texts = List (List ℕ)

-- ---- counts behind a send

pub after_count : (tally : OutletTally) (taken : ℕ) (answer : Result Unit SendRefusal) → (after_send tally taken answer).count ≡ min (tally.count + taken) (2 ^ 64 - 1)
after_count tally taken (Ok done) = refl
after_count tally taken (Err Fault) = refl
after_count tally taken (Err Later) = refl
after_count tally taken (Err NoMemory) = refl

pub after_loaded : (tally : OutletTally) (taken : ℕ) (answer : Result Unit SendRefusal) → (after_send tally taken answer).loaded ≡ tally.loaded
after_loaded tally taken (Ok done) = refl
after_loaded tally taken (Err Fault) = refl
after_loaded tally taken (Err Later) = refl
after_loaded tally taken (Err NoMemory) = refl

pub counted : (old new : OutletTally) (taken : ℕ) (answer : Result Unit SendRefusal) → new ≡ after_send old taken answer → old.count + taken ≤ 2 ^ 64 - 1 → new.count ≡ old.count + taken
counted old new taken answer is small =
    let count : new.count ≡ min (old.count + taken) (2 ^ 64 - 1) = ap (λ (t : OutletTally). t.count) is ∙ after_count old taken answer in
    omega (arith, count, small)

pub same_loaded : (old new : OutletTally) (taken : ℕ) (answer : Result Unit SendRefusal) → new ≡ after_send old taken answer → new.loaded ≡ old.loaded
same_loaded old new taken answer is = ap (λ (t : OutletTally). t.loaded) is ∙ after_loaded old taken answer

-- ---- nothing is taken

map_empty : (told : Option Texts) → told ≡ option_map (λ (before : Texts). before ++ []) told
map_empty None = refl
map_empty (Some t) = ap Some (sym (append-nil t))

pub some_given : (frames : Texts) → (frames ≡ [] → ⊥) → 0 < length frames
some_given [] some = absurd (some refl)
some_given (frame ∷ frames) some = omega arith

takes_none : (outlet : OutletState) (frames : Texts) → TakesFirst 0 frames outlet outlet
takes_none outlet frames = record { taken = map_empty outlet.taken; count = omega arith; laters = refl; faults = omega arith }

pub sends_none : (outlet : OutletState) (frames : Texts) → (frames ≡ [] → ⊥) → Sends outlet outlet frames (Err NoMemory)
sends_none outlet frames some = (0, some_given frames some, takes_none outlet frames, refl)

pub reopens_none : (outlet : OutletState) → Reopens outlet outlet (Ok Ready)
reopens_none outlet = (takes_none outlet [], refl)

module _ {O D : Type 0} (outlet : O → OutletState) (disk : D → DiskState) (frames : Texts) (old : OverflowView O D) (tally : OutletTally) (still : StandsStill disk old.held) where
  abbrev pub told : OverflowView O D
  told = record old { tally = tally }

  pub stands : MovesLine disk frames 0 0 (outlet old.inner) (outlet old.inner) old.held old.held
  stands = moves_given disk frames 0 (outlet old.inner) (outlet old.inner) old.held old.held (still (outlet old.inner))

  pub accepts_none : tally.count ≡ old.tally.count → Accepts outlet disk frames old told
  accepts_none same = record { taken = 0; count = omega (arith, same); forwarded = 0; moves = stands }

  pub lasts_none : tally.loaded ≡ old.tally.loaded → Lasts outlet disk old told
  lasts_none same = record {
    limits = refl;
    loaded = λ i. option_map (take (same i)) (line_of outlet disk old);
    store = lasts_same disk old.held.store;
  }

-- ---- it is too early for a reopening

pub later_as : {O D : Type 0} (outlet : O → OutletState) (disk : D → DiskState) (old new : OverflowView O D) → new.tally ≡ after_later old.tally → Took (taken_of outlet disk old) (taken_of outlet disk new) [] 0
    → old.tally.laters < 2 ^ 64 - 1 → outlet_of outlet disk new ≡ record (outlet_of outlet disk old) { laters = old.tally.laters + 1 }
later_as outlet disk old new tally took few =
    let more : min (old.tally.laters + 1) (2 ^ 64 - 1) ≡ old.tally.laters + 1 = omega (arith, few) in
    let same : taken_of outlet disk new ≡ taken_of outlet disk old = took ∙ sym (map_empty (taken_of outlet disk old)) in
    let later : new.tally.laters ≡ old.tally.laters + 1 = ap (λ (t : OutletTally). t.laters) tally ∙ more in
    λ i. record { taken = same i; count = (tally i).count; faults = (tally i).faults; failing = (tally i).failing; laters = later i }
