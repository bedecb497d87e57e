-- What the calls of an outlet that holds frames back come to, as an outlet.
use Rattle.std.proofs.Common.{◌≡◌, ◌≤◌, ◌<◌, ℕ, ◌+◌, ◌-◌, ◌^◌, min, List, [], ◌++◌, length, take, refl, ◌∙◌, ap, arith, Option, Some, None, Ok, Err}
use Rattle.std.proofs.lemmas.List.{append-nil}
use Rattle.std.specs.Option.{option_map}
use Rattle.sg_device.specs.Disk.{DiskState}
use Rattle.sg_device.specs.Outlet.{OutletState, Sends, Reopens}
use Rattle.sg_device.specs.declared.fault.OutletFault.{OutletFault}
use Rattle.sg_device.specs.declared.fault.SendRefusal.{SendRefusal}
use Rattle.sg_device.specs.declared.fault.SendRefusal.TheVariants.{Fault, Later, NoMemory}
use Rattle.sg_overflow.specs.Line.{MovesLine, Lasts}
use Rattle.sg_overflow.specs.Tallies.{after_send, after_fault}
use Rattle.sg_overflow.specs.View.{Held, OverflowView, outlet_of, taken_of, IsOverflowSound, IsWithinMemory}
use Rattle.sg_overflow.specs.declared.answers.Limits.{Limits}
use Rattle.sg_overflow.specs.declared.tally.OutletTally.{OutletTally}
use Rattle.sg_overflow.proofs.Sends.{taken_moves, loaded_moves, enough_moves}

abbrev pub Texts : Type 0
Texts = List (List ℕ)

-- so many of the frames were taken
abbrev pub Took : Option Texts → Option Texts → Texts → ℕ → Type 0
Took old new frames t = new ≡ option_map (λ (b : Texts). b ++ take t frames) old

count_more : (old new : OutletTally) (t : ℕ) → new.count ≡ min (old.count + t) (2 ^ 64 - 1) → old.count + t ≤ 2 ^ 64 - 1 → new.count ≡ old.count + t
count_more old new t is small = omega (arith, is, small)

pub sends_ok : {O D : Type 0} (outlet : O → OutletState) (disk : D → DiskState) (old new : OverflowView O D) (frames : Texts) (t : ℕ) (done : Unit {0}) → new.tally ≡ after_send old.tally t (Ok done)
    → Took (taken_of outlet disk old) (taken_of outlet disk new) frames t → old.tally.count + t ≤ 2 ^ 64 - 1 → t ≡ length frames → Sends (outlet_of outlet disk old) (outlet_of outlet disk new) frames (Ok done)
sends_ok outlet disk old new frames t done tally took small all = (
  record {
    taken = took ∙ ap (λ (k : ℕ). option_map (λ (b : Texts). b ++ take k frames) (taken_of outlet disk old)) all;
    count = count_more old.tally new.tally t (ap (λ (x : OutletTally). x.count) tally) small ∙ ap (λ (k : ℕ). old.tally.count + k) all;
    laters = ap (λ (x : OutletTally). x.laters) tally;
    faults = (let same = ap (λ (x : OutletTally). x.faults) tally in omega (arith, same));
  },
  ap (λ (x : OutletTally). x.failing) tally,
)

pub sends_err : {O D : Type 0} (outlet : O → OutletState) (disk : D → DiskState) (old new : OverflowView O D) (frames : Texts) (t : ℕ) (refusal : SendRefusal) → new.tally ≡ after_send old.tally t (Err refusal)
    → Took (taken_of outlet disk old) (taken_of outlet disk new) frames t → old.tally.count + t ≤ 2 ^ 64 - 1 → old.tally.laters < 2 ^ 64 - 1 → old.tally.faults ≤ 2 ^ 64 - 1 → t < length frames
    → Sends (outlet_of outlet disk old) (outlet_of outlet disk new) frames (Err refusal)
sends_err outlet disk old new frames t Fault tally took small later range less = (
  (
    t,
    less,
    record {
      taken = took;
      count = count_more old.tally new.tally t (ap (λ (x : OutletTally). x.count) tally) small;
      laters = ap (λ (x : OutletTally). x.laters) tally;
      faults = (let more = ap (λ (x : OutletTally). x.faults) tally in omega (arith, more, range));
    },
    ap (λ (x : OutletTally). x.failing) tally,
  ),
  (let more = ap (λ (x : OutletTally). x.faults) tally in omega (arith, more)),
)
sends_err outlet disk old new frames t Later tally took small later range less = (
  t,
  less,
  record {
    taken = took;
    count = count_more old.tally new.tally t (ap (λ (x : OutletTally). x.count) tally) small;
    laters = (let more = ap (λ (x : OutletTally). x.laters) tally in omega (arith, more, later));
    faults = (let same = ap (λ (x : OutletTally). x.faults) tally in omega (arith, same));
  },
  ap (λ (x : OutletTally). x.faults) tally,
  ap (λ (x : OutletTally). x.failing) tally,
)
sends_err outlet disk old new frames t NoMemory tally took small later range less = (
  t,
  less,
  record {
    taken = took;
    count = count_more old.tally new.tally t (ap (λ (x : OutletTally). x.count) tally) small;
    laters = ap (λ (x : OutletTally). x.laters) tally;
    faults = (let same = ap (λ (x : OutletTally). x.faults) tally in omega (arith, same));
  },
  ap (λ (x : OutletTally). x.failing) tally,
)

-- ---- what a call leaves

map_back : (told : Option Texts) → option_map (λ (b : Texts). b ++ []) told ≡ told
map_back None = refl
map_back (Some l) = ap Some (append-nil l)

module _ {O D : Type 0} (outlet : O → OutletState) (disk : D → DiskState) (given : Texts) (t n : ℕ) (old new : OverflowView O D) (m : MovesLine disk given t n (outlet old.inner) (outlet new.inner) old.held new.held)
    (same : new.tally.loaded ≡ old.tally.loaded) (sound : IsOverflowSound outlet disk old) where
  pub took_of : Took (taken_of outlet disk old) (taken_of outlet disk new) given t
  took_of = taken_moves outlet disk given t n old new m same sound.loaded

  pub lasts_of : Lasts outlet disk old new
  lasts_of = record { limits = m.limits; loaded = loaded_moves outlet disk given t n old new m same sound.loaded; store = m.lasts }

  pub sound_of : IsWithinMemory new.held → IsOverflowSound outlet disk new
  sound_of within = record { loaded = enough_moves outlet disk given t n old new m same sound.loaded; memory = within }

-- no frame was taken, and nothing was counted
pub stays_of : {O D : Type 0} (outlet : O → OutletState) (disk : D → DiskState) (n : ℕ) (old new : OverflowView O D) → MovesLine disk [] 0 n (outlet old.inner) (outlet new.inner) old.held new.held
    → new.tally ≡ old.tally → IsOverflowSound outlet disk old → outlet_of outlet disk new ≡ outlet_of outlet disk old
stays_of outlet disk n old new m same sound =
    let took = took_of outlet disk [] 0 n old new m (ap (λ (x : OutletTally). x.loaded) same) sound ∙ map_back (taken_of outlet disk old) in
    λ i. record { taken = took i; count = (same i).count; faults = (same i).faults; failing = (same i).failing; laters = (same i).laters }

-- memory has no more than before
pub within_of : {D : Type 0} (disk : D → DiskState) (given : Texts) (n : ℕ) (i j : OutletState) (old new : Held D) → MovesLine {D = D} disk given 0 n i j old new → IsWithinMemory old → IsWithinMemory new
within_of disk given n i j old new m within = let fewer = m.memory in let limit = ap (λ (l : Limits). l.memory) m.limits in omega (arith, fewer, limit, within)

-- ---- reopenings

pub reopens_as : {O D : Type 0} (outlet : O → OutletState) (disk : D → DiskState) (old new : OverflowView O D) (e : OutletFault) → new.tally ≡ after_fault old.tally → Took (taken_of outlet disk old) (taken_of outlet disk new) [] 0
    → old.tally.faults ≤ 2 ^ 64 - 1 → Reopens (outlet_of outlet disk old) (outlet_of outlet disk new) (Err e)
reopens_as outlet disk old new e tally took range = (
  record {
    taken = took;
    count = (let is = ap (λ (x : OutletTally). x.count) tally in omega (arith, is));
    laters = ap (λ (x : OutletTally). x.laters) tally;
    faults = (let more = ap (λ (x : OutletTally). x.faults) tally in omega (arith, more, range));
  },
  ap (λ (x : OutletTally). x.failing) tally,
  (let more = ap (λ (x : OutletTally). x.faults) tally in omega (arith, more)),
)
