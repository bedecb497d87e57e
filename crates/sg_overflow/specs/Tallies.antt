-- The counts of an outlet behind its calls.
use Rattle.std.specs.Prelude.{◌≤◌, ◌<◌, ℕ, ◌-◌, ◌+◌, ◌^◌, min, Result, Ok, Err}
use Rattle.sg_device.specs.Outlet.{failing_after, one_more}
use Rattle.sg_device.specs.declared.fault.SendRefusal.{SendRefusal}
use Rattle.sg_device.specs.declared.fault.SendRefusal.TheVariants.{Fault, Later, NoMemory}
use Rattle.sg_overflow.specs.declared.tally.OutletTally.{OutletTally}

-- at the opening of a store with so many frames
abbrev pub fresh_tally : ℕ → OutletTally
fresh_tally loaded = record
    { count = 0; faults = 0; failing = 0; laters = 0; loaded = loaded }

-- a send took so many frames, and answered this
abbrev pub after_send : OutletTally → ℕ → Result Unit SendRefusal → OutletTally
after_send tally taken (Ok done) = record tally
    { count = min (tally.count + taken) (2 ^ 64 - 1); failing = 0 }
after_send tally taken (Err Fault) = record tally {
  count = min (tally.count + taken) (2 ^ 64 - 1);
  faults = one_more tally.faults;
  failing = one_more (failing_after taken tally.failing);
}
after_send tally taken (Err Later) = record tally {
  count = min (tally.count + taken) (2 ^ 64 - 1);
  failing = failing_after taken tally.failing;
  laters = min (tally.laters + 1) (2 ^ 64 - 1);
}
after_send tally taken (Err NoMemory) = record tally {
  count = min (tally.count + taken) (2 ^ 64 - 1);
  failing = failing_after taken tally.failing;
}

-- a reopening failed
abbrev pub after_fault : OutletTally → OutletTally
after_fault tally = record tally
    { faults = one_more tally.faults; failing = one_more tally.failing }

-- it was too early for a reopening
abbrev pub after_later : OutletTally → OutletTally
after_later tally = record tally { laters = min (tally.laters + 1) (2 ^ 64 - 1) }

-- so many frames more can be counted, and one send more that is too early
abbrev pub CanCount : OutletTally → ℕ → Type 0
CanCount tally number = (tally.count + number ≤ 2 ^ 64 - 1) × (tally.laters < 2 ^ 64 - 1)
    × (tally.faults ≤ 2 ^ 64 - 1)
