-- What real devices tell by their counts. They tell nothing of content.
use Rattle.std.specs.Prelude.{◌≡◌, ◌⊎◌, ℕ, List, None, Bool, false, if◌then◌else◌, Result, IsErr}
use Rattle.sg_device.specs.Inlet.{InletState, PullTells, PullMoves, PullLeaves, PullCounts, PullFaults}
use Rattle.sg_device.specs.Outlet.{OutletState}
use Rattle.sg_device.specs.declared.inlet.Pull.{Pull}
use Rattle.sg_device.specs.declared.fault.InletFault.{InletFault}
use Rattle.sg_file.specs.declared.counts.InletCounts.{InletCounts}
use Rattle.sg_file.specs.declared.counts.OutletCounts.{OutletCounts}

abbrev pub inlet_state : InletCounts → InletState
inlet_state counts = record {
  told = None;
  left = None;
  peer = counts.peer.items;
  from = counts.from;
  place = counts.place;
  pulls = counts.pulls;
  idles = counts.idles;
  bytes = counts.bytes;
  parts = counts.parts;
  faults = counts.faults;
  ended = counts.ended;
  hung = counts.hung;
  single = counts.single;
}

-- an inlet that is read from this place on, of which nothing was given yet
abbrev pub new_inlet : List ℕ → ℕ → Bool → InletState
new_inlet peer from single = record {
  told = None;
  left = None;
  peer = peer;
  from = from;
  place = from;
  pulls = 0;
  idles = 0;
  bytes = 0;
  parts = if single then 1 else 0;
  faults = 0;
  ended = false;
  hung = false;
  single = single;
}

-- What a pull came to was counted and answered; or it was a fault, or could not be counted and became one.
pub record IsAnswered (old new : InletState) (got result : Result Pull InletFault) : Type 0 where
  pub same : (result ≡ got) ⊎ IsErr result
  pub tells : (into : List ℕ) → PullTells old new into result
  pub moves : PullMoves old new result
  pub leaves : (into : List ℕ) → PullLeaves old new into result
  pub counts : PullCounts old new result
  pub faults : PullFaults old new result

abbrev pub outlet_state : OutletCounts → OutletState
outlet_state counts = record {
  taken = None;
  count = counts.taken;
  faults = counts.faults;
  failing = counts.failing;
  laters = counts.laters;
}

-- an outlet that took nothing yet
abbrev pub new_outlet : OutletState
new_outlet = record { taken = None; count = 0; faults = 0; failing = 0; laters = 0 }
