-- A real file that is read.
use Rattle.std.specs.Prelude.{◌≡◌, ◌||◌, false, IsTrue, Result, Ok, Err}
use Rattle.sg_device.specs.Inlet.{InletState}
use Rattle.sg_device.specs.declared.fault.InletFault.{InletFault}
use Rattle.sg_device.specs.declared.inlet.Pull.{Pull}
use Rattle.sg_device.specs.declared.inlet.Pull.TheVariants.{Bytes, Next, Idle, End}
use Rattle.sg_file.specs.Counts.{inlet_state}
use Rattle.sg_file.specs.declared.inlet.FileInlet.{FileInlet}

abbrev pub inlet_of : FileInlet → InletState
inlet_of inlet = inlet_state inlet.counts

-- a file that is read once isn't idle, and another one ends only where it was hung up
abbrev pub PullEndsBy : FileInlet → Result Pull InletFault → Type 0
PullEndsBy old (Ok (Bytes len at)) = Unit {0}
PullEndsBy old (Ok Next) = ⊥
PullEndsBy old (Ok Idle) = old.once ≡ false
PullEndsBy old (Ok End) = IsTrue (old.once || old.counts.ended || old.counts.hung)
PullEndsBy old (Err e) = Unit {0}

-- it ends as it was opened to
pub record EndsAsOpened (old new : FileInlet) (result : Result Pull InletFault) : Type 0 where
  pub ends : PullEndsBy old result
  pub once : new.once ≡ old.once

-- it brought no bytes
abbrev pub IsNoBytes : Result Pull InletFault → Type 0
IsNoBytes (Ok (Bytes len at)) = ⊥
IsNoBytes (Ok Next) = Unit {0}
IsNoBytes (Ok Idle) = Unit {0}
IsNoBytes (Ok End) = Unit {0}
IsNoBytes (Err e) = Unit {0}
