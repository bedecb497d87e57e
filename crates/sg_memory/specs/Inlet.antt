-- A file or a slot in memory that is read.
use Rattle.std.specs.Prelude.{◌≡◌, ℕ, ◌+◌, ◌-◌, ◌^◌, ◌==◌, ◌||◌, ◌&&◌, not, min, List, [], ◌∷◌, Some, None, Bool, true, false, is_some, if◌then◌else◌, codes, map, length, Result, Ok, Err}
use Rattle.sg_device.specs.Inlet.{InletState}
use Rattle.sg_device.specs.declared.fault.InletFault.{InletFault}
use Rattle.sg_device.specs.declared.inlet.Pull.{Pull}
use Rattle.sg_device.specs.declared.inlet.Pull.TheVariants.{Bytes, Next, Idle, End}
use Rattle.sg_memory.specs.Part.{part_of, peer_of, given_of, left_of, total_given}
use Rattle.sg_memory.specs.Parts.{begun}
use Rattle.sg_memory_disk.specs.Plan.{failing, fails_now, after_call}
use Rattle.sg_memory.specs.declared.inlet.MemoryInlet.{MemoryInlet}
use Rattle.sg_memory.specs.declared.inlet.Pace.{Pace}

-- the inlet gives its bytes at this pace, ends behind them or is idle there, and fails at these calls
pub record GoesBy (inlet : MemoryInlet) (pace : Pace) (once : Bool) (fails : List ℕ) : Type 0 where
  pub piece : inlet.piece ≡ pace.piece
  pub at : inlet.at ≡ pace.at
  pub once_is : inlet.once ≡ once
  pub fails_at : failing inlet.plan ≡ fails

-- what the inlet tells
abbrev pub inlet_of : MemoryInlet → InletState
inlet_of inlet = record {
  told = Some (map (part_of inlet.at) (begun inlet.parts));
  left = if inlet.single then Some (left_of inlet.parts.present) else None;
  peer = peer_of inlet.parts.present;
  from = inlet.from;
  place = inlet.from + given_of inlet.parts.present;
  pulls = inlet.pulls;
  idles = inlet.idles;
  bytes = total_given (begun inlet.parts);
  parts = length (begun inlet.parts);
  faults = inlet.faults;
  ended = inlet.ended;
  hung = inlet.hung;
  single = inlet.single;
}

-- what a file tells that is read from this place on, where it has these bytes left
abbrev pub file_start : ℕ → List ℕ → InletState
file_start from left = record {
  told = Some ((record { peer = codes "localhost"; given = [] }) ∷ []);
  left = Some left;
  peer = codes "localhost";
  from = from;
  place = from;
  pulls = 0;
  idles = 0;
  bytes = 0;
  parts = 1;
  faults = 0;
  ended = false;
  hung = false;
  single = true;
}

-- what a slot tells before its first connection
abbrev pub slot_start : InletState
slot_start = record {
  told = Some [];
  left = None;
  peer = [];
  from = 0;
  place = 0;
  pulls = 0;
  idles = 0;
  bytes = 0;
  parts = 0;
  faults = 0;
  ended = false;
  hung = false;
  single = false;
}

-- a pull fails at the calls of the plan, and where the count of pulls stands at its end
abbrev pub pull_fails : MemoryInlet → Bool
pull_fails inlet = fails_now inlet.plan || inlet.pulls == 2 ^ 64 - 1

-- the end comes behind the part that is the only one, and where a file is hung up
abbrev pub ends : MemoryInlet → Bool
ends inlet = is_some inlet.parts.present && (inlet.once || (inlet.single && inlet.hung))

-- what a pull with so much room gives: a piece of what is left, or else the end, the next part or nothing
abbrev pub pull_gives : MemoryInlet → ℕ → Pull
pull_gives inlet room =
    let left = length (left_of inlet.parts.present) in
    if inlet.ended then End
    else if not inlet.hung && not (left == 0) then Bytes (min (min left inlet.piece) room) inlet.at
    else if ends inlet then End
    else if length inlet.parts.waiting.items == 0 then Idle
    else Next

-- a pull fails exactly where this says so, and gives exactly this otherwise
abbrev pub PullGives : Bool → Pull → Result Pull InletFault → Type 0
PullGives fails gives (Ok pull) = (fails ≡ false) × (pull ≡ gives)
PullGives fails gives (Err e) = fails ≡ true

-- with so much room it fails and gives as its plan and its bytes say, and the plan goes on by this call
pub record PullsByPlan (old new : MemoryInlet) (room : ℕ)
    (result : Result Pull InletFault) : Type 0 where
  pub pulls : PullGives (pull_fails old) (pull_gives old room) result
  pub plan : new.plan ≡ after_call old.plan
