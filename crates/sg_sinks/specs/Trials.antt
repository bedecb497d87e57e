-- What a disk-buffer would take, if its store worked throughout.
use Rattle.std.specs.Prelude.{ℕ, ◌+◌, ◌==◌, Bool, false, ◌&&◌, ◌||◌, not, if◌then◌else◌, length}
use Rattle.sg_machine.specs.declared.setup.BufferSetup.{BufferSetup}
use Rattle.sg_sinks.specs.Fitting.{space, has_space}
use Rattle.sg_sinks.specs.States.{SinkState}
use Rattle.sg_sinks.specs.declared.trial.Trial.{Trial}

-- with all that it has
abbrev pub trial_of : BufferSetup → SinkState → Trial
trial_of buffer sink = record {
  capacity = buffer.capacity;
  used = space sink.lengths;
  waits = not (length sink.entries == 0);
}

-- so that those that wait may go to the disk
abbrev pub refill_of : BufferSetup → SinkState → Trial
refill_of buffer sink = record {
  capacity = buffer.capacity;
  used = space sink.lengths;
  waits = false;
}

-- none waits, and an entry of n bytes fits
abbrev pub takes_in : ℕ → Trial → Bool
takes_in n trial = not trial.waits && has_space trial.capacity trial.used n

-- then it is taken; else it waits where it has flow-control
abbrev pub tried : Bool → ℕ → Trial → Trial
tried flow n trial =
    if takes_in n trial then record trial { used = trial.used + (5 + n) }
    else record trial { waits = trial.waits || flow }
