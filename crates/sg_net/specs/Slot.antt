-- A slot of a listener.
use Rattle.std.specs.Prelude.{ℕ, ◌<◌, ◌≤◌}
use Rattle.sg_device.specs.Inlet.{InletState}
use Rattle.sg_file.specs.Counts.{inlet_state}
use Rattle.sg_net.specs.declared.slot.ReceivedBytes.{ReceivedBytes}
use Rattle.sg_net.specs.declared.slot.ReceivedBytes.TheVariants.{Bytes, Nothing, Over}
use Rattle.sg_net.specs.declared.slot.SlotInlet.{SlotInlet}

abbrev pub slot_of : SlotInlet → InletState
slot_of slot = inlet_state slot.counts

-- bytes are one at least, and no more than there is room for
abbrev pub AreBytesGiven : ℕ → ReceivedBytes → Type 0
AreBytesGiven room (Bytes len) = (0 < len) × (len ≤ room)
AreBytesGiven room Nothing = Unit {0}
AreBytesGiven room Over = Unit {0}
