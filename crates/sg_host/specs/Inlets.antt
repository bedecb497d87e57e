-- The inlets that a real machine opens and closes.
use Rattle.std.specs.Prelude.{◌≡◌, ℕ, None, map}
use Rattle.sg_device.specs.Inlet.{InletState, IsFresh}
use Rattle.sg_outside.specs.World.{Ledger, Opened, StandsIn}
use Rattle.sg_device.specs.declared.fault.OpenRefusal.{OpenRefusal}
use Rattle.sg_outside.specs.declared.request.InletSpec.{InletSpec}
use Rattle.sg_file.specs.Counts.{inlet_state}
use Rattle.sg_net.specs.Slot.{slot_of}
use Rattle.sg_host.specs.Ledgers.{LedgerOpens, LedgerRefuses}
use Rattle.sg_host.specs.Cells.{inlet_states}
use Rattle.sg_host.specs.Marked.{marked_of}
use Rattle.sg_host.specs.declared.inlets.HostFeed.{HostFeed}
use Rattle.sg_host.specs.declared.inlets.HostInlets.{HostInlets}
use Rattle.sg_host.specs.declared.inlets.HostOpenedInlet.{HostOpenedInlet}
use Rattle.sg_host.specs.declared.inlets.InletDevice.{InletDevice}
use Rattle.sg_host.specs.declared.inlets.InletDevice.TheVariants.{File, Slot}

abbrev pub source_of : InletDevice → InletState
source_of (File marked) = marked_of marked
source_of (Slot slot) = slot_of slot

abbrev pub feed_of : HostFeed → InletState
feed_of feed = source_of feed.source

-- an inlet at its opening
abbrev pub opened_inlet : HostOpenedInlet → Opened InletSpec InletState
opened_inlet opened = record { spec = opened.spec; state = inlet_state opened.counts }

-- those opened and those closed
abbrev pub inlets_of : HostInlets → Ledger InletSpec InletState
inlets_of inlets = record {
  opened = map opened_inlet inlets.opened.items;
  closed = inlet_states inlets.closed;
}

-- it stands at its place, and nothing was given yet
abbrev pub IsHostOpenedFor : InletSpec → ℕ → InletState → Type 0
IsHostOpenedFor spec from inlet = IsFresh inlet × StandsIn None spec from inlet

-- the inlet stands at its place, and nothing was given yet
abbrev pub InletsOpen : HostInlets → HostInlets → InletSpec → ℕ → InletState → ℕ → Type 0
InletsOpen old new spec from feed place =
    LedgerOpens (inlets_of old) (inlets_of new) old.faults new.faults spec feed × IsFresh feed
    × (feed.place ≡ place) × StandsIn None spec from feed

abbrev pub InletsRefuse : HostInlets → HostInlets → OpenRefusal → Type 0
InletsRefuse old new refusal = LedgerRefuses (inlets_of old) (inlets_of new) old.faults new.faults
    refusal
