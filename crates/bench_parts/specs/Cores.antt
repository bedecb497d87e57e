-- The core that is measured.
use Rattle.std.specs.Prelude.{◌≡◌, ℕ, Option, Some, None, List, [], ◌∷◌, length}
use Rattle.sg_machine.specs.declared.setup.SourceSetup.{SourceSetup}
use Rattle.sg_machine.specs.declared.setup.DestSetup.{DestSetup}
use Rattle.sg_machine.specs.declared.setup.BufferSetup.{BufferSetup}
use Rattle.sg_machine.specs.declared.setup.Setup.{Setup}
use Rattle.sg_standing.specs.States.{CoreState, setup_of}

-- one source without a store, and one destination
abbrev pub measured : Option BufferSetup → Setup
measured buffer = record {
  sources = record { window = 1000; store = None } ∷ [];
  dests = record { fifo = 1000; buffer = buffer } ∷ [];
}

-- the disk-buffer in store 0
abbrev pub spooled : Option BufferSetup
spooled = Some (record { store = 0; capacity = 1048576 })

-- a core of such a setup
abbrev pub IsMeasured : CoreState → Type 0
IsMeasured core = (buffer : Option BufferSetup) × (setup_of core ≡ measured buffer)
