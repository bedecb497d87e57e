-- The runs that are tried.
use Rattle.std.specs.Prelude.{ℕ, Some, None, [], ◌∷◌}
use Rattle.sg_machine.specs.declared.setup.Setup.{Setup}

-- a source with a store of its own, a destination with a queue in memory, and one with a disk-buffer
abbrev pub meeting : Setup
meeting = record {
  sources = record { window = 100; store = Some 0 } ∷ [];
  dests = record { fifo = 100; buffer = None }
      ∷ record { fifo = 100; buffer = Some (record { store = 1; capacity = 1000 }) } ∷ [];
}

-- the inlets and the destinations, whatever router
abbrev pub two : {R : Type 0} → R → ℕ
two router = 2
