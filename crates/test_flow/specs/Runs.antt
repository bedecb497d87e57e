-- The runs that are tried.
use Rattle.std.specs.Prelude.{ℕ, Some, None, [], ◌∷◌}
use Rattle.sg_machine.specs.declared.setup.Setup.{Setup}

-- two sources with stores of their own, and two destinations with queues in memory
abbrev pub two_files : Setup
two_files = record {
  sources = record { window = 1000; store = Some 0 } ∷ record { window = 1000; store = Some 1 }
      ∷ [];
  dests = record { fifo = 100; buffer = None } ∷ record { fifo = 100; buffer = None } ∷ [];
}

-- of both, whatever router
abbrev pub two : {R : Type 0} → R → ℕ
two router = 2
