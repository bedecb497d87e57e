-- The plan that is tried.
use Rattle.std.specs.Prelude.{Some, None, [], ◌∷◌}
use Rattle.sg_machine.specs.declared.setup.Setup.{Setup}

-- two sources with stores of their own, and two destinations with queues in memory
abbrev pub tried : Setup
tried = record {
  sources = record { window = 10; store = Some 0 } ∷ record { window = 10; store = Some 1 } ∷ [];
  dests = record { fifo = 10; buffer = None } ∷ record { fifo = 10; buffer = None } ∷ [];
}
