-- The core that is tried.
use Rattle.std.specs.Prelude.{◌≡◌, ℕ, Some, None, List, [], ◌∷◌, length}
use Rattle.sg_machine.specs.declared.setup.SourceSetup.{SourceSetup}
use Rattle.sg_machine.specs.declared.setup.DestSetup.{DestSetup}
use Rattle.sg_machine.specs.declared.setup.Setup.{Setup}
use Rattle.sg_machine.specs.declared.state.State.{State}
use Rattle.sg_standing.specs.States.{CoreState, setup_of}
use Rattle.sg_standing.specs.Standing.{IsAt}

abbrev pub three_sources : ℕ → List SourceSetup
three_sources window =
    record { window = window; store = Some 0 } ∷ record { window = window; store = Some 1 }
    ∷ record { window = window; store = Some 2 } ∷ []

abbrev pub three_dests : ℕ → ℕ → ℕ → List DestSetup
three_dests fifo first second =
    record { fifo = fifo; buffer = Some (record { store = 3; capacity = first }) }
    ∷ record { fifo = fifo; buffer = None }
    ∷ record { fifo = fifo; buffer = Some (record { store = 4; capacity = second }) } ∷ []

-- three sources with stores of their own, and three destinations, of which the second is a queue in memory and the others have
-- disk-buffers of these capacities
abbrev pub tried : ℕ → ℕ → ℕ → ℕ → Setup
tried window fifo first second =
    record { sources = three_sources window; dests = three_dests fifo first second }

-- a core of such a setup
abbrev pub IsTried : CoreState → Type 0
IsTried core = (window : ℕ) × ((fifo : ℕ) × ((first : ℕ) ×
    ((second : ℕ) × ((setup_of core ≡ tried window fifo first second) × (length core.stores ≡ 5)))))

-- it is at some state
abbrev pub IsSomewhere : CoreState → Type 0
IsSomewhere core = (state : State) × IsAt core state
