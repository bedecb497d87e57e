-- Images now of a core without disk-buffers, for the crates above.
use Rattle.std.proofs.Common.{◌≡◌, ℕ, List, Some, length, slice_get}
use Rattle.sg_machine.specs.declared.event.Event.{Event}
use Rattle.sg_machine.specs.declared.setup.BufferSetup.{BufferSetup}
use Rattle.sg_machine.specs.declared.setup.Setup.{Setup}
use Rattle.sg_machine.specs.declared.state.State.{State}
use Rattle.sg_machine.specs.Runs.{BufferedEntry, Opening, opened}
use Rattle.sg_machine.specs.Safe.{Safe, nothing}
use Rattle.sg_machine.proofs.SafeLemmas.{safe}
use Rattle.sg_sinks.specs.States.{SinkState}
use Rattle.sg_standing.specs.States.{CoreState}
use Rattle.sg_standing.specs.Standing.{StandsFor}
use Rattle.sg_standing.specs.Images.{AreImages, AreListsIn, AreStores, positions_in}
use Rattle.sg_standing.proofs.ImageLaws.{images-at, stores-held, held-now, legal-now}

-- no destination has one
abbrev pub AreQueues : List SinkState → Type 0
AreQueues sinks = (d : ℕ) (sink : SinkState) (buffer : BufferSetup) → slice_get sinks d ≡ Some sink → sink.setup.buffer ≡ Some buffer → ⊥

none-listed : (sinks : List SinkState) (images : List (List ℕ)) (lists : List (List BufferedEntry)) → AreQueues sinks → length lists ≡ length sinks → AreListsIn sinks images lists
none-listed sinks images lists none count = record { every = count; each = λ d sink buffer list bytes there has get chosen. absurd (none d sink buffer there has) }

pub safe-now : (setup : Setup) (opening : Opening) (events : List Event) (core : CoreState) (images : List (List ℕ)) (lists : List (List BufferedEntry)) → StandsFor core (opened setup opening) events → AreImages core.stores images
    → AreQueues core.sinks → length lists ≡ length core.sinks → Safe (opened setup opening) events nothing (record { positions = positions_in core.sources images; lists = lists })
safe-now setup opening events core images lists stands are none count =
    let start = opened setup opening in
    safe setup opening events nothing (record { positions = positions_in core.sources images; lists = lists }) (legal-now core start events stands)
    (images-at core start events nothing images lists (λ d sink buffer there has. absurd (none d sink buffer there has)) (held-now core start events images stands are)
    (none-listed core.sinks images lists none count))

pub stores-now : (core : CoreState) (start : State) (events : List Event) (images : List (List ℕ)) → StandsFor core start events → AreImages core.stores images → AreStores core images
stores-now core start events images stands are = stores-held core start events nothing images (held-now core start events images stands are)
