-- What a seat's call at its hub is.
use Rattle.sg_booth.specs.Desks.{BoothState, DeskState, HasTurned}
use Rattle.sg_counter.specs.declared.calls.CoreCall.{CoreCall}
use Rattle.sg_counter.specs.declared.calls.CoreReply.{CoreReply}
use Rattle.sg_standing.specs.States.{CoreState}
use Rattle.sg_core.specs.Calls.{Serves}

abbrev pub HubState : Type 0
HubState = BoothState CoreState

abbrev pub SeatState : Type 0
SeatState = DeskState CoreState CoreCall CoreReply

-- The seat's own calls grow by this call and its reply, which stand at the end of a legal history that begins with all that the seat had seen.
abbrev pub SeatStep : HubState → SeatState → CoreCall → CoreReply → SeatState → Type 0
SeatStep hub old call reply new = HasTurned Serves hub.made old call reply new
