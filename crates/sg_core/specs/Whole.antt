-- What holds of every core.
use Rattle.sg_machine.specs.declared.state.State.{State}
use Rattle.sg_offers.specs.Payloads.{buffers_of, AreSmall}
use Rattle.sg_standing.specs.States.{CoreState}
use Rattle.sg_standing.specs.Standing.{IsAt}

-- it is at some state, and no capacity is above 2^30
pub record IsWholeCore (core : CoreState) : Type 0 where
  pub state : State
  pub at : IsAt core state
  pub small : AreSmall (buffers_of core.sinks)
