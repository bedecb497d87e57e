-- What a core keeps: of all that happened no more than what is still needed.
use Rattle.std.specs.Prelude.{ℕ, ◌+◌, List, map}
use Rattle.sg_machine.specs.declared.setup.Setup.{Setup}
use Rattle.sg_sinks.specs.States.{SinkState}
use Rattle.sg_stores.specs.Stores.{StoreState}
use Rattle.sg_standing.specs.declared.source.Source.{Source}

-- the sources, the destinations and the stores, each by its number, and how many calls have changed it
pub record CoreState : Type 0 where
  pub sources : List Source
  pub sinks : List SinkState
  pub stores : List StoreState
  pub calls : ℕ

-- the setup of a core
abbrev pub setup_of : CoreState → Setup
setup_of core = record {
  sources = map (λ (source : Source). source.setup) core.sources;
  dests = map (λ (sink : SinkState). sink.setup) core.sinks;
}

-- the number of calls alone rises
abbrev pub counted : CoreState → CoreState
counted core = record core { calls = core.calls + 1 }
