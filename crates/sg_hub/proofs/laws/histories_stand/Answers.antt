use Rattle.sg_hub.specs.Histories.{exchanges_of}
use Rattle.sg_hub.proofs.Tellings.{made-of}
use Rattle.sg_hub.proofs.laws.histories_stand.Goals as goal

pub returns : goal.returns
returns c old new history start events m stands = c.calls_are_events.ensures old new (exchanges_of history) start events (made-of old new history m) stands
