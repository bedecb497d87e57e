-- The history of a hub, as calls of a core with their replies.
use Rattle.std.specs.Prelude.{List, map}
use Rattle.sg_booth.specs.declared.office.OfficeExchange.{OfficeExchange as Told}
use Rattle.sg_counter.specs.Exchanges.{Exchange}
use Rattle.sg_counter.specs.declared.calls.CoreCall.{CoreCall}
use Rattle.sg_counter.specs.declared.calls.CoreReply.{CoreReply}

-- an entry of the history: a call and its reply
abbrev pub ToldCall : Type 0
ToldCall = Told CoreCall CoreReply

abbrev pub exchange_of : ToldCall → Exchange
exchange_of told = record { call = told.call; reply = told.reply }

abbrev pub exchanges_of : List ToldCall → List Exchange
exchanges_of history = map exchange_of history
