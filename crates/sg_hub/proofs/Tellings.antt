-- A history as calls of a core.
use Rattle.std.proofs.Common.{◌≡◌, List, [], ◌∷◌, Ok, Err, ap, ◌∙◌}
use Rattle.sg_booth.specs.Rule.{MakesOfficeCalls as MakesAll}
use Rattle.sg_counter.specs.Exchanges.{Makes}
use Rattle.sg_counter.specs.declared.calls.CoreCall.{CoreCall}
use Rattle.sg_counter.specs.declared.calls.CoreCall.TheVariants.{Credit, Admit, Front, Settle, Refill, Store}
use Rattle.sg_counter.specs.declared.calls.CoreReply.{CoreReply}
use Rattle.sg_counter.specs.declared.calls.CoreReply.TheVariants.{Credit as CreditReply, Admitted, Front as FrontReply, Settled, Refilled, Stored}
use Rattle.sg_standing.specs.States.{CoreState, setup_of}
use Rattle.sg_core.specs.Calls.{Serves}
use Rattle.sg_hub.specs.Histories.{ToldCall, exchanges_of}

pub made-of : (old new : CoreState) (history : List ToldCall) → MakesAll Serves old history new → Makes Serves old (exchanges_of history) new
made-of old new [] m = m
made-of old new (told ∷ rest) m = (m.0, m.1, made-of m.0 new rest m.2)

setup-stays : (old new : CoreState) (call : CoreCall) (reply : CoreReply) → Serves old call reply new → setup_of new ≡ setup_of old
setup-stays old new (Credit i) (CreditReply n) s = ap setup_of s.same
setup-stays old new (Admit i records) (Admitted (Ok verdicts)) s = s.does.setup
setup-stays old new (Admit i records) (Admitted (Err refused)) s = s.does.setup
setup-stays old new (Front d most) (FrontReply result) s = s.does.setup
setup-stays old new (Settle d place n count) (Settled result) s = s.does.setup
setup-stays old new (Refill d) (Refilled result) s = s.does.setup
setup-stays old new (Store i) (Stored result) s = s.does.setup
setup-stays old new call reply s = absurd s

pub setups-stay : (old new : CoreState) (history : List ToldCall) → MakesAll Serves old history new → setup_of new ≡ setup_of old
setups-stay old new [] m = ap setup_of m
setups-stay old new (told ∷ rest) m = setups-stay m.0 new rest m.2 ∙ setup-stays old m.0 told.call told.reply m.1
