-- The turns of a destination as sendings.
use Rattle.std.proofs.Common.{◌≡◌, List, [], ◌∷◌, ◌++◌, Some, None, Option, true, refl, sym, ap, ◌∙◌}
use Rattle.std.specs.Prelude.{is_ok}
use Rattle.sg_actor.specs.Rendering.{frame_by}
use Rattle.sg_actor.specs.declared.rendering.DestSpec.{DestSpec}
use Rattle.sg_actor.specs.declared.turned.GivenUp.{GivenUp}
use Rattle.sg_turns.specs.Turns.{Turn, calls_of, result_of, any_step, DestState, SendsBy, SentTurns}
use Rattle.sg_laws.specs.Turns.{Sending, IsSending, AreSendings, calls_in}
use Rattle.sg_laws.proofs.HeadLemmas.{sends-with, sends-none}

record OneSending (spec : DestSpec) (old new : DestState) (turn : Turn) : Type 0 where
  one : Sending
  calls : one.made ≡ turn.made
  is : IsSending (frame_by spec) spec.dest one old.drain new.drain

one-sending : (spec : DestSpec) (old new : DestState) (turn : Turn) (cause : Option GivenUp) → SendsBy cause spec old new turn → OneSending spec old new turn
one-sending spec old new turn None (taken, (refused, h)) = record {
  one = record { made = turn.made; taken = taken; well = is_ok (result_of turn.answer) };
  calls = refl;
  is = sends-with spec any_step (tt {0}) (tt {0}) old.outage new.outage old.drain new.drain (result_of turn.answer) turn.made taken refused h;
}
one-sending spec old new turn (Some cause) h = record {
  one = record { made = []; taken = 0; well = true };
  calls = sym h.0;
  is = sends-none (frame_by spec) spec.dest old.drain new.drain h.1.drain_stays;
}

-- what these turns sent
pub record SentByDest (spec : DestSpec) (old new : DestState) (turns : List Turn) : Type 0 where
  pub sendings : List Sending
  pub calls : calls_in sendings ≡ calls_of turns
  pub are : AreSendings (frame_by spec) spec.dest sendings old.drain new.drain

pub sendings-of : (spec : DestSpec) (old new : DestState) (turns : List Turn) → SentTurns spec old new turns → SentByDest spec old new turns
sendings-of spec old new [] is = record { sendings = []; calls = refl; are = ap (λ (s : DestState). s.drain) is }
sendings-of spec old new (turn ∷ turns) (mid, (h, more)) =
    let one = one-sending spec old mid turn old.outage.given_up h in
    let rest = sendings-of spec mid new turns more in
    record {
      sendings = one.one ∷ rest.sendings;
      calls = ap (λ es. es ++ calls_in rest.sendings) one.calls ∙ ap (λ es. turn.made ++ es) rest.calls;
      are = (mid.drain, (one.is, rest.are));
    }
