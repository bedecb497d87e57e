use Rattle.std.proofs.Common.{◌+◌, refl, ap, sym, ◌∙◌}
use Rattle.sg_actor.specs.Reading.{one_if}
use Rattle.sg_turns.specs.Serving.{is_busy_answer}
use Rattle.sg_crew.proofs.WorkLemmas.{send-lent}
use Rattle.sg_crew.proofs.work.send_one.Goals as goal

pub shape_of-worker : goal.shape_of-worker
shape_of-worker g c =
    let state = g.O.Outlet.state in
    let a = c.args.worker.now.actor in
    sym (send-lent a.spec _ c.turn.new.counter a.outage c.turn.new.self.outage (state a.outlet) (state c.turn.new.self.outlet) c.turn.result c.turn.ensures.turn).back.1

pub shape_of-worker-2 : goal.shape_of-worker-2
shape_of-worker-2 g c =
    let state = g.O.Outlet.state in
    let a = c.args.worker.now.actor in
    sym (send-lent a.spec _ c.turn.new.counter a.outage c.turn.new.self.outage (state a.outlet) (state c.turn.new.self.outlet) c.turn.result c.turn.ensures.turn).back.0

pub returns : goal.returns
returns g c =
    let state = g.O.Outlet.state in
    let a = c.args.worker.now.actor in
    let t = send-lent a.spec _ c.turn.new.counter a.outage c.turn.new.self.outage (state a.outlet) (state c.turn.new.self.outlet) c.turn.result c.turn.ensures.turn in record {
      turn = t.turn;
      worked = record {
        took = record { turns = t.took; spec = c.turn.ensures.spec };
        makes = t.makes;
        own = t.own;
        few = t.few;
        answered = t.answered ∙ sym c.answer-answered.ensures;
      };
      counted = record {
        turns = refl;
        busy = c.with_turn.ensures ∙ ap (λ a. c.args.worker.now.busy + one_if (is_busy_answer a)) (sym (t.answered ∙ sym c.answer-answered.ensures));
      };
    }
