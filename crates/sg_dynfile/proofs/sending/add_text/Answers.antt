use Rattle.sg_dynfile.proofs.Going.{pushes, pushes-ready, some-pushed}
use Rattle.sg_dynfile.proofs.sending.add_text.Goals as goal

pub returns-in-Ok-clause-ready : goal.returns-in-Ok-clause-ready
returns-in-Ok-clause-ready g c =
    let now = g.P.Opener.state c.place_for.new.opener in
    pushes-ready now c.args.path.now c.args.text.now c.place_for.new.waiting.places.items c.in-Ok.place c.place_for.new.waiting.texts c.push.new.self.places.items c.push.new.self.texts c.push.result
    (record { places_are = c.push.ensures.places; texts_are = c.push.ensures.texts; starved = c.push.ensures.starved }) c.in-Ok.ensures.ready c.in-Ok.ensures.stands

pub returns-in-Ok-clause-follows : goal.returns-in-Ok-clause-follows
returns-in-Ok-clause-follows g c = λ first frames frame h parts whole.
    let now = g.P.Opener.state c.place_for.new.opener in
    pushes first now frames c.args.path.now c.args.text.now frame c.place_for.new.waiting.places.items c.in-Ok.place c.place_for.new.waiting.texts c.push.new.self.places.items c.push.new.self.texts c.push.result parts whole
    (record { places_are = c.push.ensures.places; texts_are = c.push.ensures.texts; starved = c.push.ensures.starved }) c.in-Ok.ensures.ready (c.in-Ok.ensures.finds first frames frame h)

pub returns-in-Ok-clause-some : goal.returns-in-Ok-clause-some
returns-in-Ok-clause-some g c = some-pushed c.place_for.new.waiting.texts c.push.new.self.texts c.args.text.now c.push.result c.push.ensures.texts

pub returns-in-Err-clause-follows : goal.returns-in-Err-clause-follows
returns-in-Err-clause-follows g c = λ first frames frame h parts whole. c.in-Err.ensures.finds first frames frame h
