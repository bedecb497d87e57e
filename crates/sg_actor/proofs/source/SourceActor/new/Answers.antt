use Rattle.std.proofs.Common.{refl}
use Rattle.sg_actor.proofs.NewLemmas.{ready-new, reads-new}
use Rattle.sg_actor.proofs.source.SourceActor.new.Goals as goal

pub returns-clause-new : goal.returns-clause-new
returns-clause-new g c =
    let feed = g.I.Inlet.state c.args.inlet in
    let begun = c.in-Ok-make_reader.ensures in
    record {
      ready = ready-new (g.R.Router.dests c.args.router) c.args.spec feed c.in-Ok-make_reader.reader c.in-Ok.buffer.items begun c.requires.fresh c.requires.from c.in-Ok.ensures;
      reads = reads-new (g.R.Router.offers c.args.router) c.args.spec feed c.in-Ok-make_reader.reader c.in-Ok.buffer.items begun c.requires.fresh;
      held = begun.held;
      going = (begun.ended, begun.failed);
      end = begun.end;
      first = refl;
      asked = refl;
      works = refl;
      bad = refl;
    }
