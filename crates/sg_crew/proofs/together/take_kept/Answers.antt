use Rattle.std.proofs.Common.{arith, ◌<◌, ◌∙◌, subst}
use Rattle.sg_actor.specs.declared.dest.DestActor.{DestActor}
use Rattle.sg_actor.specs.declared.source.SourceActor.{SourceActor}
use Rattle.sg_crew.specs.Crews.{Every}
use Rattle.sg_crew.specs.declared.worker.Worker.{Worker}
use Rattle.sg_crew.proofs.together.take_kept.Goals as goal

pub share-readers-requires-clause-fits : goal.share-readers-requires-clause-fits
share-readers-requires-clause-fits g c =
    let capacity = c.in-Ok.ensures.capacity in
    let len = c.len-3.ensures in
    let ok = c.args.sources.now.ok.0 in
    omega (arith, capacity, len, ok)

pub share-senders-requires-clause-fits : goal.share-senders-requires-clause-fits
share-senders-requires-clause-fits g c =
    let capacity = c.in-Ok-with_capacity.ensures.capacity in
    let len = c.len-4.ensures in
    let ok = c.args.dests.now.ok.0 in
    omega (arith, capacity, len, ok)

pub collect-requires-clause-fits : goal.collect-requires-clause-fits
collect-requires-clause-fits g c =
    let e = c.share-readers.ensures in
    let all = e.all in
    let capacity = e.capacity in
    let ok = c.args.sources.now.ok in
    let len = ok.0 in
    let cap = ok.1 in
    omega (arith, all, capacity, len, cap)

pub collect-requires-2-clause-fits : goal.collect-requires-2-clause-fits
collect-requires-2-clause-fits g c =
    let e = c.share-senders.ensures in
    let all = e.all in
    let capacity = e.capacity in
    let ok = c.args.dests.now.ok in
    let len = ok.0 in
    let cap = ok.1 in
    omega (arith, all, capacity, len, cap)

pub returns-clause-read : goal.returns-clause-read
returns-clause-read g c =
    let turned = subst (Every (λ (w : Worker (SourceActor g.row.R.Denot g.row.I.Denot) g.row.D.Denot). 0 < w.turns)) c.deref-3.ensures.value c.hold_to_turns.ensures in
    record {
      all = c.collect.ensures.all ∙ c.share-readers.ensures.all;
      each = λ j x y before after. c.requires.read.tells j x y before (c.collect.ensures.kept j y after) (turned j y after);
    }

pub returns-clause-sent : goal.returns-clause-sent
returns-clause-sent g c =
    let turned = subst (Every (λ (w : Worker (DestActor g.row.O.Denot) g.row.D.Denot). 0 < w.turns)) c.deref-4.ensures.value c.hold_to_turns-2.ensures in
    record {
      all = c.collect-2.ensures.all ∙ c.share-senders.ensures.all;
      each = λ j x y before after. c.requires.send.tells j x y before (c.collect-2.ensures.kept j y after) (turned j y after);
    }
