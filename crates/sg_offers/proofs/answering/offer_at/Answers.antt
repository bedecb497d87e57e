use Rattle.std.proofs.Common.{◌≡◌, ◌-◌, ◌∙◌, sym, ap, arith, set}
use Rattle.sg_list.proofs.ListLemmas.{change-set}
use Rattle.sg_sinks.specs.Offers.{offered}
use Rattle.sg_offers.specs.Answering.{fails_at, spent}
use Rattle.sg_offers.proofs.ItemLemmas.{sunk-is}
use Rattle.sg_offers.proofs.answering.offer_at.Goals as goal

pub returns-clause-spent : goal.returns-clause-spent
returns-clause-spent c =
    let old = c.at_mut-sink.result.now in
    let new = c.offer.new.self in
    let fail = fails_at c.args.fails.now c.args.offer.dest in
    let room : new.room ≡ old.room - 1 = (let r = c.offer.ensures.room in omega arith) in
    let seen : new.seen ≡ offered fail c.args.inlet c.args.number c.args.offer c.args.block c.offer.result old.seen = rw (← c.is_failing-fail.ensures) c.offer.ensures.seen in
    ap (set c.args.sinks.now c.args.offer.dest) (sunk-is new (offered fail c.args.inlet c.args.number c.args.offer c.args.block c.offer.result old.seen) (old.room - 1) seen room)
    ∙ sym (change-set c.args.sinks.now c.args.offer.dest (spent fail c.args.inlet c.args.number c.args.offer c.args.block c.offer.result) old c.at_mut-sink.ensures.value)
