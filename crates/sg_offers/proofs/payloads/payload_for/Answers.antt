use Rattle.std.proofs.Common.{◌∙◌, sym, ap, refl, set, get_or, None}
use Rattle.sg_list.proofs.ListLemmas.{change-set}
use Rattle.sg_offers.specs.Payloads.{tried_offer}
use Rattle.sg_offers.specs.Rooms.{seen_in}
use Rattle.sg_offers.proofs.ItemLemmas.{item-there, or-there, seen-there, buffer-there}
use Rattle.sg_offers.proofs.payloads.payload_for.Goals as goal

pub returns-clause-payload : goal.returns-clause-payload
returns-clause-payload c =
    let d = c.args.offer.now.dest in
    let there = item-there c.args.sinks.now d c.index-sinks-d.result c.requires.sink c.index-sinks-d.is in
    let buffer = buffer-there (seen_in c.args.sinks.now) d c.index-sinks-d.result.seen (seen-there c.args.sinks.now d c.index-sinks-d.result there) in
    let setup = c.setup.ensures in
    let trial = or-there c.args.trials.now d None c.requires.trial in
    let block = c.in_ok-block.ensures.block in
    let taken = c.try_offer-taken.ensures.taken in
    rw (buffer, ← setup, trial, block, taken) refl

pub returns-clause-trials : goal.returns-clause-trials
returns-clause-trials c =
    let d = c.args.offer.now.dest in
    let trial = or-there c.args.trials.now d None c.requires.trial in
    ap (set c.args.trials.now d) c.try_offer-taken.ensures.after
    ∙ sym (change-set c.args.trials.now d (tried_offer c.args.offer.now) (get_or c.args.trials.now d None) trial)
