use Rattle.std.proofs.Common.{◌∙◌}
use Rattle.std.proofs.Math.ListN.{length-set}
use Rattle.sg_offers.proofs.ItemLemmas.{set-seen, room-set}
use Rattle.sg_offers.proofs.room.reserve_all.Goals as goal

pub returns-in_err-reserve-clause-same : goal.returns-in_err-reserve-clause-same
returns-in_err-reserve-clause-same c =
    set-seen c.loop-d.sinks c.loop-d.d c.at_mut.result.now c.reserve.new.self c.at_mut.ensures.value c.reserve.ensures.seen ∙ c.loop-d.invariant.same

pub loop-d-preserved : goal.loop-d-preserved
loop-d-preserved c = record {
  len = length-set c.loop-d.sinks c.loop-d.d c.reserve.new.self ∙ c.loop-d.invariant.len;
  same = set-seen c.loop-d.sinks c.loop-d.d c.at_mut.result.now c.reserve.new.self c.at_mut.ensures.value c.reserve.ensures.seen ∙ c.loop-d.invariant.same;
  room = room-set c.loop-d.sinks c.loop-d.d c.args.counts.now c.at_mut.result.now c.reserve.new.self c.at_mut.ensures.value c.loop-d.invariant.room c.in_ok-reserve.ensures.room;
}
