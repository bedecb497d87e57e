use Rattle.std.proofs.Common.{◌∙◌}
use Rattle.sg_parsers.proofs.Walks.{pair-on}
use Rattle.sg_msg.proofs.PairWalks.{name-of}
use Rattle.sg_parsers.proofs.set.keep_pairs.Goals as goal

pub keep-requires : goal.keep-requires
keep-requires c = name-of c.args.message.now.pairs c.loop-place.place c.in-Some.name.now c.in-Some.value.now c.pri-pri.ensures.whole.names c.in-Some.ensures

pub loop-place-preserved : goal.loop-place-preserved
loop-place-preserved c =
    pair-on c.loop-place.builder c.keep.new.builder c.args.message.now.pairs c.loop-place.place c.in-Some.name.now c.in-Some.value.now c.in-Some.ensures c.in_ok-keep.ensures
    ∙ c.loop-place.invariant
