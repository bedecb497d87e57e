use Rattle.std.proofs.Common.{◌+◌, drop, ap, sym, ◌∙◌}
use Rattle.sg_msg.specs.Message.{Content}
use Rattle.sg_rewrite.specs.Rewritten.{set_each}
use Rattle.sg_rewrite.proofs.Walks.{set-step}
use Rattle.sg_msg.proofs.PairWalks.{name-of}
use Rattle.sg_rewrite.proofs.groups.set_group.Goals as goal

pub set_picked-requires : goal.set_picked-requires
set_picked-requires c = name-of c.args.message.now.pairs c.loop-place.place c.in-Some.name.now c.in-Some._value.now c.pri-pri.ensures.whole.names c.in-Some.ensures

pub loop-place-preserved : goal.loop-place-preserved
loop-place-preserved c =
    let pairs = c.args.message.now.pairs in
    let place = c.loop-place.place in
    let globs = c.args.globs.now in
    let parts = c.args.text.now in
    ap (λ (content : Content). set_each globs parts (drop (place + 1) pairs) content) c.in_ok-set_picked.ensures
    ∙ sym (set-step globs parts pairs place c.in-Some.name.now c.in-Some._value.now c.loop-place.changed c.in-Some.ensures)
    ∙ c.loop-place.invariant
