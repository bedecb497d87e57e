use Rattle.std.proofs.Common.{◌≡◌, ℕ, ◌+◌, ◌-◌, if◌then◌else◌, drop, ap, sym, ◌∙◌, arith}
use Rattle.sg_msg.specs.Message.{Content}
use Rattle.sg_rewrite.specs.Values.{without_value}
use Rattle.sg_rewrite.specs.Rewritten.{is_picked, unset_each}
use Rattle.sg_rewrite.proofs.Walks.{unset-step}
use Rattle.sg_msg.proofs.PairWalks.{name-of}
use Rattle.sg_rewrite.proofs.groups.unset_few.Goals as goal

pub unset_picked-requires : goal.unset_picked-requires
unset_picked-requires c = name-of c.args.message.now.pairs (c.pairs.place - 1) c.in-Some.name.now c.in-Some._value.now c.pri-pri.ensures.whole.names c.in-Some.ensures

pub pairs-preserved : goal.pairs-preserved
pairs-preserved c =
    let content = c.args.message.now in
    let globs = c.args.globs.now in
    let name = c.in-Some.name.now in
    let place = c.pairs.place - 1 in
    let next : c.pairs.place ≡ place + 1 = omega (arith, c.pairs-test.true) in
    let before : c.pairs.changed ≡ unset_each globs (drop (place + 1) content.pairs) content =
    c.pairs.invariant.changed ∙ ap (λ (n : ℕ). unset_each globs (drop n content.pairs) content) next in
    record {
      within = omega (arith, c.pairs.invariant.within);
      changed = c.in_ok-unset_picked.ensures
          ∙ ap (λ (m : Content). if is_picked globs name then without_value name m else m) before
          ∙ sym (unset-step globs content.pairs place name c.in-Some._value.now content c.in-Some.ensures);
    }
