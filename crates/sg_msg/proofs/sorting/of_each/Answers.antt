use Rattle.std.proofs.Common.{List, [], get_or, take, ap, subst, sym, ◌∙◌}
use Rattle.sg_msg.specs.Message.{NameValue, with_pair, IsAscending}
use Rattle.sg_msg.specs.Parts.{name_in, value_in, pairs_of, IsPairIn}
use Rattle.sg_msg.specs.declared.pair.Name.TheVariants.{Host}
use Rattle.sg_msg.specs.declared.pair.Text.TheVariants.{Part}
use Rattle.sg_msg.specs.declared.pair.Pair.{Pair}
use Rattle.sg_msg.proofs.ManyPairs.{ascending-all}
use Rattle.sg_msg.proofs.TextLemmas.{all-with}
use Rattle.sg_msg.proofs.PartChanges.{all-step}
use Rattle.sg_msg.proofs.sorting.of_each.Goals as goal

-- what was set ascends
pub add-requires : goal.add-requires
add-requires c =
    subst IsAscending (sym c.loop-pair.invariant.0) (ascending-all (pairs_of c.args.texts.now (take c.loop-pair.pair-index c.args.pairs.now)) [] tt)

-- a pair more is set
pub loop-pair-preserved : goal.loop-pair-preserved
loop-pair-preserved c =
    let texts = c.args.texts.now in
    let pairs = c.args.pairs.now in
    let i = c.loop-pair.pair-index in
    let blank : Pair = record { name = Host; value = Part 0 0 } in
    let pair = get_or pairs i blank in (
      c.in_ok-add.ensures.pairs
          ∙ ap (λ (ps : List NameValue). with_pair (name_in texts.own.items pair.name) (value_in texts.item texts.own.items pair.value) ps) c.loop-pair.invariant.0
          ∙ sym (all-step texts.item texts.own.items [] pairs i blank c.loop-pair-test.true),
      λ all. c.in_ok-add.ensures.within (all-with (IsPairIn texts.own.items) pair c.loop-pair.kept.items (all i blank c.loop-pair-test.true) (c.loop-pair.invariant.1 all)),
    )
