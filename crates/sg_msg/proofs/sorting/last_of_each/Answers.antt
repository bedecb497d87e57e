use Rattle.std.proofs.Common.{List, [], get_or, ap, sym, ◌∙◌}
use Rattle.sg_msg.specs.Message.{NameValue}
use Rattle.sg_msg.specs.Sorting.{put_last}
use Rattle.sg_msg.specs.Parts.{pair_of, IsPairIn}
use Rattle.sg_msg.specs.declared.pair.Name.TheVariants.{Host}
use Rattle.sg_msg.specs.declared.pair.Text.TheVariants.{Part}
use Rattle.sg_msg.specs.declared.pair.Pair.{Pair}
use Rattle.sg_msg.proofs.TextLemmas.{all-with}
use Rattle.sg_msg.proofs.PartChanges.{each-step}
use Rattle.sg_msg.proofs.sorting.last_of_each.Goals as goal

-- a pair more is put
pub loop-pair-preserved : goal.loop-pair-preserved
loop-pair-preserved c =
    let texts = c.args.texts.now in
    let pairs = c.args.pairs.now in
    let i = c.loop-pair.pair-index in
    let blank : Pair = record { name = Host; value = Part 0 0 } in
    let pair = get_or pairs i blank in (
      c.in_ok-put_last.ensures.pairs
          ∙ ap (λ (ps : List NameValue). put_last (pair_of texts pair) ps) c.loop-pair.invariant.0
          ∙ sym (each-step texts.item texts.own.items [] pairs i blank c.loop-pair-test.true),
      λ all. c.in_ok-put_last.ensures.within (all-with (IsPairIn texts.own.items) pair c.loop-pair.kept.items (all i blank c.loop-pair-test.true) (c.loop-pair.invariant.1 all)),
    )
