use Rattle.std.proofs.Common.{length}
use Rattle.sg_r5424.specs.Spans.{EndsItem}
use Rattle.sg_r5424.proofs.ElementLemmas.{ElementsSoFar}
use Rattle.sg_r5424.proofs.elements.take_data.Given as goal

-- the text is still what the item ends with
abbrev pub invariant-elements : goal.invariant-elements
invariant-elements l =
    EndsItem l.initial.builder.item l.text
    × ElementsSoFar l.initial.text l.initial.builder l.text l.builder

abbrev pub decreases-elements : goal.decreases-elements
decreases-elements l = length l.text
