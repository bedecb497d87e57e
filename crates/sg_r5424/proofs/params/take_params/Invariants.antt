use Rattle.std.proofs.Common.{length}
use Rattle.sg_r5424.specs.Spans.{span_text, EndsItem}
use Rattle.sg_r5424.proofs.ParamLemmas.{ParamsSoFar}
use Rattle.sg_r5424.proofs.params.take_params.Given as goal

-- the text is still what the item ends with
abbrev pub invariant-params : goal.invariant-params
invariant-params l =
    EndsItem l.initial.builder.item l.text
    × ParamsSoFar (span_text l.initial.builder.item l.id) l.initial.text l.initial.builder l.text l.builder

abbrev pub decreases-params : goal.decreases-params
decreases-params l = length l.text
