use Rattle.std.proofs.Common.{inl, inr, arith, ◌∙◌, sym}
use Rattle.sg_frame.proofs.ItemLemmas.{trimmed-last_kept, trimmed-last_blank, is_trailing-yes, is_trailing-no}
use Rattle.sg_frame.proofs.scan.trim.Goals as goal
use Rattle.sg_frame.proofs.scan.trim.Goals.{else-last-ne13-via-then-last-ne13+else-last-ne0, else-last-ne13-via-else-last-ne13}

pub returns-then-last-ne0 : goal.returns-then-last-ne0
returns-then-last-ne0 c =
    let text = c.loop-text.text.now in
    sym (trimmed-last_kept text (omega arith) (is_trailing-no _ c.if-last-ne13.true c.if-last-ne0.true)) ∙ c.loop-text.invariant

pub loop-text-preserved : goal.loop-text-preserved
loop-text-preserved c =
    let text = c.loop-text.text.now in
    trimmed-last_blank text (omega arith)
    (elim c.else-last-ne13.branch [ else-last-ne13-via-then-last-ne13+else-last-ne0 w ↦ is_trailing-yes _ (inr w.if-last-ne0.false) | else-last-ne13-via-else-last-ne13 w ↦ is_trailing-yes _ (inl w.if-last-ne13.false) ])
    ∙ c.loop-text.invariant
