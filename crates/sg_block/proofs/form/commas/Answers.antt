use Rattle.std.proofs.Common.{sym, ◌∙◌}
use Rattle.sg_block.specs.Tokens.{is_symbol}
use Rattle.sg_block.proofs.Commas.{prefix-more, prefix-stop}
use Rattle.sg_block.proofs.form.commas.Goals as goal

pub returns-then-not-is_symbol_at-clause-value : goal.returns-then-not-is_symbol_at-clause-value
returns-then-not-is_symbol_at-clause-value c = prefix-stop (is_symbol 44) c.args.tokens.now c.loop-count.count c.loop-count.invariant (sym c.is_symbol_at.ensures.value ∙ c.if-not-is_symbol_at.true)

pub loop-count-preserved : goal.loop-count-preserved
loop-count-preserved c = prefix-more (is_symbol 44) c.args.tokens.now c.loop-count.count c.loop-count.invariant (sym c.is_symbol_at.ensures.value ∙ c.if-not-is_symbol_at.false)
