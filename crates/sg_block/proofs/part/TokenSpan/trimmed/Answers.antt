use Rattle.std.proofs.Common.{◌≡◌, ◌-◌, suc, length, arith, sym, ◌∙◌}
use Rattle.sg_block.proofs.Within.{trimmed-true, trimmed-false, trimmed-empty}
use Rattle.sg_block.proofs.part.TokenSpan.trimmed.Goals as goal

pub returns-then-count-eq0 : goal.returns-then-count-eq0
returns-then-count-eq0 c = trimmed-empty c.args.self (omega (arith, c.len-count.ensures))

pub returns-then-not-is_symbol_at : goal.returns-then-not-is_symbol_at
returns-then-not-is_symbol_at c =
    let one : length c.args.self ≡ suc (c.len-count.result - 1) = omega (arith, c.len-count.ensures) in
    trimmed-false c.args.self (c.len-count.result - 1) one (sym c.is_symbol_at.ensures.value ∙ c.if-not-is_symbol_at.true)

pub returns : goal.returns
returns c =
    let one : length c.args.self ≡ suc (c.len-count.result - 1) = omega (arith, c.len-count.ensures) in
    c.before-2.ensures ∙ trimmed-true c.args.self (c.len-count.result - 1) one (sym c.is_symbol_at.ensures.value ∙ c.if-not-is_symbol_at.false)
