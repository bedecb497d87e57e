use Rattle.std.proofs.Common.{ℕ, refl, ap, sym, ◌∙◌}
use Rattle.sg_stable.specs.Cell.{word}
use Rattle.sg_stable.proofs.cell.Pair.at_front.Goals as goal

pub returns-clause-cell : goal.returns-clause-cell
returns-clause-cell c = record {
  size = c.requires;
  selects = refl;
  holds = ap (λ (at : ℕ). word at c.args.bytes.now) (sym c.slot_of.ensures) ∙ sym c.word_at-value.ensures;
}
