use Rattle.std.proofs.Common.{◌≤◌, ℕ, List, sym, subst, refl, codes, arith}
use Rattle.sg_msg.specs.Macros.{is_hard, date_macros, other_macros}
use Rattle.sg_msg.specs.Message.{IsPairName}
use Rattle.bench_parts.proofs.filters.op.Goals as goal

may : IsPairName (codes "MESSAGE")
unfolding is_hard date_macros other_macros
may = (omega arith, omega arith, refl)

pub returns : goal.returns
returns c = subst (λ (name : List ℕ). IsPairName name) (sym c.in_ok-name.ensures) may
