use Rattle.std.proofs.Common.{subst, sym}
use Rattle.sg_table.proofs.Listed.{lists-pushed}
use Rattle.sg_table.specs.Listing.{ListsPatterns, waiting_patterns}
use Rattle.sg_table.proofs.listing.PatternListing.turn.Goals as goal

pub returns-in_ok-list-in-Pattern : goal.returns-in_ok-list-in-Pattern
returns-in_ok-list-in-Pattern c =
    subst (λ one. ListsPatterns c.args.named.now (waiting_patterns c.args.named.now one) c.args.self.now c.list.new.self) (sym c.in-Pattern.is) (c.in_ok-list-in-Pattern.ensures c.args.named.now)

pub returns-in_ok-open_expr-in-One : goal.returns-in_ok-open_expr-in-One
returns-in_ok-open_expr-in-One c =
    subst (λ one. ListsPatterns c.args.named.now (waiting_patterns c.args.named.now one) c.args.self.now c.open_expr.new.self) (sym c.in-One.is) (lists-pushed c.args.named.now _ c.args.self.now c.open_expr.new.self c.in_ok-open_expr-in-One.ensures)

pub returns-in_ok-open_exprs-in-Several : goal.returns-in_ok-open_exprs-in-Several
returns-in_ok-open_exprs-in-Several c =
    subst (λ one. ListsPatterns c.args.named.now (waiting_patterns c.args.named.now one) c.args.self.now c.open_exprs.new.self) (sym c.in-Several.is) (lists-pushed c.args.named.now _ c.args.self.now c.open_exprs.new.self (c.in_ok-open_exprs-in-Several.ensures c.args.named.now))

pub returns-in_ok-open_rules-in-Rules : goal.returns-in_ok-open_rules-in-Rules
returns-in_ok-open_rules-in-Rules c =
    subst (λ one. ListsPatterns c.args.named.now (waiting_patterns c.args.named.now one) c.args.self.now c.open_rules.new.self) (sym c.in-Rules.is) (lists-pushed c.args.named.now _ c.args.self.now c.open_rules.new.self c.in_ok-open_rules-in-Rules.ensures)

pub returns-in_ok-open_elements-in-Elements : goal.returns-in_ok-open_elements-in-Elements
returns-in_ok-open_elements-in-Elements c =
    subst (λ one. ListsPatterns c.args.named.now (waiting_patterns c.args.named.now one) c.args.self.now c.open_elements.new.self) (sym c.in-Elements.is) (lists-pushed c.args.named.now _ c.args.self.now c.open_elements.new.self c.in_ok-open_elements-in-Elements.ensures)

pub returns-in_ok-open_branches-in-Branches : goal.returns-in_ok-open_branches-in-Branches
returns-in_ok-open_branches-in-Branches c =
    subst (λ one. ListsPatterns c.args.named.now (waiting_patterns c.args.named.now one) c.args.self.now c.open_branches.new.self) (sym c.in-Branches.is) (lists-pushed c.args.named.now _ c.args.self.now c.open_branches.new.self c.in_ok-open_branches-in-Branches.ensures)

pub returns-in_ok-open_paths-in-Paths : goal.returns-in_ok-open_paths-in-Paths
returns-in_ok-open_paths-in-Paths c =
    subst (λ one. ListsPatterns c.args.named.now (waiting_patterns c.args.named.now one) c.args.self.now c.open_paths.new.self) (sym c.in-Paths.is) (lists-pushed c.args.named.now _ c.args.self.now c.open_paths.new.self (c.in_ok-open_paths-in-Paths.ensures c.args.named.now))
