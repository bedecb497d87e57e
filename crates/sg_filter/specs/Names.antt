-- What a name stands for.
use Rattle.std.specs.Prelude.{Option, None, Some}
use Rattle.sg_filter.specs.declared.expr.Expr.{Expr}

-- what comes of the expression that a name stands for, where there is one
abbrev pub of_named : {A : Type 0} → A → (Expr → A) → Option Expr → A
of_named other f None = other
of_named other f (Some e) = f e
