-- The values of rewrites with their conditions.
use Rattle.std.specs.Prelude.{List, [], ◌++◌, Option, Some, None}
use Rattle.std.specs.List.{flat_map}
use Rattle.sg_parse_expr.specs.declared.tree.Arg.{Arg, out-Arg}
use Rattle.sg_parse_expr.specs.declared.tree.Arg.TheOpen.{Arg-F}
use Rattle.sg_parse_expr.specs.declared.tree.Call.{Call}
use Rattle.sg_parse_expr.specs.declared.tree.RawExpr.{RawExpr}
use Rattle.sg_fault.specs.declared.placed.Placed.{Placed}
use Rattle.sg_options.specs.Settings.{args_of, nested_of}
use Rattle.sg_values.specs.Calls.{own_faults}
use Rattle.sg_values.specs.Expressions.{expression_faults}

abbrev pub test_at : Arg-F Arg RawExpr Call → List Placed
test_at (Arg-F.Test expr) = expression_faults expr
test_at _ = []

unfoldable pub test_faults : Arg → List Placed
test_faults arg = test_at (out-Arg arg)

abbrev pub condition_at : Option Call → List Placed
condition_at None = []
condition_at (Some option) = flat_map test_faults (args_of option)

-- a condition stands in an option
abbrev pub condition_faults : Arg → List Placed
condition_faults arg = condition_at (nested_of arg)

unfoldable pub rewrite_faults : Call → List Placed
rewrite_faults call = own_faults call ++ flat_map condition_faults (args_of call)
