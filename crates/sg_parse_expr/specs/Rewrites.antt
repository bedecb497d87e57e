-- Rewrites: what is read, or the first fault.
use Rattle.std.specs.Prelude.{ℕ, List, [], ◌∷◌, Ok}
use Rattle.sg_parse_base.specs.Input.{Parser, ◌>>=◌, symbol}
use Rattle.sg_parse_base.specs.Lists.{many}
use Rattle.sg_parse_expr.specs.declared.tree.Call.{Call}
use Rattle.sg_parse_expr.specs.declared.tree.Arg.{Arg}
use Rattle.sg_parse_expr.specs.declared.tree.Arg.TheVariants.{Test}
use Rattle.sg_parse_expr.specs.declared.class.Class.TheVariants.{Name, Template}
use Rattle.sg_parse_expr.specs.declared.form.RewriteTable.{RewriteTable}
use Rattle.sg_parse_expr.specs.declared.form.RewriteOption.{RewriteOption}
use Rattle.sg_parse_expr.specs.declared.form.RewriteOption.TheVariants as option
use Rattle.sg_parse_expr.specs.declared.form.RewriteForm.{RewriteForm}
use Rattle.sg_parse_expr.specs.declared.form.RewriteForm.TheVariants as rewrite
use Rattle.sg_parse_expr.specs.Forms.{row_of, rewrite_options, rewrites}
use Rattle.sg_parse_expr.specs.Args.{flat_args, called, nested, named, paired}
use Rattle.sg_parse_expr.specs.Expr.{expr}

-- an expression in parentheses of the option's own, with groups in it nested so deep
unfoldable pub condition : ℕ → Parser (List Arg)
condition depth spots = do
  opened ← symbol 40 spots
  x ← expr depth opened.1
  closed ← symbol 41 x.1
  Ok (Test x.0 ∷ [], closed.1)

unfoldable pub option_args : ℕ → RewriteOption → Parser (List Arg)
option_args depth (option.Flat form) = flat_args form
option_args depth option.Condition = condition depth

unfoldable pub rewrite_option : ℕ → RewriteTable → Parser Arg
rewrite_option depth table = nested (called (row_of (rewrite_options table)) (option_args depth))

unfoldable pub rewrite_args : ℕ → RewriteForm → Parser (List Arg)
rewrite_args depth (rewrite.Options table) = many (rewrite_option depth table)
rewrite_args depth (rewrite.Named class table) = named class (rewrite_option depth table)
rewrite_args depth (rewrite.Pattern table) = paired Name Template (rewrite_option depth table)

unfoldable pub rewrite_call : ℕ → Parser Call
rewrite_call depth = called (row_of rewrites) (rewrite_args depth)
