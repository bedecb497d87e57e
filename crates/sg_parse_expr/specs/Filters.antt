-- Filters: what is read, or the first fault.
use Rattle.std.specs.Prelude.{List}
use Rattle.sg_parse_base.specs.Input.{Parser}
use Rattle.sg_parse_expr.specs.declared.tree.Call.{Call}
use Rattle.sg_parse_expr.specs.declared.tree.Arg.{Arg}
use Rattle.sg_parse_expr.specs.declared.class.Class.TheVariants.{Name}
use Rattle.sg_parse_expr.specs.declared.form.FilterTable.{FilterTable}
use Rattle.sg_parse_expr.specs.declared.form.FilterForm.{FilterForm}
use Rattle.sg_parse_expr.specs.declared.form.FilterForm.TheVariants as filter
use Rattle.sg_parse_expr.specs.Forms.{row_of, filter_options, filters}
use Rattle.sg_parse_expr.specs.Args.{flat_args, called, nested, named}

unfoldable pub filter_option : FilterTable → Parser Arg
filter_option table = nested (called (row_of (filter_options table)) flat_args)

unfoldable pub filter_args : FilterForm → Parser (List Arg)
filter_args (filter.Flat form) = flat_args form
filter_args (filter.Pattern table) = named Name (filter_option table)

unfoldable pub filter_call : Parser Call
filter_call = called (row_of filters) filter_args
