-- What stands for options that drivers leave out, and the texts of templates: both of the whole text, wherever a statement stands.
use Rattle.std.specs.Prelude.{List}
use Rattle.std.specs.List.{fold}
use Rattle.sg_parse_obj.specs.declared.object.Object.{Object}
use Rattle.sg_parse_obj.specs.declared.object.Object.TheVariants as object
use Rattle.sg_parse_text.specs.declared.statement.Statement.{Statement}
use Rattle.sg_parse_text.specs.declared.statement.Statement.TheVariants as statement
use Rattle.sg_driver.specs.declared.defaults.Defaults.{Defaults}
use Rattle.sg_driver.specs.Defaults.{no_options, with_options}
use Rattle.sg_resolve.specs.Templates.{templates_of}
use Rattle.sg_plan.specs.declared.globals.Globals.{Globals}

abbrev pub with_object : Defaults → Object → Defaults
with_object defaults (object.Options calls) = with_options calls defaults
with_object defaults _ = defaults

abbrev pub with_statement : Defaults → Statement → Defaults
with_statement defaults (statement.Object object) = with_object defaults object
with_statement defaults (statement.Log log) = defaults

-- a later option counts before an earlier one
unfoldable pub defaults_of : List Statement → Defaults
defaults_of statements = fold with_statement no_options statements

abbrev pub globals_of : List Statement → Globals
globals_of statements = record {
  defaults = defaults_of statements;
  texts = templates_of statements;
}
