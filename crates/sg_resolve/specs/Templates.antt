-- The texts of templates by their names.
use Rattle.std.specs.Prelude.{ℕ, if◌then◌else◌, List, [], Option, Some, None}
use Rattle.std.specs.List.{fold}
use Rattle.std.specs.FinMap as map
use Rattle.sg_parse_base.specs.declared.spot.Spot.{Spot}
use Rattle.sg_parse_obj.specs.declared.object.Object.{Object}
use Rattle.sg_parse_obj.specs.declared.object.Object.TheVariants as object
use Rattle.sg_parse_text.specs.declared.statement.Statement.{Statement}
use Rattle.sg_parse_text.specs.declared.statement.Statement.TheVariants as statement
use Rattle.sg_resolve.specs.declared.templates.TemplateTexts.{TemplateTexts}

-- a template that gives no text is empty
abbrev pub text_of : Option Spot → List ℕ
text_of None = []
text_of (Some spot) = spot.token.text

-- the first of a name counts
abbrev pub with_template : TemplateTexts → Spot → Option Spot → TemplateTexts
with_template texts name text = record {
  texts = if map.contains_key texts.texts name.token.text then texts.texts
      else map.insert texts.texts name.token.text (text_of text);
}

abbrev pub with_object : TemplateTexts → Object → TemplateTexts
with_object texts (object.Template name text) = with_template texts name text
with_object texts _ = texts

abbrev pub with_statement : TemplateTexts → Statement → TemplateTexts
with_statement texts (statement.Object object) = with_object texts object
with_statement texts (statement.Log log) = texts

unfoldable pub templates_of : List Statement → TemplateTexts
templates_of statements = fold with_statement (record { texts = map.empty }) statements

-- the text of a template of that name, where there is one
abbrev pub text_in : TemplateTexts → List ℕ → Option (List ℕ)
text_in texts name = map.get texts.texts name
