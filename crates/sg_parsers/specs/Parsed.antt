-- What parsers make of messages.
use Rattle.std.specs.Prelude.{ℕ, Bool, true, List, take, None}
use Rattle.sg_msg.specs.Message.{Content}
use Rattle.sg_template.specs.Own.{own_env}
use Rattle.sg_template.specs.Render.{render_of}
use Rattle.sg_parsers.specs.declared.parser.MessageParser.{MessageParser}
use Rattle.sg_parsers.specs.declared.parser.MessageParser.TheVariants.{Csv, Kv}
use Rattle.sg_parsers.specs.declared.rule.ParserRule.{ParserRule}
use Rattle.sg_parsers.specs.Csv.{csv_takes, csv_parsed}
use Rattle.sg_parsers.specs.Pairs.{kv_parsed}

-- the parser doesn't refuse the text
abbrev pub takes : MessageParser → List ℕ → Bool
takes (Csv csv) text = csv_takes csv text
takes (Kv kv) text = true

-- the message that it gives
abbrev pub parsed : MessageParser → List ℕ → Content → Content
parsed (Csv csv) text content = csv_parsed csv text content
parsed (Kv kv) text content = kv_parsed kv text content

-- the text that is parsed: the template's, of which 1,048,576 bytes count
unfoldable pub text_of : ParserRule → Content → List ℕ
text_of rule content = take 1048576 (render_of rule.text content (own_env None))

abbrev pub rule_takes : ParserRule → Content → Bool
rule_takes rule content = takes rule.parser (text_of rule content)

abbrev pub rule_parsed : ParserRule → Content → Content
rule_parsed rule content = parsed rule.parser (text_of rule content) content
