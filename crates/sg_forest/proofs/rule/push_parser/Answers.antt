use Rattle.std.proofs.Common.{◌∙◌, sym}
use Rattle.sg_forest.proofs.Parsers.{parser-made, parser-lost}
use Rattle.sg_forest.proofs.rule.push_parser.Goals as goal

pub returns-in_ok-append-in-Some : goal.returns-in_ok-append-in-Some
returns-in_ok-append-in-Some c = λ named. parser-made named c.args.call.now c.in-Some.rule _ _ (sym c.in-Some.is ∙ c.in_ok-rule.ensures) c.in_ok-append-in-Some.ensures

pub returns-in-None : goal.returns-in-None
returns-in-None c = λ named. parser-lost named c.args.call.now _ (sym c.in-None.is ∙ c.in_ok-rule.ensures)
