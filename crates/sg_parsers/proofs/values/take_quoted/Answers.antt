use Rattle.std.proofs.Common.{drop, ap, ◌∙◌}
use Rattle.sg_parsers.proofs.ValueLemmas.{behind-quotes}
use Rattle.sg_parsers.proofs.values.take_quoted.Goals as goal

pub returns-clause-rest : goal.returns-clause-rest
returns-clause-rest c =
    c.advance-2.ensures ∙ ap (drop 1) (c.in_ok-between.ensures.rest ∙ ap (drop c.args.len) c.advance.ensures) ∙ behind-quotes c.args.len c.args.text.now
