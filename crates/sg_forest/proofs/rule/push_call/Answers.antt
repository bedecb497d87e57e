use Rattle.std.proofs.Common.{◌∙◌, map, sym, ap}
use Rattle.std.specs.Option.{option_to_list}
use Rattle.sg_forest.specs.Written.{written_of}
use Rattle.sg_forest.proofs.Rules.{call-made}
use Rattle.sg_forest.proofs.rule.push_call.Goals as goal

pub returns-in_ok-append-in-Some : goal.returns-in_ok-append-in-Some
returns-in_ok-append-in-Some c = λ named.
    call-made c.args.names.now named c.args.call.now c.in-Some.rule _ _ (ap (λ o. map written_of (option_to_list o)) (sym c.in-Some.is) ∙ c.in_ok-rule.ensures) c.in_ok-append-in-Some.ensures
