use Rattle.std.proofs.Common.{Bor, ◌∙◌, List, sym, ap}
use Rattle.std.specs.List.{flat_map}
use Rattle.std.proofs.lemmas.List.{take_all}
use Rattle.std.proofs.lemmas.List.Folds.{flat_map-map}
use Rattle.sg_parse_expr.specs.declared.tree.Call.{Call}
use Rattle.sg_forest.specs.Statements.{written_at}
use Rattle.sg_forest.proofs.statement.rules_of.Goals as goal

pub returns : goal.returns
returns c =
    c.loop-calls.invariant
    ∙ ap (flat_map (λ (calls : Bor (List Call)). written_at c.args.names.now calls.now)) (take_all c.loop-calls.calls-index c.args.rewrites.now c.loop-calls-test.false)
    ∙ sym (flat_map-map (written_at c.args.names.now) (λ calls. calls.now) c.args.rewrites.now)
