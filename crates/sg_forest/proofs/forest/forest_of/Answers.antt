use Rattle.std.proofs.Common.{Bor, ◌∙◌, ◌++◌, [], List, map, refl, ap, subst}
use Rattle.std.specs.List.{flat_map}
use Rattle.sg_parse_expr.specs.declared.tree.Call.{Call}
use Rattle.sg_forest.specs.Statements.{written_at, logs_of, parsers_of}
use Rattle.sg_forest.specs.Adds.{AddsTops}
use Rattle.sg_forest.proofs.Whole.{forest-made}
use Rattle.sg_forest.proofs.forest.forest_of.Goals as goal

pub returns : goal.returns
returns c =
    let names = c.args.names.now in
    let ends = c.args.ends.now in
    let statements = c.args.statements.now in
    forest-made names ends c.args.inlets.items statements _ (map (λ calls. calls.now) c.in_ok-calls.calls.items) (map (λ calls. calls.now) c.push_parsers_by_place.new.found.items)
    c.in_ok-calls.ensures (c.in_ok-push_parsers_by_place.ensures ∙ ap (λ (calls : List (List Call)). calls ++ parsers_of statements) c.in_ok-calls.ensures) refl (c.in_ok-dests.ensures ∙ c.len.ensures) c.in_ok-filters.ensures
    (c.in_ok-rewrites.ensures ∙ ap (λ (calls : List (Bor (List Call))). flat_map (written_at names) (map (λ b. b.now) calls)) c.deref.ensures.value)
    (subst (λ (calls : List (Bor (List Call))). AddsTops names ends (map (λ b. b.now) calls) (logs_of statements) [] c.in_ok-paths.paths.items) c.deref-2.ensures.value c.in_ok-paths.ensures)
