use Rattle.std.proofs.Common.{◌≡◌, List, map, Err, sym, ap₂, ◌∙◌, subst}
use Rattle.sg_filter.specs.declared.expr.Expr.{Expr}
use Rattle.sg_tree.specs.Offers.{top_view}
use Rattle.sg_tree.specs.declared.tree.Path.{Path}
use Rattle.sg_table.specs.Fans.{ChecksBounds}
use Rattle.sg_table.specs.Forest.{statement_at}
use Rattle.sg_table.specs.Patterns.{RefusesPatterns, siblings_patterns}
use Rattle.sg_table.specs.Table.{steps_at}
use Rattle.sg_table.specs.declared.pipe.Pipe.{Pipe}
use Rattle.sg_table.specs.declared.pipe.Top.{Top}
use Rattle.sg_table.proofs.Tables.{table-none}
use Rattle.sg_table.proofs.Whole.{refused-path, refused-bound}
use Rattle.sg_table.proofs.compiling.made.Goals as goal

pub returns-in-Err-clause-refused : goal.returns-in-Err-clause-refused
returns-in-Err-clause-refused g c =
    let old = g.B.Machine.state c.args.builder.now in
    let new = g.B.Machine.state c.tops.new.builder in
    let why = c.in-Err.refusal in
    refused-path c.args.forest.now old new why
    (subst (λ (x : List Path). RefusesPatterns old new (siblings_patterns c.args.forest.now.filters.items x) why) c.deref.ensures.value
    (subst (λ (x : List Expr). RefusesPatterns old new (siblings_patterns x c.deref.result.now) why) c.as_slice-named.ensures.value c.in-Err.ensures.makes))

pub returns-in-Err-check_bounds-clause-refused : goal.returns-in-Err-check_bounds-clause-refused
returns-in-Err-check_bounds-clause-refused g c =
    let forest = c.args.forest.now in
    let named = forest.filters.items in
    let why = c.in-Err-check_bounds.refusal in
    let same : map (statement_at (steps_at c.deref-4.result.now)) c.deref-3.result.now ≡ map (top_view named) c.deref-2.result.now =
    ap₂ (λ (ps : List Pipe) (ts : List Top). map (statement_at (steps_at ps)) ts) c.deref-4.ensures.value c.deref-3.ensures.value
    ∙ c.in-Ok.ensures.compiled.means
    ∙ ap₂ (λ (ns : List Expr) (ps : List Path). map (top_view ns) ps) c.as_slice-named.ensures.value (c.deref.ensures.value ∙ sym c.deref-2.ensures.value) in
    refused-bound forest (g.B.Machine.state c.args.builder.now) (g.B.Machine.state c.tops.new.builder) why c.in-Ok.ensures.makes.1
    (subst (λ (x : List Path). ChecksBounds named x (Err why)) c.deref-2.ensures.value (c.in-Err-check_bounds.ensures named same))

pub invariant_of-result : goal.invariant_of-result
invariant_of-result g c = record { in_order = c.in-Ok.ensures.compiled.grows.in_order (table-none c.new-pipes.result.items c.new-pipes.ensures.items) }

pub returns-clause-stays : goal.returns-clause-stays
returns-clause-stays g c = c.in-Ok.ensures.makes.1
