use Rattle.std.proofs.Common.{◌++◌, List, length, map, refl, sym, ap, ◌∙◌}
use Rattle.std.proofs.lemmas.List.{append_assoc}
use Rattle.sg_filter.specs.Patterns.{joined, patterns_within}
use Rattle.sg_filter.specs.declared.expr.Expr.{Expr}
use Rattle.sg_table.specs.Patterns.{rules_patterns, siblings_patterns}
use Rattle.sg_table.specs.declared.listing.PatternListing.{PatternListing}
use Rattle.sg_table.proofs.Listed.{begins, pushes-more, pushes-one}
use Rattle.sg_table.proofs.listing.begun.Goals as goal

pub returns : goal.returns
returns c =
    let named = c.args.forest.now.filters.items in
    let start : PatternListing = record { found = c.new.result; waiting = c.new-2.result } in
    let siblings = siblings_patterns named c.as_slice.result.now in
    let rules = rules_patterns named c.as_slice-2.result.now in
    let filters = joined (map (patterns_within (length c.as_slice-exprs.result.now) named) c.as_slice-exprs.result.now) in
    let one = c.in_ok-push.ensures in
    let two = c.in_ok-push-2.ensures in
    let three = c.in_ok-push-3.ensures in
    let f = ap (λ (es : List Expr). joined (map (patterns_within (length es) named) es)) c.as_slice-exprs.ensures.value in
    let r = ap (rules_patterns named) c.as_slice-2.ensures.value in
    let s = ap (siblings_patterns named) c.as_slice.ensures.value in
    begins named (filters ++ (rules ++ siblings)) start c.push-3.new.self c.new.ensures.items c.new-2.ensures.items
    (pushes-more named (rules ++ siblings) filters _ start c.push-2.new.self c.push-3.new.self refl
    (pushes-more named siblings rules _ start c.push.new.self c.push-2.new.self refl
    (pushes-one named start c.push.new.self _ one.0 one.1)
    (pushes-one named c.push.new.self c.push-2.new.self _ two.0 two.1))
    (pushes-one named c.push-2.new.self c.push-3.new.self _ three.0 three.1))
    ∙ sym (append_assoc filters rules siblings) ∙ (λ i. (f i ++ r i) ++ s i)
