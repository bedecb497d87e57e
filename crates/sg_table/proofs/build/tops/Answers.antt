use Rattle.std.proofs.Common.{◌≡◌, ◌+◌, [], ◌∷◌, ◌++◌, map, take, sym, ap, ◌∙◌, arith}
use Rattle.std.proofs.lemmas.List.{take_more}
use Rattle.sg_filter.proofs.Turning.{only-more}
use Rattle.sg_tree.specs.Offers.{top_view}
use Rattle.sg_table.specs.Patterns.{path_patterns}
use Rattle.sg_table.proofs.Parts.{map-last-at, one-top}
use Rattle.sg_table.proofs.Patterned.{refused-item, valid-last}
use Rattle.sg_table.proofs.build.tops.Goals as goal

pub returns-in-Err-clause-makes : goal.returns-in-Err-clause-makes
returns-in-Err-clause-makes g c =
    let p = c.one-item.result in
    refused-item (path_patterns c.args.named.now) c.args.paths.now c.loop-one.one-index p p _ _ _ c.in-Err.refusal (omega arith) c.one-item.is c.loop-one.invariant.only c.in-Err.ensures.makes

pub loop-one-preserved : goal.loop-one-preserved
loop-one-preserved g c =
    let named = c.args.named.now in
    let ps = c.args.paths.now in
    let i = c.loop-one.one-index in
    let p = c.one-item.result in
    let inv = c.loop-one.invariant in
    let next : take (i + 1) ps ≡ take i ps ++ p ∷ [] = take_more ps i p (omega arith) ∙ ap (λ y. take i ps ++ y ∷ []) (sym c.one-item.is) in
    record {
      compiled = one-top named c.args.pipes.now.items c.loop-one.pipes.items c.top.new.pipes.items c.loop-one.tops.items c.append.new.items.items c.in-Ok.top p
          (map (top_view named) (take i ps)) (map (top_view named) (take (i + 1) ps)) inv.compiled c.in-Ok.ensures.compiled c.in-Ok.ensures.top c.in_ok-append-in-Ok.ensures
          (map-last-at (top_view named) (take i ps) (take (i + 1) ps) p next);
      valid = valid-last (map (path_patterns named) (take i ps)) (path_patterns named p) (map (path_patterns named) (take (i + 1) ps)) inv.valid c.in-Ok.ensures.makes.0 (map-last-at (path_patterns named) (take i ps) (take (i + 1) ps) p next);
      stays = c.in-Ok.ensures.makes.1 ∙ inv.stays;
      only = only-more _ _ _ inv.only c.in-Ok.ensures.only;
    }
