use Rattle.std.proofs.Common.{◌≡◌, ◌+◌, ◌∷◌, [], ◌++◌, List, take, sym, ap, ap₂, ◌∙◌, arith}
use Rattle.std.proofs.lemmas.List.{take_more}
use Rattle.sg_tree.specs.Offers.{TopStatement as Statement}
use Rattle.sg_table.specs.Forest.{statement_at}
use Rattle.sg_table.proofs.Parts.{map-last-at}
use Rattle.sg_table.proofs.share.shared_tops.Goals as goal

pub loop-top-preserved : goal.loop-top-preserved
loop-top-preserved c = λ at.
    let ts = c.args.tops.now in
    let i = c.loop-top.top-index in
    let t = c.top-item.result in
    let copies = c.loop-top.copies.items in
    let next : take (i + 1) ts ≡ take i ts ++ t ∷ [] = take_more ts i t (omega arith) ∙ ap (λ y. take i ts ++ y ∷ []) (sym c.top-item.is) in
    map-last-at (statement_at at) copies c.push.new.self.items c.in_ok-shared_top.field-0 c.in_ok-push.ensures.items
    ∙ ap₂ (λ (xs : List Statement) (x : Statement). xs ++ x ∷ []) (c.loop-top.invariant at) (c.in_ok-shared_top.ensures at)
    ∙ sym (map-last-at (statement_at at) (take i ts) (take (i + 1) ts) t next)
