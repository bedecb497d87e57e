use Rattle.std.proofs.Common.{◌≡◌, ◌+◌, ◌∷◌, [], ◌++◌, take, sym, ap, ◌∙◌, arith}
use Rattle.std.proofs.lemmas.List.{take_more}
use Rattle.sg_table.proofs.Sharing.{same-last}
use Rattle.sg_table.proofs.share.shared_pipes.Goals as goal

pub loop-pipe-preserved : goal.loop-pipe-preserved
loop-pipe-preserved c =
    let ps = c.args.pipes.now in
    let i = c.loop-pipe.pipe-index in
    let p = c.pipe-item.result in
    let next : take (i + 1) ps ≡ take i ps ++ p ∷ [] = take_more ps i p (omega arith) ∙ ap (λ y. take i ps ++ y ∷ []) (sym c.pipe-item.is) in
    same-last (take i ps) (take (i + 1) ps) c.loop-pipe.copies.items c.push.new.self.items p c.in_ok-shared_pipe.field-0
    c.loop-pipe.invariant c.in_ok-shared_pipe.ensures next c.in_ok-push.ensures.items
