use Rattle.std.proofs.Common.{◌≡◌, ◌+◌, ◌∷◌, [], ◌++◌, List, take, sym, ap, ap₂, ◌∙◌, arith}
use Rattle.std.proofs.lemmas.List.{take_more}
use Rattle.sg_table.specs.declared.fan.Fan.{Fan}
use Rattle.sg_table.specs.Fans.{fan}
use Rattle.sg_table.specs.Table.{place, read, steps_of}
use Rattle.sg_table.proofs.Parts.{map-last-at}
use Rattle.sg_table.proofs.Tables.{read-append}
use Rattle.sg_table.proofs.bound.fans_of.Goals as goal

pub loop-pipe-preserved : goal.loop-pipe-preserved
loop-pipe-preserved c =
    let ps = c.args.pipes.now in
    let i = c.loop-pipe.pipe-index in
    let p = c.pipe-item.result in
    let seen = read [] (take i ps) in
    let next : take (i + 1) ps ≡ take i ps ++ p ∷ [] = take_more ps i p (omega arith) ∙ ap (λ y. take i ps ++ y ∷ []) (sym c.pipe-item.is) in
    let grown : read [] (take (i + 1) ps) ≡ seen ++ steps_of (place seen) p ∷ [] = ap (read []) next ∙ read-append [] (take i ps) (p ∷ []) in
    let one : c.fan_of-fan.result ≡ fan (steps_of (place seen) p) = c.fan_of-fan.ensures seen (c.deref.ensures.value ∙ c.loop-pipe.invariant) in
    c.in_ok-push.ensures.items ∙ ap₂ (λ (fs : List Fan) (f : Fan). fs ++ f ∷ []) c.loop-pipe.invariant one
    ∙ sym (map-last-at fan seen (read [] (take (i + 1) ps)) (steps_of (place seen) p) grown)
