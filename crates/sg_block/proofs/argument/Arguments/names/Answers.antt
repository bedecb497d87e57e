use Rattle.std.proofs.Common.{◌≡◌, ◌+◌, ◌-◌, ◌∷◌, drop, ap, ◌∙◌, arith, subst, sym}
use Rattle.sg_list.proofs.ListLemmas.{drop-get}
use Rattle.sg_block.specs.Arguments.{HasNames}
use Rattle.sg_block.proofs.Arguing.{names-start, names-step}
use Rattle.sg_block.proofs.argument.Arguments.names.Goals as goal

pub loop-place-init : goal.loop-place-init
loop-place-init c = record {
  within = omega (arith, c.len-place.ensures);
  names = subst (λ n. HasNames c.new-names.result (drop n c.args.self.now)) (sym c.len-place.ensures) (names-start c.args.self.now c.new-names.result c.new-names.ensures);
}

pub loop-place-preserved : goal.loop-place-preserved
loop-place-preserved c =
    let all = c.args.self.now in
    let place = c.loop-place.place - 1 in
    let next : place + 1 ≡ c.loop-place.place = omega arith in
    record {
      within = omega arith;
      names = names-step c.loop-place.names c.add_name.new.names c.at.result.now all place c.loop-place.place c.in_ok-add_name.ensures c.loop-place.invariant.names (drop-get all place _ c.at.ensures ∙ ap (λ n. c.at.result.now ∷ drop n all) next);
    }
