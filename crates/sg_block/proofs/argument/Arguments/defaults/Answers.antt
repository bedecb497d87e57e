use Rattle.std.proofs.Common.{◌+◌, ◌++◌, drop, ap, ◌∙◌}
use Rattle.sg_list.proofs.ListLemmas.{drop-get}
use Rattle.sg_block.specs.Arguments.{defaults}
use Rattle.sg_block.proofs.Arguing.{defaults-step}
use Rattle.sg_block.proofs.argument.Arguments.defaults.Goals as goal

pub loop-place-preserved : goal.loop-place-preserved
loop-place-preserved c =
    let all = c.args.self.now in
    let given = c.args.given.now in
    let place = c.loop-place.place in
    c.loop-place.invariant
    ∙ ap (λ xs. c.loop-place.left ++ defaults xs given) (drop-get all place _ c.at-parameter.ensures)
    ∙ defaults-step c.at-parameter.result.now (drop (place + 1) all) given c.is_among-known.result c.loop-place.left c.keep_copy.new.left c.in_ok-keep_copy.ensures (c.is_among-known.ensures given c.in_ok-names.ensures)
