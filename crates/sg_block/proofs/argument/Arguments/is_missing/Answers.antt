use Rattle.std.proofs.Common.{◌+◌, drop, ap, ◌∙◌, sym}
use Rattle.sg_list.proofs.ListLemmas.{drop-get}
use Rattle.sg_block.specs.Arguments.{is_missing}
use Rattle.sg_block.proofs.Arguing.{is_missing-here, is_missing-more}
use Rattle.sg_block.proofs.argument.Arguments.is_missing.Goals as goal

pub returns-then-is_lacking : goal.returns-then-is_lacking
returns-then-is_lacking c =
    let all = c.args.self.now in
    let given = c.args.given.now in
    let place = c.loop-place.place in
    sym (c.loop-place.invariant
    ∙ ap (λ xs. is_missing xs given) (drop-get all place _ c.at.ensures)
    ∙ is_missing-here c.at.result.now (drop (place + 1) all) given (sym (c.is_lacking.ensures given c.in_ok-names.ensures) ∙ c.if-is_lacking.true))

pub loop-place-preserved : goal.loop-place-preserved
loop-place-preserved c =
    let all = c.args.self.now in
    let given = c.args.given.now in
    let place = c.loop-place.place in
    c.loop-place.invariant
    ∙ ap (λ xs. is_missing xs given) (drop-get all place _ c.at.ensures)
    ∙ is_missing-more c.at.result.now (drop (place + 1) all) given (sym (c.is_lacking.ensures given c.in_ok-names.ensures) ∙ c.if-is_lacking.false)
