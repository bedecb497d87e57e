use Rattle.std.proofs.Common.{◌+◌, drop, ap, ◌∙◌, sym}
use Rattle.sg_list.proofs.ListLemmas.{drop-get}
use Rattle.sg_block.specs.Arguments.{is_unknown}
use Rattle.sg_block.proofs.Arguing.{is_unknown-here, is_unknown-more}
use Rattle.sg_block.proofs.argument.Arguments.is_unknown.Goals as goal

pub returns-then-not-is_among : goal.returns-then-not-is_among
returns-then-not-is_among c =
    let all = c.args.self.now in
    let given = c.args.given.now in
    let place = c.loop-place.place in
    sym (c.loop-place.invariant
    ∙ ap (is_unknown all) (drop-get given place _ c.at.ensures)
    ∙ is_unknown-here all c.at.result.now (drop (place + 1) given) (sym (c.is_among.ensures all c.in_ok-names.ensures) ∙ c.if-not-is_among.true))

pub loop-place-preserved : goal.loop-place-preserved
loop-place-preserved c =
    let all = c.args.self.now in
    let given = c.args.given.now in
    let place = c.loop-place.place in
    c.loop-place.invariant
    ∙ ap (is_unknown all) (drop-get given place _ c.at.ensures)
    ∙ is_unknown-more all c.at.result.now (drop (place + 1) given) (sym (c.is_among.ensures all c.in_ok-names.ensures) ∙ c.if-not-is_among.false)
