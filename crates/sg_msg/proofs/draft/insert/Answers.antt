use Rattle.std.proofs.Common.{ap, sym, subst, ◌∙◌}
use Rattle.sg_msg.specs.Parts.{value_in, pairs_in, AreIn}
use Rattle.sg_msg.proofs.TextLemmas.{pairs-stay, pairs-there, extends-none, value-keeps, value-keeps-there}
use Rattle.sg_msg.proofs.PartChanges.{on-err, inserted, inserted-within}
use Rattle.sg_msg.proofs.draft.insert.Goals as goal

-- the name is kept, and nothing says it
pub returns-in_err-insert-clause-err : goal.returns-in_err-insert-clause-err
returns-in_err-insert-clause-err c =
    let item = c.args.texts.now.item in
    let old = c.args.texts.now.own.items in
    let middle = c.keep_name.new.own.items in
    on-err c.from_residual-in_err-insert.result
    (ap (pairs_in item middle) c.in_err-insert.ensures.items ∙ pairs-stay item old middle c.args.pairs.now.items c.in_ok-name.ensures.ok.stays c.requires.within)

pub returns-in_err-insert-clause-within : goal.returns-in_err-insert-clause-within
returns-in_err-insert-clause-within c =
    let old = c.args.texts.now.own.items in
    let middle = c.keep_name.new.own.items in
    subst (AreIn middle) (sym c.in_err-insert.ensures.items) (pairs-there old middle c.args.pairs.now.items c.in_ok-name.ensures.ok.stays c.requires.within)

-- the pair stands at its place
pub returns-clause-ok : goal.returns-clause-ok
returns-clause-ok c =
    let item = c.args.texts.now.item in
    let old = c.args.texts.now.own.items in
    let middle = c.keep_name.new.own.items in
    let stays = c.in_ok-name.ensures.ok.stays in
    ap (pairs_in item middle) c.in_ok-insert.ensures.items
    ∙ inserted item old middle middle c.args.pairs.now.items c.args.name (value_in item old c.args.value) c.in_ok-name.name c.args.value c.requires.within c.in_ok-name.ensures.ok (extends-none middle)
    (value-keeps-there old middle c.args.value stays c.requires.value) (value-keeps item old middle c.args.value stays c.requires.value) c.args.place

pub returns-clause-within : goal.returns-clause-within
returns-clause-within c =
    let item = c.args.texts.now.item in
    let old = c.args.texts.now.own.items in
    let middle = c.keep_name.new.own.items in
    let stays = c.in_ok-name.ensures.ok.stays in
    subst (AreIn middle) (sym c.in_ok-insert.ensures.items)
    (inserted-within item old middle middle c.args.pairs.now.items c.args.name (value_in item old c.args.value) c.in_ok-name.name c.args.value c.requires.within c.in_ok-name.ensures.ok (extends-none middle)
    (value-keeps-there old middle c.args.value stays c.requires.value) (value-keeps item old middle c.args.value stays c.requires.value) c.args.place)
