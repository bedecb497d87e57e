use Rattle.std.proofs.Common.{ℕ, List, ap, sym, subst, ◌∙◌, slice_range}
use Rattle.sg_msg.specs.Message.{NameValue, with_pair, IsAscending}
use Rattle.sg_msg.specs.Drafts.{Drafted}
use Rattle.sg_msg.specs.Parts.{own_text}
use Rattle.sg_msg.specs.declared.pair.Text.TheVariants.{Own}
use Rattle.sg_msg.proofs.TextLemmas.{pairs-stay, pairs-there, extends-text, kept-text, kept-within}
use Rattle.sg_msg.proofs.PartChanges.{on-err}
use Rattle.sg_msg.proofs.DraftLemmas.{text-there, none-view, none-message, put-view, put-message}
use Rattle.sg_msg.proofs.draft.Draft.put.Goals as goal

-- the value is kept, and nothing says it
pub set_pair-requires-clause-ascending : goal.set_pair-requires-clause-ascending
set_pair-requires-clause-ascending c =
    let inside = c.self.inside in
    let item = inside.texts.item in
    let pairs = inside.pairs.items in
    let old = inside.texts.own.items in
    let middle = c.keep.new.own.items in
    let kept = c.in_ok-keep.ensures.ok in
    let stays = extends-text old middle c.in_ok-keep.field-0 c.args.value kept in
    subst IsAscending (sym (pairs-stay item old middle pairs stays c.self.invariant.1)) c.self.invariant.0.ascending

pub set_pair-requires-clause-within : goal.set_pair-requires-clause-within
set_pair-requires-clause-within c =
    let inside = c.self.inside in
    let item = inside.texts.item in
    let pairs = inside.pairs.items in
    let old = inside.texts.own.items in
    let middle = c.keep.new.own.items in
    let kept = c.in_ok-keep.ensures.ok in
    let stays = extends-text old middle c.in_ok-keep.field-0 c.args.value kept in
    pairs-there old middle pairs stays c.self.invariant.1

pub set_pair-requires-clause-value : goal.set_pair-requires-clause-value
set_pair-requires-clause-value c =
    let inside = c.self.inside in
    let item = inside.texts.item in
    let pairs = inside.pairs.items in
    let old = inside.texts.own.items in
    let middle = c.keep.new.own.items in
    let kept = c.in_ok-keep.ensures.ok in
    let stays = extends-text old middle c.in_ok-keep.field-0 c.args.value kept in
    kept-within old middle c.in_ok-keep.field-0 c.args.value kept

pub invariant_of-self-in_err-last : goal.invariant_of-self-in_err-last
invariant_of-self-in_err-last c =
    let inside = c.self.inside in
    let item = inside.texts.item in
    let pairs = inside.pairs.items in
    let old = inside.texts.own.items in
    let middle = c.keep.new.own.items in
    let kept = c.in_ok-keep.ensures.ok in
    let stays = extends-text old middle c.in_ok-keep.field-0 c.args.value kept in (
      none-message inside.pri inside.sent inside.received inside.tags item old middle pairs c.set_pair.new.texts c.set_pair.new.pairs.items inside.text stays c.in_err-last.ensures.stays c.self.invariant.1 c.self.invariant.2 c.in_err-last.ensures.err c.self.invariant.0,
      c.in_err-last.ensures.within,
      text-there inside.pri inside.sent inside.received inside.tags item old middle pairs c.set_pair.new.texts c.set_pair.new.pairs.items inside.text stays c.in_err-last.ensures.stays c.self.invariant.1 c.self.invariant.2,
    )

pub returns-in_err-last-clause-err : goal.returns-in_err-last-clause-err
returns-in_err-last-clause-err c =
    let inside = c.self.inside in
    let item = inside.texts.item in
    let pairs = inside.pairs.items in
    let old = inside.texts.own.items in
    let middle = c.keep.new.own.items in
    let kept = c.in_ok-keep.ensures.ok in
    let stays = extends-text old middle c.in_ok-keep.field-0 c.args.value kept in
    on-err c.from_residual-in_err-last.result (none-view inside.pri inside.sent inside.received inside.tags item old middle pairs c.set_pair.new.texts c.set_pair.new.pairs.items inside.text stays c.in_err-last.ensures.stays c.self.invariant.1 c.self.invariant.2 c.in_err-last.ensures.err ∙ c.self.view_is)

-- the name has the value
pub invariant_of-self-2 : goal.invariant_of-self-2
invariant_of-self-2 c =
    let inside = c.self.inside in
    let item = inside.texts.item in
    let pairs = inside.pairs.items in
    let old = inside.texts.own.items in
    let middle = c.keep.new.own.items in
    let kept = c.in_ok-keep.ensures.ok in
    let stays = extends-text old middle c.in_ok-keep.field-0 c.args.value kept in (
      put-message inside.pri inside.sent inside.received inside.tags item old middle pairs c.set_pair.new.texts c.set_pair.new.pairs.items inside.text stays c.in_ok-last.ensures.stays c.self.invariant.1 c.self.invariant.2 c.args.name.now (c.args.value) (Own c.in_ok-keep.field-0) (kept-text old middle c.in_ok-keep.field-0 c.args.value kept) c.in_ok-last.ensures.ok c.requires c.self.invariant.0,
      c.in_ok-last.ensures.within,
      text-there inside.pri inside.sent inside.received inside.tags item old middle pairs c.set_pair.new.texts c.set_pair.new.pairs.items inside.text stays c.in_ok-last.ensures.stays c.self.invariant.1 c.self.invariant.2,
    )

pub returns-clause-ok : goal.returns-clause-ok
returns-clause-ok c =
    let inside = c.self.inside in
    let item = inside.texts.item in
    let pairs = inside.pairs.items in
    let old = inside.texts.own.items in
    let middle = c.keep.new.own.items in
    let kept = c.in_ok-keep.ensures.ok in
    let stays = extends-text old middle c.in_ok-keep.field-0 c.args.value kept in
    put-view inside.pri inside.sent inside.received inside.tags item old middle pairs c.set_pair.new.texts c.set_pair.new.pairs.items inside.text stays c.in_ok-last.ensures.stays c.self.invariant.1 c.self.invariant.2 c.args.name.now (c.args.value) (Own c.in_ok-keep.field-0) (kept-text old middle c.in_ok-keep.field-0 c.args.value kept) c.in_ok-last.ensures.ok
    ∙ ap (λ (d : Drafted). record d { message = record d.message { pairs = with_pair c.args.name.now c.args.value d.message.pairs } }) c.self.view_is
