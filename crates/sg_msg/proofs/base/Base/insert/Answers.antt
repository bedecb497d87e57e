use Rattle.std.proofs.Common.{ℕ, List, ap, sym, subst, ◌∙◌, insert}
use Rattle.sg_msg.specs.Message.{NameValue}
use Rattle.sg_msg.specs.Parts.{pairs_in, AreIn}
use Rattle.sg_msg.specs.declared.pair.Text.TheVariants.{Own}
use Rattle.sg_msg.proofs.TextLemmas.{pairs-stay, pairs-there, extends-two, extends-text, kept-text, kept-within}
use Rattle.sg_msg.proofs.PartChanges.{on-err, inserted, inserted-within}
use Rattle.sg_msg.proofs.base.Base.insert.Goals as goal

-- the name is kept, and nothing says it
pub returns-in_err-keep-clause-err : goal.returns-in_err-keep-clause-err
returns-in_err-keep-clause-err c =
    let item = c.self.inside.texts.item in
    let pairs = c.self.inside.pairs.items in
    let old = c.self.inside.texts.own.items in
    let middle = c.keep_name.new.own.items in
    on-err c.from_residual-in_err-keep.result
    (ap (λ (own : List (List ℕ)). pairs_in item own pairs) c.in_err-keep.ensures.err
    ∙ pairs-stay item old middle pairs c.in_ok-name.ensures.ok.stays c.self.invariant ∙ c.self.view_is)

pub invariant_of-self-in_err-insert : goal.invariant_of-self-in_err-insert
invariant_of-self-in_err-insert c =
    let old = c.self.inside.texts.own.items in
    let middle = c.keep_name.new.own.items in
    let new = c.keep.new.own.items in
    let extends = extends-two old middle new c.in_ok-name.ensures.ok.stays (extends-text middle new c.in_ok-keep.field-0 c.args.value c.in_ok-keep.ensures.ok) in
    subst (AreIn new) (sym c.in_err-insert.ensures.items) (pairs-there old new c.self.inside.pairs.items extends c.self.invariant)

-- both are kept, and nothing says them
pub returns-in_err-insert-clause-err : goal.returns-in_err-insert-clause-err
returns-in_err-insert-clause-err c =
    let item = c.self.inside.texts.item in
    let pairs = c.self.inside.pairs.items in
    let old = c.self.inside.texts.own.items in
    let middle = c.keep_name.new.own.items in
    let new = c.keep.new.own.items in
    let extends = extends-two old middle new c.in_ok-name.ensures.ok.stays (extends-text middle new c.in_ok-keep.field-0 c.args.value c.in_ok-keep.ensures.ok) in
    on-err c.from_residual-in_err-insert.result
    (ap (pairs_in item new) c.in_err-insert.ensures.items ∙ pairs-stay item old new pairs extends c.self.invariant ∙ c.self.view_is)

pub invariant_of-self-2 : goal.invariant_of-self-2
invariant_of-self-2 c =
    let old = c.self.inside.texts.own.items in
    let middle = c.keep_name.new.own.items in
    let new = c.keep.new.own.items in
    let k = c.in_ok-keep.field-0 in
    let kept = c.in_ok-keep.ensures.ok in
    subst (AreIn new) (sym c.in_ok-insert.ensures.items)
    (inserted-within c.self.inside.texts.item old middle new c.self.inside.pairs.items c.args.name c.args.value c.in_ok-name.name (Own k) c.self.invariant c.in_ok-name.ensures.ok (extends-text middle new k c.args.value kept) (kept-within middle new k c.args.value kept) (kept-text middle new k c.args.value kept) c.args.place)

pub returns-clause-ok : goal.returns-clause-ok
returns-clause-ok c =
    let item = c.self.inside.texts.item in
    let old = c.self.inside.texts.own.items in
    let middle = c.keep_name.new.own.items in
    let new = c.keep.new.own.items in
    let k = c.in_ok-keep.field-0 in
    let kept = c.in_ok-keep.ensures.ok in
    ap (pairs_in item new) c.in_ok-insert.ensures.items
    ∙ inserted item old middle new c.self.inside.pairs.items c.args.name c.args.value c.in_ok-name.name (Own k) c.self.invariant c.in_ok-name.ensures.ok (extends-text middle new k c.args.value kept) (kept-within middle new k c.args.value kept) (kept-text middle new k c.args.value kept) c.args.place
    ∙ ap (λ (ps : List NameValue). insert ps c.args.place (record { name = c.args.name; value = c.args.value })) c.self.view_is
