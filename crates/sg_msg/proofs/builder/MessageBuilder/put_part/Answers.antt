use Rattle.std.proofs.Common.{ℕ, List, [], ◌∷◌, ◌++◌, ap, sym, subst, ◌∙◌, slice_range}
use Rattle.sg_msg.specs.Message.{NameValue, HaveNames}
use Rattle.sg_msg.specs.Build.{Build, name_of}
use Rattle.sg_msg.specs.Parts.{pairs_in, AreIn}
use Rattle.sg_msg.specs.declared.pair.Pair.{Pair}
use Rattle.sg_msg.proofs.KnownNames.{named}
use Rattle.sg_msg.proofs.ManyPairs.{names-end}
use Rattle.sg_msg.proofs.TextLemmas.{pairs-stay, pairs-there, extends-two}
use Rattle.sg_msg.proofs.PartChanges.{on-err, names-stay, pushed, pushed-within}
use Rattle.sg_msg.proofs.builder.MessageBuilder.put_part.Goals as goal

-- the name is kept, and nothing says it
pub invariant_of-self-in_err-value : goal.invariant_of-self-in_err-value
invariant_of-self-in_err-value c =
    let inside = c.self.inside in
    let item = inside.texts.item in
    let pairs = inside.pairs.items in
    let old = inside.texts.own.items in
    let middle = c.keep_pair_name.new.own.items in
    let inv = c.self.invariant in
    let stays = c.in_ok-name.ensures.ok.stays in (
      inv.0,
      inv.1,
      inv.2,
      subst (λ (own : List (List ℕ)). HaveNames (pairs_in item own pairs)) (sym c.in_err-value.ensures.err) (names-stay item old middle pairs stays inv.5 inv.3),
      inv.4,
      subst (λ (own : List (List ℕ)). AreIn own pairs) (sym c.in_err-value.ensures.err) (pairs-there old middle pairs stays inv.5),
    )

pub returns-in_err-value-clause-err : goal.returns-in_err-value-clause-err
returns-in_err-value-clause-err c =
    let inside = c.self.inside in
    let item = inside.texts.item in
    let pairs = inside.pairs.items in
    let old = inside.texts.own.items in
    let middle = c.keep_pair_name.new.own.items in
    let build : List NameValue → Build = λ ps. record { pri = inside.pri; sent = inside.sent; received = inside.received; item = item; put = ps; tags = inside.tags } in
    on-err c.from_residual-in_err-value.result
    (ap build (ap (λ (own : List (List ℕ)). pairs_in item own pairs) c.in_err-value.ensures.err ∙ pairs-stay item old middle pairs c.in_ok-name.ensures.ok.stays c.self.invariant.5)
    ∙ c.self.view_is)

-- both are kept, and nothing says them
pub invariant_of-self-in_err-push : goal.invariant_of-self-in_err-push
invariant_of-self-in_err-push c =
    let inside = c.self.inside in
    let item = inside.texts.item in
    let pairs = inside.pairs.items in
    let old = inside.texts.own.items in
    let middle = c.keep_pair_name.new.own.items in
    let new = c.keep_part.new.own.items in
    let inv = c.self.invariant in
    let extends = extends-two old middle new c.in_ok-name.ensures.ok.stays c.in_ok-value.ensures.ok.stays in (
      inv.0,
      inv.1,
      inv.2,
      subst (λ (ps : List Pair). HaveNames (pairs_in item new ps)) (sym c.in_err-push.ensures.items) (names-stay item old new pairs extends inv.5 inv.3),
      inv.4,
      subst (AreIn new) (sym c.in_err-push.ensures.items) (pairs-there old new pairs extends inv.5),
    )

pub returns-in_err-push-clause-err : goal.returns-in_err-push-clause-err
returns-in_err-push-clause-err c =
    let inside = c.self.inside in
    let item = inside.texts.item in
    let pairs = inside.pairs.items in
    let old = inside.texts.own.items in
    let middle = c.keep_pair_name.new.own.items in
    let new = c.keep_part.new.own.items in
    let extends = extends-two old middle new c.in_ok-name.ensures.ok.stays c.in_ok-value.ensures.ok.stays in
    let build : List NameValue → Build = λ ps. record { pri = inside.pri; sent = inside.sent; received = inside.received; item = item; put = ps; tags = inside.tags } in
    on-err c.from_residual-in_err-push.result
    (ap build (ap (pairs_in item new) c.in_err-push.ensures.items ∙ pairs-stay item old new pairs extends c.self.invariant.5)
    ∙ c.self.view_is)

-- one more pair has a name that it may have
pub invariant_of-self-2 : goal.invariant_of-self-2
invariant_of-self-2 c =
    let inside = c.self.inside in
    let item = inside.texts.item in
    let pairs = inside.pairs.items in
    let old = inside.texts.own.items in
    let middle = c.keep_pair_name.new.own.items in
    let new = c.keep_part.new.own.items in
    let inv = c.self.invariant in
    let name = name_of c.args.name in
    let value = slice_range item c.args.from c.args.to in
    let all = names-end (pairs_in item old pairs) (record { name = name; value = value }) inv.3 (named c.args.name c.requires.name) in (
      inv.0,
      inv.1,
      inv.2,
      subst HaveNames (sym (ap (pairs_in item new) c.in_ok-push.ensures.items ∙ pushed item old middle new pairs name value c.in_ok-name.name c.in_ok-value.value inv.5 c.in_ok-name.ensures.ok c.in_ok-value.ensures.ok.stays c.in_ok-value.ensures.ok.there c.in_ok-value.ensures.ok.says)) all,
      inv.4,
      subst (AreIn new) (sym c.in_ok-push.ensures.items) (pushed-within item old middle new pairs name value c.in_ok-name.name c.in_ok-value.value inv.5 c.in_ok-name.ensures.ok c.in_ok-value.ensures.ok.stays c.in_ok-value.ensures.ok.there c.in_ok-value.ensures.ok.says),
    )

pub returns-clause-ok : goal.returns-clause-ok
returns-clause-ok c =
    let inside = c.self.inside in
    let item = inside.texts.item in
    let pairs = inside.pairs.items in
    let old = inside.texts.own.items in
    let middle = c.keep_pair_name.new.own.items in
    let new = c.keep_part.new.own.items in
    let name = name_of c.args.name in
    let value = slice_range item c.args.from c.args.to in
    let build : List NameValue → Build = λ ps. record { pri = inside.pri; sent = inside.sent; received = inside.received; item = item; put = ps; tags = inside.tags } in
    ap build (ap (pairs_in item new) c.in_ok-push.ensures.items ∙ pushed item old middle new pairs name value c.in_ok-name.name c.in_ok-value.value c.self.invariant.5 c.in_ok-name.ensures.ok c.in_ok-value.ensures.ok.stays c.in_ok-value.ensures.ok.there c.in_ok-value.ensures.ok.says)
    ∙ ap (λ (b : Build). record b { put = b.put ++ (record { name = name; value = slice_range b.item c.args.from c.args.to }) ∷ [] }) c.self.view_is
