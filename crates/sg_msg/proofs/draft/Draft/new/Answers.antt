use Rattle.std.proofs.Common.{ℕ, List, ap, sym, subst, ◌∙◌}
use Rattle.sg_msg.specs.Message.{NameValue, Content, IsMessage}
use Rattle.sg_msg.specs.Drafts.{Drafted}
use Rattle.sg_msg.specs.Parts.{own_text}
use Rattle.sg_msg.proofs.TextLemmas.{pairs-stay, pairs-there, extends-text, kept-text, kept-within}
use Rattle.sg_msg.proofs.draft.Draft.new.Goals as goal

-- the text is kept, and the pairs say what they said
pub invariant_of-result : goal.invariant_of-result
invariant_of-result c =
    let item = c.args.parts.0.item in
    let old = c.args.parts.0.own.items in
    let new = c.keep.new.own.items in
    let pairs = c.args.parts.1.items in
    let kept = c.in_ok-text.ensures.ok in
    let stays = extends-text old new c.in_ok-text.text c.args.text kept in
    let content : List NameValue → Content = λ ps. record { pri = c.args.pri; sent = c.args.sent; received = c.args.received; pairs = ps; tags = c.args.tags } in (
      subst (λ (ps : List NameValue). IsMessage (content ps)) (sym (pairs-stay item old new pairs stays c.requires.within)) c.requires.message,
      pairs-there old new pairs stays c.requires.within,
      kept-within old new c.in_ok-text.text c.args.text kept,
    )

pub returns : goal.returns
returns c =
    let item = c.args.parts.0.item in
    let old = c.args.parts.0.own.items in
    let new = c.keep.new.own.items in
    let pairs = c.args.parts.1.items in
    let kept = c.in_ok-text.ensures.ok in
    let stays = extends-text old new c.in_ok-text.text c.args.text kept in
    let drafted : List NameValue → List ℕ → Drafted = λ ps t. record { message = record { pri = c.args.pri; sent = c.args.sent; received = c.args.received; pairs = ps; tags = c.args.tags }; text = t } in
    ap (λ (ps : List NameValue). drafted ps (own_text new c.in_ok-text.text)) (pairs-stay item old new pairs stays c.requires.within)
    ∙ ap (drafted _) (kept-text old new c.in_ok-text.text c.args.text kept)
