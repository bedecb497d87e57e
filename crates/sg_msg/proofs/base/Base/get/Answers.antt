use Rattle.std.proofs.Common.{◌≡◌, ℕ, List, Option, Some, slice_get, get_or, ap, subst, sym, ◌∙◌}
use Rattle.sg_msg.specs.Message.{NameValue}
use Rattle.sg_msg.specs.Parts.{pair_of, pairs_of}
use Rattle.sg_msg.specs.declared.pair.Pair.{Pair}
use Rattle.sg_msg.specs.Places.{IsPairAt, IsGapFor}
use Rattle.sg_msg.proofs.PairPlaces.{value-at, value-gap}
use Rattle.sg_msg.proofs.PartChanges.{said-at}
use Rattle.sg_msg.proofs.base.Base.get.Goals as goal

-- the name is at its place, and the pair there is the one that was read
pub returns-in-Ok : goal.returns-in-Ok
returns-in-Ok c =
    let texts = c.self.inside.texts in
    let pair = c.pair_at.result in
    let said = pair_of texts pair in
    let is = subst (λ (ps : List Pair). slice_get ps c.in-Ok.place ≡ Some pair) c.as_slice-in-Ok.ensures.value c.pair_at.ensures in
    let at = subst (λ (ps : List NameValue). get_or ps c.in-Ok.place said ≡ said) c.self.view_is (said-at texts.item texts.own.items c.self.inside.pairs.items c.in-Ok.place pair said is) in
    let some : List ℕ → Option (List ℕ) = λ v. Some v in
    let whole = ap (pairs_of texts) c.as_slice-2.ensures.value ∙ c.self.view_is in
    let found = subst (λ (ps : List NameValue). IsPairAt ps c.args.name.now c.in-Ok.place) whole c.in-Ok.ensures.found in
    ap some c.value.ensures
    ∙ sym (value-at c.args.name.now c.args.self.now c.in-Ok.place said c.requires found ∙ ap (λ (p : NameValue). some p.value) at)

-- the name isn't there
pub returns-in-Err : goal.returns-in-Err
returns-in-Err c =
    let whole = ap (pairs_of c.self.inside.texts) c.as_slice-2.ensures.value ∙ c.self.view_is in
    let gap = subst (λ (ps : List NameValue). IsGapFor ps c.args.name.now c.in-Err.field-0) whole c.in-Err.ensures.absent in
    sym (value-gap c.args.name.now c.args.self.now c.in-Err.field-0 gap)
