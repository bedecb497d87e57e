use Rattle.std.proofs.Common.{◌≡◌, ℕ, List, ap, sym, subst, ◌∙◌, insert}
use Rattle.std.proofs.lemmas.Result.{on_ok_weaker}
use Rattle.sg_msg.specs.Message.{NameValue}
use Rattle.sg_msg.specs.Places.{IsPairAt, IsGapFor}
use Rattle.sg_msg.specs.Parts.{value_in, pairs_of}
use Rattle.sg_msg.specs.declared.pair.Pair.{Pair}
use Rattle.sg_msg.proofs.PairPlaces.{with-gap}
use Rattle.sg_msg.proofs.DraftLemmas.{set-there, set-within}
use Rattle.sg_msg.proofs.draft.set_pair.Goals as goal

-- the pair of the name has the new value
pub returns-in-Ok-clause-ok : goal.returns-in-Ok-clause-ok
returns-in-Ok-clause-ok c =
    let texts = c.args.texts.now in
    let place = c.in-Ok.place in
    let named = subst (λ (n : List ℕ). IsPairAt (pairs_of texts c.as_slice.result.now) n place) c.as_slice-2.ensures c.in-Ok.ensures.found in
    let found = subst (λ (ps : List Pair). IsPairAt (pairs_of texts ps) c.args.name.now place) c.as_slice.ensures.value named in
    set-there texts.item texts.own.items c.args.pairs.now.items c.replace.new.pairs.items place c.args.value c.args.name.now found c.replace.ensures c.requires.ascending

pub returns-in-Ok-clause-within : goal.returns-in-Ok-clause-within
returns-in-Ok-clause-within c =
    let texts = c.args.texts.now in
    let place = c.in-Ok.place in
    let named = subst (λ (n : List ℕ). IsPairAt (pairs_of texts c.as_slice.result.now) n place) c.as_slice-2.ensures c.in-Ok.ensures.found in
    let found = subst (λ (ps : List Pair). IsPairAt (pairs_of texts ps) c.args.name.now place) c.as_slice.ensures.value named in
    set-within texts.item texts.own.items c.args.pairs.now.items c.replace.new.pairs.items place c.args.value c.args.name.now found c.replace.ensures c.requires.within c.requires.value

-- the pair stands in the gap
pub returns-in_ok-clone-in-Err-clause-ok : goal.returns-in_ok-clone-in-Err-clause-ok
returns-in_ok-clone-in-Err-clause-ok c =
    let texts = c.args.texts.now in
    let place = c.in-Err.place in
    let value = value_in texts.item texts.own.items c.args.value in
    let pairs = pairs_of texts c.args.pairs.now.items in
    let named = subst (λ (n : List ℕ). IsGapFor (pairs_of texts c.as_slice.result.now) n place) c.as_slice-2.ensures c.in-Err.ensures.absent in
    let gap = subst (λ (ps : List Pair). IsGapFor (pairs_of texts ps) c.args.name.now place) c.as_slice.ensures.value named in
    on_ok_weaker c.insert.result
    (λ e. e ∙ ap (λ (n : List ℕ). insert pairs place (record { name = n; value = value })) c.in_ok-clone-in-Err.ensures.cases ∙ sym (with-gap c.args.name.now value pairs place gap))
    c.insert.ensures.ok
