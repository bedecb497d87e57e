use Rattle.std.proofs.Common.{List, ap, subst, sym, ◌∙◌}
use Rattle.std.proofs.lemmas.List.{map-set}
use Rattle.std.proofs.lemmas.List.Elements.{All-set}
use Rattle.sg_msg.specs.Places.{IsPairAt, IsGapFor}
use Rattle.sg_msg.specs.Parts.{name_in, value_in, pair_of, pairs_of, IsPairIn, AreIn}
use Rattle.sg_msg.specs.declared.pair.Pair.{Pair}
use Rattle.sg_msg.proofs.PairPlaces.{with-at, with-gap}
use Rattle.sg_msg.proofs.TextLemmas.{all-first, all-tail}
use Rattle.sg_msg.proofs.PartChanges.{map-insert, all-insert}
use Rattle.sg_msg.proofs.sorting.add.Goals as goal

-- the pair stands in the place of the one of its name
pub returns-in-Ok-clause-pairs : goal.returns-in-Ok-clause-pairs
returns-in-Ok-clause-pairs c =
    let texts = c.args.texts.now in
    let pair = c.args.pair in
    let old = c.args.pairs.now.items in
    let name = name_in texts.own.items pair.name in
    let found = subst (λ (ps : List Pair). IsPairAt (pairs_of texts ps) name c.in-Ok.place) c.as_slice.ensures.value c.in-Ok.ensures.found in
    map-set (pair_of texts) old c.in-Ok.place pair
    ∙ sym (with-at name (value_in texts.item texts.own.items pair.value) (pairs_of texts old) c.in-Ok.place c.requires found)

pub returns-in-Ok-clause-within : goal.returns-in-Ok-clause-within
returns-in-Ok-clause-within c = λ all.
    let holds = IsPairIn c.args.texts.now.own.items in
    let old = c.args.pairs.now.items in
    All-set holds old c.in-Ok.place c.args.pair (all-first holds c.args.pair old all) (all-tail holds c.args.pair old all)

-- the pair stands in the gap
pub returns-in_ok-insert-in-Err-clause-pairs : goal.returns-in_ok-insert-in-Err-clause-pairs
returns-in_ok-insert-in-Err-clause-pairs c =
    let texts = c.args.texts.now in
    let pair = c.args.pair in
    let old = c.args.pairs.now.items in
    let name = name_in texts.own.items pair.name in
    let gap = subst (λ (ps : List Pair). IsGapFor (pairs_of texts ps) name c.in-Err.place) c.as_slice.ensures.value c.in-Err.ensures.absent in
    ap (pairs_of texts) c.in_ok-insert-in-Err.ensures.items
    ∙ map-insert (pair_of texts) old c.in-Err.place pair
    ∙ sym (with-gap name (value_in texts.item texts.own.items pair.value) (pairs_of texts old) c.in-Err.place gap)

pub returns-in_ok-insert-in-Err-clause-within : goal.returns-in_ok-insert-in-Err-clause-within
returns-in_ok-insert-in-Err-clause-within c = λ all.
    let own = c.args.texts.now.own.items in
    let old = c.args.pairs.now.items in
    subst (AreIn own) (sym c.in_ok-insert-in-Err.ensures.items)
    (all-insert (IsPairIn own) old c.in-Err.place c.args.pair (all-first (IsPairIn own) c.args.pair old all) (all-tail (IsPairIn own) c.args.pair old all))
