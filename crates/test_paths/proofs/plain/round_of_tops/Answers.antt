use Rattle.std.proofs.Common.{◌≡◌, ◌+◌, Bool, true, false, ◌∷◌, drop, map, Vec, refl, sym, ap, ◌∙◌, arith}
use Rattle.std.specs.Prelude.{◌&&◌}
use Rattle.std.specs.declared.alloc.Global.{Global}
use Rattle.std.proofs.lemmas.List.{drop_more}
use Rattle.sg_msg.specs.declared.offer.Offer.{Offer}
use Rattle.test_paths.specs.Gives.{GivesWalked}
use Rattle.sg_tree.specs.Offers.{offered, top_view}
use Rattle.sg_tree.specs.Plain.{marks}
use Rattle.sg_tree.specs.Walk.{both, round}
use Rattle.test_paths.proofs.Going.{goes-on, ends-with, sofar-at}
use Rattle.test_paths.proofs.Tops.{mine, later, tops-skip, tops-end, tops-go-on}
use Rattle.test_paths.proofs.plain.round_of_tops.Goals as goal
use Rattle.test_paths.proofs.plain.round_of_tops.Goals.{then-takes_part+in_ok-mine+in_ok-join+else-ends, else-takes_part}

pub returns-then-ends : goal.returns-then-ends
returns-then-ends g c =
    let named = c.args.named.now in
    let ps = c.args.paths.now in
    let i = c.loop-path.path-index in
    let p = c.path-item.result in
    let late = c.args.late in
    let inlet = c.args.inlet in
    let m = c.args.message.now in
    let more = drop (i + 1) ps in
    let here : drop i ps ≡ p ∷ more = drop_more ps i p (omega arith) ∙ ap (λ y. y ∷ more) (sym c.path-item.is) in
    let old = c.args.offers.now.items in
    let had = c.loop-path.offers.items in
    let whole = round (offered inlet (map (top_view named) ps)) late m false in
    let turn = sym (c.takes_part.ensures named) ∙ c.if-takes_part.true in
    let took : GivesWalked had c.one.new.offers.items c.in_ok-mine.mine (mine named inlet (drop i ps) more p here late m) = c.in_ok-mine.ensures in
    let last : ((mine named inlet (drop i ps) more p here late m).processed && (marks p).is_final) ≡ true = ap (λ (x : Bool). x && (marks p).is_final) (sym took.processed) ∙ c.if-ends.true in
    let so = sofar-at old had had c.loop-path.gone c.loop-path.gone whole _ (mine named inlet (drop i ps) more p here late m) refl refl (tops-end named inlet (drop i ps) more p here late m turn last) c.loop-path.invariant in
    let joined = c.in_ok-join.ensures in
    ends-with old had c.one.new.offers.items c.loop-path.gone c.in_ok-mine.mine c.join.new.self whole (mine named inlet (drop i ps) more p here late m) so took joined.0 joined.1

pub loop-path-preserved : goal.loop-path-preserved
loop-path-preserved g c =
    let named = c.args.named.now in
    let ps = c.args.paths.now in
    let i = c.loop-path.path-index in
    let p = c.path-item.result in
    let late = c.args.late in
    let inlet = c.args.inlet in
    let m = c.args.message.now in
    let more = drop (i + 1) ps in
    let here : drop i ps ≡ p ∷ more = drop_more ps i p (omega arith) ∙ ap (λ y. y ∷ more) (sym c.path-item.is) in
    let old = c.args.offers.now.items in
    let had = c.loop-path.offers.items in
    let whole = round (offered inlet (map (top_view named) ps)) late m false in
    elim c.if-takes_part.branch [
      | then-takes_part+in_ok-mine+in_ok-join+else-ends w ↦
          let turn = sym (c.takes_part.ensures named) ∙ w.if-takes_part.true in
          let next = w.in_ok-mine.mine in
          let took : GivesWalked had w.one.new.offers.items next (mine named inlet (drop i ps) more p here late m) = w.in_ok-mine.ensures in
          let last : ((mine named inlet (drop i ps) more p here late m).processed && (marks p).is_final) ≡ false = ap (λ (x : Bool). x && (marks p).is_final) (sym took.processed) ∙ w.if-ends.false in
          let so = sofar-at old had had c.loop-path.gone c.loop-path.gone whole _ (both (mine named inlet (drop i ps) more p here late m) (later named inlet (drop i ps) more p here late m)) refl refl (tops-go-on named inlet (drop i ps) more p here late m turn last) c.loop-path.invariant in
          let joined = w.in_ok-join.ensures in
          sofar-at old w.one.new.offers.items c.if-takes_part.offers.items w.join.new.self c.if-takes_part.gone whole _ _ (ap (λ (v : Vec Offer Global). v.items) w.offers-is) w.gone-is refl
          (goes-on old had w.one.new.offers.items c.loop-path.gone next w.join.new.self whole (mine named inlet (drop i ps) more p here late m) (later named inlet (drop i ps) more p here late m) so took joined.0 joined.1)
      | else-takes_part w ↦
          let turn = sym (c.takes_part.ensures named) ∙ w.if-takes_part.false in
          sofar-at old had c.if-takes_part.offers.items c.loop-path.gone c.if-takes_part.gone whole _ _ (ap (λ (v : Vec Offer Global). v.items) w.offers-is) w.gone-is
          (tops-skip named inlet (drop i ps) more p here late m turn) c.loop-path.invariant
    ]
