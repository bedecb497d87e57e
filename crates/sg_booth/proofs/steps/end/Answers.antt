use Rattle.std.proofs.Common.{◌≡◌, [], ◌∷◌, refl, sym, ap, ◌∙◌, subst, Some}
use mathlib.Core.Option.{some-injective}
use Rattle.sg_booth.specs.Rule.{IsHistoryGiven, office_in}
use Rattle.sg_booth.proofs.Keeps.{ends}
use Rattle.sg_booth.proofs.Turns.{lifted, not_none}
use Rattle.sg_booth.proofs.steps.end.Goals as goal

pub unreachable-requires : goal.unreachable-requires
unreachable-requires g c =
    let about = c.args.lock.shared.key in
    let r = ends g.V.Office.step g.V.Office.may g.V.Office.room about.made.value about.turns _ _ _ _ c.requires.held.0 c.requires.held.1 c.close_with-closed.ensures.values.2 in
    not_none _ _ (sym r.1 ∙ c.take-slot.ensures.value) c.in-None.is

pub returns-clause-given : goal.returns-clause-given
returns-clause-given g c =
    let about = c.args.lock.shared.key in
    let r = ends g.V.Office.step g.V.Office.may g.V.Office.room about.made.value about.turns _ _ _ _ c.requires.held.0 c.requires.held.1 c.close_with-closed.ensures.values.2 in
    let same : Some r.0 ≡ c.take-slot.result = some-injective _ _ (sym r.1 ∙ c.take-slot.ensures.value) in
    subst (λ o. IsHistoryGiven g.V.Office.step g.V.Office.may g.V.Office.room about.made.value c.args.place.me.0.seen o) (lifted ((0, Some r.0) ∷ []) r.0 _ refl (ap (λ x. office_in ((0, x) ∷ [])) (same ∙ c.in-Some.is))) r.2

pub returns-clause-all : goal.returns-clause-all
returns-clause-all g c =
    let about = c.args.lock.shared.key in
    let r = ends g.V.Office.step g.V.Office.may g.V.Office.room about.made.value about.turns _ _ _ _ c.requires.held.0 c.requires.held.1 c.close_with-closed.ensures.values.2 in
    r.3

pub returns-clause-few : goal.returns-clause-few
returns-clause-few g c =
    let about = c.args.lock.shared.key in
    let r = ends g.V.Office.step g.V.Office.may g.V.Office.room about.made.value about.turns _ _ _ _ c.requires.held.0 c.requires.held.1 c.close_with-closed.ensures.values.2 in
    r.4

pub returns-clause-mine : goal.returns-clause-mine
returns-clause-mine g c =
    let about = c.args.lock.shared.key in
    let r = ends g.V.Office.step g.V.Office.may g.V.Office.room about.made.value about.turns _ _ _ _ c.requires.held.0 c.requires.held.1 c.close_with-closed.ensures.values.2 in
    r.5
