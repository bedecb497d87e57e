-- One turn of a round over the top-level statements.
use Rattle.std.proofs.Common.{◌≡◌, ℕ, Bool, true, false, List, ◌∷◌, map, refl, ap, ◌∙◌}
use Rattle.std.specs.Prelude.{◌&&◌, ◌||◌, cond}
use Rattle.sg_msg.specs.Message.{Content}
use Rattle.sg_tree.specs.declared.tree.Path.{Path}
use Rattle.sg_filter.specs.declared.expr.Expr.{Expr}
use Rattle.sg_tree.specs.Walk.{Marks, WalkResult, Steps, Siblings, sibling, walk, round, both, counted, up_to_final, is_in_round}
use Rattle.sg_tree.specs.Plain.{marks, own_steps}
use Rattle.sg_tree.specs.Offers.{top_view, is_offered, offered}

turn : (o late : Bool) (m : Content) (f : Bool) (mark : Marks) (steps : Steps) (more : Siblings)
    → round (cond o (sibling mark steps more) more) late m f
    ≡ cond (o && is_in_round late mark) (up_to_final mark.is_final (counted mark (walk steps m (f || mark.flow))) (round more late m f)) (round more late m f)
turn true late m f mark steps more = refl
turn false late m f mark steps more = refl

module _ (named : List Expr) (inlet : ℕ) (ps more : List Path) (p : Path) (h : ps ≡ p ∷ more) (late : Bool) (m : Content) where
  abbrev pub mine : WalkResult
  mine = counted (marks p) (walk (own_steps named p) m (false || (marks p).flow))

  abbrev pub later : WalkResult
  later = round (offered inlet (map (top_view named) more)) late m false

  abbrev pub all : WalkResult
  all = round (offered inlet (map (top_view named) ps)) late m false

  here : (b : Bool) → (is_offered inlet (top_view named p) && is_in_round late (marks p)) ≡ b → all ≡ cond b (up_to_final (marks p).is_final mine later) later
  here b e =
      ap (λ (x : List Path). round (offered inlet (map (top_view named) x)) late m false) h
      ∙ turn (is_offered inlet (top_view named p)) late m false (marks p) (own_steps named p) (offered inlet (map (top_view named) more))
      ∙ ap (λ (x : Bool). cond x (up_to_final (marks p).is_final mine later) later) e

  pub tops-skip : (is_offered inlet (top_view named p) && is_in_round late (marks p)) ≡ false → all ≡ later
  tops-skip e = here false e

  pub tops-end : (is_offered inlet (top_view named p) && is_in_round late (marks p)) ≡ true → (mine.processed && (marks p).is_final) ≡ true → all ≡ mine
  tops-end e last = here true e ∙ ap (λ (x : Bool). cond x mine (both mine later)) last

  pub tops-go-on : (is_offered inlet (top_view named p) && is_in_round late (marks p)) ≡ true → (mine.processed && (marks p).is_final) ≡ false → all ≡ both mine later
  tops-go-on e last = here true e ∙ ap (λ (x : Bool). cond x mine (both mine later)) last
