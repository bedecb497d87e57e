-- The places of a desk stay in order.
use Rattle.std.proofs.Common.{◌≡◌, ℕ, ◌+◌, List, [], ◌∷◌, ◌++◌, length, ap, refl, ◌∙◌, subst, sym, arith, length-append}
use Rattle.atomic_table.specs.Seated.{TableId}
use Rattle.sg_booth.specs.declared.office.OfficeExchange.{OfficeExchange}
use Rattle.sg_booth.specs.declared.table.Notes.{Notes}
use Rattle.sg_booth.specs.Lists.{StartsWith}
use Rattle.sg_booth.specs.Rule.{turned_notes, AreIdle}
use Rattle.sg_booth.specs.Desks.{ArePlacesOrdered}
use Rattle.sg_booth.specs.Seats.{desk_of, notes_in, IsAtRest}
use Rattle.sg_booth.proofs.Sums.{rises_to, rises_more, all_rise_to, all_rise-append}

module _ {V C R : Type 0} where
  pub turned-ordered : (z : TableId) (v : Notes V C R) (more : List (OfficeExchange C R)) (e : OfficeExchange C R) → ArePlacesOrdered (desk_of z v) → ArePlacesOrdered (desk_of z (turned_notes v more e))
  turned-ordered z v more e o =
      let a = length-append v.seen more in
      let b = length-append (v.seen ++ more) (e ∷ []) in
      let n : ℕ = length (v.seen ++ more) in
      (rises_to 0 (v.own ++ n ∷ []) (n + 1) _ (rises_more 0 v.own n (rises_to 0 v.own _ _ o.0 (omega arith))) (omega arith), all_rise_to v.joined _ _ o.1 (omega arith))

  pub glued-ordered : (z : TableId) (v w : Notes V C R) (left : ℕ) (more told : List (OfficeExchange C R)) → ArePlacesOrdered (desk_of z v) → ArePlacesOrdered (desk_of z w) → StartsWith (v.seen ++ more) w.seen
      → ArePlacesOrdered (desk_of z (record v { left = left; seen = v.seen ++ more; told = told; joined = v.joined ++ w.own ∷ w.joined }))
  glued-ordered z v w left more told o o' s =
      let a = length-append v.seen more in
      let b = ap length s.1 in
      let d = length-append w.seen s.0 in (
        rises_to 0 v.own _ _ o.0 (omega arith),
        all_rise-append v.joined (w.own ∷ w.joined) _ (all_rise_to v.joined _ _ o.1 (omega arith)) (rises_to 0 w.own _ _ o'.0 (omega arith), all_rise_to w.joined _ _ o'.1 (omega arith)),
      )

  pub at-rest : (z : TableId) (views : List (Notes V C R)) (v : Notes V C R) (left : ℕ) → views ≡ v ∷ [] → AreIdle v → v.told ≡ [] → left ≡ v.left → ArePlacesOrdered (desk_of z v) → IsAtRest z views left
  at-rest z views v left is idle untold left_is ordered = subst (λ vs. IsAtRest z vs left) (sym is) (record { one = refl; idle = idle; untold = untold; left_is = left_is; ordered = ordered })

  -- the view of the seat that a badge gives
  pub seated : (views views' : List (Notes V C R)) (v : Notes V C R) → views' ≡ views → views' ≡ v ∷ [] → notes_in views ≡ v
  seated views views' v same is = ap notes_in (sym same ∙ is)
