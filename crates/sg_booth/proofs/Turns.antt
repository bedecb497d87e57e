-- What a whole turn comes to.
use Rattle.std.proofs.Common.{◌≡◌, ℕ, ◌+◌, ◌-◌, ◌≤◌, ◌<◌, List, [], ◌∷◌, ◌++◌, sym, refl, ap, ◌∙◌, subst, arith, length-append, true≢false, Option, Some, None}
use Rattle.std.specs.Option.{unwrap_or, is_some}
use mathlib.Core.Option.{some, some-injective}
use Rattle.atomic_table.specs.Table.{Me}
use Rattle.sg_booth.specs.declared.office.OfficeExchange.{OfficeExchange}
use Rattle.sg_booth.specs.declared.table.Notes.{Notes}
use Rattle.sg_booth.specs.declared.table.ServedOffice.{ServedOffice}
use Rattle.sg_booth.specs.Rule.{MakesOfficeCalls, IsHistoryGiven, TakesStep, drawn, office_in}

module _ {V C R : Type 0} (step : V → C → R → V → Type 0) where
  pub makes-more : (old mid new : V) (log : List (OfficeExchange C R)) (e : OfficeExchange C R) → MakesOfficeCalls step old log mid → step mid e.call e.reply new → MakesOfficeCalls step old (log ++ e ∷ []) new
  makes-more old mid new [] e m s = (new, subst (λ v. step v e.call e.reply new) m s, refl)
  makes-more old mid new (x ∷ xs) e m s = (m.0, m.1, makes-more m.0 mid new xs e m.2 s)

module _ {V C R : Type 0} (step : V → C → R → V → Type 0) (may : V → C → Type 0) (room : V → ℕ) where
  pub given-more : (made mid new : V) (log : List (OfficeExchange C R)) (e : OfficeExchange C R) → IsHistoryGiven step may room made log mid → step mid e.call e.reply new → room mid ≤ room new + 1 → ((c : C) → may mid c → may new c)
      → IsHistoryGiven step may room made (log ++ e ∷ []) new
  given-more made mid new log e g s r m = record {
    makes = makes-more step made mid new log e g.makes s;
    may_still = λ c h. m c (g.may_still c h);
    room_left = (let a = g.room_left in let b = length-append log (e ∷ []) in omega arith);
  }

  -- the seat that has drawn and waited
  pub taken : (made : V) (m m1 m2 : Me (Option (ServedOffice V C R)) (Notes V C R)) (n : ℕ) → m.1 ≡ [] → m.0.made ≡ Some made → m1 ≡ (drawn m.0 n, m.1) → TakesStep step may room m1 m2
      → (held : ServedOffice V C R) × (more : List (OfficeExchange C R)) × (m2.1 ≡ (0, Some held) ∷ [])
      × (m2.0 ≡ record (m.0) { left = m.0.left - 1; ticket = n ∷ []; sure = 1; out = 1; seen = m.0.seen ++ more })
      × IsHistoryGiven step may room made (m.0.seen ++ more) held.office × (0 < room held.office)
  taken made m m1 m2 n none_held made_is draws t = (
    t.0,
    t.1,
    t.2 ∙ ap (λ cs. (0, Some t.0) ∷ cs) (ap (λ x. x.1) draws ∙ none_held),
    t.3 ∙ ap (λ x. record (x.0) { seen = x.0.seen ++ t.1; sure = 1; out = 1 }) draws,
    subst (λ x. IsHistoryGiven step may room made (x.0.seen ++ t.1) t.0.office) draws (t.4 made (ap (λ x. x.0.made) draws ∙ made_is)),
    t.5,
  )

-- the office that was lifted
pub lifted : {V C R : Type 0} (c : List (ℕ × Option (ServedOffice V C R))) (held : ServedOffice V C R) (office : V) → c ≡ (0, Some held) ∷ [] → office_in c ≡ Some office → held.office ≡ office
lifted c held office is e = ap (λ o. unwrap_or o office) (sym (ap office_in is) ∙ e)

pub not_none : {A : Type 0} (x : A) (y : Option A) → some (Some x) ≡ some y → y ≡ None → ⊥
not_none x y e n = let p : Some x ≡ None = some-injective (Some x) y e ∙ n in true≢false (ap is_some p)
