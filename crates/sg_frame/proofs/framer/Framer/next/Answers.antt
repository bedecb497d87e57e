use Rattle.std.proofs.Common.{◌≡◌, ◌+◌, [], List, ℕ, sym, subst, refl, arith, w64, to_z, of_z}
use mir.Val.{SFits}
use Rattle.std.specs.Prelude.{ℤ}
use Rattle.std.proofs.lemmas.Int.{to_z-of_z, ints}
use Rattle.sg_frame.specs.Items.{Bad, IsSoundForm}
use Rattle.sg_frame.specs.Framing.{Framing, GivesItem, items_left, open_left}
use Rattle.sg_frame.specs.Scans.{IsItem, HasNone, HasBad}
use Rattle.sg_frame.proofs.FramingLemmas.{framing_of, gives_item, plain-held}
use Rattle.sg_frame.proofs.framer.Framer.next.Goals as goal

-- src/framer.rt:113:5
pub returns-in_ok-bytes-in-Whole : goal.returns-in_ok-bytes-in-Whole
returns-in_ok-bytes-in-Whole c =
    let inside = c.self.inside in
    let span = c.in-Whole.span in
    let at = c.in_ok-bytes-in-Whole.at in
    let fits : SFits w64 at = omega (arith, ints) in
    let item : IsItem inside.kind inside.limit inside.kept span =
    subst (λ (bytes : List ℕ). IsItem inside.kind inside.limit bytes span) c.as_slice-kept.ensures c.in-Whole.ensures in
    let new = framing_of inside.kind inside.limit (inside.place + span.taken) c.cut.new.kept c.cut.new.runs.items in
    let gives = gives_item inside.kind inside.limit inside.place inside.kept c.cut.new.kept inside.runs.items c.cut.new.runs.items span
    c.in_ok-bytes-in-Whole.bytes at c.self.invariant.covers item c.in_ok-bytes-in-Whole.ensures.cut in
    subst (λ (old : Framing). GivesItem old new (record { text = c.in_ok-bytes-in-Whole.bytes; at = to_z w64 (of_z w64 at); end = inside.place + span.taken })) c.self.view_is
    (subst (λ (m : ℤ). GivesItem (framing_of inside.kind inside.limit inside.place inside.kept inside.runs.items) new
    (record { text = c.in_ok-bytes-in-Whole.bytes; at = m; end = inside.place + span.taken })) (sym (to_z-of_z w64 at fits)) gives)

-- src/framer.rt:113:5
pub returns-in-Open : goal.returns-in-Open
returns-in-Open c =
    let inside = c.self.inside in
    let none : HasNone inside.kind inside.limit inside.kept =
    subst (λ (bytes : List ℕ). HasNone inside.kind inside.limit bytes) c.as_slice-kept.ensures c.in-Open.ensures.0 in
    let so = none inside.place _ (plain-held inside.place inside.kept inside.runs.items c.self.invariant.covers) in
    let left = subst (λ (f : Framing). (items_left f ≡ []) × IsSoundForm (open_left f)) c.self.view_is so in
    (c.self.view_is, left.0, left.1)

-- src/framer.rt:113:5
pub returns-in-Bad : goal.returns-in-Bad
returns-in-Bad c =
    let inside = c.self.inside in
    let bad : HasBad inside.kind inside.limit inside.kept c.in-Bad.ahead =
    subst (λ (bytes : List ℕ). HasBad inside.kind inside.limit bytes c.in-Bad.ahead) c.as_slice-kept.ensures c.in-Bad.ensures in
    let so = bad.1 inside.place _ (plain-held inside.place inside.kept inside.runs.items c.self.invariant.covers) in
    let left = subst (λ (f : Framing). (items_left f ≡ []) × (open_left f ≡ Bad (inside.place + c.in-Bad.ahead))) c.self.view_is so in
    (refl, left.0, left.1)
