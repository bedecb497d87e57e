use Rattle.std.proofs.Common.{◌≡◌, ◌≤◌, ◌+◌, ◌-◌, ◌^◌, ◌∙◌, ℕ, Bool, true, false, List, [], length, subst, sym, ap, arith, length-drop}
use Rattle.sg_device.specs.Outlet.{OutletState}
use Rattle.sg_overflow.specs.Held.{SpillStop}
use Rattle.sg_overflow.specs.Line.{MovesLine}
use Rattle.sg_overflow.specs.Stops.{is_store}
use Rattle.sg_overflow.specs.View.{Held, IsHeldSound}
use Rattle.sg_overflow.proofs.Spills.{sound_spill_failed, moves_spill_failed, sound_spilled, moves_spilled}
use Rattle.sg_overflow.proofs.Stagings.{write_failed, write_works, stage_few, spill_stop}
use Rattle.sg_overflow.proofs.Works.{moves_none}
use Rattle.sg_overflow.proofs.held.Held.spill.Goals as goal

pub returns-then-excess-eq0-clause-moves : goal.returns-then-excess-eq0-clause-moves
returns-then-excess-eq0-clause-moves g c =
    let m = c.self.inside in
    let held : Held g.row.D.Denot = record { store = m.spool; memory = m.memory; limits = m.limits; stored = m.stored; behind = m.behind } in
    subst (λ (h : Held g.row.D.Denot). (inner : OutletState) → MovesLine g.D.Disk.state [] 0 0 inner inner h h) c.self.view_is
    (λ inner. moves_none g.D.Disk.state m.failed held inner c.self.invariant)

pub returns-then-excess-self-clause-moves : goal.returns-then-excess-self-clause-moves
returns-then-excess-self-clause-moves g c =
    let m = c.self.inside in
    let held : Held g.row.D.Denot = record { store = m.spool; memory = m.memory; limits = m.limits; stored = m.stored; behind = m.behind } in
    subst (λ (h : Held g.row.D.Denot). (inner : OutletState) → MovesLine g.D.Disk.state [] 0 0 inner inner h h) c.self.view_is
    (λ inner. moves_none g.D.Disk.state m.failed held inner c.self.invariant)

pub invariant_of-self : goal.invariant_of-self
invariant_of-self g c =
    let m = c.self.inside in
    let held : Held g.row.D.Denot = record { store = m.spool; memory = m.memory; limits = m.limits; stored = m.stored; behind = m.behind } in
    let sound = subst (λ (f : Bool). IsHeldSound g.D.Disk.state f held) c.if-self.false c.self.invariant in
    let w = c.write_first-moved in
    let is : is_store w.result.1 ≡ true = sym c.is_store.ensures ∙ c.if-is_store.true in
    let failed = write_failed g.D.Disk.state held.store w.new.spool m.memory w.result.0 w.result.1 is w.ensures.written in
    sound_spill_failed g.D.Disk.state held sound w.new.spool w.ensures.lasts w.ensures.images failed.0 failed.1

pub returns-then-is_store-clause-moves : goal.returns-then-is_store-clause-moves
returns-then-is_store-clause-moves g c =
    let m = c.self.inside in
    let held : Held g.row.D.Denot = record { store = m.spool; memory = m.memory; limits = m.limits; stored = m.stored; behind = m.behind } in
    let sound = subst (λ (f : Bool). IsHeldSound g.D.Disk.state f held) c.if-self.false c.self.invariant in
    let w = c.write_first-moved in
    let is : is_store w.result.1 ≡ true = sym c.is_store.ensures ∙ c.if-is_store.true in
    let failed = write_failed g.D.Disk.state held.store w.new.spool m.memory w.result.0 w.result.1 is w.ensures.written in
    subst (λ (h : Held g.row.D.Denot). (inner : OutletState) → MovesLine g.D.Disk.state [] 0 0 inner inner h (record held { store = w.new.spool })) c.self.view_is
    (moves_spill_failed g.D.Disk.state held sound w.new.spool w.ensures.lasts w.ensures.images failed.0 failed.1)

pub returns-then-is_store-clause-cause : goal.returns-then-is_store-clause-cause
returns-then-is_store-clause-cause g c =
    let m = c.self.inside in
    let w = c.write_first-moved in
    let is : is_store w.result.1 ≡ true = sym c.is_store.ensures ∙ c.if-is_store.true in
    let failed = write_failed g.D.Disk.state m.spool w.new.spool m.memory w.result.0 w.result.1 is w.ensures.written in
    (omega (arith, c.if-excess-eq0.false, c.saturating_sub-excess.ensures, c.len.ensures), failed.0)

pub invariant_of-self-2 : goal.invariant_of-self-2
invariant_of-self-2 g c =
    let m = c.self.inside in
    let held : Held g.row.D.Denot = record { store = m.spool; memory = m.memory; limits = m.limits; stored = m.stored; behind = m.behind } in
    let sound = subst (λ (f : Bool). IsHeldSound g.D.Disk.state f held) c.if-self.false c.self.invariant in
    let w = c.write_first-moved in
    let count = w.result.0 in
    let is : is_store w.result.1 ≡ false = sym c.is_store.ensures ∙ c.if-is_store.false in
    let written = write_works g.D.Disk.state held.store w.new.spool m.memory count w.result.1 is w.ensures.written in
    let few = stage_few c.saturating_sub-excess.result count w.result.1 w.ensures.stop in
    let inside : count ≤ length m.memory = omega (arith, few, c.saturating_sub-excess.ensures, c.len.ensures) in
    let small : m.stored + count ≤ 2 ^ 64 - 1 = omega (arith, few, c.if-excess-self.false, c.if-excess-eq0.false) in
    subst (λ (f : Bool). IsHeldSound g.D.Disk.state f (record held { store = w.new.spool; memory = c.remove_first.new.self; stored = m.stored + count })) (sym c.if-self.false)
    (subst (λ (l : List (List ℕ)). IsHeldSound g.D.Disk.state false (record held { store = w.new.spool; memory = l; stored = m.stored + count })) (sym c.remove_first.ensures)
    (sound_spilled g.D.Disk.state held sound w.new.spool w.ensures.lasts w.ensures.images count inside small written))

pub returns-clause-moves : goal.returns-clause-moves
returns-clause-moves g c =
    let m = c.self.inside in
    let held : Held g.row.D.Denot = record { store = m.spool; memory = m.memory; limits = m.limits; stored = m.stored; behind = m.behind } in
    let sound = subst (λ (f : Bool). IsHeldSound g.D.Disk.state f held) c.if-self.false c.self.invariant in
    let w = c.write_first-moved in
    let count = w.result.0 in
    let is : is_store w.result.1 ≡ false = sym c.is_store.ensures ∙ c.if-is_store.false in
    let written = write_works g.D.Disk.state held.store w.new.spool m.memory count w.result.1 is w.ensures.written in
    let few = stage_few c.saturating_sub-excess.result count w.result.1 w.ensures.stop in
    let inside : count ≤ length m.memory = omega (arith, few, c.saturating_sub-excess.ensures, c.len.ensures) in
    let small : m.stored + count ≤ 2 ^ 64 - 1 = omega (arith, few, c.if-excess-self.false, c.if-excess-eq0.false) in
    subst (λ (h : Held g.row.D.Denot). (inner : OutletState) → MovesLine g.D.Disk.state [] 0 0 inner inner h (record held { store = w.new.spool; memory = c.remove_first.new.self; stored = m.stored + count })) c.self.view_is
    (subst (λ (l : List (List ℕ)). (inner : OutletState) → MovesLine g.D.Disk.state [] 0 0 inner inner held (record held { store = w.new.spool; memory = l; stored = m.stored + count })) (sym c.remove_first.ensures)
    (moves_spilled g.D.Disk.state held sound w.new.spool w.ensures.lasts w.ensures.images count inside small written))

pub returns-clause-cause : goal.returns-clause-cause
returns-clause-cause g c =
    let m = c.self.inside in
    let w = c.write_first-moved in
    let count = w.result.0 in
    let is : is_store w.result.1 ≡ false = sym c.is_store.ensures ∙ c.if-is_store.false in
    let over : c.saturating_sub-excess.result ≡ length m.memory - c.args.kept = omega (arith, c.saturating_sub-excess.ensures, c.len.ensures) in
    let left : length c.remove_first.new.self ≡ length m.memory - count = ap (λ (l : List (List ℕ)). length l) c.remove_first.ensures ∙ length-drop count m.memory in
    subst (λ (n : ℕ). SpillStop c.args.kept n w.new.spool.closed w.result.1) (sym left)
    (spill_stop c.args.kept (length m.memory) c.saturating_sub-excess.result count w.new.spool.closed w.result.1 is over (omega (arith, c.if-excess-eq0.false)) w.ensures.stop)
