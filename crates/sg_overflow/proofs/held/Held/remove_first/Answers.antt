use Rattle.std.proofs.Common.{◌≡◌, ◌≤◌, ◌∙◌, ◌-◌, ℕ, Bool, true, false, List, subst, sym, refl, arith}
use Rattle.sg_overflow.specs.Held.{DropsHeld}
use Rattle.sg_overflow.specs.View.{Held, IsHeldSound, held_count}
use Rattle.sg_overflow.proofs.Works.{sound_works}
use Rattle.sg_overflow.proofs.Drops.{drops_none, drops_memory, sound_memory, drops_advanced, sound_advanced, drops_failed, sound_failed}
use Rattle.sg_overflow.proofs.held.Held.remove_first.Goals as goal

pub invariant_of-self : goal.invariant_of-self
invariant_of-self g c =
    let m = c.self.inside in
    let held : Held g.row.D.Denot = record { store = m.spool; memory = m.memory; limits = m.limits; stored = m.stored; behind = m.behind } in
    let disk = g.D.Disk.state in
    subst (λ (l : List (List ℕ)). IsHeldSound disk m.failed (record held { memory = l })) (sym c.remove_first.ensures) (sound_memory disk m.failed held c.args.n c.self.invariant)

pub returns-then-self-eq0-clause-drops : goal.returns-then-self-eq0-clause-drops
returns-then-self-eq0-clause-drops g c =
    let m = c.self.inside in
    let held : Held g.row.D.Denot = record { store = m.spool; memory = m.memory; limits = m.limits; stored = m.stored; behind = m.behind } in
    let disk = g.D.Disk.state in
    let some = subst (λ (h : Held g.row.D.Denot). c.args.n ≤ held_count h) (sym c.self.view_is) c.requires.some in
    subst (λ (h : Held g.row.D.Denot). DropsHeld disk c.args.n h (record held { memory = c.remove_first.new.self })) c.self.view_is
    (subst (λ (l : List (List ℕ)). DropsHeld disk c.args.n held (record held { memory = l })) (sym c.remove_first.ensures)
    (drops_memory disk m.failed held c.args.n c.self.invariant c.if-self-eq0.true some))

pub returns-then-n-eq0-clause-drops : goal.returns-then-n-eq0-clause-drops
returns-then-n-eq0-clause-drops g c =
    let m = c.self.inside in
    let held : Held g.row.D.Denot = record { store = m.spool; memory = m.memory; limits = m.limits; stored = m.stored; behind = m.behind } in
    let disk = g.D.Disk.state in
    subst (λ (h : Held g.row.D.Denot). DropsHeld disk c.args.n h h) c.self.view_is
    (subst (λ (n : ℕ). DropsHeld disk n held held) (sym c.if-n-eq0.true) (drops_none disk m.failed held c.self.invariant))

pub invariant_of-self-in-Ok : goal.invariant_of-self-in-Ok
invariant_of-self-in-Ok g c =
    let m = c.self.inside in
    let held : Held g.row.D.Denot = record { store = m.spool; memory = m.memory; limits = m.limits; stored = m.stored; behind = m.behind } in
    let disk = g.D.Disk.state in
    let works = subst (λ (h : Held g.row.D.Denot). h.store.closed ≡ false) (sym c.self.view_is) (c.requires.works (subst (λ (h : Held g.row.D.Denot). 1 ≤ h.stored) c.self.view_is (omega (arith, c.if-self-eq0.false)))) in
    let few = subst (λ (h : Held g.row.D.Denot). c.args.n ≤ h.stored) (sym c.self.view_is) (c.requires.stored (subst (λ (h : Held g.row.D.Denot). 1 ≤ h.stored) c.self.view_is (omega (arith, c.if-self-eq0.false)))) in
    let sound = sound_works disk m.failed held c.self.invariant works in
    let answer = c.in-Ok.ensures.answer in
    let fail : m.failed ≡ false = sym c.self.invariant.closed ∙ works in
    subst (λ (f : Bool). IsHeldSound disk f (record held { store = c.advance.new.self; stored = m.stored - c.args.n })) (sym fail)
    (sound_advanced disk held c.args.n sound few c.advance.new.self c.advance.ensures.lasts c.advance.ensures.leaves m.behind (sound.front refl) answer.1 answer.2 answer.4)

pub returns-in-Ok-clause-drops : goal.returns-in-Ok-clause-drops
returns-in-Ok-clause-drops g c =
    let m = c.self.inside in
    let held : Held g.row.D.Denot = record { store = m.spool; memory = m.memory; limits = m.limits; stored = m.stored; behind = m.behind } in
    let disk = g.D.Disk.state in
    let works = subst (λ (h : Held g.row.D.Denot). h.store.closed ≡ false) (sym c.self.view_is) (c.requires.works (subst (λ (h : Held g.row.D.Denot). 1 ≤ h.stored) c.self.view_is (omega (arith, c.if-self-eq0.false)))) in
    let few = subst (λ (h : Held g.row.D.Denot). c.args.n ≤ h.stored) (sym c.self.view_is) (c.requires.stored (subst (λ (h : Held g.row.D.Denot). 1 ≤ h.stored) c.self.view_is (omega (arith, c.if-self-eq0.false)))) in
    let sound = sound_works disk m.failed held c.self.invariant works in
    let answer = c.in-Ok.ensures.answer in
    subst (λ (h : Held g.row.D.Denot). DropsHeld disk c.args.n h (record held { store = c.advance.new.self; stored = m.stored - c.args.n })) c.self.view_is
    (drops_advanced disk held c.args.n sound few c.advance.new.self c.advance.ensures.lasts c.advance.ensures.leaves m.behind (sound.front refl) answer.1 answer.2 answer.4)

pub invariant_of-self-in-Err : goal.invariant_of-self-in-Err
invariant_of-self-in-Err g c =
    let m = c.self.inside in
    let held : Held g.row.D.Denot = record { store = m.spool; memory = m.memory; limits = m.limits; stored = m.stored; behind = m.behind } in
    let disk = g.D.Disk.state in
    let works = subst (λ (h : Held g.row.D.Denot). h.store.closed ≡ false) (sym c.self.view_is) (c.requires.works (subst (λ (h : Held g.row.D.Denot). 1 ≤ h.stored) c.self.view_is (omega (arith, c.if-self-eq0.false)))) in
    let few = subst (λ (h : Held g.row.D.Denot). c.args.n ≤ h.stored) (sym c.self.view_is) (c.requires.stored (subst (λ (h : Held g.row.D.Denot). 1 ≤ h.stored) c.self.view_is (omega (arith, c.if-self-eq0.false)))) in
    let sound = sound_works disk m.failed held c.self.invariant works in
    let answer = c.in-Err.ensures.answer in
    sound_failed disk held c.args.n sound few c.advance.new.self c.advance.ensures.lasts c.advance.ensures.leaves true refl answer.1 answer.2

pub returns-in-Err-clause-drops : goal.returns-in-Err-clause-drops
returns-in-Err-clause-drops g c =
    let m = c.self.inside in
    let held : Held g.row.D.Denot = record { store = m.spool; memory = m.memory; limits = m.limits; stored = m.stored; behind = m.behind } in
    let disk = g.D.Disk.state in
    let works = subst (λ (h : Held g.row.D.Denot). h.store.closed ≡ false) (sym c.self.view_is) (c.requires.works (subst (λ (h : Held g.row.D.Denot). 1 ≤ h.stored) c.self.view_is (omega (arith, c.if-self-eq0.false)))) in
    let few = subst (λ (h : Held g.row.D.Denot). c.args.n ≤ h.stored) (sym c.self.view_is) (c.requires.stored (subst (λ (h : Held g.row.D.Denot). 1 ≤ h.stored) c.self.view_is (omega (arith, c.if-self-eq0.false)))) in
    let sound = sound_works disk m.failed held c.self.invariant works in
    let answer = c.in-Err.ensures.answer in
    subst (λ (h : Held g.row.D.Denot). DropsHeld disk c.args.n h (record held { store = c.advance.new.self; stored = m.stored - c.args.n; behind = true })) c.self.view_is
    (drops_failed disk held c.args.n sound few c.advance.new.self c.advance.ensures.lasts c.advance.ensures.leaves true refl answer.1 answer.2)
