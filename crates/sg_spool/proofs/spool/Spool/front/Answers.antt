use Rattle.std.proofs.Common.{◌∙◌, ℕ, List, ◌∷◌, ap, subst, sym, arith}
use Rattle.std.specs.Option.{option_map}
use Rattle.sg_spool.specs.Ring.{IsEntry}
use Rattle.sg_spool.proofs.Whole.{first_known, first_read, whole_read}
use Rattle.sg_spool.proofs.spool.Spool.front.Goals as goal

pub returns-in-Some-clause-first : goal.returns-in-Some-clause-first
returns-in-Some-clause-first g c =
    let m = c.self.inside in
    let whole = c.self.invariant.whole c.if-self.false in
    let payload = c.in-Some.payload.items in
    let same = c.in_ok-copy_of.ensures ∙ c.deref.ensures.value in
    rw (← c.self.view_is) (λ b told es is.
    let known = first_known m.cell m.rows (option_map (λ v. v.items) m.front) (g.D.Disk.state m.disk) whole payload (ap (λ (o : _). option_map (λ v. v.items) o) c.in-Some.is) b told es is in
    (known.0, known.1 ∙ ap (λ (l : List ℕ). l ∷ known.0) (sym same)))

pub invariant_of-self-in-Ok : goal.invariant_of-self-in-Ok
invariant_of-self-in-Ok g c =
    let m = c.self.inside in
    record {
      rows = c.self.invariant.rows;
      unstaged = c.self.invariant.unstaged;
      cell_open = c.self.invariant.cell_open;
      whole = λ shut.
          let whole = c.self.invariant.whole shut in
          whole_read m.cell m.rows (option_map (λ v. v.items) m.front) (g.D.Disk.state m.disk) whole (g.D.Disk.state c.read_entry.new.disk) c.in-Ok.payload.items c.read_entry.ensures.told (omega (arith, c.if-self-eq0.false))
          (λ b told p entry. c.in-Ok.ensures.payload b told p (subst (λ (k : ℕ). IsEntry b k p) (sym c.gate_past.ensures) entry));
    }

pub returns-in_ok-copy-in-Ok-clause-first : goal.returns-in_ok-copy-in-Ok-clause-first
returns-in_ok-copy-in-Ok-clause-first g c =
    let m = c.self.inside in
    let whole = c.self.invariant.whole c.if-self.false in
    let same = c.in_ok-copy-in-Ok.ensures ∙ c.deref-in-Ok.ensures.value in
    rw (← c.self.view_is) (λ b told es is.
    let known = first_read m.cell m.rows (option_map (λ v. v.items) m.front) (g.D.Disk.state m.disk) whole c.in-Ok.payload.items (omega (arith, c.if-self-eq0.false))
    (λ b told p entry. c.in-Ok.ensures.payload b told p (subst (λ (k : ℕ). IsEntry b k p) (sym c.gate_past.ensures) entry)) b told es is in
    (known.0, known.1 ∙ ap (λ (l : List ℕ). l ∷ known.0) (sym same)))
