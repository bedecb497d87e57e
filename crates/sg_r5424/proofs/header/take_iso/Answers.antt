use Rattle.std.proofs.Common.{ℕ, List, length, sym, ap, ◌∙◌, subst, arith, length-drop}
use Rattle.sg_time.specs.Reading.{IsIso}
use Rattle.sg_r5424.proofs.HeaderLemmas.{iso_stuck}
use Rattle.sg_r5424.proofs.header.take_iso.Goals as goal

pub returns-in_default-clause-stamp : goal.returns-in_default-clause-stamp
returns-in_default-clause-stamp c = (
  λ stamp rest h. c.in_default.ensures.reading stamp h.0 (subst (λ (x : List ℕ). IsIso x stamp h.0) (sym c.as_slice.ensures) h.1.0),
  omega arith,
)

pub advance-requires : goal.advance-requires
advance-requires c = omega (arith, c.in-Some.ensures.within, ap length c.as_slice.ensures)

pub returns-then-not-take_text-clause-stamp : goal.returns-then-not-take_text-clause-stamp
returns-then-not-take_text-clause-stamp c =
    let iso = subst (λ (x : List ℕ). IsIso x c.in-Some.stamp c.in-Some.len) c.as_slice.ensures c.in-Some.ensures.reading in (
      iso_stuck c.args.text.now c.in-Some.stamp c.in-Some.len iso (λ r e. c.if-not-take_text.ensures.taken r (c.advance.ensures ∙ e)),
      omega (arith, ap length c.advance.ensures, length-drop c.in-Some.len c.args.text.now, c.take_text.ensures.shorter),
    )

pub returns-clause-stamp : goal.returns-clause-stamp
returns-clause-stamp c =
    let iso = subst (λ (x : List ℕ). IsIso x c.in-Some.stamp c.in-Some.len) c.as_slice.ensures c.in-Some.ensures.reading in (
      (c.in-Some.len, (iso, sym c.advance.ensures ∙ c.if-not-take_text.ensures.taken)),
      omega (arith, ap length c.advance.ensures, length-drop c.in-Some.len c.args.text.now, c.take_text.ensures.shorter),
    )

pub returns-clause-valid : goal.returns-clause-valid
returns-clause-valid c = c.in-Some.ensures.valid
