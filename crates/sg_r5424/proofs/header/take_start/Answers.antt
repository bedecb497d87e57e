use Rattle.std.proofs.Common.{◌≡◌, Some, None, length, sym, ap, ◌∙◌, arith, length-drop}
use Rattle.sg_msg.specs.Priority.{priority}
use Rattle.sg_r5424.proofs.HeaderLemmas.{start_none, start_stuck}
use Rattle.sg_r5424.proofs.header.take_start.Goals as goal

pub returns-in_default-clause-start : goal.returns-in_default-clause-start
returns-in_default-clause-start c =
    let nothing : priority c.args.text.now ≡ None = ap priority (sym c.as_slice.ensures) ∙ (sym c.priority.ensures.value ∙ c.in_default.is) in
    (λ pri rest. start_none c.args.text.now pri rest nothing, omega arith)

pub advance-requires : goal.advance-requires
advance-requires c = omega (arith, c.in-Some.ensures.range.1, ap length c.as_slice.ensures)

pub returns-then-not-take_text-clause-start : goal.returns-then-not-take_text-clause-start
returns-then-not-take_text-clause-start c =
    let found : priority c.args.text.now ≡ Some (c.in-Some.pri, c.in-Some.len) = ap priority (sym c.as_slice.ensures) ∙ (sym c.priority.ensures.value ∙ c.in-Some.is) in (
      start_stuck c.args.text.now c.in-Some.pri c.in-Some.len found (λ r e. c.if-not-take_text.ensures.taken r (c.advance.ensures ∙ e)),
      omega (arith, ap length c.advance.ensures, length-drop c.in-Some.len c.args.text.now, c.take_text.ensures.shorter),
    )

pub returns-clause-start : goal.returns-clause-start
returns-clause-start c = (
  record {
    len = c.in-Some.len;
    is_pri = ap priority (sym c.as_slice.ensures) ∙ (sym c.priority.ensures.value ∙ c.in-Some.is);
    is_version = sym c.advance.ensures ∙ c.if-not-take_text.ensures.taken;
  },
  omega (arith, ap length c.advance.ensures, length-drop c.in-Some.len c.args.text.now, c.take_text.ensures.shorter),
)

pub returns-clause-range : goal.returns-clause-range
returns-clause-range c = c.in-Some.ensures.range.0
