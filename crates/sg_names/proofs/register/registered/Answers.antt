use Rattle.std.proofs.Common.{◌≡◌, ◌∙◌, ◌+◌, Option, drop, ap}
use Rattle.sg_names.specs.Kinds.{name_of}
use Rattle.sg_names.specs.Registers.{entered_if, repeat_if, repeats}
use Rattle.sg_fault.specs.declared.placed.Placed.{Placed}
use Rattle.sg_fault.specs.Faults.{earlier, least}
use Rattle.sg_names.proofs.Entering.{registered-on, repeats-on, few-on, registered-end, repeats-end}
use Rattle.sg_names.proofs.register.registered.Goals as goal

pub loop-statement-preserved : goal.loop-statement-preserved
loop-statement-preserved c =
    let r = c.loop-statement.register in
    let done = c.in_ok-fault.ensures in
    let enters : c.enter_if.new.register ≡ entered_if r (name_of c.args.kind c.statement-item.result) = done.entered ∙ ap (entered_if r) c.name_of.ensures in
    let finds : c.in_ok-fault.fault ≡ least (repeat_if r (name_of c.args.kind c.statement-item.result)) = done.repeats ∙ ap (λ x. least (repeat_if r x)) c.name_of.ensures in
    record {
      names = registered-on c.args.kind r _ _ c.args.statements.now _ _ c.loop-statement-test.true c.statement-item.is enters c.loop-statement.invariant.names;
      faults = ap (λ (x : Option Placed). earlier x (least (repeats c.args.kind c.enter_if.new.register (drop (c.loop-statement.statement-index + 1) c.args.statements.now)))) c.earlier-first.ensures ∙ repeats-on c.args.kind r c.enter_if.new.register c.loop-statement.first c.in_ok-fault.fault _ c.args.statements.now _ _ c.loop-statement-test.true c.statement-item.is enters finds c.loop-statement.invariant.faults;
      few = few-on r c.enter_if.new.register c.loop-statement.statement-index (name_of c.args.kind c.statement-item.result) enters c.loop-statement.invariant.few;
    }

pub returns-clause-names : goal.returns-clause-names
returns-clause-names c = registered-end _ _ _ _ _ c.loop-statement-test.false c.loop-statement.invariant.names

pub returns-clause-repeats : goal.returns-clause-repeats
returns-clause-repeats c = repeats-end _ _ _ _ _ _ c.loop-statement-test.false c.loop-statement.invariant.faults
