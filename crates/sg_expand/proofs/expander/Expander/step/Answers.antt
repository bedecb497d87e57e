use Rattle.std.proofs.Common.{Bool, cond, ap, sym, ◌∙◌}
use Rattle.sg_expand.specs.Expansion.{step, front, include_read}
use Rattle.sg_expand.specs.Machine.{state_of}
use Rattle.sg_expand.proofs.Including.{step-does}
use Rattle.sg_expand.proofs.expander.Expander.step.Goals as goal

pub returns-clause-does : goal.returns-clause-does
returns-clause-does g c =
    let rest = c.args.rest in
    let old = c.args.self.now in
    let s = state_of old in
    let other = front rest.context rest.fresh rest.tokens s in
    step-does (step rest.context rest.fresh rest.tokens s) other rest.context rest.fresh old (g.F.Machine.state c.args.files.now) c.step_without_files.new.self c.step_without_files.result
    (ap (λ (b : Bool). cond b (include_read rest.context rest.tokens s) other) (sym c.begins_include.ensures.value ∙ c.if-begins_include.false)) c.step_without_files.ensures
