use Rattle.std.proofs.Common.{List, refl, subst}
use Rattle.sg_machine.specs.declared.event.Admission.{Admission}
use Rattle.sg_machine.specs.declared.event.Verdict.{Verdict}
use Rattle.sg_hub.specs.Counts.{HasBegun, HasEnded}
use Rattle.sg_hub.proofs.seat.HubSeatCounter.admit.Goals as goal

pub returns-in-Ok-clause-step : goal.returns-in-Ok-clause-step
returns-in-Ok-clause-step g c =
    let old = c.args.self.now.passed.now in
    let between = c.begin.new.self in
    let begun = subst (λ (rs : List Admission). HasBegun rs old between) c.deref.ensures.value c.begin.ensures in
    let ended = subst (λ (vs : List Verdict). HasEnded vs between c.end.new.self) c.deref-in-Ok.ensures.value c.end.ensures in
    (refl, refl, refl, c.in-Ok.ensures.step, (between, (begun, ended)))
