use Rattle.std.proofs.Common.{◌≡◌, List, [], ◌∙◌, subst}
use Rattle.std.specs.Prelude.{Ok}
use Rattle.sg_machine.specs.declared.event.Admission.{Admission}
use Rattle.sg_counter.specs.declared.calls.CoreCall.TheVariants.{Admit}
use Rattle.sg_counter.specs.declared.calls.CoreReply.TheVariants.{Admitted}
use Rattle.sg_actor.proofs.BringLemmas.{last-some, admitted}
use Rattle.sg_actor.proofs.admitting.admit.Goals as goal

pub returns-in-Ok-clause-admits : goal.returns-in-Ok-clause-admits
returns-in-Ok-clause-admits g c =
    let old = c.args.reader.now in
    let brought : c.into_vec.result.items ≡ old.held = c.into_vec.ensures ∙ c.replace-records.ensures.value in
    let none : c.replace-records.new.dest ≡ [] = c.replace-records.ensures.after ∙ c.empty.ensures in
    let end = c.last_end-end.ensures ∙ last-some 0 old.end old.held c.requires.some in
    let step = subst (λ (records : List Admission). g.C.Counter.step c.args.counter.now (Admit c.args.i records) (Admitted (Ok c.in-Ok._verdicts.items)) c.admit.new.self) brought c.in-Ok.ensures.step in
    (Admitted (Ok c.in-Ok._verdicts.items), (step, admitted old c.replace-records.new.dest c.last_end-end.result none end))
