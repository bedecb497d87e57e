use Rattle.std.proofs.Common.{subst, IfOk}
use Rattle.sg_hint.specs.Spots.{IsFileReading, SpotsAgain}
use Rattle.sg_report.specs.Fault.{name_at}
use Rattle.sg_hint.proofs.Spots.{spots-main}
use Rattle.sg_hint.proofs.spot.spot.Goals as goal

pub returns-in-Some-clause-is : goal.returns-in-Some-clause-is
returns-in-Some-clause-is g c =
    let old = g.F.Machine.state c.args.files.now in
    let start = g.F.Machine.state c.main_text.new.files in
    let new = g.F.Machine.state c.spot_again.new.files in
    spots-main old start new c.args.fault.now c.args.names.now c.args.text.now c.in-Some.main.items c.spot_again.result
    (subst (λ found. IsFileReading old start (name_at c.args.names.now 0) found) c.in-Some.is c.in_ok-found.ensures.is)
    c.in_ok-found.ensures.only
    (subst (λ name. IfOk c.spot_again.result (λ spotted. SpotsAgain start new name c.in-Some.main.items c.args.fault.now c.args.text.now spotted)) c.name_at.ensures
    (subst (λ main. IfOk c.spot_again.result (λ spotted. SpotsAgain start new c.name_at.result.now main c.args.fault.now c.args.text.now spotted)) c.deref.ensures.value
    c.spot_again.ensures.is))
