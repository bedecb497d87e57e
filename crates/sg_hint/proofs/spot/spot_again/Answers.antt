use Rattle.std.proofs.Common.{Ok, Err}
use Rattle.sg_hint.proofs.Spots.{spots-again}
use Rattle.sg_hint.proofs.spot.spot_again.Goals as goal

pub returns-in-Ok-clause-is : goal.returns-in-Ok-clause-is
returns-in-Ok-clause-is g c = spots-again (g.F.Machine.state c.args.files.now) (g.F.Machine.state c.expand_again.new.files)
    c.args.name.now c.args.main.now c.args.fault.now c.args.text.now (Ok c.in-Ok.expanded) c.expanded_spot.result c.in-Ok.ensures.is c.expanded_spot.ensures

pub returns-in-Err-clause-is : goal.returns-in-Err-clause-is
returns-in-Err-clause-is g c = spots-again (g.F.Machine.state c.args.files.now) (g.F.Machine.state c.expand_again.new.files)
    c.args.name.now c.args.main.now c.args.fault.now c.args.text.now (Err c.in-Err.refusal) c.refused_spot.result c.in-Err.ensures.is c.refused_spot.ensures
