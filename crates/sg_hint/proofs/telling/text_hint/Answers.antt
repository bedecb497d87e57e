use Rattle.sg_hint.proofs.Spots.{brief}
use Rattle.sg_hint.proofs.Hints.{hint-of}
use Rattle.sg_hint.proofs.telling.text_hint.Goals as goal

pub write_hint-requires : goal.write_hint-requires
write_hint-requires g c = brief (g.F.Machine.state c.args.files.now) (g.F.Machine.state c.spot.new.files) c.args.fault.now
    c.args.names.now c.args.text.now c.in_ok-spotted.spotted c.in_ok-spotted.ensures.is

pub returns-clause-is : goal.returns-clause-is
returns-clause-is g c = hint-of (g.F.Machine.state c.args.files.now) (g.F.Machine.state c.spot.new.files) c.args.fault.now
    c.args.names.now c.args.text.now c.in_ok-write_hint.field-0.items c.in-Some.line.now c.in_ok-spotted.spotted c.in-Some.ensures
    c.in_ok-spotted.ensures.is c.in_ok-write_hint.ensures.is c.in_ok-write_hint.ensures.form
