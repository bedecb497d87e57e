use Rattle.std.proofs.Common.{inl, refl}
use Rattle.sg_overflow.proofs.Keeps.{kept_none}
use Rattle.sg_overflow.proofs.keeping.keep_rest.Goals as goal

pub returns-then-sent-len-clause-moves : goal.returns-then-sent-len-clause-moves
returns-then-sent-len-clause-moves g c = λ inner. kept_none g.D.Disk.state c.args.frames.now c.args.sent.count inner c.args.held.now c.is_empty-empty.ensures.still

pub returns-then-sent-len-clause-cause : goal.returns-then-sent-len-clause-cause
returns-then-sent-len-clause-cause g c = inl refl

pub returns-then-failed-clause-moves : goal.returns-then-failed-clause-moves
returns-then-failed-clause-moves g c = λ inner. kept_none g.D.Disk.state c.args.frames.now c.args.sent.count inner c.args.held.now c.is_empty-empty.ensures.still

pub returns-then-failed-clause-cause : goal.returns-then-failed-clause-cause
returns-then-failed-clause-cause g c = inl refl
