use Rattle.std.proofs.Common.{Bool, length, subst, sym, ap, arith}
use Rattle.std.proofs.lemmas.List.{length-take}
use Rattle.sg_overflow.specs.Held.{SettlesHeld, SpillStop}
use Rattle.sg_overflow.specs.View.{Held, IsWithinMemory}
use Rattle.sg_overflow.specs.declared.answers.Limits.{Limits}
use Rattle.sg_overflow.proofs.Spills.{no_outlet, settles_held, settle_stop}
use Rattle.sg_overflow.proofs.held.Held.settle.Goals as goal

pub returns-clause-settles : goal.returns-clause-settles
returns-clause-settles g c =
    let mid = c.spill-stop.new.self in
    subst (λ (h : Held g.row.D.Denot). SettlesHeld g.D.Disk.state c.args.self.now h c.cut-dropped.result) (sym c.cut-dropped.ensures.rest)
    (settles_held g.D.Disk.state c.args.self.now mid c.kept-kept.result c.cut-dropped.result (c.spill-stop.ensures.moves no_outlet) c.kept-kept.ensures c.cut-dropped.ensures.dropped)

pub returns-clause-cause : goal.returns-clause-cause
returns-clause-cause g c =
    let mid = c.spill-stop.new.self in
    let closed = ap (λ (h : Held g.row.D.Denot). h.store.closed) c.cut-dropped.ensures.rest in
    settle_stop c.kept-kept.result (length mid.memory) c.cut-dropped.result c.cut-dropped.new.self.store.closed c.spill-stop.result c.cut-dropped.ensures.dropped
    (subst (λ (b : Bool). SpillStop c.kept-kept.result (length mid.memory) b c.spill-stop.result) (sym closed) c.spill-stop.ensures.cause)

pub returns-clause-memory : goal.returns-clause-memory
returns-clause-memory g c =
    let mid = c.spill-stop.new.self in
    let limit = ap (λ (l : Limits). l.memory) (c.spill-stop.ensures.moves no_outlet).limits in
    subst (λ (h : Held g.row.D.Denot). IsWithinMemory h) (sym c.cut-dropped.ensures.rest)
    (omega (arith, length-take c.kept-kept.result mid.memory, limit, c.kept-kept.ensures))
