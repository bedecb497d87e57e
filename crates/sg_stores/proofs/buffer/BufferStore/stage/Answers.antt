use Rattle.std.proofs.Common.{◌∙◌, sym, ap}
use Rattle.sg_stores.specs.Stores.{StoreState}
use Rattle.sg_stores.proofs.StageLemmas.{failed-stages, no-room-stages, failed-now, done-stages}
use Rattle.sg_stores.proofs.buffer.BufferStore.stage.Goals as goal

pub returns-then-self-clause-stages : goal.returns-then-self-clause-stages
returns-then-self-clause-stages g c = failed-stages c.args.self.now c.args.block.now (ap (λ (s : StoreState). s.failed) (sym c.self.view_is) ∙ c.if-self.true)

pub returns-in-Done-clause-stages : goal.returns-in-Done-clause-stages
returns-in-Done-clause-stages g c =
    rw (← c.self.view_is) (done-stages g.D.Disk.state c.self.inside.spool c.stage.new.self c.args.block.now c.self.invariant.limit c.stage.ensures.lasts c.stage.ensures.leaves c.self.inside.failed c.if-self.false c.in-Done.ensures.answer)

pub returns-in-NoRoom-clause-stages : goal.returns-in-NoRoom-clause-stages
returns-in-NoRoom-clause-stages g c =
    rw (← c.self.view_is) (no-room-stages g.D.Disk.state c.self.inside.spool c.stage.new.self c.args.block.now c.self.invariant.limit c.self.inside.failed c.if-self.false c.in-NoRoom.ensures.answer)

pub returns-in-DiskFailed-clause-stages : goal.returns-in-DiskFailed-clause-stages
returns-in-DiskFailed-clause-stages g c =
    rw (← c.self.view_is) (failed-now g.D.Disk.state c.self.inside.spool c.stage.new.self c.args.block.now c.self.invariant.limit c.stage.ensures.lasts c.stage.ensures.leaves c.self.inside.failed c.if-self.false (c.self.invariant.works c.if-self.false) c.in-DiskFailed.ensures.answer)
