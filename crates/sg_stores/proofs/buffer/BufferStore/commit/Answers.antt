use Rattle.std.proofs.Common.{◌∙◌, sym, ap}
use Rattle.sg_stores.specs.Stores.{StoreState}
use Rattle.sg_stores.proofs.CommitLemmas.{failed-commits, done-commits, failed-commit}
use Rattle.sg_stores.proofs.buffer.BufferStore.commit.Goals as goal

pub returns-then-self-clause-commits : goal.returns-then-self-clause-commits
returns-then-self-clause-commits g c = failed-commits c.args.self.now (ap (λ (s : StoreState). s.failed) (sym c.self.view_is) ∙ c.if-self.true)

pub returns-in-Ok-clause-commits : goal.returns-in-Ok-clause-commits
returns-in-Ok-clause-commits g c =
    let small = rw c.live-live.ensures.live at c.live-live.ensures.small in
    rw (← c.self.view_is) (done-commits g.D.Disk.state c.self.inside.spool c.commit.new.self c.commit.ensures.lasts c.commit.ensures.leaves c.self.inside.failed c.if-self.false c.in-Ok.field-0 c.in-Ok.ensures.answer small)

pub returns-in-Err-clause-commits : goal.returns-in-Err-clause-commits
returns-in-Err-clause-commits g c =
    rw (← c.self.view_is) (failed-commit g.D.Disk.state c.self.inside.spool c.commit.new.self c.commit.ensures.lasts c.commit.ensures.leaves c.self.inside.failed c.if-self.false c.in-Err.field-0 (c.self.invariant.works c.if-self.false) c.in-Err.ensures.answer)
