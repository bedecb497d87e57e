use Rattle.std.proofs.Common.{◌∙◌, sym, ap}
use Rattle.sg_stores.specs.Stores.{StoreState}
use Rattle.sg_stores.proofs.AdvanceLemmas.{failed-advances, first-inside, first-sized, done-advances, failed-advance}
use Rattle.sg_stores.proofs.buffer.BufferStore.advance.Goals as goal

pub returns-then-self-clause-advances : goal.returns-then-self-clause-advances
returns-then-self-clause-advances g c = failed-advances c.args.self.now c.args.n c.args.size (ap (λ (s : StoreState). s.failed) (sym c.self.view_is) ∙ c.if-self.true)

pub advance_over-requires-clause-inside : goal.advance_over-requires-clause-inside
advance_over-requires-clause-inside g c =
    let first = (rw (← c.self.view_is) at c.requires) c.if-self.false in
    first-inside g.D.Disk.state c.self.inside.spool c.self.inside.failed c.args.n c.args.size first

pub advance_over-requires-clause-sized : goal.advance_over-requires-clause-sized
advance_over-requires-clause-sized g c = λ open_.
    let first = (rw (← c.self.view_is) at c.requires) c.if-self.false in
    first-sized g.D.Disk.state c.self.inside.spool c.self.inside.failed c.args.n c.args.size first

pub returns-in-Ok-clause-advances : goal.returns-in-Ok-clause-advances
returns-in-Ok-clause-advances g c =
    rw (← c.self.view_is) (done-advances g.D.Disk.state c.self.inside.spool c.self.inside.failed c.args.n c.args.size c.advance_over.new.self c.advance_over.ensures.lasts c.advance_over.ensures.leaves c.if-self.false c.in-Ok.field-0 c.in-Ok.ensures.answer c.in-Ok.ensures.live)

pub returns-in-Err-clause-advances : goal.returns-in-Err-clause-advances
returns-in-Err-clause-advances g c =
    rw (← c.self.view_is) (failed-advance g.D.Disk.state c.self.inside.spool c.self.inside.failed c.args.n c.args.size c.advance_over.new.self c.advance_over.ensures.lasts c.advance_over.ensures.leaves c.if-self.false c.in-Err.field-0 (c.self.invariant.works c.if-self.false) c.in-Err.ensures.answer)
