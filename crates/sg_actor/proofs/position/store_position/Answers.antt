use Rattle.std.proofs.Common.{refl, sym, ◌∙◌, true, false}
use Rattle.sg_counter.specs.declared.answers.Stored.TheVariants.{Wrote, Unchanged, Broken}
use Rattle.sg_actor.proofs.StoreLemmas.{or-none, or-some, stores-one}
use Rattle.sg_actor.proofs.position.store_position.Goals as goal

pub returns-in-Wrote-clause-stores : goal.returns-in-Wrote-clause-stores
returns-in-Wrote-clause-stores g c =
    let old = c.args.position.now in
    stores-one c.args.spec.now g.C.Counter.step c.args.counter.now c.store.new.self c.args.rests c.args.end old old.broken true (Wrote c.in-Wrote.field-0)
    c.if-not-spec.false (sym c.is_due.ensures ∙ c.if-not-is_due.false) c.in-Wrote.ensures.step (or-none old.broken) refl

pub returns-in-Unchanged-clause-stores : goal.returns-in-Unchanged-clause-stores
returns-in-Unchanged-clause-stores g c =
    let old = c.args.position.now in
    stores-one c.args.spec.now g.C.Counter.step c.args.counter.now c.store.new.self c.args.rests c.args.end old old.broken false Unchanged
    c.if-not-spec.false (sym c.is_due.ensures ∙ c.if-not-is_due.false) c.in-Unchanged.ensures.step (or-none old.broken) refl

pub returns-in-Broken-clause-stores : goal.returns-in-Broken-clause-stores
returns-in-Broken-clause-stores g c =
    let old = c.args.position.now in
    stores-one c.args.spec.now g.C.Counter.step c.args.counter.now c.store.new.self c.args.rests c.args.end old true true Broken
    c.if-not-spec.false (sym c.is_due.ensures ∙ c.if-not-is_due.false) c.in-Broken.ensures.step (or-some old.broken) refl
