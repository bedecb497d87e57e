use Rattle.std.proofs.Common.{◌≡◌, ◌≤◌, ◌<◌, ◌∙◌, length, map, is_some, subst, arith}
use Rattle.sg_overflow.specs.Buffered.{held_state}
use Rattle.sg_serve.specs.Overflows.{IsFinished}
use Rattle.sg_serve.proofs.FinishLemmas.{set-same, same-many, to-more, to-all}
use Rattle.sg_serve.proofs.overflows.finish_all.Goals as goal

pub returns-in_default-finished-clause-stay : goal.returns-in_default-finished-clause-stay
returns-in_default-finished-clause-stay g c =
    c.finish_from-in_default-finished.ensures
    ∙ set-same g.O.Outlet.state g.D.Disk.state c.loop-d.outlets.items c.loop-d.d c.index_mut.result.now c.finish_one-finished.new.outlet c.index_mut.ensures.value c.finish_one-finished.ensures.stays
    ∙ c.loop-d.invariant.stay

pub loop-d-preserved : goal.loop-d-preserved
loop-d-preserved g c =
    let outlet = g.O.Outlet.state in
    let disk = g.D.Disk.state in
    let olds = c.args.outlets.now.items in
    let mid = c.loop-d.outlets.items in
    let d = c.loop-d.d in
    let x = c.index_mut.result.now in
    let y = c.finish_one-finished.new.outlet in
    let after = c.finish_one-finished.new.rests in
    let many = same-many outlet disk olds mid c.loop-d.invariant.stay in
    let low : d < length mid = omega (arith, many) in
    let one = subst (λ gs. IsFinished outlet disk x y d c.loop-d.store gs c.args.once c.loop-d.rests after c.in-Ok-finished.more) c.as_slice.ensures c.in-Ok-finished.ensures.finished in
    to-more outlet disk olds mid d c.args.gone.now c.args.stores.now c.args.first c.args.once c.loop-d.rests after c.loop-d.store c.in-Ok-finished.more x y c.loop-d.invariant low c.index_mut.ensures.value one c.finish_one-finished.ensures.stays

pub returns-then-are_asked-clause-finished : goal.returns-then-are_asked-clause-finished
returns-then-are_asked-clause-finished g c =
    let outlet = g.O.Outlet.state in
    let disk = g.D.Disk.state in
    let olds = c.args.outlets.now.items in
    let mid = c.loop-d.outlets.items in
    let many = same-many outlet disk olds mid c.loop-d.invariant.stay in
    let end : length mid ≤ c.loop-d.d = omega (arith, many, c.loop-d-test.false) in
    let are = subst (λ os. c.args.asked.now ≡ map (λ way. is_some (held_state disk way)) os) c.deref.ensures.value (c.are_asked.ensures c.if-are_asked.true) in
    to-all outlet disk olds mid c.loop-d.d c.args.asked.now c.args.gone.now c.args.stores.now c.args.first c.args.once c.loop-d.rests c.loop-d.store c.loop-d.invariant end are
