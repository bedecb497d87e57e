use Rattle.std.proofs.Common.{◌-◌, subst, sym, arith}
use Rattle.sg_spool.proofs.AdvanceCalls.{advance_put, advanced, compact_skip, head_high}
use Rattle.sg_spool.specs.Places.{AreCompact}
use Rattle.sg_spool.specs.declared.places.Places.{Places}
use Rattle.sg_spool.proofs.advance.advance_past.Goals as goal

pub returns-in_err-put-clause-within : goal.returns-in_err-put-clause-within
returns-in_err-put-clause-within g c = λ n es start.
    let next = c.skip-next.result in
    let high = head_high next.jump next.head next.end c.skip-next.ensures.ordered in
    advance_put c.args.cell.now c.args.places next n c.args.size es c.requires.ordered c.skip-next.ensures.places (g.D.Disk.state c.args.disk.now) (g.D.Disk.state c.put.new.disk) start (next.head - 64) (omega (arith, high)) (c.put.ensures.within c.requires.cell_open)

pub returns-clause-within : goal.returns-clause-within
returns-clause-within g c = λ n es start.
    let next = c.skip-next.result in
    let high = head_high next.jump next.head next.end c.skip-next.ensures.ordered in
    advance_put c.args.cell.now c.args.places next n c.args.size es c.requires.ordered c.skip-next.ensures.places (g.D.Disk.state c.args.disk.now) (g.D.Disk.state c.put.new.disk) start (next.head - 64) (omega (arith, high)) (c.put.ensures.within c.requires.cell_open)

pub returns-clause-ring : goal.returns-clause-ring
returns-clause-ring g c = λ n es start.
    let next = c.skip-next.result in
    let high = head_high next.jump next.head next.end c.skip-next.ensures.ordered in
    advanced c.args.cell.now c.args.places next n c.args.size es c.requires.ordered c.skip-next.ensures.places (g.D.Disk.state c.args.disk.now) (g.D.Disk.state c.put.new.disk) start (next.head - 64) (omega (arith, high)) (c.put.ensures.within c.requires.cell_open) c.put.new.self c.in_ok-put.ensures.answer.ok (c.put.ensures.cell c.in_ok-put.ensures.answer.closed)

pub returns-clause-places : goal.returns-clause-places
returns-clause-places g c =
    let places = c.args.places in
    record {
      ordered = c.skip-next.ensures.ordered;
      live = c.skip-next.ensures.live;
      compact = λ capacity compact. subst (λ (q : Places). AreCompact capacity q.jump q.head q.end) (sym c.skip-next.ensures.places) (compact_skip capacity places.jump places.head places.end c.args.size c.requires.ordered compact);
    }
