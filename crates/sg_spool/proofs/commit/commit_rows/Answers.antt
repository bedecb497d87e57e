use Rattle.std.proofs.Common.{◌⊎◌, inl, ◌++◌, sym, subst}
use Rattle.sg_spool.specs.declared.rows.Rows.{Rows}
use Rattle.sg_device.specs.Disk.{content, Within, EachNow, WhereTold}
use Rattle.sg_device.proofs.Disks.{started, preserves_refl}
use Rattle.sg_spool.specs.Ring.{Entries}
use Rattle.sg_spool.specs.Staging.{OpensTo}
use Rattle.sg_spool.specs.View.{IsRing}
use Rattle.sg_spool.proofs.Committing.{some_staged, none_ring, same_torn}
use Rattle.sg_spool.proofs.commit.commit_rows.Goals as goal

pub returns-then-rows-eq0-clause-within : goal.returns-then-rows-eq0-clause-within
returns-then-rows-eq0-clause-within g c = λ cell list staged number start opens. started (g.D.Disk.state c.args.disk.now) (λ bytes. IsRing cell c.args.rows.list list bytes ⊎ IsRing cell c.args.rows.ahead (list ++ staged) bytes) (λ b left. inl (start b left))

pub returns-then-rows-eq0-clause-ring : goal.returns-then-rows-eq0-clause-ring
returns-then-rows-eq0-clause-ring g c = λ cell list staged number start opens. subst (λ (r : Rows). EachNow (g.D.Disk.state c.args.disk.now) (IsRing cell r.list (list ++ staged))) (sym c.committed.ensures) (none_ring cell c.args.rows (g.D.Disk.state c.args.disk.now) list staged c.requires.rows c.if-rows-eq0.true number start)

pub returns-then-rows-eq0-clause-images : goal.returns-then-rows-eq0-clause-images
returns-then-rows-eq0-clause-images g c = same_torn c.args.rows.list.end 1 (g.D.Disk.state c.args.disk.now) (g.D.Disk.state c.args.disk.now) (preserves_refl (g.D.Disk.state c.args.disk.now)).still

pub returns-in_err-open_gate-clause-within : goal.returns-in_err-open_gate-clause-within
returns-in_err-open_gate-clause-within g c = λ cell list staged number start opens. some_staged (λ (ps : Entries). WhereTold (content (g.D.Disk.state c.args.disk.now)) (OpensTo cell c.args.rows.list.end c.args.rows.ahead.jump c.args.rows.ahead.head c.args.rows.ahead.end list ps)) (λ (ps : Entries). Within (g.D.Disk.state c.args.disk.now) (g.D.Disk.state c.open_gate.new.disk) (λ bytes. IsRing cell c.args.rows.list list bytes ⊎ IsRing cell c.args.rows.ahead (list ++ ps) bytes)) c.args.rows.staged staged number c.if-rows-eq0.false (λ p ps told. c.open_gate.ensures.within cell c.args.rows.list.jump c.args.rows.list.head c.args.rows.ahead.jump c.args.rows.ahead.head c.args.rows.ahead.end list p ps start told) opens

pub returns-clause-within : goal.returns-clause-within
returns-clause-within g c = λ cell list staged number start opens. some_staged (λ (ps : Entries). WhereTold (content (g.D.Disk.state c.args.disk.now)) (OpensTo cell c.args.rows.list.end c.args.rows.ahead.jump c.args.rows.ahead.head c.args.rows.ahead.end list ps)) (λ (ps : Entries). Within (g.D.Disk.state c.args.disk.now) (g.D.Disk.state c.open_gate.new.disk) (λ bytes. IsRing cell c.args.rows.list list bytes ⊎ IsRing cell c.args.rows.ahead (list ++ ps) bytes)) c.args.rows.staged staged number c.if-rows-eq0.false (λ p ps told. c.open_gate.ensures.within cell c.args.rows.list.jump c.args.rows.list.head c.args.rows.ahead.jump c.args.rows.ahead.head c.args.rows.ahead.end list p ps start told) opens

pub returns-clause-ring : goal.returns-clause-ring
returns-clause-ring g c = λ cell list staged number start opens. subst (λ (r : Rows). EachNow (g.D.Disk.state c.open_gate.new.disk) (IsRing cell r.list (list ++ staged))) (sym c.committed-2.ensures) (some_staged (λ (ps : Entries). WhereTold (content (g.D.Disk.state c.args.disk.now)) (OpensTo cell c.args.rows.list.end c.args.rows.ahead.jump c.args.rows.ahead.head c.args.rows.ahead.end list ps)) (λ (ps : Entries). EachNow (g.D.Disk.state c.open_gate.new.disk) (IsRing cell c.args.rows.ahead (list ++ ps))) c.args.rows.staged staged number c.if-rows-eq0.false (λ p ps told. c.in_ok-open_gate.ensures.ring cell c.args.rows.list.jump c.args.rows.list.head c.args.rows.ahead.jump c.args.rows.ahead.head c.args.rows.ahead.end list p ps start told) opens)
