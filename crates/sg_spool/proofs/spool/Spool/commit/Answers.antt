use Rattle.std.proofs.Common.{◌≡◌, ◌++◌, ap, refl}
use Rattle.std.specs.Prelude.{true, false}
use Rattle.std.specs.Option.{option_map}
use Rattle.sg_device.proofs.Disks.{within_now, moves_within}
use Rattle.sg_spool.specs.View.{IsCompactIn}
use Rattle.sg_spool.specs.declared.rows.Rows.{Rows}
use Rattle.sg_spool.proofs.Rooms.{commits_one}
use Rattle.sg_spool.proofs.Whole.{held, holds_held, list_holds, commit_short, whole_committed, committed_rows, unstaged_compact, committed_compact}
use Rattle.sg_spool.proofs.spool.Spool.commit.Goals as goal

pub returns-in_err-next-clause-leaves : goal.returns-in_err-next-clause-leaves
returns-in_err-next-clause-leaves g c =
    let m = c.self.inside in
    let whole = c.self.invariant.whole c.if-self.false in
    rw (← c.self.view_is) (record {
      within = λ list staged at. let h = holds_held m.cell m.rows (option_map (λ v. v.items) m.front) (g.D.Disk.state m.disk) whole list staged at in commits_one m.cell m.rows list staged (g.D.Disk.state m.disk) (g.D.Disk.state c.commit_rows.new.disk) h (c.commit_rows.ensures.within m.cell list staged (h).waits (h).rings (h).opens);
      short = λ compact. commit_short m.cell m.rows (option_map (λ v. v.items) m.front) (g.D.Disk.state m.disk) whole m.capacity compact c.self.invariant.rows (g.D.Disk.state c.commit_rows.new.disk) (c.commit_rows.ensures.within m.cell whole.entries whole.staged (held m.cell m.rows (option_map (λ v. v.items) m.front) (g.D.Disk.state m.disk) whole).waits (held m.cell m.rows (option_map (λ v. v.items) m.front) (g.D.Disk.state m.disk) whole).rings (held m.cell m.rows (option_map (λ v. v.items) m.front) (g.D.Disk.state m.disk) whole).opens) c.commit_rows.ensures.images;
      compact = λ compact. unstaged_compact m.rows c.unstaged-self-inside.result m.capacity (g.D.Disk.state m.disk) (g.D.Disk.state c.commit_rows.new.disk) c.unstaged-self-inside.ensures compact (within_now (g.D.Disk.state m.disk) (g.D.Disk.state c.commit_rows.new.disk) (IsCompactIn m.capacity) (commit_short m.cell m.rows (option_map (λ v. v.items) m.front) (g.D.Disk.state m.disk) whole m.capacity compact c.self.invariant.rows (g.D.Disk.state c.commit_rows.new.disk) (c.commit_rows.ensures.within m.cell whole.entries whole.staged (held m.cell m.rows (option_map (λ v. v.items) m.front) (g.D.Disk.state m.disk) whole).waits (held m.cell m.rows (option_map (λ v. v.items) m.front) (g.D.Disk.state m.disk) whole).rings (held m.cell m.rows (option_map (λ v. v.items) m.front) (g.D.Disk.state m.disk) whole).opens) c.commit_rows.ensures.images));
    })

pub returns-clause-leaves : goal.returns-clause-leaves
returns-clause-leaves g c =
    let m = c.self.inside in
    let whole = c.self.invariant.whole c.if-self.false in
    rw (← c.self.view_is) (record {
      within = λ list staged at. let h = holds_held m.cell m.rows (option_map (λ v. v.items) m.front) (g.D.Disk.state m.disk) whole list staged at in commits_one m.cell m.rows list staged (g.D.Disk.state m.disk) (g.D.Disk.state c.commit_rows.new.disk) h (c.commit_rows.ensures.within m.cell list staged (h).waits (h).rings (h).opens);
      short = λ compact. commit_short m.cell m.rows (option_map (λ v. v.items) m.front) (g.D.Disk.state m.disk) whole m.capacity compact c.self.invariant.rows (g.D.Disk.state c.commit_rows.new.disk) (c.commit_rows.ensures.within m.cell whole.entries whole.staged (held m.cell m.rows (option_map (λ v. v.items) m.front) (g.D.Disk.state m.disk) whole).waits (held m.cell m.rows (option_map (λ v. v.items) m.front) (g.D.Disk.state m.disk) whole).rings (held m.cell m.rows (option_map (λ v. v.items) m.front) (g.D.Disk.state m.disk) whole).opens) c.commit_rows.ensures.images;
      compact = λ compact. committed_compact m.rows c.in_ok-next.next m.capacity (g.D.Disk.state m.disk) (g.D.Disk.state c.commit_rows.new.disk) c.in_ok-next.ensures.committed compact (within_now (g.D.Disk.state m.disk) (g.D.Disk.state c.commit_rows.new.disk) (IsCompactIn m.capacity) (commit_short m.cell m.rows (option_map (λ v. v.items) m.front) (g.D.Disk.state m.disk) whole m.capacity compact c.self.invariant.rows (g.D.Disk.state c.commit_rows.new.disk) (c.commit_rows.ensures.within m.cell whole.entries whole.staged (held m.cell m.rows (option_map (λ v. v.items) m.front) (g.D.Disk.state m.disk) whole).waits (held m.cell m.rows (option_map (λ v. v.items) m.front) (g.D.Disk.state m.disk) whole).rings (held m.cell m.rows (option_map (λ v. v.items) m.front) (g.D.Disk.state m.disk) whole).opens) c.commit_rows.ensures.images));
    })

pub returns-clause-answer : goal.returns-clause-answer
returns-clause-answer g c =
    let m = c.self.inside in
    let whole = c.self.invariant.whole c.if-self.false in
    rw (← c.self.view_is) (
      c.if-self.false,
      refl,
      c.in_ok-next.ensures.committed,
      λ list staged at. let h = holds_held m.cell m.rows (option_map (λ v. v.items) m.front) (g.D.Disk.state m.disk) whole list staged at in list_holds m.cell c.in_ok-next.next (list ++ staged) (g.D.Disk.state c.commit_rows.new.disk) (ap (λ (r : Rows). r.staged) c.in_ok-next.ensures.committed) (c.in_ok-next.ensures.ring m.cell list staged h.waits h.rings h.opens),
    )

pub invariant_of-self-2 : goal.invariant_of-self-2
invariant_of-self-2 g c =
    let m = c.self.inside in
    let whole = c.self.invariant.whole c.if-self.false in
    record {
      rows = committed_rows m.rows c.in_ok-next.next c.in_ok-next.ensures.committed c.self.invariant.rows;
      unstaged = λ shut. absurd (let no : false ≡ true = shut in cc);
      cell_open = λ shut. c.self.invariant.cell_open c.if-self.false;
      whole = λ shut. whole_committed m.cell m.rows (option_map (λ v. v.items) m.front) (g.D.Disk.state m.disk) whole (g.D.Disk.state c.commit_rows.new.disk) c.in_ok-next.next (moves_within (c.commit_rows.ensures.within m.cell whole.entries whole.staged (held m.cell m.rows (option_map (λ v. v.items) m.front) (g.D.Disk.state m.disk) whole).waits (held m.cell m.rows (option_map (λ v. v.items) m.front) (g.D.Disk.state m.disk) whole).rings (held m.cell m.rows (option_map (λ v. v.items) m.front) (g.D.Disk.state m.disk) whole).opens)) c.in_ok-next.ensures.committed (c.self.invariant.rows).ahead (c.in_ok-next.ensures.ring m.cell whole.entries whole.staged whole.waits (held m.cell m.rows (option_map (λ v. v.items) m.front) (g.D.Disk.state m.disk) whole).rings whole.opens);
    }
