use Rattle.std.proofs.Common.{ℕ, Bool, List, subst, sym, arith}
use Rattle.std.specs.Prelude.{IfOk}
use Rattle.sg_overflow.specs.Held.{ReadsHeld, Shows}
use Rattle.sg_overflow.specs.View.{Held, IsHeldSound}
use Rattle.sg_overflow.proofs.Firsts.{shows_memory, shows_store}
use Rattle.sg_overflow.proofs.Works.{reads_none, reads_held}
use Rattle.sg_overflow.proofs.held.Held.first.Goals as goal
use Rattle.sg_overflow.proofs.held.Held.first.Goals.{in-Ok, in-Err}

pub returns-then-stored-eq0-clause-reads : goal.returns-then-stored-eq0-clause-reads
returns-then-stored-eq0-clause-reads g c =
    let m = c.self.inside in
    let held : Held g.row.D.Denot = record { store = m.spool; memory = m.memory; limits = m.limits; stored = m.stored; behind = m.behind } in
    subst (λ (h : Held g.row.D.Denot). ReadsHeld g.D.Disk.state h h) c.self.view_is (reads_none g.D.Disk.state m.failed held c.self.invariant)

pub returns-then-stored-eq0-clause-shows : goal.returns-then-stored-eq0-clause-shows
returns-then-stored-eq0-clause-shows g c =
    let m = c.self.inside in
    let held : Held g.row.D.Denot = record { store = m.spool; memory = m.memory; limits = m.limits; stored = m.stored; behind = m.behind } in
    let P = λ (frames : List (List ℕ)). Shows g.D.Disk.state c.args.self.now c.args.self.now frames in
    elim c.match-first.branch [
      | in-Ok w ↦ subst (λ r. IfOk r P) (sym w.result-is)
          (subst (λ (h : Held g.row.D.Denot). Shows g.D.Disk.state h h w.in-Ok.frames) c.self.view_is
          (shows_memory g.D.Disk.state held 100 w.in-Ok.frames c.if-stored-eq0.true (omega arith) w.in-Ok.ensures))
      | in-Err w ↦ subst (λ r. IfOk r P) (sym w.result-is) tt
    ]

pub returns-in-Ok-read_first-clause-reads : goal.returns-in-Ok-read_first-clause-reads
returns-in-Ok-read_first-clause-reads g c =
    let m = c.self.inside in
    let held : Held g.row.D.Denot = record { store = m.spool; memory = m.memory; limits = m.limits; stored = m.stored; behind = m.behind } in
    let sound = subst (λ (f : Bool). IsHeldSound g.D.Disk.state f held) c.if-self.false c.self.invariant in
    subst (λ (h : Held g.row.D.Denot). ReadsHeld g.D.Disk.state h (record held { store = c.read_first.new.spool })) c.self.view_is
    (reads_held g.D.Disk.state held c.read_first.new.spool sound c.read_first.ensures.reads)

pub returns-in-Ok-read_first-clause-shows : goal.returns-in-Ok-read_first-clause-shows
returns-in-Ok-read_first-clause-shows g c =
    let m = c.self.inside in
    let held : Held g.row.D.Denot = record { store = m.spool; memory = m.memory; limits = m.limits; stored = m.stored; behind = m.behind } in
    let sound = subst (λ (f : Bool). IsHeldSound g.D.Disk.state f held) c.if-self.false c.self.invariant in
    let e = c.in-Ok-read_first.ensures in
    subst (λ (h : Held g.row.D.Denot). Shows g.D.Disk.state h (record held { store = c.read_first.new.spool }) c.in-Ok-read_first.frames) c.self.view_is
    (shows_store g.D.Disk.state held c.read_first.new.spool c.min-most.result c.in-Ok-read_first.frames sound c.min-most.ensures (omega (arith, c.if-stored-eq0.false))
    e.frames e.number.0 e.number.1 e.open)

pub returns-in-Err-DiskFault-clause-reads : goal.returns-in-Err-DiskFault-clause-reads
returns-in-Err-DiskFault-clause-reads g c =
    let m = c.self.inside in
    let held : Held g.row.D.Denot = record { store = m.spool; memory = m.memory; limits = m.limits; stored = m.stored; behind = m.behind } in
    let sound = subst (λ (f : Bool). IsHeldSound g.D.Disk.state f held) c.if-self.false c.self.invariant in
    subst (λ (h : Held g.row.D.Denot). ReadsHeld g.D.Disk.state h (record held { store = c.read_first.new.spool })) c.self.view_is
    (reads_held g.D.Disk.state held c.read_first.new.spool sound c.read_first.ensures.reads)

pub returns-in-Err-NoMemory-clause-reads : goal.returns-in-Err-NoMemory-clause-reads
returns-in-Err-NoMemory-clause-reads g c =
    let m = c.self.inside in
    let held : Held g.row.D.Denot = record { store = m.spool; memory = m.memory; limits = m.limits; stored = m.stored; behind = m.behind } in
    let sound = subst (λ (f : Bool). IsHeldSound g.D.Disk.state f held) c.if-self.false c.self.invariant in
    subst (λ (h : Held g.row.D.Denot). ReadsHeld g.D.Disk.state h (record held { store = c.read_first.new.spool })) c.self.view_is
    (reads_held g.D.Disk.state held c.read_first.new.spool sound c.read_first.ensures.reads)
