use Rattle.std.proofs.Common.{◌≡◌, ◌-◌, [], drop, refl}
use Rattle.std.specs.Prelude.{true, false}
use Rattle.std.specs.Option.{option_map}
use Rattle.sg_device.proofs.Disks.{within_now, moves_within}
use Rattle.sg_spool.specs.Places.{bound}
use Rattle.sg_spool.specs.View.{IsCompactIn}
use Rattle.sg_spool.proofs.Calls.{lasts_open}
use Rattle.sg_spool.proofs.Whole.{holds, has_entries, advance_one, advance_short, whole_advanced, advanced_rows, advanced_whole, advanced_holds, advanced_compact, listed_same}
use Rattle.sg_spool.proofs.spool.Spool.advance_over.Goals as goal

pub returns-in_err-next-clause-lasts : goal.returns-in_err-next-clause-lasts
returns-in_err-next-clause-lasts g c =
    let m = c.self.inside in
    let whole = c.self.invariant.whole c.if-self.false in
    let enough = rw (← c.self.view_is) at c.requires.enough in
    let sized = rw (← c.self.view_is) at c.requires.sized in
    let starts = has_entries m.cell m.rows (option_map (λ v. v.items) m.front) (g.D.Disk.state m.disk) whole c.args.n c.args.size enough (sized c.if-self.false) in
    rw (← c.self.view_is) (lasts_open g.D.Disk.state _ _ c.if-self.false refl (moves_within (c.advance_past.ensures.within c.args.n whole.entries (starts whole.entries whole.staged (holds m.cell m.rows (option_map (λ v. v.items) m.front) (g.D.Disk.state m.disk) whole)))) c.advance_past.ensures.answer.cause.later (λ works. absurd (let no : true ≡ false = works in cc)) (λ shut. c.in_err-next.ensures.answer.cause.failed))

pub returns-clause-lasts : goal.returns-clause-lasts
returns-clause-lasts g c =
    let m = c.self.inside in
    let whole = c.self.invariant.whole c.if-self.false in
    let enough = rw (← c.self.view_is) at c.requires.enough in
    let sized = rw (← c.self.view_is) at c.requires.sized in
    let starts = has_entries m.cell m.rows (option_map (λ v. v.items) m.front) (g.D.Disk.state m.disk) whole c.args.n c.args.size enough (sized c.if-self.false) in
    rw (← c.self.view_is) (lasts_open g.D.Disk.state _ _ c.if-self.false refl (moves_within (c.advance_past.ensures.within c.args.n whole.entries (starts whole.entries whole.staged (holds m.cell m.rows (option_map (λ v. v.items) m.front) (g.D.Disk.state m.disk) whole)))) c.advance_past.ensures.answer.cause.later (λ works. c.in_ok-next.ensures.answer.cause.well) (λ shut. absurd (let no : false ≡ true = shut in cc)))

pub returns-in_err-next-clause-leaves : goal.returns-in_err-next-clause-leaves
returns-in_err-next-clause-leaves g c =
    let m = c.self.inside in
    let whole = c.self.invariant.whole c.if-self.false in
    let enough = rw (← c.self.view_is) at c.requires.enough in
    let sized = rw (← c.self.view_is) at c.requires.sized in
    let starts = has_entries m.cell m.rows (option_map (λ v. v.items) m.front) (g.D.Disk.state m.disk) whole c.args.n c.args.size enough (sized c.if-self.false) in
    rw (← c.self.view_is) (record {
      within = λ list staged at. advance_one m.cell m.rows (option_map (λ v. v.items) m.front) (g.D.Disk.state m.disk) whole c.args.n (g.D.Disk.state c.advance_past.new.disk) list (c.advance_past.ensures.within c.args.n list (starts list staged at));
      short = λ compact. advance_short m.cell m.rows (option_map (λ v. v.items) m.front) (g.D.Disk.state m.disk) whole m.capacity compact c.self.invariant.rows c.args.n (g.D.Disk.state c.advance_past.new.disk) (c.advance_past.ensures.within c.args.n whole.entries (starts whole.entries whole.staged (holds m.cell m.rows (option_map (λ v. v.items) m.front) (g.D.Disk.state m.disk) whole))) (c.advance_past.ensures.short (bound m.capacity) (λ b left. (compact.images b left).short));
      compact = λ compact. record { list = compact.list; ahead = compact.ahead; images = (within_now (g.D.Disk.state m.disk) (g.D.Disk.state c.advance_past.new.disk) (IsCompactIn m.capacity) (advance_short m.cell m.rows (option_map (λ v. v.items) m.front) (g.D.Disk.state m.disk) whole m.capacity compact c.self.invariant.rows c.args.n (g.D.Disk.state c.advance_past.new.disk) (c.advance_past.ensures.within c.args.n whole.entries (starts whole.entries whole.staged (holds m.cell m.rows (option_map (λ v. v.items) m.front) (g.D.Disk.state m.disk) whole))) (c.advance_past.ensures.short (bound m.capacity) (λ b left. (compact.images b left).short)))) };
    })

pub returns-clause-leaves : goal.returns-clause-leaves
returns-clause-leaves g c =
    let m = c.self.inside in
    let whole = c.self.invariant.whole c.if-self.false in
    let enough = rw (← c.self.view_is) at c.requires.enough in
    let sized = rw (← c.self.view_is) at c.requires.sized in
    let starts = has_entries m.cell m.rows (option_map (λ v. v.items) m.front) (g.D.Disk.state m.disk) whole c.args.n c.args.size enough (sized c.if-self.false) in
    rw (← c.self.view_is) (record {
      within = λ list staged at. advance_one m.cell m.rows (option_map (λ v. v.items) m.front) (g.D.Disk.state m.disk) whole c.args.n (g.D.Disk.state c.advance_past.new.disk) list (c.advance_past.ensures.within c.args.n list (starts list staged at));
      short = λ compact. advance_short m.cell m.rows (option_map (λ v. v.items) m.front) (g.D.Disk.state m.disk) whole m.capacity compact c.self.invariant.rows c.args.n (g.D.Disk.state c.advance_past.new.disk) (c.advance_past.ensures.within c.args.n whole.entries (starts whole.entries whole.staged (holds m.cell m.rows (option_map (λ v. v.items) m.front) (g.D.Disk.state m.disk) whole))) (c.advance_past.ensures.short (bound m.capacity) (λ b left. (compact.images b left).short));
      compact = λ compact. advanced_compact c.in_ok-next.next (m.rows.count - c.args.n) c.listed-self-inside.result m.capacity (g.D.Disk.state c.advance_past.new.disk) c.listed-self-inside.ensures (c.in_ok-next.ensures.places.compact m.capacity compact.list) (within_now (g.D.Disk.state m.disk) (g.D.Disk.state c.advance_past.new.disk) (IsCompactIn m.capacity) (advance_short m.cell m.rows (option_map (λ v. v.items) m.front) (g.D.Disk.state m.disk) whole m.capacity compact c.self.invariant.rows c.args.n (g.D.Disk.state c.advance_past.new.disk) (c.advance_past.ensures.within c.args.n whole.entries (starts whole.entries whole.staged (holds m.cell m.rows (option_map (λ v. v.items) m.front) (g.D.Disk.state m.disk) whole))) (c.advance_past.ensures.short (bound m.capacity) (λ b left. (compact.images b left).short))));
    })

pub returns-clause-answer : goal.returns-clause-answer
returns-clause-answer g c =
    let m = c.self.inside in
    let whole = c.self.invariant.whole c.if-self.false in
    let enough = rw (← c.self.view_is) at c.requires.enough in
    let sized = rw (← c.self.view_is) at c.requires.sized in
    let starts = has_entries m.cell m.rows (option_map (λ v. v.items) m.front) (g.D.Disk.state m.disk) whole c.args.n c.args.size enough (sized c.if-self.false) in
    rw (← c.self.view_is) (
      c.if-self.false,
      refl,
      listed_same c.in_ok-next.next (m.rows.count - c.args.n) c.listed-self-inside.result c.listed-self-inside.ensures,
      refl,
      λ list at. advanced_holds c.advance_past.new.cell c.in_ok-next.next (m.rows.count - c.args.n) c.listed-self-inside.result (drop c.args.n list) (g.D.Disk.state c.advance_past.new.disk) c.listed-self-inside.ensures (c.in_ok-next.ensures.ring c.args.n list (starts list [] at)),
    )

pub invariant_of-self-2 : goal.invariant_of-self-2
invariant_of-self-2 g c =
    let m = c.self.inside in
    let whole = c.self.invariant.whole c.if-self.false in
    let enough = rw (← c.self.view_is) at c.requires.enough in
    let sized = rw (← c.self.view_is) at c.requires.sized in
    let starts = has_entries m.cell m.rows (option_map (λ v. v.items) m.front) (g.D.Disk.state m.disk) whole c.args.n c.args.size enough (sized c.if-self.false) in
    record {
      rows = advanced_rows c.in_ok-next.next (m.rows.count - c.args.n) c.listed-self-inside.result c.listed-self-inside.ensures c.in_ok-next.ensures.places.ordered;
      unstaged = λ shut. absurd (let no : false ≡ true = shut in cc);
      cell_open = λ shut. c.in_ok-next.ensures.answer.cell_open;
      whole = λ shut. advanced_whole c.advance_past.new.cell c.in_ok-next.next (m.rows.count - c.args.n) c.listed-self-inside.result (g.D.Disk.state c.advance_past.new.disk) c.listed-self-inside.ensures (whole_advanced m.cell m.rows (option_map (λ v. v.items) m.front) (g.D.Disk.state m.disk) whole c.args.n (g.D.Disk.state c.advance_past.new.disk) c.advance_past.new.cell c.in_ok-next.next (moves_within (c.advance_past.ensures.within c.args.n whole.entries (starts whole.entries whole.staged (holds m.cell m.rows (option_map (λ v. v.items) m.front) (g.D.Disk.state m.disk) whole)))) enough (c.in_ok-next.ensures.ring c.args.n whole.entries (starts whole.entries whole.staged (holds m.cell m.rows (option_map (λ v. v.items) m.front) (g.D.Disk.state m.disk) whole))));
    }
