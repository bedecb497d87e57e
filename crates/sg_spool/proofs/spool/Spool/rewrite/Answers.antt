use Rattle.std.proofs.Common.{◌≡◌, ◌∙◌, [], map, ap, subst, sym, refl}
use Rattle.std.specs.Prelude.{true, false}
use Rattle.std.specs.Option.{option_map}
use Rattle.sg_device.proofs.Disks.{moves_within}
use Rattle.sg_stable.specs.declared.cell.Pair.{Pair}
use Rattle.sg_spool.specs.View.{IsWholeRing}
use Rattle.sg_spool.specs.declared.rows.Rows.{Rows}
use Rattle.sg_spool.proofs.Calls.{lasts_open}
use Rattle.sg_spool.proofs.RewriteCalls.{lost_memory, fault_rose, lost_still}
use Rattle.sg_spool.proofs.Whole.{held, holds_held, counts, none_respelled, unstaged_same, respell_one, whole_respelled, whole_before, before_holds, advanced_rows, advanced_whole, respelled_holds, listed_same}
use Rattle.sg_spool.proofs.spool.Spool.rewrite.Goals as goal

pub returns-then-self-eq0-clause-answer : goal.returns-then-self-eq0-clause-answer
returns-then-self-eq0-clause-answer g c =
    let m = c.self.inside in
    let whole = c.self.invariant.whole c.if-self.false in
    let none = rw (← c.self.view_is) at c.requires in
    rw (← c.self.view_is) (c.if-self.false, c.if-self.false, unstaged_same m.rows c.self.invariant.rows none, λ list at. none_respelled m.cell m.rows (option_map (λ v. v.items) m.front) (g.D.Disk.state m.disk) whole (g.M.Recode.meaning c.args.recode.now) list c.if-self-eq0.true at)

pub invariant_of-self : goal.invariant_of-self
invariant_of-self g c =
    let m = c.self.inside in
    let whole = c.self.invariant.whole c.if-self.false in
    record {
      rows = advanced_rows c.in-Ok.next m.rows.count c.listed-self-inside.result c.listed-self-inside.ensures c.in-Ok.ensures.ordered;
      unstaged = λ shut. ap (λ (r : Rows). r.staged) c.listed-self-inside.ensures;
      cell_open = λ shut. c.in-Ok.ensures.cell_open;
      whole = λ shut. advanced_whole c.rewrite_list.new.cell c.in-Ok.next m.rows.count c.listed-self-inside.result (g.D.Disk.state c.rewrite_list.new.disk) c.listed-self-inside.ensures (whole_respelled m.cell m.rows (option_map (λ v. v.items) m.front) (g.D.Disk.state m.disk) whole (g.M.Recode.meaning c.args.recode.now) (g.D.Disk.state c.rewrite_list.new.disk) c.rewrite_list.new.cell c.in-Ok.next (moves_within (c.rewrite_list.ensures.within whole.entries (λ b left. (whole.each b left).number) (held m.cell m.rows (option_map (λ v. v.items) m.front) (g.D.Disk.state m.disk) whole).rings)) (c.in-Ok.ensures.ring whole.entries (λ b left. (whole.each b left).number) (held m.cell m.rows (option_map (λ v. v.items) m.front) (g.D.Disk.state m.disk) whole).rings));
    }

pub invariant_of-self-in-Err-NoMemory : goal.invariant_of-self-in-Err-NoMemory
invariant_of-self-in-Err-NoMemory g c =
    let m = c.self.inside in
    let whole = c.self.invariant.whole c.if-self.false in
    let none = rw (← c.self.view_is) at c.requires in
    let same : c.rewrite_list.new.cell ≡ m.cell = (lost_memory _ c.in-Err-NoMemory.field-0 c.in-Err-NoMemory.field-0-is c.in-Err-NoMemory.ensures.no_memory).cell in
    record {
      rows = c.self.invariant.rows;
      unstaged = c.self.invariant.unstaged;
      cell_open = λ shut. subst (λ (p : Pair). p.closed ≡ false) (sym same) (c.self.invariant.cell_open shut);
      whole = λ shut. subst (λ (p : Pair). IsWholeRing (g.D.Disk.state c.rewrite_list.new.disk) p m.rows (option_map (λ v. v.items) m.front)) (sym same) (whole_before m.cell m.rows (option_map (λ v. v.items) m.front) (g.D.Disk.state m.disk) whole (g.D.Disk.state c.rewrite_list.new.disk) none (moves_within (c.rewrite_list.ensures.within whole.entries (λ b left. (whole.each b left).number) (held m.cell m.rows (option_map (λ v. v.items) m.front) (g.D.Disk.state m.disk) whole).rings)) ((lost_memory _ c.in-Err-NoMemory.field-0 c.in-Err-NoMemory.field-0-is c.in-Err-NoMemory.ensures.no_memory).ring whole.entries (held m.cell m.rows (option_map (λ v. v.items) m.front) (g.D.Disk.state m.disk) whole).rings));
    }

pub returns-in-Ok-clause-lasts : goal.returns-in-Ok-clause-lasts
returns-in-Ok-clause-lasts g c =
    let m = c.self.inside in
    let whole = c.self.invariant.whole c.if-self.false in
    rw (← c.self.view_is) (lasts_open g.D.Disk.state _ _ c.if-self.false refl (moves_within (c.rewrite_list.ensures.within whole.entries (λ b left. (whole.each b left).number) (held m.cell m.rows (option_map (λ v. v.items) m.front) (g.D.Disk.state m.disk) whole).rings)) c.rewrite_list.ensures.cause.later (λ works. c.in-Ok.ensures.cause.well) (λ shut. absurd (let no : false ≡ true = sym c.if-self.false ∙ shut in cc)))

pub returns-in-Err-NoMemory-clause-lasts : goal.returns-in-Err-NoMemory-clause-lasts
returns-in-Err-NoMemory-clause-lasts g c =
    let m = c.self.inside in
    let whole = c.self.invariant.whole c.if-self.false in
    rw (← c.self.view_is) (lasts_open g.D.Disk.state _ _ c.if-self.false refl (moves_within (c.rewrite_list.ensures.within whole.entries (λ b left. (whole.each b left).number) (held m.cell m.rows (option_map (λ v. v.items) m.front) (g.D.Disk.state m.disk) whole).rings)) c.rewrite_list.ensures.cause.later (λ works. lost_still _ _ c.in-Err-NoMemory.field-0 c.in-Err-NoMemory.field-0-is c.in-Err-NoMemory.ensures.cause.failed) (λ shut. absurd (let no : false ≡ true = sym c.if-self.false ∙ shut in cc)))

pub returns-in-Err-DiskFault-clause-lasts : goal.returns-in-Err-DiskFault-clause-lasts
returns-in-Err-DiskFault-clause-lasts g c =
    let m = c.self.inside in
    let whole = c.self.invariant.whole c.if-self.false in
    rw (← c.self.view_is) (lasts_open g.D.Disk.state _ _ c.if-self.false refl (moves_within (c.rewrite_list.ensures.within whole.entries (λ b left. (whole.each b left).number) (held m.cell m.rows (option_map (λ v. v.items) m.front) (g.D.Disk.state m.disk) whole).rings)) c.rewrite_list.ensures.cause.later (λ works. absurd (let no : true ≡ false = works in cc)) (λ shut. fault_rose _ _ c.in-Err-DiskFault.field-0 c.in-Err-DiskFault.field-0-is c.in-Err-DiskFault.ensures.cause.failed))

pub returns-in-Ok-clause-within : goal.returns-in-Ok-clause-within
returns-in-Ok-clause-within g c =
    let m = c.self.inside in
    let whole = c.self.invariant.whole c.if-self.false in
    rw (← c.self.view_is) (λ list at. respell_one (g.M.Recode.meaning c.args.recode.now) (g.D.Disk.state m.disk) (g.D.Disk.state c.rewrite_list.new.disk) list (c.rewrite_list.ensures.within list (λ b left. counts m.cell m.rows (option_map (λ v. v.items) m.front) (g.D.Disk.state m.disk) whole list b left (at.images b left)) (holds_held m.cell m.rows (option_map (λ v. v.items) m.front) (g.D.Disk.state m.disk) whole list [] at).rings))

pub returns-in-Err-NoMemory-clause-within : goal.returns-in-Err-NoMemory-clause-within
returns-in-Err-NoMemory-clause-within g c =
    let m = c.self.inside in
    let whole = c.self.invariant.whole c.if-self.false in
    rw (← c.self.view_is) (λ list at. respell_one (g.M.Recode.meaning c.args.recode.now) (g.D.Disk.state m.disk) (g.D.Disk.state c.rewrite_list.new.disk) list (c.rewrite_list.ensures.within list (λ b left. counts m.cell m.rows (option_map (λ v. v.items) m.front) (g.D.Disk.state m.disk) whole list b left (at.images b left)) (holds_held m.cell m.rows (option_map (λ v. v.items) m.front) (g.D.Disk.state m.disk) whole list [] at).rings))

pub returns-in-Err-DiskFault-clause-within : goal.returns-in-Err-DiskFault-clause-within
returns-in-Err-DiskFault-clause-within g c =
    let m = c.self.inside in
    let whole = c.self.invariant.whole c.if-self.false in
    rw (← c.self.view_is) (λ list at. respell_one (g.M.Recode.meaning c.args.recode.now) (g.D.Disk.state m.disk) (g.D.Disk.state c.rewrite_list.new.disk) list (c.rewrite_list.ensures.within list (λ b left. counts m.cell m.rows (option_map (λ v. v.items) m.front) (g.D.Disk.state m.disk) whole list b left (at.images b left)) (holds_held m.cell m.rows (option_map (λ v. v.items) m.front) (g.D.Disk.state m.disk) whole list [] at).rings))

pub returns-in-Ok-clause-answer : goal.returns-in-Ok-clause-answer
returns-in-Ok-clause-answer g c =
    let m = c.self.inside in
    let whole = c.self.invariant.whole c.if-self.false in
    rw (← c.self.view_is) (
      c.if-self.false,
      c.if-self.false,
      listed_same c.in-Ok.next m.rows.count c.listed-self-inside.result c.listed-self-inside.ensures,
      λ list at. respelled_holds c.rewrite_list.new.cell c.in-Ok.next m.rows.count c.listed-self-inside.result (map (g.M.Recode.meaning c.args.recode.now) list) (g.D.Disk.state m.disk) (g.D.Disk.state c.rewrite_list.new.disk) c.listed-self-inside.ensures (c.in-Ok.ensures.ring list (λ b left. counts m.cell m.rows (option_map (λ v. v.items) m.front) (g.D.Disk.state m.disk) whole list b left (at.images b left)) (holds_held m.cell m.rows (option_map (λ v. v.items) m.front) (g.D.Disk.state m.disk) whole list [] at).rings),
    )

pub returns-in-Err-NoMemory-clause-answer : goal.returns-in-Err-NoMemory-clause-answer
returns-in-Err-NoMemory-clause-answer g c =
    let m = c.self.inside in
    let whole = c.self.invariant.whole c.if-self.false in
    rw (← c.self.view_is) (
      c.if-self.false,
      c.if-self.false,
      refl,
      refl,
      λ list at. before_holds m.cell m.rows list (g.D.Disk.state m.disk) (g.D.Disk.state c.rewrite_list.new.disk) at.number ((lost_memory _ c.in-Err-NoMemory.field-0 c.in-Err-NoMemory.field-0-is c.in-Err-NoMemory.ensures.no_memory).ring list (holds_held m.cell m.rows (option_map (λ v. v.items) m.front) (g.D.Disk.state m.disk) whole list [] at).rings),
    )
