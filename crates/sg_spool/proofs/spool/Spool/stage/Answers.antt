use Rattle.std.proofs.Common.{◌≡◌, rules, inl, inr, ⊎_elim, ◌++◌, ◌∷◌, [], length, subst, sym, refl}
use Rattle.std.specs.Prelude.{true, false}
use Rattle.std.specs.Option.{option_map}
use Rattle.sg_device.proofs.Disks.{within_now, moves_within}
use Rattle.sg_spool.specs.Places.{FitsRing, AreCompact}
use Rattle.sg_spool.specs.View.{IsCompactIn}
use Rattle.sg_spool.specs.declared.places.Places.{Places}
use Rattle.sg_spool.proofs.Rooms.{compact_room}
use Rattle.sg_spool.proofs.Calls.{lasts_open}
use Rattle.sg_spool.proofs.Whole.{held, held_holds, holds_held, stage_short, whole_staged, unstaged_compact}
use Rattle.sg_spool.proofs.spool.Spool.stage.Goals as goal

pub returns-in_default-clause-lasts : goal.returns-in_default-clause-lasts
returns-in_default-clause-lasts g c =
    let m = c.self.inside in
    let whole = c.self.invariant.whole c.if-self.false in
    rw (← c.self.view_is) (lasts_open g.D.Disk.state _ _ c.if-self.false refl (moves_within (c.stage_block.ensures.within whole.entries whole.staged (held m.cell m.rows (option_map (λ v. v.items) m.front) (g.D.Disk.state m.disk) whole))) c.stage_block.ensures.answer.cause.later (λ works. absurd (let no : true ≡ false = works in cc)) (λ shut. c.in_default.ensures.answer.cause.failed))

pub returns-clause-lasts : goal.returns-clause-lasts
returns-clause-lasts g c =
    let m = c.self.inside in
    let whole = c.self.invariant.whole c.if-self.false in
    rw (← c.self.view_is) (lasts_open g.D.Disk.state _ _ c.if-self.false refl (moves_within (c.stage_block.ensures.within whole.entries whole.staged (held m.cell m.rows (option_map (λ v. v.items) m.front) (g.D.Disk.state m.disk) whole))) c.stage_block.ensures.answer.cause.later (λ works. c.in-Ok.ensures.answer.cause.well) (λ shut. absurd (let no : false ≡ true = shut in cc)))

pub returns-in_default-clause-leaves : goal.returns-in_default-clause-leaves
returns-in_default-clause-leaves g c =
    let m = c.self.inside in
    let whole = c.self.invariant.whole c.if-self.false in
    let fits : FitsRing m.capacity m.rows.ahead (length c.args.block.now) = search rules in
    rw (← c.self.view_is) (record {
      within = λ list staged at. c.stage_block.ensures.within list staged (holds_held m.cell m.rows (option_map (λ v. v.items) m.front) (g.D.Disk.state m.disk) whole list staged at);
      short = λ compact. stage_short m.cell m.rows (option_map (λ v. v.items) m.front) (g.D.Disk.state m.disk) whole m.capacity compact c.self.invariant.rows (g.D.Disk.state c.stage_block.new.disk) ((c.stage_block.ensures.spared (compact_room m.capacity m.rows.ahead.jump m.rows.ahead.head m.rows.ahead.end (length c.args.block.now) (c.self.invariant.rows).ahead fits compact.ahead)).images) (c.stage_block.ensures.short compact.ahead);
      compact = λ compact. unstaged_compact m.rows c.unstaged-self-inside.result m.capacity (g.D.Disk.state m.disk) (g.D.Disk.state c.stage_block.new.disk) c.unstaged-self-inside.ensures compact (within_now (g.D.Disk.state m.disk) (g.D.Disk.state c.stage_block.new.disk) (IsCompactIn m.capacity) (stage_short m.cell m.rows (option_map (λ v. v.items) m.front) (g.D.Disk.state m.disk) whole m.capacity compact c.self.invariant.rows (g.D.Disk.state c.stage_block.new.disk) ((c.stage_block.ensures.spared (compact_room m.capacity m.rows.ahead.jump m.rows.ahead.head m.rows.ahead.end (length c.args.block.now) (c.self.invariant.rows).ahead fits compact.ahead)).images) (c.stage_block.ensures.short compact.ahead)));
    })

pub returns-clause-leaves : goal.returns-clause-leaves
returns-clause-leaves g c =
    let m = c.self.inside in
    let whole = c.self.invariant.whole c.if-self.false in
    let fits : FitsRing m.capacity m.rows.ahead (length c.args.block.now) = search rules in
    rw (← c.self.view_is) (record {
      within = λ list staged at. c.stage_block.ensures.within list staged (holds_held m.cell m.rows (option_map (λ v. v.items) m.front) (g.D.Disk.state m.disk) whole list staged at);
      short = λ compact. stage_short m.cell m.rows (option_map (λ v. v.items) m.front) (g.D.Disk.state m.disk) whole m.capacity compact c.self.invariant.rows (g.D.Disk.state c.stage_block.new.disk) ((c.stage_block.ensures.spared (compact_room m.capacity m.rows.ahead.jump m.rows.ahead.head m.rows.ahead.end (length c.args.block.now) (c.self.invariant.rows).ahead fits compact.ahead)).images) (c.stage_block.ensures.short compact.ahead);
      compact = λ compact. record { list = subst (λ (p : Places). AreCompact m.capacity p.jump p.head p.end) (sym ((c.in-Ok.ensures.spared (compact_room m.capacity m.rows.ahead.jump m.rows.ahead.head m.rows.ahead.end (length c.args.block.now) (c.self.invariant.rows).ahead fits compact.ahead)).list)) compact.list; ahead = c.in-Ok.ensures.rows.compact compact.ahead; images = (within_now (g.D.Disk.state m.disk) (g.D.Disk.state c.stage_block.new.disk) (IsCompactIn m.capacity) (stage_short m.cell m.rows (option_map (λ v. v.items) m.front) (g.D.Disk.state m.disk) whole m.capacity compact c.self.invariant.rows (g.D.Disk.state c.stage_block.new.disk) ((c.stage_block.ensures.spared (compact_room m.capacity m.rows.ahead.jump m.rows.ahead.head m.rows.ahead.end (length c.args.block.now) (c.self.invariant.rows).ahead fits compact.ahead)).images) (c.stage_block.ensures.short compact.ahead))) };
    })

pub returns-clause-answer : goal.returns-clause-answer
returns-clause-answer g c =
    let m = c.self.inside in
    let whole = c.self.invariant.whole c.if-self.false in
    let fits : FitsRing m.capacity m.rows.ahead (length c.args.block.now) = search rules in
    rw (← c.self.view_is) (
      c.if-self.false,
      fits,
      refl,
      c.in-Ok.ensures.rows.live,
      c.in-Ok.ensures.rows.total,
      λ list staged at. ⊎_elim
          (λ one. inl (held_holds c.stage_block.new.cell c.in-Ok.next list (staged ++ c.args.block.now ∷ []) (g.D.Disk.state c.stage_block.new.disk) one.0, one.1))
          (λ two. inr (held_holds c.stage_block.new.cell c.in-Ok.next (list ++ staged) (c.args.block.now ∷ []) (g.D.Disk.state c.stage_block.new.disk) two.0, two.1))
          (c.in-Ok.ensures.staged list staged (holds_held m.cell m.rows (option_map (λ v. v.items) m.front) (g.D.Disk.state m.disk) whole list staged at)),
    )

pub invariant_of-self-2 : goal.invariant_of-self-2
invariant_of-self-2 g c =
    let m = c.self.inside in
    let whole = c.self.invariant.whole c.if-self.false in
    record {
      rows = c.in-Ok.ensures.rows.rows;
      unstaged = λ shut. absurd (let no : false ≡ true = shut in cc);
      cell_open = λ shut. c.in-Ok.ensures.answer.cell_open;
      whole = λ shut. whole_staged m.cell m.rows (option_map (λ v. v.items) m.front) (g.D.Disk.state m.disk) whole (g.D.Disk.state c.stage_block.new.disk) c.stage_block.new.cell c.in-Ok.next (c.args.block.now ∷ []) (moves_within (c.stage_block.ensures.within whole.entries whole.staged (held m.cell m.rows (option_map (λ v. v.items) m.front) (g.D.Disk.state m.disk) whole))) c.in-Ok.ensures.rows.rows (c.in-Ok.ensures.staged whole.entries whole.staged (held m.cell m.rows (option_map (λ v. v.items) m.front) (g.D.Disk.state m.disk) whole));
    }
