use Rattle.std.proofs.Common.{◌≡◌, ◌+◌, ◌∙◌, ℕ, List, length, ap, arith}
use Rattle.sg_device.proofs.DiskCalls.{reads_as_image}
use Rattle.sg_spool.specs.Places.{gate_past}
use Rattle.sg_spool.specs.Ring.{IsEntry}
use Rattle.sg_spool.proofs.Remaining.{none_remain, one_remains, one_behind}
use Rattle.sg_spool.proofs.spool.Spool.item.Goals as goal

pub returns-then-gate-self-clause-next : goal.returns-then-gate-self-clause-next
returns-then-gate-self-clause-next g c =
    let m = c.self.inside in
    let whole = c.self.invariant.whole c.if-self.false in
    rw (← c.self.view_is) (λ b told es remains. record {
      next = none_remain m.rows.list.jump c.args.gate m.rows.list.end es b (whole.each b (reads_as_image (g.D.Disk.state m.disk) b told)).ring.laid.ends c.if-gate-self.true remains;
      behind = tt;
    })

pub returns-in-Ok-clause-next : goal.returns-in-Ok-clause-next
returns-in-Ok-clause-next g c =
    let m = c.self.inside in
    let payload = c.in-Ok.payload.items in
    let given : length c.deref.result.now ≡ length payload = ap length c.deref.ensures.value in
    rw (← c.self.view_is) (λ b told es remains.
    let same = λ (p : List ℕ) (entry : IsEntry b c.args.gate p). c.in-Ok.ensures.payload b told p entry in
    let goes = λ (p : List ℕ) (entry : IsEntry b c.args.gate p).
    let long : length payload ≡ length p = ap length (same p entry) in
    let inside = entry.next in
    let small = g.met.D.Disk.short m.disk b told in
    c.gate_past.ensures ∙ ap (λ (k : ℕ). gate_past m.rows.list.jump k) (c.behind-next.ensures (omega (arith, given, long, inside, small)) ∙ ap (λ (n : ℕ). c.args.gate + 5 + n) (given ∙ long)) in
    record {
      next = one_remains m.rows.list.jump c.args.gate m.rows.list.end c.gate_past.result es b payload c.if-gate-self.false same goes remains;
      behind = one_behind m.rows.list.jump c.args.gate m.rows.list.end c.gate_past.result es b payload c.if-gate-self.false same goes remains;
    })
