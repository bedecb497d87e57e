use Rattle.std.proofs.Common.{◌≡◌, ◌+◌, ◌-◌, ◌<◌, ◌∙◌, ◌^◌, ℕ, List, length, ap, subst, sym, refl, arith, rules}
use Rattle.std.specs.Prelude.{nat_eq}
use Rattle.sg_device.specs.Disk.{content, Changes}
use Rattle.sg_device.proofs.Disks.{preserves_refl}
use Rattle.sg_device.proofs.DiskCalls.{content_same}
use Rattle.sg_spool.specs.Places.{gate_past}
use Rattle.sg_spool.specs.Rewriting.{AddsSpelled, past}
use Rattle.sg_spool.proofs.Rewriting.{Spelling}
use Rattle.sg_spool.proofs.Gathering.{untold_beyond, still_beyond, join_beyond, less_beyond}
use Rattle.sg_spool.proofs.RewriteCalls.{spelling_start, spelling_on}
use Rattle.sg_spool.proofs.rewrite.write_anew.Goals as goal

pub loop-left-init : goal.loop-left-init
loop-left-init g c = record {
  range = omega arith;
  high = omega (arith, c.past-at.ensures.past);
  small = c.past-at.ensures.small;
  inside = λ less. absurd (omega (arith, less));
  images = still_beyond (past c.args.places) (g.D.Disk.state c.args.disk.now) (g.D.Disk.state c.args.disk.now) (preserves_refl (g.D.Disk.state c.args.disk.now)).still;
  stays = λ bytes. refl;
  later = omega arith;
  still = refl;
  spelled = spelling_start (g.M.Recode.meaning c.args.recode.now) c.args.places c.args.count c.gate_past-gate.result c.past-at.result (content (g.D.Disk.state c.args.disk.now)) c.requires.some c.gate_past-gate.ensures c.past-at.ensures.past;
}

pub loop-left-preserved : goal.loop-left-preserved
loop-left-preserved g c =
    let inv = c.loop-left.invariant in
    let M = g.M.Recode.meaning c.args.recode.now in
    let payload = c.in_ok-payload.payload.items in
    let given = c.deref.ensures.value in
    let means : g.M.Recode.meaning c.loop-left.recode c.deref.result.now ≡ M payload = ap (λ (l : List ℕ). g.M.Recode.meaning c.loop-left.recode l) given ∙ inv.stays payload in
    let next = c.in_ok-at.ensures.next in
    let at_next : c.loop-left.at + 5 + length (M payload) ≡ c.in_ok-at.at = ap (λ (l : List ℕ). c.loop-left.at + 5 + length l) (sym means) ∙ sym next in
    let inside = c.in_ok-at.ensures.inside in
    let goes = c.behind.ensures in
    let next_is : c.loop-left.gate + 5 + length payload < 2 ^ 63 → c.gate_past-gate-in-loop-left.result ≡ gate_past c.args.places.jump (c.loop-left.gate + 5 + length payload) = λ small.
    let long : length c.deref-in-loop-left.result.now ≡ length payload = ap length c.deref-in-loop-left.ensures.value in
    c.gate_past-gate-in-loop-left.ensures ∙ ap (λ (k : ℕ). gate_past c.args.places.jump k) (goes (omega (arith, small, long)) ∙ ap (λ (n : ℕ). c.loop-left.gate + 5 + n) long) in
    let added = subst (λ (l : List ℕ). Changes (AddsSpelled c.loop-left.at l (nat_eq c.loop-left.left 1)) (content (g.D.Disk.state c.read_entry.new.disk)) (content (g.D.Disk.state c.write_one.new.disk))) means c.in_ok-at.ensures.added in
    let spelled = spelling_on M c.args.places c.args.count c.loop-left.left c.loop-left.gate c.loop-left.at payload c.gate_past-gate-in-loop-left.result (nat_eq c.loop-left.left 1)
    c.in_ok-payload.ensures.fits (omega (arith, c.loop-left-test.true)) inv.high (λ one. search rules) next_is
    (content (g.D.Disk.state c.args.disk.now)) (content (g.D.Disk.state c.loop-left.disk)) (content (g.D.Disk.state c.read_entry.new.disk)) (content (g.D.Disk.state c.write_one.new.disk)) inv.spelled (content_same (g.D.Disk.state c.loop-left.disk) (g.D.Disk.state c.read_entry.new.disk) c.read_entry.ensures.told) (g.met.D.Disk.short c.loop-left.disk) c.in_ok-payload.ensures.payload added in
    record {
      range = omega (arith, inv.range);
      high = omega (arith, inv.high, next);
      small = omega (arith, inside);
      inside = λ less. inside;
      images = join_beyond (past c.args.places) (g.D.Disk.state c.args.disk.now) (g.D.Disk.state c.loop-left.disk) (g.D.Disk.state c.write_one.new.disk) inv.images (join_beyond (past c.args.places) (g.D.Disk.state c.loop-left.disk) (g.D.Disk.state c.read_entry.new.disk) (g.D.Disk.state c.write_one.new.disk) (untold_beyond (past c.args.places) (g.D.Disk.state c.loop-left.disk) (g.D.Disk.state c.read_entry.new.disk) c.read_entry.ensures.told) (less_beyond (past c.args.places) c.loop-left.at (g.D.Disk.state c.read_entry.new.disk) (g.D.Disk.state c.write_one.new.disk) inv.high c.write_one.ensures.images));
      stays = λ bytes. c.write_one.ensures.stays bytes ∙ inv.stays bytes;
      later = omega (arith, inv.later, c.read_entry.ensures.cause.later, c.write_one.ensures.cause.later);
      still = c.in_ok-at.ensures.cause.well ∙ c.in_ok-payload.ensures.cause.well ∙ inv.still;
      spelled = subst (λ (k : ℕ). Changes (Spelling M c.args.places c.args.count (c.loop-left.left - 1) c.gate_past-gate-in-loop-left.result k) (content (g.D.Disk.state c.args.disk.now)) (content (g.D.Disk.state c.write_one.new.disk))) at_next spelled;
    }
