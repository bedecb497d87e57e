use Rattle.std.proofs.Common.{◌≡◌, ◌∙◌, ◌<◌, [], List, length, map, get_or, slice_get, Some, sym, ap, subst, arith}
use Rattle.std.proofs.lemmas.List.{length-map}
use Rattle.sg_device.specs.Disk.{DiskState}
use Rattle.sg_stores.specs.Opening.{refusal_of}
use Rattle.sg_stores.specs.declared.kind.StoreKind.TheVariants.{Position}
use Rattle.sg_stores.proofs.GetLemmas.{get-index, none-of}
use Rattle.sg_stores.proofs.OpenLemmas.{IsLooking, looking-none, looking-more, looking-done, looking-refused}
use Rattle.sg_stores.proofs.opening.look_all.Goals as goal

pub loop-disk-init : goal.loop-disk-init
loop-disk-init g c =
    let all = map g.D.Disk.state c.args.disks.items in
    let e = c.in-Ok.ensures in
    let n = c.len.ensures in
    record {
      looking = rw (e.found, e.held) (subst (λ (ds : List DiskState). IsLooking c.args.kinds.now all [] [] ds) (ap (map g.D.Disk.state) (sym (c.from-rest.ensures.0))) (looking-none c.args.kinds.now all));
      held = (let h = e.held_fits in omega (arith, h, n));
      found = (let h = e.found_fits in omega (arith, h, n));
      room = (let h = e.room_fits in omega (arith, h, n));
      empty = e.room;
    }

pub loop-disk-preserved : goal.loop-disk-preserved
loop-disk-preserved g c =
    let all = map g.D.Disk.state c.args.disks.items in
    let inv = c.loop-disk.invariant in
    let held = c.loop-disk.opening.held.items in
    let founds = c.loop-disk.opening.found.items in
    let rest = map g.D.Disk.state c.pop_front.new.self.items in
    let looking = subst (λ (ds : List DiskState). IsLooking c.args.kinds.now all founds held ds) (ap (map g.D.Disk.state) c.in-Some.ensures.items) inv.looking in
    let n : c.len-in-Some.result ≡ length held = c.len-in-Some.ensures ∙ c.loop-disk.opening.held.ok.0 in
    let kind = get_or c.args.kinds.now c.len-in-Some.result Position in
    let low : length held < length c.args.kinds.now = let a = looking.count in let b = length-map c.args.disks.items g.D.Disk.state in omega (arith, a, b, c.requires.count) in
    let is : slice_get c.args.kinds.now (length held) ≡ Some kind = ap (slice_get c.args.kinds.now) (sym n) ∙ get-index c.args.kinds.now c.len-in-Some.result Position (omega (arith, n, low)) in
    record {
      looking = rw (c.push_reserved-in-Ok-open.ensures.items, c.push_reserved.ensures.items)
          (looking-more c.args.kinds.now all founds held (g.D.Disk.state c.in-Some.disk) rest kind c.in-Ok-open.found c.in-Ok-open.store looking is c.in-Ok-open.ensures.looked);
      held = (let k = c.push_reserved.ensures.capacity in let m = inv.held in omega (arith, k, m));
      found = (let k = c.push_reserved-in-Ok-open.ensures.capacity in let m = inv.found in omega (arith, k, m));
      room = inv.room;
      empty = inv.empty;
    }

pub returns-in-Err-open-clause-refused : goal.returns-in-Err-open-clause-refused
returns-in-Err-open-clause-refused g c =
    let all = map g.D.Disk.state c.args.disks.items in
    let inv = c.loop-disk.invariant in
    let held = c.loop-disk.opening.held.items in
    let founds = c.loop-disk.opening.found.items in
    let rest = map g.D.Disk.state c.pop_front.new.self.items in
    let looking = subst (λ (ds : List DiskState). IsLooking c.args.kinds.now all founds held ds) (ap (map g.D.Disk.state) c.in-Some.ensures.items) inv.looking in
    let n : c.len-in-Some.result ≡ length held = c.len-in-Some.ensures ∙ c.loop-disk.opening.held.ok.0 in
    let m : c.len-s.result ≡ length held = c.len-s.ensures ∙ c.loop-disk.opening.held.ok.0 in
    let kind = get_or c.args.kinds.now c.len-in-Some.result Position in
    let low : length held < length c.args.kinds.now = let a = looking.count in let b = length-map c.args.disks.items g.D.Disk.state in omega (arith, a, b, c.requires.count) in
    let is : slice_get c.args.kinds.now (length held) ≡ Some kind = ap (slice_get c.args.kinds.now) (sym n) ∙ get-index c.args.kinds.now c.len-in-Some.result Position (omega (arith, n, low)) in
    let back = looking-refused c.args.kinds.now all founds held (g.D.Disk.state c.in-Some.disk) (g.D.Disk.state c.in-Err-open.disk) rest kind c.in-Err-open.refusal looking is c.in-Err-open.ensures.refused in
    let at : c.refusal_at.result ≡ refusal_of (length held) c.in-Err-open.refusal = c.refusal_at.ensures ∙ ap (λ k. refusal_of k c.in-Err-open.refusal) m in
    rw (c.give_back.ensures, at) back

pub returns-clause-looked : goal.returns-clause-looked
returns-clause-looked g c =
    let all = map g.D.Disk.state c.args.disks.items in
    let inv = c.loop-disk.invariant in
    let held = c.loop-disk.opening.held.items in
    let founds = c.loop-disk.opening.found.items in
    let none : c.loop-disk.rest.items ≡ [] = none-of c.loop-disk.rest.items (let a = c.loop-disk.rest.ok in let b = c.in_default.ensures.cases.0 in omega (arith, a, b)) in
    let looking = subst (λ (ds : List DiskState). IsLooking c.args.kinds.now all founds held ds) (ap (map g.D.Disk.state) none) inv.looking in
    rw c.new.ensures (looking-done c.args.kinds.now all founds held (c.requires.count ∙ sym (length-map c.args.disks.items g.D.Disk.state)) looking)
