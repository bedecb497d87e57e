use Rattle.std.proofs.Common.{◌≡◌, ◌≤◌, ◌+◌, ◌∷◌, [], ◌++◌, ◌∙◌, None, Some, ap, length, drop, refl, subst, sym, arith, rules}
use Rattle.std.specs.Prelude.{option_map}
use Rattle.std.proofs.lemmas.List.{length-append}
use Rattle.sg_serve.specs.Exits.{parts_out}
use Rattle.sg_serve.specs.declared.ending.Early.TheVariants.{NoMemory}
use Rattle.sg_serve.proofs.ActorLemmas.{no-dests}
use Rattle.sg_serve.proofs.DeviceLemmas.{drop-head, drop-tail}
use Rattle.sg_serve.proofs.OpenedLemmas.{OpenedFirst, MissedAt, within-at, asked-few, opened-few, opened-none, opened-more, missed-at, early-missed, opens-missed, opens-all}
use Rattle.sg_stores.proofs.GetLemmas.{none-of}
use Rattle.sg_serve.proofs.outlets.open_dests.Goals as goal

pub returns-in-Err : goal.returns-in-Err
returns-in-Err g c =
    let drain = g.W.Drain.Outlet.state in
    let paths = g.W.Paths.Opener.state in
    let disk = g.W.Store.Disk.state in
    let w = g.W.Machine.state c.args.world.now in
    let once = c.args.once in
    let plans = c.args.plans.items in
    let none = early-missed drain paths disk w once plans c.args.stores (no-dests once plans) in
    opens-missed drain paths disk w w once plans c.args.stores NoMemory (record { dests = c.new.result; last = None; early = Some NoMemory })
    (subst (λ ds. MissedAt drain paths disk w w once plans c.args.stores ds None NoMemory) (sym c.new.ensures.items) none) refl

pub loop-plan-init : goal.loop-plan-init
loop-plan-init g c =
    let drain = g.W.Drain.Outlet.state in
    let paths = g.W.Paths.Opener.state in
    let disk = g.W.Store.Disk.state in
    let w = g.W.Machine.state c.args.world.now in
    let once = c.args.once in
    let plans = c.args.plans.items in
    let none = opened-none drain paths disk w once plans c.args.stores (no-dests once plans) in
    record {
      first = subst (λ ds. OpenedFirst drain paths disk w w once plans c.args.stores ds c.args.stores) (sym c.in-Ok.ensures.items) none;
      rest = search rules;
      count = search rules;
      room = search rules;
    }

pub open_dest-requires-clause-within : goal.open_dest-requires-clause-within
open_dest-requires-clause-within g c = λ κs lives.
    let plans = c.args.plans.items in
    let held = c.loop-plan.dests.items in
    let front = sym c.loop-plan.invariant.rest ∙ c.in-Some.ensures.items in
    within-at plans (length held) c.in-Some.plan c.requires.capacities (drop-head (length held) plans c.in-Some.plan c.pop_front.new.self.items front)

pub returns-in-Err-open_dest : goal.returns-in-Err-open_dest
returns-in-Err-open_dest g c =
    let drain = g.W.Drain.Outlet.state in
    let paths = g.W.Paths.Opener.state in
    let disk = g.W.Store.Disk.state in
    let old = g.W.Machine.state c.args.world.now in
    let mid = g.W.Machine.state c.loop-plan.world in
    let new = g.W.Machine.state c.open_dest.new.world in
    let once = c.args.once in
    let plans = c.args.plans.items in
    let held = c.loop-plan.dests.items in
    let plan = c.in-Some.plan in
    let front = sym c.loop-plan.invariant.rest ∙ c.in-Some.ensures.items in
    let there = drop-head (length held) plans plan c.pop_front.new.self.items front in
    let n : c.len-in-Some.result ≡ length held = c.len-in-Some.ensures ∙ c.loop-plan.dests.ok.0 in
    opens-missed drain paths disk old new once plans c.args.stores c.in-Err-open_dest.missed.early (record { dests = c.loop-plan.dests; last = c.in-Err-open_dest.missed.parts; early = Some c.in-Err-open_dest.missed.early })
    (missed-at drain paths disk old mid new once plans c.args.stores held c.loop-plan.store plan c.len-in-Some.result (option_map (parts_out drain paths disk) c.in-Err-open_dest.missed.parts) c.in-Err-open_dest.missed.early
    c.loop-plan.invariant.first there n c.in-Err-open_dest.ensures.misses) refl

pub overflow_add-store : goal.overflow_add-store
overflow_add-store g c =
    let drain = g.W.Drain.Outlet.state in
    let paths = g.W.Paths.Opener.state in
    let disk = g.W.Store.Disk.state in
    let few = opened-few drain paths disk (g.W.Machine.state c.args.world.now) (g.W.Machine.state c.loop-plan.world) c.args.once c.args.plans.items c.args.stores c.loop-plan.dests.items c.loop-plan.store c.loop-plan.invariant.first in
    let one = asked-few c.in-Some.plan.overflow in
    let more = c.more_stores-more.ensures in
    let count = c.loop-plan.invariant.count in
    let rest = ap length c.in-Some.ensures.items in
    omega (arith, few, one, more, count, rest, c.requires.few)

pub loop-plan-preserved : goal.loop-plan-preserved
loop-plan-preserved g c =
    let drain = g.W.Drain.Outlet.state in
    let paths = g.W.Paths.Opener.state in
    let disk = g.W.Store.Disk.state in
    let old = g.W.Machine.state c.args.world.now in
    let mid = g.W.Machine.state c.loop-plan.world in
    let new = g.W.Machine.state c.open_dest.new.world in
    let inv = c.loop-plan.invariant in
    let once = c.args.once in
    let plans = c.args.plans.items in
    let held = c.loop-plan.dests.items in
    let plan = c.in-Some.plan in
    let dest = c.in-Ok-open_dest.dest in
    let e = c.in-Ok-open_dest.ensures in
    let front = sym inv.rest ∙ c.in-Some.ensures.items in
    let there = drop-head (length held) plans plan c.pop_front.new.self.items front in
    let n : c.len-in-Some.result ≡ length held = c.len-in-Some.ensures ∙ c.loop-plan.dests.ok.0 in
    let long = c.push_reserved.ensures.items in
    let next = opened-more drain paths disk old mid new once plans c.args.stores held c.loop-plan.store plan dest c.len-in-Some.result inv.first there n e.opened e.new in
    record {
      first = subst (λ ds. OpenedFirst drain paths disk old new once plans c.args.stores ds (c.loop-plan.store + c.more_stores-more.result)) (sym long)
          (subst (λ k. OpenedFirst drain paths disk old new once plans c.args.stores (held ++ dest ∷ []) (c.loop-plan.store + k)) (sym c.more_stores-more.ensures) next);
      rest = sym (ap (λ k. drop k plans) (ap length long ∙ length-append held (dest ∷ [])) ∙ drop-tail (length held) plans plan c.pop_front.new.self.items front);
      count = (let k = ap length long in let m = ap length c.in-Some.ensures.items in let t = inv.count in let j = length-append held (dest ∷ []) in omega (arith, k, m, t, j));
      room = (let k = c.push_reserved.ensures.capacity in let m = inv.room in omega (arith, k, m));
    }

pub returns : goal.returns
returns g c =
    let drain = g.W.Drain.Outlet.state in
    let paths = g.W.Paths.Opener.state in
    let disk = g.W.Store.Disk.state in
    let none : c.loop-plan.rest.items ≡ [] = none-of c.loop-plan.rest.items (let a = c.loop-plan.rest.ok in let b = c.in_default.ensures.cases.0 in omega (arith, a, b)) in
    let all : length c.args.plans.items ≤ length c.loop-plan.dests.items = (let n = ap length none in let m = c.loop-plan.invariant.count in omega (arith, n, m)) in
    opens-all drain paths disk (g.W.Machine.state c.args.world.now) (g.W.Machine.state c.loop-plan.world) c.args.once c.args.plans.items c.args.stores c.loop-plan.store (record { dests = c.loop-plan.dests; last = None; early = None })
    c.loop-plan.invariant.first all refl refl
