use Rattle.std.proofs.Common.{◌∙◌, ap, refl, subst}
use Rattle.std.specs.Prelude.{option_map}
use Rattle.sg_overflow.specs.Buffered.{inner_of, disk_in}
use Rattle.sg_serve.specs.Devices.{outlet_asked}
use Rattle.sg_serve.specs.Exits.{exit_of, opener_in, out_of, parts_out}
use Rattle.sg_serve.specs.Overflows.{OpensWay}
use Rattle.sg_serve.proofs.WayLemmas.{misses-late}
use Rattle.sg_serve.proofs.outlets.open_dest.Goals as goal

pub returns-clause-misses : goal.returns-clause-misses
returns-clause-misses g c =
    let drain = g.W.Drain.Outlet.state in
    let paths = g.W.Paths.Opener.state in
    let disk = g.W.Store.Disk.state in
    let old = g.W.Machine.state c.args.world.now in
    let new = g.W.Machine.state c.open_way.new.world in
    let plan = c.args.plan in
    let out = out_of drain paths disk c.in-Ok.way in
    let open' = subst (λ s. OpensWay old new s plan.overflow out) c.asked-spec.ensures c.in-Ok.ensures.opens in
    let exit = c.parts_of.ensures.exit ∙ ap inner_of c.in-Err-new.ensures.back in
    let store = c.parts_of.ensures.store ∙ ap disk_in c.in-Err-new.ensures.back in
    misses-late old new (outlet_asked c.args.once plan.spec) plan.overflow c.args.store out (parts_out drain paths disk c.parts_of.result) open'
    (ap (exit_of drain paths) exit) (ap (exit_of drain paths) exit) (ap (opener_in paths) exit) (ap (option_map disk) store) refl
