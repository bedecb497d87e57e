use Rattle.std.proofs.Common.{refl, subst, sym}
use Rattle.sg_device.specs.Outlet.{OutletState, IsUnusedOutlet}
use Rattle.test_devices.proofs.overflow.run.Goals as goal

pub open-requires-clause-fresh : goal.open-requires-clause-fresh
open-requires-clause-fresh c = subst (λ (o : OutletState). IsUnusedOutlet o) (sym c.new-inner.ensures.opened) (record { taken = refl; count = refl; failing = refl })
