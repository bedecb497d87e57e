use Rattle.std.proofs.Common.{sym, subst, refl}
use Rattle.sg_device.specs.Paths.{PathsState, IsNewOpener}
use Rattle.test_devices.proofs.files.tell.Goals as goal

pub run-requires-clause-fresh : goal.run-requires-clause-fresh
run-requires-clause-fresh c =
    subst (λ (s : PathsState). IsNewOpener s) (sym c.new-opener.ensures.opened) (record { opened = refl; taken = refl; count = refl; failing = refl })
