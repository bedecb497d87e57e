-- A real file that is appended to.
use Rattle.sg_device.specs.Outlet.{OutletState}
use Rattle.sg_file.specs.Counts.{outlet_state}
use Rattle.sg_file.specs.declared.outlet.FileOutlet.{FileOutlet}

abbrev pub outlet_of : FileOutlet → OutletState
outlet_of outlet = outlet_state outlet.counts
