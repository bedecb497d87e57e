-- A connection that takes frames.
use Rattle.sg_device.specs.Outlet.{OutletState}
use Rattle.sg_file.specs.Counts.{outlet_state}
use Rattle.sg_net.specs.declared.outlet.TcpOutlet.{TcpOutlet}

module _ {T : Type 0} where
  abbrev pub tcp_of : TcpOutlet T → OutletState
  tcp_of outlet = outlet_state outlet.counts
