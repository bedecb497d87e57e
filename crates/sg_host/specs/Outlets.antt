-- The outlets that a real machine opens and closes.
use Rattle.std.specs.Prelude.{map}
use Rattle.sg_device.specs.Outlet.{OutletState, IsUnusedOutlet}
use Rattle.sg_outside.specs.World.{Ledger, Opened}
use Rattle.sg_device.specs.declared.fault.OpenRefusal.{OpenRefusal}
use Rattle.sg_outside.specs.declared.request.OutletSpec.{OutletSpec}
use Rattle.sg_file.specs.Counts.{new_outlet}
use Rattle.sg_file.specs.Outlet.{outlet_of}
use Rattle.sg_net.specs.Outlet.{tcp_of}
use Rattle.sg_host.specs.Ledgers.{LedgerOpens, LedgerRefuses}
use Rattle.sg_host.specs.Cells.{outlet_states}
use Rattle.sg_host.specs.declared.outlets.HostDrain.{HostDrain}
use Rattle.sg_host.specs.declared.outlets.HostOutlets.{HostOutlets}
use Rattle.sg_host.specs.declared.outlets.RealOutlet.{RealOutlet}
use Rattle.sg_host.specs.declared.outlets.RealOutlet.TheVariants.{File, Tcp}

-- an outlet at its opening
abbrev pub opened_outlet : OutletSpec → Opened OutletSpec OutletState
opened_outlet spec = record { spec = spec; state = new_outlet }

module _ {T : Type 0} where
  abbrev pub real_of : RealOutlet T → OutletState
  real_of (File file) = outlet_of file
  real_of (Tcp tcp) = tcp_of tcp

  abbrev pub drain_of : HostDrain T → OutletState
  drain_of drain = real_of drain.real

  -- those opened and those closed
  abbrev pub outlets_of : HostOutlets T → Ledger OutletSpec OutletState
  outlets_of outlets = record {
    opened = map opened_outlet outlets.opened.items;
    closed = outlet_states outlets.closed;
  }

  -- the outlet took nothing yet
  abbrev pub OutletsOpen : HostOutlets T → HostOutlets T → OutletSpec → OutletState → Type 0
  OutletsOpen old new spec drain =
      LedgerOpens (outlets_of old) (outlets_of new) old.faults new.faults spec drain
      × IsUnusedOutlet drain

  abbrev pub OutletsRefuse : HostOutlets T → HostOutlets T → OpenRefusal → Type 0
  OutletsRefuse old new refusal = LedgerRefuses (outlets_of old) (outlets_of new) old.faults
      new.faults refusal
