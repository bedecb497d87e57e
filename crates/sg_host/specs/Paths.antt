-- The openers that a real machine opens and closes.
use Rattle.std.specs.Prelude.{map}
use Rattle.sg_device.specs.Paths.{PathsState, IsNewOpener}
use Rattle.sg_outside.specs.World.{Ledger, Opened}
use Rattle.sg_device.specs.declared.fault.OpenRefusal.{OpenRefusal}
use Rattle.sg_outside.specs.declared.request.OutletSpec.{OutletSpec}
use Rattle.sg_host.specs.Counts.{paths_state, new_paths}
use Rattle.sg_host.specs.Ledgers.{LedgerOpens, LedgerRefuses}
use Rattle.sg_host.specs.Cells.{paths_states}
use Rattle.sg_host.specs.declared.paths.HostOpener.{HostOpener}
use Rattle.sg_host.specs.declared.paths.HostPaths.{HostPaths}

abbrev pub opener_of : HostOpener → PathsState
opener_of opener = paths_state opener.opened.counts

-- an opener at its opening
abbrev pub opened_paths : OutletSpec → Opened OutletSpec PathsState
opened_paths spec = record { spec = spec; state = new_paths }

-- those opened and those closed
abbrev pub paths_of : HostPaths → Ledger OutletSpec PathsState
paths_of paths = record {
  opened = map opened_paths paths.opened.items;
  closed = paths_states paths.closed;
}

-- the opener has opened nothing yet
abbrev pub HostPathsOpen : HostPaths → HostPaths → OutletSpec → PathsState → Type 0
HostPathsOpen old new spec opener =
    LedgerOpens (paths_of old) (paths_of new) old.faults new.faults spec opener × IsNewOpener opener

abbrev pub PathsRefuse : HostPaths → HostPaths → OpenRefusal → Type 0
PathsRefuse old new refusal = LedgerRefuses (paths_of old) (paths_of new) old.faults new.faults
    refusal
