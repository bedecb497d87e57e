-- What is told of the machine that the program runs on.
use Rattle.std.specs.Prelude.{[], None}
use Rattle.sg_outside.specs.World.{WorldState, Ledger}
use Rattle.sg_host.specs.Inlets.{inlets_of}
use Rattle.sg_host.specs.Outlets.{outlets_of}
use Rattle.sg_host.specs.Paths.{paths_of}
use Rattle.sg_host.specs.Stores.{stores_of}
use Rattle.sg_world.specs.declared.host.HostMachine.{HostMachine}

-- no device
abbrev pub none_opened : {P S : Type 0} → Ledger P S
none_opened = record { opened = []; closed = [] }

-- nothing was asked of it
abbrev pub unused : WorldState
unused = record {
  files = None;
  unread = None;
  inlets = none_opened;
  outlets = none_opened;
  stores = none_opened;
  paths = none_opened;
  store_names = None;
  said = None;
  read_faults = 0;
  inlet_faults = 0;
  outlet_faults = 0;
  store_faults = 0;
  paths_faults = 0;
  say_faults = 0;
  build_faults = 0;
}

module _ {T : Type 0} where
  -- nothing of the content of files and devices
  abbrev pub host_state : HostMachine T → WorldState
  host_state m = record {
    files = None;
    unread = m.unread;
    inlets = inlets_of m.inlets;
    outlets = outlets_of m.outlets;
    stores = stores_of m.stores;
    paths = paths_of m.paths;
    store_names = None;
    said = None;
    read_faults = m.read_faults;
    inlet_faults = m.inlets.faults;
    outlet_faults = m.outlets.faults;
    store_faults = m.stores.faults;
    paths_faults = m.paths.faults;
    say_faults = m.say_faults;
    build_faults = m.patterns.too_large;
  }
