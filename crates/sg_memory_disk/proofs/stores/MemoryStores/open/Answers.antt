use Rattle.std.proofs.Common.{◌≡◌, ◌∷◌, replicate, refl, rules}
use Rattle.std.specs.Prelude.{Option, None, Bool, false, not, ◌||◌, ◌&&◌, is_none, if◌then◌else◌, unwrap_or}
use Rattle.sg_device.specs.Disk.{DiskState}
use Rattle.sg_memory_disk.specs.MemoryDisk.{fresh_disk}
use Rattle.sg_memory_disk.specs.Stores.{store_of, latest_state, is_named}
use Rattle.sg_memory_disk.proofs.NamedStores.{names_stand}
use Rattle.sg_memory_disk.proofs.stores.MemoryStores.open.Goals as goal

pub returns-clause-store_names : goal.returns-clause-store_names
returns-clause-store_names c =
    let spec = c.args.spec.now in
    let old = c.args.self.now in
    let latest : Option DiskState = latest_state old.closed spec.name in
    let there : Bool = c.is_there-there.result in
    let found : Option DiskState = if there then latest else None in
    let named : there ≡ is_named old.names.items spec.name = search rules in
    let opened : is_none found && (there || not spec.create) ≡ false = search rules in
    let is : store_of c.in_ok-begin.field-0 ≡ unwrap_or found (fresh_disk (replicate 128 0)) = search rules in
    let goes : c.begin.new.self.names.items ≡ (if there then old.names.items else spec.name ∷ old.names.items) = search rules in
    names_stand spec old.names.items c.begin.new.self.names.items there spec.create latest (store_of c.in_ok-begin.field-0) named refl opened is goes
