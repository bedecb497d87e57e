-- What spelling entries anew leaves, and why they weren't.
use Rattle.std.specs.Prelude.{◌≡◌, false}
use Rattle.sg_device.specs.Disk.{DiskState, WhereTold, content}
use Rattle.sg_device.specs.Faults.{Rose}
use Rattle.sg_spool.specs.View.{View}
use Rattle.sg_stable.specs.declared.fault.StoreRefusal.{StoreRefusal}
use Rattle.sg_stable.specs.declared.fault.StoreRefusal.TheVariants.{Damage, DiskFault, NoMemory}

-- it is open, with as many entries as before, and none staged
pub record IsRenewed {D : Type 0} (old new : View D) : Type 0 where
  pub opened : new.closed ≡ false
  pub count : new.rows.count ≡ old.rows.count
  pub unstaged : new.rows.staged ≡ 0

-- never damage, over a disk that tells its bytes; a fault where the count rose; lack of memory is free
abbrev pub RenewReason : DiskState → DiskState → StoreRefusal → Type 0
RenewReason old new (Damage at) = WhereTold (content old) (λ bytes. ⊥)
RenewReason old new DiskFault = Rose old.faults new.faults
RenewReason old new NoMemory = Unit {0}
