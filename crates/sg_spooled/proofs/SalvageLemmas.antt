-- Readings behind a listing, which leave what the disk tells, and what was listed.
use Rattle.std.proofs.Common.{◌≡◌, ◌≤◌, ℕ, List, Option, Some, None, Result, Ok, Err, refl, sym, subst, arith}
use Rattle.sg_device.specs.DiskBytes.{Same}
use Rattle.sg_device.specs.Disk.{DiskLog, DiskState, Elapses, Preserves, Rests}
use Rattle.sg_device.specs.Faults.{Rose}
use Rattle.sg_outside.specs.World.{WorldState}
use Rattle.sg_spooled.specs.Entries.{SpooledRow}
use Rattle.sg_spooled.specs.Listing.{StoreUse, IsListingKept, HasListingCause, ListsBy, ListsStore}
use Rattle.sg_spooled.specs.declared.unlisted.Unlisted.{Unlisted}
use Rattle.sg_spooled.specs.declared.unlisted.Unlisted.TheVariants.{NotOpened, Damage, DiskFault, SayFault, NoMemory}
use Rattle.sg_output.proofs.Sayings.{rose-on}

elapses-on : (opened mid closed : DiskState) → closed.told ≡ mid.told → Elapses Same opened mid → Elapses Same opened closed
elapses-on opened mid closed told e =
    subst (λ (t : Option DiskLog). Elapses Same opened (record { told = t; faults = closed.faults })) (sym told)
    (record { later = e.later; past = e.past; kept = e.kept; since = e.since })

preserves-on : (opened mid closed : DiskState) → closed.told ≡ mid.told → Preserves opened mid → Preserves opened closed
preserves-on opened mid closed told p =
    subst (λ (t : Option DiskLog). Preserves opened (record { told = t; faults = closed.faults })) (sym told)
    (record { told = p.told; still = elapses-on opened mid (record { told = mid.told; faults = closed.faults }) refl p.still })

rests-on : (opened mid closed : DiskState) → closed.told ≡ mid.told → Rests opened mid → Rests opened closed
rests-on opened mid closed told r =
    subst (λ (t : Option DiskLog). Rests opened (record { told = t; faults = closed.faults })) (sym told)
    (record { tells = r.tells; still = elapses-on opened mid (record { told = mid.told; faults = closed.faults }) refl r.still })

kept-on : (result : Result Unit Unlisted) (opened mid closed : DiskState) → closed.told ≡ mid.told → IsListingKept result opened mid
    → IsListingKept result opened closed
kept-on (Ok done) opened mid closed told kept = preserves-on opened mid closed told kept
kept-on (Err refusal) opened mid closed told kept = rests-on opened mid closed told kept

abbrev use_of : DiskState → DiskState → StoreUse
use_of opened closed = record { opened = opened; closed = closed }

cause-on : (a c : WorldState) (opened mid closed : DiskState) (rows : List SpooledRow) (result : Result Unit Unlisted) → mid.faults ≤ closed.faults
    → HasListingCause a c (Some (use_of opened mid)) rows result → HasListingCause a c (Some (use_of opened closed)) rows result
cause-on a c opened mid closed rows (Ok done) later cause = cause
cause-on a c opened mid closed rows (Err NotOpened) later cause = (let wrong : Some (use_of opened mid) ≡ None = cause.0 in absurd cc)
cause-on a c opened mid closed rows (Err (Damage at)) later cause = cause
cause-on a c opened mid closed rows (Err DiskFault) later cause =
    (rose-on opened.faults mid.faults closed.faults cause.0 later, cause.1)
cause-on a c opened mid closed rows (Err SayFault) later cause = cause
cause-on a c opened mid closed rows (Err NoMemory) later cause = tt

pub lists-on : (a c new : WorldState) (opened mid closed : DiskState) (result : Result Unit Unlisted) → closed.told ≡ mid.told
    → mid.faults ≤ closed.faults → new ≡ c → ListsStore a c opened mid result → ListsStore a new opened closed result
lists-on a c new opened mid closed result told later same (rows, l) =
    subst (λ (w : WorldState). ListsStore a w opened closed result) (sym same) (
      rows,
      record {
        says = l.says;
        kept = kept-on result opened mid closed told l.kept;
        later = (let first = l.later in omega (arith, first, later));
        stored = l.stored;
        cause = cause-on a c opened mid closed rows result later l.cause;
        said = l.said;
      },
    )
