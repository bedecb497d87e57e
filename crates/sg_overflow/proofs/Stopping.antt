-- How the forwarding of all held frames ends.
use Rattle.std.proofs.Common.{◌≡◌, ◌≤◌, ℕ, ◌+◌, List, [], ◌∷◌, refl, sym, ◌∙◌, ap, subst, arith, length, take, drop, ◌++◌, Option, Bool, true, false}
use Rattle.std.proofs.lemmas.List.{append-nil, take_all}
use Rattle.std.specs.Prelude.{IfSome}
use Rattle.sg_device.specs.Disk.{DiskState}
use Rattle.sg_device.proofs.Disks.{within_now}
use Rattle.sg_device.specs.Faults.{Rose}
use Rattle.sg_device.specs.Outlet.{OutletState}
use Rattle.sg_overflow.specs.Finishing.{IsInnerRefused, IsSaved, StopsAllOf}
use Rattle.sg_overflow.specs.Held.{StandsStill, StopCause, SpillStop}
use Rattle.sg_overflow.specs.Stops.{is_open, is_refused}
use Rattle.sg_overflow.specs.Line.{AreStored, IsCovered}
use Rattle.sg_overflow.specs.View.{Held, held_count, IsHeldTold}
use Rattle.sg_overflow.specs.declared.step.Stop.{Stop}
use Rattle.sg_overflow.specs.declared.step.Stop.TheVariants.{Open, Outlet, Later, Store, NoMemory}
use Rattle.sg_overflow.proofs.Spills.{no_outlet}

-- a cause of a later part is one of the whole
pub cause_wider : (i j k : OutletState) (closed : Bool) (stop : Stop) → i.faults ≤ j.faults → i.laters ≤ j.laters → StopCause j k closed stop → StopCause i k closed stop
cause_wider i j k closed Open faults laters cause = tt
cause_wider i j k closed Outlet faults laters cause = omega (arith, faults, cause)
cause_wider i j k closed Later faults laters cause = omega (arith, laters, cause)
cause_wider i j k closed Store faults laters cause = cause
cause_wider i j k closed NoMemory faults laters cause = tt

-- none yet
pub refused_none : (i j : OutletState) → i.faults ≤ j.faults → i.laters ≤ j.laters → IsInnerRefused 0 i j
refused_none i j faults laters = record { failures = 0; waits = 0; number = refl; failed = omega (arith, faults); waited = omega (arith, laters) }

-- one more
pub refused_fault : (n : ℕ) (i j k : OutletState) → IsInnerRefused n i j → Rose j.faults k.faults → j.laters ≤ k.laters → IsInnerRefused (n + 1) i k
refused_fault n i j k r rose laters = record { failures = r.failures + 1; waits = r.waits; number = omega (arith, r.number); failed = omega (arith, r.failed, rose); waited = omega (arith, r.waited, laters) }

pub refused_later : (n : ℕ) (i j k : OutletState) → IsInnerRefused n i j → j.faults ≤ k.faults → j.laters + 1 ≤ k.laters → IsInnerRefused (n + 1) i k
refused_later n i j k r faults later = record { failures = r.failures; waits = r.waits + 1; number = omega (arith, r.number); failed = omega (arith, r.failed, faults); waited = omega (arith, r.waited, later) }

-- of a store that works, with none in memory, each image is what is held
pub saved_of : {D : Type 0} (disk : D → DiskState) (held : Held D) → StandsStill disk held → IsHeldTold disk held → length held.memory ≡ 0 → held.store.closed ≡ false → IsSaved disk held
saved_of disk held still told none works frames is bytes image =
    let m = still no_outlet in
    let c = within_now (disk held.store.disk) (disk held.store.disk) (IsCovered (frames ++ []) 0 held.stored) (m.images works frames is) bytes image in
    let first : c.first ≡ 0 = omega (arith, c.front) in
    let all : length frames ≡ held_count held = subst (λ (o : Option (List (List ℕ))). IfSome o (λ fs. length fs ≡ held_count held)) is told.count in
    let stands : c.frames ≡ take (length c.frames) frames =
    c.stands ∙ ap (λ (k : ℕ). take (length c.frames) (drop k (frames ++ []))) first ∙ ap (take (length c.frames)) (append-nil frames) in
    let whole = take_all (length c.frames) frames (omega (arith, all, none, c.enough, first)) in
    subst (λ (fs : List (List ℕ)). AreStored fs bytes) (stands ∙ whole) c.stored

-- ---- how it ends

-- the outlet was refused once more
pub refused_more : (n : ℕ) (i j k : OutletState) (closed : Bool) (stop : Stop) → is_refused stop ≡ true → IsInnerRefused n i j → j.faults ≤ k.faults → j.laters ≤ k.laters → StopCause j k closed stop → IsInnerRefused (n + 1) i k
refused_more n i j k closed Open is r faults laters cause = absurd (let no : false ≡ true = is in cc)
refused_more n i j k closed Outlet is r faults laters cause = refused_fault n i j k r cause laters
refused_more n i j k closed Later is r faults laters cause = refused_later n i j k r faults cause
refused_more n i j k closed Store is r faults laters cause = absurd (let no : false ≡ true = is in cc)
refused_more n i j k closed NoMemory is r faults laters cause = absurd (let no : false ≡ true = is in cc)

-- three times
pub stops_refused : {D : Type 0} (i j : OutletState) (held : Held D) (n : ℕ) (stop : Stop) → is_refused stop ≡ true → n ≡ 3 → IsInnerRefused n i j → StopsAllOf i j held stop
stops_refused i j held n Open is three r = absurd (let no : false ≡ true = is in cc)
stops_refused i j held n Outlet is three r = subst (λ (k : ℕ). IsInnerRefused k i j) three r
stops_refused i j held n Later is three r = subst (λ (k : ℕ). IsInnerRefused k i j) three r
stops_refused i j held n Store is three r = absurd (let no : false ≡ true = is in cc)
stops_refused i j held n NoMemory is three r = absurd (let no : false ≡ true = is in cc)

-- something else ends it
pub stops_else : {D : Type 0} (i j k : OutletState) (held : Held D) (stop : Stop) → is_open stop ≡ false → is_refused stop ≡ false → StopCause j k held.store.closed stop → StopsAllOf i k held stop
stops_else i j k held Open shut is cause = absurd (let no : true ≡ false = shut in cc)
stops_else i j k held Outlet shut is cause = absurd (let no : true ≡ false = is in cc)
stops_else i j k held Later shut is cause = absurd (let no : true ≡ false = is in cc)
stops_else i j k held Store shut is cause = cause
stops_else i j k held NoMemory shut is cause = tt

-- the outlet was refused three times
pub all_refused : {D : Type 0} (i j : OutletState) (held : Held D) (stop : Stop) → is_refused stop ≡ true → StopsAllOf i j held stop → IsInnerRefused 3 i j
all_refused i j held Open is stops = absurd (let no : false ≡ true = is in cc)
all_refused i j held Outlet is stops = stops
all_refused i j held Later is stops = stops
all_refused i j held Store is stops = absurd (let no : false ≡ true = is in cc)
all_refused i j held NoMemory is stops = absurd (let no : false ≡ true = is in cc)

-- it goes on
pub open_is : (stop : Stop) → is_open stop ≡ true → stop ≡ Open
open_is Open is = refl
open_is Outlet is = absurd (let no : false ≡ true = is in cc)
open_is Later is = absurd (let no : false ≡ true = is in cc)
open_is Store is = absurd (let no : false ≡ true = is in cc)
open_is NoMemory is = absurd (let no : false ≡ true = is in cc)

pub shut_open : {A : Type 0} (stop : Stop) → is_open stop ≡ false → stop ≡ Open → A
shut_open stop shut is = absurd (let no : true ≡ false = sym (ap (λ (s : Stop). is_open s) is) ∙ shut in cc)

-- ---- what is left in memory

pub none_in : (memory : List (List ℕ)) → length memory ≡ 0 → memory ≡ []
none_in [] none = refl
none_in (frame ∷ frames) none = absurd (omega (arith, none))

pub spilled_all : (memory : ℕ) (closed : Bool) (stop : Stop) → is_open stop ≡ true → SpillStop 0 memory closed stop → memory ≡ 0
spilled_all memory closed Open is few = omega (arith, few)
spilled_all memory closed Outlet is few = absurd few
spilled_all memory closed Later is few = absurd few
spilled_all memory closed Store is few = absurd (let no : false ≡ true = is in cc)
spilled_all memory closed NoMemory is few = absurd (let no : false ≡ true = is in cc)
