-- The ways out of destinations: one file or one connection, or files whose paths come with their texts; and round that the frames that
-- are held back.
use Rattle.std.specs.Prelude.{◌≡◌, ◌⊎◌, ◌≤◌, List, [], ◌∷◌, map, Option, Some, None, IfSome}
use Rattle.std.specs.Option.{option_map}
use Rattle.sg_device.specs.Disk.{DiskState}
use Rattle.sg_device.specs.Faults.{Rose}
use Rattle.sg_device.specs.Outlet.{OutletState, IsUnusedOutlet}
use Rattle.sg_device.specs.Paths.{PathsState, IsNewOpener}
use Rattle.sg_device.specs.declared.fault.OpenRefusal.{OpenRefusal}
use Rattle.sg_device.specs.declared.fault.OpenRefusal.TheVariants.{Failed, NoMemory}
use Rattle.sg_outside.specs.World.{WorldState, with_opened, with_closed}
use Rattle.sg_outside.specs.declared.request.OutletSpec.{OutletSpec}
use Rattle.sg_outside.specs.declared.request.OutletSpec.TheVariants.{File, Tcp, ByPath as ByPathSpec}
use Rattle.sg_dynfile.specs.Tracks.{IsClosed}
use Rattle.sg_dynfile.specs.View.{outlet_of, LieUnderPaths}
use Rattle.sg_overflow.specs.Buffered.{HeldState, buffered_of, inner_of, disk_in, held_state}
use Rattle.sg_overflow.specs.declared.buffered.Buffered.{Buffered}
use Rattle.sg_serve.specs.declared.exit.Exit.{Exit}
use Rattle.sg_serve.specs.declared.exit.Exit.TheVariants.{One, ByPath}
use Rattle.sg_serve.specs.declared.way.Parts.{Parts}

-- What is open for a destination: the outlet as the destination sees it, with the frames that are held back, and as the machine does; its
-- opener, where the paths come with the texts; and of the frames that are held back their store, and what is told of them.
pub record Out : Type 0 where
  pub outlet : OutletState
  pub inner : OutletState
  pub opener : Option PathsState
  pub store : Option DiskState
  pub held : Option HeldState

abbrev pub exit_of : {D P : Type 0} → (D → OutletState) → (P → PathsState) → Exit D P → OutletState
exit_of drain paths (One d) = drain d
exit_of drain paths (ByPath files) = outlet_of paths files

abbrev pub opener_in : {D P : Type 0} → (P → PathsState) → Exit D P → Option PathsState
opener_in paths (One d) = None
opener_in paths (ByPath files) = Some (paths files.opener)

-- the way out as a destination sees it
abbrev pub way_of : {D P S : Type 0} → (D → OutletState) → (P → PathsState) → (S → DiskState)
    → Buffered (Exit D P) S → OutletState
way_of drain paths disk way = buffered_of (exit_of drain paths) disk way

abbrev pub out_of : {D P S : Type 0} → (D → OutletState) → (P → PathsState) → (S → DiskState)
    → Buffered (Exit D P) S → Out
out_of drain paths disk way = record {
  outlet = way_of drain paths disk way;
  inner = exit_of drain paths (inner_of way);
  opener = opener_in paths (inner_of way);
  store = option_map disk (disk_in way);
  held = held_state disk way;
}

-- the same of one that can't be used
abbrev pub parts_out : {D P S : Type 0} → (D → OutletState) → (P → PathsState) → (S → DiskState)
    → Parts D P S → Out
parts_out drain paths disk parts = record {
  outlet = exit_of drain paths parts.exit;
  inner = exit_of drain paths parts.exit;
  opener = opener_in paths parts.exit;
  store = option_map disk parts.store;
  held = None;
}

abbrev pub outlets_in : List Out → List OutletState
outlets_in outs = map (λ (out : Out). out.outlet) outs

abbrev pub inners_in : List Out → List OutletState
inners_in outs = map (λ (out : Out). out.inner) outs

abbrev pub openers_in : List Out → List (Option PathsState)
openers_in outs = map (λ (out : Out). out.opener) outs

-- those that there are
abbrev pub present : {A : Type 0} → List (Option A) → List A
present [] = []
present (None ∷ options) = present options
present (Some a ∷ options) = a ∷ present options

abbrev pub stores_in : List Out → List DiskState
stores_in outs = present (map (λ (out : Out). out.store) outs)

-- Of a list beside the openers: what belongs to outlets without one, and to those with one.

abbrev pub singles : {A B : Type 0} → List A → List (Option B) → List A
singles [] openers = []
singles (a ∷ as') [] = []
singles (a ∷ as') (None ∷ openers) = a ∷ singles as' openers
singles (a ∷ as') (Some opener ∷ openers) = singles as' openers

abbrev pub by_paths : {A B : Type 0} → List A → List (Option B) → List A
by_paths [] openers = []
by_paths (a ∷ as') [] = []
by_paths (a ∷ as') (None ∷ openers) = by_paths as' openers
by_paths (a ∷ as') (Some opener ∷ openers) = a ∷ by_paths as' openers

-- One.

abbrev pub OpensOut : WorldState → WorldState → OutletSpec → OutletState → Option PathsState
    → Type 0
OpensOut old new spec drain None = (new ≡ record old
    { outlet_faults = new.outlet_faults; outlets = with_opened old.outlets spec drain })
    × (old.outlet_faults ≤ new.outlet_faults)
OpensOut old new spec drain (Some opener) = (new ≡ record old
    { paths_faults = new.paths_faults; paths = with_opened old.paths spec opener })
    × (old.paths_faults ≤ new.paths_faults) × IsNewOpener opener

-- the paths of its files come with their texts exactly where that is asked
abbrev pub IsOpenerAsked : OutletSpec → Option PathsState → Type 0
IsOpenerAsked (File path fsync mode folders reopen) opener = opener ≡ None
IsOpenerAsked (Tcp host port reopen) opener = opener ≡ None
IsOpenerAsked (ByPathSpec fsync mode folders reopen reap) None = ⊥
IsOpenerAsked (ByPathSpec fsync mode folders reopen reap) (Some opener) = Unit {0}

pub record OpensExit {D P : Type 0} (drain : D → OutletState) (paths : P → PathsState)
    (old new : WorldState) (spec : OutletSpec) (exit : Exit D P) : Type 0 where
  pub asked : IsOpenerAsked spec (opener_in paths exit)
  pub new_outlet : IsUnusedOutlet (exit_of drain paths exit)
  pub opens : OpensOut old new spec (exit_of drain paths exit) (opener_in paths exit)

-- the counts of failed openings, which don't fall
abbrev pub OnlyFails : WorldState → WorldState → Type 0
OnlyFails old new = (new ≡ record old
    { outlet_faults = new.outlet_faults; paths_faults = new.paths_faults })
    × (old.outlet_faults ≤ new.outlet_faults) × (old.paths_faults ≤ new.paths_faults)

-- the count of one kind rose
abbrev pub OneRose : WorldState → WorldState → Type 0
OneRose old new = Rose old.outlet_faults new.outlet_faults
    ⊎ Rose old.paths_faults new.paths_faults

abbrev pub MissesExit : WorldState → WorldState → OpenRefusal → Type 0
MissesExit old new Failed = OnlyFails old new × OneRose old new
MissesExit old new NoMemory = OnlyFails old new

-- an opener with its files closed: under each path stand the texts of the frames taken with that path, in order
abbrev pub LeavesOpener : Option PathsState → Option PathsState → OutletState → Type 0
LeavesOpener None None inner = Unit {0}
LeavesOpener None (Some after) inner = ⊥
LeavesOpener (Some before) None inner = ⊥
LeavesOpener (Some before) (Some after) inner = IsClosed before after
    × LieUnderPaths inner.taken after.taken

-- it is closed: what it was, with its opener's files closed
pub record IsLeft (out closed : Out) : Type 0 where
  pub outlet : closed.outlet ≡ out.outlet
  pub inner : closed.inner ≡ out.inner
  pub store : closed.store ≡ out.store
  pub held : closed.held ≡ out.held
  pub opener : LeavesOpener out.opener closed.opener out.inner

abbrev pub ClosesExit : {D P : Type 0} → (D → OutletState) → (P → PathsState) → WorldState
    → WorldState → Exit D P → Type 0
ClosesExit drain paths old new (One d) =
    new ≡ record old { outlets = with_closed old.outlets (drain d) }
ClosesExit drain paths old new (ByPath files) = (closed : PathsState)
    × (IsClosed (paths files.opener) closed
    × LieUnderPaths (outlet_of paths files).taken closed.taken
    × (new ≡ record old { paths = with_closed old.paths closed }))

-- All.

-- these are closed as those
abbrev pub AreLeft : List Out → List Out → Type 0
AreLeft [] [] = Unit {0}
AreLeft [] (closed ∷ rest) = ⊥
AreLeft (out ∷ outs) [] = ⊥
AreLeft (out ∷ outs) (closed ∷ rest) = IsLeft out closed × AreLeft outs rest

-- the same device, as it was handed over by the machine and once it was made ready: a store was synced, and counted no fault
abbrev pub IsStoreReadied : Option DiskState → Option DiskState → Type 0
IsStoreReadied None None = Unit {0}
IsStoreReadied None (Some now) = ⊥
IsStoreReadied (Some opened) None = ⊥
IsStoreReadied (Some opened) (Some now) = now.faults ≡ opened.faults

pub record IsReadied (opened now : Out) : Type 0 where
  pub outlet : now.outlet ≡ opened.outlet
  pub inner : now.inner ≡ opened.inner
  pub opener : now.opener ≡ opened.opener
  pub held : now.held ≡ opened.held
  pub store : IsStoreReadied opened.store now.store

abbrev pub AreReadied : List Out → List Out → Type 0
AreReadied [] [] = Unit {0}
AreReadied [] (now ∷ rest) = ⊥
AreReadied (opened ∷ outs) [] = ⊥
AreReadied (opened ∷ outs) (now ∷ rest) = IsReadied opened now × AreReadied outs rest

-- under each path stand the texts of the frames with that path, in order
abbrev pub LieIn : Out → Type 0
LieIn out = IfSome out.opener (λ (opener : PathsState). LieUnderPaths out.inner.taken opener.taken)

abbrev pub AllLie : List Out → Type 0
AllLie [] = Unit {0}
AllLie (out ∷ outs) = LieIn out × AllLie outs

abbrev pub AreAsked : List OutletSpec → List (Option PathsState) → Type 0
AreAsked specs [] = Unit {0}
AreAsked [] (opener ∷ openers) = ⊥
AreAsked (spec ∷ specs) (opener ∷ openers) = IsOpenerAsked spec opener × AreAsked specs openers

-- nothing was taken yet, and no file is open by its path
abbrev pub IsFreshOut : Out → Type 0
IsFreshOut out = IsUnusedOutlet out.outlet × IsUnusedOutlet out.inner
    × IfSome out.opener IsNewOpener

abbrev pub AreFreshOuts : List Out → Type 0
AreFreshOuts [] = Unit {0}
AreFreshOuts (out ∷ outs) = IsFreshOut out × AreFreshOuts outs
