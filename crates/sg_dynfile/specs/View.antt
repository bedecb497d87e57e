-- What contracts see of an outlet over files by their paths.
use Rattle.std.specs.Prelude.{◌≡◌, ℕ, List, map, Option}
use Rattle.std.specs.Option.{option_map}
use Rattle.sg_device.specs.Outlet.{OutletState}
use Rattle.sg_device.specs.Paths.{PathsState, PathText}
use Rattle.sg_dynfile.specs.Texts.{parted, outlet_over, AreParted}
use Rattle.sg_dynfile.specs.Tracks.{Tracks}
use Rattle.sg_dynfile.specs.declared.open_paths.OpenPaths.{OpenPaths}

-- its opener and the open paths
pub record DynfileView (P : Type 0) : Type 0 where
  pub opener : P
  pub open_paths : OpenPaths

abbrev pub outlet_of : {P : Type 0} → (P → PathsState) → DynfileView P → OutletState
outlet_of state view = outlet_over (state view.opener)

pub record IsSound {P : Type 0} (state : P → PathsState) (view : DynfileView P) : Type 0 where
  pub tracks : Tracks (state view.opener) view.open_paths
  pub parted : AreParted (state view.opener).taken

-- the texts taken under each path are those of the frames with that path, in order
abbrev pub LieUnderPaths : Option (List (List ℕ)) → Option (List PathText) → Type 0
LieUnderPaths frames texts = texts ≡ option_map (map parted) frames
