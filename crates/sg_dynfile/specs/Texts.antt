-- Frames that say to which file they go, as texts under paths.
use Rattle.std.specs.Prelude.{◌≡◌, ◌==◌, ℕ, List, [], ◌∷◌, length, map, bytes_eq, if◌then◌else◌, Option, IfSome}
use Rattle.std.specs.Option.{option_map}
use Rattle.sg_device.specs.Outlet.{OutletState}
use Rattle.sg_device.specs.Paths.{PathsState, PathText}
use Rattle.sg_outfmt.specs.Packed.{packed, unpacked}

-- the path and the text of a frame
abbrev pub parted : List ℕ → PathText
parted frame = record { path = (unpacked frame).0; text = (unpacked frame).1 }

-- the frame of a path and a text: where there is no path it is the text
abbrev pub frame_for : PathText → List ℕ
frame_for t = if length t.path == 0 then t.text else packed t.path t.text

-- the texts under this path, in order
abbrev pub texts_under : List ℕ → List PathText → List (List ℕ)
texts_under path [] = []
texts_under path (t ∷ texts) =
    if bytes_eq t.path path then t.text ∷ texts_under path texts else texts_under path texts

-- the frames are those of their paths and texts
abbrev pub AreWhole : List (List ℕ) → Type 0
AreWhole frames = map frame_for (map parted frames) ≡ frames

-- the texts are those of their frames, each under its path
abbrev pub AreParted : Option (List PathText) → Type 0
AreParted taken = IfSome taken (λ texts. map parted (map frame_for texts) ≡ texts)

-- an outlet over an opener: its frames are those whose paths and texts the opener took
abbrev pub outlet_over : PathsState → OutletState
outlet_over opener = record {
  taken = option_map (map frame_for) opener.taken;
  count = opener.count;
  faults = opener.faults;
  failing = opener.failing;
  laters = opener.laters;
}
