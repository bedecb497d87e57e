-- How far a send has come.
use Rattle.std.specs.Prelude.{◌≡◌, ◌<◌, ℕ, List, [], ◌∷◌, ◌++◌, length, map, Result, Ok, Err}
use Rattle.std.specs.List.{All}
use Rattle.sg_device.specs.Outlet.{OutletState, TakesFirst, Sends, failing_after}
use Rattle.sg_device.specs.Paths.{PathsState}
use Rattle.sg_device.specs.declared.fault.SendRefusal.{SendRefusal}
use Rattle.sg_by_path.specs.Each.{under_places}
use Rattle.sg_dynfile.specs.Texts.{parted, outlet_over, AreWhole, AreParted}
use Rattle.sg_dynfile.specs.Tracks.{StandsAt}

-- all these frames were taken, and nothing failed
pub record TakesAll (frames : List (List ℕ)) (old new : OutletState) : Type 0 where
  pub takes : TakesFirst (length frames) frames old new
  pub faults : new.faults ≡ old.faults
  pub failing : new.failing ≡ failing_after (length frames) old.failing

-- Each of these texts has a place, where the path of an open file stands.
pub record AreReady (opener : PathsState) (places : List ℕ) (texts : List (List ℕ)) : Type 0 where
  pub many : length places ≡ length texts
  pub placed : All (λ place. place < length opener.opened) places

-- no text waits
abbrev pub AreNone : List ℕ → List (List ℕ) → Type 0
AreNone places texts = (places ≡ []) × (texts ≡ [])

-- Of these frames the first were taken, and the texts of the others wait for the files whose paths stand at these places.
pub record IsUnderWay (old now : PathsState) (frames : List (List ℕ)) (places : List ℕ)
    (texts : List (List ℕ)) : Type 0 where
  pub done : List (List ℕ)
  pub waiting : List (List ℕ)
  pub all : frames ≡ done ++ waiting
  pub waits : map parted waiting ≡ under_places now.opened places texts
  pub whole : AreWhole waiting
  pub takes : TakesAll done (outlet_over old) (outlet_over now)
  pub parted : AreParted old.taken → AreParted now.taken

-- what became of a send of these frames
pub record SendsFrames (old new : PathsState) (frames : List (List ℕ))
    (result : Result Unit SendRefusal) : Type 0 where
  pub sends : Sends (outlet_over old) (outlet_over new) frames result
  pub parted : AreParted old.taken → AreParted new.taken

-- it goes on, or has ended by a refusal
abbrev pub Follows : PathsState → PathsState → List (List ℕ) → List ℕ → List (List ℕ)
    → Result Unit SendRefusal → Type 0
Follows old new frames places texts (Ok done) = IsUnderWay old new frames places texts
Follows old new frames places texts (Err refusal) = SendsFrames old new frames (Err refusal)

-- the place of the path of the next frame, or it has ended before that
abbrev pub Finds : PathsState → PathsState → List (List ℕ) → List ℕ → List ℕ → List ℕ
    → List (List ℕ) → Result ℕ SendRefusal → Type 0
Finds old new frames frame path places texts (Ok place) =
    IsUnderWay old new frames places texts × StandsAt path new.opened place
Finds old new frames frame path places texts (Err refusal) =
    SendsFrames old new (frames ++ frame ∷ []) (Err refusal)
