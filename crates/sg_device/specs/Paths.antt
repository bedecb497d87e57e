-- What an opener has open and has taken, and what its calls do to that.
use Rattle.std.specs.Prelude.{◌≡◌, ◌-◌, ℕ, ◌+◌, List, [], ◌∷◌, ◌++◌, map, take, if◌then◌else◌, bytes_eq, Option, None, Result, Ok, Err, IfSome, OnOk}
use Rattle.std.specs.Option.{option_map}
use Rattle.sg_device.specs.Outlet.{OutletState, Sends, Reopens, Refuses}
use Rattle.sg_device.specs.declared.outlet.Reopened.{Reopened}
use Rattle.sg_device.specs.declared.fault.SendRefusal.{SendRefusal}
use Rattle.sg_device.specs.declared.fault.OutletFault.{OutletFault}

-- a text, and the path of the file that it is for
pub record PathText : Type 0 where
  pub path : List ℕ
  pub text : List ℕ

pub record PathsState : Type 0 where
  -- the paths of the open files
  pub opened : List (List ℕ)
  -- the texts taken since the opener was made, where it tells them
  pub taken : Option (List PathText)
  -- their number
  pub count : ℕ
  -- the openings, sends and reopenings that failed
  pub faults : ℕ
  -- those of them since a text was taken last
  pub failing : ℕ
  -- those for which it was too early
  pub laters : ℕ

-- nothing is open, and nothing was taken yet
pub record IsNewOpener (opener : PathsState) : Type 0 where
  pub opened : opener.opened ≡ []
  pub taken : IfSome opener.taken (λ texts. texts ≡ [])
  pub count : opener.count ≡ 0
  pub failing : opener.failing ≡ 0

-- what an opener counts, as an outlet that tells no frames
abbrev pub counts_of : PathsState → OutletState
counts_of opener = record {
  taken = None;
  count = opener.count;
  faults = opener.faults;
  failing = opener.failing;
  laters = opener.laters;
}

-- the texts, each with this path
abbrev pub under_path : List ℕ → List (List ℕ) → List PathText
under_path path texts = map (λ text. record { path = path; text = text }) texts

-- the paths but for this one
abbrev pub without_path : List ℕ → List (List ℕ) → List (List ℕ)
without_path path [] = []
without_path path (open_path ∷ paths) =
    if bytes_eq open_path path then paths else open_path ∷ without_path path paths

-- the open paths and the texts stay
pub record KeepsPaths (old new : PathsState) : Type 0 where
  pub opened : new.opened ≡ old.opened
  pub taken : new.taken ≡ old.taken

abbrev pub PathOpens : PathsState → PathsState → List ℕ → Result Unit SendRefusal → Type 0
PathOpens old new path (Ok done) = new ≡ record old { opened = old.opened ++ path ∷ [] }
PathOpens old new path (Err refusal) = KeepsPaths old new
    × Refuses (counts_of old) (counts_of new) refusal

-- A send is counted and answered as that of an outlet, and what it took stands under the path. One that took all counts no fault.
pub record SendsUnder (path : List ℕ) (texts : List (List ℕ)) (old new : PathsState)
    (result : Result Unit SendRefusal) : Type 0 where
  pub sends : Sends (counts_of old) (counts_of new) texts result
  pub taken : new.taken
      ≡ option_map (λ before. before
      ++ under_path path (take (new.count - old.count) texts)) old.taken
  pub well : OnOk result (new.faults ≡ old.faults)

abbrev pub PathSends : PathsState → PathsState → List ℕ → List (List ℕ) → Result Unit SendRefusal
    → Type 0
PathSends old new path texts result = SendsUnder path texts old new result
    × (new.opened ≡ old.opened)

-- a reopening too
pub record PathReopens (old new : PathsState) (result : Result Reopened OutletFault) : Type 0 where
  pub reopens : Reopens (counts_of old) (counts_of new) result
  pub keeps : KeepsPaths old new

abbrev pub PathCloses : PathsState → PathsState → List ℕ → Type 0
PathCloses old new path = new ≡ record old { opened = without_path path old.opened }
