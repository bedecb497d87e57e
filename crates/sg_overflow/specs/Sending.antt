-- Sends to the outlet inside.
use Rattle.std.specs.Prelude.{◌≡◌, ◌≤◌, ◌<◌, ℕ, ◌+◌, List, length}
use Rattle.sg_device.specs.Faults.{Rose}
use Rattle.sg_device.specs.Outlet.{OutletState, TakesFirst}
use Rattle.sg_overflow.specs.declared.step.Stop.{Stop}
use Rattle.sg_overflow.specs.declared.step.Stop.TheVariants.{Open, Outlet, Later, Store, NoMemory}

-- the first so many frames were taken; all of them, or why no more
abbrev pub IsSentAs : OutletState → OutletState → List (List ℕ) → ℕ → Stop → Type 0
IsSentAs old new frames count Open = count ≡ length frames
IsSentAs old new frames count Outlet = (count < length frames) × Rose old.faults new.faults
IsSentAs old new frames count Later = (count < length frames) × (old.laters + 1 ≤ new.laters)
IsSentAs old new frames count NoMemory = count < length frames
IsSentAs old new frames count Store = ⊥

pub record IsSent (old new : OutletState) (frames : List (List ℕ)) (count : ℕ)
    (stop : Stop) : Type 0 where
  pub takes : TakesFirst count frames (record old { laters = new.laters }) new
  pub laters : old.laters ≤ new.laters
  pub answer : IsSentAs old new frames count stop
