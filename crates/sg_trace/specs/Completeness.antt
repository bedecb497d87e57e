-- When INPUT is traced to its end.
use Rattle.std.specs.Prelude.{◌≡◌, ◌≤◌, ℕ, ◌+◌, ◌^◌, List, Some, Result, Ok, Err}
use Rattle.sg_device.specs.Faults.{Rose}
use Rattle.sg_outside.specs.World.{WorldState}
use Rattle.sg_loaded.specs.Completeness.{LoadsUntroubled as IsLoadedUntroubled, WasLoaded as IsLoaded}
use Rattle.sg_trace.specs.Traces.{Feed, spec_of, read_inlets, WasTraced as IsTraced}
use Rattle.sg_trace.specs.declared.unshown.Unshown.{Unshown}
use Rattle.sg_trace.specs.declared.unshown.Unshown.TheVariants.{Unloaded, Untraced}

-- No reading of the configuration failed, and no pattern was too large; no opening and no saying failed; and where INPUT was opened and
-- closed, no pull of it failed, it was never idle, and it gave fewer bytes than there are pulls.
pub record ShowsUntroubled (old new : WorldState) (input : List ℕ) : Type 0 where
  pub load : IsLoadedUntroubled old new
  pub opening : ¬ Rose old.inlet_faults new.inlet_faults
  pub say : ¬ Rose old.say_faults new.say_faults
  pub inlet : (limit : ℕ) (feed : Feed)
      → new.inlets ≡ read_inlets old.inlets (spec_of input limit) (Some feed)
      → (¬ Rose feed.opened.faults feed.closed.faults)
      × (feed.closed.bytes + feed.closed.parts + feed.closed.idles ≤ 2 ^ 36)

-- all was said, or memory ran out
abbrev pub WasShown : Result Unit Unshown → Type 0
WasShown (Ok done) = Unit {0}
WasShown (Err (Unloaded unloaded)) = IsLoaded (Err unloaded)
WasShown (Err (Untraced untraced)) = IsTraced (Err untraced)
