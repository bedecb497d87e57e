-- Each way out adds up, however it was used.
use Rattle.std.proofs.Common.{◌≡◌, ℕ, List, [], ◌∷◌, ◌++◌, map, take, Some, None, Option, refl}
use Rattle.std.specs.Prelude.{option_map, option_to_list}
use Rattle.sg_device.specs.Disk.{DiskState}
use Rattle.sg_device.specs.Outlet.{OutletState}
use Rattle.sg_device.specs.Paths.{PathsState}
use Rattle.sg_overflow.specs.View.{both}
use Rattle.sg_overflow.specs.declared.buffered.Buffered.{Buffered}
use Rattle.sg_overflow.specs.declared.buffered.Buffered.TheVariants.{Direct, Overflow}
use Rattle.sg_overflow.proofs.Lines.{add_up}
use Rattle.sg_serve.specs.Exits.{exit_of, out_of, parts_out}
use Rattle.sg_serve.specs.Overflows.{IsWayWhole, AreWaysWhole}
use Rattle.sg_serve.specs.declared.exit.Exit.{Exit}
use Rattle.sg_serve.specs.declared.way.Parts.{Parts}

module _ {D P S : Type 0} (drain : D → OutletState) (paths : P → PathsState) (disk : S → DiskState) where
  whole-way : (way : Buffered (Exit D P) S) → IsWayWhole (out_of drain paths disk way)
  whole-way (Direct exit) = record { direct = λ none. refl; adds_up = tt }
  whole-way (Overflow view) = record {
    direct = λ none. absurd (let wrong : Some _ ≡ None = none in cc);
    adds_up = λ taken forwarded frames took sent kept. (
      take view.tally.loaded (forwarded ++ frames),
      add_up (exit_of drain paths) disk view (take view.tally.loaded (forwarded ++ frames)) taken forwarded frames
          (λ i. option_map (take view.tally.loaded) (both (λ (a b : List (List ℕ)). a ++ b) (sent i) (kept i))) took sent kept,
    );
  }

  whole-parts : (last : Option (Parts D P S)) → AreWaysWhole (option_to_list (option_map (parts_out drain paths disk) last))
  whole-parts None = tt
  whole-parts (Some parts) = (record { direct = λ none. refl; adds_up = tt }, tt)

  pub whole-ways : (ways : List (Buffered (Exit D P) S)) (last : Option (Parts D P S)) → AreWaysWhole (map (out_of drain paths disk) ways ++ option_to_list (option_map (parts_out drain paths disk) last))
  whole-ways [] last = whole-parts last
  whole-ways (w ∷ ws) last = (whole-way w, whole-ways ws last)
