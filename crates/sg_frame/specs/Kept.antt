-- How a framer keeps its bytes and their moments.
use Rattle.std.specs.Prelude.{◌≡◌, ◌≢◌, ℕ, ℤ, pos, ◌+◌, ◌-◌, ◌<◌, ◌≤◌, ◌^◌, max, replicate, List, [], ◌∷◌, ◌++◌, length, drop, slice_index, slice_index_or, slice_range}
use Rattle.sg_frame.specs.declared.block.KeptPart.{KeptPart}
use Rattle.sg_frame.specs.declared.block.KeptPart.TheVariants.{Fed, Shared}
use Rattle.sg_frame.specs.declared.moments.TimedRun.{TimedRun}
use Rattle.sg_frame.specs.declared.scan.ItemSpan.{ItemSpan}

-- bytes that stand in a list that grows, or in a block
abbrev pub part_items : KeptPart → List ℕ
part_items (Fed list) = list.items
part_items (Shared block) = block

-- the moments of the bytes from this place on, run after run
abbrev pub moments : (place : ℕ) → List TimedRun → List ℤ
moments place [] = []
moments place (run ∷ runs) = replicate (run.end - place) run.at ++ moments (max place run.end) runs

-- the place behind the last run
abbrev pub runs_end : (place : ℕ) → List TimedRun → ℕ
runs_end place [] = place
runs_end place (run ∷ runs) = runs_end (max place run.end) runs

-- so many of the bytes, no more than the limit, have no LF
pub record IsScanned (limit : ℕ) (bytes : List ℕ) (scanned : ℕ) : Type 0 where
  pub within : scanned ≤ length bytes
  pub below : scanned ≤ limit
  pub no_feed : (k : ℕ) → k < scanned → slice_index bytes k ≢ 10

-- the runs cover the bytes
pub record AreRunsKept (limit place scanned : ℕ) (bytes : List ℕ)
    (runs : List TimedRun) : Type 0 where
  pub some : 0 < limit
  pub covers : runs_end place runs ≡ place + length bytes
  pub in_range : place + length bytes < 2 ^ 63
  pub scan : IsScanned limit bytes scanned

-- an item's text and moment, and what is kept behind it
pub record Cuts (place : ℕ) (span : ItemSpan) (old new : List ℕ) (runs left : List TimedRun)
    (cut : List ℕ) (at : ℤ) : Type 0 where
  pub text : cut ≡ slice_range old span.from span.to
  pub rest : new ≡ drop span.taken old
  pub moment : at ≡ slice_index_or (moments place runs) span.last (pos 0)
  pub kept : moments (place + span.taken) left ≡ drop span.taken (moments place runs)
  pub covers : runs_end (place + span.taken) left ≡ runs_end place runs
