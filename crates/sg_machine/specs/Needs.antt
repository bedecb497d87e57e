-- What acts need, of that which `replay` keeps.
use Rattle.std.specs.Prelude.{ℕ, ◌+◌, ◌-◌, ◌==◌, nat_lt, nat_le, Bool, true, false, ◌&&◌, ◌||◌, not, Option, Some, None, List, [], ◌∷◌, length}
use Rattle.std.specs.Option.{option_map_or}
use Rattle.std.specs.List.{list_all, list_any}
use Rattle.sg_machine.specs.declared.event.Admission.{Admission}
use Rattle.sg_machine.specs.declared.running.SourceRun.{SourceRun}
use Rattle.sg_machine.specs.declared.running.DestRun.{DestRun}
use Rattle.sg_machine.specs.declared.running.Run.{Run}
use Rattle.sg_machine.specs.Verdicts.{is_listed}
use Rattle.sg_machine.specs.Legal.{is_this, works, is_admissible, is_nil}

abbrev pub store_number : DestRun → Option ℕ
store_number dest = option_map_or (λ buffer. Some buffer.store) dest.setup.buffer None

abbrev pub is_runs_store : Run → ℕ → Bool
is_runs_store run s =
    list_any (λ source. is_this s source.setup.store) run.sources
    || list_any (λ dest. is_this s (store_number dest)) run.dests

abbrev pub fails_one_run : Run → List ℕ → Bool
fails_one_run run [] = true
fails_one_run run (s ∷ []) = is_runs_store run s && not (is_listed s run.failed)
fails_one_run run (s ∷ (t ∷ ss)) = false

abbrev pub may_admit_run : List Admission → SourceRun → Bool
may_admit_run records source =
    nat_lt 0 (length records) && nat_le (length records) 1000
    && nat_le (length source.records - source.acked + length records) source.setup.window
    && list_all is_admissible records

abbrev pub may_settle_run : ℕ → DestRun → Bool
may_settle_run n dest = nat_lt 0 n && nat_le n (length dest.kept - dest.taken)

abbrev pub may_store_run : List ℕ → ℕ → SourceRun → Bool
may_store_run failed w source = works failed source.setup.store && w == source.mark
    && not (w == source.stored)

abbrev pub may_rewind_run : List ℕ → SourceRun → Bool
may_rewind_run failed source = works failed source.setup.store && is_nil source.records
    && not (source.stored == 0)
