-- What `replay` keeps of a state: counts in the place of what it would have to search.
use Rattle.std.specs.Prelude.{◌≡◌, ◌≤◌, ℕ, ◌+◌, ◌==◌, Bool, true, not, if◌then◌else◌, List, [], ◌∷◌, ◌++◌, length, map, count_by, zero, suc}
use Rattle.std.specs.List.{list_all}
use Rattle.sg_window.specs.Window.{mark_from}
use Rattle.sg_window.specs.declared.tracker.BegunRecord.{BegunRecord}
use Rattle.sg_machine.specs.declared.state.DestEntry.{DestEntry}
use Rattle.sg_machine.specs.declared.state.InletRecords.{InletRecords}
use Rattle.sg_machine.specs.declared.state.Dest.{Dest}
use Rattle.sg_machine.specs.declared.state.State.{State}
use Rattle.sg_machine.specs.declared.running.Slip.{Slip}
use Rattle.sg_machine.specs.declared.running.SourceRun.{SourceRun}
use Rattle.sg_machine.specs.declared.running.DestRun.{DestRun}
use Rattle.sg_machine.specs.declared.running.Run.{Run}
use Rattle.sg_machine.specs.Entries.{used, unflowed}
use Rattle.sg_machine.specs.Marks.{is_owed_to}

-- the acknowledgements that a record still needs
abbrev pub owed : List Dest → ℕ → ℕ → ℕ
owed [] i n = 0
owed (dest ∷ dests) i n = count_by (is_owed_to i n) dest.left + owed dests i n

-- the records of an inlet from this number on, each with what it needs
abbrev pub records_from : List Dest → ℕ → ℕ → List ℕ → List BegunRecord
records_from dests i n [] = []
records_from dests i n (end ∷ ends) =
    record { end = end; left = owed dests i n } ∷ records_from dests i (n + 1) ends

-- how many stand in the longest prefix of acknowledged ones
abbrev pub acked_in : List BegunRecord → ℕ
acked_in [] = 0
acked_in (r ∷ rs) = if r.left == 0 then suc (acked_in rs) else 0

abbrev pub source_run : List Dest → ℕ → InletRecords → SourceRun
source_run dests i inlet = record {
  setup = inlet.setup;
  stored = inlet.stored;
  records = records_from dests i 0 inlet.ends;
  acked = acked_in (records_from dests i 0 inlet.ends);
  mark = mark_from inlet.opening (records_from dests i 0 inlet.ends);
}

abbrev pub source_runs : List Dest → ℕ → List InletRecords → List SourceRun
source_runs dests i [] = []
source_runs dests i (inlet ∷ inlets) = source_run dests i inlet ∷ source_runs dests (i + 1) inlets

-- an entry, but for its end and whether it is spooled
abbrev pub slip_of : DestEntry → Slip
slip_of e = record { inlet = e.inlet; number = e.number; flow = e.flow; message = e.message }

abbrev pub spooled_in : List DestEntry → ℕ
spooled_in [] = 0
spooled_in (e ∷ es) = if e.spooled then suc (spooled_in es) else spooled_in es

abbrev pub dest_run : Dest → DestRun
dest_run dest = record {
  setup = dest.setup;
  kept = map slip_of (dest.settled ++ dest.left);
  taken = length dest.settled;
  moved = length dest.settled + spooled_in dest.left;
  unflowed = unflowed dest.left;
  used = used dest.left;
  dropped_full = dest.dropped_full;
  dropped_disk = dest.dropped_disk;
}

abbrev pub run_of : State → Run
run_of state = record {
  sources = source_runs state.dests 0 state.inlets;
  dests = map dest_run state.dests;
  failed = state.failed;
}

-- What holds of each state that legal events come to.

-- each entry waits
abbrev pub all_wait : List DestEntry → Bool
all_wait es = list_all (λ e. not e.spooled) es

-- the spooled entries stand before those that wait
abbrev pub is_split : List DestEntry → Bool
is_split [] = true
is_split (e ∷ es) = if e.spooled then is_split es else all_wait es

abbrev pub are_split : List Dest → Bool
are_split dests = list_all (λ dest. is_split dest.left) dests

abbrev pub ends_at : List InletRecords → ℕ → List ℕ
ends_at [] i = []
ends_at (inlet ∷ inlets) zero = inlet.ends
ends_at (inlet ∷ inlets) (suc i) = ends_at inlets i

pub record IsSoundReplay (state : State) : Type 0 where
  -- a record that didn't come in needs nothing
  pub admitted : (i n : ℕ) → length (ends_at state.inlets i) ≤ n → owed state.dests i n ≡ 0
  pub split : are_split state.dests ≡ true
