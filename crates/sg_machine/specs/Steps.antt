-- An act on that which `replay` keeps: what it leaves where it is legal, and None where it is not.
use Rattle.std.specs.Prelude.{ℕ, nat_lt, nat_le, ◌&&◌, if◌then◌else◌, Option, Some, None, option_and_then, List, ◌++◌, slice_get}
use Rattle.sg_list.specs.Lists.{change, passes_at}
use Rattle.sg_machine.specs.declared.event.Admission.{Admission}
use Rattle.sg_machine.specs.declared.event.Verdict.{Verdict}
use Rattle.sg_machine.specs.declared.event.Act.{Act}
use Rattle.sg_machine.specs.declared.event.Act.TheVariants.{Admit, Settle, Refill, Store, Rewind, Look}
use Rattle.sg_machine.specs.declared.setup.BufferSetup.{BufferSetup}
use Rattle.sg_machine.specs.declared.running.DestRun.{DestRun}
use Rattle.sg_machine.specs.declared.running.Run.{Run}
use Rattle.sg_machine.specs.Legal.{works, at_most_this, is_nil, is_same_list}
use Rattle.sg_machine.specs.Needs.{store_number, fails_one_run, may_admit_run, may_settle_run, may_store_run, may_rewind_run}
use Rattle.sg_machine.specs.Turns.{stored_run, rewound_run, settle_turns, move_turns, record_turns}

-- these stores have failed
abbrev pub with_failed : List ℕ → Run → Run
with_failed failed run = record run { failed = run.failed ++ failed }

-- the stores that failed are those that are said to
abbrev pub if_failed : List ℕ → Run → Option Run
if_failed failed run = if is_same_list failed run.failed then Some run else None

abbrev pub admit_step : ℕ → List Admission → List Verdict → List ℕ → Run → Option Run
admit_step i records verdicts failed run =
    if passes_at run.sources i (may_admit_run records)
    then option_and_then (if_failed (run.failed ++ failed))
    (record_turns i failed run records verdicts) else None

abbrev pub settle_step : ℕ → ℕ → List ℕ → Run → Option Run
settle_step d n failed run =
    if passes_at run.dests d (λ dest. may_settle_run n dest
    && at_most_this run.failed (store_number dest) failed)
    then Some (with_failed failed (settle_turns n d run)) else None

-- the entries are moved into this disk-buffer
abbrev pub refill_into : ℕ → ℕ → Run → Option BufferSetup → Option Run
refill_into d n run buffer = option_and_then (λ (b : BufferSetup). move_turns n b.capacity d run)
    buffer

abbrev pub refill_at : ℕ → ℕ → List ℕ → Run → DestRun → Option Run
refill_at d n failed run dest =
    if works run.failed (store_number dest) && nat_lt 0 n && nat_le n 1000 && is_nil failed
    then refill_into d n run dest.setup.buffer else None

abbrev pub refill_step : ℕ → ℕ → List ℕ → Run → Option Run
refill_step d n failed run = option_and_then (refill_at d n failed run) (slice_get run.dests d)

abbrev pub store_step : ℕ → ℕ → List ℕ → Run → Option Run
store_step i w failed run =
    if passes_at run.sources i (may_store_run run.failed w) && is_nil failed
    then Some (record run { sources = change run.sources i (stored_run w) }) else None

abbrev pub rewind_step : ℕ → List ℕ → Run → Option Run
rewind_step i failed run =
    if passes_at run.sources i (may_rewind_run run.failed) && is_nil failed
    then Some (record run { sources = change run.sources i rewound_run }) else None

abbrev pub look_step : List ℕ → Run → Option Run
look_step failed run = if fails_one_run run failed then Some (with_failed failed run) else None

abbrev pub act_step : Act → List ℕ → Run → Option Run
act_step (Admit i records verdicts) failed run = admit_step i records verdicts failed run
act_step (Settle d n) failed run = settle_step d n failed run
act_step (Refill d n) failed run = refill_step d n failed run
act_step (Store i w) failed run = store_step i w failed run
act_step (Rewind i) failed run = rewind_step i failed run
act_step Look failed run = look_step failed run
