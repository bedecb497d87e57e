-- How a run ended, and what is said of it.
use Rattle.std.specs.Prelude.{◌≡◌, ℕ, Bool, List, [], length, Option, Some, None, Result, Ok, Err}
use Rattle.sg_report.specs.Report.{report_text}
use Rattle.sg_report.specs.declared.shown.Shown.{Shown}
use Rattle.sg_serve.specs.Counts.{first_fault}
use Rattle.sg_serve.specs.declared.counts.Counts.{Counts}
use Rattle.sg_serve.specs.declared.ending.Early.{Early}
use Rattle.sg_serve.specs.declared.ending.PlanEnded.{PlanEnded}
use Rattle.sg_serve.specs.declared.ending.PlanEnded.TheVariants.{Before, Ran}
use Rattle.sg_run_plan.specs.declared.plan.RunPlan.{RunPlan}
use Rattle.sg_turns.specs.declared.ended.Ended.{Ended}
use Rattle.sg_loaded.specs.declared.loaded.Unloaded.{Unloaded}
use Rattle.sg_loaded.specs.declared.loaded.Unloaded.TheVariants.{Bad, Unread, NoMemory}
use Rattle.sg_config.specs.declared.config.Config.{Config}
use Rattle.sg_run.specs.Ends.{code_of, end_after, early_end, early_text}
use Rattle.sg_run.specs.Meaning.{drivers_in, files_in}
use Rattle.sg_run.specs.declared.end.End.{End}
use Rattle.sg_run.specs.declared.end.Outcome.{Outcome}
use Rattle.sg_run.specs.declared.reporting.ReportRows.{ReportRows}

-- What the report shows: a line for each driver of a source, with the position of a file; what failed; and the exit status.
abbrev pub shown_of : List ℕ → List Bool → Counts → End → Shown
shown_of drivers files counts end = record {
  drivers = drivers;
  files = files;
  bad_frames = counts.bad_frames;
  held = counts.rests.held;
  sinks = counts.rests.sinks;
  stores = counts.rests.stores;
  inlets = counts.inlets;
  status = code_of end;
}

-- before the rounds
abbrev pub EndsBefore : Early → Option Outcome → Type 0
EndsBefore early None = Unit {0}
EndsBefore early (Some outcome) = (early_end early ≡ Some outcome.end)
    × (outcome.text.items ≡ early_text early)

-- after them
abbrev pub ReportsBy : List ℕ → List Bool → Ended → Counts → Option Outcome → Type 0
ReportsBy drivers files ended counts None = Unit {0}
ReportsBy drivers files ended counts (Some outcome) =
    (end_after ended (first_fault counts.rests.sinks counts.rests.stores counts.inlets)
    ≡ Some outcome.end)
    × (outcome.text.items ≡ report_text counts.tally (shown_of drivers files counts outcome.end))

-- what nothing is known of: there is no outcome, since memory ran out
abbrev pub IsNone : Option Outcome → Type 0
IsNone None = Unit {0}
IsNone (Some outcome) = ⊥

abbrev pub PlanEndsBy : List ℕ → List Bool → PlanEnded → Option Outcome → Type 0
PlanEndsBy drivers files (Before early) outcome = EndsBefore early outcome
PlanEndsBy drivers files (Ran ended None) outcome = IsNone outcome
PlanEndsBy drivers files (Ran ended (Some counts)) outcome = ReportsBy drivers files ended counts
    outcome

-- The run of a plan ended so, which is told, and its text is the report, or the line on what kept its rounds from beginning. Lack of memory
-- is free.
abbrev pub TellsOutcome : RunPlan → PlanEnded → Result Outcome Unloaded → Type 0
TellsOutcome plan ending (Ok outcome) =
    PlanEndsBy (drivers_in plan.inlets.items) (files_in plan.setup.sources)
    ending (Some outcome)
TellsOutcome plan ending (Err (Bad fault names)) = ⊥
TellsOutcome plan ending (Err (Unread name)) = ⊥
TellsOutcome plan ending (Err NoMemory) = Unit {0}

-- ---- the parts

abbrev pub Drawn : ReportRows → Counts → End → List ℕ → Type 0
Drawn lines counts end text = text
    ≡ report_text counts.tally (shown_of lines.drivers lines.files counts end)

abbrev pub EndsAfter : ReportRows → Ended → Counts → Option Outcome → Type 0
EndsAfter lines ended counts outcome = ReportsBy lines.drivers lines.files ended counts outcome

abbrev pub EndsSo : ReportRows → PlanEnded → Option Outcome → Type 0
EndsSo lines ending outcome = PlanEndsBy lines.drivers lines.files ending outcome

-- there is a line for each source, and the number of its bad parts
pub record HasLines (lines : ReportRows) (counts : Counts) : Type 0 where
  pub drivers : length lines.drivers ≡ length counts.tally.sources
  pub files : length lines.files ≡ length counts.tally.sources
  pub bad_frames : length counts.bad_frames ≡ length counts.tally.sources

abbrev pub HasLinesAt : ReportRows → PlanEnded → Type 0
HasLinesAt lines (Before early) = Unit {0}
HasLinesAt lines (Ran ended None) = Unit {0}
HasLinesAt lines (Ran ended (Some counts)) = HasLines lines counts

abbrev pub AreReportRows : Config → ReportRows → Type 0
AreReportRows config lines = (lines.drivers ≡ drivers_in config.inlets.items)
    × (lines.files ≡ files_in config.setup.sources)
