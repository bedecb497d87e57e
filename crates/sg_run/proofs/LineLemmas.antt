-- A report has a line for each source of a plan.
use Rattle.std.proofs.Common.{◌≡◌, ℕ, ◌+◌, suc, Bool, is_some, List, [], ◌∷◌, Option, Some, None, ◌++◌, length, refl, sym, ap, ◌∙◌}
use Rattle.std.proofs.lemmas.List.{length-map}
use Rattle.sg_device.specs.Inlet.{InletState}
use Rattle.sg_device.specs.Outlet.{OutletState}
use Rattle.sg_outside.specs.World.{Files}
use Rattle.sg_msg.specs.declared.offer.Offer.{Offer}
use Rattle.sg_frame.specs.Records.{Record}
use Rattle.sg_machine.specs.Runs.{opened, after_all}
use Rattle.sg_machine.specs.Tallies.{source_tallies}
use Rattle.sg_machine.specs.declared.setup.SourceSetup.{SourceSetup}
use Rattle.sg_machine.specs.declared.state.Dest.{Dest}
use Rattle.sg_machine.specs.declared.state.InletRecords.{InletRecords}
use Rattle.sg_machine.specs.declared.state.State.{State}
use Rattle.sg_machine.specs.declared.tally.Tally.{Tally}
use Rattle.sg_machine.proofs.RunLemmas.{length-inlets}
use Rattle.sg_standing.specs.Standing.{IsAt, sources_from}
use Rattle.sg_standing.specs.States.{CoreState}
use Rattle.sg_core.specs.Opening.{opened_source}
use Rattle.sg_actor.specs.declared.source.SourceActor.{SourceActor}
use Rattle.sg_run_plan.specs.declared.inlet.InletPlan.{InletPlan}
use Rattle.sg_turns.specs.declared.ended.Ended.{Ended}
use Rattle.sg_serve.specs.Plan.{IsRunnable}
use Rattle.sg_serve.specs.Run.{CoreRun, Reached, PlanRunHolds, IsServed}
use Rattle.sg_serve.specs.declared.counts.Counts.{Counts}
use Rattle.sg_serve.specs.declared.ending.PlanEnded.{PlanEnded}
use Rattle.sg_serve.specs.declared.ending.PlanEnded.TheVariants.{Before, Ran}
use Rattle.sg_run_plan.specs.declared.plan.RunPlan.{RunPlan}
use Rattle.sg_laws.specs.Headline.{Headline, Delivers}
use Rattle.sg_config.specs.declared.config.Config.{Config}
use Rattle.sg_run.specs.Outcomes.{HasLines, HasLinesAt, AreReportRows}
use Rattle.sg_run.specs.Meaning.{planned}
use Rattle.sg_run.specs.declared.reporting.ReportRows.{ReportRows}

length-sources : (dests : List Dest) (i : ℕ) (inlets : List InletRecords) → length (sources_from dests i inlets) ≡ length inlets
length-sources dests i [] = refl
length-sources dests i (x ∷ xs) = ap suc (length-sources dests (i + 1) xs)

length-tallies : (dests : List Dest) (i : ℕ) (inlets : List InletRecords) → length (source_tallies dests i inlets) ≡ length inlets
length-tallies dests i [] = refl
length-tallies dests i (x ∷ xs) = ap suc (length-tallies dests (i + 1) xs)

at-inlets : (core : CoreState) (state : State) → IsAt core state → length state.inlets ≡ length core.sources
at-inlets core state at = sym (length-sources state.dests 0 state.inlets) ∙ sym (ap (λ ss. length ss) at.sources)

-- a core's tally has a line for each source that it was set up with
tallied : {R : Type 0} (offers : R → ℕ → Record → List Offer → Type 0) (plan : RunPlan) (routers : List R) (reached : Reached) (run : CoreRun) (tally : Tally) → Headline offers plan routers reached run
    → ((state : State) → IsAt run.last state → length tally.sources ≡ length state.inlets) → length tally.sources ≡ length plan.setup.sources
tallied offers plan routers reached run tally h each =
    let start = opened plan.setup (h.opens).opening in
    let events = run.prelude ++ h.later in
    let state = after_all start events in
    each state ((h.holds).stands).at
    ∙ (length-inlets start events
    ∙ (at-inlets run.first start ((h.opens).stands).at
    ∙ (ap (λ ss. length ss) (h.opens).sources ∙ length-map plan.setup.sources (opened_source (run.first).stores))))

lines-of : {R I O : Type 0} (feed : I → InletState) (drain : O → OutletState) (offers : R → ℕ → Record → List Offer → Type 0) (inlets dests : R → ℕ) (plan : RunPlan) (routers : List R) (rounds : ℕ) (reached : Reached) (run : CoreRun)
    (ended : Ended) (counts : Counts) (lines : ReportRows) → IsRunnable plan → length lines.drivers ≡ length plan.inlets.items → length lines.files ≡ length plan.setup.sources
    → IsServed feed drain offers inlets dests plan routers rounds reached run ended (Some counts) → Headline offers plan routers reached run → HasLines lines counts
lines-of {R} {I} feed drain offers inlets dests plan routers rounds reached run ended counts lines runnable drivers files served h =
    let runs = served.runs in
    let counted = runs.counted in
    let all = tallied offers plan routers reached run counts.tally h (λ state at. ap (λ (t : Tally). length t.sources) (counted.tally state at) ∙ length-tallies state.dests 0 state.inlets) in
    let took = (runs.serves).took in
    let each = sym (length-map runs.sources (λ (a : SourceActor R I). feed a.inlet)) ∙ (ap (λ fs. length fs) runs.inlets_opened ∙ served.all_inlets) in
    record {
      drivers = drivers ∙ (sym runnable.sources ∙ sym all);
      files = files ∙ sym all;
      bad_frames = ap (λ ns. length ns) counted.bad_frames ∙ (length-map runs.sources_then (λ (a : SourceActor R I). a.bad_frames) ∙ (took.all_sources ∙ (each ∙ (sym runnable.sources ∙ sym all))));
    }

lines-by : {R I O : Type 0} (feed : I → InletState) (drain : O → OutletState) (offers : R → ℕ → Record → List Offer → Type 0) (inlets dests : R → ℕ) (files : Option Files) (plan : RunPlan) (routers : List R) (rounds : ℕ) (reached : Reached)
    (core : Option CoreRun) (ending : PlanEnded) (lines : ReportRows) → IsRunnable plan → length lines.drivers ≡ length plan.inlets.items → length lines.files ≡ length plan.setup.sources
    → PlanRunHolds feed drain offers inlets dests files plan routers rounds reached core ending → Delivers offers plan routers reached core → HasLinesAt lines ending
lines-by feed drain offers inlets dests files plan routers rounds reached None (Before early) lines runnable drivers has_files holds h = tt
lines-by feed drain offers inlets dests files plan routers rounds reached None (Ran ended counts) lines runnable drivers has_files holds h = absurd holds
lines-by feed drain offers inlets dests files plan routers rounds reached (Some run) (Before early) lines runnable drivers has_files holds h = tt
lines-by feed drain offers inlets dests files plan routers rounds reached (Some run) (Ran ended None) lines runnable drivers has_files holds h = tt
lines-by feed drain offers inlets dests files plan routers rounds reached (Some run) (Ran ended (Some counts)) lines runnable drivers has_files (holds, served) h =
    lines-of feed drain offers inlets dests plan routers rounds reached run ended counts lines runnable drivers has_files served h

pub lines-at : {R I O : Type 0} (feed : I → InletState) (drain : O → OutletState) (offers : R → ℕ → Record → List Offer → Type 0) (inlets dests : R → ℕ) (files : Option Files) (config : Config) (once : Bool) (routers : List R) (rounds : ℕ) (reached : Reached)
    (ending : PlanEnded) (lines : ReportRows) → IsRunnable (planned config once) → AreReportRows config lines → PlanRunHolds feed drain offers inlets dests files (planned config once) routers rounds reached reached.core ending
    → Delivers offers (planned config once) routers reached reached.core → HasLinesAt lines ending
lines-at feed drain offers inlets dests files config once routers rounds reached ending lines runnable are holds h =
    lines-by feed drain offers inlets dests files (planned config once) routers rounds reached reached.core ending lines runnable
    (ap (λ ds. length ds) are.0 ∙ length-map config.inlets.items (λ (inlet : InletPlan). inlet.driver))
    (ap (λ fs. length fs) are.1 ∙ length-map config.setup.sources (λ (setup : SourceSetup). is_some setup.store)) holds h
