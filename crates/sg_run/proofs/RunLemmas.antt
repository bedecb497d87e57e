-- The run of a configuration file.
use Rattle.std.proofs.Common.{◌<◌, ◌^◌, ℕ, Bool, List, Some, Result, Ok, Err, inl, inr, refl, subst}
use Rattle.sg_device.specs.Inlet.{InletState}
use Rattle.sg_device.specs.Outlet.{OutletState}
use Rattle.sg_outside.specs.World.{WorldState}
use Rattle.sg_pipes.specs.declared.pipes.Pipes.{Pipes}
use Rattle.sg_config.specs.Alike.{IsConfigWithin}
use Rattle.sg_config.specs.declared.config.Config.{Config}
use Rattle.sg_loaded.specs.Loading.{OnlyLoads, LoadsFile, IsConfigured}
use Rattle.sg_loaded.specs.declared.loaded.Loaded.{Loaded}
use Rattle.sg_loaded.specs.declared.loaded.Unloaded.{Unloaded}
use Rattle.sg_loaded.specs.declared.loaded.Unloaded.TheVariants.{Bad, Unread, NoMemory}
use Rattle.sg_serve.specs.Run.{RunsPlan}
use Rattle.sg_serve.specs.declared.ending.PlanEnded.{PlanEnded}
use Rattle.sg_laws.specs.Headline.{RunsDeliver}
use Rattle.sg_laws.specs.Failing.{FailedStoresCount}
use Rattle.sg_laws.specs.Resting.{QuietRunsRest}
use Rattle.sg_laws.specs.Ending.{CleanRunsEnd}
use Rattle.sg_laws.specs.Bounds.{recovered_by, offered_by, RunsAreBounded}
use Rattle.sg_laws.specs.Happened.{PlanRunsHappen, PlanRunsCover}
use Rattle.sg_laws.specs.Clean.{PlanRunsEndClean}
use Rattle.sg_laws.specs.Rest.{PlanRunsRest}
use Rattle.sg_run.specs.Covering.{ReadsFiles}
use Rattle.sg_run.specs.Meaning.{planned, paths_in, drivers_in, AreRouters}
use Rattle.sg_run.specs.Outcomes.{TellsOutcome, PlanEndsBy, EndsSo, AreReportRows, HasLinesAt}
use Rattle.sg_run.specs.Run.{offers_by, inlets_by, dests_by, RunsBy, IsNotRun, IsStarved, RunsConfig, RunsFile}
use Rattle.sg_run.specs.declared.end.Outcome.{Outcome}
use Rattle.sg_run.specs.declared.reporting.ReportRows.{ReportRows}
use Rattle.sg_run.proofs.BoundingLemmas.{completes-by}
use Rattle.sg_run.proofs.CauseLemmas.{due-by}
use Rattle.sg_run.proofs.CoveringLemmas.{same-offers, covers-by}
use Rattle.sg_run.proofs.PlanLemmas.{runnable, used}
use Rattle.sg_run.proofs.HeadlineLemmas.{delivers-by}
use Rattle.sg_run.proofs.LineLemmas.{lines-at}
use Rattle.sg_run.proofs.RestingLemmas.{rests-by}

pub tells-by : (config : Config) (once : Bool) (ending : PlanEnded) (lines : ReportRows) (outcome : Outcome) → AreReportRows config lines → EndsSo lines ending (Some outcome) → TellsOutcome (planned config once) ending (Ok outcome)
tells-by config once ending lines outcome are ends =
    subst (λ fs. PlanEndsBy (drivers_in config.inlets.items) fs ending (Some outcome)) are.1 (subst (λ ds. PlanEndsBy ds lines.files ending (Some outcome)) are.0 ends)

-- The laws are that runs of plans come to the headline, that a store that is told to have failed has failed, what a quiet end means, that
-- rounds are bounded, and what stays covered.
pub runs-by : {I O : Type 0} (feed : I → InletState) (drain : O → OutletState) (loaded new : WorldState) (config : Config) (once : Bool) (rounds : ℕ) (routers : List Pipes) (ending : PlanEnded) (result : Result Outcome Unloaded) → IsConfigWithin config
    → ReadsFiles config once → AreRouters config routers → RunsDeliver feed drain offers_by inlets_by dests_by → FailedStoresCount feed drain offers_by inlets_by dests_by → QuietRunsRest feed drain offers_by inlets_by dests_by
    → CleanRunsEnd feed drain offers_by inlets_by dests_by → RunsAreBounded feed drain offers_by inlets_by dests_by → PlanRunsHappen feed drain offers_by inlets_by dests_by → PlanRunsCover feed drain offers_by inlets_by dests_by → PlanRunsEndClean feed drain offers_by inlets_by dests_by → PlanRunsRest feed drain offers_by inlets_by dests_by → rounds < 2 ^ 64 → RunsPlan feed drain offers_by inlets_by dests_by loaded new (planned config once) routers rounds ending
    → TellsOutcome (planned config once) ending result → RunsBy feed drain loaded new config once rounds result
runs-by feed drain loaded new config once rounds routers ending result within reads are law failing quiet clean bounded happen cover covered_clean covered_rest low (reached, runs) tells =
    let plan = planned config once in
    let can = runnable config once within in
    let due = due-by feed drain offers_by inlets_by dests_by loaded new plan routers rounds reached can (used config once within) failing ending runs in
    let few = bounded loaded new plan routers rounds ending reached can low runs in
    record {
      routers = routers;
      are_routers = are;
      ending = ending;
      reached = reached;
      runs = runs;
      headline = delivers-by plan routers (paths_in config) reached reached.core are (law loaded new plan routers rounds ending reached can runs);
      tells = tells;
      due = due;
      rests = rests-by feed drain offers_by inlets_by dests_by loaded new plan routers rounds reached can quiet clean ending runs;
      few = few;
      completes = completes-by loaded new plan (recovered_by runs) (offered_by runs) rounds ending reached result runs.ends due few tells;
      covers = λ by others.
          covers-by feed drain offers_by inlets_by dests_by loaded new plan routers by rounds reached can reads.0 reads.1 (same-offers config routers by are others) happen cover covered_clean covered_rest ending runs;
    }

pub lines-by-plan : {I O : Type 0} (feed : I → InletState) (drain : O → OutletState) (loaded new : WorldState) (config : Config) (once : Bool) (rounds : ℕ) (routers : List Pipes) (ending : PlanEnded) (lines : ReportRows) → IsConfigWithin config
    → AreReportRows config lines → RunsDeliver feed drain offers_by inlets_by dests_by → RunsPlan feed drain offers_by inlets_by dests_by loaded new (planned config once) routers rounds ending
    → HasLinesAt lines ending
lines-by-plan feed drain loaded new config once rounds routers ending lines within are law (reached, runs) =
    let can = runnable config once within in
    lines-at feed drain offers_by inlets_by dests_by loaded.files config once routers rounds reached ending lines can are runs.holds (law loaded new (planned config once) routers rounds ending reached can runs)

-- The file.

left-starved : (old loaded : WorldState) (file : List ℕ) (result : Result Outcome Unloaded) → IsStarved result → IsNotRun old loaded file result
left-starved old loaded file (Ok outcome) is = absurd is
left-starved old loaded file (Err (Bad fault names)) is = absurd is
left-starved old loaded file (Err (Unread name)) is = absurd is
left-starved old loaded file (Err NoMemory) is = tt

pub file-ran : {I O : Type 0} (feed : I → InletState) (drain : O → OutletState) (old loaded new : WorldState) (file : List ℕ) (once : Bool) (rounds : ℕ) (of_file : Loaded) (result : Result Outcome Unloaded) → OnlyLoads old loaded
    → IsConfigured old file of_file → RunsConfig feed drain loaded new of_file.config once rounds result → RunsFile feed drain old new file once rounds result
file-ran feed drain old loaded new file once rounds of_file result only is (inl (same, starved)) = (loaded, (only, inl (same, left-starved old loaded file result starved)))
file-ran feed drain old loaded new file once rounds of_file result only is (inr runs) = (loaded, (only, inr (of_file, (is, runs))))

pub file-left : {I O : Type 0} (feed : I → InletState) (drain : O → OutletState) (old loaded : WorldState) (file : List ℕ) (once : Bool) (rounds : ℕ) (unloaded : Unloaded) → OnlyLoads old loaded → LoadsFile old loaded file (Err unloaded)
    → RunsFile feed drain old loaded file once rounds (Err unloaded)
file-left feed drain old loaded file once rounds unloaded only is = (loaded, (only, inl (refl, is)))
