-- What the runs of a configuration add up to.
use Rattle.std.proofs.Common.{◌≡◌, ℕ, false, Some, None, Option, List, [], ◌∷◌, ◌++◌, map, Result, Ok, Err, refl, ◌∙◌, subst}
use Rattle.sg_list.proofs.ListLemmas.{some-same}
use Rattle.sg_device.specs.Inlet.{InletState}
use Rattle.sg_device.specs.Outlet.{OutletState}
use Rattle.sg_lex.specs.declared.token.Token.{Token}
use Rattle.sg_pipes.specs.declared.pipes.Pipes.{Pipes}
use Rattle.sg_config.specs.Alike.{IsConfigWithin}
use Rattle.sg_config.specs.Means.{Means}
use Rattle.sg_config.specs.declared.config.Config.{Config}
use Rattle.sg_loaded.specs.declared.loaded.Unloaded.{Unloaded}
use Rattle.sg_serve.specs.Counts.{first_fault}
use Rattle.sg_serve.specs.Run.{RunsWith}
use Rattle.sg_serve.specs.declared.counts.Counts.{Counts}
use Rattle.sg_serve.specs.declared.counts.Fault.{Fault}
use Rattle.sg_serve.specs.declared.counts.Fault.TheVariants.{Sink, Disk, Inlet}
use Rattle.sg_serve.specs.declared.ending.Early.{Early}
use Rattle.sg_serve.specs.declared.ending.Early.TheVariants as early
use Rattle.sg_serve.specs.declared.ending.PlanEnded.{PlanEnded}
use Rattle.sg_serve.specs.declared.ending.PlanEnded.TheVariants.{Before, Ran}
use Rattle.sg_run_plan.specs.declared.plan.RunPlan.{RunPlan}
use Rattle.sg_turns.specs.declared.ended.Ended.{Ended}
use Rattle.sg_turns.specs.declared.ended.Ended.TheVariants.{Quiet, RoundsSpent as Spent, NoMemory}
use Rattle.sg_laws.specs.Adding.{position_in}
use Rattle.sg_laws.specs.PlanRuns.{EndsWell, PlanRunsFollow, PlanRunsAddUp}
use Rattle.sg_laws.specs.PlanRuns.{Opened as PlanOpened}
use Rattle.sg_laws.specs.Fresh.{new_stores, NewAreCovered, PlanRunsStayCovered, AllEndWell, PlanRunsTakeOnce}
use Rattle.sg_laws.specs.Happened.{held_by}
use Rattle.sg_run.specs.Adding.{ConfigRun, ConfigRunOf, Opened, Unopened, plan_run, run_of, ConfigRunsFollow, IsClean, ConfigRunsAddUp}
use Rattle.sg_run.specs.Fresh.{NewConfigRunsAddUp, ConfigRunsStayCovered, ReturnsClean, AllReturnClean, ConfigRunsTakeOnce}
use Rattle.sg_run.specs.Ends.{quiet_end, end_after, early_end}
use Rattle.sg_run.specs.Meaning.{planned, AreRouters}
use Rattle.sg_run.specs.Outcomes.{TellsOutcome}
use Rattle.sg_run.specs.Run.{offers_by, inlets_by, dests_by}
use Rattle.sg_run.specs.declared.end.End.{End}
use Rattle.sg_run.specs.declared.end.End.TheVariants.{Clean, OpenFault, Damage, SinkFault, DiskFault, InletFault, RoundsSpent}
use Rattle.sg_run.specs.declared.end.Outcome.{Outcome}
use Rattle.sg_run.proofs.FileLemmas.{reads-files, have-limits}
use Rattle.sg_run.proofs.PlanLemmas.{runnable}
use Rattle.sg_run.proofs.RestDueLemmas.{core-clean}

-- Status 0.

quiet-none : (fault : Option Fault) → quiet_end fault ≡ Clean → fault ≡ None
quiet-none None h = refl
quiet-none (Some (Sink d)) h = absurd (let wrong : SinkFault d ≡ Clean = h in cc)
quiet-none (Some (Disk s)) h = absurd (let wrong : DiskFault s ≡ Clean = h in cc)
quiet-none (Some (Inlet i)) h = absurd (let wrong : InletFault i ≡ Clean = h in cc)

early-unclean : (e : Early) (end : End) → early_end e ≡ Some end → end ≡ Clean → ⊥
early-unclean (early.OpenFault device) end h q = let wrong : OpenFault device ≡ Clean = some-same (OpenFault device) end h ∙ q in cc
early-unclean (early.Damage s at) end h q = let wrong : Damage s at ≡ Clean = some-same (Damage s at) end h ∙ q in cc
early-unclean (early.DiskFault s) end h q = let wrong : DiskFault s ≡ Clean = some-same (DiskFault s) end h ∙ q in cc
early-unclean early.NoMemory end h q = let wrong : None ≡ Some end = h in cc

-- it ended quietly, with nothing counted as failed
record EndsWellBy (ending : PlanEnded) : Type 0 where
  counts : Counts
  ending_is : ending ≡ Ran Quiet (Some counts)
  well : first_fault counts.sinks counts.stores counts.inlets ≡ None

-- the core's counts are clean where what is told is
abbrev IsCoreClean : PlanEnded → Type 0
IsCoreClean ending = (ended : Ended) (counts : Counts) → ending ≡ Ran ended (Some counts) → first_fault counts.rests.sinks counts.rests.stores counts.inlets ≡ None → first_fault counts.sinks counts.stores counts.inlets ≡ None

ran-clean : (ended : Ended) (counts : Counts) (end : End) → IsCoreClean (Ran ended (Some counts)) → end_after ended (first_fault counts.rests.sinks counts.rests.stores counts.inlets) ≡ Some end → end ≡ Clean → EndsWellBy (Ran ended (Some counts))
ran-clean Quiet counts end core h q =
    let fault = first_fault counts.rests.sinks counts.rests.stores counts.inlets in
    record { counts = counts; ending_is = refl; well = core Quiet counts refl (quiet-none fault (some-same (quiet_end fault) end h ∙ q)) }
ran-clean Spent counts end core h q = absurd (let wrong : RoundsSpent ≡ Clean = some-same RoundsSpent end h ∙ q in cc)
ran-clean NoMemory counts end core h q = absurd (let wrong : None ≡ Some end = h in cc)

ends-well : (plan : RunPlan) (ending : PlanEnded) (result : Result Outcome Unloaded) → IsCoreClean ending → TellsOutcome plan ending result → IsClean result → EndsWellBy ending
ends-well plan (Before e) (Ok outcome) core tells clean = absurd (early-unclean e outcome.end tells.0 clean)
ends-well plan (Ran ended None) (Ok outcome) core tells clean = absurd tells
ends-well plan (Ran ended (Some counts)) (Ok outcome) core tells clean = ran-clean ended counts outcome.end core tells.0 clean
ends-well plan ending (Err unloaded) core tells clean = absurd clean

core-of : {I O : Type 0} (feed : I → InletState) (drain : O → OutletState) (config : Config) (run : ConfigRun feed drain config) → IsCoreClean (run.ran).ending
core-of feed drain config run ended counts is none =
    let ran = run.ran in
    core-clean feed drain offers_by inlets_by dests_by run.old run.new (planned config run.once) ran.routers run.rounds ran.reached ended counts
    (subst (λ (e : PlanEnded). RunsWith feed drain offers_by inlets_by dests_by run.old run.new (planned config run.once) ran.routers run.rounds e ran.reached) is ran.runs) none

-- All runs.

module _ {I O : Type 0} (feed : I → InletState) (drain : O → OutletState) (config : Config) (by : List Pipes) (are : AreRouters config by) where
  follow-by : (bytes : ℕ → List ℕ) (before : List (List ℕ)) (runs : List (ConfigRunOf feed drain config)) (last : ConfigRun feed drain config) → ConfigRunsFollow by are bytes before (runs ++ Opened last ∷ [])
      → PlanRunsFollow feed drain offers_by inlets_by dests_by (planned config false) by bytes before (map (run_of by are) runs ++ PlanOpened (plan_run by are last) ∷ [])
  follow-by bytes before [] last follow = (
    follow.0,
    record { runs = (last.ran).runs; core = last.core_is; stores = (follow.1).stores; files = (follow.1).files; stops = (follow.1).stops },
    tt,
  )
  follow-by bytes before (Opened run ∷ runs) last follow = (
    follow.0,
    record { runs = (run.ran).runs; core = run.core_is; stores = (follow.1).stores; files = (follow.1).files; stops = (follow.1).stops },
    follow-by run.bytes run.images runs last follow.2,
  )
  follow-by bytes before (Unopened run ∷ runs) last follow = (record { runs = (run.ran).runs; stops = follow.0 }, follow-by bytes run.images runs last follow.1)

pub config-runs-add-up : {I O : Type 0} (feed : I → InletState) (drain : O → OutletState) → ((tokens : List Token) (config : Config) → Means tokens config → IsConfigWithin config)
    → PlanRunsAddUp feed drain offers_by inlets_by dests_by → ConfigRunsAddUp feed drain
config-runs-add-up feed drain within add tokens config by are bytes taken passes before runs last means covered follow clean returned =
    let reads = reads-files tokens config false means in
    let can = runnable config false (within tokens config means) in
    let well = ends-well (planned config last.once) (last.ran).ending last.result (core-of feed drain config last) (last.ran).tells clean in
    add (planned config false) by bytes taken passes before (map (run_of by are) runs) (plan_run by are last) can reads.0 reads.1 covered (follow-by feed drain config by are bytes before runs last follow)
    (record { counts = well.counts; ending_is = well.ending_is; well = well.well; returned = returned })

-- From new stores on.

module _ {I O : Type 0} (feed : I → InletState) (drain : O → OutletState) (config : Config) (by : List Pipes) (are : AreRouters config by) where
  follow-all : (bytes : ℕ → List ℕ) (before : List (List ℕ)) (runs : List (ConfigRunOf feed drain config)) → ConfigRunsFollow by are bytes before runs → PlanRunsFollow feed drain offers_by inlets_by dests_by (planned config false) by bytes before (map (run_of by are) runs)
  follow-all bytes before [] follow = tt
  follow-all bytes before (Opened run ∷ runs) follow = (
    follow.0,
    record { runs = (run.ran).runs; core = run.core_is; stores = (follow.1).stores; files = (follow.1).files; stops = (follow.1).stops },
    follow-all run.bytes run.images runs follow.2,
  )
  follow-all bytes before (Unopened run ∷ runs) follow = (record { runs = (run.ran).runs; stops = follow.0 }, follow-all bytes run.images runs follow.1)

  follow-opened : (bytes : ℕ → List ℕ) (before : List (List ℕ)) (runs : List (ConfigRun feed drain config)) (last : ConfigRun feed drain config) → ConfigRunsFollow by are bytes before (map Opened (runs ++ last ∷ []))
      → PlanRunsFollow feed drain offers_by inlets_by dests_by (planned config false) by bytes before (map PlanOpened (map (plan_run by are) runs ++ plan_run by are last ∷ []))
  follow-opened bytes before [] last follow = (
    follow.0,
    record { runs = (last.ran).runs; core = last.core_is; stores = (follow.1).stores; files = (follow.1).files; stops = (follow.1).stops },
    tt,
  )
  follow-opened bytes before (run ∷ runs) last follow = (
    follow.0,
    record { runs = (run.ran).runs; core = run.core_is; stores = (follow.1).stores; files = (follow.1).files; stops = (follow.1).stops },
    follow-opened run.bytes run.images runs last follow.2,
  )

  returns-well : (run : ConfigRun feed drain config) → ReturnsClean by are run → EndsWell (plan_run by are run)
  returns-well run r =
      let well = ends-well (planned config run.once) (run.ran).ending run.result (core-of feed drain config run) (run.ran).tells r.clean in
      record { counts = well.counts; ending_is = well.ending_is; well = well.well; returned = r.returned }

  all-return-well : (runs : List (ConfigRun feed drain config)) (last : ConfigRun feed drain config) → AllReturnClean by are (runs ++ last ∷ []) → AllEndWell (map (plan_run by are) runs ++ plan_run by are last ∷ [])
  all-return-well [] last all = (returns-well last all.0, tt)
  all-return-well (run ∷ runs) last all = (returns-well run all.0, all-return-well runs last all.1)

pub new-runs-add-up : {I O : Type 0} (feed : I → InletState) (drain : O → OutletState) → ((tokens : List Token) (config : Config) → Means tokens config → IsConfigWithin config)
    → NewAreCovered offers_by → PlanRunsAddUp feed drain offers_by inlets_by dests_by → NewConfigRunsAddUp feed drain
new-runs-add-up feed drain within fresh add tokens config by are bytes runs last means follow clean returned =
    let plan = planned config false in
    let can = runnable config false (within tokens config means) in
    config-runs-add-up feed drain within add tokens config by are bytes [] [] (new_stores plan) runs last means
    (λ lists in_lists. fresh plan by bytes (position_in (held_by config.setup (new_stores plan) lists)) lists can in_lists) follow clean returned

pub config-runs-stay-covered : {I O : Type 0} (feed : I → InletState) (drain : O → OutletState) → ((tokens : List Token) (config : Config) → Means tokens config → IsConfigWithin config)
    → PlanRunsStayCovered feed drain offers_by inlets_by dests_by → ConfigRunsStayCovered feed drain
config-runs-stay-covered feed drain within stay tokens config by are bytes runs lists means follow in_lists =
    let reads = reads-files tokens config false means in
    let can = runnable config false (within tokens config means) in
    let plan = planned config false in
    stay plan by bytes (map (run_of by are) runs) lists can reads.0 reads.1 (follow-all feed drain config by are bytes (new_stores plan) runs follow) in_lists

pub config-runs-take-once : {I O : Type 0} (feed : I → InletState) (drain : O → OutletState) → ((tokens : List Token) (config : Config) → Means tokens config → IsConfigWithin config)
    → PlanRunsTakeOnce feed drain offers_by inlets_by dests_by → ConfigRunsTakeOnce feed drain
config-runs-take-once feed drain within once tokens config by are bytes runs last means follow all =
    let reads = reads-files tokens config false means in
    let can = runnable config false (within tokens config means) in
    let plan = planned config false in
    once plan by bytes (map (plan_run by are) runs) (plan_run by are last) can reads.0 reads.1 (have-limits tokens config false means) (follow-opened feed drain config by are bytes (new_stores plan) runs last follow)
    (all-return-well feed drain config by are runs last all)
