-- What a run tells to have failed has failed.
use Rattle.std.proofs.Common.{◌≡◌, ◌≤◌, ℕ, true, List, [], ◌∷◌, Option, Some, None, map, length, slice_get, sym, ap, ◌∙◌, subst, arith}
use Rattle.std.proofs.lemmas.List.{length-map}
use Rattle.sg_list.proofs.ListLemmas.{slice_get-some, slice_get-below, slice_get-map}
use Rattle.sg_device.specs.Faults.{Rose}
use Rattle.sg_device.specs.Inlet.{InletState}
use Rattle.sg_device.specs.Outlet.{OutletState}
use Rattle.sg_outside.specs.World.{WorldState}
use Rattle.sg_msg.specs.declared.offer.Offer.{Offer}
use Rattle.sg_frame.specs.Records.{Record}
use Rattle.sg_actor.specs.DestTurns.{HasGivenUpCause}
use Rattle.sg_actor.specs.SourceTurns.{actor}
use Rattle.sg_actor.specs.declared.dest.DestActor.{DestActor}
use Rattle.sg_actor.specs.declared.outage.Outage.{Outage}
use Rattle.sg_actor.specs.declared.rendering.DestSpec.{DestSpec}
use Rattle.sg_actor.specs.declared.source.SourceActor.{SourceActor}
use Rattle.sg_actor.specs.declared.turned.GivenUp.{GivenUp}
use Rattle.sg_actor.specs.declared.turned.GivenUp.TheVariants.{Outlet}
use Rattle.sg_turns.specs.Actors.{source_seen, dest_seen, SourceTook, DestTook}
use Rattle.sg_turns.specs.Turns.{Turn, DestState, SendsBy, SentTurns}
use Rattle.sg_turns.specs.declared.ended.Ended.{Ended}
use Rattle.sg_turns.proofs.FailingLemmas.{dest-fails, source-fails}
use Rattle.sg_counter.specs.Exchanges.{OfSource, OfDest}
use Rattle.sg_serve.specs.Actors.{SourceView, DestView, source_view, dest_view}
use Rattle.sg_serve.specs.Counts.{gave_up_outlet}
use Rattle.sg_serve.specs.Plan.{IsRunnable}
use Rattle.sg_serve.specs.Run.{CoreRun, Reached, PlanRunHolds, IsServed, RunsWith}
use Rattle.sg_serve.specs.declared.counts.Counts.{Counts}
use Rattle.sg_serve.specs.declared.ending.PlanEnded.{PlanEnded}
use Rattle.sg_serve.specs.declared.ending.PlanEnded.TheVariants.{Before, Ran}
use Rattle.sg_run_plan.specs.declared.plan.RunPlan.{RunPlan}
use Rattle.sg_laws.proofs.PreludeLemmas.{get-back}
use Rattle.sg_laws.specs.Failing.{AreUsed, FailedStoresCount}
use Rattle.sg_run.specs.Causes.{FailsThrice, RoseIn, AreCausesDue}
use Rattle.sg_run.proofs.RestDueLemmas.{rests-due}
use Rattle.sg_laws.proofs.FactLemmas.{for-outlet}
use Rattle.sg_laws.proofs.FailingLemmas.{marked}

-- Once a destination is given up for its outlet, the outlet's count of faults rose.
record CountRises (first : OutletState) (s : DestState) : Type 0 where
  later : first.faults ≤ s.drain.faults
  rose : s.outage.given_up ≡ Some Outlet → Rose first.faults s.drain.faults

turn-rises : (cause : Option GivenUp) (spec : DestSpec) (first : OutletState) (old new : DestState) (turn : Turn) → SendsBy cause spec old new turn → CountRises first old → CountRises first new
turn-rises None spec first old new turn (taken, (refused, h)) before = record {
  later = (let sooner = before.later in let more = h.takes.faults in omega (arith, sooner, more));
  rose = λ e. (
      let why = subst (λ c. HasGivenUpCause spec.gives_up refused new.drain turn.made c) e h.cause in
      let one : Rose old.drain.faults new.drain.faults = h.rose why.1 in
      let sooner = before.later in
      omega (arith, one, sooner));
}
turn-rises (Some cause) spec first old new turn h before = record {
  later = subst (λ (drain : OutletState). first.faults ≤ drain.faults) (sym h.1.drain_stays) before.later;
  rose = λ e. subst (λ (drain : OutletState). Rose first.faults drain.faults) (sym h.1.drain_stays) (before.rose (ap (λ (outage : Outage). outage.given_up) (sym h.1.outage_stays) ∙ e));
}

turns-rise : (spec : DestSpec) (first : OutletState) (old new : DestState) (turns : List Turn) → SentTurns spec old new turns → CountRises first old → CountRises first new
turns-rise spec first old new [] same before = subst (λ (s : DestState). CountRises first s) (sym same) before
turns-rise spec first old new (turn ∷ turns) (mid, (sent, rest)) before = turns-rise spec first mid new turns rest (turn-rises old.outage.given_up spec first old mid turn sent before)

module _ {R I O : Type 0} (feed : I → InletState) (drain : O → OutletState) (offers : R → ℕ → Record → List Offer → Type 0) (inlets dests : R → ℕ) (plan : RunPlan) (routers : List R) (rounds : ℕ) (reached : Reached) (run : CoreRun) (ended : Ended)
    (counts : Counts) (runnable : IsRunnable plan) (served : IsServed feed drain offers inlets dests plan routers rounds reached run ended (Some counts)) where
  sink-due : (k d : ℕ) → slice_get counts.sinks k ≡ Some d → FailsThrice plan reached.outlets reached.outlets_closed d
  sink-due k d h =
      let runs = served.runs in
      let took = (runs.serves).took in
      let marks = map (λ (a : DestActor O). gave_up_outlet a.outage.given_up) runs.dests_then in
      let r = marked 0 k d marks (ap (λ ds. slice_get ds k) (sym (runs.counted).sinks) ∙ h) in
      let j = r.0 in
      let number : d ≡ j = let at = r.1.1 in omega (arith, at) in
      let b = get-back (λ (a : DestActor O). gave_up_outlet a.outage.given_up) runs.dests_then j true r.1.0 in
      let low = slice_get-below runs.dests_then j b.0 b.1.0 in
      let a = slice_get-some runs.dests_first j (let n = took.all_dests in omega (arith, low, n)) in
      let below = slice_get-below runs.dests_first j a.0 a.1 in
      let many : length runs.dests_first ≡ length plan.outlets.items = sym (length-map runs.dests_first (λ (x : DestActor O). drain x.outlet)) ∙ (ap (λ os. length os) runs.outlets_opened ∙ served.all_outlets) in
      let outlet = slice_get-some plan.outlets.items j (omega (arith, below, many)) in
      let view_of : DestActor O → DestView = λ x. dest_view x.spec x.outage (drain x.outlet) in
      let for = runs.are_dests j outlet.0 (view_of a.0) outlet.1 (slice_get-map view_of runs.dests_first j a.0 a.1) in
      let turns = runs.account (OfDest j) in
      let does : DestTook drain a.0 b.0 turns = took.dests_took j a.0 b.0 a.1 b.1.0 in
      let kept = (for.is).kept in
      let why = dest-fails (a.0).spec (dest_seen drain a.0) (dest_seen drain b.0) turns does.took (λ e. absurd (let wrong : None ≡ Some Outlet = sym kept ∙ e in cc)) (for-outlet ((b.0).outage).given_up b.1.1) in
      let rises = turns-rise (a.0).spec (drain (a.0).outlet) (dest_seen drain a.0) (dest_seen drain b.0) turns does.took
      (record { later = omega arith; rose = λ e. absurd (let wrong : None ≡ Some Outlet = sym kept ∙ e in cc) }) in
      subst (λ n. FailsThrice plan reached.outlets reached.outlets_closed n) (sym number) (record {
        once = sym (ap (λ (s : DestSpec). s.gives_up) (for.is).spec_is) ∙ why.0;
        old = drain (a.0).outlet;
        new = drain (b.0).outlet;
        was = ap (λ os. slice_get os j) (sym runs.outlets_opened) ∙ slice_get-map (λ (x : DestActor O). drain x.outlet) runs.dests_first j a.0 a.1;
        is = ap (λ os. slice_get os j) (sym runs.outlets_closed) ∙ slice_get-map (λ (x : DestActor O). drain x.outlet) runs.dests_then j b.0 b.1.0;
        failing = why.1;
        rose = rises.rose (for-outlet ((b.0).outage).given_up b.1.1);
      })

  inlet-due : (k i : ℕ) → slice_get counts.inlets k ≡ Some i → RoseIn reached.inlets reached.inlets_closed i
  inlet-due k i h =
      let runs = served.runs in
      let took = (runs.serves).took in
      let marks = map (λ (a : SourceActor R I). a.reader.failed) runs.sources_then in
      let r = marked 0 k i marks (ap (λ ds. slice_get ds k) (sym (runs.counted).inlets) ∙ h) in
      let j = r.0 in
      let number : i ≡ j = let at = r.1.1 in omega (arith, at) in
      let b = get-back (λ (a : SourceActor R I). a.reader.failed) runs.sources_then j true r.1.0 in
      let low = slice_get-below runs.sources_then j b.0 b.1.0 in
      let a = slice_get-some runs.sources j (let n = took.all_sources in omega (arith, low, n)) in
      let below = slice_get-below runs.sources j a.0 a.1 in
      let many : length runs.sources ≡ length plan.inlets.items = sym (length-map runs.sources (λ (x : SourceActor R I). feed x.inlet)) ∙ (ap (λ os. length os) runs.inlets_opened ∙ served.all_inlets) in
      let inlet = slice_get-some plan.inlets.items j (omega (arith, below, many)) in
      let setup = slice_get-some plan.setup.sources j (let n = runnable.sources in omega (arith, below, many, n)) in
      let view_of : SourceActor R I → SourceView = λ x. source_view x.spec (actor (feed x.inlet) x.reader x.buffer.items x.position x.bad_frames) (dests x.router) in
      let for = runs.are_sources j inlet.0 setup.0 (view_of a.0) inlet.1 setup.1 (slice_get-map view_of runs.sources j a.0 a.1) in
      let turns = runs.account (OfSource j) in
      let does : SourceTook feed offers inlets dests a.0 b.0 turns = took.sources_took j a.0 b.0 a.1 b.1.0 in
      let fails = source-fails (offers (a.0).router) (dests (a.0).router) (a.0).spec (source_seen feed a.0) (source_seen feed b.0) turns does.took in
      subst (λ n. RoseIn reached.inlets reached.inlets_closed n) (sym number) (record {
        old = feed (a.0).inlet;
        new = feed (b.0).inlet;
        was = ap (λ os. slice_get os j) (sym runs.inlets_opened) ∙ slice_get-map (λ (x : SourceActor R I). feed x.inlet) runs.sources j a.0 a.1;
        is = ap (λ os. slice_get os j) (sym runs.inlets_closed) ∙ slice_get-map (λ (x : SourceActor R I). feed x.inlet) runs.sources_then j b.0 b.1.0;
        rose = fails.1 (for.is).going.1 b.1.1;
      })

module _ {R I O : Type 0} (feed : I → InletState) (drain : O → OutletState) (offers : R → ℕ → Record → List Offer → Type 0) (inlets dests : R → ℕ) (old new : WorldState) (plan : RunPlan) (routers : List R) (rounds : ℕ) (reached : Reached)
    (runnable : IsRunnable plan) (used : AreUsed plan) (law : FailedStoresCount feed drain offers inlets dests) where
  due-served : (ended : Ended) (counts : Counts) (core : Option CoreRun) → PlanRunHolds feed drain offers inlets dests old.files plan routers rounds reached core (Ran ended (Some counts))
      → RunsWith feed drain offers inlets dests old new plan routers rounds (Ran ended (Some counts)) reached → AreCausesDue plan reached (Ran ended (Some counts))
  due-served ended counts None holds runs = absurd holds
  due-served ended counts (Some run) (holds, served) runs =
      let sinks = sink-due feed drain offers inlets dests plan routers rounds reached run ended counts runnable served in
      let stores = law old new plan routers rounds ended counts reached runnable used runs in (
        record {
          sinks = sinks;
          stores = stores;
          inlets = inlet-due feed drain offers inlets dests plan routers rounds reached run ended counts runnable served;
        },
        rests-due plan reached counts served.rests sinks stores,
      )

  pub due-by : (ending : PlanEnded) → RunsWith feed drain offers inlets dests old new plan routers rounds ending reached → AreCausesDue plan reached ending
  due-by (Before early) runs = tt
  due-by (Ran ended None) runs = tt
  due-by (Ran ended (Some counts)) runs = due-served ended counts reached.core runs.holds runs
