-- What a run has come to, once its rounds have ended.
use Rattle.std.specs.Prelude.{◌≡◌, ℕ, ◌+◌, Bool, true, false, Option, Some, None, List, [], ◌∷◌, map}
use Rattle.sg_stores.specs.Stores.{StoreState}
use Rattle.sg_standing.specs.States.{CoreState}
use Rattle.sg_core.specs.Answers.{Tallies}
use Rattle.sg_actor.specs.declared.dest.DestActor.{DestActor}
use Rattle.sg_actor.specs.declared.source.SourceActor.{SourceActor}
use Rattle.sg_actor.specs.declared.turned.GivenUp.{GivenUp}
use Rattle.sg_actor.specs.declared.turned.GivenUp.TheVariants.{Outlet, Store}
use Rattle.sg_serve.specs.declared.counts.Counts.{Counts}
use Rattle.sg_serve.specs.declared.counts.Tallied.{Tallied}
use Rattle.sg_serve.specs.declared.counts.Fault.{Fault}
use Rattle.sg_serve.specs.declared.counts.Fault.TheVariants.{Sink, Disk, Inlet as InletFault}

-- a destination is given up as its outlet failed
abbrev pub gave_up_outlet : Option GivenUp → Bool
gave_up_outlet None = false
gave_up_outlet (Some Outlet) = true
gave_up_outlet (Some Store) = false

-- the numbers of those that are marked, from this number on
abbrev pub numbers_from : ℕ → List Bool → List ℕ
numbers_from k [] = []
numbers_from k (true ∷ marks) = k ∷ numbers_from (k + 1) marks
numbers_from k (false ∷ marks) = numbers_from (k + 1) marks

-- the first thing that failed: a destination before a store, and that before an inlet, the lowest of its kind
abbrev pub first_fault : (sinks stores inlets : List ℕ) → Option Fault
first_fault (d ∷ ds) stores inlets = Some (Sink d)
first_fault [] (s ∷ ss) inlets = Some (Disk s)
first_fault [] [] (i ∷ is) = Some (InletFault i)
first_fault [] [] [] = None

-- without what is left of the disk-buffers that aren't reliable
abbrev pub tallied_of : Counts → Tallied
tallied_of counts = record {
  tally = counts.tally;
  bad_frames = counts.bad_frames;
  sinks = counts.sinks;
  stores = counts.stores;
  inlets = counts.inlets;
}

-- The numbers that the core has come to; for each inlet the number of its bad parts; and those that failed, in order.
pub record AreCountsOf {R I O : Type 0} (core : CoreState) (sources : List (SourceActor R I))
    (dests : List (DestActor O)) (counts : Tallied) : Type 0 where
  pub tally : Tallies core counts.tally
  pub bad_frames : counts.bad_frames ≡ map (λ (a : SourceActor R I). a.bad_frames) sources
  pub sinks : counts.sinks
      ≡ numbers_from 0 (map (λ (a : DestActor O). gave_up_outlet a.outage.given_up) dests)
  pub stores : counts.stores ≡ numbers_from 0 (map (λ (s : StoreState). s.failed) core.stores)
  pub inlets : counts.inlets
      ≡ numbers_from 0 (map (λ (a : SourceActor R I). a.reader.failed) sources)
