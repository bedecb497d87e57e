-- What is told of sources and destinations while a run goes on.
use Rattle.std.specs.Prelude.{◌+◌, ◌-◌, ◌^◌, ℕ, min, sum_by, List, [], ◌∷◌}
use Rattle.sg_actor.specs.declared.dest.DestActor.{DestActor}
use Rattle.sg_actor.specs.declared.source.SourceActor.{SourceActor}
use Rattle.sg_hub.specs.Counts.{with_more, offered_to}
use Rattle.sg_hub.specs.declared.passed.Offered.{Offered}
use Rattle.sg_crew.specs.declared.watch.DestLook.{DestLook}
use Rattle.sg_crew.specs.declared.watch.SourceLook.{SourceLook}
use Rattle.sg_crew.specs.declared.worker.Worker.{Worker}

-- what became of the offers of both
abbrev pub offered_by_both : Offered → Offered → Offered
offered_by_both one other = record {
  kept = with_more other.kept one.kept;
  dropped_full = with_more other.dropped_full one.dropped_full;
  dropped_disk = with_more other.dropped_disk one.dropped_disk;
}

-- what became of the worker's offers to this destination
abbrev pub offered_by : {A D : Type 0} → ℕ → Worker A D → Offered
offered_by dest w = offered_to dest w.passed.offered.items

-- the sum of a count over these workers' offers to this destination, which stands still at its end
abbrev pub sum_offered : {A D : Type 0} → (Offered → ℕ) → ℕ → List (Worker A D) → ℕ
sum_offered count dest ws = min (sum_by (λ w. count (offered_by dest w)) ws) (2 ^ 64 - 1)

-- what became of all these workers' offers to this destination
abbrev pub offered_by_all : {A D : Type 0} → ℕ → List (Worker A D) → Offered
offered_by_all dest ws = record {
  kept = sum_offered (λ offered. offered.kept) dest ws;
  dropped_full = sum_offered (λ offered. offered.dropped_full) dest ws;
  dropped_disk = sum_offered (λ offered. offered.dropped_disk) dest ws;
}

-- a source, as its worker's counts are
abbrev pub look_of_source : {R I D : Type 0} → Worker (SourceActor R I) D → SourceLook
look_of_source w = record {
  records = w.passed.records;
  bad_frames = w.actor.bad_frames;
  stored = w.passed.stored;
  full = w.passed.full;
  eased = w.passed.eased;
}

-- a destination, as its worker's counts and those of all sources are
abbrev pub look_of_dest : {A O D : Type 0} → List (Worker A D) → ℕ → Worker (DestActor O) D
    → DestLook
look_of_dest sources dest w = record {
  offered = offered_by_all dest sources;
  taken = w.passed.taken;
  oldest = w.passed.oldest;
}

-- destinations, of which the first has this number
abbrev pub looks_of_dests : {A O D : Type 0} → List (Worker A D) → ℕ → List (Worker (DestActor O) D)
    → List DestLook
looks_of_dests sources dest [] = []
looks_of_dests sources dest (w ∷ ws) =
    look_of_dest sources dest w ∷ looks_of_dests sources (dest + 1) ws
