-- The outlets, the rounds and the finish of the outlets: from what each of them tells to what is told of all of them.
use Rattle.std.proofs.Common.{◌≡◌, ◌≤◌, ℕ, Bool, List, [], ◌∷◌, ◌++◌, length, map, Some, None, Option, refl, sym, ap, ◌∙◌, subst, arith}
use Rattle.std.specs.Prelude.{option_map, option_to_list, is_some, IfSome}
use Rattle.std.proofs.lemmas.List.{append-nil, length-map}
use Rattle.sg_device.specs.Disk.{DiskState}
use Rattle.sg_device.specs.Inlet.{InletState}
use Rattle.sg_device.specs.Outlet.{OutletState}
use Rattle.sg_device.specs.Paths.{PathsState}
use Rattle.sg_outside.specs.World.{WorldState}
use Rattle.sg_msg.specs.declared.offer.Offer.{Offer}
use Rattle.sg_frame.specs.Records.{Record}
use Rattle.sg_stores.specs.Stores.{StoreState}
use Rattle.sg_standing.specs.States.{CoreState}
use Rattle.sg_core.specs.Calls.{Serves as CoreServes}
use Rattle.sg_turns.specs.Actors.{SourceTook, DestTook}
use Rattle.sg_turns.specs.Serving.{ServesRounds}
use Rattle.sg_turns.specs.declared.ended.Ended.{Ended}
use Rattle.sg_actor.specs.declared.dest.DestActor.{DestActor}
use Rattle.sg_actor.specs.declared.source.SourceActor.{SourceActor}
use Rattle.sg_overflow.specs.declared.buffered.Buffered.{Buffered}
use Rattle.sg_run_plan.specs.declared.outlet.OutletPlan.{OutletPlan}
use Rattle.sg_serve.specs.Actors.{AreDestsFor}
use Rattle.sg_serve.specs.Counts.{tallied_of, AreCountsOf}
use Rattle.sg_serve.specs.Devices.{outlet_asked, outlets_asked, OpensOuts}
use Rattle.sg_serve.specs.Exits.{Out, AreReadied, exit_of, way_of, out_of, parts_out, outlets_in}
use Rattle.sg_serve.specs.Opened.{DestsOpen}
use Rattle.sg_serve.specs.Overflows.{overflow_specs, AreFinished, AreRests, CountsRests, WaysFail}
use Rattle.sg_serve.specs.Run.{RunsDests}
use Rattle.sg_serve.specs.declared.counts.Counts.{Counts}
use Rattle.sg_serve.specs.declared.counts.Tallied.{Tallied}
use Rattle.sg_serve.specs.declared.ending.Early.{Early}
use Rattle.sg_serve.specs.declared.ending.Early.TheVariants.{NoMemory}
use Rattle.sg_serve.specs.declared.ending.PlanEnded.TheVariants.{Before, Ran}
use Rattle.sg_serve.specs.declared.exit.Exit.{Exit}
use Rattle.sg_serve.specs.declared.way.Parts.{Parts}
use Rattle.sg_serve.proofs.OpenedLemmas.{outs_at, views_at, readied-outlets, readied-held, held-many, ways-miss}
use Rattle.sg_serve.proofs.FailLemmas.{readied-many}
use Rattle.sg_serve.proofs.OutLemmas.{outs-none}
use Rattle.sg_serve.proofs.RestLemmas.{rests-ways}
use Rattle.sg_serve.proofs.WholeLemmas.{whole-ways}

pub map-two : {A B C : Type 0} (f : A → B) (g : B → C) (xs : List A) → map g (map f xs) ≡ map (λ a. g (f a)) xs
map-two f g [] = refl
map-two {A} {B} {C} f g (x ∷ xs) = ap (λ (l : List C). g (f x) ∷ l) (map-two f g xs)

module _ {D P S : Type 0} (drain : D → OutletState) (paths : P → PathsState) (disk : S → DiskState) where
  -- of the ways out of destinations
  pub outs-of : (dests : List (DestActor (Buffered (Exit D P) S))) (ways : List (Buffered (Exit D P) S)) → ways ≡ map (λ (a : DestActor (Buffered (Exit D P) S)). a.outlet) dests → map (out_of drain paths disk) ways ≡ outs_at drain paths disk dests
  outs-of dests ways same = ap (map (out_of drain paths disk)) same ∙ map-two (λ (a : DestActor (Buffered (Exit D P) S)). a.outlet) (out_of drain paths disk) dests

  -- their number
  pub made-few : (old between : WorldState) (once : Bool) (plans : List OutletPlan) (opened : List Out) (made : List (DestActor (Buffered (Exit D P) S))) → OpensOuts old between (outlets_asked once plans) (overflow_specs plans) opened → AreReadied opened (outs_at drain paths disk made)
      → length made ≤ length plans
  made-few old between once plans opened made opens readied =
      let n = opens.count in
      let m = length-map plans (λ (plan : OutletPlan). outlet_asked once plan.spec) in
      let k = readied-many opened (outs_at drain paths disk made) readied in
      let j = length-map made (λ (a : DestActor (Buffered (Exit D P) S)). out_of drain paths disk a.outlet) in
      omega (arith, n, m, k, j)

  pub made-all : (between new : WorldState) (once : Bool) (plans : List OutletPlan) (stores : ℕ) (opened : List Out) (made : List (DestActor (Buffered (Exit D P) S))) (last : Option Out) → DestsOpen between new once plans stores opened (outs_at drain paths disk made) last None → length made ≡ length plans
  made-all between new once plans stores opened made last open' =
      sym (length-map made (λ (a : DestActor (Buffered (Exit D P) S)). out_of drain paths disk a.outlet)) ∙ held-many plans (outs_at drain paths disk made) open'.0

  -- What a run has come to.

  pub served-rests : (once : Bool) (first : ℕ) (plans : List OutletPlan) (ways ways' : List (Buffered (Exit D P) S)) (asked : List Bool) (tallied : Option Tallied) (counts : Option Counts) → asked ≡ map (λ (plan : OutletPlan). is_some plan.overflow) plans
      → CountsRests (exit_of drain paths) disk tallied ways ways' asked first once counts → IfSome counts (AreRests once first plans (map (out_of drain paths disk) ways'))
  served-rests once first plans ways ways' asked tallied None are h = tt
  served-rests once first plans ways ways' asked None (Some counts) are h = absurd h
  served-rests once first plans ways ways' asked (Some tallied) (Some counts) are (same, f) =
      rests-ways drain paths disk once first plans ways ways' asked counts are
      (subst (λ (t : Tallied). AreFinished (exit_of drain paths) disk ways ways' asked t.sinks t.stores first once counts.rests) (sym same) f)

  pub served-counted : {R I : Type 0} (last : CoreState) (sources : List (SourceActor R I)) (dests : List (DestActor (Buffered (Exit D P) S))) (once : Bool) (first : ℕ) (ways ways' : List (Buffered (Exit D P) S)) (asked : List Bool) (tallied : Option Tallied)
      (counts : Option Counts) → CountsRests (exit_of drain paths) disk tallied ways ways' asked first once counts → IfSome tallied (AreCountsOf last sources dests) → IfSome counts (λ counts. AreCountsOf last sources dests (tallied_of counts))
  served-counted last sources dests once first ways ways' asked tallied None h are = tt
  served-counted last sources dests once first ways ways' asked None (Some counts) h are = absurd h
  served-counted last sources dests once first ways ways' asked (Some tallied) (Some counts) (same, f) are =
      subst (λ (t : Tallied). AreCountsOf last sources dests t) (sym same) are

  -- The whole.

  pub dests-none : {R I : Type 0} (feed : I → InletState) (offers : R → ℕ → Record → List Offer → Type 0) (inlets dests : R → ℕ) (w : WorldState) (once : Bool) (plans : List OutletPlan) (rounds : ℕ) (core : CoreState) (sources : List (SourceActor R I)) (disks : List DiskState)
      → disks ≡ map (λ (store : StoreState). store.disk) core.stores → RunsDests feed (way_of drain paths disk) offers inlets dests w w once plans rounds core sources disks (map (λ (a : SourceActor R I). feed a.inlet) sources ++ []) [] (Before NoMemory)
  dests-none {R} {I} feed offers inlets dests w once plans rounds core sources disks closes = record {
    outs_opened = [];
    opens = outs-none w (outlets_asked once plans) (overflow_specs plans);
    whole = tt;
    last = core;
    closes_stores = closes;
    ends = record { stays = refl; closes_inlets = append-nil (map (λ (a : SourceActor R I). feed a.inlet) sources); closes_outlets = refl; cause = tt };
  }

  pub dests-miss : {R I : Type 0} (feed : I → InletState) (offers : R → ℕ → Record → List Offer → Type 0) (inlets dests : R → ℕ) (old between new : WorldState) (once : Bool) (plans : List OutletPlan) (rounds : ℕ) (core : CoreState) (sources : List (SourceActor R I)) (disks : List DiskState)
      (stores : ℕ) (opened : List Out) (made : List (DestActor (Buffered (Exit D P) S))) (ways : List (Buffered (Exit D P) S)) (last : Option (Parts D P S)) (early : Early) → stores ≡ length core.stores
      → OpensOuts old between (outlets_asked once plans) (overflow_specs plans) opened → AreReadied opened (outs_at drain paths disk made) → DestsOpen between new once plans stores opened (outs_at drain paths disk made) (option_map (parts_out drain paths disk) last) (Some early)
      → ways ≡ map (λ (a : DestActor (Buffered (Exit D P) S)). a.outlet) made → disks ≡ map (λ (store : StoreState). store.disk) core.stores
      → RunsDests feed (way_of drain paths disk) offers inlets dests old new once plans rounds core sources disks (map (λ (a : SourceActor R I). feed a.inlet) sources ++ [])
      (map (out_of drain paths disk) ways ++ option_to_list (option_map (parts_out drain paths disk) last)) (Before early)
  dests-miss {R} {I} feed offers inlets dests old between new once plans rounds core sources disks stores opened made ways last early count opens readied open' ways_are closes =
      let end = option_map (parts_out drain paths disk) last in
      let outs_are : map (out_of drain paths disk) ways ++ option_to_list end ≡ outs_at drain paths disk made ++ option_to_list end = ap (λ (l : List Out). l ++ option_to_list end) (outs-of made ways ways_are) in
      let m = ways-miss old between new once plans stores opened (outs_at drain paths disk made) end early opens readied open' in
      record {
        outs_opened = m.opened;
        opens = m.opens;
        whole = whole-ways drain paths disk ways last;
        last = core;
        closes_stores = closes;
        ends = record {
          stays = refl;
          closes_inlets = append-nil (map (λ (a : SourceActor R I). feed a.inlet) sources);
          closes_outlets = ap (λ (l : List Out). outlets_in l) outs_are ∙ m.same;
          cause = subst (λ (l : List Out). WaysFail old new (length core.stores) m.opened l early) (sym outs_are) (subst (λ (n : ℕ). WaysFail old new n m.opened (outs_at drain paths disk made ++ option_to_list end) early) count m.cause);
        };
      }

  -- no part of a last one is open
  rests-all : (once : Bool) (first : ℕ) (plans : List OutletPlan) (outs closed : List Out) (counts : Option Counts) → closed ≡ outs → IfSome counts (AreRests once first plans outs) → IfSome counts (AreRests once first plans closed)
  rests-all once first plans outs closed counts same h = subst (λ (l : List Out). IfSome counts (AreRests once first plans l)) (sym same) h

  pub dests-served : {R I : Type 0} (feed : I → InletState) (offers : R → ℕ → Record → List Offer → Type 0) (inlets dests : R → ℕ) (old between new : WorldState) (once : Bool) (plans : List OutletPlan) (rounds : ℕ) (core last : CoreState) (sources sources' : List (SourceActor R I)) (disks : List DiskState)
      (stores : ℕ) (opened : List Out) (made made' : List (DestActor (Buffered (Exit D P) S))) (ways ways' : List (Buffered (Exit D P) S)) (parts : Option (Parts D P S)) (asked : List Bool) (tallied : Option Tallied) (counts : Option Counts) (ended : Ended) → stores ≡ length core.stores
      → OpensOuts old between (outlets_asked once plans) (overflow_specs plans) opened → AreReadied opened (outs_at drain paths disk made) → AreDestsFor once plans (views_at drain paths disk made)
      → DestsOpen between new once plans stores opened (outs_at drain paths disk made) (option_map (parts_out drain paths disk) parts) None
      → ServesRounds (SourceTook feed offers inlets dests) (DestTook (way_of drain paths disk)) CoreServes core last sources sources' made made' rounds ended
      → map (way_of drain paths disk) ways ≡ map (λ (a : DestActor (Buffered (Exit D P) S)). way_of drain paths disk a.outlet) made' → map (way_of drain paths disk) ways' ≡ map (way_of drain paths disk) ways → asked ≡ map (λ (plan : OutletPlan). is_some plan.overflow) plans
      → CountsRests (exit_of drain paths) disk tallied ways ways' asked stores once counts → IfSome tallied (AreCountsOf last sources' made') → disks ≡ map (λ (store : StoreState). store.disk) last.stores
      → RunsDests feed (way_of drain paths disk) offers inlets dests old new once plans rounds core sources disks (map (λ (a : SourceActor R I). feed a.inlet) sources' ++ [])
      (map (out_of drain paths disk) ways' ++ option_to_list (option_map (parts_out drain paths disk) parts)) (Ran ended counts)
  dests-served {R} {I} feed offers inlets dests old between new once plans rounds core last sources sources' disks stores opened made made' ways ways' parts asked tallied counts ended count opens readied are open' serves ways_are stay asked_are rests counted closes =
      let end = option_map (parts_out drain paths disk) parts in
      let w = way_of drain paths disk in
      let outs_are : map (out_of drain paths disk) ways' ++ option_to_list end ≡ map (out_of drain paths disk) ways' = ap (λ (o : Option Out). map (out_of drain paths disk) ways' ++ option_to_list o) open'.1 ∙ append-nil (map (out_of drain paths disk) ways') in
      let held = readied-held plans opened (outs_at drain paths disk made) readied open'.0 in
      record {
        outs_opened = opened;
        opens = subst (λ (s : WorldState). OpensOuts old s (outlets_asked once plans) (overflow_specs plans) opened) (sym open'.2) opens;
        whole = whole-ways drain paths disk ways' parts;
        last = last;
        closes_stores = closes;
        ends = record {
          sources_then = sources';
          dests_first = made;
          dests_then = made';
          serves = serves;
          counted = served-counted last sources' made' once stores ways ways' asked tallied counts rests counted;
          are_dests = are;
          all = held-many plans opened held;
          closes_inlets = sym (append-nil (map (λ (a : SourceActor R I). feed a.inlet) sources'));
          outlets_opened = sym (map-two (λ (a : DestActor (Buffered (Exit D P) S)). out_of drain paths disk a.outlet) (λ (o : Out). o.outlet) made) ∙ readied-outlets opened (outs_at drain paths disk made) readied;
          outlets_closed = sym ways_are ∙ sym stay
              ∙ sym (map-two (out_of drain paths disk) (λ (o : Out). o.outlet) ways') ∙ ap (λ (l : List Out). outlets_in l) (sym outs_are);
          held = held;
          rests = rests-all once (length core.stores) plans (map (out_of drain paths disk) ways') (map (out_of drain paths disk) ways' ++ option_to_list end) counts outs_are
              (subst (λ (n : ℕ). IfSome counts (AreRests once n plans (map (out_of drain paths disk) ways'))) count (served-rests once stores plans ways ways' asked tallied counts asked_are rests));
        };
      }
