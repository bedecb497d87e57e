-- The steps of a phase: seats are dealt, turns are taken, and the seats are gathered.
use Rattle.std.proofs.Common.{arith, ◌≡◌, ◌≤◌, ℕ, Bool, List, ap, sym, ◌∙◌, subst, slice_get, Some}
use Rattle.sg_device.specs.Inlet.{InletState}
use Rattle.sg_device.specs.Outlet.{OutletState}
use Rattle.sg_msg.specs.declared.offer.Offer.{Offer}
use Rattle.sg_frame.specs.Records.{Record}
use Rattle.sg_list.proofs.ListLemmas.{slice_get-some, slice_get-below, slice_get-map}
use Rattle.sg_booth.specs.Desks.{IsDeskOf, fresh_desk}
use Rattle.sg_standing.specs.States.{setup_of}
use Rattle.sg_counter.specs.Exchanges.{Caller, OfSource, OfDest}
use Rattle.sg_actor.specs.declared.dest.DestActor.{DestActor}
use Rattle.sg_actor.specs.declared.source.SourceActor.{SourceActor}
use Rattle.sg_turns.specs.Turns.{Turn}
use Rattle.sg_turns.specs.Actors.{AreSources, AreDests, SourceTakes, DestTakes}
use Rattle.sg_hub.specs.Histories.{ToldCall}
use Rattle.sg_hub.specs.Seats.{HubState, SeatState}
use Rattle.sg_crew.specs.Crews.{AllChanged, Every, HasPhaseWith}
use Rattle.sg_crew.specs.Workers.{actor_of, actors_of, IsSeatDealt, HasStayed, MayJoin, MayRead, MaySend, BeginsPhase, HasReadPhase, HasSent}
use Rattle.sg_crew.specs.declared.worker.Worker.{Worker}
use Rattle.sg_crew.proofs.ListLemmas.{part-stays, length-map}
use Rattle.sg_crew.proofs.ActorLemmas.{KindTook, kind-took, worked-by, spent-is, took-at, sources-again, dests-again}
use Rattle.sg_turns.proofs.BoundLemmas.{busy-most}

-- seats of this first one, or of one that only gave turns away since
module _ {A D : Type 0} (f0 first : SeatState) (same : fresh_desk first 1024 ≡ fresh_desk f0 1024) (ws xs : List (Worker A D)) (dealt : AllChanged (IsSeatDealt first) ws xs) where
  dealt-at : (j : ℕ) (x : Worker A D) → slice_get xs j ≡ Some x → (w : Worker A D) × IsSeatDealt first w x
  dealt-at j x e =
      let below = slice_get-below xs j x e in
      let all = dealt.all in
      let w = slice_get-some ws j (omega (arith, below, all)) in
      (w.0, dealt.each j w.0 x w.1 e)

  pub dealt-seat : (j : ℕ) (x : Worker A D) → slice_get xs j ≡ Some x → x.seat ≡ fresh_desk f0 1024
  dealt-seat j x e = (dealt-at j x e).1.1 ∙ same

  pub dealt-begins : (j : ℕ) (x : Worker A D) → slice_get xs j ≡ Some x → BeginsPhase x
  dealt-begins j x e =
      let d = (dealt-at j x e).1 in
      let left = ap (λ (s : SeatState). s.left) (dealt-seat j x e) in
      (d.2, d.3, omega (arith, left))

  pub dealt-actors : actors_of xs ≡ actors_of ws
  dealt-actors = part-stays (IsSeatDealt first) actor_of (λ x y h. h.0) ws xs dealt

  pub dealt-actor : (j : ℕ) (x : Worker A D) → slice_get xs j ≡ Some x → slice_get (actors_of ws) j ≡ Some x.actor
  dealt-actor j x e = ap (λ as'. slice_get as' j) (sym dealt-actors) ∙ slice_get-map actor_of xs j x e

  dealt-left : (j : ℕ) (x : Worker A D) → slice_get xs j ≡ Some x → 4 ≤ x.seat.left
  dealt-left j x e = let left = ap (λ (s : SeatState). s.left) (dealt-seat j x e) in omega (arith, left)

  dealt-hub : (hub : HubState) → IsDeskOf hub f0 → (j : ℕ) (x : Worker A D) → slice_get xs j ≡ Some x → IsDeskOf hub x.seat
  dealt-hub hub of_hub j x e = subst (IsDeskOf hub) (sym (dealt-seat j x e)) (of_hub.0, of_hub.1)

module _ {R I D : Type 0} (state : I → InletState) (offers : R → ℕ → Record → List Offer → Type 0) (inlets dests : R → ℕ) (hub : HubState)
    (f0 first : SeatState) (same : fresh_desk first 1024 ≡ fresh_desk f0 1024) (ws xs : List (Worker (SourceActor R I) D)) (dealt : AllChanged (IsSeatDealt first) ws xs)
    (sources : AreSources state inlets dests (setup_of hub.made) (actors_of ws)) where
  pub may-read : IsDeskOf hub f0 → (j : ℕ) (x : Worker (SourceActor R I) D) → slice_get xs j ≡ Some x → MayRead state inlets dests hub x × BeginsPhase x
  may-read of_hub j x e =
      let s = sources.each j x.actor (dealt-actor f0 first same ws xs dealt j x e) in
      let b = dealt-begins f0 first same ws xs dealt j x e in
      let turns = b.0 in
      let busy = b.1 in (
        record {
          of_hub = dealt-hub f0 first same ws xs dealt hub of_hub j x e;
          left = dealt-left f0 first same ws xs dealt j x e;
          fits = s.fits;
          ready = s.ready;
          few = omega (arith, turns);
          busy = omega (arith, turns, busy);
        },
        b,
      )

  pub sources-took : (ys : List (Worker (SourceActor R I) D)) → AllChanged (HasReadPhase state offers inlets dests hub) xs ys
      → (turns : ℕ → List Turn) × KindTook (SourceTakes state offers inlets dests) OfSource hub xs ys turns
  sources-took ys worked = kind-took (SourceTakes state offers inlets dests) OfSource (λ (a : SourceActor R I). a.spec.inlet) hub xs ys worked.all
      (λ j x e. (sources.each j x.actor (dealt-actor f0 first same ws xs dealt j x e)).number)
      (λ j x y before after. let h = worked.each j x y before after in (h.turns, record { worked = h.worked; counted = h.counted }))

  pub sources-stay : (ys zs : List (Worker (SourceActor R I) D)) (turns : ℕ → List Turn) → KindTook (SourceTakes state offers inlets dests) OfSource hub xs ys turns
      → AllChanged HasStayed ys zs → AreSources state inlets dests (setup_of hub.made) (actors_of zs)
  sources-stay ys zs turns took stay =
      subst (AreSources state inlets dests (setup_of hub.made)) (sym (part-stays HasStayed actor_of (λ x y h. h) ys zs stay))
      (sources-again state offers inlets dests (setup_of hub.made) (actors_of xs) (actors_of ys) turns
      (subst (AreSources state inlets dests (setup_of hub.made)) (sym (dealt-actors f0 first same ws xs dealt)) sources)
      (length-map actor_of ys ∙ (took.all ∙ sym (length-map actor_of xs)))
      (took-at (SourceTakes state offers inlets dests) OfSource hub xs ys turns took))

module _ {O D : Type 0} (state : O → OutletState) (hub : HubState)
    (f0 first : SeatState) (same : fresh_desk first 1024 ≡ fresh_desk f0 1024) (ws xs : List (Worker (DestActor O) D)) (dealt : AllChanged (IsSeatDealt first) ws xs)
    (dests : AreDests state (setup_of hub.made) (actors_of ws)) where
  pub may-send : IsDeskOf hub f0 → (j : ℕ) (x : Worker (DestActor O) D) → slice_get xs j ≡ Some x → MaySend state hub x × BeginsPhase x
  may-send of_hub j x e =
      let there = dealt-actor f0 first same ws xs dealt j x e in
      let s = dests.each j x.actor there in
      let below = slice_get-below (actors_of ws) j x.actor there in
      let all = dests.all in
      let number = s.number in
      let b = dealt-begins f0 first same ws xs dealt j x e in
      let turns = b.0 in
      let busy = b.1 in (
        record {
          of_hub = dealt-hub f0 first same ws xs dealt hub of_hub j x e;
          left = dealt-left f0 first same ws xs dealt j x e;
          dest = omega (arith, below, all, number);
          failures = s.failures;
          few = omega (arith, turns);
          busy = omega (arith, turns, busy);
        },
        b,
      )

  pub dests-took : (ys : List (Worker (DestActor O) D)) → AllChanged (HasSent state hub) xs ys
      → (turns : ℕ → List Turn) × KindTook (DestTakes state) OfDest hub xs ys turns
  dests-took ys worked = kind-took (DestTakes state) OfDest (λ (a : DestActor O). a.spec.dest) hub xs ys worked.all
      (λ j x e. (dests.each j x.actor (dealt-actor f0 first same ws xs dealt j x e)).number)
      (λ j x y before after. let h = worked.each j x y before after in (h.turns, record { worked = h.worked; counted = h.counted }))

  pub dests-stay : (ys zs : List (Worker (DestActor O) D)) (turns : ℕ → List Turn) → KindTook (DestTakes state) OfDest hub xs ys turns
      → AllChanged HasStayed ys zs → AreDests state (setup_of hub.made) (actors_of zs)
  dests-stay ys zs turns took stay =
      subst (AreDests state (setup_of hub.made)) (sym (part-stays HasStayed actor_of (λ x y h. h) ys zs stay))
      (dests-again state (setup_of hub.made) (actors_of xs) (actors_of ys) turns
      (subst (AreDests state (setup_of hub.made)) (sym (dealt-actors f0 first same ws xs dealt)) dests)
      (length-map actor_of ys ∙ (took.all ∙ sym (length-map actor_of xs)))
      (took-at (DestTakes state) OfDest hub xs ys turns took))

-- the seats behind their turns may be joined into the first one
pub may-join : {A D : Type 0} (takes : A → A → Turn → Type 0) (who : ℕ → Caller) (hub : HubState) (f0 : SeatState) (xs ys : List (Worker A D)) (turns : ℕ → List Turn)
    → KindTook takes who hub xs ys turns → ((j : ℕ) (x : Worker A D) → slice_get xs j ≡ Some x → x.seat ≡ fresh_desk f0 1024) → IsDeskOf hub f0
    → Every (MayJoin hub) ys
may-join takes who hub f0 xs ys turns took dealt of_hub j y e =
    let s = spent-is takes who hub xs ys turns took f0 dealt j y e in
    let counted = (worked-by takes who hub xs ys turns took j y e).1.1.counted in
    let all = counted.all in
    let busy = counted.busy in
    let few = counted.few in
    let most = busy-most (turns j) in
    (s.of_hub of_hub, s.joined, omega (arith, all, busy, few, most))

-- a phase of other lists of the same actors
pub phase-as : {A B : Type 0} (takes : A → A → Turn → Type 0) (sends : B → B → Turn → Type 0) (first first' : SeatState) (s1 s2 s0 s3 : List A) (d1 d2 d0 d3 : List B) (number busy : ℕ) (starved : Bool)
    (more : List ToldCall) (turns : Caller → List Turn) → s1 ≡ s0 → s3 ≡ s2 → d1 ≡ d0 → d3 ≡ d2
    → HasPhaseWith takes sends first first' s1 s2 d1 d2 number busy starved more turns → HasPhaseWith takes sends first first' s0 s3 d0 d3 number busy starved more turns
phase-as takes sends first first' s1 s2 s0 s3 d1 d2 d0 d3 number busy starved more turns a b e f h =
    subst (λ x. HasPhaseWith takes sends first first' s0 s3 d0 x number busy starved more turns) (sym f)
    (subst (λ x. HasPhaseWith takes sends first first' s0 s3 x d2 number busy starved more turns) e
    (subst (λ x. HasPhaseWith takes sends first first' s0 x d1 d2 number busy starved more turns) (sym b)
    (subst (λ x. HasPhaseWith takes sends first first' x s2 d1 d2 number busy starved more turns) a h)))
