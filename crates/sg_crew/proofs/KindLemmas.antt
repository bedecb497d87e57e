-- The turns of a source and of a destination in a phase.
use Rattle.std.proofs.Common.{arith, ◌≡◌, ◌<◌, ℕ, List, [], ◌∷◌, ◌++◌, refl, ap, sym, ◌∙◌, subst, Some}
use Rattle.sg_device.specs.Inlet.{InletState}
use Rattle.sg_device.specs.Outlet.{OutletState}
use Rattle.sg_msg.specs.declared.offer.Offer.{Offer}
use Rattle.sg_machine.specs.declared.setup.Setup.{Setup}
use Rattle.sg_frame.specs.Records.{Record}
use Rattle.sg_standing.specs.States.{setup_of}
use Rattle.sg_counter.specs.Exchanges.{OfSource, OfDest}
use Rattle.sg_actor.specs.declared.dest.DestActor.{DestActor}
use Rattle.sg_actor.specs.declared.source.SourceActor.{SourceActor}
use Rattle.sg_actor.specs.declared.rendering.DestSpec.{DestSpec}
use Rattle.sg_actor.specs.declared.settings.SourceSpec.{SourceSpec}
use Rattle.sg_actor.specs.declared.turned.Turned.{Turned}
use Rattle.sg_turns.specs.Turns.{Turn, calls_of}
use Rattle.sg_turns.specs.Actors.{dest_seen, IsSource, IsDest, SourceTakes, DestTakes}
use Rattle.sg_turns.proofs.ActorLemmas.{source-again, dest-failures}
use Rattle.sg_hub.specs.Seats.{HubState}
use Rattle.sg_hub.proofs.Seated.{goes-on}
use Rattle.sg_crew.specs.Crews.{TookEach, WorkedOnce, WorkedWith}
use Rattle.sg_crew.specs.Workers.{MayRead, MaySend, BeginsPhase, ReadsOnce, SendsOnce, HasReadPhase, HasSent}
use Rattle.sg_crew.specs.declared.worker.Worker.{Worker}
use Rattle.sg_crew.proofs.TurnLemmas.{worked-first, worked-more, counted-first, counted-more}
use Rattle.sg_turns.proofs.BoundLemmas.{busy-most}

-- What stays behind turns.

module _ {R I : Type 0} (state : I → InletState) (offers : R → ℕ → Record → List Offer → Type 0) (inlets dests : R → ℕ) where
  pub source-stays : (setup : Setup) (i : ℕ) (a b : SourceActor R I) (turns : List Turn) → IsSource state inlets dests setup i a → TookEach (SourceTakes state offers inlets dests) a b turns
      → IsSource state inlets dests setup i b
  source-stays setup i a b [] h k = subst (IsSource state inlets dests setup i) (sym k) h
  source-stays setup i a b (t ∷ turns) h k = source-stays setup i k.0 b turns (source-again state offers inlets dests setup setup i a k.0 t refl h k.1.0) k.1.1

  source-spec : (a b : SourceActor R I) (turns : List Turn) → TookEach (SourceTakes state offers inlets dests) a b turns → b.spec ≡ a.spec
  source-spec a b [] k = ap (λ (s : SourceActor R I). s.spec) k
  source-spec a b (t ∷ turns) k = source-spec k.0 b turns k.1.1 ∙ k.1.0.spec

  module _ {D : Type 0} (hub : HubState) where
    pub read-first : (w v : Worker (SourceActor R I) D) → BeginsPhase w → ReadsOnce state offers inlets dests hub w v → HasReadPhase state offers inlets dests hub w v
    read-first w v b r = record {
      turns = r.turn ∷ [];
      worked = worked-first (SourceTakes state offers inlets dests) (OfSource w.actor.spec.inlet) hub w.actor v.actor w.seat v.seat v.turn r.turn r.worked;
      counted = counted-first w v r.turn r.counted b.0 b.1;
    }

    pub read-more : (w v u : Worker (SourceActor R I) D) (turned : Turned) → HasReadPhase state offers inlets dests hub w v → v.turn ≡ Some turned → v.turns < 256
        → ReadsOnce state offers inlets dests hub v u → HasReadPhase state offers inlets dests hub w u
    read-more w v u turned h is below r =
        let same : OfSource v.actor.spec.inlet ≡ OfSource w.actor.spec.inlet = ap (λ (s : SourceSpec). OfSource s.inlet) (source-spec w.actor v.actor h.turns h.worked.took) in
        record {
          turns = h.turns ++ r.turn ∷ [];
          worked = worked-more (SourceTakes state offers inlets dests) (OfSource w.actor.spec.inlet) hub w.actor v.actor u.actor w.seat v.seat u.seat turned u.turn h.turns r.turn
              (subst (λ a. WorkedWith (TookEach (SourceTakes state offers inlets dests) w.actor v.actor) (OfSource w.actor.spec.inlet) hub w.seat v.seat a h.turns) is h.worked)
              (subst (λ c. WorkedOnce (SourceTakes state offers inlets dests v.actor u.actor) c hub v.seat u.seat u.turn r.turn) same r.worked);
          counted = counted-more v u h.turns r.turn h.counted r.counted below;
        }

    pub may-read-more : (w v : Worker (SourceActor R I) D) → MayRead state inlets dests hub w → BeginsPhase w → HasReadPhase state offers inlets dests hub w v → v.turns < 256 → MayRead state inlets dests hub v
    may-read-more w v m b h below =
        let s = source-stays (setup_of hub.made) w.actor.spec.inlet w.actor v.actor h.turns (record { number = refl; fits = m.fits; ready = m.ready }) h.worked.took in
        let g = goes-on hub w.seat v.seat (calls_of h.turns) h.worked.makes in
        let left = g.left in
        let few = h.worked.few in
        let all = h.counted.all in
        let busy = h.counted.busy in
        let most = busy-most h.turns in
        let room = b.2 in
        record {
          of_hub = g.of_hub m.of_hub;
          left = omega (arith, left, few, all, below, room);
          fits = s.fits;
          ready = s.ready;
          few = below;
          busy = omega (arith, all, busy, most);
        }

module _ {O : Type 0} (state : O → OutletState) where
  pub dest-stays : (d : ℕ) (a b : DestActor O) (turns : List Turn) → IsDest state d a → TookEach (DestTakes state) a b turns → IsDest state d b
  dest-stays d a b [] h k = subst (IsDest state d) (sym k) h
  dest-stays d a b (t ∷ turns) h k = dest-stays d k.0 b turns
      (record {
        number = ap (λ (s : DestSpec). s.dest) k.1.0.spec ∙ h.number;
        failures = dest-failures a.outage.given_up a.spec (dest_seen state a) (dest_seen state k.0) t h.failures k.1.0.turns;
      }) k.1.1

  dest-spec : (a b : DestActor O) (turns : List Turn) → TookEach (DestTakes state) a b turns → b.spec ≡ a.spec
  dest-spec a b [] k = ap (λ (s : DestActor O). s.spec) k
  dest-spec a b (t ∷ turns) k = dest-spec k.0 b turns k.1.1 ∙ k.1.0.spec

  module _ {D : Type 0} (hub : HubState) where
    pub send-first : (w v : Worker (DestActor O) D) → BeginsPhase w → SendsOnce state hub w v → HasSent state hub w v
    send-first w v b r = record {
      turns = r.turn ∷ [];
      worked = worked-first (DestTakes state) (OfDest w.actor.spec.dest) hub w.actor v.actor w.seat v.seat v.turn r.turn r.worked;
      counted = counted-first w v r.turn r.counted b.0 b.1;
    }

    pub send-more : (w v u : Worker (DestActor O) D) (turned : Turned) → HasSent state hub w v → v.turn ≡ Some turned → v.turns < 256 → SendsOnce state hub v u → HasSent state hub w u
    send-more w v u turned h is below r =
        let same : OfDest v.actor.spec.dest ≡ OfDest w.actor.spec.dest = ap (λ (s : DestSpec). OfDest s.dest) (dest-spec w.actor v.actor h.turns h.worked.took) in
        record {
          turns = h.turns ++ r.turn ∷ [];
          worked = worked-more (DestTakes state) (OfDest w.actor.spec.dest) hub w.actor v.actor u.actor w.seat v.seat u.seat turned u.turn h.turns r.turn
              (subst (λ a. WorkedWith (TookEach (DestTakes state) w.actor v.actor) (OfDest w.actor.spec.dest) hub w.seat v.seat a h.turns) is h.worked)
              (subst (λ c. WorkedOnce (DestTakes state v.actor u.actor) c hub v.seat u.seat u.turn r.turn) same r.worked);
          counted = counted-more v u h.turns r.turn h.counted r.counted below;
        }

    pub may-send-more : (w v : Worker (DestActor O) D) → MaySend state hub w → BeginsPhase w → HasSent state hub w v → v.turns < 256 → MaySend state hub v
    may-send-more w v m b h below =
        let s = dest-stays w.actor.spec.dest w.actor v.actor h.turns (record { number = refl; failures = m.failures }) h.worked.took in
        let g = goes-on hub w.seat v.seat (calls_of h.turns) h.worked.makes in
        let left = g.left in
        let few = h.worked.few in
        let all = h.counted.all in
        let busy = h.counted.busy in
        let most = busy-most h.turns in
        let room = b.2 in
        let dest = m.dest in
        let number = s.number in
        record {
          of_hub = g.of_hub m.of_hub;
          left = omega (arith, left, few, all, below, room);
          dest = omega (arith, dest, number);
          failures = s.failures;
          few = below;
          busy = omega (arith, all, busy, most);
        }
