-- The turns of one actor, one after the other, and what they leave.
use Rattle.std.proofs.Common.{arith, ◌≡◌, ◌<◌, ◌+◌, ℕ, List, [], ◌∷◌, ◌++◌, length, refl, ap, sym, ◌∙◌, subst, Option, Some, None, slice_get}
use Rattle.std.proofs.lemmas.Option.{slice_get-get_or}
use Rattle.std.specs.Prelude.{Result, slice_set, get_or}
use Rattle.sg_device.specs.Inlet.{InletState}
use Rattle.sg_device.specs.Outlet.{OutletState}
use Rattle.sg_msg.specs.declared.offer.Offer.{Offer}
use Rattle.sg_machine.specs.declared.setup.Setup.{Setup}
use Rattle.sg_frame.specs.Records.{Record}
use Rattle.sg_list.proofs.ListLemmas.{change-set, slice_get-some, slice_get-below}
use Rattle.sg_route.specs.Offers.{SameOffers, SameRouter}
use Rattle.sg_route.proofs.Routers.{router-same, router-then}
use Rattle.sg_counter.specs.Exchanges.{Exchange, OfSource, OfDest}
use Rattle.sg_counter.specs.declared.calls.CoreCall.{CoreCall}
use Rattle.sg_counter.specs.declared.calls.CoreReply.{CoreReply}
use Rattle.sg_actor.specs.Bringing.{AllBy, admitted_in}
use Rattle.sg_actor.specs.Sources.{IsReady}
use Rattle.sg_actor.specs.Outages.{HasFailures}
use Rattle.sg_actor.specs.SourceTurns.{ActorState, FitsSource, TurnsWith, TakesTurn}
use Rattle.sg_actor.specs.DestTurns.{SendsTurn}
use Rattle.sg_actor.specs.declared.dest.DestActor.{DestActor}
use Rattle.sg_actor.specs.declared.source.SourceActor.{SourceActor}
use Rattle.sg_actor.specs.declared.rendering.DestSpec.{DestSpec}
use Rattle.sg_actor.specs.declared.settings.SourceSpec.{SourceSpec}
use Rattle.sg_actor.specs.declared.turned.GivenUp.{GivenUp}
use Rattle.sg_actor.specs.declared.turned.Turned.{Turned}
use Rattle.sg_actor.proofs.KeepLemmas.{read-as, are-as}
use Rattle.sg_turns.specs.Turns.{Turn, answer_of, result_of, any_step, SourceTurns, TookTurns, DestState, SendsBy, DestTurns, SentTurns}
use Rattle.sg_turns.specs.Actors.{source_seen, dest_seen, IsSource, AreSources, IsDest, AreDests, SourceTakes, SourceTook, DestTakes, DestTook}
use Rattle.sg_turns.specs.Rounds.{noted, TookFirst, TookSome}
use Rattle.sg_turns.specs.declared.round.Round.{Round}
use Rattle.sg_turns.proofs.PartLemmas.{put, took-more}
use Rattle.sg_turns.proofs.RoundLemmas.{source-same, dest-same}
use Rattle.sg_turns.proofs.TurnLemmas.{source-turn, dest-turn}

-- Turns with a router that says the same.

turns-as : (old new : ℕ → Record → List Offer → Type 0) (dests : ℕ) (spec : SourceSpec) (x y : ActorState) (result : Result Turned (Unit {0})) (made : List Exchange) (ups credit : ℕ)
    → SameOffers old new → TurnsWith new dests spec any_step (tt {0}) (tt {0}) x y result made ups credit → TurnsWith old dests spec any_step (tt {0}) (tt {0}) x y result made ups credit
turns-as old new dests spec x y result made ups credit same h = record {
  makes = h.makes;
  own = h.own;
  few = h.few;
  asks = h.asks;
  ready = h.ready;
  advances = h.advances;
  failing = h.failing;
  ended = h.ended;
  pulls = h.pulls;
  admits = (λ done before read.
      let r = h.admits done before (read-as old new spec same.forth x.source done before read) in
      (r.0, (are-as new old spec same.back r.0 (admitted_in made) r.1.0, read-as new old spec same.back y.source (done ++ r.0) (before + ups) r.1.1)));
  fetched = h.fetched;
  brings = h.brings;
  within = h.within;
  empties = h.empties;
  end = h.end;
  one = h.one;
  parts = h.parts;
  bad = h.bad;
  position = h.position;
  tells = h.tells;
}

source-as : (old new : ℕ → Record → List Offer → Type 0) (dests : ℕ) (spec : SourceSpec) (x y : ActorState) (turn : Turn)
    → SameOffers old new → SourceTurns new dests spec x y turn → SourceTurns old dests spec x y turn
source-as old new dests spec x y turn same h = record {
  ups = h.ups;
  credit = h.credit;
  takes = turns-as old new dests spec x y (result_of turn.answer) turn.made h.ups h.credit same h.takes;
}

-- One turn more.

took-push : (offers : ℕ → Record → List Offer → Type 0) (dests : ℕ) (spec : SourceSpec) (x y z : ActorState) (turns : List Turn) (turn : Turn)
    → TookTurns offers dests spec x y turns → SourceTurns offers dests spec y z turn → TookTurns offers dests spec x z (turns ++ turn ∷ [])
took-push offers dests spec x y z [] turn h k = (z, (subst (λ a. SourceTurns offers dests spec a z turn) h k, refl))
took-push offers dests spec x y z (t ∷ turns) turn h k = (h.0, (h.1.0, took-push offers dests spec h.0 y z turns turn h.1.1 k))

sent-push : (spec : DestSpec) (x y z : DestState) (turns : List Turn) (turn : Turn)
    → SentTurns spec x y turns → DestTurns spec y z turn → SentTurns spec x z (turns ++ turn ∷ [])
sent-push spec x y z [] turn h k = (z, (subst (λ a. DestTurns spec a z turn) h k, refl))
sent-push spec x y z (t ∷ turns) turn h k = (h.0, (h.1.0, sent-push spec h.0 y z turns turn h.1.1 k))

pub source-none : {R I : Type 0} (state : I → InletState) (offers : R → ℕ → Record → List Offer → Type 0) (inlets dests : R → ℕ) (a : SourceActor R I)
    → SourceTook state offers inlets dests a a []
source-none state offers inlets dests a = record { took = refl; router = router-same (offers a.router) (inlets a.router) (dests a.router); spec = refl }

pub source-more : {R I : Type 0} (state : I → InletState) (offers : R → ℕ → Record → List Offer → Type 0) (inlets dests : R → ℕ) (a b c : SourceActor R I)
    (turns : List Turn) (turn : Turn) → SourceTook state offers inlets dests a b turns → SourceTakes state offers inlets dests b c turn
    → SourceTook state offers inlets dests a c (turns ++ turn ∷ [])
source-more state offers inlets dests a b c turns turn h k =
    let taken : SourceTurns (offers b.router) (dests a.router) a.spec (source_seen state b) (source_seen state c) turn =
    subst (λ d. SourceTurns (offers b.router) d a.spec (source_seen state b) (source_seen state c) turn) h.router.dests_same
    (subst (λ s. SourceTurns (offers b.router) (dests b.router) s (source_seen state b) (source_seen state c) turn) h.spec k.turns) in
    record {
      took = took-push (offers a.router) (dests a.router) a.spec (source_seen state a) (source_seen state b) (source_seen state c) turns turn h.took
          (source-as (offers a.router) (offers b.router) (dests a.router) a.spec (source_seen state b) (source_seen state c) turn h.router.same taken);
      router = router-then (offers a.router) (offers b.router) (offers c.router) (inlets a.router) (inlets b.router) (inlets c.router) (dests a.router) (dests b.router) (dests c.router) h.router k.router;
      spec = k.spec ∙ h.spec;
    }

pub dest-none : {O : Type 0} (state : O → OutletState) (a : DestActor O) → DestTook state a a []
dest-none state a = record { took = refl; spec = refl }

pub dest-more : {O : Type 0} (state : O → OutletState) (a b c : DestActor O) (turns : List Turn) (turn : Turn)
    → DestTook state a b turns → DestTakes state b c turn → DestTook state a c (turns ++ turn ∷ [])
dest-more state a b c turns turn h k = record {
  took = sent-push a.spec (dest_seen state a) (dest_seen state b) (dest_seen state c) turns turn h.took
      (subst (λ s. DestTurns s (dest_seen state b) (dest_seen state c) turn) h.spec k.turns);
  spec = k.spec ∙ h.spec;
}

-- The actors are ready again.

fits-as : (setup setup' : Setup) (spec spec' : SourceSpec) (i i' d d' : ℕ) → setup' ≡ setup → spec' ≡ spec → i' ≡ i → d' ≡ d → FitsSource setup spec i d → FitsSource setup' spec' i' d'
fits-as setup setup' spec spec' i i' d d' a b c e h =
    subst (λ x. FitsSource setup' spec' i' x) (sym e) (subst (λ x. FitsSource setup' spec' x d) (sym c)
    (subst (λ x. FitsSource setup' x i d) (sym b) (subst (λ x. FitsSource x spec i d) (sym a) h)))

pub source-again : {R I : Type 0} (state : I → InletState) (offers : R → ℕ → Record → List Offer → Type 0) (inlets dests : R → ℕ) (setup setup' : Setup) (i : ℕ) (a b : SourceActor R I) (turn : Turn)
    → setup' ≡ setup → IsSource state inlets dests setup i a → SourceTakes state offers inlets dests a b turn → IsSource state inlets dests setup' i b
source-again state offers inlets dests setup setup' i a b turn is h k = record {
  number = ap (λ (s : SourceSpec). s.inlet) k.spec ∙ h.number;
  fits = fits-as setup setup' a.spec b.spec (inlets a.router) (inlets b.router) (dests a.router) (dests b.router) is k.spec k.router.inlets_same k.router.dests_same h.fits;
  ready = subst (λ d. IsReady d b.spec (source_seen state b).source) (sym k.router.dests_same)
      (subst (λ s. IsReady (dests a.router) s (source_seen state b).source) (sym k.spec) k.turns.takes.ready);
}

pub sources-again : {R I S : Type 0} (state : I → InletState) (offers : R → ℕ → Record → List Offer → Type 0) (inlets dests : R → ℕ) (setup setup' : Setup)
    (step : S → CoreCall → CoreReply → S → Type 0) (counter counter' : S) (old new : List (SourceActor R I)) (round : Round) (made : List Exchange) (turn : ℕ → Turn)
    → setup' ≡ setup → AreSources state inlets dests setup old
    → TookFirst (SourceTakes state offers inlets dests) OfSource step counter counter' old new (length old) round made turn
    → AreSources state inlets dests setup' new
sources-again state offers inlets dests setup setup' step counter counter' old new round made turn is h k = record {
  all = k.all ∙ (h.all ∙ ap (λ (s : Setup). length s.sources) (sym is));
  each = (λ i b after.
      let below : i < length old = omega (arith, slice_get-below new i b after, k.all) in
      let a = slice_get-some old i below in
      source-again state offers inlets dests setup setup' i a.0 b (turn i) is (h.each i a.0 a.1) (k.each i a.0 b below a.1 after));
}

pub dest-failures : (cause : Option GivenUp) (spec : DestSpec) (x y : DestState) (turn : Turn) → HasFailures x.outage x.drain
    → SendsBy cause spec x y turn → HasFailures y.outage y.drain
dest-failures None spec x y turn h (taken, (refused, k)) = k.failures
dest-failures (Some cause) spec x y turn h k = subst (λ o. HasFailures o y.drain) (sym k.1.outage_stays) (subst (λ d. HasFailures x.outage d) (sym k.1.drain_stays) h)

pub dests-again : {O S : Type 0} (state : O → OutletState) (setup setup' : Setup)
    (step : S → CoreCall → CoreReply → S → Type 0) (counter counter' : S) (old new : List (DestActor O)) (round : Round) (made : List Exchange) (turn : ℕ → Turn)
    → setup' ≡ setup → AreDests state setup old
    → TookFirst (DestTakes state) OfDest step counter counter' old new (length old) round made turn
    → AreDests state setup' new
dests-again state setup setup' step counter counter' old new round made turn is h k = record {
  all = k.all ∙ (h.all ∙ ap (λ (s : Setup). length s.dests) (sym is));
  each = (λ d b after.
      let below : d < length old = omega (arith, slice_get-below new d b after, k.all) in
      let a = slice_get-some old d below in
      let was = h.each d a.0 a.1 in
      let took = k.each d a.0 b below a.1 after in
      record {
        number = ap (λ (s : DestSpec). s.dest) took.spec ∙ was.number;
        failures = dest-failures a.0.outage.given_up a.0.spec (dest_seen state a.0) (dest_seen state b) (turn d) was.failures took.turns;
      });
}

-- One actor's turn among the others'.

item-there : {A : Type 0} (xs : List A) (i : ℕ) (x : A) → i < length xs → x ≡ get_or xs i x → slice_get xs i ≡ Some x
item-there xs i x below is = slice_get-get_or xs i x below ∙ ap Some (sym is)

pub source-there : {R I S : Type 0} (state : I → InletState) (offers : R → ℕ → Record → List Offer → Type 0) (inlets dests : R → ℕ) (setup setup' : Setup)
    (step : S → CoreCall → CoreReply → S → Type 0) (counter between : S) (old mid : List (SourceActor R I)) (i : ℕ) (round : Round) (x : SourceActor R I)
    → setup' ≡ setup → AreSources state inlets dests setup old → i < length mid → x ≡ get_or mid i x
    → TookSome (SourceTakes state offers inlets dests) OfSource step counter between old mid i round
    → IsSource state inlets dests setup' i x
source-there state offers inlets dests setup setup' step counter between old mid i round x same h below is (made, (turn, k)) =
    let was = h.each i x (sym (k.rest i (omega arith)) ∙ item-there mid i x below is) in
    subst (λ s. IsSource state inlets dests s i x) (sym same) was

pub source-step : {R I S E : Type 0} (state : I → InletState) (offers : R → ℕ → Record → List Offer → Type 0) (inlets dests : R → ℕ)
    (step : S → CoreCall → CoreReply → S → Type 0) (counter between counter' : S) (old mid : List (SourceActor R I)) (i : ℕ) (round round' : Round) (x y : SourceActor R I) (result : Result Turned E)
    → x.spec.inlet ≡ i → i < length mid → x ≡ get_or mid i x
    → TakesTurn (offers x.router) (dests x.router) x.spec step between counter' (source_seen state x) (source_seen state y) result
    → SameRouter (offers x.router) (offers y.router) (inlets x.router) (inlets y.router) (dests x.router) (dests y.router) → y.spec ≡ x.spec
    → round' ≡ noted round (answer_of result)
    → TookSome (SourceTakes state offers inlets dests) OfSource step counter between old mid i round
    → TookSome (SourceTakes state offers inlets dests) OfSource step counter counter' old (slice_set mid i y) (i + 1) round'
source-step state offers inlets dests step counter between counter' old mid i round round' x y result number below is takes router spec noted-is (made, (turn, k)) =
    let there = item-there mid i x below is in
    let t = source-turn (offers x.router) (dests x.router) x.spec step between counter' (source_seen state x) (source_seen state y) result takes in
    let took : SourceTakes state offers inlets dests x y t.turn = record { turns = t.takes_it; router = router; spec = spec } in
    let own : AllBy (OfSource i) t.turn.made = subst (λ n. AllBy (OfSource n) t.turn.made) number t.own in
    subst (λ r. TookSome (SourceTakes state offers inlets dests) OfSource step counter counter' old (slice_set mid i y) (i + 1) r) (sym noted-is) (
      made ++ t.turn.made,
      (
        put turn i t.turn,
        took-more (SourceTakes state offers inlets dests) OfSource step counter between counter' old mid (slice_set mid i y) i round made turn x y t.turn (answer_of result)
            source-same k there (sym (change-set mid i (λ z. y) x there)) took t.makes own t.answer,
      ),
    )

pub dest-there : {O S : Type 0} (state : O → OutletState) (setup : Setup)
    (step : S → CoreCall → CoreReply → S → Type 0) (counter between : S) (old mid : List (DestActor O)) (d : ℕ) (round : Round) (x : DestActor O)
    → AreDests state setup old → d < length mid → x ≡ get_or mid d x
    → TookSome (DestTakes state) OfDest step counter between old mid d round
    → IsDest state d x
dest-there state setup step counter between old mid d round x h below is (made, (turn, k)) =
    h.each d x (sym (k.rest d (omega arith)) ∙ item-there mid d x below is)

pub dest-step : {O S E : Type 0} (state : O → OutletState)
    (step : S → CoreCall → CoreReply → S → Type 0) (counter between counter' : S) (old mid : List (DestActor O)) (d : ℕ) (round round' : Round) (x y : DestActor O) (result : Result Turned E)
    → x.spec.dest ≡ d → d < length mid → x ≡ get_or mid d x
    → SendsTurn x.spec step between counter' x.outage y.outage (state x.outlet) (state y.outlet) result → y.spec ≡ x.spec
    → round' ≡ noted round (answer_of result)
    → TookSome (DestTakes state) OfDest step counter between old mid d round
    → TookSome (DestTakes state) OfDest step counter counter' old (slice_set mid d y) (d + 1) round'
dest-step state step counter between counter' old mid d round round' x y result number below is sends spec noted-is (made, (turn, k)) =
    let there = item-there mid d x below is in
    let t = dest-turn x.spec step between counter' x.outage y.outage (state x.outlet) (state y.outlet) result sends in
    let took : DestTakes state x y t.turn = record { turns = t.takes_it; spec = spec } in
    let own : AllBy (OfDest d) t.turn.made = subst (λ n. AllBy (OfDest n) t.turn.made) number t.own in
    subst (λ r. TookSome (DestTakes state) OfDest step counter counter' old (slice_set mid d y) (d + 1) r) (sym noted-is) (
      made ++ t.turn.made,
      (
        put turn d t.turn,
        took-more (DestTakes state) OfDest step counter between counter' old mid (slice_set mid d y) d round made turn x y t.turn (answer_of result)
            dest-same k there (sym (change-set mid d (λ z. y) x there)) took t.makes own t.answer,
      ),
    )
