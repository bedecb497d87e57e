-- What a destination's turn does once its outlet is open.
use Rattle.std.proofs.Common.{arith, ◌≡◌, ◌≤◌, ◌<◌, ℕ, Bool, true, false, List, [], ◌∷◌, ◌++◌, length, take, refl, ap, sym, ◌∙◌, subst, Option, Some, None, inl, inr}
use Rattle.std.proofs.lemmas.List.{append-nil}
use Rattle.std.proofs.lemmas.Bool.Decides.{nat_tests}
use Rattle.std.specs.Prelude.{Ok, Err, IsErr, Result, is_ok, is_some, ◌==◌, ◌&&◌, not}
use Rattle.std.specs.Option.{option_map}
use Rattle.std.specs.declared.alloc.AllocError.{AllocError}
use Rattle.sg_device.specs.Outlet.{OutletState}
use Rattle.sg_msg.specs.Message.{Content}
use Rattle.sg_counter.specs.Exchanges.{Exchange}
use Rattle.sg_counter.specs.declared.calls.CoreCall.{CoreCall}
use Rattle.sg_counter.specs.declared.calls.CoreCall.TheVariants.{Front}
use Rattle.sg_counter.specs.declared.calls.CoreReply.{CoreReply}
use Rattle.sg_counter.specs.declared.calls.CoreReply.TheVariants.{Front as FrontReply}
use Rattle.sg_counter.specs.declared.answers.CoreFront.TheVariants.{Entries, Empty, Broken as FrontBroken}
use Rattle.sg_actor.specs.Bringing.{exchange}
use Rattle.sg_actor.specs.Rendering.{frames_by, most_entries, sent_of}
use Rattle.sg_actor.specs.Outages.{HasFailures, TakesFrames, is_idle, broken, broken_cause}
use Rattle.sg_actor.specs.DestTurns.{shown_in, shown_by, has_shown, has_broken, SettlesFirst, FollowsFront, HasGivenUpCause, HasDelivered}
use Rattle.sg_actor.specs.Delivering.{ShowsBy, FrontTurnGives}
use Rattle.sg_actor.specs.declared.outage.Outage.{Outage}
use Rattle.sg_actor.specs.declared.rendering.DestSpec.{DestSpec}
use Rattle.sg_actor.specs.declared.turned.GivenUp.{GivenUp}
use Rattle.sg_actor.specs.declared.turned.Turned.{Turned}
use Rattle.sg_actor.proofs.PullLemmas.{lt-yes}
use Rattle.sg_actor.proofs.FrameLemmas.{sent-first}
use Rattle.sg_actor.proofs.SendLemmas.{kept-cause, told-none, not-ok}

-- no entry was shown
abbrev pub nothing : Turned
nothing = record { did = false; idle = false }

front-only : {S : Type 0} (spec : DestSpec) (step : S → CoreCall → CoreReply → S → Type 0) (most : ℕ) (few : most ≤ most_entries) (counter counter' : S) (reply : CoreReply) (new : Outage) (drain : OutletState) (result : Result Turned AllocError)
    → step counter (Front spec.dest most) reply counter' → shown_by reply ≡ [] → FollowsFront spec.dest 0 drain.count (is_ok result) reply [] → HasFailures new drain → new.reopens ≡ false
    → HasGivenUpCause spec.gives_up false drain (exchange (Front spec.dest most) reply ∷ []) new.given_up → ShowsBy (exchange (Front spec.dest most) reply ∷ []) false new result
    → FrontTurnGives {E = AllocError} spec step counter counter' new drain drain result
front-only spec step most few counter counter' reply new drain result made unshown follows failures open' cause shows = record {
  made = exchange (Front spec.dest most) reply ∷ [];
  taken = 0;
  refused = false;
  later = false;
  makes = (counter', made, refl);
  own = (refl, tt);
  few = omega arith;
  delivers = ((most, refl, few), follows);
  takes = record { told = told-none drain.taken; rose = omega arith; faults = omega arith };
  within = omega arith;
  whole = (λ w r l. ap (λ ms. length (sent_of spec ms)) (sym (append-nil (shown_by reply) ∙ unshown)));
  waits = refl;
  early = (λ e. absurd (let differ : false ≡ true = e in cc));
  rose = (λ e. absurd (let differ : false ≡ true = e in cc));
  failures = failures;
  reopens = open';
  cause = cause;
  shows = shows;
}

pub front-starved : {S : Type 0} (spec : DestSpec) (step : S → CoreCall → CoreReply → S → Type 0) (most : ℕ) (few : most ≤ most_entries) (counter counter' : S) (e : AllocError) (old : Outage) (drain : OutletState) (result : Result Turned AllocError) → IsErr result
    → step counter (Front spec.dest most) (FrontReply (Err e)) counter' → HasFailures old drain → old.reopens ≡ false → old.given_up ≡ None
    → FrontTurnGives {E = AllocError} spec step counter counter' old drain drain result
front-starved spec step most few counter counter' e old drain (Ok b) is made failures open' none = absurd (let differ : false ≡ true = is in cc)
front-starved spec step most few counter counter' e old drain (Err e') is made failures open' none =
    front-only spec step most few counter counter' (FrontReply (Err e)) old drain (Err e') made refl (refl, refl) failures open' (kept-cause spec.gives_up drain old.given_up none) tt

pub front-empty : {S : Type 0} (spec : DestSpec) (step : S → CoreCall → CoreReply → S → Type 0) (most : ℕ) (few : most ≤ most_entries) (counter counter' : S) (old : Outage) (drain : OutletState)
    → step counter (Front spec.dest most) (FrontReply (Ok Empty)) counter' → HasFailures old drain → old.reopens ≡ false → old.given_up ≡ None
    → FrontTurnGives {E = AllocError} spec step counter counter' old drain drain (Ok nothing)
front-empty spec step most few counter counter' old drain made failures open' none =
    front-only spec step most few counter counter' (FrontReply (Ok Empty)) old drain (Ok nothing) made refl (refl, refl) failures open' (kept-cause spec.gives_up drain old.given_up none) (refl, refl, (λ e. inr tt))

pub front-blank : {S : Type 0} (spec : DestSpec) (step : S → CoreCall → CoreReply → S → Type 0) (most : ℕ) (few : most ≤ most_entries) (counter counter' : S) (place : ℕ) (messages : List Content) (old : Outage) (drain : OutletState) → messages ≡ []
    → step counter (Front spec.dest most) (FrontReply (Ok (Entries place messages))) counter' → HasFailures old drain → old.reopens ≡ false → old.given_up ≡ None
    → FrontTurnGives {E = AllocError} spec step counter counter' old drain drain (Ok nothing)
front-blank spec step most few counter counter' place messages old drain blank made failures open' none =
    front-only spec step most few counter counter' (FrontReply (Ok (Entries place []))) old drain (Ok nothing)
    (subst (λ ms. step counter (Front spec.dest most) (FrontReply (Ok (Entries place ms))) counter') blank made) refl (refl, refl) failures open' (kept-cause spec.gives_up drain old.given_up none) (refl, refl, (λ e. inr refl))

-- what a turn gave that took nothing is so behind a flush, which leaves the outlet's state
pub front-flushed : {S : Type 0} (spec : DestSpec) (step : S → CoreCall → CoreReply → S → Type 0) (counter counter' : S) (new : Outage) (drain drain' : OutletState) (turned : Turned)
    → FrontTurnGives {E = AllocError} spec step counter counter' new drain drain (Ok nothing) → drain' ≡ drain → turned ≡ nothing
    → FrontTurnGives {E = AllocError} spec step counter counter' new drain drain' (Ok turned)
front-flushed spec step counter counter' new drain drain' turned gives same is =
    subst (λ (t : Turned). FrontTurnGives {E = AllocError} spec step counter counter' new drain drain' (Ok t)) (sym is)
    (subst (λ (d : OutletState). FrontTurnGives {E = AllocError} spec step counter counter' new drain d (Ok nothing)) (sym same) gives)

broken-is : (gives_up : Bool) (drain : OutletState) (cause : Option GivenUp) (made : List Exchange) → cause ≡ None → has_broken made ≡ true → HasGivenUpCause gives_up false drain made (broken_cause cause)
broken-is gives_up drain None made none is = is
broken-is gives_up drain (Some c) made none is = absurd (let differ : Some c ≡ None = none in cc)

some-cause : (cause : Option GivenUp) → is_some (broken_cause cause) ≡ true
some-cause None = refl
some-cause (Some c) = refl

pub front-broken : {S : Type 0} (spec : DestSpec) (step : S → CoreCall → CoreReply → S → Type 0) (most : ℕ) (few : most ≤ most_entries) (counter counter' : S) (old new : Outage) (drain : OutletState)
    → step counter (Front spec.dest most) (FrontReply (Ok FrontBroken)) counter' → HasFailures old drain → old.reopens ≡ false → old.given_up ≡ None → new ≡ broken old
    → FrontTurnGives {E = AllocError} spec step counter counter' new drain drain (Ok nothing)
front-broken spec step most few counter counter' old new drain made failures open' none is =
    front-only spec step most few counter counter' (FrontReply (Ok FrontBroken)) new drain (Ok nothing) made refl (refl, refl) (ap (λ o. o.failures) is ∙ failures) (ap (λ o. o.reopens) is ∙ open')
    (subst (λ c. HasGivenUpCause spec.gives_up false drain (exchange (Front spec.dest most) (FrontReply (Ok FrontBroken)) ∷ []) c) (sym (ap (λ o. o.given_up) is))
    (broken-is spec.gives_up drain old.given_up (exchange (Front spec.dest most) (FrontReply (Ok FrontBroken)) ∷ []) none refl))
    (refl, refl, (λ e. inl (ap (λ o. is_some o.given_up) is ∙ some-cause old.given_up)))

-- entries were shown
follows-some : (d taken count : ℕ) (well : Bool) (place : ℕ) (messages : List Content) (made : List Exchange) → 0 < length messages → SettlesFirst d place taken count well made → FollowsFront d taken count well (FrontReply (Ok (Entries place messages))) made
follows-some d taken count well place [] made some h = absurd (omega arith)
follows-some d taken count well place (m ∷ ms) made some h = h

takes-as : (k : ℕ) (frames frames' : List (List ℕ)) (old new : OutletState) → take k frames ≡ take k frames' → TakesFrames k frames old new → TakesFrames k frames' old new
takes-as k frames frames' old new same h = record {
  told = h.told ∙ ap (λ fs. option_map (λ before. before ++ fs) old.taken) same;
  rose = h.rose;
  faults = h.faults;
}

shows-some : (made : List Exchange) (idle idle' : Bool) (new : Outage) → 0 < length (shown_in made) → idle ≡ idle' → ShowsBy {E = AllocError} made idle' new (Ok (record { did = not idle; idle = idle }))
shows-some made idle idle' new some is =
    let shown : has_shown made ≡ true = lt-yes 0 (length (shown_in made)) some in
    (is, ap not is ∙ ap (λ b. b && not idle') (sym shown), (λ e. absurd (let differ : true ≡ false = sym shown ∙ e in cc)))

shows-err : (made : List Exchange) (idle : Bool) (new : Outage) (result : Result Turned AllocError) → IsErr result → ShowsBy made idle new result
shows-err made idle new (Ok b) is = absurd (let differ : false ≡ true = is in cc)
shows-err made idle new (Err e) is = tt

front-shown : {S : Type 0} (spec : DestSpec) (step : S → CoreCall → CoreReply → S → Type 0) (most : ℕ) (few : most ≤ most_entries) (counter mid counter' : S) (place : ℕ) (messages : List Content) (new : Outage) (drain drain' : OutletState) (result : Result Turned AllocError) (idle : Bool)
    → 0 < length messages → step counter (Front spec.dest most) (FrontReply (Ok (Entries place messages))) mid → (h : HasDelivered spec step mid counter' place messages new drain drain' (is_ok result) idle)
    → ((made : List Exchange) → 0 < length (shown_in made) → ShowsBy made (is_idle h.later h.taken) new result)
    → FrontTurnGives {E = AllocError} spec step counter counter' new drain drain' result
front-shown spec step most few counter mid counter' place messages new drain drain' result idle some made h shows =
    let all : List Exchange = exchange (Front spec.dest most) (FrontReply (Ok (Entries place messages))) ∷ h.made in
    let shown : shown_in all ≡ messages = ap (λ ms. messages ++ ms) h.unshown ∙ append-nil messages in
    let more : 0 < length (shown_in all) = (let n : length (shown_in all) ≡ length messages = ap length shown in omega arith) in
    record {
      made = all;
      taken = h.taken;
      refused = h.refused;
      later = h.later;
      makes = (mid, made, h.makes);
      own = (refl, h.own);
      few = omega (arith, h.few);
      delivers = ((most, refl, few), follows-some spec.dest h.taken drain'.count (is_ok result) place messages h.made some h.settles);
      takes = subst (λ ms. TakesFrames h.taken (frames_by spec ms) drain drain') (sym shown) (takes-as h.taken (sent_of spec messages) (frames_by spec messages) drain drain' (sent-first spec h.taken messages h.within) h.takes);
      within = subst (λ ms. h.taken ≤ length (sent_of spec ms)) (sym shown) h.within;
      whole = (λ w r l. h.whole w r l ∙ ap (λ ms. length (sent_of spec ms)) (sym shown));
      waits = h.waits;
      early = (λ l. lt-yes 0 (length (shown_in all)) more);
      rose = h.rose;
      failures = h.failures;
      reopens = h.reopens;
      cause = h.cause;
      shows = shows all more;
    }

pub front-well : {S : Type 0} (spec : DestSpec) (step : S → CoreCall → CoreReply → S → Type 0) (most : ℕ) (few : most ≤ most_entries) (counter mid counter' : S) (place : ℕ) (messages : List Content) (new : Outage) (drain drain' : OutletState) (idle : Bool)
    → 0 < length messages → step counter (Front spec.dest most) (FrontReply (Ok (Entries place messages))) mid → HasDelivered spec step mid counter' place messages new drain drain' true idle
    → FrontTurnGives {E = AllocError} spec step counter counter' new drain drain' (Ok (record { did = not idle; idle = idle }))
front-well spec step most few counter mid counter' place messages new drain drain' idle some made h =
    front-shown spec step most few counter mid counter' place messages new drain drain' (Ok (record { did = not idle; idle = idle })) idle some made h (λ made' n. shows-some made' idle (is_idle h.later h.taken) new n (h.idles refl))

pub front-failed : {S : Type 0} (spec : DestSpec) (step : S → CoreCall → CoreReply → S → Type 0) (most : ℕ) (few : most ≤ most_entries) (counter mid counter' : S) (place : ℕ) (messages : List Content) (new : Outage) (drain drain' : OutletState) (result : Result Turned AllocError) (idle : Bool) → IsErr result
    → 0 < length messages → step counter (Front spec.dest most) (FrontReply (Ok (Entries place messages))) mid → HasDelivered spec step mid counter' place messages new drain drain' false idle
    → FrontTurnGives {E = AllocError} spec step counter counter' new drain drain' result
front-failed spec step most few counter mid counter' place messages new drain drain' result idle is some made h =
    let k = subst (λ well. HasDelivered spec step mid counter' place messages new drain drain' well idle) (sym (not-ok result is)) h in
    front-shown spec step most few counter mid counter' place messages new drain drain' result idle some made k (λ made' n. shows-err made' (is_idle k.later k.taken) new result is)

pub blank-of : (messages : List Content) → (length messages == 0) ≡ true → messages ≡ []
blank-of [] h = refl
blank-of (m ∷ ms) h = absurd (grind (arith, nat_tests))

pub some-of : (messages : List Content) → (length messages == 0) ≡ false → 0 < length messages
some-of messages h = grind (arith, nat_tests)

pub filled : (messages : List Content) → 0 < length messages → messages ≡ [] → ⊥
filled messages some none = (let n : length messages ≡ 0 = ap length none in omega arith)
