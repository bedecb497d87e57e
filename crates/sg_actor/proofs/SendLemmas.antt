-- What a send and the calls after it leave.
use Rattle.std.proofs.Common.{arith, zero, suc, ◌≡◌, ◌≤◌, ◌<◌, ◌+◌, ℕ, Bool, true, false, List, [], ◌∷◌, ◌++◌, length, min, refl, ap, sym, ◌∙◌, subst, append_assoc, Option, Some, None, inl, inr}
use Rattle.std.proofs.lemmas.List.{append-nil}
use Rattle.std.proofs.lemmas.Bool.Decides.{nat_tests}
use Rattle.std.specs.Prelude.{Ok, Err, IsErr, Result, ◌||◌, ◌&&◌, ◌==◌, if◌then◌else◌, is_ok}
use Rattle.std.specs.Option.{option_map}
use Rattle.sg_device.specs.Outlet.{OutletState}
use Rattle.sg_msg.specs.Message.{Content}
use Rattle.sg_counter.specs.Exchanges.{Exchange, Makes, OfDest}
use Rattle.sg_counter.specs.declared.calls.CoreCall.{CoreCall}
use Rattle.sg_counter.specs.declared.calls.CoreCall.TheVariants.{Settle, Refill}
use Rattle.sg_counter.specs.declared.calls.CoreReply.{CoreReply}
use Rattle.sg_counter.specs.declared.calls.CoreReply.TheVariants.{Settled as SettledReply, Refilled as RefilledReply}
use Rattle.sg_counter.specs.declared.answers.Settled.{Settled}
use Rattle.sg_counter.specs.declared.answers.Refill.{Refill as Refilled}
use Rattle.sg_actor.specs.Bringing.{exchange, AllBy}
use Rattle.sg_actor.specs.Rendering.{sent_of}
use Rattle.sg_actor.specs.Outages.{HasFailures, failed, with_taken, broken_cause, is_idle, SendComesTo}
use Rattle.sg_actor.specs.DestTurns.{shown_in, is_breakage, has_broken, is_done, Refills as RefillsCalls, SettlesFirst, HasGivenUpCause, after_reply, after_made, HasDelivered}
use Rattle.sg_actor.specs.Delivering.{Settles, Refills}
use Rattle.sg_actor.specs.declared.outage.Outage.{Outage}
use Rattle.sg_actor.specs.declared.outage.Sent.{Sent}
use Rattle.sg_actor.specs.declared.rendering.DestSpec.{DestSpec}
use Rattle.sg_actor.specs.declared.turned.GivenUp.{GivenUp}
use Rattle.sg_actor.specs.declared.turned.GivenUp.TheVariants.{Outlet, Store}
use Rattle.sg_machine.proofs.FailLemmas.{or-assoc}

-- Why a destination is given up.

third : (n f : ℕ) → n ≡ min f 3 → (n == 3) ≡ true → 3 ≤ f
third n f is h = (let e : n ≡ 3 = grind (arith, nat_tests) in omega arith)

not-third : (n f : ℕ) → n ≡ min f 3 → (n == 3) ≡ false → f < 3
not-third n f is h = (let e : n ≡ 3 → ⊥ = (λ (t : n ≡ 3). absurd (grind (arith, nat_tests))) in omega arith)

cause-by : (n : ℕ) (drain : OutletState) (third' : Bool) → n ≡ min drain.failing 3 → (n == 3) ≡ third' → HasGivenUpCause true true drain [] (if third' then Some Outlet else None)
cause-by n drain true is t = (refl, refl, third n drain.failing is t)
cause-by n drain false is t = (refl, (λ g r. not-third n drain.failing is t))

failed-cause : (gives_up : Bool) (o : Outage) (drain : OutletState) → o.given_up ≡ None → (failed gives_up o).failures ≡ min drain.failing 3 → HasGivenUpCause gives_up true drain [] (failed gives_up o).given_up
failed-cause false o drain none is = rw none (refl, (λ g r. absurd (let differ : false ≡ true = g in cc)))
failed-cause true o drain none is =
    rw none (cause-by (min (o.failures + 1) 3) drain (min (o.failures + 1) 3 == 3) is refl)

pub kept-cause : (gives_up : Bool) (drain : OutletState) (cause : Option GivenUp) → cause ≡ None → HasGivenUpCause gives_up false drain [] cause
kept-cause gives_up drain None is = (refl, (λ g r. absurd (let differ : false ≡ true = r in cc)))
kept-cause gives_up drain (Some c) is = absurd (let differ : Some c ≡ None = is in cc)

pub refused-cause : (gives_up : Bool) (old new : Outage) (drain : OutletState) → old.given_up ≡ None → new ≡ failed gives_up old → HasFailures new drain → HasGivenUpCause gives_up true drain [] new.given_up
refused-cause gives_up old new drain none is f =
    subst (λ c. HasGivenUpCause gives_up true drain [] c) (sym (ap (λ o. o.given_up) is)) (failed-cause gives_up old drain none (sym (ap (λ o. o.failures) is) ∙ f))

sent-cause : (gives_up refused : Bool) (k : ℕ) (old new : Outage) (drain : OutletState) → old.given_up ≡ None → new ≡ (if refused then failed gives_up (with_taken k old) else with_taken k old) → HasFailures new drain
    → HasGivenUpCause gives_up refused drain [] new.given_up
sent-cause gives_up true k old new drain none is f = refused-cause gives_up (with_taken k old) new drain none is f
sent-cause gives_up false k old new drain none is f = kept-cause gives_up drain new.given_up (ap (λ o. o.given_up) is ∙ none)

sent-reopens : (gives_up refused : Bool) (k : ℕ) (old new : Outage) → old.reopens ≡ false → new ≡ (if refused then failed gives_up (with_taken k old) else with_taken k old) → new.reopens ≡ refused
sent-reopens gives_up true k old new open' is = ap (λ o. o.reopens) is
sent-reopens gives_up false k old new open' is = ap (λ o. o.reopens) is ∙ open'

-- Calls.

or-nil : (b : Bool) → (b || false) ≡ b
or-nil true = refl
or-nil false = refl

broken-append : (made : List Exchange) (e : Exchange) → has_broken (made ++ e ∷ []) ≡ (has_broken made || is_breakage e.reply)
broken-append [] e = or-nil (is_breakage e.reply)
broken-append (x ∷ made) e = ap (λ b. is_breakage x.reply || b) (broken-append made e) ∙ or-assoc (is_breakage x.reply) (has_broken made) (is_breakage e.reply)

or-yes : (a b : Bool) → a ≡ true → (a || b) ≡ true
or-yes true b h = refl
or-yes false b h = absurd (let differ : false ≡ true = h in cc)

or-last : (a : Bool) → (a || true) ≡ true
or-last true = refl
or-last false = refl

or-no : (a : Bool) → a ≡ false → (a || false) ≡ false
or-no true h = h
or-no false h = refl

add-by : (gives_up refused b : Bool) (drain : OutletState) (made more : List Exchange) (c : Option GivenUp) → has_broken more ≡ (has_broken made || b) → HasGivenUpCause gives_up refused drain made c
    → HasGivenUpCause gives_up refused drain more (if b then broken_cause c else c)
add-by gives_up refused true drain made more None is h = is ∙ or-last (has_broken made)
add-by gives_up refused false drain made more None is h = (is ∙ or-no (has_broken made) h.0, h.1)
add-by gives_up refused true drain made more (Some Outlet) is h = h
add-by gives_up refused false drain made more (Some Outlet) is h = h
add-by gives_up refused true drain made more (Some Store) is h = is ∙ or-last (has_broken made)
add-by gives_up refused false drain made more (Some Store) is h = is ∙ or-yes (has_broken made) false h

after-cause : (b : Bool) (o : Outage) → (after_reply b o).given_up ≡ (if b then broken_cause o.given_up else o.given_up)
after-cause true o = refl
after-cause false o = refl

pub add-cause : (gives_up refused : Bool) (drain : OutletState) (made : List Exchange) (e : Exchange) (o : Outage) → HasGivenUpCause gives_up refused drain made o.given_up
    → HasGivenUpCause gives_up refused drain (made ++ e ∷ []) (after_reply (is_breakage e.reply) o).given_up
add-cause gives_up refused drain made e o h =
    subst (λ c. HasGivenUpCause gives_up refused drain (made ++ e ∷ []) c) (sym (after-cause (is_breakage e.reply) o))
    (add-by gives_up refused (is_breakage e.reply) drain made (made ++ e ∷ []) o.given_up (broken-append made e) h)

made-cause : (gives_up refused : Bool) (drain : OutletState) (before made : List Exchange) (o : Outage) → HasGivenUpCause gives_up refused drain before o.given_up
    → HasGivenUpCause gives_up refused drain (before ++ made) (after_made made o).given_up
made-cause gives_up refused drain before [] o h = subst (λ es. HasGivenUpCause gives_up refused drain es o.given_up) (sym (append-nil before)) h
made-cause gives_up refused drain before (e ∷ es) o h =
    subst (λ all. HasGivenUpCause gives_up refused drain all (after_made es (after_reply (is_breakage e.reply) o)).given_up) (append_assoc before (e ∷ []) es)
    (made-cause gives_up refused drain (before ++ e ∷ []) es (after_reply (is_breakage e.reply) o) (add-cause gives_up refused drain before e o h))

after-same : (b : Bool) (o : Outage) → ((after_reply b o).reopens ≡ o.reopens) × ((after_reply b o).failures ≡ o.failures)
after-same true o = (refl, refl)
after-same false o = (refl, refl)

made-same : (made : List Exchange) (o : Outage) → ((after_made made o).reopens ≡ o.reopens) × ((after_made made o).failures ≡ o.failures)
made-same [] o = (refl, refl)
made-same (e ∷ es) o =
    let first = after-same (is_breakage e.reply) o in
    let rest = made-same es (after_reply (is_breakage e.reply) o) in
    (rest.0 ∙ first.0, rest.1 ∙ first.1)

-- A send, and the calls after it.

delivered : {S : Type 0} (spec : DestSpec) (step : S → CoreCall → CoreReply → S → Type 0) (counter counter' : S) (place : ℕ) (messages : List Content) (old mid new : Outage) (drain drain' : OutletState) (sent : Sent) (well idle : Bool) (made : List Exchange)
    → SendComesTo spec.gives_up (sent_of spec messages) old mid drain drain' sent → old.reopens ≡ false → old.given_up ≡ None
    → Makes step counter made counter' → AllBy (OfDest spec.dest) made → length made ≤ 2 → shown_in made ≡ [] → SettlesFirst spec.dest place sent.taken drain'.count well made → new ≡ after_made made mid
    → (well ≡ true → sent.starved ≡ false) → (well ≡ true → idle ≡ is_idle sent.later sent.taken)
    → HasDelivered spec step counter counter' place messages new drain drain' well idle
delivered spec step counter counter' place messages old mid new drain drain' sent well idle made s open' none makes own few unshown settles is fed idles =
    let same = made-same made mid in
    record {
      made = made;
      taken = sent.taken;
      refused = s.refused;
      later = sent.later;
      makes = makes;
      own = own;
      few = few;
      unshown = unshown;
      settles = settles;
      takes = s.takes;
      within = s.within;
      whole = (λ w r l. s.whole (fed w) r l);
      idles = idles;
      waits = s.waits;
      rose = s.rose;
      failures = ap (λ o. o.failures) is ∙ same.1 ∙ s.failures;
      reopens = ap (λ o. o.reopens) is ∙ same.0 ∙ sent-reopens spec.gives_up s.refused sent.taken old mid open' s.outage;
      cause = subst (λ c. HasGivenUpCause spec.gives_up s.refused drain' made c) (sym (ap (λ o. o.given_up) is))
          (made-cause spec.gives_up s.refused drain' [] made mid (sent-cause spec.gives_up s.refused sent.taken old mid drain' none s.outage s.failures));
    }

-- the settlement alone
settles-one : (d place taken count : ℕ) (well : Bool) (answer : Settled) → 0 < taken → (well && is_done (SettledReply answer)) ≡ false → SettlesFirst d place taken count well (exchange (Settle d place taken count) (SettledReply answer) ∷ [])
settles-one d place zero count well answer some is = absurd (omega arith)
settles-one d place (suc n) count well answer some is = (refl, subst (λ b. RefillsCalls d b []) (sym is) tt)

-- and a refill behind it
settles-two : (d place taken count : ℕ) (answer : Settled) (refilled : Refilled) → 0 < taken → is_done (SettledReply answer) ≡ true
    → SettlesFirst d place taken count true (exchange (Settle d place taken count) (SettledReply answer) ∷ exchange (Refill d) (RefilledReply refilled) ∷ [])
settles-two d place zero count answer refilled some is = absurd (omega arith)
settles-two d place (suc n) count answer refilled some is = (refl, subst (λ b. RefillsCalls d b (exchange (Refill d) (RefilledReply refilled) ∷ [])) (sym is) refl)

and-false : (b : Bool) → (false && b) ≡ false
and-false b = refl

-- memory ran out in the send
pub delivered-starved : {S : Type 0} (spec : DestSpec) (step : S → CoreCall → CoreReply → S → Type 0) (counter counter' : S) (place : ℕ) (messages : List Content) (old mid new : Outage) (drain drain' : OutletState) (sent : Sent) (goes : Bool)
    → SendComesTo spec.gives_up (sent_of spec messages) old mid drain drain' sent → old.reopens ≡ false → old.given_up ≡ None
    → Settles step counter counter' spec.dest place sent.taken drain'.count mid new goes → HasDelivered spec step counter counter' place messages new drain drain' false false
delivered-starved spec step counter counter' place messages old mid new drain drain' sent goes s open' none (inl h) =
    delivered spec step counter counter' place messages old mid new drain drain' sent false false [] s open' none h.counter_stays tt (omega arith) refl
    (subst (λ k. SettlesFirst spec.dest place k drain'.count false []) (sym h.none) tt) h.outage_stays (λ w. absurd (let differ : false ≡ true = w in cc)) (λ w. absurd (let differ : false ≡ true = w in cc))
delivered-starved spec step counter counter' place messages old mid new drain drain' sent goes s open' none (inr h) =
    delivered spec step counter counter' place messages old mid new drain drain' sent false false (exchange (Settle spec.dest place sent.taken drain'.count) (SettledReply h.answer) ∷ []) s open' none
    (counter', h.made, refl) (refl, tt) (omega arith) refl (settles-one spec.dest place sent.taken drain'.count false h.answer h.some refl) h.outage (λ w. absurd (let differ : false ≡ true = w in cc)) (λ w. absurd (let differ : false ≡ true = w in cc))

-- the entries weren't the first ones, or the store has failed
pub delivered-stopped : {S : Type 0} (spec : DestSpec) (step : S → CoreCall → CoreReply → S → Type 0) (counter counter' : S) (place : ℕ) (messages : List Content) (old mid new : Outage) (drain drain' : OutletState) (sent : Sent) (goes : Bool)
    → SendComesTo spec.gives_up (sent_of spec messages) old mid drain drain' sent → old.reopens ≡ false → old.given_up ≡ None
    → Settles step counter counter' spec.dest place sent.taken drain'.count mid new goes → goes ≡ false → sent.starved ≡ false → HasDelivered spec step counter counter' place messages new drain drain' true (is_idle sent.later sent.taken)
delivered-stopped spec step counter counter' place messages old mid new drain drain' sent goes s open' none (inl h) stops fed = absurd (let differ : true ≡ false = sym h.goes_on ∙ stops in cc)
delivered-stopped spec step counter counter' place messages old mid new drain drain' sent goes s open' none (inr h) stops fed =
    delivered spec step counter counter' place messages old mid new drain drain' sent true (is_idle sent.later sent.taken) (exchange (Settle spec.dest place sent.taken drain'.count) (SettledReply h.answer) ∷ []) s open' none
    (counter', h.made, refl) (refl, tt) (omega arith) refl (settles-one spec.dest place sent.taken drain'.count true h.answer h.some (sym h.goes_on ∙ stops)) h.outage (λ w. fed) (λ w. refl)

-- all went well
pub delivered-well : {S : Type 0} (spec : DestSpec) (step : S → CoreCall → CoreReply → S → Type 0) (counter between counter' : S) (place : ℕ) (messages : List Content) (old mid third' new : Outage) (drain drain' : OutletState) (sent : Sent) (goes : Bool)
    → SendComesTo spec.gives_up (sent_of spec messages) old mid drain drain' sent → old.reopens ≡ false → old.given_up ≡ None
    → Settles step counter between spec.dest place sent.taken drain'.count mid third' goes → goes ≡ true → Refills step between counter' spec.dest third' new → sent.starved ≡ false
    → HasDelivered spec step counter counter' place messages new drain drain' true (is_idle sent.later sent.taken)
delivered-well spec step counter between counter' place messages old mid third' new drain drain' sent goes s open' none (inl h) on r fed =
    delivered spec step counter counter' place messages old mid new drain drain' sent true (is_idle sent.later sent.taken) (exchange (Refill spec.dest) (RefilledReply r.0) ∷ []) s open' none
    (counter', subst (λ c. step c (Refill spec.dest) (RefilledReply r.0) counter') h.counter_stays r.1.0, refl) (refl, tt) (omega arith) refl
    (subst (λ k. SettlesFirst spec.dest place k drain'.count true (exchange (Refill spec.dest) (RefilledReply r.0) ∷ [])) (sym h.none) refl)
    (r.1.1 ∙ ap (λ o. after_reply (is_breakage (RefilledReply r.0)) o) h.outage_stays) (λ w. fed) (λ w. refl)
delivered-well spec step counter between counter' place messages old mid third' new drain drain' sent goes s open' none (inr h) on r fed =
    delivered spec step counter counter' place messages old mid new drain drain' sent true (is_idle sent.later sent.taken) (exchange (Settle spec.dest place sent.taken drain'.count) (SettledReply h.answer) ∷ exchange (Refill spec.dest) (RefilledReply r.0) ∷ []) s open' none
    (between, h.made, (counter', r.1.0, refl)) (refl, (refl, tt)) (omega arith) refl (settles-two spec.dest place sent.taken drain'.count h.answer r.0 h.some (sym h.goes_on ∙ on))
    (r.1.1 ∙ ap (λ o. after_reply (is_breakage (RefilledReply r.0)) o) h.outage) (λ w. fed) (λ w. refl)

-- nothing was sent
pub told-none : (told : Option (List (List ℕ))) → told ≡ option_map (λ before. before ++ []) told
told-none None = refl
told-none (Some frames) = ap Some (sym (append-nil frames))

pub delivered-none : {S : Type 0} (spec : DestSpec) (step : S → CoreCall → CoreReply → S → Type 0) (counter : S) (place : ℕ) (messages : List Content) (old : Outage) (drain : OutletState) (idle : Bool)
    → old.reopens ≡ false → old.given_up ≡ None → HasFailures old drain → HasDelivered spec step counter counter place messages old drain drain false idle
delivered-none spec step counter place messages old drain idle open' none f = record {
  made = [];
  taken = 0;
  refused = false;
  later = false;
  makes = refl;
  own = tt;
  few = omega arith;
  unshown = refl;
  settles = tt;
  takes = record { told = told-none drain.taken; rose = omega arith; faults = omega arith };
  within = omega arith;
  whole = (λ w r l. absurd (let differ : false ≡ true = w in cc));
  idles = (λ w. absurd (let differ : false ≡ true = w in cc));
  waits = refl;
  rose = (λ e. absurd (let differ : false ≡ true = e in cc));
  failures = f;
  reopens = open';
  cause = kept-cause spec.gives_up drain old.given_up none;
}

pub not-ok : {T E : Type 0} (r : Result T E) → IsErr r → is_ok r ≡ false
not-ok (Ok x) h = absurd (let differ : false ≡ true = h in cc)
not-ok (Err e) h = refl
