-- A turn of a destination.
use Rattle.std.proofs.Common.{arith, ◌≡◌, ◌≤◌, ◌+◌, ℕ, Bool, true, false, List, [], ◌++◌, take, min, refl, ap, sym, ◌∙◌, subst, Option, Some, None}
use Rattle.std.specs.Prelude.{Ok, Err, IsErr, Result, is_ok, is_some, nat_lt, not, ◌||◌, ◌&&◌}
use Rattle.std.specs.Option.{option_map}
use Rattle.std.specs.declared.alloc.AllocError.{AllocError}
use Rattle.sg_device.specs.Faults.{Rose}
use Rattle.sg_device.specs.Outlet.{OutletState}
use Rattle.sg_counter.specs.Exchanges.{Exchange}
use Rattle.sg_counter.specs.declared.calls.CoreCall.{CoreCall}
use Rattle.sg_counter.specs.declared.calls.CoreReply.{CoreReply}
use Rattle.sg_actor.specs.Rendering.{frames_by}
use Rattle.sg_actor.specs.Outages.{HasFailures, TakesFrames, Waits, is_idle, BeginsTurn}
use Rattle.sg_actor.specs.DestTurns.{shown_in, has_shown, DeliversFront, TellsDest, SendsWith, SendsByCause, SendsTurn}
use Rattle.sg_actor.specs.Delivering.{FrontTurnGives}
use Rattle.sg_actor.specs.declared.outage.Outage.{Outage}
use Rattle.sg_actor.specs.declared.outage.BegunTurn.TheVariants.{Open, Reopened, Later, Failed}
use Rattle.sg_actor.specs.declared.rendering.DestSpec.{DestSpec}
use Rattle.sg_actor.specs.declared.turned.GivenUp.{GivenUp}
use Rattle.sg_actor.specs.declared.turned.Turned.{Turned}
use Rattle.sg_actor.proofs.PullLemmas.{lt-yes, lt-no}
use Rattle.sg_actor.proofs.SendLemmas.{kept-cause, refused-cause, told-none, not-ok}

pub none-of : (cause : Option GivenUp) → is_some cause ≡ false → cause ≡ None
none-of None h = refl
none-of (Some c) h = absurd (let differ : true ≡ false = h in cc)

by-none : {S : Type 0} (cause : Option GivenUp) (spec : DestSpec) (step : S → CoreCall → CoreReply → S → Type 0) (counter counter' : S) (old new : Outage) (drain drain' : OutletState) (result : Result Turned AllocError) (made : List Exchange) (taken : ℕ) (refused : Bool)
    → cause ≡ None → SendsWith {E = AllocError} spec step counter counter' old new drain drain' result made taken refused → SendsByCause {E = AllocError} cause spec step counter counter' old new drain drain' result
by-none None spec step counter counter' old new drain drain' result made taken refused is h = (made, (taken, (refused, h)))
by-none (Some c) spec step counter counter' old new drain drain' result made taken refused is h = absurd (let differ : Some c ≡ None = is in cc)

or-same : (b : Bool) → b ≡ (b || false)
or-same true = refl
or-same false = refl

or-true : (b : Bool) → true ≡ (b || true)
or-true true = refl
or-true false = refl

-- whether it was too early is told by the count
later-is : (later : Bool) (drain between drain' : OutletState) → between.laters ≡ drain.laters → Waits later between drain' → nat_lt drain.laters drain'.laters ≡ later
later-is true drain between drain' same h = lt-yes drain.laters drain'.laters (omega (arith, same, h))
later-is false drain between drain' same h = lt-no drain.laters drain'.laters (omega (arith, same, h))

waits-few : (later : Bool) (drain drain' : OutletState) → Waits later drain drain' → (drain.laters ≤ drain'.laters) × (drain'.laters ≤ drain.laters + 1)
waits-few true drain drain' h = (omega (arith, h), omega (arith, h))
waits-few false drain drain' h = (omega (arith, h), omega (arith, h))

-- it was too early for entries that were shown, and so not for a reopening
unreopened : (later shown : Bool) → (later ≡ true → shown ≡ true) → (later && not shown) ≡ false
unreopened true true h = refl
unreopened true false h = absurd (let differ : false ≡ true = h refl in cc)
unreopened false shown h = refl

unshown-by : (shown idle : Bool) → (shown && not idle) ≡ false → idle ≡ false → shown ≡ false
unshown-by true true h i = absurd (let differ : true ≡ false = i in cc)
unshown-by true false h i = h
unshown-by false idle h i = refl

-- it is too early
pub send-later : {S : Type 0} (spec : DestSpec) (step : S → CoreCall → CoreReply → S → Type 0) (counter : S) (old new : Outage) (drain drain' : OutletState)
    → old.given_up ≡ None → HasFailures old drain → BeginsTurn spec.gives_up old new drain drain' Later
    → SendsTurn {E = AllocError} spec step counter counter old new drain drain' (Ok (record { did = false; idle = true }))
send-later spec step counter old new drain drain' none failures begins =
    let more : drain'.laters ≡ drain.laters + 1 = ap (λ d. d.laters) begins.2 in
    let count : drain'.count ≡ drain.count = ap (λ d. d.count) begins.2 in
    let faults : drain'.faults ≡ drain.faults = ap (λ d. d.faults) begins.2 in
    by-none old.given_up spec step counter counter old new drain drain' (Ok (record { did = false; idle = true })) [] 0 false none (record {
      makes = refl;
      own = tt;
      few = omega arith;
      delivers = refl;
      takes = record { told = ap (λ d. d.taken) begins.2 ∙ told-none drain.taken; rose = omega arith; faults = omega arith };
      within = omega arith;
      whole = (λ w r l. refl);
      laters = (omega arith, omega arith);
      early = (λ l s. begins.0);
      rose = (λ e. absurd (let differ : false ≡ true = e in cc));
      failures = ap (λ o. o.failures) begins.1 ∙ failures ∙ ap (λ d. min d.failing 3) (sym begins.2);
      reopens = ap (λ o. o.reopens) begins.1 ∙ begins.0 ∙ sym (ap (λ b. b && true) (lt-yes drain.laters drain'.laters (omega arith)));
      cause = kept-cause spec.gives_up drain' new.given_up (ap (λ o. o.given_up) begins.1 ∙ none);
      tells = record {
        did = ap (λ b. b && false) (sym begins.0);
        idle = sym (ap (λ b. b && true) (lt-yes drain.laters drain'.laters (omega arith)));
        empty = (λ d i. absurd (let differ : true ≡ false = i in cc));
      };
    })

-- it fails again
pub send-failed : {S : Type 0} (spec : DestSpec) (step : S → CoreCall → CoreReply → S → Type 0) (counter : S) (old new : Outage) (drain drain' : OutletState)
    → old.given_up ≡ None → BeginsTurn spec.gives_up old new drain drain' Failed
    → SendsTurn {E = AllocError} spec step counter counter old new drain drain' (Ok (record { did = true; idle = false }))
send-failed spec step counter old new drain drain' none begins =
    let same : drain'.laters ≡ drain.laters = begins.3 in
    by-none old.given_up spec step counter counter old new drain drain' (Ok (record { did = true; idle = false })) [] 0 true none (record {
      makes = refl;
      own = tt;
      few = omega arith;
      delivers = refl;
      takes = begins.2;
      within = omega arith;
      whole = (λ w r l. refl);
      laters = (omega arith, omega arith);
      early = (λ l s. begins.0);
      rose = (λ e. begins.4);
      failures = begins.5;
      reopens = ap (λ o. o.reopens) begins.1;
      cause = refused-cause spec.gives_up old new drain' none begins.1 begins.5;
      tells = record {
        did = ap (λ b. b && true) (sym begins.0);
        idle = sym (ap (λ b. b && true) (lt-no drain.laters drain'.laters (omega arith)));
        empty = (λ d i. absurd (let differ : true ≡ false = d in cc));
      };
    })

-- it is open again
told-then : (xs : List (List ℕ)) (a b c : Option (List (List ℕ))) → b ≡ option_map (λ before. before ++ []) a → c ≡ option_map (λ before. before ++ xs) b → c ≡ option_map (λ before. before ++ xs) a
told-then xs a b c first second = second ∙ ap (λ o. option_map (λ before. before ++ xs) o) (first ∙ sym (told-none a))

takes-then : (k : ℕ) (frames : List (List ℕ)) (a b c : OutletState) → TakesFrames 0 [] a b → TakesFrames k frames b c → TakesFrames k frames a c
takes-then k frames a b c h m = record {
  told = told-then (take k frames) a.taken b.taken c.taken h.told m.told;
  rose = (let first : b.count ≡ a.count + 0 = h.rose in let second : c.count ≡ b.count + k = m.rose in omega arith);
  faults = omega (arith, h.faults, m.faults);
}

rose-then : (a b c : ℕ) → a ≤ b → Rose b c → Rose a c
rose-then a b c h rose = omega arith

reopened-with : {S : Type 0} (spec : DestSpec) (step : S → CoreCall → CoreReply → S → Type 0) (counter counter' : S) (old mid new : Outage) (drain between drain' : OutletState) (found : Result Turned AllocError) (result : Result Turned AllocError)
    → BeginsTurn spec.gives_up old mid drain between Reopened → (h : FrontTurnGives {E = AllocError} spec step counter counter' new between drain' found) → is_ok found ≡ is_ok result
    → TellsDest old new h.made h.taken drain drain' result
    → SendsWith {E = AllocError} spec step counter counter' old new drain drain' result h.made h.taken h.refused
reopened-with spec step counter counter' old mid new drain between drain' found result begins h ok tells =
    let few = waits-few h.later between drain' h.waits in
    let later = later-is h.later drain between drain' begins.3 h.waits in
    record {
      makes = h.makes;
      own = h.own;
      few = omega (arith, h.few);
      delivers = subst (λ b. DeliversFront spec.dest h.taken drain'.count b h.made) ok h.delivers;
      takes = takes-then h.taken (frames_by spec (shown_in h.made)) drain between drain' begins.2 h.takes;
      within = h.within;
      whole = (λ w r l. h.whole (ok ∙ w) r (sym later ∙ lt-no drain.laters drain'.laters (omega arith)));
      laters = (omega (arith, few, begins.3), omega (arith, few, begins.3));
      early = (λ l s. begins.0);
      rose = (λ e. rose-then drain.faults between.faults drain'.faults begins.2.faults (h.rose e));
      failures = h.failures;
      reopens = h.reopens ∙ or-same h.refused ∙ ap (λ b. h.refused || b) (sym (ap (λ b. b && not (has_shown h.made)) later ∙ unreopened h.later (has_shown h.made) h.early));
      cause = h.cause;
      tells = tells;
    }

pub send-reopened : {S : Type 0} (spec : DestSpec) (step : S → CoreCall → CoreReply → S → Type 0) (counter counter' : S) (old mid new : Outage) (drain between drain' : OutletState) (found : Turned)
    → old.given_up ≡ None → BeginsTurn spec.gives_up old mid drain between Reopened → FrontTurnGives {E = AllocError} spec step counter counter' new between drain' (Ok found)
    → SendsTurn {E = AllocError} spec step counter counter' old new drain drain' (Ok (record { did = not found.idle; idle = found.idle }))
send-reopened spec step counter counter' old mid new drain between drain' found none begins h =
    let turned : Turned = record { did = not found.idle; idle = found.idle } in
    by-none old.given_up spec step counter counter' old new drain drain' (Ok turned) h.made h.taken h.refused none
    (reopened-with spec step counter counter' old mid new drain between drain' (Ok found) (Ok turned) begins h refl (record {
      did = ap (λ b. b && not found.idle) (or-true (has_shown h.made) ∙ ap (λ b. has_shown h.made || b) (sym begins.0));
      idle = h.shows.0 ∙ ap (λ b. is_idle b h.taken) (sym (later-is h.later drain between drain' begins.3 h.waits));
      empty = (λ d i. absurd (let differ : true ≡ false = ap not (sym i) ∙ d in cc));
    }))

tells-err : (old new : Outage) (made : List Exchange) (taken : ℕ) (drain drain' : OutletState) (result : Result Turned AllocError) → IsErr result → TellsDest old new made taken drain drain' result
tells-err old new made taken drain drain' (Ok t) is = absurd (let differ : false ≡ true = is in cc)
tells-err old new made taken drain drain' (Err e) is = tt

pub send-starved : {S : Type 0} (spec : DestSpec) (step : S → CoreCall → CoreReply → S → Type 0) (counter counter' : S) (old mid new : Outage) (drain between drain' : OutletState) (e : AllocError) (result : Result Turned AllocError) → IsErr result
    → old.given_up ≡ None → BeginsTurn spec.gives_up old mid drain between Reopened → FrontTurnGives {E = AllocError} spec step counter counter' new between drain' (Err e)
    → SendsTurn {E = AllocError} spec step counter counter' old new drain drain' result
send-starved spec step counter counter' old mid new drain between drain' e result is none begins h =
    by-none old.given_up spec step counter counter' old new drain drain' result h.made h.taken h.refused none
    (reopened-with spec step counter counter' old mid new drain between drain' (Err e) result begins h (sym (not-ok result is)) (tells-err old new h.made h.taken drain drain' result is))

-- it didn't fail
open-with : {S : Type 0} (spec : DestSpec) (step : S → CoreCall → CoreReply → S → Type 0) (counter counter' : S) (old new : Outage) (drain between drain' : OutletState) (found : Result Turned AllocError) (result : Result Turned AllocError)
    → between ≡ drain → (h : FrontTurnGives {E = AllocError} spec step counter counter' new between drain' found) → is_ok found ≡ is_ok result
    → TellsDest old new h.made h.taken drain drain' result
    → SendsWith {E = AllocError} spec step counter counter' old new drain drain' result h.made h.taken h.refused
open-with spec step counter counter' old new drain between drain' found result is h ok tells =
    let same : between.laters ≡ drain.laters = ap (λ d. d.laters) is in
    let few = waits-few h.later between drain' h.waits in
    let later = later-is h.later drain between drain' same h.waits in
    record {
      makes = h.makes;
      own = h.own;
      few = omega (arith, h.few);
      delivers = subst (λ b. DeliversFront spec.dest h.taken drain'.count b h.made) ok h.delivers;
      takes = subst (λ d. TakesFrames h.taken (frames_by spec (shown_in h.made)) d drain') is h.takes;
      within = h.within;
      whole = (λ w r l. h.whole (ok ∙ w) r (sym later ∙ lt-no drain.laters drain'.laters (omega arith)));
      laters = (omega (arith, few, same), omega (arith, few, same));
      early = (λ l s. absurd (let differ : true ≡ false = sym (h.early (sym later ∙ lt-yes drain.laters drain'.laters l)) ∙ s in cc));
      rose = (λ e. subst (λ d. Rose d.faults drain'.faults) is (h.rose e));
      failures = h.failures;
      reopens = h.reopens ∙ or-same h.refused ∙ ap (λ b. h.refused || b) (sym (ap (λ b. b && not (has_shown h.made)) later ∙ unreopened h.later (has_shown h.made) h.early));
      cause = h.cause;
      tells = tells;
    }

pub send-open : {S : Type 0} (spec : DestSpec) (step : S → CoreCall → CoreReply → S → Type 0) (counter counter' : S) (old mid new : Outage) (drain between drain' : OutletState) (found : Turned)
    → old.given_up ≡ None → BeginsTurn spec.gives_up old mid drain between Open → FrontTurnGives {E = AllocError} spec step counter counter' new between drain' (Ok found)
    → SendsTurn {E = AllocError} spec step counter counter' old new drain drain' (Ok found)
send-open spec step counter counter' old mid new drain between drain' found none begins h =
    by-none old.given_up spec step counter counter' old new drain drain' (Ok found) h.made h.taken h.refused none
    (open-with spec step counter counter' old new drain between drain' (Ok found) (Ok found) begins.2 h refl (record {
      did = h.shows.1 ∙ ap (λ i. has_shown h.made && not i) (sym h.shows.0) ∙ ap (λ b. b && not found.idle) (or-same (has_shown h.made) ∙ ap (λ b. has_shown h.made || b) (sym begins.0));
      idle = h.shows.0 ∙ ap (λ b. is_idle b h.taken) (sym (later-is h.later drain between drain' (ap (λ d. d.laters) begins.2) h.waits));
      empty = λ d i. h.shows.2 (unshown-by (has_shown h.made) (is_idle h.later h.taken) (sym h.shows.1 ∙ d) (sym h.shows.0 ∙ i));
    }))

pub send-unopened : {S : Type 0} (spec : DestSpec) (step : S → CoreCall → CoreReply → S → Type 0) (counter counter' : S) (old mid new : Outage) (drain between drain' : OutletState) (e : AllocError) (result : Result Turned AllocError) → IsErr result
    → old.given_up ≡ None → BeginsTurn spec.gives_up old mid drain between Open → FrontTurnGives {E = AllocError} spec step counter counter' new between drain' (Err e)
    → SendsTurn {E = AllocError} spec step counter counter' old new drain drain' result
send-unopened spec step counter counter' old mid new drain between drain' e result is none begins h =
    by-none old.given_up spec step counter counter' old new drain drain' result h.made h.taken h.refused none
    (open-with spec step counter counter' old new drain between drain' (Err e) result begins.2 h (sym (not-ok result is)) (tells-err old new h.made h.taken drain drain' result is))
