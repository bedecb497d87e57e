-- What holds of the turns of one actor, one after the other.
use Rattle.std.proofs.Common.{arith, ◌≡◌, ◌≤◌, ◌+◌, ◌-◌, ◌^◌, ℕ, zero, suc, Bool, true, false, List, [], ◌∷◌, ◌++◌, length, take, refl, ap, sym, ◌∙◌, subst, append_assoc, Option, Some, None, ◌⊎◌, inl}
use Rattle.std.proofs.lemmas.List.{append-nil, length-map, length-take}
use Rattle.std.specs.Prelude.{Ok, Err, is_some, is_ok, min, nat_le, if◌then◌else◌}
use Rattle.std.specs.Option.{option_map}
use Rattle.sg_device.proofs.Inlets.{advances_refl, advances_trans}
use Rattle.sg_msg.specs.declared.offer.Offer.{Offer}
use Rattle.sg_frame.specs.Records.{Record}
use Rattle.sg_msg.specs.Message.{Content}
use Rattle.sg_counter.specs.Exchanges.{Exchange}
use Rattle.sg_counter.specs.declared.calls.CoreReply.{CoreReply}
use Rattle.sg_counter.specs.declared.calls.CoreReply.TheVariants.{Credit, Admitted, Front as FrontReply, Settled as SettledReply, Refilled as RefilledReply, Stored}
use Rattle.sg_counter.specs.declared.answers.CoreFront.TheVariants.{Entries, Empty, Broken as FrontBroken}
use Rattle.sg_actor.specs.Bringing.{admitted_in}
use Rattle.sg_actor.specs.Sources.{AreOf, HasRead}
use Rattle.sg_actor.specs.Outages.{HasFailures}
use Rattle.sg_actor.specs.Rendering.{frame_by, frames_by, most_bytes, most_entries, until, sent_of}
use Rattle.sg_actor.specs.SourceTurns.{ActorState, bad_after, IsEmptyTurn, TellsSource}
use Rattle.sg_actor.specs.DestTurns.{SettlesFirst, Refills, FollowsFront, DeliversFront, shown_in, IsShownEmpty, TellsDest as DestTells}
use Rattle.sg_actor.specs.declared.rendering.DestSpec.{DestSpec}
use Rattle.sg_actor.specs.declared.settings.SourceSpec.{SourceSpec}
use Rattle.sg_actor.specs.declared.turned.GivenUp.{GivenUp}
use Rattle.sg_actor.specs.declared.turned.Turned.{Turned}
use Rattle.sg_actor.proofs.KeepLemmas.{are-append}
use Rattle.sg_turns.specs.Turns.{Turn, result_of, calls_of, SourceTurns, TookTurns, DestState, SendsBy, DestTurns, SentTurns}
use Rattle.sg_turns.specs.Laws.{ReadsOn, TurnsReadOn, settled_by, settled_in, frames_of, SendsOn, TurnsSendOn, SourceRests, DestRests}
use Rattle.sg_actor.proofs.TurnLemmas.{admitted-append}

-- What a source's turns admit.

bad-more : (count a b : ℕ) → bad_after (bad_after count a) b ≡ bad_after count (a + b)
bad-more count zero b = let e : b ≡ 0 + b = omega arith in ap (λ n. bad_after count n) e
bad-more count (suc a) zero = let e : suc a ≡ suc a + 0 = omega arith in ap (λ n. bad_after count n) e
bad-more count (suc a) (suc b) =
    let sum : suc (a + suc b) ≡ suc a + suc b = omega arith in
    subst (λ n. min (min (count + suc a) (2 ^ 64 - 1) + suc b) (2 ^ 64 - 1) ≡ bad_after count n) sum (omega arith)

pub read-on : (offers : ℕ → Record → List Offer → Type 0) (dests : ℕ) (spec : SourceSpec) (old new : ActorState) (turns : List Turn) → TurnsReadOn offers dests spec old new turns
read-on offers dests spec old new [] is ready done before read = subst (λ s. ReadsOn offers dests spec old s [] done before) (sym is) (record {
  taken = [];
  ups = 0;
  offered = tt;
  reads = subst (λ l. HasRead offers spec old.source l (before + 0)) (sym (append-nil done)) (subst (λ n. HasRead offers spec old.source done n) (omega arith) read);
  bad = refl;
  ready = ready;
  advances = advances_refl old.source.feed;
  pulls = omega arith;
})
read-on offers dests spec old new (turn ∷ turns) (mid, (h, more)) ready done before read =
    let one = h.takes.admits done before read in
    let rest = read-on offers dests spec mid new turns more h.takes.ready (done ++ one.0) (before + h.ups) one.1.1 in
    record {
      taken = one.0 ++ rest.taken;
      ups = h.ups + rest.ups;
      offered = subst (λ l. AreOf offers spec (one.0 ++ rest.taken) l) (sym (admitted-append turn.made (calls_of turns)))
          (are-append offers spec one.0 rest.taken (admitted_in turn.made) (admitted_in (calls_of turns)) one.1.0 rest.offered);
      reads = subst (λ l. HasRead offers spec new.source l (before + (h.ups + rest.ups))) (append_assoc done one.0 rest.taken)
          (subst (λ n. HasRead offers spec new.source ((done ++ one.0) ++ rest.taken) n) (omega arith) rest.reads);
      bad = (rest.bad ∙ ap (λ c. bad_after c rest.ups) h.takes.bad) ∙ bad-more old.bad_frames h.ups rest.ups;
      ready = rest.ready;
      advances = advances_trans old.source.feed mid.source.feed new.source.feed h.takes.advances rest.advances;
      pulls = omega (arith, rest.pulls, h.takes.pulls);
    }

-- What a destination's turns send.

settled-append : (xs ys : List Exchange) → settled_in (xs ++ ys) ≡ settled_in xs + settled_in ys
settled-append [] ys = omega arith
settled-append (x ∷ xs) ys = let rest = settled-append xs ys in omega (arith, rest)

refill-none : (d : ℕ) (well : Bool) (made : List Exchange) → Refills d well made → settled_in made ≡ 0
refill-none d true [] h = absurd h
refill-none d true (r ∷ []) h = ap (λ n. n + 0) (ap settled_by h)
refill-none d true (r ∷ q ∷ rs) h = absurd h
refill-none d false [] h = refl
refill-none d false (r ∷ rs) h = absurd h

settled-first : (d place taken count : ℕ) (well : Bool) (made : List Exchange) → SettlesFirst d place taken count well made → settled_in made ≡ taken
settled-first d place zero count well made h = refill-none d well made h
settled-first d place (suc n) count well [] h = absurd h
settled-first d place (suc n) count well (s ∷ made) h =
    let one : settled_by s.call ≡ suc n = ap settled_by h.0 in
    let none = refill-none d _ made h.1 in
    omega (arith, one, none)

none-settled : (made : List Exchange) (taken : ℕ) → (made ≡ []) × (taken ≡ 0) → settled_in made ≡ taken
none-settled made taken h = ap settled_in h.0 ∙ sym h.1

settled-after : (d taken count : ℕ) (well : Bool) (reply : CoreReply) (made : List Exchange) → FollowsFront d taken count well reply made → settled_in made ≡ taken
settled-after d taken count well (FrontReply (Ok (Entries place []))) made h = none-settled made taken h
settled-after d taken count well (FrontReply (Ok (Entries place (m ∷ ms)))) made h = settled-first d place taken count well made h
settled-after d taken count well (FrontReply (Ok Empty)) made h = none-settled made taken h
settled-after d taken count well (FrontReply (Ok FrontBroken)) made h = none-settled made taken h
settled-after d taken count well (FrontReply (Err e)) made h = none-settled made taken h
settled-after d taken count well (Credit credit) made h = none-settled made taken h
settled-after d taken count well (Admitted result) made h = none-settled made taken h
settled-after d taken count well (SettledReply result) made h = none-settled made taken h
settled-after d taken count well (RefilledReply result) made h = none-settled made taken h
settled-after d taken count well (Stored result) made h = none-settled made taken h

settled-is : (d taken count : ℕ) (well : Bool) (made : List Exchange) → DeliversFront d taken count well made → settled_in made ≡ taken
settled-is d taken count well [] h = sym h
settled-is d taken count well (f ∷ made) h =
    let none : settled_by f.call ≡ 0 = ap settled_by h.0.1 in
    let rest = settled-after d taken count well f.reply made h.1 in
    omega (arith, none, rest)

-- what one turn sent
record SendsOne (spec : DestSpec) (old new : DestState) (turn : Turn) : Type 0 where
  told : new.drain.taken ≡ option_map (λ before. before ++ take (settled_in turn.made) (frames_by spec (shown_in turn.made))) old.drain.taken
  count : new.drain.count ≡ old.drain.count + settled_in turn.made
  within : settled_in turn.made ≤ length (shown_in turn.made)
  failures : HasFailures new.outage new.drain
  faults : old.drain.faults ≤ new.drain.faults

by-size : (b : Bool) (rest fs : List (List ℕ)) → length rest ≤ length fs → suc (length (if b then [] else rest)) ≤ suc (length fs)
by-size true rest fs h = omega arith
by-size false rest fs h = omega (arith, h)

until-le : (left : ℕ) (frames : List (List ℕ)) → length (until left frames) ≤ length frames
until-le left [] = omega arith
until-le left (f ∷ fs) = let rest = until-le (left - length f) fs in by-size (nat_le left (length f)) (until (left - length f) fs) fs rest

within-shown : (spec : DestSpec) (shown : List Content) (taken : ℕ) → taken ≤ length (sent_of spec shown) → taken ≤ length shown
within-shown spec shown taken h =
    let sent = until-le most_bytes (frames_by spec (take most_entries shown)) in
    let same = length-map (take most_entries shown) (frame_by spec) in
    let few = length-take most_entries shown in
    omega (arith, h, sent, same, few)

map-nil : {A : Type 0} (o : Option (List A)) → option_map (λ before. before ++ []) o ≡ o
map-nil (Some l) = ap Some (append-nil l)
map-nil None = refl

map-append : {A : Type 0} (xs ys : List A) (o : Option (List A)) → option_map (λ before. before ++ ys) (option_map (λ before. before ++ xs) o) ≡ option_map (λ before. before ++ (xs ++ ys)) o
map-append xs ys (Some l) = ap Some (append_assoc l xs ys)
map-append xs ys None = refl

sends-one : (cause : Option GivenUp) (spec : DestSpec) (old new : DestState) (turn : Turn) → HasFailures old.outage old.drain → SendsBy cause spec old new turn → SendsOne spec old new turn
sends-one None spec old new turn h (taken, (refused, k)) =
    let is : settled_in turn.made ≡ taken = settled-is spec.dest taken new.drain.count (is_ok (result_of turn.answer)) turn.made k.delivers in
    record {
      told = subst (λ n. new.drain.taken ≡ option_map (λ before. before ++ take n (frames_by spec (shown_in turn.made))) old.drain.taken) (sym is) k.takes.told;
      count = subst (λ n. new.drain.count ≡ old.drain.count + n) (sym is) k.takes.rose;
      within = subst (λ n. n ≤ length (shown_in turn.made)) (sym is) (within-shown spec (shown_in turn.made) taken k.within);
      failures = k.failures;
      faults = k.takes.faults;
    }
sends-one (Some cause) spec old new turn h k =
    let none : settled_in turn.made ≡ 0 = ap settled_in k.0 in
    let same : new.drain ≡ old.drain = k.1.drain_stays in
    record {
      told = subst (λ m. new.drain.taken ≡ option_map (λ before. before ++ take (settled_in m) (frames_by spec (shown_in m))) old.drain.taken) (sym k.0)
          (ap (λ d. d.taken) same ∙ sym (map-nil old.drain.taken));
      count = (let c : new.drain.count ≡ old.drain.count = ap (λ d. d.count) same in omega (arith, none, c));
      within = omega (arith, none);
      failures = subst (λ o. HasFailures o new.drain) (sym k.1.outage_stays) (subst (λ d. HasFailures old.outage d) (sym same) h);
      faults = (let c : new.drain.faults ≡ old.drain.faults = ap (λ d. d.faults) same in omega (arith, c));
    }

pub send-on : (spec : DestSpec) (old new : DestState) (turns : List Turn) → TurnsSendOn spec old new turns
send-on spec old new [] is h = subst (λ s. SendsOn spec old s []) (sym is) (record {
  told = sym (map-nil old.drain.taken);
  count = omega arith;
  within = tt;
  failures = h;
  faults = omega arith;
})
send-on spec old new (turn ∷ turns) (mid, (k, more)) h =
    let one = sends-one old.outage.given_up spec old mid turn h k in
    let rest = send-on spec mid new turns more one.failures in
    let sum = settled-append turn.made (calls_of turns) in
    let first : List (List ℕ) = take (settled_in turn.made) (frames_by spec (shown_in turn.made)) in
    record {
      told = rest.told ∙ (ap (option_map (λ before. before ++ frames_of spec turns)) one.told ∙ map-append first (frames_of spec turns) old.drain.taken);
      count = omega (arith, rest.count, one.count, sum);
      within = (one.within, rest.within);
      failures = rest.failures;
      faults = omega (arith, one.faults, rest.faults);
    }

-- The last turn.

pub took-last : (offers : ℕ → Record → List Offer → Type 0) (dests : ℕ) (spec : SourceSpec) (x z : ActorState) (earlier : List Turn) (turn : Turn)
    → TookTurns offers dests spec x z (earlier ++ turn ∷ []) → (y : ActorState) × SourceTurns offers dests spec y z turn
took-last offers dests spec x z [] turn (y, (h, is)) = (x, subst (λ s. SourceTurns offers dests spec x s turn) (sym is) h)
took-last offers dests spec x z (t ∷ earlier) turn (y, (h, more)) = took-last offers dests spec y z earlier turn more

pub sent-last : (spec : DestSpec) (x z : DestState) (earlier : List Turn) (turn : Turn) → SentTurns spec x z (earlier ++ turn ∷ []) → (y : DestState) × DestTurns spec y z turn
sent-last spec x z [] turn (y, (h, is)) = (x, subst (λ s. DestTurns spec x s turn) (sym is) h)
sent-last spec x z (t ∷ earlier) turn (y, (h, more)) = sent-last spec y z earlier turn more

pub source-rests : (offers : ℕ → Record → List Offer → Type 0) (dests : ℕ) (spec : SourceSpec) (old new : ActorState) (turns : List Turn) (before last : List Exchange)
    → SourceRests offers dests spec old new turns before last
source-rests offers dests spec old new turns before last took rests =
    let found = took-last offers dests spec old new rests.earlier rests.turn (subst (λ ts. TookTurns offers dests spec old new ts) rests.are took) in
    let tells = subst (λ (a : Option Turned). TellsSource spec found.0 new rests.turn.made found.1.ups found.1.credit (result_of a)) rests.nothing found.1.takes.tells in
    subst (λ m. IsEmptyTurn spec new m) (sym rests.last_are) (tells.empty refl refl)

dest-empty : (cause : Option GivenUp) (spec : DestSpec) (x y : DestState) (turn : Turn) → x.outage.given_up ≡ cause → turn.answer ≡ Some (record { did = false; idle = false })
    → SendsBy cause spec x y turn → (is_some y.outage.given_up ≡ true) ⊎ IsShownEmpty turn.made
dest-empty None spec x y turn is nothing (taken, (refused, k)) =
    let tells = subst (λ (a : Option Turned). DestTells x.outage y.outage turn.made taken x.drain y.drain (result_of a)) nothing k.tells in
    tells.empty refl refl
dest-empty (Some cause) spec x y turn is nothing k =
    inl (ap (λ o. is_some o.given_up) k.1.outage_stays ∙ ap is_some is)

pub dest-rests : (spec : DestSpec) (old new : DestState) (turns : List Turn) (before last : List Exchange) → DestRests spec old new turns before last
dest-rests spec old new turns before last took rests =
    let found = sent-last spec old new rests.earlier rests.turn (subst (λ ts. SentTurns spec old new ts) rests.are took) in
    subst (λ m. (is_some new.outage.given_up ≡ true) ⊎ IsShownEmpty m) (sym rests.last_are)
    (dest-empty found.0.outage.given_up spec found.0 new rests.turn refl rests.nothing found.1)
