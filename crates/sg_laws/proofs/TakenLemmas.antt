-- What a destination settles its outlet had taken before: over the calls of its own turns.
use Rattle.std.proofs.Common.{◌≡◌, ◌≢◌, ℕ, ◌+◌, ◌≤◌, List, [], ◌∷◌, ◌++◌, length, Ok, Err, Bool, true, false, ◌&&◌, refl, sym, ap, ◌∙◌, arith, subst, zero, suc}
use Rattle.std.proofs.lemmas.Bool.{eq-eqb}
use Rattle.std.proofs.lemmas.List.{append-nil}
use Rattle.std.proofs.lemmas.List.Elements.{filter-append}
use Rattle.sg_device.specs.Outlet.{OutletState}
use Rattle.sg_msg.specs.Message.{Content}
use Rattle.sg_machine.specs.Runs.{after_all}
use Rattle.sg_counter.specs.Exchanges.{Exchange, OfDest, caller_of, same_caller, calls_by}
use Rattle.sg_counter.specs.declared.answers.CoreFront.TheVariants.{Entries, Empty, Broken as FrontBroken}
use Rattle.sg_counter.specs.declared.answers.Settled.{Settled}
use Rattle.sg_counter.specs.declared.answers.Settled.TheVariants.{Done, NotFront, DiskFailed}
use Rattle.sg_counter.specs.declared.calls.CoreCall.{CoreCall}
use Rattle.sg_counter.specs.declared.calls.CoreCall.TheVariants.{Front, Settle}
use Rattle.sg_counter.specs.declared.calls.CoreReply.{CoreReply}
use Rattle.sg_counter.specs.declared.calls.CoreReply.TheVariants.{Front as FrontReply, Settled as SettledReply}
use Rattle.sg_core.specs.Answers.{IsBufferTold}
use Rattle.sg_actor.specs.DestTurns.{shown_by, shown_in, is_done, Refills, SettlesFirst, FollowsFront, DeliversFront}
use Rattle.sg_laws.specs.Calls.{settled_by, settled_in, sum}
use Rattle.sg_laws.specs.Fronts.{SettlesAreTaken}
use Rattle.sg_laws.specs.Turns.{Sending, AreSendings, calls_in}
use Rattle.sg_laws.proofs.ViewLemmas.{CoreView, GrowsInView, ShowsFront, StepOfView, RunViewed, run-split, refill-tail, can-settle}
use Rattle.sg_laws.proofs.ServeLemmas.{view}
use Rattle.sg_laws.proofs.SeenLemmas.{kept-own, ends}

-- An own settling shows the number of entries settled with it, behind those before.
abbrev ShowsOne : ℕ → CoreCall → CoreReply → Type 0
ShowsOne first (Settle d place n count) (SettledReply Done) = count ≡ first + n
ShowsOne first (Settle d place n count) (SettledReply DiskFailed) = count ≡ first + n
ShowsOne first call reply = Unit {0}

abbrev ShowsAll : ℕ → List Exchange → Type 0
ShowsAll first [] = Unit {0}
ShowsAll first (e ∷ es) = ShowsOne first e.call e.reply × ShowsAll (first + sum (settled_by e.call e.reply)) es

sum-append : (xs ys : List ℕ) → sum (xs ++ ys) ≡ sum xs + sum ys
sum-append [] ys = omega arith
sum-append (x ∷ xs) ys = let h = sum-append xs ys in omega (arith, h)

none-more : (n : ℕ) → n ≡ n + 0
none-more n = omega arith

shows-join : (first : ℕ) (xs ys : List Exchange) → ShowsAll first xs → ShowsAll (first + sum (settled_in xs)) ys → ShowsAll first (xs ++ ys)
shows-join first [] ys a b = subst (λ (k : ℕ). ShowsAll k ys) (sym (none-more first)) b
shows-join first (x ∷ xs) ys a b =
    let one = sum (settled_by x.call x.reply) in
    let both = sum-append (settled_by x.call x.reply) (settled_in xs) in
    let same : first + sum (settled_by x.call x.reply ++ settled_in xs) ≡ first + one + sum (settled_in xs) = omega (arith, both) in
    (a.0, shows-join (first + one) xs ys a.1 (subst (λ (k : ℕ). ShowsAll k ys) same b))

-- The calls of a turn.

-- each shows what it should, and so many entries are settled
record CountsTaken (first n : ℕ) (made : List Exchange) : Type 0 where
  shows : ShowsAll first made
  settles : sum (settled_in made) ≡ n

counts-none : (first n : ℕ) (made : List Exchange) → made ≡ [] → n ≡ 0 → CountsTaken first n made
counts-none first n made none nothing = subst (λ (es : List Exchange). CountsTaken first n es) (sym none) (record { shows = tt; settles = sym nothing })

counts-refill : (first d : ℕ) (well : Bool) (made : List Exchange) → Refills d well made → CountsTaken first 0 made
counts-refill first d true [] f = absurd f
counts-refill first d true (x ∷ []) f =
    let P : CoreCall → Type 0 = λ c. ShowsOne first c x.reply × (settled_by c x.reply ≡ []) in
    let one = subst P (sym f) (tt, refl) in
    record { shows = (one.0, tt); settles = ap (λ (ns : List ℕ). sum (ns ++ [])) one.1 }
counts-refill first d true (x ∷ y ∷ rest) f = absurd f
counts-refill first d false [] f = record { shows = tt; settles = refl }
counts-refill first d false (x ∷ rest) f = absurd f

-- a settling of what was shown is never refused
settle-shows : (T : Type 0) (d place n count first : ℕ) (reply : CoreReply) (a b c e : CoreView) (messages shown : List Content) → ShowsFront T a b (Entries place messages) → GrowsInView b c → StepOfView T c e (Settle d place (suc n) count) reply
    → shown ≡ shown_by reply → suc n ≤ length (messages ++ shown) → count ≡ first + suc n
    → ShowsOne first (Settle d place (suc n) count) reply × (settled_by (Settle d place (suc n) count) reply ≡ suc n ∷ [])
settle-shows T d place n count first (SettledReply Done) a b c e messages shown shows g s none h is = (is, refl)
settle-shows T d place n count first (SettledReply NotFront) a b c e messages shown shows g s none h is =
    let all : messages ++ shown ≡ messages = ap (λ ms. messages ++ ms) none ∙ append-nil messages in
    let few : suc n ≤ length messages = (let l = ap length all in omega (arith, l, h)) in
    let can = can-settle T a b c place (suc n) messages shows g few in
    absurd (s.1 can.0 can.1)
settle-shows T d place n count first (SettledReply DiskFailed) a b c e messages shown shows g s none h is = (is, refl)
settle-shows T d place n count first reply a b c e messages shown shows g s none h is = absurd s

counts-first : (T : Type 0) (d place taken count first : ℕ) (well : Bool) (made : List Exchange) (a b w : CoreView) (messages : List Content) → ShowsFront T a b (Entries place messages) → RunViewed T b made w → SettlesFirst d place taken count well made
    → taken ≤ length (messages ++ shown_in made) → count ≡ first + taken → CountsTaken first taken made
counts-first T d place zero count first well made a b w messages shows r f h is = counts-refill first d well made f
counts-first T d place (suc n) count first well [] a b w messages shows r f h is = absurd f
counts-first T d place (suc n) count first well (x ∷ made) a b w messages shows (c, (g, (e, (s, r)))) f h is =
    let tail = refill-tail T d (well && is_done x.reply) made e w f.1 r in
    let step = subst (λ call. StepOfView T c e call x.reply) f.0 s in
    let none : shown_in (x ∷ made) ≡ shown_by x.reply = ap (λ ms. shown_by x.reply ++ ms) tail.1 ∙ append-nil (shown_by x.reply) in
    let P : CoreCall → Type 0 = λ call. ShowsOne first call x.reply × (settled_by call x.reply ≡ suc n ∷ []) in
    let one = subst P (sym f.0) (settle-shows T d place n count first x.reply a b c e messages (shown_in (x ∷ made)) shows g step none h is) in
    let rest = counts-refill (first + sum (settled_by x.call x.reply)) d (well && is_done x.reply) made f.1 in
    let many : sum (settled_by x.call x.reply ++ settled_in made) ≡ suc n + sum (settled_in made) = ap (λ (ns : List ℕ). sum (ns ++ settled_in made)) one.1 in
    let all : sum (settled_by x.call x.reply ++ settled_in made) ≡ suc n = (let none' = rest.settles in omega (arith, many, none')) in
    record { shows = (one.0, rest.shows); settles = all }

counts-behind : (T : Type 0) (d most taken count first : ℕ) (well : Bool) (reply : CoreReply) (made : List Exchange) (a b w : CoreView) → StepOfView T a b (Front d most) reply → RunViewed T b made w → FollowsFront d taken count well reply made
    → taken ≤ length (shown_by reply ++ shown_in made) → count ≡ first + taken → CountsTaken first taken made
counts-behind T d most taken count first well (FrontReply (Ok (Entries place []))) made a b w s r f h is = counts-none first taken made f.0 f.1
counts-behind T d most taken count first well (FrontReply (Ok (Entries place (m ∷ ms)))) made a b w s r f h is = counts-first T d place taken count first well made a b w (m ∷ ms) s r f h is
counts-behind T d most taken count first well (FrontReply (Ok Empty)) made a b w s r f h is = counts-none first taken made f.0 f.1
counts-behind T d most taken count first well (FrontReply (Ok FrontBroken)) made a b w s r f h is = counts-none first taken made f.0 f.1
counts-behind T d most taken count first well (FrontReply (Err e)) made a b w s r f h is = counts-none first taken made f.0 f.1
counts-behind T d most taken count first well reply made a b w s r f h is = absurd s

counts-front : (first n d most : ℕ) (x : Exchange) (made : List Exchange) → x.call ≡ Front d most → CountsTaken first n made → CountsTaken first n (x ∷ made)
counts-front first n d most x made is h =
    let P : CoreCall → Type 0 = λ c. (ShowsOne first c x.reply × ShowsAll (first + sum (settled_by c x.reply)) made) × (sum (settled_by c x.reply ++ settled_in made) ≡ n) in
    let r = subst P (sym is) ((tt, subst (λ (k : ℕ). ShowsAll k made) (none-more first) h.shows), h.settles) in
    record { shows = r.0; settles = r.1 }

counts-turn : (T : Type 0) (d taken count first : ℕ) (well : Bool) (made : List Exchange) (v w : CoreView) → RunViewed T v made w → DeliversFront d taken count well made → taken ≤ length (shown_in made) → count ≡ first + taken → CountsTaken first taken made
counts-turn T d taken count first well [] v w r f h is = counts-none first taken [] refl f
counts-turn T d taken count first well (x ∷ made) v w (a, (g, (b, (s, r)))) f h is =
    counts-front first taken d f.0.0 x made f.0.1 (counts-behind T d f.0.0 taken count first well x.reply made a b w (subst (λ c. StepOfView T a b c x.reply) f.0.1 s) r f.1 h is)

-- All turns.

turns-show : (T : Type 0) (frame : Content → List ℕ) (d : ℕ) (turns : List Sending) (drain drain' : OutletState) (v w : CoreView) → AreSendings frame d turns drain drain' → RunViewed T v (calls_in turns) w → ShowsAll drain.count (calls_in turns)
turns-show T frame d [] drain drain' v w are r = tt
turns-show T frame d (s ∷ rest) drain drain' v w (between, (one, are)) r =
    let parts = run-split T v w s.made (calls_in rest) r in
    let rose = one.takes.rose in
    let first = counts-turn T d s.taken between.count drain.count s.well s.made v parts.0 parts.1.0 one.delivers one.within rose in
    let count : between.count ≡ drain.count + sum (settled_in s.made) = rose ∙ ap (λ n. drain.count + n) (sym first.settles) in
    shows-join drain.count s.made (calls_in rest) first.shows (subst (λ (k : ℕ). ShowsAll k (calls_in rest)) count (turns-show T frame d rest between drain' parts.0 w are parts.1.1))

-- One settling among them.

answer-shows : (first d place n count : ℕ) (answer : Settled) → ShowsOne first (Settle d place n count) (SettledReply answer) → answer ≢ NotFront → count ≡ first + n
answer-shows first d place n count Done h not = h
answer-shows first d place n count NotFront h not = absurd (not refl)
answer-shows first d place n count DiskFailed h not = h

shows-at : (first : ℕ) (xs later : List Exchange) (d place n count : ℕ) (answer : Settled) → ShowsAll first (xs ++ record { call = Settle d place n count; reply = SettledReply answer } ∷ later) → answer ≢ NotFront
    → count ≡ first + sum (settled_in xs) + n
shows-at first [] later d place n count answer h not =
    let shown = answer-shows first d place n count answer h.0 not in
    let whole : count ≡ first + 0 + n = omega (arith, shown) in
    whole
shows-at first (x ∷ xs) later d place n count answer h not =
    let both = sum-append (settled_by x.call x.reply) (settled_in xs) in
    let shown = shows-at (first + sum (settled_by x.call x.reply)) xs later d place n count answer h.1 not in
    let whole : count ≡ first + sum (settled_by x.call x.reply ++ settled_in xs) + n = omega (arith, both, shown) in
    whole

pub settles-taken : SettlesAreTaken
settles-taken old new made start before events d first ran there frame turns drain drain' calls are earlier later place n count answer at not =
    let T : Type 0 = IsBufferTold old.stores first.setup.buffer in
    let last = ends T d old new made (after_all start before) first ran.makes ran.stood.at there (λ t. t) in
    let run = subst (λ es. RunViewed T (view first) es (view last.dest)) calls last.run in
    let all = turns-show T frame d turns drain drain' (view first) (view last.dest) are run in
    let x : Exchange = record { call = Settle d place n count; reply = SettledReply answer } in
    let own : calls_by (OfDest d) made ≡ calls_by (OfDest d) earlier ++ x ∷ calls_by (OfDest d) later =
    ap (calls_by (OfDest d)) at
    ∙ filter-append (λ (e : Exchange). same_caller (OfDest d) (caller_of e.call)) earlier (x ∷ later)
    ∙ ap (λ es. calls_by (OfDest d) earlier ++ es) (kept-own d x later (eq-eqb d d refl)) in
    shows-at drain.count (calls_by (OfDest d) earlier) (calls_by (OfDest d) later) d place n count answer (subst (λ es. ShowsAll drain.count es) (sym calls ∙ own) all) not
