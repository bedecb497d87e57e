-- The messages of a destination, settled and left, over the calls of its own turns.
use Rattle.std.proofs.Common.{◌≡◌, ◌≢◌, ℕ, ◌+◌, ◌≤◌, List, [], ◌∷◌, ◌++◌, length, length-append, Some, None, Option, Ok, Err, Result, Bool, true, false, ◌&&◌, refl, sym, ap, ◌∙◌, arith, map, take, drop, subst, append_assoc, zero, suc}
use Rattle.std.specs.Option.{option_map}
use Rattle.std.proofs.lemmas.List.{append-nil, map-append, take-map, take-append-le, length-take-le}
use Rattle.std.proofs.Math.Seq.{drop-append_seam}
use Rattle.sg_device.specs.Outlet.{OutletState}
use Rattle.sg_msg.specs.Message.{Content}
use Rattle.sg_counter.specs.Exchanges.{Exchange}
use Rattle.sg_counter.specs.declared.answers.CoreFront.{CoreFront}
use Rattle.sg_counter.specs.declared.answers.CoreFront.TheVariants.{Entries, Empty, Broken as FrontBroken}
use Rattle.sg_counter.specs.declared.answers.Settled.{Settled}
use Rattle.sg_counter.specs.declared.answers.Settled.TheVariants.{Done, NotFront, DiskFailed}
use Rattle.sg_counter.specs.declared.calls.CoreCall.{CoreCall}
use Rattle.sg_counter.specs.declared.calls.CoreCall.TheVariants.{Front, Settle, Refill}
use Rattle.sg_counter.specs.declared.calls.CoreReply.{CoreReply}
use Rattle.sg_counter.specs.declared.calls.CoreReply.TheVariants.{Front as FrontReply, Settled as SettledReply, Refilled}
use Rattle.sg_actor.specs.DestTurns.{shown_by, shown_in, is_done, Refills, SettlesFirst, FollowsFront, DeliversFront}
use Rattle.sg_laws.specs.Turns.{Sending, AreSendings, calls_in, shown_then_settled}

pub record CoreView : Type 0 where
  pub settled : List Content
  pub left : List Content

-- more came in behind those that are left
pub record GrowsInView (old new : CoreView) : Type 0 where
  pub settled : new.settled ≡ old.settled
  pub more : List Content
  pub left : new.left ≡ old.left ++ more

-- What an own call does, where T says that the messages shown are known.

abbrev pub ShowsFront : Type 0 → CoreView → CoreView → CoreFront → Type 0
ShowsFront T old new (Entries place messages) = (new ≡ old) × (place ≡ length old.settled) × (length messages ≤ length old.left) × (T → messages ≡ take (length messages) old.left)
ShowsFront T old new Empty = new ≡ old
ShowsFront T old new FrontBroken = new ≡ old

abbrev pub ShowsByCall : {E : Type 0} → Type 0 → CoreView → CoreView → Result CoreFront E → Type 0
ShowsByCall T old new (Ok front) = ShowsFront T old new front
ShowsByCall T old new (Err e) = new ≡ old

pub record SettlesSomeSeen (old new : CoreView) (n : ℕ) : Type 0 where
  pub enough : n ≤ length old.left
  pub settled : new.settled ≡ old.settled ++ take n old.left

abbrev pub SettlesBy : CoreView → CoreView → ℕ → ℕ → Settled → Type 0
SettlesBy old new place n Done = SettlesSomeSeen old new n
SettlesBy old new place n NotFront = (new ≡ old) × (place ≡ length old.settled → n ≤ length old.left → ⊥)
SettlesBy old new place n DiskFailed = SettlesSomeSeen old new n

abbrev pub StepOfView : Type 0 → CoreView → CoreView → CoreCall → CoreReply → Type 0
StepOfView T old new (Front d most) (FrontReply result) = ShowsByCall T old new result
StepOfView T old new (Settle d place n count) (SettledReply answer) = SettlesBy old new place n answer
StepOfView T old new (Refill d) (Refilled answer) = new ≡ old
StepOfView T old new call reply = ⊥

-- own calls, and between them what others bring
abbrev pub RunViewed : Type 0 → CoreView → List Exchange → CoreView → Type 0
RunViewed T v [] w = GrowsInView v w
RunViewed T v (e ∷ es) w = (a : CoreView) × (GrowsInView v a × ((b : CoreView) × (StepOfView T a b e.call e.reply × RunViewed T b es w)))

pub grows-none : (v : CoreView) → GrowsInView v v
grows-none v = record { settled = refl; more = []; left = sym (append-nil v.left) }

pub grows-then : (u v w : CoreView) → GrowsInView u v → GrowsInView v w → GrowsInView u w
grows-then u v w a b = record { settled = b.settled ∙ a.settled; more = a.more ++ b.more; left = b.left ∙ ap (λ xs. xs ++ b.more) a.left ∙ append_assoc u.left a.more b.more }

pub run-before : (T : Type 0) (u v w : CoreView) (es : List Exchange) → GrowsInView u v → RunViewed T v es w → RunViewed T u es w
run-before T u v w [] g r = grows-then u v w g r
run-before T u v w (e ∷ es) g (a, (h, rest)) = (a, (grows-then u v a g h, rest))

pub run-split : (T : Type 0) (v w : CoreView) (xs ys : List Exchange) → RunViewed T v (xs ++ ys) w → (m : CoreView) × (RunViewed T v xs m × RunViewed T m ys w)
run-split T v w [] ys r = (v, (grows-none v, r))
run-split T v w (x ∷ xs) ys (a, (g, (b, (s, r)))) = let rest = run-split T b w xs ys r in (rest.0, ((a, (g, (b, (s, rest.1.0)))), rest.1.1))

-- What was settled.

pub record Adds (T : Type 0) (old new : CoreView) (n : ℕ) (messages : List Content) : Type 0 where
  pub added : List Content
  pub settled : new.settled ≡ old.settled ++ added
  pub count : length added ≡ n
  pub told : T → added ≡ messages

adds-none : (T : Type 0) (v w : CoreView) → w.settled ≡ v.settled → Adds T v w 0 []
adds-none T v w h = record { added = []; settled = h ∙ sym (append-nil v.settled); count = refl; told = λ t. refl }

adds-then : (T : Type 0) (u v w : CoreView) (n k : ℕ) (ms ls : List Content) → Adds T u v n ms → Adds T v w k ls → Adds T u w (n + k) (ms ++ ls)
adds-then T u v w n k ms ls a b = record {
  added = a.added ++ b.added;
  settled = b.settled ∙ ap (λ xs. xs ++ b.added) a.settled ∙ append_assoc u.settled a.added b.added;
  count = length-append a.added b.added ∙ ap (λ x. x + length b.added) a.count ∙ ap (λ x. n + x) b.count;
  told = λ t. ap (λ xs. xs ++ b.added) (a.told t) ∙ ap (λ xs. ms ++ xs) (b.told t);
}

none-taken : (T : Type 0) (v w : CoreView) (taken : ℕ) (ms : List Content) → taken ≡ 0 → w.settled ≡ v.settled → Adds T v w taken (take taken ms)
none-taken T v w zero ms z h = adds-none T v w h
none-taken T v w (suc n) ms z h = absurd (omega (arith, z))

-- a refill
refill-step : (T : Type 0) (a b : CoreView) (d : ℕ) (reply : CoreReply) → StepOfView T a b (Refill d) reply → (b ≡ a) × (shown_by reply ≡ [])
refill-step T a b d (Refilled answer) s = (s, refl)
refill-step T a b d reply s = absurd s

pub refill-tail : (T : Type 0) (d : ℕ) (well : Bool) (made : List Exchange) (v w : CoreView) → Refills d well made → RunViewed T v made w → (w.settled ≡ v.settled) × (shown_in made ≡ [])
refill-tail T d true [] v w f r = absurd f
refill-tail T d true (x ∷ []) v w f (a, (g, (b, (s, r)))) =
    let one = refill-step T a b d x.reply (subst (λ c. StepOfView T a b c x.reply) f s) in
    (r.settled ∙ ap (λ (u : CoreView). u.settled) one.0 ∙ g.settled, ap (λ ms. ms ++ []) one.1)
refill-tail T d true (x ∷ y ∷ rest) v w f r = absurd f
refill-tail T d false [] v w f r = (r.settled, refl)
refill-tail T d false (x ∷ rest) v w f r = absurd f

-- a settle
settle-step : (T : Type 0) (a b : CoreView) (d place n count : ℕ) (reply : CoreReply) → StepOfView T a b (Settle d place n count) reply → place ≡ length a.settled → n ≤ length a.left → SettlesSomeSeen a b n × (shown_by reply ≡ [])
settle-step T a b d place n count (SettledReply Done) s p l = (s, refl)
settle-step T a b d place n count (SettledReply NotFront) s p l = absurd (s.1 p l)
settle-step T a b d place n count (SettledReply DiskFailed) s p l = (s, refl)
settle-step T a b d place n count reply s p l = absurd s

take-take : (n k : ℕ) (xs : List Content) → n ≤ k → take n (take k xs) ≡ take n xs
take-take zero k xs h = refl
take-take (suc n) zero xs h = absurd (omega (arith, h))
take-take (suc n) (suc k) [] h = refl
take-take (suc n) (suc k) (x ∷ xs) h = ap (λ ys. x ∷ ys) (take-take n k xs (omega (arith, h)))

-- the first of those left stay the first
first-stay : (v w : CoreView) (n : ℕ) → GrowsInView v w → n ≤ length v.left → (n ≤ length w.left) × (take n w.left ≡ take n v.left)
first-stay v w n g h =
    let count = ap length g.left ∙ length-append v.left g.more in
    (omega (arith, count, h), ap (take n) g.left ∙ take-append-le n v.left g.more h)

-- the messages that were shown, and then settled
shown-settled : (T : Type 0) (a b c e : CoreView) (place n : ℕ) (messages : List Content) → ShowsFront T a b (Entries place messages) → GrowsInView b c → n ≤ length messages → SettlesSomeSeen c e n
    → Adds T a e n (take n messages)
shown-settled T a b c e place n messages (same, _, few, told) g h s =
    let left : b.left ≡ a.left = ap (λ (u : CoreView). u.left) same in
    let enough : n ≤ length b.left = (let l = ap length left in omega (arith, l, few, h)) in
    let stay = first-stay b c n g enough in
    let first : take n c.left ≡ take n a.left = stay.1 ∙ ap (take n) left in
    record {
      added = take n c.left;
      settled = s.settled ∙ ap (λ xs. xs ++ take n c.left) (g.settled ∙ ap (λ (u : CoreView). u.settled) same);
      count = length-take-le n c.left stay.0;
      told = λ t. first ∙ sym (take-take n (length messages) a.left h) ∙ ap (take n) (sym (told t));
    }

pub can-settle : (T : Type 0) (a b c : CoreView) (place n : ℕ) (messages : List Content) → ShowsFront T a b (Entries place messages) → GrowsInView b c → n ≤ length messages → (place ≡ length c.settled) × (n ≤ length c.left)
can-settle T a b c place n messages (same, at, few, told) g h =
    let l = ap (λ (u : CoreView). length u.left) same in
    let stay = first-stay b c n g (omega (arith, l, few, h)) in
    (at ∙ ap (λ (u : CoreView). length u.settled) (sym same) ∙ ap length (sym g.settled), stay.0)

settles-more : (T : Type 0) (d place n count : ℕ) (reply : CoreReply) (a b c e w : CoreView) (messages shown : List Content) → ShowsFront T a b (Entries place messages) → GrowsInView b c → StepOfView T c e (Settle d place (suc n) count) reply
    → w.settled ≡ e.settled → messages ++ shown ≡ messages ++ shown_by reply → suc n ≤ length (messages ++ shown) → Adds T a w (suc n) (take (suc n) (messages ++ shown))
settles-more T d place n count (SettledReply answer) a b c e w messages shown shows g s same none h =
    let all : messages ++ shown ≡ messages = none ∙ append-nil messages in
    let few : suc n ≤ length messages = (let l = ap length all in omega (arith, l, h)) in
    let can = can-settle T a b c place (suc n) messages shows g few in
    let done = settle-step T c e d place (suc n) count (SettledReply answer) s can.0 can.1 in
    let one = shown-settled T a b c e place (suc n) messages shows g few done.0 in
    record { added = one.added; settled = same ∙ one.settled; count = one.count; told = λ t. one.told t ∙ ap (take (suc n)) (sym all) }
settles-more T d place n count reply a b c e w messages shown shows g s same none h = absurd s

-- what a turn settles behind its front
settles-first : (T : Type 0) (d place taken count : ℕ) (well : Bool) (made : List Exchange) (a b w : CoreView) (messages : List Content) → ShowsFront T a b (Entries place messages) → RunViewed T b made w
    → SettlesFirst d place taken count well made → taken ≤ length (messages ++ shown_in made) → Adds T a w taken (take taken (messages ++ shown_in made))
settles-first T d place zero count well made a b w messages shows r f h =
    let t = refill-tail T d well made b w f r in
    adds-none T a w (t.0 ∙ ap (λ (u : CoreView). u.settled) shows.0)
settles-first T d place (suc n) count well [] a b w messages shows r f h = absurd f
settles-first T d place (suc n) count well (x ∷ made) a b w messages shows (c, (g, (e, (s, r)))) f h =
    let tail = refill-tail T d (well && is_done x.reply) made e w f.1 r in
    let step = subst (λ call. StepOfView T c e call x.reply) f.0 s in
    let none : messages ++ shown_in (x ∷ made) ≡ messages ++ shown_by x.reply = ap (λ ms. messages ++ (shown_by x.reply ++ ms)) tail.1 ∙ ap (λ ms. messages ++ ms) (append-nil (shown_by x.reply)) in
    settles-more T d place n count x.reply a b c e w messages (shown_in (x ∷ made)) shows g step tail.0 none h

-- a turn
nothing-made : (T : Type 0) (v a b w : CoreView) (taken : ℕ) (made : List Exchange) (ms : List Content) → GrowsInView v a → b ≡ a → RunViewed T b made w → (made ≡ []) × (taken ≡ 0) → Adds T v w taken (take taken ms)
nothing-made T v a b w taken made ms g same r (none, z) =
    let last : GrowsInView b w = subst (λ es. RunViewed T b es w) none r in
    none-taken T v w taken ms z (last.settled ∙ ap (λ (u : CoreView). u.settled) same ∙ g.settled)

-- after what others brought in
adds-before : (T : Type 0) (v a w : CoreView) (n : ℕ) (ms : List Content) → GrowsInView v a → Adds T a w n ms → Adds T v w n ms
adds-before T v a w n ms g h = record { added = h.added; settled = h.settled ∙ ap (λ xs. xs ++ h.added) g.settled; count = h.count; told = h.told }

front-adds : (T : Type 0) (d most taken count : ℕ) (well : Bool) (reply : CoreReply) (made : List Exchange) (v a b w : CoreView) → GrowsInView v a → StepOfView T a b (Front d most) reply → RunViewed T b made w → FollowsFront d taken count well reply made
    → taken ≤ length (shown_by reply ++ shown_in made) → Adds T v w taken (take taken (shown_by reply ++ shown_in made))
front-adds T d most taken count well (FrontReply (Ok (Entries place []))) made v a b w g s r f h = nothing-made T v a b w taken made (shown_in made) g s.0 r f
front-adds T d most taken count well (FrontReply (Ok (Entries place (m ∷ ms)))) made v a b w g s r f h =
    adds-before T v a w taken (take taken ((m ∷ ms) ++ shown_in made)) g (settles-first T d place taken count well made a b w (m ∷ ms) s r f h)
front-adds T d most taken count well (FrontReply (Ok Empty)) made v a b w g s r f h = nothing-made T v a b w taken made (shown_in made) g s r f
front-adds T d most taken count well (FrontReply (Ok FrontBroken)) made v a b w g s r f h = nothing-made T v a b w taken made (shown_in made) g s r f
front-adds T d most taken count well (FrontReply (Err e)) made v a b w g s r f h = nothing-made T v a b w taken made (shown_in made) g s r f
front-adds T d most taken count well reply made v a b w g s r f h = absurd s

turn-adds : (T : Type 0) (d taken count : ℕ) (well : Bool) (made : List Exchange) (v w : CoreView) → RunViewed T v made w → DeliversFront d taken count well made → taken ≤ length (shown_in made) → Adds T v w taken (take taken (shown_in made))
turn-adds T d taken count well [] v w r f h = none-taken T v w taken [] f r.settled
turn-adds T d taken count well (x ∷ made) v w (a, (g, (b, (s, r)))) f h =
    front-adds T d f.0.0 taken count well x.reply made v a b w g (subst (λ c. StepOfView T a b c x.reply) f.0.1 s) r f.1 h

-- Turns.

abbrev pub taken_in : List Sending → ℕ
taken_in [] = 0
taken_in (s ∷ rest) = s.taken + taken_in rest

abbrev pub messages_in : List Sending → List Content
messages_in [] = []
messages_in (s ∷ rest) = take s.taken (shown_in s.made) ++ messages_in rest

pub turns-add : (T : Type 0) (frame : Content → List ℕ) (d : ℕ) (turns : List Sending) (drain drain' : OutletState) (v w : CoreView) → AreSendings frame d turns drain drain' → RunViewed T v (calls_in turns) w
    → Adds T v w (taken_in turns) (messages_in turns)
turns-add T frame d [] drain drain' v w are r = adds-none T v w r.settled
turns-add T frame d (s ∷ rest) drain drain' v w (between, (one, are)) r =
    let parts = run-split T v w s.made (calls_in rest) r in
    let first = turn-adds T d s.taken between.count s.well s.made v parts.0 parts.1.0 one.delivers one.within in
    adds-then T v parts.0 w s.taken (taken_in rest) (take s.taken (shown_in s.made)) (messages_in rest) first (turns-add T frame d rest between drain' parts.0 w are parts.1.1)

-- what the outlet took
pub turns-count : (frame : Content → List ℕ) (d : ℕ) (turns : List Sending) (drain drain' : OutletState) → AreSendings frame d turns drain drain' → drain'.count ≡ drain.count + taken_in turns
turns-count frame d [] drain drain' same = let e = ap (λ (o : OutletState). o.count) same in omega (arith, e)
turns-count frame d (s ∷ rest) drain drain' (between, (one, are)) = let r = turns-count frame d rest between drain' are in let o = one.takes.rose in omega (arith, r, o)

append-told : (told : Option (List (List ℕ))) (xs ys : List (List ℕ)) → option_map (λ (zs : List (List ℕ)). zs ++ ys) (option_map (λ (zs : List (List ℕ)). zs ++ xs) told) ≡ option_map (λ (zs : List (List ℕ)). zs ++ (xs ++ ys)) told
append-told None xs ys = refl
append-told (Some zs) xs ys = ap Some (append_assoc zs xs ys)

same-told : (told : Option (List (List ℕ))) → told ≡ option_map (λ (zs : List (List ℕ)). zs ++ []) told
same-told None = refl
same-told (Some zs) = ap Some (sym (append-nil zs))

pub turns-taken : (frame : Content → List ℕ) (d : ℕ) (turns : List Sending) (drain drain' : OutletState) → AreSendings frame d turns drain drain'
    → drain'.taken ≡ option_map (λ (zs : List (List ℕ)). zs ++ map frame (messages_in turns)) drain.taken
turns-taken frame d [] drain drain' same = ap (λ (o : OutletState). o.taken) same ∙ same-told drain.taken
turns-taken frame d (s ∷ rest) drain drain' (between, (one, are)) =
    let first = take s.taken (shown_in s.made) in
    let frames : map frame (first ++ messages_in rest) ≡ take s.taken (map frame (shown_in s.made)) ++ map frame (messages_in rest) =
    map-append frame first (messages_in rest) ∙ ap (λ fs. fs ++ map frame (messages_in rest)) (sym (take-map frame s.taken (shown_in s.made))) in
    turns-taken frame d rest between drain' are
    ∙ ap (option_map (λ (zs : List (List ℕ)). zs ++ map frame (messages_in rest))) one.takes.told
    ∙ append-told drain.taken (take s.taken (map frame (shown_in s.made))) (map frame (messages_in rest))
    ∙ ap (λ fs. option_map (λ (zs : List (List ℕ)). zs ++ fs) drain.taken) (sym frames)

-- A front, and the settle behind it.

pub record Longer (old new : CoreView) : Type 0 where
  pub added : List Content
  pub settled : new.settled ≡ old.settled ++ added

longer-same : (v w : CoreView) → w.settled ≡ v.settled → Longer v w
longer-same v w h = record { added = []; settled = h ∙ sym (append-nil v.settled) }

longer-then : (u v w : CoreView) → Longer u v → Longer v w → Longer u w
longer-then u v w a b = record { added = a.added ++ b.added; settled = b.settled ∙ ap (λ xs. xs ++ b.added) a.settled ∙ append_assoc u.settled a.added b.added }

longer-settle : (a b : CoreView) (n : ℕ) → SettlesSomeSeen a b n → Longer a b
longer-settle a b n s = record { added = take n a.left; settled = s.settled }

longer-step : (T : Type 0) (a b : CoreView) (call : CoreCall) (reply : CoreReply) → StepOfView T a b call reply → Longer a b
longer-step T a b (Front d most) (FrontReply (Ok (Entries place messages))) s = longer-same a b (ap (λ (u : CoreView). u.settled) s.0)
longer-step T a b (Front d most) (FrontReply (Ok Empty)) s = longer-same a b (ap (λ (u : CoreView). u.settled) s)
longer-step T a b (Front d most) (FrontReply (Ok FrontBroken)) s = longer-same a b (ap (λ (u : CoreView). u.settled) s)
longer-step T a b (Front d most) (FrontReply (Err e)) s = longer-same a b (ap (λ (u : CoreView). u.settled) s)
longer-step T a b (Settle d place n count) (SettledReply Done) s = longer-settle a b n s
longer-step T a b (Settle d place n count) (SettledReply NotFront) s = longer-same a b (ap (λ (u : CoreView). u.settled) s.0)
longer-step T a b (Settle d place n count) (SettledReply DiskFailed) s = longer-settle a b n s
longer-step T a b (Refill d) (Refilled answer) s = longer-same a b (ap (λ (u : CoreView). u.settled) s)
longer-step T a b call reply s = absurd s

longer-run : (T : Type 0) (v w : CoreView) (es : List Exchange) → RunViewed T v es w → Longer v w
longer-run T v w [] r = longer-same v w r.settled
longer-run T v w (e ∷ es) (a, (g, (b, (s, r)))) = longer-then v a w (longer-same v a g.settled) (longer-then a b w (longer-step T a b e.call e.reply s) (longer-run T b w es r))

take-whole : (xs : List Content) → take (length xs) xs ≡ xs
take-whole [] = refl
take-whole (x ∷ xs) = ap (λ ys. x ∷ ys) (take-whole xs)

-- the entries of these places
at-place : (T : Type 0) (a e w : CoreView) (place n : ℕ) (ms : List Content) → place ≡ length a.settled → Adds T a e n ms → Longer e w → T → take n (drop place w.settled) ≡ ms
at-place T a e w place n ms at adds more t =
    let all : w.settled ≡ a.settled ++ (adds.added ++ more.added) = more.settled ∙ ap (λ xs. xs ++ more.added) adds.settled ∙ append_assoc a.settled adds.added more.added in
    ap (λ k. take n (drop k w.settled)) at
    ∙ ap (λ xs. take n (drop (length a.settled) xs)) all
    ∙ ap (take n) (drop-append_seam a.settled (adds.added ++ more.added))
    ∙ ap (λ k. take k (adds.added ++ more.added)) (sym adds.count)
    ∙ take-append-le (length adds.added) adds.added more.added (omega arith)
    ∙ take-whole adds.added
    ∙ adds.told t

done-of : (T : Type 0) (a b c e : CoreView) (place n : ℕ) (messages : List Content) (answer : Settled) → ShowsFront T a b (Entries place messages) → GrowsInView b c → n ≤ length messages → SettlesBy c e place n answer
    → SettlesSomeSeen c e n × (answer ≢ NotFront)
done-of T a b c e place n messages Done shows g h s = (s, λ q. let wrong : Done ≡ NotFront = q in cc)
done-of T a b c e place n messages NotFront shows g h s = let can = can-settle T a b c place n messages shows g h in absurd (s.1 can.0 can.1)
done-of T a b c e place n messages DiskFailed shows g h s = (s, λ q. let wrong : DiskFailed ≡ NotFront = q in cc)

shown-at : (T : Type 0) (v w : CoreView) (d most place n count : ℕ) (messages : List Content) (answer : Settled) (later : List Exchange) → RunViewed T v (shown_then_settled d most place n count messages answer ++ later) w
    → n ≤ length messages → (answer ≢ NotFront) × (T → take n (drop place w.settled) ≡ take n messages)
shown-at T v w d most place n count messages answer later (a, (g, (b, (shows, (c, (g2, (e, (s, rest)))))))) h =
    let done = done-of T a b c e place n messages answer shows g2 h s in
    let adds = shown-settled T a b c e place n messages shows g2 h done.0 in
    (done.1, λ t. at-place T a e w place n (take n messages) shows.1 adds (longer-run T e w later rest) t)

pub shown-next : (T : Type 0) (v w : CoreView) (d most place n count : ℕ) (messages : List Content) (answer : Settled) (earlier later : List Exchange) → RunViewed T v (earlier ++ (shown_then_settled d most place n count messages answer ++ later)) w
    → n ≤ length messages → (answer ≢ NotFront) × (T → take n (drop place w.settled) ≡ take n messages)
shown-next T v w d most place n count messages answer earlier later run h =
    let parts = run-split T v w earlier (shown_then_settled d most place n count messages answer ++ later) run in
    shown-at T parts.0 w d most place n count messages answer later parts.1.1 h
