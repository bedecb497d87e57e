-- Turns at a seat, one more each time.
use Rattle.std.proofs.Common.{arith, ◌≡◌, ◌<◌, ◌+◌, List, [], ◌∷◌, ◌++◌, length, refl, ap, sym, ◌∙◌, subst, append_assoc, length-append, Option, Some, None}
use Rattle.std.proofs.lemmas.List.{append-nil}
use Rattle.std.specs.Prelude.{not, is_some, true, false}
use Rattle.sg_counter.specs.Exchanges.{Exchange, Makes, Caller}
use Rattle.sg_actor.specs.Bringing.{AllBy}
use Rattle.sg_actor.specs.declared.turned.Turned.{Turned}
use Rattle.sg_turns.specs.Turns.{Turn, calls_of}
use Rattle.sg_turns.specs.Serving.{busy_of, AreFed}
use Rattle.sg_hub.specs.Seats.{HubState, SeatState, SeatStep}
use Rattle.sg_crew.specs.Crews.{TookEach, EndsWith, WorkedOnce, WorkedWith}
use Rattle.sg_crew.specs.Workers.{IsTurnCounted, AreCounted}
use Rattle.sg_crew.specs.declared.worker.Worker.{Worker}
use Rattle.sg_turns.proofs.RoundLemmas.{calls-push}
use Rattle.sg_actor.proofs.TurnLemmas.{makes-append}

-- What a turn came to.

pub is-none : (a : Option Turned) → not (is_some a) ≡ true → a ≡ None
is-none None h = refl
is-none (Some turned) h = absurd (let wrong : false ≡ true = h in cc)

pub is-there : (a : Option Turned) → not (is_some a) ≡ false → (turned : Turned) × (a ≡ Some turned)
is-there None h = absurd (let wrong : true ≡ false = h in cc)
is-there (Some turned) h = (turned, refl)

-- Lists of turns.

pub calls-join : (xs ys : List Turn) → calls_of (xs ++ ys) ≡ calls_of xs ++ calls_of ys
calls-join [] ys = refl
calls-join (x ∷ xs) ys = ap (λ l. x.made ++ l) (calls-join xs ys) ∙ sym (append_assoc x.made (calls_of xs) (calls_of ys))

pub busy-join : (xs ys : List Turn) → busy_of (xs ++ ys) ≡ busy_of xs + busy_of ys
busy-join [] ys = omega arith
busy-join (x ∷ xs) ys = let rest = busy-join xs ys in omega (arith, rest)

pub fed-join : (xs ys : List Turn) → AreFed xs → AreFed ys → AreFed (xs ++ ys)
fed-join [] ys h k = k
fed-join (x ∷ xs) ys h k = (h.0, fed-join xs ys h.1 k)

pub ends-fed : (turns : List Turn) (turned : Turned) → EndsWith turns (Some turned) → AreFed turns
ends-fed turns turned e = subst AreFed (sym e.are) (fed-join e.earlier (e.turn ∷ []) e.fed (ap is_some e.answered, tt))

by-join : (who : Caller) (xs ys : List Exchange) → AllBy who xs → AllBy who ys → AllBy who (xs ++ ys)
by-join who [] ys h k = k
by-join who (x ∷ xs) ys h k = (h.0, by-join who xs ys h.1 k)

each-push : {A : Type 0} (takes : A → A → Turn → Type 0) (a b c : A) (turns : List Turn) (turn : Turn) → TookEach takes a b turns → takes b c turn → TookEach takes a c (turns ++ turn ∷ [])
each-push takes a b c [] turn h k = (c, (subst (λ x. takes x c turn) h k, refl))
each-push takes a b c (t ∷ turns) turn h k = (h.0, (h.1.0, each-push takes h.0 b c turns turn h.1.1 k))

-- The first turn of a phase, and one more.

module _ {A : Type 0} (takes : A → A → Turn → Type 0) (who : Caller) (hub : HubState) where
  pub worked-first : (a b : A) (old new : SeatState) (answer : Option Turned) (turn : Turn) → WorkedOnce (takes a b) who hub old new answer turn
      → WorkedWith (TookEach takes a b) who hub old new answer (turn ∷ [])
  worked-first a b old new answer turn w = record {
    took = (b, (w.took, refl));
    makes = subst (λ l. Makes (SeatStep hub) old l new) (sym (append-nil turn.made)) w.makes;
    own = subst (AllBy who) (sym (append-nil turn.made)) w.own;
    few = (let e = ap length (append-nil turn.made) in let few = w.few in omega (arith, e, few));
    ends = record { earlier = []; turn = turn; are = refl; fed = tt; answered = w.answered };
  }

  pub worked-more : (a b c : A) (old mid new : SeatState) (turned : Turned) (answer : Option Turned) (turns : List Turn) (turn : Turn)
      → WorkedWith (TookEach takes a b) who hub old mid (Some turned) turns → WorkedOnce (takes b c) who hub mid new answer turn
      → WorkedWith (TookEach takes a c) who hub old new answer (turns ++ turn ∷ [])
  worked-more a b c old mid new turned answer turns turn h w = record {
    took = each-push takes a b c turns turn h.took w.took;
    makes = subst (λ l. Makes (SeatStep hub) old l new) (sym (calls-push turns turn)) (makes-append (SeatStep hub) old mid new (calls_of turns) turn.made h.makes w.makes);
    own = subst (AllBy who) (sym (calls-push turns turn)) (by-join who (calls_of turns) turn.made h.own w.own);
    few = (let e = ap length (calls-push turns turn) in let s = length-append (calls_of turns) turn.made in let n = length-append turns (turn ∷ []) in
        let one = h.few in let few = w.few in omega (arith, e, s, n, one, few));
    ends = record { earlier = turns; turn = turn; are = refl; fed = ends-fed turns turned h.ends; answered = w.answered };
  }

pub counted-first : {A D : Type 0} (w v : Worker A D) (turn : Turn) → IsTurnCounted w v turn → w.turns ≡ 0 → w.busy ≡ 0 → AreCounted v (turn ∷ [])
counted-first w v turn c none calm =
    let turns = c.turns in
    let busy = c.busy in
    record { all = omega (arith, turns, none); busy = omega (arith, busy, calm); few = omega (arith, turns, none) }

pub counted-more : {A D : Type 0} (w v : Worker A D) (turns : List Turn) (turn : Turn) → AreCounted w turns → IsTurnCounted w v turn → w.turns < 256 → AreCounted v (turns ++ turn ∷ [])
counted-more w v turns turn h c below =
    let n = length-append turns (turn ∷ []) in
    let s = busy-join turns (turn ∷ []) in
    let all = h.all in
    let busy = h.busy in
    let one = c.turns in
    let more = c.busy in
    record { all = omega (arith, n, all, one); busy = omega (arith, s, busy, more); few = omega (arith, one, below) }
