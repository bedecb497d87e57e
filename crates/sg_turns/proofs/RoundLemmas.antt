-- Rounds, and one round after others.
use Rattle.std.proofs.Common.{arith, ◌≡◌, ◌≤◌, ◌<◌, ◌+◌, ℕ, zero, suc, Bool, true, false, List, [], ◌∷◌, ◌++◌, length, refl, ap, sym, ◌∙◌, subst, append_assoc, length-append, Some, inl, inr}
use Rattle.std.proofs.lemmas.Bool.{cases_eq, or_cases, or_parts}
use Rattle.std.proofs.lemmas.List.{append-nil}
use Rattle.std.specs.Prelude.{not, is_some}
use Rattle.sg_list.proofs.ListLemmas.{slice_get-some, slice_get-below, some-same}
use Rattle.sg_counter.specs.Exchanges.{Exchange, Caller, OfSource, OfDest, calls_by}
use Rattle.sg_counter.specs.declared.calls.CoreCall.{CoreCall}
use Rattle.sg_counter.specs.declared.calls.CoreReply.{CoreReply}
use Rattle.sg_actor.specs.Reading.{one_if}
use Rattle.sg_actor.specs.declared.turned.Turned.{Turned}
use Rattle.sg_turns.specs.Turns.{Turn, calls_of}
use Rattle.sg_turns.specs.Serving.{IsActor, is_busy, is_busy_answer, busy_of, sum_below, busy_turns, AreFed, Took, ServesWith}
use Rattle.sg_turns.specs.Rounds.{both, TellsRound, TookFirst, TookRoundWith, RunsOn}
use Rattle.sg_turns.specs.declared.ended.Ended.TheVariants.{Quiet, RoundsSpent, NoMemory}
use Rattle.sg_turns.specs.declared.round.Round.{Round}
use Rattle.sg_turns.proofs.TurnLemmas.{calls-append}
use Rattle.sg_actor.proofs.TurnLemmas.{makes-append}

-- Callers.

pub source-same : (i j : ℕ) → OfSource i ≡ OfSource j → i ≡ j
source-same i j e = cc

pub dest-same : (d e : ℕ) → OfDest d ≡ OfDest e → d ≡ e
dest-same d e q = cc

source-not : (i d : ℕ) → OfSource i ≡ OfDest d → ⊥
source-not i d e = let wrong : OfSource i ≡ OfDest d = e in cc

dest-not : (d i : ℕ) → OfDest d ≡ OfSource i → ⊥
dest-not d i e = let wrong : OfDest d ≡ OfSource i = e in cc

pub actor-as : (n m n' m' : ℕ) (who : Caller) → n ≡ n' → m ≡ m' → IsActor n m who → IsActor n' m' who
actor-as n m n' m' who e q h = subst (λ k. IsActor k m' who) e (subst (λ k. IsActor n k who) q h)

-- A round of its two parts.

abbrev pub turn-of : (ℕ → Turn) → (ℕ → Turn) → Caller → Turn
turn-of f g (OfSource i) = f i
turn-of f g (OfDest d) = g d

calm-of : (n m : ℕ) (f g : ℕ → Turn) (read sent : Round) → TellsRound (λ i. i < n) f read → TellsRound (λ d. d < m) g sent
    → read.busy ≡ false → sent.busy ≡ false → (who : Caller) → IsActor n m who → is_busy (turn-of f g who) ≡ false
calm-of n m f g read sent h k a b (OfSource i) below = h.calm a i below
calm-of n m f g read sent h k a b (OfDest d) below = k.calm b d below

fed-of : (n m : ℕ) (f g : ℕ → Turn) (read sent : Round) → TellsRound (λ i. i < n) f read → TellsRound (λ d. d < m) g sent
    → read.starved ≡ false → sent.starved ≡ false → (who : Caller) → IsActor n m who → (turned : Turned) × ((turn-of f g who).answer ≡ Some turned)
fed-of n m f g read sent h k a b (OfSource i) below = h.fed a i below
fed-of n m f g read sent h k a b (OfDest d) below = k.fed b d below

pub tells-of : (n m : ℕ) (f g : ℕ → Turn) (read sent : Round) → TellsRound (λ i. i < n) f read → TellsRound (λ d. d < m) g sent
    → TellsRound (IsActor n m) (turn-of f g) (both read sent)
tells-of n m f g read sent h k = record {
  busy = (λ b. elim (or_cases read.busy sent.busy b) [
    | inl e ↦ (let x = h.busy e in (OfSource x.0, (x.1.0, x.1.1)))
    | inr e ↦ (let x = k.busy e in (OfDest x.0, (x.1.0, x.1.1)))
  ]);
  calm = (λ b who actor. let parts = or_parts read.busy sent.busy b in calm-of n m f g read sent h k parts.0 parts.1 who actor);
  starved = (λ b. elim (or_cases read.starved sent.starved b) [
    | inl e ↦ (let x = h.starved e in (OfSource x.0, (x.1.0, x.1.1)))
    | inr e ↦ (let x = k.starved e in (OfDest x.0, (x.1.0, x.1.1)))
  ]);
  fed = (λ b who actor. let parts = or_parts read.starved sent.starved b in fed-of n m f g read sent h k parts.0 parts.1 who actor);
}

calls-in : {A B S : Type 0} (source : A → A → Turn → Type 0) (dest : B → B → Turn → Type 0) (step : S → CoreCall → CoreReply → S → Type 0) (c b c' : S)
    (sources sources' : List A) (dests dests' : List B) (read sent : Round) (xs ys : List Exchange) (f g : ℕ → Turn)
    → TookFirst source OfSource step c b sources sources' (length sources) read xs f
    → TookFirst dest OfDest step b c' dests dests' (length dests) sent ys g
    → (who : Caller) → IsActor (length sources) (length dests) who → calls_by who (xs ++ ys) ≡ (turn-of f g who).made
calls-in source dest step c b c' sources sources' dests dests' read sent xs ys f g h k (OfSource i) below =
    calls-append (OfSource i) xs ys
    ∙ (ap (λ l. calls_by (OfSource i) xs ++ l) (k.others (OfSource i) (λ d under e. source-not i d e))
    ∙ (append-nil (calls_by (OfSource i) xs) ∙ h.calls i below))
calls-in source dest step c b c' sources sources' dests dests' read sent xs ys f g h k (OfDest d) below =
    calls-append (OfDest d) xs ys
    ∙ (ap (λ l. l ++ calls_by (OfDest d) ys) (h.others (OfDest d) (λ i under e. dest-not d i e))
    ∙ k.calls d below)

others-in : {A B S : Type 0} (source : A → A → Turn → Type 0) (dest : B → B → Turn → Type 0) (step : S → CoreCall → CoreReply → S → Type 0) (c b c' : S)
    (sources sources' : List A) (dests dests' : List B) (read sent : Round) (xs ys : List Exchange) (f g : ℕ → Turn)
    → TookFirst source OfSource step c b sources sources' (length sources) read xs f
    → TookFirst dest OfDest step b c' dests dests' (length dests) sent ys g
    → (who : Caller) → (IsActor (length sources) (length dests) who → ⊥) → calls_by who (xs ++ ys) ≡ []
others-in source dest step c b c' sources sources' dests dests' read sent xs ys f g h k (OfSource i) other =
    calls-append (OfSource i) xs ys
    ∙ (ap (λ l. l ++ calls_by (OfSource i) ys) (h.others (OfSource i) (λ j under e. other (subst (λ q. q < length sources) (sym (source-same i j e)) under)))
    ∙ k.others (OfSource i) (λ d under e. source-not i d e))
others-in source dest step c b c' sources sources' dests dests' read sent xs ys f g h k (OfDest d) other =
    calls-append (OfDest d) xs ys
    ∙ (ap (λ l. l ++ calls_by (OfDest d) ys) (h.others (OfDest d) (λ i under e. dest-not d i e))
    ∙ k.others (OfDest d) (λ j under e. other (subst (λ q. q < length dests) (sym (dest-same d j e)) under)))

pub round-of : {A B S : Type 0} (source : A → A → Turn → Type 0) (dest : B → B → Turn → Type 0) (step : S → CoreCall → CoreReply → S → Type 0) (c b c' : S)
    (sources sources' : List A) (dests dests' : List B) (read sent : Round) (xs ys : List Exchange) (f g : ℕ → Turn)
    → TookFirst source OfSource step c b sources sources' (length sources) read xs f
    → TookFirst dest OfDest step b c' dests dests' (length dests) sent ys g
    → TookRoundWith source dest step c c' sources sources' dests dests' (both read sent) (xs ++ ys) (turn-of f g)
round-of source dest step c b c' sources sources' dests dests' read sent xs ys f g h k = record {
  makes = makes-append step c b c' xs ys h.makes k.makes;
  all_sources = h.all;
  all_dests = k.all;
  sources_took = λ i x y before after. h.each i x y (slice_get-below sources i x before) before after;
  dests_took = λ d x y before after. k.each d x y (slice_get-below dests d x before) before after;
  calls = calls-in source dest step c b c' sources sources' dests dests' read sent xs ys f g h k;
  others = others-in source dest step c b c' sources sources' dests dests' read sent xs ys f g h k;
  tells = tells-of (length sources) (length dests) f g read sent h.tells k.tells;
}

-- One round more.

abbrev pub more : (Caller → List Turn) → (Caller → Turn) → Caller → List Turn
more account turn who = account who ++ turn who ∷ []

pub calls-push : (turns : List Turn) (t : Turn) → calls_of (turns ++ t ∷ []) ≡ calls_of turns ++ t.made
calls-push [] t = append-nil t.made
calls-push (u ∷ us) t = ap (λ l. u.made ++ l) (calls-push us t) ∙ sym (append_assoc u.made (calls_of us) t.made)

pub took-nothing : {A B S : Type 0} (source : A → A → List Turn → Type 0) (dest : B → B → List Turn → Type 0) (step : S → CoreCall → CoreReply → S → Type 0) (c : S)
    (sources : List A) (dests : List B) → ((a : A) → source a a []) → ((b : B) → dest b b [])
    → RunsOn source dest step c c sources sources dests dests [] (λ who. []) 0
took-nothing source dest step c sources dests none rest = record {
  took = record {
    makes = refl;
    all_sources = refl;
    all_dests = refl;
    sources_took = λ i a b before after. subst (λ x. source a x []) (some-same a b (sym before ∙ after)) (none a);
    dests_took = λ d a b before after. subst (λ x. dest a x []) (some-same a b (sym before ∙ after)) (rest a);
    calls = λ who actor. refl;
    others = λ who other. refl;
    turns = λ who actor. refl;
  };
  fed = λ who actor. tt;
  busy = omega arith;
  last = λ above. absurd (omega (arith, above));
}

pub took-round : {A B S : Type 0} (source : A → A → List Turn → Type 0) (dest : B → B → List Turn → Type 0) (takes : A → A → Turn → Type 0) (sends : B → B → Turn → Type 0)
    (step : S → CoreCall → CoreReply → S → Type 0) (c b c' : S) (sources mid sources' : List A) (dests between dests' : List B) (round : Round) (xs ys : List Exchange)
    (account : Caller → List Turn) (turn : Caller → Turn) (number : ℕ)
    → ((x y z : A) (ts : List Turn) (t : Turn) → source x y ts → takes y z t → source x z (ts ++ t ∷ []))
    → ((x y z : B) (ts : List Turn) (t : Turn) → dest x y ts → sends y z t → dest x z (ts ++ t ∷ []))
    → Took source dest step c b sources mid dests between xs account number
    → TookRoundWith takes sends step b c' mid sources' between dests' round ys turn
    → Took source dest step c c' sources sources' dests dests' (xs ++ ys) (more account turn) (number + 1)
took-round source dest takes sends step c b c' sources mid sources' dests between dests' round xs ys account turn number join meet h k = record {
  makes = makes-append step c b c' xs ys h.makes k.makes;
  all_sources = k.all_sources ∙ h.all_sources;
  all_dests = k.all_dests ∙ h.all_dests;
  sources_took = (λ i x z before after.
      let below = slice_get-below sources i x before in
      let y = slice_get-some mid i (omega (arith, below, h.all_sources)) in
      join x y.0 z (account (OfSource i)) (turn (OfSource i)) (h.sources_took i x y.0 before y.1) (k.sources_took i y.0 z y.1 after));
  dests_took = (λ d x z before after.
      let below = slice_get-below dests d x before in
      let y = slice_get-some between d (omega (arith, below, h.all_dests)) in
      meet x y.0 z (account (OfDest d)) (turn (OfDest d)) (h.dests_took d x y.0 before y.1) (k.dests_took d y.0 z y.1 after));
  calls = (λ who actor.
      calls-append who xs ys ∙ (ap (λ l. l ++ calls_by who ys) (h.calls who actor)
      ∙ (ap (λ l. calls_of (account who) ++ l) (k.calls who (actor-as (length sources) (length dests) (length mid) (length between) who (sym h.all_sources) (sym h.all_dests) actor))
      ∙ sym (calls-push (account who) (turn who)))));
  others = (λ who other.
      calls-append who xs ys ∙ (ap (λ l. l ++ calls_by who ys) (h.others who other)
      ∙ k.others who (λ actor. other (actor-as (length mid) (length between) (length sources) (length dests) who h.all_sources h.all_dests actor))));
  turns = (λ who actor. length-append (account who) (turn who ∷ []) ∙ ap (λ n. n + 1) (h.turns who actor));
}

-- How many turns did something.

busy-push : (turns : List Turn) (t : Turn) → busy_of (turns ++ t ∷ []) ≡ busy_of turns + one_if (is_busy t)
busy-push [] t = omega arith
busy-push (u ∷ us) t = let rest = busy-push us t in omega (arith, rest)

sum-le : (n : ℕ) (f g : ℕ → ℕ) → ((i : ℕ) → f i ≤ g i) → sum_below n f ≤ sum_below n g
sum-le zero f g h = omega arith
sum-le (suc n) f g h = let rest = sum-le n f g h in omega (arith, rest, h n)

sum-lt : (n : ℕ) (f g : ℕ → ℕ) (k : ℕ) → ((i : ℕ) → f i ≤ g i) → k < n → f k + 1 ≤ g k → sum_below n f + 1 ≤ sum_below n g
sum-lt zero f g k h below one = absurd (omega (arith, below))
sum-lt (suc n) f g k h below one = elim (cases_eq k n) [
  | inl e ↦ (let rest = sum-le n f g h in let last : f n + 1 ≤ g n = subst (λ j. f j + 1 ≤ g j) e one in omega (arith, rest, last))
  | inr d ↦ (let rest = sum-lt n f g k h (omega (arith, below, d)) one in omega (arith, rest, h n))
]

busy-le : (account : Caller → List Turn) (turn : Caller → Turn) (who : Caller) → busy_of (account who) ≤ busy_of (more account turn who)
busy-le account turn who = let e = busy-push (account who) (turn who) in omega (arith, e)

busy-lt : (account : Caller → List Turn) (turn : Caller → Turn) (who : Caller) → is_busy (turn who) ≡ true → busy_of (account who) + 1 ≤ busy_of (more account turn who)
busy-lt account turn who is =
    let e = busy-push (account who) (turn who) in
    let one : one_if (is_busy (turn who)) ≡ 1 = ap one_if is in
    omega (arith, e, one)

busy-turns-more : (n m : ℕ) (account : Caller → List Turn) (turn : Caller → Turn) (who : Caller) → IsActor n m who → is_busy (turn who) ≡ true
    → busy_turns n m account + 1 ≤ busy_turns n m (more account turn)
busy-turns-more n m account turn (OfSource i) below is =
    let one = sum-lt n (λ j. busy_of (account (OfSource j))) (λ j. busy_of (more account turn (OfSource j))) i (λ j. busy-le account turn (OfSource j)) below (busy-lt account turn (OfSource i) is) in
    let rest = sum-le m (λ d. busy_of (account (OfDest d))) (λ d. busy_of (more account turn (OfDest d))) (λ d. busy-le account turn (OfDest d)) in
    omega (arith, one, rest)
busy-turns-more n m account turn (OfDest d) below is =
    let one = sum-lt m (λ j. busy_of (account (OfDest j))) (λ j. busy_of (more account turn (OfDest j))) d (λ j. busy-le account turn (OfDest j)) below (busy-lt account turn (OfDest d) is) in
    let rest = sum-le n (λ i. busy_of (account (OfSource i))) (λ i. busy_of (more account turn (OfSource i))) (λ i. busy-le account turn (OfSource i)) in
    omega (arith, one, rest)

busy-turns-le : (n m : ℕ) (account : Caller → List Turn) (turn : Caller → Turn) → busy_turns n m account ≤ busy_turns n m (more account turn)
busy-turns-le n m account turn =
    let one = sum-le n (λ i. busy_of (account (OfSource i))) (λ i. busy_of (more account turn (OfSource i))) (λ i. busy-le account turn (OfSource i)) in
    let rest = sum-le m (λ d. busy_of (account (OfDest d))) (λ d. busy_of (more account turn (OfDest d))) (λ d. busy-le account turn (OfDest d)) in
    omega (arith, one, rest)

fed-push : (turns : List Turn) (t : Turn) (turned : Turned) → t.answer ≡ Some turned → AreFed turns → AreFed (turns ++ t ∷ [])
fed-push [] t turned is h = (ap is_some is, tt)
fed-push (u ∷ us) t turned is h = (h.0, fed-push us t turned is h.1)

pub runs-round : {A B S : Type 0} (source : A → A → List Turn → Type 0) (dest : B → B → List Turn → Type 0) (takes : A → A → Turn → Type 0) (sends : B → B → Turn → Type 0)
    (step : S → CoreCall → CoreReply → S → Type 0) (c b c' : S) (sources mid sources' : List A) (dests between dests' : List B) (round : Round) (xs ys : List Exchange)
    (account : Caller → List Turn) (turn : Caller → Turn) (number : ℕ)
    → ((x y z : A) (ts : List Turn) (t : Turn) → source x y ts → takes y z t → source x z (ts ++ t ∷ []))
    → ((x y z : B) (ts : List Turn) (t : Turn) → dest x y ts → sends y z t → dest x z (ts ++ t ∷ []))
    → RunsOn source dest step c b sources mid dests between xs account number
    → TookRoundWith takes sends step b c' mid sources' between dests' round ys turn
    → round.busy ≡ true → round.starved ≡ false
    → RunsOn source dest step c c' sources sources' dests dests' (xs ++ ys) (more account turn) (number + 1)
runs-round source dest takes sends step c b c' sources mid sources' dests between dests' round xs ys account turn number join meet h k is fed =
    let found = k.tells.busy is in
    let actor = actor-as (length mid) (length between) (length sources) (length dests) found.0 h.took.all_sources h.took.all_dests found.1.0 in
    record {
      took = took-round source dest takes sends step c b c' sources mid sources' dests between dests' round xs ys account turn number join meet h.took k;
      fed = (λ who own.
          let there = actor-as (length sources) (length dests) (length mid) (length between) who (sym h.took.all_sources) (sym h.took.all_dests) own in
          let came = k.tells.fed fed who there in
          fed-push (account who) (turn who) came.0 came.1 (h.fed who own));
      busy = (let one = busy-turns-more (length sources) (length dests) account turn found.0 actor found.1.1 in omega (arith, one, h.busy));
      last = λ above. (found.0, (actor, (turn found.0, ((account found.0, refl), found.1.1))));
    }

-- Ends.

pub busy-is : (b : Bool) → not b ≡ false → b ≡ true
busy-is true h = refl
busy-is false h = absurd (let differ : true ≡ false = h in cc)

pub calm-is : (b : Bool) → not b ≡ true → b ≡ false
calm-is true h = absurd (let differ : false ≡ true = h in cc)
calm-is false h = refl

pub nothing-done : (t : Turn) (turned : Turned) → t.answer ≡ Some turned → is_busy t ≡ false → t.answer ≡ Some (record { did = false; idle = false })
nothing-done t turned is calm =
    let parts = or_parts turned.did turned.idle (ap is_busy_answer (sym is) ∙ calm) in
    is ∙ ap (λ (b : Bool). Some (record { did = b; idle = turned.idle })) parts.0 ∙ ap (λ (b : Bool). Some (record { did = false; idle = b })) parts.1

pub ends-quietly : {A B S : Type 0} (source : A → A → List Turn → Type 0) (dest : B → B → List Turn → Type 0) (takes : A → A → Turn → Type 0) (sends : B → B → Turn → Type 0)
    (step : S → CoreCall → CoreReply → S → Type 0) (c b c' : S) (sources mid sources' : List A) (dests between dests' : List B) (round : Round) (xs ys : List Exchange)
    (account : Caller → List Turn) (turn : Caller → Turn) (number rounds : ℕ)
    → ((x y z : A) (ts : List Turn) (t : Turn) → source x y ts → takes y z t → source x z (ts ++ t ∷ []))
    → ((x y z : B) (ts : List Turn) (t : Turn) → dest x y ts → sends y z t → dest x z (ts ++ t ∷ []))
    → RunsOn source dest step c b sources mid dests between xs account number
    → TookRoundWith takes sends step b c' mid sources' between dests' round ys turn
    → round.busy ≡ false → round.starved ≡ false → number < rounds
    → ServesWith source dest step c c' sources sources' dests dests' rounds Quiet (xs ++ ys) (more account turn) (number + 1)
ends-quietly source dest takes sends step c b c' sources mid sources' dests between dests' round xs ys account turn number rounds join meet h k calm fed below = record {
  took = took-round source dest takes sends step c b c' sources mid sources' dests between dests' round xs ys account turn number join meet h.took k;
  few = omega (arith, below);
  lively = (let least = busy-turns-le (length sources) (length dests) account turn in omega (arith, h.busy, least));
  ends = record {
    before = xs;
    last = ys;
    are = refl;
    each = (λ who actor.
        let there = actor-as (length sources) (length dests) (length mid) (length between) who (sym h.took.all_sources) (sym h.took.all_dests) actor in
        let came = k.tells.fed fed who there in
        record {
          earlier = account who;
          turn = turn who;
          are = refl;
          fed = h.fed who actor;
          nothing = nothing-done (turn who) came.0 came.1 (k.tells.calm calm who there);
          before_are = h.took.calls who actor;
          last_are = k.calls who there;
        });
  };
}

pub runs-out : {A B S : Type 0} (source : A → A → List Turn → Type 0) (dest : B → B → List Turn → Type 0) (takes : A → A → Turn → Type 0) (sends : B → B → Turn → Type 0)
    (step : S → CoreCall → CoreReply → S → Type 0) (c b c' : S) (sources mid sources' : List A) (dests between dests' : List B) (round : Round) (xs ys : List Exchange)
    (account : Caller → List Turn) (turn : Caller → Turn) (number rounds : ℕ)
    → ((x y z : A) (ts : List Turn) (t : Turn) → source x y ts → takes y z t → source x z (ts ++ t ∷ []))
    → ((x y z : B) (ts : List Turn) (t : Turn) → dest x y ts → sends y z t → dest x z (ts ++ t ∷ []))
    → RunsOn source dest step c b sources mid dests between xs account number
    → TookRoundWith takes sends step b c' mid sources' between dests' round ys turn
    → round.starved ≡ true → number < rounds
    → ServesWith source dest step c c' sources sources' dests dests' rounds NoMemory (xs ++ ys) (more account turn) (number + 1)
runs-out source dest takes sends step c b c' sources mid sources' dests between dests' round xs ys account turn number rounds join meet h k is below =
    let found = k.tells.starved is in
    record {
      took = took-round source dest takes sends step c b c' sources mid sources' dests between dests' round xs ys account turn number join meet h.took k;
      few = omega (arith, below);
      lively = (let least = busy-turns-le (length sources) (length dests) account turn in omega (arith, h.busy, least));
      ends = record {
        fed = λ who actor. (account who, (turn who, (refl, h.fed who actor)));
        last = (
          found.0,
          (actor-as (length mid) (length between) (length sources) (length dests) found.0 h.took.all_sources h.took.all_dests found.1.0, (turn found.0, ((account found.0, refl), found.1.1))),
        );
      };
    }

pub spends-rounds : {A B S : Type 0} (source : A → A → List Turn → Type 0) (dest : B → B → List Turn → Type 0) (step : S → CoreCall → CoreReply → S → Type 0) (c c' : S)
    (sources sources' : List A) (dests dests' : List B) (xs : List Exchange) (account : Caller → List Turn) (number rounds : ℕ)
    → RunsOn source dest step c c' sources sources' dests dests' xs account number → number ≡ rounds → 0 < rounds
    → ServesWith source dest step c c' sources sources' dests dests' rounds RoundsSpent xs account number
spends-rounds source dest step c c' sources sources' dests dests' xs account number rounds h is some = record {
  took = h.took;
  few = omega (arith, is);
  lively = omega (arith, h.busy);
  ends = record { all = is; fed = h.fed; busy = omega (arith, is, h.busy); last = h.last (omega (arith, is, some)) };
}
