-- The last turn of a source and of a destination, in which they did nothing, and what many turns leave of what is known of stores.
use Rattle.std.proofs.Common.{◌≡◌, ℕ, suc, Bool, true, false, not, ◌&&◌, ◌||◌, List, [], ◌∷◌, ◌++◌, length, Some, None, Option, Ok, Err, ◌⊎◌, inl, inr, refl, sym, ap, ◌∙◌, arith, subst}
use Rattle.std.specs.Prelude.{nat_lt, is_ok}
use Rattle.sg_msg.specs.declared.offer.Offer.{Offer}
use Rattle.sg_frame.specs.Records.{Record}
use Rattle.sg_machine.proofs.RunLemmas.{both-true}
use Rattle.sg_counter.specs.Exchanges.{Exchange, OfSource, OfDest, caller_of}
use Rattle.sg_counter.specs.declared.answers.CoreFront.TheVariants.{Entries, Empty, Broken as FrontBroken}
use Rattle.sg_counter.specs.declared.answers.Stored.{Stored}
use Rattle.sg_counter.specs.declared.answers.Stored.TheVariants.{Wrote, Unchanged, Broken}
use Rattle.sg_counter.specs.declared.calls.CoreCall.{CoreCall}
use Rattle.sg_counter.specs.declared.calls.CoreCall.TheVariants.{Credit, Admit, Front, Settle, Refill, Store}
use Rattle.sg_counter.specs.declared.calls.CoreReply.{CoreReply}
use Rattle.sg_counter.specs.declared.calls.CoreReply.TheVariants.{Credit as CreditReply, Admitted, Front as FrontReply, Settled as SettledReply, Refilled, Stored as StoredReply}
use Rattle.sg_actor.specs.Bringing.{AllBy, admitted_by, admitted_in, has_admitted, stored_by, stores_in}
use Rattle.sg_actor.specs.Positions.{is_same_credit, is_news, has_news, after_stores}
use Rattle.sg_actor.specs.SourceTurns.{ActorState, does_some, rests, TellsSource}
use Rattle.sg_actor.specs.Steps.{has_pulled}
use Rattle.sg_actor.specs.DestTurns.{shown_by, shown_in, has_shown, is_breakage, has_broken, DeliversFront, FollowsFront, HasGivenUpCause, TellsDest as DestTells}
use Rattle.sg_actor.specs.declared.position.Position.{Position}
use Rattle.sg_actor.specs.declared.rendering.DestSpec.{DestSpec}
use Rattle.sg_actor.specs.declared.settings.SourceSpec.{SourceSpec}
use Rattle.sg_actor.specs.declared.turned.GivenUp.{GivenUp}
use Rattle.sg_actor.specs.declared.turned.GivenUp.TheVariants.{Store as ForStore}
use Rattle.sg_actor.specs.declared.turned.Turned.{Turned}
use Rattle.sg_turns.specs.Turns.{Turn, result_of, calls_of, SourceTurns, TookTurns, DestState, SendsBy, SentTurns}
use Rattle.sg_laws.proofs.StepLemmas.{Has, has-front, has-behind, either-true}
use Rattle.sg_laws.proofs.CalmLemmas.{IsCalm, AllCalm}
use Rattle.sg_actor.proofs.TurnLemmas.{did-false}
use Rattle.sg_turns.proofs.LawLemmas.{sent-last, took-last}

-- in it nothing was done, and nothing was awaited
abbrev pub nothing_done : Turned
nothing_done = record { did = false; idle = false }

pub either-false : (a b : Bool) → (a || b) ≡ false → (a ≡ false) × (b ≡ false)
either-false true b h = absurd (let wrong : true ≡ false = h in cc)
either-false false b h = (refl, h)

not-true : (a : Bool) → not a ≡ true → a ≡ false
not-true true h = absurd (let wrong : false ≡ true = h in cc)
not-true false h = refl

middle-false : (p a u : Bool) → (p || a || u) ≡ false → a ≡ false
middle-false true a u h = absurd (let wrong : true ≡ false = h in cc)
middle-false false true u h = absurd (let wrong : true ≡ false = h in cc)
middle-false false false u h = refl

none-above : {A : Type 0} (xs : List A) → nat_lt 0 (length xs) ≡ false → xs ≡ []
none-above [] h = refl
none-above (x ∷ xs) h = absurd (let is : nat_lt 0 (suc (length xs)) ≡ true = grind arith in let wrong : true ≡ false = sym is ∙ h in cc)

both-nil : {A : Type 0} (xs ys : List A) → xs ++ ys ≡ [] → (xs ≡ []) × (ys ≡ [])
both-nil [] ys h = (refl, h)
both-nil (x ∷ xs) ys h = absurd (let wrong : x ∷ (xs ++ ys) ≡ [] = h in cc)

news-parts : (ss ts : List Stored) → has_news (ss ++ ts) ≡ false → (has_news ss ≡ false) × (has_news ts ≡ false)
news-parts [] ts h = (refl, h)
news-parts (s ∷ ss) ts h =
    let one = either-false (is_news s) (has_news (ss ++ ts)) h in
    let rest = news-parts ss ts one.1 in
    (let first = one.0 in rw (first, rest.0) refl, rest.1)

-- A source.

calm-one : (i : ℕ) (call : CoreCall) (reply : CoreReply) → caller_of call ≡ OfSource i → admitted_by call reply ≡ [] → has_news (stored_by reply) ≡ false → IsCalm call reply
calm-one i (Credit j) reply own none quiet = tt
calm-one i (Admit j records) reply own none quiet = none
calm-one i (Front d most) reply own none quiet = tt
calm-one i (Settle d place n count) reply own none quiet = absurd (let wrong : OfDest d ≡ OfSource i = own in cc)
calm-one i (Refill d) reply own none quiet = absurd (let wrong : OfDest d ≡ OfSource i = own in cc)
calm-one i (Store j) reply own none quiet = quiet

calm-source : (i : ℕ) (made : List Exchange) → AllBy (OfSource i) made → admitted_in made ≡ [] → has_news (stores_in made) ≡ false → AllCalm made
calm-source i [] own none quiet e h = absurd h
calm-source i (x ∷ xs) own none quiet e (inl same) =
    let a = both-nil (admitted_by x.call x.reply) (admitted_in xs) none in
    let b = news-parts (stored_by x.reply) (stores_in xs) quiet in
    subst (λ (y : Exchange). IsCalm y.call y.reply) same (calm-one i x.call x.reply own.0 a.0 b.0)
calm-source i (x ∷ xs) own none quiet e (inr h) =
    let a = both-nil (admitted_by x.call x.reply) (admitted_in xs) none in
    let b = news-parts (stored_by x.reply) (stores_in xs) quiet in
    calm-source i xs own.1 a.1 b.1 e h

source-calm : (offers : ℕ → Record → List Offer → Type 0) (dests : ℕ) (spec : SourceSpec) (old new : ActorState) (turn : Turn) → SourceTurns offers dests spec old new turn → turn.answer ≡ Some nothing_done → AllCalm turn.made
source-calm offers dests spec old new turn h nothing =
    let tells = subst (λ (a : Option Turned). TellsSource spec old new turn.made h.ups h.credit (result_of a)) nothing h.takes.tells in
    let did = did-false (rests old new turn.made h.ups h.credit) (has_news (stores_in turn.made)) (sym tells.did) in
    let rested = both-true (not (does_some old new turn.made h.ups)) (is_same_credit old.position.credit h.credit) did.0 in
    let none = middle-false (has_pulled old.source new.source) (has_admitted turn.made) (nat_lt 0 h.ups) (not-true (does_some old new turn.made h.ups) rested.0) in
    calm-source spec.inlet turn.made h.takes.own (none-above (admitted_in turn.made) none) did.1

pub last-source : (offers : ℕ → Record → List Offer → Type 0) (dests : ℕ) (spec : SourceSpec) (old new : ActorState) (turns earlier : List Turn) (turn : Turn) → TookTurns offers dests spec old new turns → turns ≡ earlier ++ turn ∷ []
    → turn.answer ≡ Some nothing_done → AllCalm turn.made
last-source offers dests spec old new turns earlier turn took are nothing =
    let found = took-last offers dests spec old new earlier turn (subst (λ ts. TookTurns offers dests spec old new ts) are took) in
    source-calm offers dests spec found.0 new turn found.1 nothing

-- A destination.

follows-none : (d taken count : ℕ) (well : Bool) (reply : CoreReply) (made : List Exchange) → FollowsFront d taken count well reply made → shown_by reply ≡ [] → made ≡ []
follows-none d taken count well (FrontReply (Ok (Entries place []))) made h none = h.0
follows-none d taken count well (FrontReply (Ok (Entries place (m ∷ ms)))) made h none = absurd (let wrong : m ∷ ms ≡ [] = none in cc)
follows-none d taken count well (FrontReply (Ok Empty)) made h none = h.0
follows-none d taken count well (FrontReply (Ok FrontBroken)) made h none = h.0
follows-none d taken count well (FrontReply (Err e)) made h none = h.0
follows-none d taken count well (CreditReply credit) made h none = h.0
follows-none d taken count well (Admitted result) made h none = h.0
follows-none d taken count well (SettledReply result) made h none = h.0
follows-none d taken count well (Refilled result) made h none = h.0
follows-none d taken count well (StoredReply result) made h none = h.0

calm-delivers : (d taken count : ℕ) (well : Bool) (made : List Exchange) → DeliversFront d taken count well made → shown_in made ≡ [] → AllCalm made
calm-delivers d taken count well [] h none e has = absurd has
calm-delivers d taken count well (f ∷ rest) h none e (inl same) =
    let calm : IsCalm f.call f.reply = subst (λ (c : CoreCall). IsCalm c f.reply) (sym h.0.1) tt in
    subst (λ (y : Exchange). IsCalm y.call y.reply) same calm
calm-delivers d taken count well (f ∷ rest) h none e (inr has) =
    let parts = both-nil (shown_by f.reply) (shown_in rest) none in
    let no-more = follows-none d taken count well f.reply rest h.1 parts.0 in
    absurd (subst (λ (xs : List Exchange). Has xs e) no-more has)

and-true : (b : Bool) → (b && true) ≡ false → b ≡ false
and-true true h = h
and-true false h = refl

dest-calm : (cause : Option GivenUp) (spec : DestSpec) (old new : DestState) (turn : Turn) → SendsBy cause spec old new turn → turn.answer ≡ Some nothing_done → AllCalm turn.made
dest-calm None spec old new turn (taken, (refused, k)) nothing =
    let tells = subst (λ (a : Option Turned). DestTells old.outage new.outage turn.made taken old.drain new.drain (result_of a)) nothing k.tells in
    let parts = either-false (has_shown turn.made) old.outage.reopens (and-true _ (sym tells.did)) in
    calm-delivers spec.dest taken new.drain.count (is_ok (result_of turn.answer)) turn.made k.delivers (none-above (shown_in turn.made) parts.0)
dest-calm (Some cause) spec old new turn k nothing = λ e has. absurd (subst (λ (xs : List Exchange). Has xs e) k.0 has)

pub last-dest : (spec : DestSpec) (old new : DestState) (turns earlier : List Turn) (turn : Turn) → SentTurns spec old new turns → turns ≡ earlier ++ turn ∷ [] → turn.answer ≡ Some nothing_done → AllCalm turn.made
last-dest spec old new turns earlier turn took are nothing =
    let found = sent-last spec old new earlier turn (subst (λ ts. SentTurns spec old new ts) are took) in
    dest-calm found.0.outage.given_up spec found.0 new turn found.1 nothing

-- What a source knows of its position store.

-- it was told that the store failed
abbrev pub HasFailure : List Exchange → Type 0
HasFailure made = (e : Exchange) × (Has made e × (e.reply ≡ StoredReply Broken))

or-false : (b : Bool) → (b || false) ≡ true → b ≡ true
or-false true h = refl
or-false false h = h

broke-one : (end : ℕ) (rest : List Stored) (p : Position) (A : Type 0) (reply : CoreReply) → ((q : Position) → (after_stores end rest q).broken ≡ true → (q.broken ≡ true) ⊎ A)
    → (after_stores end (stored_by reply ++ rest) p).broken ≡ true → (p.broken ≡ true) ⊎ ((reply ≡ StoredReply Broken) ⊎ A)
broke-one end rest p A (StoredReply (Wrote w)) more h =
    elim (more (record p { asked = end; broken = p.broken || false }) h) [
      | inl was ↦ inl (or-false p.broken was)
      | inr a ↦ inr (inr a)
    ]
broke-one end rest p A (StoredReply Unchanged) more h =
    elim (more (record p { asked = end; broken = p.broken || false }) h) [
      | inl was ↦ inl (or-false p.broken was)
      | inr a ↦ inr (inr a)
    ]
broke-one end rest p A (StoredReply Broken) more h = inr (inl refl)
broke-one end rest p A (CreditReply credit) more h = elim (more p h) [
  | inl was ↦ inl was
  | inr a ↦ inr (inr a)
]
broke-one end rest p A (Admitted result) more h = elim (more p h) [
  | inl was ↦ inl was
  | inr a ↦ inr (inr a)
]
broke-one end rest p A (FrontReply result) more h = elim (more p h) [
  | inl was ↦ inl was
  | inr a ↦ inr (inr a)
]
broke-one end rest p A (SettledReply result) more h = elim (more p h) [
  | inl was ↦ inl was
  | inr a ↦ inr (inr a)
]
broke-one end rest p A (Refilled result) more h = elim (more p h) [
  | inl was ↦ inl was
  | inr a ↦ inr (inr a)
]

broke : (end : ℕ) (made : List Exchange) (p : Position) → (after_stores end (stores_in made) p).broken ≡ true → (p.broken ≡ true) ⊎ HasFailure made
broke end [] p h = inl h
broke end (x ∷ xs) p h =
    elim (broke-one end (stores_in xs) p (HasFailure xs) x.reply (broke end xs) h) [
      | inl was ↦ inl was
      | inr now ↦ elim now [
        | inl here ↦ inr (x, (inl refl, here))
        | inr later ↦ inr (later.0, (inr later.1.0, later.1.1))
      ]
    ]

pub took-broke : (offers : ℕ → Record → List Offer → Type 0) (dests : ℕ) (spec : SourceSpec) (old new : ActorState) (turns : List Turn) → TookTurns offers dests spec old new turns → new.position.broken ≡ true
    → (old.position.broken ≡ true) ⊎ HasFailure (calls_of turns)
took-broke offers dests spec old new [] same is = inl (ap (λ (a : ActorState). a.position.broken) (sym same) ∙ is)
took-broke offers dests spec old new (turn ∷ turns) (mid, (h, more)) is =
    elim (took-broke offers dests spec mid new turns more is) [
      | inl was ↦ elim (broke mid.source.reader.end turn.made (record old.position { credit = Some h.credit }) (ap (λ (p : Position). p.broken) (sym h.takes.position) ∙ was)) [
        | inl before ↦ inl before
        | inr now ↦ inr (now.0, (has-front turn.made (calls_of turns) now.0 now.1.0, now.1.1))
      ]
      | inr later ↦ inr (later.0, (has-behind turn.made (calls_of turns) later.0 later.1.0, later.1.1))
    ]

-- What a destination knows of the store of its disk-buffer.

abbrev pub HasBreakage : List Exchange → Type 0
HasBreakage made = (e : Exchange) × (Has made e × (is_breakage e.reply ≡ true))

broken-in : (made : List Exchange) → has_broken made ≡ true → HasBreakage made
broken-in [] h = absurd (let wrong : false ≡ true = h in cc)
broken-in (x ∷ xs) h =
    elim (either-true (is_breakage x.reply) (has_broken xs) h) [
      | inl here ↦ (x, (inl refl, here))
      | inr later ↦ (let r = broken-in xs later in (r.0, (inr r.1.0, r.1.1)))
    ]

sends-broke : (cause : Option GivenUp) (spec : DestSpec) (old new : DestState) (turn : Turn) → SendsBy cause spec old new turn → new.outage.given_up ≡ Some ForStore → (old.outage.given_up ≡ Some ForStore) ⊎ HasBreakage turn.made
sends-broke None spec old new turn (taken, (refused, k)) is =
    let why : has_broken turn.made ≡ true = subst (λ (c : Option GivenUp). HasGivenUpCause spec.gives_up refused new.drain turn.made c) is k.cause in
    inr (broken-in turn.made why)
sends-broke (Some cause) spec old new turn k is = inl (ap (λ o. o.given_up) (sym k.1.outage_stays) ∙ is)

pub sent-broke : (spec : DestSpec) (old new : DestState) (turns : List Turn) → SentTurns spec old new turns → new.outage.given_up ≡ Some ForStore → (old.outage.given_up ≡ Some ForStore) ⊎ HasBreakage (calls_of turns)
sent-broke spec old new [] same is = inl (ap (λ (s : DestState). s.outage.given_up) (sym same) ∙ is)
sent-broke spec old new (turn ∷ turns) (mid, (h, more)) is =
    elim (sent-broke spec mid new turns more is) [
      | inl was ↦ elim (sends-broke old.outage.given_up spec old mid turn h was) [
        | inl before ↦ inl before
        | inr now ↦ inr (now.0, (has-front turn.made (calls_of turns) now.0 now.1.0, now.1.1))
      ]
      | inr later ↦ inr (later.0, (has-behind turn.made (calls_of turns) later.0 later.1.0, later.1.1))
    ]
