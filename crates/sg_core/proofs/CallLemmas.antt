-- The calls of a core through those that lend them.
use Rattle.std.proofs.Common.{◌≡◌, ℕ, ◌+◌, List, [], ◌∷◌, ◌++◌, length, Ok, Err, refl, sym, ap, ◌∙◌, suc, zero, subst, map, arith, length-append}
use Rattle.std.proofs.lemmas.List.{append-nil, append_assoc, map-append}
use Rattle.sg_machine.specs.declared.event.Act.{Act}
use Rattle.sg_machine.specs.declared.event.Event.{Event}
use Rattle.sg_machine.specs.declared.state.State.{State}
use Rattle.sg_standing.specs.States.{CoreState}
use Rattle.sg_standing.specs.Sources.{store_at}
use Rattle.sg_counter.specs.Bringing.{store_in}
use Rattle.sg_counter.specs.Exchanges.{Makes, Exchange}
use Rattle.sg_standing.specs.Standing.{DoesAct, StandsFor, StandsOn, KeepsRows}
use Rattle.sg_core.specs.Calls.{Serves, acts_in, acts_of}
use Rattle.sg_standing.specs.declared.source.Source.{Source}
use Rattle.sg_counter.specs.declared.calls.CoreCall.{CoreCall}
use Rattle.sg_counter.specs.declared.calls.CoreCall.TheVariants.{Credit, Admit, Front, Settle, Refill, Store}
use Rattle.sg_counter.specs.declared.calls.CoreReply.{CoreReply}
use Rattle.sg_counter.specs.declared.calls.CoreReply.TheVariants.{Credit as CreditReply, Admitted, Front as FrontReply, Settled, Refilled, Stored}

pub store_in-setups : (xs : List Source) (i : ℕ) → store_in (map (λ (x : Source). x.setup) xs) i ≡ store_at xs i
store_in-setups [] i = refl
store_in-setups (x ∷ xs) zero = refl
store_in-setups (x ∷ xs) (suc i) = store_in-setups xs i

-- the core stands for more events, of these acts, and the rows so far stay
abbrev Happens : CoreState → List Act → State → List Event → (ℕ → ℕ → ℕ) → Type 0
Happens new acts start events rows = (more : List Event) × (map (λ (e : Event). e.act) more ≡ acts) × StandsOn new start events more rows

happens-none : (old new : CoreState) (start : State) (events : List Event) → new ≡ old → (stood : StandsFor old start events) → Happens new [] start events stood.moments.rows
happens-none old new start events same stood =
    let P : List Event → Type 0 = λ es. (on : StandsFor old start es) × KeepsRows (length events) stood.moments.rows on.moments.rows in
    let Q : CoreState → Type 0 = λ c. (on : StandsFor c start (events ++ [])) × KeepsRows (length events) stood.moments.rows on.moments.rows in
    let on = subst Q (sym same) (subst P (sym (append-nil events)) (stood, λ k s low. refl)) in
    ([], refl, record { stands = on.0; keeps = on.1 })

happens-one : (old new : CoreState) (act : Act) (start : State) (events : List Event) → DoesAct old new act → (stood : StandsFor old start events) → Happens new (act ∷ []) start events stood.moments.rows
happens-one old new act start events does stood =
    (record { act = act; failed = does.failed } ∷ [], refl, record { stands = does.stands start events stood; keeps = does.keeps start events stood })

happens-more : (mid new : CoreState) (before after : List Act) (start : State) (events more : List Event) (rows : ℕ → ℕ → ℕ) (one : StandsOn mid start events more rows) → map (λ (e : Event). e.act) more ≡ before
    → Happens new after start (events ++ more) one.stands.moments.rows → Happens new (before ++ after) start events rows
happens-more mid new before after start events more rows one acts h =
    let P : List Event → Type 0 = λ es. (on : StandsFor new start es) × KeepsRows (length events) rows on.moments.rows in
    let long = length-append events more in
    let two = h.2 in
    let on = subst P (append_assoc events more h.0) (two.stands, λ k s low. two.keeps k s (omega (arith, low, long)) ∙ one.keeps k s low) in (
      more ++ h.0,
      map-append (λ (e : Event). e.act) more h.0 ∙ ap (λ (us : List Act). us ++ map (λ (e : Event). e.act) h.0) acts ∙ ap (λ (us : List Act). before ++ us) h.1,
      record { stands = on.0; keeps = on.1 },
    )

-- a call is the event of its act, or none
happens-call : (old new : CoreState) (call : CoreCall) (reply : CoreReply) (start : State) (events : List Event) → Serves old call reply new → (stood : StandsFor old start events) → Happens new (acts_in call reply) start events stood.moments.rows
happens-call old new (Credit i) (CreditReply n) start events s stood = happens-none old new start events s.same stood
happens-call old new (Admit i records) (Admitted (Ok verdicts)) start events s stood = happens-one old new _ start events s.does stood
happens-call old new (Admit i records) (Admitted (Err refused)) start events s stood = happens-one old new _ start events s.does stood
happens-call old new (Front d most) (FrontReply result) start events s stood = happens-one old new _ start events s.does stood
happens-call old new (Settle d place n count) (Settled result) start events s stood = happens-one old new _ start events s.does stood
happens-call old new (Refill d) (Refilled result) start events s stood = happens-one old new _ start events s.does stood
happens-call old new (Store i) (Stored result) start events s stood = happens-one old new _ start events s.does stood
happens-call old new call reply start events s stood = absurd s

pub happens-calls : (old new : CoreState) (made : List Exchange) (start : State) (events : List Event) → Makes Serves old made new → (stood : StandsFor old start events) → Happens new (acts_of made) start events stood.moments.rows
happens-calls old new [] start events m stood = happens-none old new start events m stood
happens-calls old new (x ∷ rest) start events m stood =
    let h = happens-call old m.0 x.call x.reply start events m.1 stood in
    happens-more m.0 new (acts_in x.call x.reply) (acts_of rest) start events h.0 stood.moments.rows h.2 h.1 (happens-calls m.0 new rest start (events ++ h.0) m.2 (h.2).stands)
