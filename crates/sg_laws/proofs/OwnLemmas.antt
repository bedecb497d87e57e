-- What came in of a source are the records that its own calls brought.
use Rattle.std.proofs.Common.{◌≡◌, ℕ, List, [], ◌∷◌, ◌++◌, Ok, Err, Bool, true, false, refl, sym, ap, ◌∙◌, arith, map, length, append_assoc, if◌then◌else◌}
use Rattle.std.specs.Prelude.{◌==◌}
use Rattle.std.proofs.lemmas.List.{append-nil}
use Rattle.sg_machine.specs.declared.event.Act.{Act}
use Rattle.sg_machine.specs.declared.event.Admission.{Admission}
use Rattle.sg_machine.specs.declared.event.Event.{Event}
use Rattle.sg_machine.specs.declared.state.State.{State}
use Rattle.sg_counter.specs.Exchanges.{Exchange, Makes, Caller, OfSource, OfDest, caller_of, same_caller, calls_by}
use Rattle.sg_counter.specs.declared.answers.Refill.TheVariants.{Moved, NoneWaits, NoRoom, Broken as RefillBroken}
use Rattle.sg_counter.specs.declared.answers.Settled.TheVariants.{Done, NotFront, DiskFailed}
use Rattle.sg_counter.specs.declared.answers.Stored.TheVariants.{Wrote, Unchanged, Broken}
use Rattle.sg_counter.specs.declared.calls.CoreCall.{CoreCall}
use Rattle.sg_counter.specs.declared.calls.CoreCall.TheVariants.{Credit, Admit, Front, Settle, Refill, Store}
use Rattle.sg_counter.specs.declared.calls.CoreReply.{CoreReply}
use Rattle.sg_counter.specs.declared.calls.CoreReply.TheVariants.{Admitted, Settled as SettledReply, Refilled, Stored}
use Rattle.sg_standing.specs.States.{CoreState}
use Rattle.sg_standing.specs.Standing.{StandsFor, KeepsRows}
use Rattle.sg_core.specs.Calls.{Serves, acts_in, acts_of}
use Rattle.sg_core.proofs.CallLemmas.{happens-calls}
use Rattle.sg_actor.specs.Bringing.{admitted_by, admitted_in}
use Rattle.sg_laws.specs.Texts.{admissions_by, admissions_of}
use Rattle.sg_laws.specs.Calls.{settles_by, settles_of, settled_by, settled_in, Ran, AreOwn}

-- Of acts.

abbrev admissions_in : ℕ → List Act → List Admission
admissions_in i [] = []
admissions_in i (a ∷ rest) = admissions_by i a ++ admissions_in i rest

abbrev settles_in : ℕ → List Act → List ℕ
settles_in d [] = []
settles_in d (a ∷ rest) = settles_by d a ++ settles_in d rest

admissions-acts : (i : ℕ) (es : List Event) → admissions_of i es ≡ admissions_in i (map (λ (e : Event). e.act) es)
admissions-acts i [] = refl
admissions-acts i (e ∷ es) = ap (λ xs. admissions_by i e.act ++ xs) (admissions-acts i es)

settles-acts : (d : ℕ) (es : List Event) → settles_of d es ≡ settles_in d (map (λ (e : Event). e.act) es)
settles-acts d [] = refl
settles-acts d (e ∷ es) = ap (λ xs. settles_by d e.act ++ xs) (settles-acts d es)

admissions-append : (i : ℕ) (xs ys : List Act) → admissions_in i (xs ++ ys) ≡ admissions_in i xs ++ admissions_in i ys
admissions-append i [] ys = refl
admissions-append i (x ∷ xs) ys = ap (λ rs. admissions_by i x ++ rs) (admissions-append i xs ys) ∙ sym (append_assoc (admissions_by i x) (admissions_in i xs) (admissions_in i ys))

settles-append : (d : ℕ) (xs ys : List Act) → settles_in d (xs ++ ys) ≡ settles_in d xs ++ settles_in d ys
settles-append d [] ys = refl
settles-append d (x ∷ xs) ys = ap (λ rs. settles_by d x ++ rs) (settles-append d xs ys) ∙ sym (append_assoc (settles_by d x) (settles_in d xs) (settles_in d ys))

-- One call.

abbrev own : {A : Type 0} → Caller → CoreCall → List A → List A
own caller call xs = if same_caller caller (caller_of call) then xs else []

no-records : (b : Bool) → (let none : List Admission = [] in none ≡ (if b then none else none))
no-records true = refl
no-records false = refl

no-numbers : (b : Bool) → (let none : List ℕ = [] in none ≡ (if b then none else none))
no-numbers true = refl
no-numbers false = refl

equal-flip : (i j : ℕ) → (i == j) ≡ (j == i)
equal-flip i j = grind arith

if-flip : {A : Type 0} (i j : ℕ) (xs : List A) → (if i == j then xs else []) ++ [] ≡ (if j == i then xs else [])
if-flip i j xs = append-nil (if i == j then xs else []) ∙ ap (λ b. if b then xs else []) (equal-flip i j)

admits-one : (i : ℕ) (call : CoreCall) (reply : CoreReply) → admissions_in i (acts_in call reply) ≡ own (OfSource i) call (admitted_by call reply)
admits-one i (Admit j records) (Admitted (Ok verdicts)) = if-flip j i records
admits-one i (Admit j records) (Admitted (Err refused)) = no-records (i == j)
admits-one i (Admit j records) reply = no-records (i == j)
admits-one i (Credit j) reply = no-records (i == j)
admits-one i (Front d most) reply = refl
admits-one i (Settle d place n count) (SettledReply Done) = refl
admits-one i (Settle d place n count) (SettledReply NotFront) = refl
admits-one i (Settle d place n count) (SettledReply DiskFailed) = refl
admits-one i (Settle d place n count) reply = refl
admits-one i (Refill d) (Refilled (Moved n)) = refl
admits-one i (Refill d) (Refilled NoneWaits) = refl
admits-one i (Refill d) (Refilled NoRoom) = refl
admits-one i (Refill d) (Refilled RefillBroken) = refl
admits-one i (Refill d) reply = refl
admits-one i (Store j) (Stored (Wrote w)) = no-records (i == j)
admits-one i (Store j) (Stored Unchanged) = no-records (i == j)
admits-one i (Store j) (Stored Broken) = no-records (i == j)
admits-one i (Store j) reply = no-records (i == j)

settles-one : (d : ℕ) (call : CoreCall) (reply : CoreReply) → settles_in d (acts_in call reply) ≡ own (OfDest d) call (settled_by call reply)
settles-one d (Admit j records) (Admitted (Ok verdicts)) = refl
settles-one d (Admit j records) (Admitted (Err refused)) = refl
settles-one d (Admit j records) reply = refl
settles-one d (Credit j) reply = refl
settles-one d (Front e most) reply = no-numbers (d == e)
settles-one d (Settle e place n count) (SettledReply Done) = if-flip e d (n ∷ [])
settles-one d (Settle e place n count) (SettledReply NotFront) = no-numbers (d == e)
settles-one d (Settle e place n count) (SettledReply DiskFailed) = if-flip e d (n ∷ [])
settles-one d (Settle e place n count) reply = no-numbers (d == e)
settles-one d (Refill e) (Refilled (Moved n)) = no-numbers (d == e)
settles-one d (Refill e) (Refilled NoneWaits) = no-numbers (d == e)
settles-one d (Refill e) (Refilled NoRoom) = no-numbers (d == e)
settles-one d (Refill e) (Refilled RefillBroken) = no-numbers (d == e)
settles-one d (Refill e) reply = no-numbers (d == e)
settles-one d (Store j) (Stored (Wrote w)) = refl
settles-one d (Store j) (Stored Unchanged) = refl
settles-one d (Store j) (Stored Broken) = refl
settles-one d (Store j) reply = refl

-- All calls.

admitted-if : (b : Bool) (x : Exchange) (xs : List Exchange) → (if b then admitted_by x.call x.reply else []) ++ admitted_in xs ≡ admitted_in (if b then x ∷ xs else xs)
admitted-if true x xs = refl
admitted-if false x xs = refl

settled-if : (b : Bool) (x : Exchange) (xs : List Exchange) → (if b then settled_by x.call x.reply else []) ++ settled_in xs ≡ settled_in (if b then x ∷ xs else xs)
settled-if true x xs = refl
settled-if false x xs = refl

admits-own : (i : ℕ) (made : List Exchange) → admissions_in i (acts_of made) ≡ admitted_in (calls_by (OfSource i) made)
admits-own i [] = refl
admits-own i (x ∷ rest) =
    admissions-append i (acts_in x.call x.reply) (acts_of rest)
    ∙ ap (λ xs. xs ++ admissions_in i (acts_of rest)) (admits-one i x.call x.reply)
    ∙ ap (λ xs. own (OfSource i) x.call (admitted_by x.call x.reply) ++ xs) (admits-own i rest)
    ∙ admitted-if (same_caller (OfSource i) (caller_of x.call)) x (calls_by (OfSource i) rest)

settles-own : (d : ℕ) (made : List Exchange) → settles_in d (acts_of made) ≡ settled_in (calls_by (OfDest d) made)
settles-own d [] = refl
settles-own d (x ∷ rest) =
    settles-append d (acts_in x.call x.reply) (acts_of rest)
    ∙ ap (λ xs. xs ++ settles_in d (acts_of rest)) (settles-one d x.call x.reply)
    ∙ ap (λ xs. own (OfDest d) x.call (settled_by x.call x.reply) ++ xs) (settles-own d rest)
    ∙ settled-if (same_caller (OfDest d) (caller_of x.call)) x (calls_by (OfDest d) rest)

pub are-own : (made : List Exchange) (events : List Event) → map (λ (e : Event). e.act) events ≡ acts_of made → AreOwn made events
are-own made events acts = record {
  admits = λ i. admissions-acts i events ∙ ap (admissions_in i) acts ∙ admits-own i made;
  settles = λ d. settles-acts d events ∙ ap (settles_in d) acts ∙ settles-own d made;
}

pub calls-run : (old new : CoreState) (made : List Exchange) (start : State) (before : List Event) → Makes Serves old made new → (stood : StandsFor old start before)
    → (events : List Event) × ((ran : Ran old new made start before events) × AreOwn made events × KeepsRows (length before) stood.moments.rows ran.stands.moments.rows)
calls-run old new made start before makes stood =
    let h = happens-calls old new made start before makes stood in (
      h.0,
      (record { makes = makes; stood = stood; acts = h.1; stands = (h.2).stands; rows = (h.2).keeps }, are-own made h.0 h.1, (h.2).keeps),
    )
