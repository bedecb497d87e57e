-- The credit of a source falls by its own calls alone.
use Rattle.std.proofs.Common.{◌≡◌, ◌≢◌, ℕ, ◌+◌, ◌-◌, ◌≤◌, ◌<◌, List, [], ◌∷◌, ◌++◌, length, Some, None, Option, Ok, Err, Result, Bool, true, false, ◌&&◌, refl, sym, ap, ◌∙◌, arith, subst, zero, suc}
use Rattle.std.specs.Prelude.{◌==◌, slice_get}
use Rattle.std.specs.Option.{option_map_or}
use Rattle.sg_list.proofs.ListLemmas.{get-change-other}
use Rattle.sg_machine.specs.declared.event.Act.{Act}
use Rattle.sg_machine.specs.declared.event.Act.TheVariants.{Admit as AdmitAct, Settle as SettleAct, Refill as RefillAct, Store as StoreAct, Look}
use Rattle.sg_machine.specs.declared.event.Admission.{Admission}
use Rattle.sg_machine.specs.declared.event.Verdict.{Verdict}
use Rattle.sg_machine.specs.declared.state.Dest.{Dest}
use Rattle.sg_machine.specs.declared.state.InletRecords.{InletRecords}
use Rattle.sg_machine.specs.declared.state.State.{State}
use Rattle.sg_machine.specs.Effects.{next_of, admitted, stored_at, after_act}
use Rattle.sg_machine.specs.Marks.{is_acked, outstanding_of}
use Rattle.sg_machine.specs.Runs.{after_all}
use Rattle.sg_machine.specs.Verdicts.{claims_of}
use Rattle.sg_machine.proofs.WindowLaws.{acked-settle, acked-refill, acked-claims, outstanding-fewer}
use Rattle.sg_counter.specs.Exchanges.{Exchange, Makes, OfSource, caller_of, same_caller, calls_by}
use Rattle.sg_counter.specs.declared.answers.Refill.TheVariants.{Moved, NoneWaits, NoRoom, Broken as RefillBroken}
use Rattle.sg_counter.specs.declared.answers.Refused.{Refused}
use Rattle.sg_counter.specs.declared.answers.Settled.TheVariants.{Done, NotFront, DiskFailed}
use Rattle.sg_counter.specs.declared.answers.Stored.TheVariants.{Wrote, Unchanged, Broken}
use Rattle.sg_counter.specs.declared.calls.CoreCall.{CoreCall}
use Rattle.sg_counter.specs.declared.calls.CoreCall.TheVariants.{Credit, Admit, Front, Settle, Refill, Store}
use Rattle.sg_counter.specs.declared.calls.CoreReply.{CoreReply}
use Rattle.sg_counter.specs.declared.calls.CoreReply.TheVariants.{Credit as CreditReply, Admitted, Front as FrontReply, Settled as SettledReply, Refilled, Stored}
use Rattle.sg_standing.specs.Sources.{credit_at}
use Rattle.sg_standing.specs.States.{CoreState}
use Rattle.sg_standing.specs.Standing.{IsAt, DoesAct, sources_from}
use Rattle.sg_standing.specs.declared.source.Source.{Source}
use Rattle.sg_core.specs.Answers.{credit_left, is_no_credit}
use Rattle.sg_core.specs.Calls.{Serves}
use Rattle.sg_core.proofs.Fits.{credit-of}
use Rattle.sg_laws.specs.Credits.{asked_then_brought, CreditLasts}

-- What is told is what the state has.

none-there : (ds : List Dest) (k : ℕ) (inlets : List InletRecords) (i : ℕ) → slice_get (sources_from ds k inlets) i ≡ None → slice_get inlets i ≡ None
none-there ds k [] i h = refl
none-there ds k (x ∷ inlets) zero h = let wrong : Some _ ≡ None = h in cc
none-there ds k (x ∷ inlets) (suc i) h = none-there ds (k + 1) inlets i h

credit-told-by : (core : CoreState) (s : State) (i : ℕ) (o : Option Source) → slice_get core.sources i ≡ o → IsAt core s → credit_at core.sources i ≡ credit_left s i
credit-told-by core s i None h at =
    let none : slice_get s.inlets i ≡ None = none-there s.dests 0 s.inlets i (ap (λ xs. slice_get xs i) (sym at.sources) ∙ h) in
    rw (h, none) refl
credit-told-by core s i (Some source) h at = rw h (credit-of core s i source at h)

credit-told : (core : CoreState) (s : State) (i : ℕ) → IsAt core s → credit_at core.sources i ≡ credit_left s i
credit-told core s i at = credit-told-by core s i (slice_get core.sources i) refl at

-- Others' acts leave as much.

credit-by : (o : Option InletRecords) (ds fs : List Dest) (i : ℕ) → ((k : ℕ) → is_acked ds i k ≡ true → is_acked fs i k ≡ true)
    → option_map_or (λ (inlet : InletRecords). inlet.setup.window - outstanding_of ds i inlet) o 0 ≤ option_map_or (λ (inlet : InletRecords). inlet.setup.window - outstanding_of fs i inlet) o 0
credit-by None ds fs i h = omega arith
credit-by (Some inlet) ds fs i h = let fewer = outstanding-fewer ds fs i 0 inlet.ends h in omega (arith, fewer)

credit-stays : (s t : State) (i : ℕ) → slice_get t.inlets i ≡ slice_get s.inlets i → ((k : ℕ) → is_acked s.dests i k ≡ true → is_acked t.dests i k ≡ true) → credit_left s i ≤ credit_left t i
credit-stays s t i same acked = rw same (credit-by (slice_get s.inlets i) s.dests t.dests i acked)

unequal : (i j : ℕ) → (i == j) ≡ false → i ≢ j
unequal i j h = grind arith

apart : (i j n m : ℕ) → (i == j) ≡ false → (j == i && n == m) ≡ false
apart i j n m h = let flip : (j == i) ≡ false = grind arith in rw flip refl

-- A call.

pub record GoneBehind (new : CoreState) (s : State) (P : State → Type 0) : Type 0 where
  pub state : State
  pub at : IsAt new state
  pub holds : P state

gone-one : (old new : CoreState) (act : Act) (s : State) (P : State → Type 0) (does : DoesAct old new act) → IsAt old s → ((failed : List ℕ) → P (after_act s act failed)) → GoneBehind new s P
gone-one old new act s P does at p = record { state = after_act s act does.failed; at = (does.step s at).1; holds = p does.failed }

abbrev pub NoLess : State → ℕ → State → Type 0
NoLess s i t = credit_left s i ≤ credit_left t i

same-left : (s : State) (i : ℕ) (failed : List ℕ) → NoLess s i (after_act s Look failed)
same-left s i failed = omega arith

pub others-credit : (old new : CoreState) (call : CoreCall) (reply : CoreReply) (s : State) (i : ℕ) → Serves old call reply new → IsAt old s → same_caller (OfSource i) (caller_of call) ≡ false → GoneBehind new s (NoLess s i)
others-credit old new (Credit j) (CreditReply n) s i serves at not = record { state = s; at = subst (λ (c : CoreState). IsAt c s) (sym serves.same) at; holds = omega arith }
others-credit old new (Admit j records) (Admitted (Ok vs)) s i serves at not =
    gone-one old new (AdmitAct j records vs) s (NoLess s i) serves.does at (λ failed.
    credit-stays s (after_act s (AdmitAct j records vs) failed) i (get-change-other s.inlets j i (admitted records) (unequal i j not))
    (λ k a. acked-claims j (next_of s j) s.dests (claims_of records) vs i k (λ place. apart i j (next_of s j + place) k not) a))
others-credit old new (Admit j records) (Admitted (Err refused)) s i serves at not = gone-one old new Look s (NoLess s i) serves.does at (same-left s i)
others-credit old new (Front e most) (FrontReply result) s i serves at not = gone-one old new Look s (NoLess s i) serves.does at (same-left s i)
others-credit old new (Settle e place n count) (SettledReply Done) s i serves at not =
    gone-one old new (SettleAct e n) s (NoLess s i) serves.does at (λ failed. credit-stays s (after_act s (SettleAct e n) failed) i refl (λ k a. acked-settle s.dests e n i k a))
others-credit old new (Settle e place n count) (SettledReply NotFront) s i serves at not = gone-one old new Look s (NoLess s i) serves.does at (same-left s i)
others-credit old new (Settle e place n count) (SettledReply DiskFailed) s i serves at not =
    gone-one old new (SettleAct e n) s (NoLess s i) serves.does at (λ failed. credit-stays s (after_act s (SettleAct e n) failed) i refl (λ k a. acked-settle s.dests e n i k a))
others-credit old new (Refill e) (Refilled (Moved n)) s i serves at not =
    gone-one old new (RefillAct e n) s (NoLess s i) serves.does at (λ failed. credit-stays s (after_act s (RefillAct e n) failed) i refl (λ k a. acked-refill s.dests e n i k a))
others-credit old new (Refill e) (Refilled NoneWaits) s i serves at not = gone-one old new Look s (NoLess s i) serves.does at (same-left s i)
others-credit old new (Refill e) (Refilled NoRoom) s i serves at not = gone-one old new Look s (NoLess s i) serves.does at (same-left s i)
others-credit old new (Refill e) (Refilled RefillBroken) s i serves at not = gone-one old new Look s (NoLess s i) serves.does at (same-left s i)
others-credit old new (Store j) (Stored (Wrote w)) s i serves at not =
    gone-one old new (StoreAct j w) s (NoLess s i) serves.does at (λ failed. credit-stays s (after_act s (StoreAct j w) failed) i (get-change-other s.inlets j i (stored_at w) (unequal i j not)) (λ k a. a))
others-credit old new (Store j) (Stored Unchanged) s i serves at not = gone-one old new Look s (NoLess s i) serves.does at (same-left s i)
others-credit old new (Store j) (Stored Broken) s i serves at not = gone-one old new Look s (NoLess s i) serves.does at (same-left s i)
others-credit old new call reply s i serves at not = absurd serves

-- any call leaves the core at some state
abbrev Any : State → Type 0
Any t = Unit {0}

some-state : (old new : CoreState) (call : CoreCall) (reply : CoreReply) (s : State) → Serves old call reply new → IsAt old s → GoneBehind new s Any
some-state old new (Credit j) (CreditReply n) s serves at = record { state = s; at = subst (λ (c : CoreState). IsAt c s) (sym serves.same) at; holds = tt }
some-state old new (Admit j records) (Admitted (Ok vs)) s serves at = gone-one old new (AdmitAct j records vs) s Any serves.does at (λ failed. tt)
some-state old new (Admit j records) (Admitted (Err refused)) s serves at = gone-one old new Look s Any serves.does at (λ failed. tt)
some-state old new (Front e most) (FrontReply result) s serves at = gone-one old new Look s Any serves.does at (λ failed. tt)
some-state old new (Settle e place n count) (SettledReply Done) s serves at = gone-one old new (SettleAct e n) s Any serves.does at (λ failed. tt)
some-state old new (Settle e place n count) (SettledReply NotFront) s serves at = gone-one old new Look s Any serves.does at (λ failed. tt)
some-state old new (Settle e place n count) (SettledReply DiskFailed) s serves at = gone-one old new (SettleAct e n) s Any serves.does at (λ failed. tt)
some-state old new (Refill e) (Refilled (Moved n)) s serves at = gone-one old new (RefillAct e n) s Any serves.does at (λ failed. tt)
some-state old new (Refill e) (Refilled NoneWaits) s serves at = gone-one old new Look s Any serves.does at (λ failed. tt)
some-state old new (Refill e) (Refilled NoRoom) s serves at = gone-one old new Look s Any serves.does at (λ failed. tt)
some-state old new (Refill e) (Refilled RefillBroken) s serves at = gone-one old new Look s Any serves.does at (λ failed. tt)
some-state old new (Store j) (Stored (Wrote w)) s serves at = gone-one old new (StoreAct j w) s Any serves.does at (λ failed. tt)
some-state old new (Store j) (Stored Unchanged) s serves at = gone-one old new Look s Any serves.does at (λ failed. tt)
some-state old new (Store j) (Stored Broken) s serves at = gone-one old new Look s Any serves.does at (λ failed. tt)
some-state old new call reply s serves at = absurd serves

-- Own calls, with the credit before and behind each.

abbrev AsksCore : ℕ → ℕ → CoreCall → CoreReply → Type 0
AsksCore c b (Credit i) (CreditReply n) = (n ≡ c) × (b ≡ c)
AsksCore c b (Admit i records) (Admitted result) = is_no_credit result ≡ true → c < length records
AsksCore c b call reply = Unit {0}

abbrev RunAsked : ℕ → List Exchange → Type 0
RunAsked c [] = Unit {0}
RunAsked c (e ∷ es) = (a : ℕ) × ((c ≤ a) × ((b : ℕ) × (AsksCore a b e.call e.reply × RunAsked b es)))

run-less : (c a : ℕ) (es : List Exchange) → c ≤ a → RunAsked a es → RunAsked c es
run-less c a [] h r = tt
run-less c a (e ∷ es) h (x, (l, rest)) = (x, (omega (arith, h, l), rest))

run-after : (earlier es : List Exchange) (c : ℕ) → RunAsked c (earlier ++ es) → (a : ℕ) × RunAsked a es
run-after [] es c r = (c, r)
run-after (e ∷ earlier) es c (a, (l, (b, (asks, r)))) = run-after earlier es b r

asks : (old new : CoreState) (call : CoreCall) (reply : CoreReply) (i : ℕ) → Serves old call reply new → same_caller (OfSource i) (caller_of call) ≡ true → AsksCore (credit_at old.sources i) (credit_at new.sources i) call reply
asks old new (Credit j) (CreditReply n) i serves own =
    let same : j ≡ i = grind arith in
    (serves.value ∙ ap (credit_at old.sources) same, ap (λ (c : CoreState). credit_at c.sources i) serves.same)
asks old new (Admit j records) (Admitted result) i serves own = λ no_credit.
    let same : j ≡ i = grind arith in
    subst (λ (k : ℕ). credit_at old.sources k < length records) same (serves.no_credit.0 no_credit)
asks old new (Front d most) reply i serves own = tt
asks old new (Settle d place n count) reply i serves own = tt
asks old new (Refill d) reply i serves own = tt
asks old new (Store j) reply i serves own = tt
asks old new call reply i serves own = absurd serves

kept-own : (i : ℕ) (e : Exchange) (rest : List Exchange) → same_caller (OfSource i) (caller_of e.call) ≡ true → calls_by (OfSource i) (e ∷ rest) ≡ e ∷ calls_by (OfSource i) rest
kept-own i e rest h = rw h refl

left-out : (i : ℕ) (e : Exchange) (rest : List Exchange) → same_caller (OfSource i) (caller_of e.call) ≡ false → calls_by (OfSource i) (e ∷ rest) ≡ calls_by (OfSource i) rest
left-out i e rest h = rw h refl

runs-by : (i : ℕ) (old between : CoreState) (e : Exchange) (rest : List Exchange) (s : State) (b : Bool) → same_caller (OfSource i) (caller_of e.call) ≡ b → Serves old e.call e.reply between → IsAt old s
    → ((t : State) → IsAt between t → RunAsked (credit_at between.sources i) (calls_by (OfSource i) rest)) → RunAsked (credit_at old.sources i) (calls_by (OfSource i) (e ∷ rest))
runs-by i old between e rest s true own step at more =
    let g = some-state old between e.call e.reply s step at in
    subst (RunAsked (credit_at old.sources i)) (sym (kept-own i e rest own)) (credit_at old.sources i, (omega arith, (credit_at between.sources i, (asks old between e.call e.reply i step own, more g.state g.at))))
runs-by i old between e rest s false own step at more =
    let g = others-credit old between e.call e.reply s i step at own in
    let was = credit-told old s i at in
    let now = credit-told between g.state i g.at in
    let less = g.holds in
    subst (RunAsked (credit_at old.sources i)) (sym (left-out i e rest own)) (run-less (credit_at old.sources i) (credit_at between.sources i) (calls_by (OfSource i) rest) (omega (arith, was, now, less)) (more g.state g.at))

runs : (i : ℕ) (old new : CoreState) (made : List Exchange) (s : State) → Makes Serves old made new → IsAt old s → RunAsked (credit_at old.sources i) (calls_by (OfSource i) made)
runs i old new [] s makes at = tt
runs i old new (e ∷ rest) s (between, step, makes) at = runs-by i old between e rest s (same_caller (OfSource i) (caller_of e.call)) refl step at (λ t there. runs i between new rest t makes there)

not-refused : (b : Bool) (n c : ℕ) → n ≤ c → (b ≡ true → c < n) → b ≡ false
not-refused true n c h k = let less = k refl in absurd (omega (arith, h, less))
not-refused false n c h k = refl

lasts : (i credit c : ℕ) (records : List Admission) (answer : Result (List Verdict) Refused) (later : List Exchange) → RunAsked c (asked_then_brought i credit records answer ++ later) → length records ≤ credit → is_no_credit answer ≡ false
lasts i credit c records answer later (a, (l, (b, (told, (e, (more, (f, (refused, rest)))))))) few =
    let is = told.0 in
    let on = told.1 in
    not-refused (is_no_credit answer) (length records) e (omega (arith, is, on, more, few)) refused

pub credit-lasts : CreditLasts
credit-lasts old new made start before events i ran earlier later credit records answer calls few =
    let run = runs i old new made (after_all start before) ran.makes ran.stood.at in
    let r = run-after earlier (asked_then_brought i credit records answer ++ later) (credit_at old.sources i) (subst (RunAsked (credit_at old.sources i)) calls run) in
    lasts i credit r.0 records answer later r.1 few
