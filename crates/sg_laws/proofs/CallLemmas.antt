-- What the calls of a core change of what is counted of an inlet.
use Rattle.std.proofs.Common.{◌≡◌, ℕ, ◌+◌, ◌≤◌, List, [], ◌∷◌, ◌++◌, length, length-append, Bool, true, false, not, refl, sym, ap, ◌∙◌, arith, ◌⊎◌, inl, inr, subst, Option, Some, Ok, Err}
use Rattle.std.specs.Prelude.{◌==◌}
use Rattle.std.proofs.lemmas.Bool.{eq-eqb}
use Rattle.sg_machine.specs.declared.event.Act.TheVariants.{Admit as AdmitAct, Settle as SettleAct, Refill as RefillAct, Store as StoreAct, Look}
use Rattle.sg_machine.specs.declared.event.Admission.{Admission}
use Rattle.sg_machine.specs.declared.event.Verdict.{Verdict}
use Rattle.sg_machine.specs.declared.state.State.{State}
use Rattle.sg_machine.specs.Effects.{next_of, after_act}
use Rattle.sg_machine.specs.Legal.{is_legal_act}
use Rattle.sg_counter.specs.Exchanges.{Exchange, Makes, OfSource, caller_of, same_caller, calls_by}
use Rattle.sg_counter.specs.declared.answers.Refill.TheVariants.{Moved, NoneWaits, NoRoom, Broken as RefillBroken}
use Rattle.sg_counter.specs.declared.answers.Settled.TheVariants.{Done, NotFront, DiskFailed}
use Rattle.sg_counter.specs.declared.answers.Stored.TheVariants.{Wrote, Unchanged, Broken}
use Rattle.sg_counter.specs.declared.calls.CoreCall.{CoreCall}
use Rattle.sg_counter.specs.declared.calls.CoreCall.TheVariants.{Credit, Admit, Front, Settle, Refill, Store}
use Rattle.sg_counter.specs.declared.calls.CoreReply.{CoreReply}
use Rattle.sg_counter.specs.declared.calls.CoreReply.TheVariants.{Credit as CreditReply, Admitted, Front as FrontReply, Settled as SettledReply, Refilled, Stored as StoredReply}
use Rattle.sg_standing.specs.States.{CoreState}
use Rattle.sg_standing.specs.Standing.{IsAt}
use Rattle.sg_core.specs.Calls.{Serves}
use Rattle.sg_actor.specs.Bringing.{admitted_by, admitted_in, stored_by, stores_in}
use Rattle.sg_actor.specs.Positions.{is_same_credit}
use Rattle.sg_actor.specs.Reading.{one_if}
use Rattle.sg_laws.specs.Counts.{credit_after, changed_by, changes, writes, writes_in, offers_of}
use Rattle.sg_laws.proofs.OwedLemmas.{owed_in}
use Rattle.sg_laws.proofs.ActLemmas.{credit_at, acked_at, unstored_at, GoesByAct, goes-still, goes-settle, goes-refill, goes-others, goes-stored, goes-admit, goes-store}
use Rattle.sg_laws.proofs.CountLemmas.{writes-both}
use Rattle.sg_turns.proofs.BoundLemmas.{one-most}

-- A call.

-- so many where it is the inlet's own call
abbrev pub num : Bool → ℕ → ℕ
num true n = n
num false n = 0

abbrev came_by : CoreCall → CoreReply → ℕ
came_by call reply = length (admitted_by call reply)

abbrev pub offered_by : CoreCall → CoreReply → ℕ
offered_by call reply = offers_of (admitted_by call reply)

abbrev written_by : CoreReply → ℕ
written_by reply = writes (stored_by reply)

-- a question for the credit is answered by it, and changes nothing
abbrev TellsCredit : CoreReply → State → State → ℕ → Type 0
TellsCredit (CreditReply credit) s t i = (credit ≡ credit_at s i) × (t ≡ s)
TellsCredit reply s t i = Unit {0}

record CalledSo (i : ℕ) (new : CoreState) (s : State) (call : CoreCall) (reply : CoreReply) (own : Bool) : Type 0 where
  after : State
  at : IsAt new after
  goes : GoesByAct i s after (num own (came_by call reply)) (num own (offered_by call reply)) (num own (written_by reply)) (offered_by call reply)
  tells : own ≡ true → TellsCredit reply s after i

equal-of : (a b : ℕ) → (a == b) ≡ true → a ≡ b
equal-of a b h = grind arith

goes-zero : (i : ℕ) (s t : State) (all : ℕ) (own : Bool) → GoesByAct i s t 0 0 0 all → GoesByAct i s t (num own 0) (num own 0) (num own 0) all
goes-zero i s t all true h = h
goes-zero i s t all false h = h

goes-look : (i : ℕ) (s : State) (failed : List ℕ) (own : Bool) → GoesByAct i s (after_act s Look failed) (num own 0) (num own 0) (num own 0) 0
goes-look i s failed own = goes-zero i s (after_act s Look failed) 0 own (goes-still i s (after_act s Look failed) refl refl)

credit-told : (i j credit : ℕ) (s : State) (own : Bool) → (i == j) ≡ own → credit ≡ credit_at s j → own ≡ true → TellsCredit (CreditReply credit) s s i
credit-told i j credit s own is told mine = (subst (λ k. credit ≡ credit_at s k) (sym (equal-of i j (is ∙ mine))) told, refl)

admit-goes : (i j : ℕ) (records : List Admission) (vs : List Verdict) (s : State) (failed : List ℕ) (own : Bool) → (i == j) ≡ own → is_legal_act s (AdmitAct j records vs) failed ≡ true
    → GoesByAct i s (after_act s (AdmitAct j records vs) failed) (num own (length records)) (num own (offers_of records)) (num own 0) (offers_of records)
admit-goes i j records vs s failed true is legal =
    subst (λ k. is_legal_act s (AdmitAct k records vs) failed ≡ true → GoesByAct i s (after_act s (AdmitAct k records vs) failed) (length records) (offers_of records) 0 (offers_of records)) (equal-of i j is)
    (λ l. goes-admit i records vs s failed l) legal
admit-goes i j records vs s failed false is legal = goes-others i j records vs s failed is

store-goes : (i j w : ℕ) (s : State) (failed : List ℕ) (own : Bool) → (i == j) ≡ own → is_legal_act s (StoreAct j w) failed ≡ true → GoesByAct i s (after_act s (StoreAct j w) failed) (num own 0) (num own 0) (num own 1) 0
store-goes i j w s failed true is legal =
    subst (λ k. is_legal_act s (StoreAct k w) failed ≡ true → GoesByAct i s (after_act s (StoreAct k w) failed) 0 0 1 0) (equal-of i j is) (λ l. goes-store i w s failed l) legal
store-goes i j w s failed false is legal = goes-stored i j w s failed is

called : (i : ℕ) (old new : CoreState) (call : CoreCall) (reply : CoreReply) (s : State) (own : Bool) → same_caller (OfSource i) (caller_of call) ≡ own → Serves old call reply new → IsAt old s → CalledSo i new s call reply own
called i old new (Credit j) (CreditReply credit) s own is serves at = record {
  after = s;
  at = subst (λ (c : CoreState). IsAt c s) (sym serves.same) at;
  goes = goes-zero i s s 0 own (goes-still i s s refl refl);
  tells = credit-told i j credit s own is (serves.stands s at);
}
called i old new (Admit j records) (Admitted (Ok vs)) s own is serves at =
    let does = serves.does in
    let step = does.step s at in
    record { after = after_act s (AdmitAct j records vs) does.failed; at = step.1; goes = admit-goes i j records vs s does.failed own is step.0; tells = λ mine. tt }
called i old new (Admit j records) (Admitted (Err refused)) s own is serves at =
    let does = serves.does in
    record { after = after_act s Look does.failed; at = (does.step s at).1; goes = goes-look i s does.failed own; tells = λ mine. tt }
called i old new (Front e most) (FrontReply result) s own is serves at =
    let does = serves.does in
    record { after = after_act s Look does.failed; at = (does.step s at).1; goes = goes-look i s does.failed own; tells = λ mine. tt }
called i old new (Settle e place n count) (SettledReply Done) s own is serves at =
    let does = serves.does in
    record { after = after_act s (SettleAct e n) does.failed; at = (does.step s at).1; goes = goes-zero i s (after_act s (SettleAct e n) does.failed) 0 own (goes-settle i e n s does.failed); tells = λ mine. tt }
called i old new (Settle e place n count) (SettledReply NotFront) s own is serves at =
    let does = serves.does in
    record { after = after_act s Look does.failed; at = (does.step s at).1; goes = goes-look i s does.failed own; tells = λ mine. tt }
called i old new (Settle e place n count) (SettledReply DiskFailed) s own is serves at =
    let does = serves.does in
    record { after = after_act s (SettleAct e n) does.failed; at = (does.step s at).1; goes = goes-zero i s (after_act s (SettleAct e n) does.failed) 0 own (goes-settle i e n s does.failed); tells = λ mine. tt }
called i old new (Refill e) (Refilled (Moved n)) s own is serves at =
    let does = serves.does in
    record { after = after_act s (RefillAct e n) does.failed; at = (does.step s at).1; goes = goes-zero i s (after_act s (RefillAct e n) does.failed) 0 own (goes-refill i e n s does.failed); tells = λ mine. tt }
called i old new (Refill e) (Refilled NoneWaits) s own is serves at =
    let does = serves.does in
    record { after = after_act s Look does.failed; at = (does.step s at).1; goes = goes-look i s does.failed own; tells = λ mine. tt }
called i old new (Refill e) (Refilled NoRoom) s own is serves at =
    let does = serves.does in
    record { after = after_act s Look does.failed; at = (does.step s at).1; goes = goes-look i s does.failed own; tells = λ mine. tt }
called i old new (Refill e) (Refilled RefillBroken) s own is serves at =
    let does = serves.does in
    record { after = after_act s Look does.failed; at = (does.step s at).1; goes = goes-look i s does.failed own; tells = λ mine. tt }
called i old new (Store j) (StoredReply (Wrote w)) s own is serves at =
    let does = serves.does in
    let step = does.step s at in
    record { after = after_act s (StoreAct j w) does.failed; at = step.1; goes = store-goes i j w s does.failed own is step.0; tells = λ mine. tt }
called i old new (Store j) (StoredReply Unchanged) s own is serves at =
    let does = serves.does in
    record { after = after_act s Look does.failed; at = (does.step s at).1; goes = goes-look i s does.failed own; tells = λ mine. tt }
called i old new (Store j) (StoredReply Broken) s own is serves at =
    let does = serves.does in
    record { after = after_act s Look does.failed; at = (does.step s at).1; goes = goes-look i s does.failed own; tells = λ mine. tt }
called i old new call reply s own is serves at = absurd serves

-- Calls.

-- What all calls change, and those of the inlet among them.
pub record TotalCalls (i : ℕ) (before : Option ℕ) (own : List Exchange) (s t : State) : Type 0 where
  pub changed : changes before own + owed_in i t.dests ≤ one_if (not (is_same_credit before (credit_at s i))) + length (admitted_in own) + offers_of (admitted_in own) + owed_in i s.dests
  pub marks : writes_in own + unstored_at t i + acked_at s i ≤ unstored_at s i + acked_at t i
  pub records : next_of t i ≤ next_of s i + length (admitted_in own)

equal-now : (a b : ℕ) → a ≡ b → one_if (not (a == b)) ≡ 0
equal-now a b h = ap (λ t. one_if (not t)) (eq-eqb a b h)

-- another credit than before
lift : (before : Option ℕ) (now then owes owed' came offered : ℕ) → (then ≡ now) ⊎ (owed' + 1 ≤ owes + came + offered) → owed' ≤ owes + offered
    → one_if (not (is_same_credit before then)) + owed' ≤ one_if (not (is_same_credit before now)) + came + offered + owes
lift before now then owes owed' came offered (inl e) few = let same = ap (λ c. one_if (not (is_same_credit before c))) e in omega (arith, same, few)
lift before now then owes owed' came offered (inr l) few = let one = one-most (not (is_same_credit before then)) in omega (arith, one, l)

-- a call that isn't a question for the credit
changed-on : (i : ℕ) (before : Option ℕ) (own : List Exchange) (s mid t : State) (came offered written all : ℕ) → GoesByAct i s mid came offered written all → TotalCalls i before own mid t
    → changes before own + owed_in i t.dests ≤ one_if (not (is_same_credit before (credit_at s i))) + (came + length (admitted_in own)) + (offered + offers_of (admitted_in own)) + owed_in i s.dests
changed-on i before own s mid t came offered written all goes total =
    let h = lift before (credit_at s i) (credit_at mid i) (owed_in i s.dests) (owed_in i mid.dests) came offered goes.credit goes.owed in
    let k = total.changed in
    omega (arith, h, k)

changed-own : (reply : CoreReply) (i : ℕ) (before : Option ℕ) (own : List Exchange) (s mid t : State) (came offered written all : ℕ) → GoesByAct i s mid came offered written all → TellsCredit reply s mid i → ((b : Option ℕ) → TotalCalls i b own mid t)
    → changed_by before reply + changes (credit_after before reply) own + owed_in i t.dests ≤ one_if (not (is_same_credit before (credit_at s i))) + (came + length (admitted_in own)) + (offered + offers_of (admitted_in own)) + owed_in i s.dests
changed-own (CreditReply credit) i before own s mid t came offered written all goes tells next =
    let k = (next (Some credit)).changed in
    let same = ap (λ c. one_if (not (is_same_credit before c))) tells.0 in
    let now : credit ≡ credit_at mid i = tells.0 ∙ ap (λ (x : State). credit_at x i) (sym tells.1) in
    let none = equal-now credit (credit_at mid i) now in
    let owes = ap (λ (x : State). owed_in i x.dests) tells.1 in
    omega (arith, k, same, none, owes)
changed-own (Admitted result) i before own s mid t came offered written all goes tells next = let h = changed-on i before own s mid t came offered written all goes (next before) in omega (arith, h)
changed-own (FrontReply result) i before own s mid t came offered written all goes tells next = let h = changed-on i before own s mid t came offered written all goes (next before) in omega (arith, h)
changed-own (SettledReply result) i before own s mid t came offered written all goes tells next = let h = changed-on i before own s mid t came offered written all goes (next before) in omega (arith, h)
changed-own (Refilled result) i before own s mid t came offered written all goes tells next = let h = changed-on i before own s mid t came offered written all goes (next before) in omega (arith, h)
changed-own (StoredReply result) i before own s mid t came offered written all goes tells next = let h = changed-on i before own s mid t came offered written all goes (next before) in omega (arith, h)

offers-both : (xs ys : List Admission) → offers_of (xs ++ ys) ≡ offers_of xs + offers_of ys
offers-both [] ys = omega arith
offers-both (x ∷ xs) ys = let h = offers-both xs ys in omega (arith, h)

kept-own : (i : ℕ) (e : Exchange) (rest : List Exchange) → same_caller (OfSource i) (caller_of e.call) ≡ true → calls_by (OfSource i) (e ∷ rest) ≡ e ∷ calls_by (OfSource i) rest
kept-own i e rest h = rw h refl

left-out : (i : ℕ) (e : Exchange) (rest : List Exchange) → same_caller (OfSource i) (caller_of e.call) ≡ false → calls_by (OfSource i) (e ∷ rest) ≡ calls_by (OfSource i) rest
left-out i e rest h = rw h refl

total-step : (i : ℕ) (before : Option ℕ) (new : CoreState) (e : Exchange) (rest : List Exchange) (s t : State) (own : Bool) → same_caller (OfSource i) (caller_of e.call) ≡ own → (h : CalledSo i new s e.call e.reply own)
    → ((b : Option ℕ) → TotalCalls i b (calls_by (OfSource i) rest) h.after t) → TotalCalls i before (calls_by (OfSource i) (e ∷ rest)) s t
total-step i before new e rest s t true is h next =
    let own = calls_by (OfSource i) rest in
    let came = came_by e.call e.reply in
    let offered = offered_by e.call e.reply in
    let written = written_by e.reply in
    let goes = h.goes in
    let k = next before in
    let records = length-append (admitted_by e.call e.reply) (admitted_in own) in
    let offers = offers-both (admitted_by e.call e.reply) (admitted_in own) in
    let writes-are = writes-both (stored_by e.reply) (stores_in own) in
    let changed = changed-own e.reply i before own s h.after t came offered written (offered_by e.call e.reply) goes (h.tells refl) next in
    let marks = goes.marks in
    let later = k.marks in
    let more = goes.records in
    let then = k.records in
    subst (λ es. TotalCalls i before es s t) (sym (kept-own i e rest is)) (record {
      changed = omega (arith, changed, records, offers);
      marks = omega (arith, marks, later, writes-are);
      records = omega (arith, more, then, records);
    })
total-step i before new e rest s t false is h next =
    let own = calls_by (OfSource i) rest in
    let goes = h.goes in
    let k = next before in
    let changed = changed-on i before own s h.after t 0 0 0 (offered_by e.call e.reply) goes k in
    let marks = goes.marks in
    let later = k.marks in
    let more = goes.records in
    let then = k.records in
    subst (λ es. TotalCalls i before es s t) (sym (left-out i e rest is)) (record {
      changed = omega (arith, changed);
      marks = omega (arith, marks, later);
      records = omega (arith, more, then);
    })

pub record Ends (i : ℕ) (new : CoreState) (s : State) (made : List Exchange) : Type 0 where
  pub after : State
  pub at : IsAt new after
  pub total : (before : Option ℕ) → TotalCalls i before (calls_by (OfSource i) made) s after

pub calls-end : (i : ℕ) (old new : CoreState) (made : List Exchange) (s : State) → Makes Serves old made new → IsAt old s → Ends i new s made
calls-end i old new [] s makes at = record {
  after = s;
  at = subst (λ (c : CoreState). IsAt c s) (sym makes) at;
  total = (λ before. record { changed = omega arith; marks = omega arith; records = omega arith });
}
calls-end i old new (e ∷ rest) s (between, step, makes) at =
    let own = same_caller (OfSource i) (caller_of e.call) in
    let h = called i old between e.call e.reply s own refl step at in
    let k = calls-end i between new rest h.after makes h.at in
    record { after = k.after; at = k.at; total = λ before. total-step i before between e rest s k.after own refl h k.total }
