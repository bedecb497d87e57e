-- Calls that change nothing of a core but which stores have failed.
use Rattle.std.proofs.Common.{◌≡◌, ℕ, true, false, List, [], ◌∷◌, ◌++◌, Ok, Err, inl, inr, refl, sym, subst}
use Rattle.std.specs.Option.{option_map_or}
use Rattle.sg_list.specs.Lists.{passes_at}
use Rattle.sg_list.proofs.ListLemmas.{passes_at-some}
use Rattle.sg_machine.specs.declared.event.Act.TheVariants.{Admit as AdmitAct, Look}
use Rattle.sg_machine.specs.declared.event.Admission.{Admission}
use Rattle.sg_machine.specs.declared.event.Verdict.{Verdict}
use Rattle.sg_machine.specs.declared.state.State.{State}
use Rattle.sg_machine.specs.Effects.{next_of}
use Rattle.sg_machine.specs.Legal.{is_legal_act, may_admit, is_same_list}
use Rattle.sg_machine.specs.Verdicts.{is_listed, claims_of, judged}
use Rattle.sg_machine.proofs.RunLemmas.{both-true}
use Rattle.sg_counter.specs.Exchanges.{Exchange, Makes}
use Rattle.sg_counter.specs.declared.answers.Stored.TheVariants.{Wrote, Unchanged, Broken}
use Rattle.sg_counter.specs.declared.calls.CoreCall.{CoreCall}
use Rattle.sg_counter.specs.declared.calls.CoreCall.TheVariants.{Credit, Admit, Front, Settle, Refill, Store}
use Rattle.sg_counter.specs.declared.calls.CoreReply.{CoreReply}
use Rattle.sg_counter.specs.declared.calls.CoreReply.TheVariants.{Credit as CreditReply, Admitted, Front as FrontReply, Stored}
use Rattle.sg_standing.specs.States.{CoreState}
use Rattle.sg_standing.specs.Standing.{IsAt, DoesAct}
use Rattle.sg_standing.proofs.Frozen.{listed-front}
use Rattle.sg_core.specs.Calls.{Serves}
use Rattle.sg_actor.specs.Bringing.{admitted_by, stored_by}
use Rattle.sg_actor.specs.Positions.{has_news}
use Rattle.sg_laws.proofs.StepLemmas.{Has}

-- a call that brings no record, settles and moves nothing, and writes no position
abbrev pub IsCalm : CoreCall → CoreReply → Type 0
IsCalm (Credit i) reply = Unit {0}
IsCalm (Admit i records) reply = admitted_by (Admit i records) reply ≡ []
IsCalm (Front d most) reply = Unit {0}
IsCalm (Settle d place n count) reply = ⊥
IsCalm (Refill d) reply = ⊥
IsCalm (Store i) reply = has_news (stored_by reply) ≡ false

abbrev pub AllCalm : List Exchange → Type 0
AllCalm made = (e : Exchange) → Has made e → IsCalm e.call e.reply

-- the state with these failed stores
abbrev pub with_failed : State → List ℕ → State
with_failed s failed = record s { failed = failed }

-- the core is at the same state, but that more stores may have failed
pub record Stayed (new : CoreState) (s : State) : Type 0 where
  pub failed : List ℕ
  pub at : IsAt new (with_failed s failed)
  pub kept : (u : ℕ) → is_listed u s.failed ≡ true → is_listed u failed ≡ true

stayed-look : (old new : CoreState) (s : State) → DoesAct old new Look → IsAt old s → Stayed new s
stayed-look old new s does at = record {
  failed = s.failed ++ does.failed;
  at = (does.step s at).1;
  kept = λ u h. listed-front u s.failed does.failed h;
}

-- an admit brings a record at least
no-empty-admit : (s : State) (i : ℕ) (records : List Admission) (vs : List Verdict) (failed : List ℕ) → records ≡ [] → is_legal_act s (AdmitAct i records vs) failed ≡ true → ⊥
no-empty-admit s i records vs failed none legal =
    let legal' : is_legal_act s (AdmitAct i [] vs) failed ≡ true = subst (λ (rs : List Admission). is_legal_act s (AdmitAct i rs vs) failed ≡ true) none legal in
    let both = both-true (passes_at s.inlets i (may_admit s i [])) (option_map_or (is_same_list (s.failed ++ failed)) (judged i (next_of s i) failed s.dests s.failed (claims_of []) vs) false) legal' in
    let passed = passes_at-some s.inlets i (may_admit s i []) both.0 in
    let wrong : false ≡ true = passed.2 in
    cc

calm-call : (old new : CoreState) (call : CoreCall) (reply : CoreReply) (s : State) → Serves old call reply new → IsCalm call reply → IsAt old s → Stayed new s
calm-call old new (Credit i) (CreditReply n) s h calm at = record { failed = s.failed; at = subst (λ (c : CoreState). IsAt c s) (sym h.same) at; kept = λ u l. l }
calm-call old new (Admit i records) (Admitted (Ok vs)) s h calm at =
    let does : DoesAct old new (AdmitAct i records vs) = h.does in
    absurd (no-empty-admit s i records vs does.failed calm (does.step s at).0)
calm-call old new (Admit i records) (Admitted (Err refused)) s h calm at = stayed-look old new s h.does at
calm-call old new (Front d most) (FrontReply result) s h calm at = stayed-look old new s h.does at
calm-call old new (Settle d place n count) reply s h calm at = absurd calm
calm-call old new (Refill d) reply s h calm at = absurd calm
calm-call old new (Store i) (Stored (Wrote w)) s h calm at = absurd (let wrong : true ≡ false = calm in cc)
calm-call old new (Store i) (Stored Unchanged) s h calm at = stayed-look old new s h.does at
calm-call old new (Store i) (Stored Broken) s h calm at = absurd (let wrong : true ≡ false = calm in cc)
calm-call old new call reply s h calm at = absurd h

pub calm-all : (old new : CoreState) (made : List Exchange) (s : State) → Makes Serves old made new → AllCalm made → IsAt old s → Stayed new s
calm-all old new [] s same calm at = record { failed = s.failed; at = subst (λ (c : CoreState). IsAt c s) (sym same) at; kept = λ u l. l }
calm-all old new (x ∷ rest) s m calm at =
    let one = calm-call old m.0 x.call x.reply s m.1 (calm x (inl refl)) at in
    let more = calm-all m.0 new rest (with_failed s one.failed) m.2 (λ e h. calm e (inr h)) one.at in
    record { failed = more.failed; at = more.at; kept = λ u h. more.kept u (one.kept u h) }

-- where one of these calls was served
pub record CalmMoment (s : State) (e : Exchange) : Type 0 where
  pub first : CoreState
  pub next : CoreState
  pub failed : List ℕ
  pub at : IsAt first (with_failed s failed)
  pub serves : Serves first e.call e.reply next

pub calm-moment : (old new : CoreState) (made : List Exchange) (s : State) (e : Exchange) → Makes Serves old made new → AllCalm made → IsAt old s → Has made e → CalmMoment s e
calm-moment old new [] s e m calm at h = absurd h
calm-moment old new (x ∷ rest) s e m calm at (inl same) = record {
  first = old;
  next = m.0;
  failed = s.failed;
  at = at;
  serves = subst (λ (y : Exchange). Serves old y.call y.reply m.0) same m.1;
}
calm-moment old new (x ∷ rest) s e m calm at (inr h) =
    let one = calm-call old m.0 x.call x.reply s m.1 (calm x (inl refl)) at in
    let k = calm-moment m.0 new rest (with_failed s one.failed) e m.2 (λ y has. calm y (inr has)) one.at h in
    record { first = k.first; next = k.next; failed = k.failed; at = k.at; serves = k.serves }

-- calls one after another, parted
pub makes-split : (old new : CoreState) (xs ys : List Exchange) → Makes Serves old (xs ++ ys) new → (mid : CoreState) × (Makes Serves old xs mid × Makes Serves mid ys new)
makes-split old new [] ys m = (old, (refl, m))
makes-split old new (x ∷ xs) ys m = let r = makes-split m.0 new xs ys m.2 in (r.0, ((m.0, m.1, r.1.0), r.1.1))
