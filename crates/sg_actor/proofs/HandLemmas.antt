-- Records that are handed in.
use Rattle.std.proofs.Common.{arith, ◌≡◌, ◌≤◌, ◌<◌, ℕ, Bool, true, false, List, [], ◌∷◌, ◌++◌, length, refl, ap, sym, ◌∙◌, subst, inl, inr}
use Rattle.std.proofs.lemmas.List.{append-nil}
use Rattle.std.proofs.lemmas.Bool.Decides.{nat_tests}
use Rattle.std.specs.Prelude.{Ok, Err, IsErr, Result, ◌==◌}
use Rattle.std.specs.declared.alloc.AllocError.{AllocError}
use Rattle.sg_device.specs.Inlet.{InletState}
use Rattle.sg_machine.specs.declared.event.Admission.{Admission}
use Rattle.sg_machine.specs.declared.event.Verdict.{Verdict}
use Rattle.sg_counter.specs.declared.calls.CoreCall.{CoreCall}
use Rattle.sg_counter.specs.declared.calls.CoreCall.TheVariants.{Admit}
use Rattle.sg_counter.specs.declared.calls.CoreReply.{CoreReply}
use Rattle.sg_counter.specs.declared.calls.CoreReply.TheVariants.{Credit as CreditReply, Admitted, Front as FrontReply, Settled, Refilled, Stored}
use Rattle.sg_counter.specs.declared.answers.Refused.TheVariants.{NoCredit, NoMemory as AdmitNoMemory}
use Rattle.sg_actor.specs.Sources.{SourceState, source, IsReady}
use Rattle.sg_actor.specs.Steps.{LooksBy, is_bad, is_spent, GivesUp}
use Rattle.sg_actor.specs.Bringing.{exchange, admitted_in, carried_in, last_end, AdmitsBy, Admits, MayGiveUp, HandsIn, HasRefusal}
use Rattle.sg_actor.specs.declared.reader.Reader.{Reader}
use Rattle.sg_actor.specs.declared.admitting.Handed.{Handed}
use Rattle.sg_actor.specs.declared.settings.SourceSpec.{SourceSpec}
use Rattle.sg_actor.proofs.PullLemmas.{lt-yes}
use Rattle.sg_actor.proofs.KeepLemmas.{held-looked}
use Rattle.sg_actor.proofs.GiveLemmas.{gives-none, gives-by, gives-admitted, gives-looked, gives-then, looked-before, end-looked, held-given}

-- what each answer means

admits-true : (old new : Reader) (reply : CoreReply) → AdmitsBy {E = AllocError} old new reply (Ok true)
    → (verdicts : List Verdict) × ((reply ≡ Admitted (Ok verdicts)) × (new ≡ record old { held = []; end = last_end old.end old.held }))
admits-true old new (CreditReply n) h = absurd h
admits-true old new (Admitted (Ok verdicts)) h = (verdicts, (refl, h))
admits-true old new (Admitted (Err (NoCredit records))) h = absurd h
admits-true old new (Admitted (Err (AdmitNoMemory records))) h = absurd h
admits-true old new (FrontReply r) h = absurd h
admits-true old new (Settled r) h = absurd h
admits-true old new (Refilled r) h = absurd h
admits-true old new (Stored r) h = absurd h

admits-false : (old new : Reader) (reply : CoreReply) → AdmitsBy {E = AllocError} old new reply (Ok false)
    → (records : List Admission) × ((reply ≡ Admitted (Err (NoCredit records))) × (new ≡ old))
admits-false old new (CreditReply n) h = absurd h
admits-false old new (Admitted (Ok verdicts)) h = absurd h
admits-false old new (Admitted (Err (NoCredit records))) h = (records, (refl, h))
admits-false old new (Admitted (Err (AdmitNoMemory records))) h = absurd h
admits-false old new (FrontReply r) h = absurd h
admits-false old new (Settled r) h = absurd h
admits-false old new (Refilled r) h = absurd h
admits-false old new (Stored r) h = absurd h

admits-err : (old new : Reader) (reply : CoreReply) (e : AllocError) → AdmitsBy {E = AllocError} old new reply (Err e)
    → (records : List Admission) × ((reply ≡ Admitted (Err (AdmitNoMemory records))) × (new ≡ old))
admits-err old new (CreditReply n) e h = absurd h
admits-err old new (Admitted (Ok verdicts)) e h = absurd h
admits-err old new (Admitted (Err (NoCredit records))) e h = absurd h
admits-err old new (Admitted (Err (AdmitNoMemory records))) e h = (records, (refl, h))
admits-err old new (FrontReply r) e h = absurd h
admits-err old new (Settled r) e h = absurd h
admits-err old new (Refilled r) e h = absurd h
admits-err old new (Stored r) e h = absurd h

-- nothing was held
spent-bad : (reader : Reader) → reader.held ≡ [] → is_bad reader ≡ false → is_spent reader ≡ true
spent-bad reader none bad = rw (none, bad) refl

up-bad : (old new : Reader) (feed feed' : InletState) (up : Bool) → GivesUp old feed new feed' up → up ≡ false → is_bad old ≡ false
up-bad old new feed feed' true h is = absurd (let differ : true ≡ false = is in cc)
up-bad old new feed feed' false h is = h.0

ups-none : (A : Type 0) (b : Bool) → b ≡ true → b ≡ false → A
ups-none A b h k = absurd (let differ : true ≡ false = sym h ∙ k in cc)

pub hands-none : {S : Type 0} (step : S → CoreCall → CoreReply → S → Type 0) (counter : S) (dests : ℕ) (spec : SourceSpec) (feed feed' : InletState) (buffer : List ℕ) (old new : Reader) (up : Bool)
    → old.held ≡ [] → GivesUp old feed new feed' up → IsReady dests spec (source feed old buffer)
    → HandsIn {E = AllocError} dests spec step counter counter (source feed old buffer) (source feed' new buffer) (Ok (record { admitted = false; gave_up = up }))
hands-none step counter dests spec feed feed' buffer old new up none gives ready =
    let held = held-given feed feed' old new up gives in
    record {
      made = [];
      few = omega arith;
      makes = refl;
      own = tt;
      unstored = refl;
      gives = gives-by dests spec feed feed' buffer old new up gives none ready;
      moves = inr (held.0, refl);
      within = omega arith;
      empties = inl (held.0 ∙ none);
      end = held.1;
      hands = (refl, (λ spent a b. ups-none (HasRefusal []) (is_spent old) (spent-bad old none (up-bad old new feed feed' up gives b)) spent));
    }

-- the records that are held are brought in one call
all-carried : (held : List Admission) (i : ℕ) (reply : CoreReply) → length (carried_in (exchange (Admit i held) reply ∷ [])) ≤ length held
all-carried held i reply = (let same : length (held ++ []) ≡ length held = ap length (append-nil held) in omega arith)

-- the records were refused
refused : {S : Type 0} (step : S → CoreCall → CoreReply → S → Type 0) (counter counter' : S) (dests : ℕ) (spec : SourceSpec) (feed : InletState) (buffer : List ℕ) (old : Reader) (records : List Admission)
    → step counter (Admit spec.inlet old.held) (Admitted (Err (NoCredit records))) counter' → IsReady dests spec (source feed old buffer)
    → HandsIn {E = AllocError} dests spec step counter counter' (source feed old buffer) (source feed old buffer) (Ok (record { admitted = false; gave_up = false }))
refused step counter counter' dests spec feed buffer old records made ready = record {
  made = exchange (Admit spec.inlet old.held) (Admitted (Err (NoCredit records))) ∷ [];
  few = omega arith;
  makes = (counter', made, refl);
  own = (refl, tt);
  unstored = refl;
  gives = gives-none dests spec (source feed old buffer) ready;
  moves = inr (refl, refl);
  within = all-carried old.held spec.inlet (Admitted (Err (NoCredit records)));
  empties = inr (inl tt);
  end = refl;
  hands = (refl, (λ spent a b. inl tt));
}

pub hands-refused : {S : Type 0} (step : S → CoreCall → CoreReply → S → Type 0) (counter counter' : S) (dests : ℕ) (spec : SourceSpec) (feed : InletState) (buffer : List ℕ) (old new : Reader)
    → Admits {E = AllocError} step counter counter' spec.inlet old new (Ok false) → IsReady dests spec (source feed old buffer)
    → HandsIn {E = AllocError} dests spec step counter counter' (source feed old buffer) (source feed new buffer) (Ok (record { admitted = false; gave_up = false }))
hands-refused step counter counter' dests spec feed buffer old new (reply, admits) ready =
    let is = admits-false old new reply admits.1 in
    let made = subst (λ r. step counter (Admit spec.inlet old.held) r counter') is.1.0 admits.0 in
    subst (λ r. HandsIn {E = AllocError} dests spec step counter counter' (source feed old buffer) (source feed r buffer) (Ok (record { admitted = false; gave_up = false }))) (sym is.1.1)
    (refused step counter counter' dests spec feed buffer old is.0 made ready)

-- memory ran out
starved : {S : Type 0} (step : S → CoreCall → CoreReply → S → Type 0) (counter counter' : S) (dests : ℕ) (spec : SourceSpec) (feed : InletState) (buffer : List ℕ) (old : Reader) (records : List Admission) (e : AllocError)
    → step counter (Admit spec.inlet old.held) (Admitted (Err (AdmitNoMemory records))) counter' → IsReady dests spec (source feed old buffer)
    → HandsIn {E = AllocError} dests spec step counter counter' (source feed old buffer) (source feed old buffer) (Err e)
starved step counter counter' dests spec feed buffer old records e made ready = record {
  made = exchange (Admit spec.inlet old.held) (Admitted (Err (AdmitNoMemory records))) ∷ [];
  few = omega arith;
  makes = (counter', made, refl);
  own = (refl, tt);
  unstored = refl;
  gives = gives-none dests spec (source feed old buffer) ready;
  moves = inr (refl, refl);
  within = all-carried old.held spec.inlet (Admitted (Err (AdmitNoMemory records)));
  empties = tt;
  end = refl;
  hands = tt;
}

pub hands-starved : {S : Type 0} (step : S → CoreCall → CoreReply → S → Type 0) (counter counter' : S) (dests : ℕ) (spec : SourceSpec) (feed : InletState) (buffer : List ℕ) (old new : Reader) (e0 e : AllocError)
    → Admits {E = AllocError} step counter counter' spec.inlet old new (Err e0) → IsReady dests spec (source feed old buffer)
    → HandsIn {E = AllocError} dests spec step counter counter' (source feed old buffer) (source feed new buffer) (Err e)
hands-starved step counter counter' dests spec feed buffer old new e0 e (reply, admits) ready =
    let is = admits-err old new reply e0 admits.1 in
    let made = subst (λ r. step counter (Admit spec.inlet old.held) r counter') is.1.0 admits.0 in
    subst (λ r. HandsIn {E = AllocError} dests spec step counter counter' (source feed old buffer) (source feed r buffer) (Err e)) (sym is.1.1)
    (starved step counter counter' dests spec feed buffer old is.0 e made ready)

-- whatever error is answered
pub hands-err : {S : Type 0} (step : S → CoreCall → CoreReply → S → Type 0) (counter counter' : S) (dests : ℕ) (spec : SourceSpec) (old new : SourceState) (r : Result Handed AllocError) → IsErr r
    → ((e : AllocError) → HandsIn {E = AllocError} dests spec step counter counter' old new (Err e)) → HandsIn {E = AllocError} dests spec step counter counter' old new r
hands-err step counter counter' dests spec old new (Ok handed) is h = absurd (let differ : false ≡ true = is in cc)
hands-err step counter counter' dests spec old new (Err e) is h = h e

-- they were admitted
admitted-all : (held : List Admission) (i : ℕ) (verdicts : List Verdict) → admitted_in (exchange (Admit i held) (Admitted (Ok verdicts)) ∷ []) ≡ held
admitted-all held i verdicts = append-nil held

-- what an admission leaves, and what follows, whatever it comes to
pub hands-unlooked : {S : Type 0} (step : S → CoreCall → CoreReply → S → Type 0) (counter counter' : S) (dests : ℕ) (spec : SourceSpec) (feed : InletState) (buffer : List ℕ) (old mid : Reader) (e : AllocError)
    → Admits {E = AllocError} step counter counter' spec.inlet old mid (Ok true) → IsReady dests spec (source feed old buffer)
    → HandsIn {E = AllocError} dests spec step counter counter' (source feed old buffer) (source feed mid buffer) (Err e)
hands-unlooked step counter counter' dests spec feed buffer old mid e (reply, admits) ready =
    let is = admits-true old mid reply admits.1 in
    let made = subst (λ r. step counter (Admit spec.inlet old.held) r counter') is.1.0 admits.0 in
    let all = admitted-all old.held spec.inlet is.0 in
    record {
      made = exchange (Admit spec.inlet old.held) (Admitted (Ok is.0)) ∷ [];
      few = omega arith;
      makes = (counter', made, refl);
      own = (refl, tt);
      unstored = refl;
      gives = subst (λ r. MayGiveUp dests spec (source feed old buffer) (source feed r buffer) 0) (sym is.1.1) (gives-admitted dests spec feed buffer old (last_end old.end old.held) ready);
      moves = inl (ap (λ r. r.held) is.1.1, all);
      within = all-carried old.held spec.inlet (Admitted (Ok is.0));
      empties = tt;
      end = ap (λ r. r.end) is.1.1 ∙ ap (λ as'. last_end old.end as') (sym all);
      hands = tt;
    }

pub hands-admitted : {S : Type 0} (step : S → CoreCall → CoreReply → S → Type 0) (counter counter' : S) (dests : ℕ) (spec : SourceSpec) (feed feed' : InletState) (buffer : List ℕ) (old mid looked new : Reader) (up : Bool)
    → Admits {E = AllocError} step counter counter' spec.inlet old mid (Ok true) → LooksBy mid.ahead mid looked → GivesUp looked feed new feed' up → 0 < length old.held → IsReady dests spec (source feed old buffer)
    → HandsIn {E = AllocError} dests spec step counter counter' (source feed old buffer) (source feed' new buffer) (Ok (record { admitted = true; gave_up = up }))
hands-admitted step counter counter' dests spec feed feed' buffer old mid looked new up (reply, admits) looks gives some ready =
    let is = admits-true old mid reply admits.1 in
    let made = subst (λ r. step counter (Admit spec.inlet old.held) r counter') is.1.0 admits.0 in
    let all = admitted-all old.held spec.inlet is.0 in
    let held = held-given feed feed' looked new up gives in
    let none : looked.held ≡ [] = held-looked mid looked mid.ahead looks ∙ ap (λ r. r.held) is.1.1 in
    let first = subst (λ r. MayGiveUp dests spec (source feed old buffer) (source feed r buffer) 0) (sym is.1.1) (gives-admitted dests spec feed buffer old (last_end old.end old.held) ready) in
    let second = gives-looked dests spec feed buffer mid looked looks (looked-before mid looked mid.ahead looks) first.ready in
    let third = gives-by dests spec feed feed' buffer looked new up gives none second.ready in
    record {
      made = exchange (Admit spec.inlet old.held) (Admitted (Ok is.0)) ∷ [];
      few = omega arith;
      makes = (counter', made, refl);
      own = (refl, tt);
      unstored = refl;
      gives = gives-then dests spec (source feed old buffer) (source feed mid buffer) (source feed' new buffer) _ first
          (gives-then dests spec (source feed mid buffer) (source feed looked buffer) (source feed' new buffer) _ second third);
      moves = inl (held.0 ∙ none, all);
      within = all-carried old.held spec.inlet (Admitted (Ok is.0));
      empties = inl (held.0 ∙ none);
      end = held.1 ∙ end-looked mid looked mid.ahead looks ∙ ap (λ r. r.end) is.1.1 ∙ ap (λ as'. last_end old.end as') (sym all);
      hands = (
        lt-yes 0 (length (admitted_in (exchange (Admit spec.inlet old.held) (Admitted (Ok is.0)) ∷ []))) (let same : length (admitted_in (exchange (Admit spec.inlet old.held) (Admitted (Ok is.0)) ∷ [])) ≡ length old.held = ap length all in omega arith),
        (λ spent a b. absurd (let differ : true ≡ false = a in cc)),
      );
    }

pub some-of : (held : List Admission) → (length held == 0) ≡ false → 0 < length held
some-of held h = grind (arith, nat_tests)
