-- What a source's turn does with its inlet.
use Rattle.std.proofs.Common.{arith, ◌≡◌, ◌≤◌, ◌+◌, ℕ, Bool, true, false, List, [], ◌++◌, length, max, refl, ap, sym, ◌∙◌, subst, inl, inr}
use Rattle.std.proofs.lemmas.List.{append-nil}
use Rattle.std.specs.Prelude.{Ok, Err, IsErr, Result}
use Rattle.std.specs.declared.alloc.AllocError.{AllocError}
use Rattle.sg_device.proofs.Inlets.{advances_trans}
use Rattle.sg_msg.specs.declared.offer.Offer.{Offer}
use Rattle.sg_machine.specs.declared.event.Admission.{Admission}
use Rattle.sg_frame.specs.Records.{Record}
use Rattle.sg_counter.specs.declared.calls.CoreCall.{CoreCall}
use Rattle.sg_counter.specs.declared.calls.CoreReply.{CoreReply}
use Rattle.sg_actor.specs.Sources.{SourceState, AreOf, ReadsRecords, HasRead}
use Rattle.sg_actor.specs.Steps.{KeepsRecords, FindsWork, has_pulled, was_idle}
use Rattle.sg_actor.specs.Bringing.{admitted_in, last_end, Brings, MovesHeld, HandsIn, IsUnpulled, ups_of, ReadsOnTurn}
use Rattle.sg_actor.specs.declared.admitting.Handed.{Handed}
use Rattle.sg_actor.specs.declared.reading.Doings.{Doings}
use Rattle.sg_actor.specs.declared.reading.SourceWork.TheVariants.{Work, Idle, Over}
use Rattle.sg_actor.specs.declared.settings.SourceSpec.{SourceSpec}

read-nothing : (offers : ℕ → Record → List Offer → Type 0) (spec : SourceSpec) (s : SourceState) (done : List Record) (before : ℕ) → HasRead offers spec s done before → HasRead offers spec s (done ++ []) (before + 0)
read-nothing offers spec s done before h =
    subst (λ d. HasRead offers spec s d (before + 0)) (sym (append-nil done)) (subst (λ n. HasRead offers spec s done n) (let same : before ≡ before + 0 = omega arith in same) h)

brings-kept : {S : Type 0} (offers : ℕ → Record → List Offer → Type 0) (dests : ℕ) (spec : SourceSpec) (step : S → CoreCall → CoreReply → S → Type 0) (counter : S) (a b : SourceState)
    → KeepsRecords offers dests spec a b → Brings offers dests spec step counter counter a b 0 []
brings-kept offers dests spec step counter a b h = record {
  makes = refl;
  own = tt;
  unstored = refl;
  fetched = omega arith;
  ready = h.ready;
  reads = (λ done before read. ([], (tt, read-nothing offers spec b done before (h.reads done before read))));
  end = h.end;
  advances = h.advances;
  parts = omega (arith, h.parts);
}

moved-read : (offers : ℕ → Record → List Offer → Type 0) (spec : SourceSpec) (b c : SourceState) (admitted : List Admission) (done behind : List Record) (n : ℕ) → MovesHeld b.reader.held c.reader.held admitted
    → AreOf offers spec behind b.reader.held → ReadsRecords c (done ++ behind) n → (taken : List Record) × (AreOf offers spec taken admitted × HasRead offers spec c (done ++ taken) n)
moved-read offers spec b c admitted done behind n (inl went) are reads = (
  behind,
  (
    subst (λ as'. AreOf offers spec behind as') (sym went.1) are,
    ([], (subst (λ as'. AreOf offers spec [] as') (sym went.0) tt, subst (λ d. ReadsRecords c d n) (sym (append-nil (done ++ behind))) reads)),
  ),
)
moved-read offers spec b c admitted done behind n (inr stays) are reads = (
  [],
  (
    subst (λ as'. AreOf offers spec [] as') (sym stays.1) tt,
    (behind, (subst (λ as'. AreOf offers spec behind as') (sym stays.0) are, subst (λ d. ReadsRecords c (d ++ behind) n) (sym (append-nil done)) reads)),
  ),
)

moved-few : (held held' admitted : List Admission) (n : ℕ) → MovesHeld held held' admitted → length held ≤ n → length admitted ≤ n
moved-few held held' admitted n (inl went) few = (let same : length admitted ≡ length held = ap length went.1 in omega arith)
moved-few held held' admitted n (inr stays) few = (let none : length admitted ≡ 0 = ap length stays.1 in omega arith)

brings-handed : {S : Type 0} (offers : ℕ → Record → List Offer → Type 0) (dests : ℕ) (spec : SourceSpec) (step : S → CoreCall → CoreReply → S → Type 0) (counter counter' : S) (a b c : SourceState) (result : Result Handed AllocError)
    → KeepsRecords offers dests spec a b → (h : HandsIn {E = AllocError} dests spec step counter counter' b c result) → Brings offers dests spec step counter counter' a c (ups_of result) h.made
brings-handed offers dests spec step counter counter' a b c result k h = record {
  makes = h.makes;
  own = h.own;
  unstored = h.unstored;
  fetched = moved-few b.reader.held c.reader.held (admitted_in h.made) spec.fetch h.moves k.ready.few;
  ready = h.gives.ready;
  reads = (λ done before read.
      let at-b = k.reads done before read in
      moved-read offers spec b c (admitted_in h.made) done at-b.0 (before + ups_of result) h.moves at-b.1.0 (h.gives.reads (done ++ at-b.0) before at-b.1.1));
  end = h.end ∙ ap (λ n. last_end n (admitted_in h.made)) k.end;
  advances = advances_trans a.feed b.feed c.feed k.advances h.gives.advances;
  parts = omega (arith, k.parts, h.gives.parts);
}

unpulled-as : (a b c : SourceState) → IsUnpulled b c → has_pulled a c ≡ has_pulled a b
unpulled-as a b c h = rw (h.bytes, h.parts, h.ended, h.failed) refl

unpulled-idle : (a b c : SourceState) → IsUnpulled b c → was_idle a c ≡ was_idle a b
unpulled-idle a b c h = rw (h.idles) refl

-- the source had no credit
pub on-poor : {S : Type 0} (offers : ℕ → Record → List Offer → Type 0) (dests : ℕ) (spec : SourceSpec) (step : S → CoreCall → CoreReply → S → Type 0) (counter : S) (credit : ℕ) (a : SourceState)
    → credit ≡ 0 → KeepsRecords offers dests spec a a → has_pulled a a ≡ false → was_idle a a ≡ false
    → ReadsOnTurn {E = AllocError} offers dests spec step counter counter credit a a (Ok (record { pulled = false; admitted = false; gave_up = false; idle = false }))
on-poor offers dests spec step counter credit a poor k pulled idle = record {
  made = [];
  few = omega arith;
  brings = brings-kept offers dests spec step counter a a k;
  pulls = omega arith;
  within = omega arith;
  empties = inl (poor, refl);
  does = record { brought = pulled; idled = idle; took = refl; nothing = λ p q r s. inl poor };
}

pub on-over : {S : Type 0} (offers : ℕ → Record → List Offer → Type 0) (dests : ℕ) (spec : SourceSpec) (step : S → CoreCall → CoreReply → S → Type 0) (counter : S) (credit : ℕ) (a b : SourceState)
    → KeepsRecords offers dests spec a b → FindsWork {E = AllocError} a b (Ok Over) → b.feed.pulls ≤ a.feed.pulls + 1
    → ReadsOnTurn {E = AllocError} offers dests spec step counter counter credit a b (Ok (record { pulled = false; admitted = false; gave_up = false; idle = false }))
on-over offers dests spec step counter credit a b k finds pulls = record {
  made = [];
  few = omega arith;
  brings = brings-kept offers dests spec step counter a b k;
  pulls = pulls;
  within = omega arith;
  empties = inr (inl ((finds.2).spent).held);
  does = record { brought = finds.0; idled = finds.1; took = refl; nothing = λ p q r s. inr (inr finds.2) };
}

pub on-idle : {S : Type 0} (offers : ℕ → Record → List Offer → Type 0) (dests : ℕ) (spec : SourceSpec) (step : S → CoreCall → CoreReply → S → Type 0) (counter : S) (credit : ℕ) (a b : SourceState)
    → KeepsRecords offers dests spec a b → FindsWork {E = AllocError} a b (Ok Idle) → b.feed.pulls ≤ a.feed.pulls + 1
    → ReadsOnTurn {E = AllocError} offers dests spec step counter counter credit a b (Ok (record { pulled = false; admitted = false; gave_up = false; idle = true }))
on-idle offers dests spec step counter credit a b k finds pulls = record {
  made = [];
  few = omega arith;
  brings = brings-kept offers dests spec step counter a b k;
  pulls = pulls;
  within = omega arith;
  empties = inr (inl finds.2);
  does = record { brought = finds.0; idled = finds.1; took = refl; nothing = (λ p q r s. absurd (let differ : true ≡ false = s in cc)) };
}

pub on-unfound : {S : Type 0} (offers : ℕ → Record → List Offer → Type 0) (dests : ℕ) (spec : SourceSpec) (step : S → CoreCall → CoreReply → S → Type 0) (counter : S) (credit : ℕ) (a b : SourceState) (r : Result Doings AllocError)
    → IsErr r → KeepsRecords offers dests spec a b → b.feed.pulls ≤ a.feed.pulls + 1 → ReadsOnTurn {E = AllocError} offers dests spec step counter counter credit a b r
on-unfound offers dests spec step counter credit a b (Ok doings) is k pulls = absurd (let differ : false ≡ true = is in cc)
on-unfound offers dests spec step counter credit a b (Err e) is k pulls = record {
  made = [];
  few = omega arith;
  brings = brings-kept offers dests spec step counter a b k;
  pulls = pulls;
  within = omega arith;
  empties = tt;
  does = tt;
}

pub on-starved : {S : Type 0} (offers : ℕ → Record → List Offer → Type 0) (dests : ℕ) (spec : SourceSpec) (step : S → CoreCall → CoreReply → S → Type 0) (counter counter' : S) (credit : ℕ) (a b c : SourceState) (e : AllocError) (r : Result Doings AllocError)
    → IsErr r → KeepsRecords offers dests spec a b → HandsIn {E = AllocError} dests spec step counter counter' b c (Err e) → b.feed.pulls ≤ a.feed.pulls + 1 → length b.reader.held ≤ max (length a.reader.held) credit
    → ReadsOnTurn {E = AllocError} offers dests spec step counter counter' credit a c r
on-starved offers dests spec step counter counter' credit a b c e (Ok doings) is k h pulls few = absurd (let differ : false ≡ true = is in cc)
on-starved offers dests spec step counter counter' credit a b c e (Err e') is k h pulls few = record {
  made = h.made;
  few = h.few;
  brings = brings-handed offers dests spec step counter counter' a b c (Err e) k h;
  pulls = omega (arith, h.gives.unpulled.pulls);
  within = omega (arith, h.within, few);
  empties = tt;
  does = tt;
}

pub on-handed : {S : Type 0} (offers : ℕ → Record → List Offer → Type 0) (dests : ℕ) (spec : SourceSpec) (step : S → CoreCall → CoreReply → S → Type 0) (counter counter' : S) (credit : ℕ) (a b c : SourceState) (pulled : Bool) (handed : Handed)
    → KeepsRecords offers dests spec a b → FindsWork {E = AllocError} a b (Ok (Work pulled)) → HandsIn {E = AllocError} dests spec step counter counter' b c (Ok handed) → b.feed.pulls ≤ a.feed.pulls + 1
    → length b.reader.held ≤ max (length a.reader.held) credit
    → ReadsOnTurn {E = AllocError} offers dests spec step counter counter' credit a c (Ok (record { pulled = pulled; admitted = handed.admitted; gave_up = handed.gave_up; idle = false }))
on-handed offers dests spec step counter counter' credit a b c pulled handed k finds h pulls few = record {
  made = h.made;
  few = h.few;
  brings = brings-handed offers dests spec step counter counter' a b c (Ok handed) k h;
  pulls = omega (arith, h.gives.unpulled.pulls);
  within = omega (arith, h.within, few);
  empties = inr h.empties;
  does = record {
    brought = unpulled-as a b c h.gives.unpulled ∙ finds.0;
    idled = unpulled-idle a b c h.gives.unpulled ∙ finds.1;
    took = h.hands.0;
    nothing = λ p q r s. inr (inl (h.hands.1 (finds.2 p) q r));
  };
}
