-- Records of a batch, one after another.
use Rattle.std.proofs.Common.{◌≡◌, ℕ, ◌+◌, ◌≤◌, List, [], ◌∷◌, ◌++◌, length, drop, Option, Bool, refl, sym, ap, ◌∙◌, arith, suc, zero, subst, append_assoc}
use Rattle.sg_counter.specs.Bringing.{MayEnter, AllMayEnter}
use Rattle.sg_window.specs.declared.tracker.BegunRecord.{BegunRecord}
use Rattle.sg_machine.specs.declared.event.Admission.{Admission}
use Rattle.sg_machine.specs.declared.event.Verdict.{Verdict}
use Rattle.sg_machine.specs.declared.setup.BufferSetup.{BufferSetup}
use Rattle.sg_machine.specs.Turns.{owing}
use Rattle.sg_machine.specs.Verdicts.{claims_in, claims_from}
use Rattle.sg_sinks.specs.States.{SinkState, Sunk}
use Rattle.sg_offers.specs.declared.batch.Payload.{Payload}
use Rattle.sg_offers.specs.Payloads.{buffers_of}
use Rattle.sg_offers.specs.Rooms.{seen_in, HaveRoom}
use Rattle.sg_offers.specs.Answering.{sinks_after, verdicts_from, spent_after, begun_of, AreBlocks, AreClaimsWithin}
use Rattle.sg_offers.proofs.ItemLemmas.{take-whole}
use Rattle.sg_offers.proofs.ClaimLemmas.{within-in}
use Rattle.sg_offers.proofs.PayloadLemmas.{blocks-first, blocks-behind}
use Rattle.sg_offers.proofs.SinkLemmas.{seen-after, buffers-after, length-after, sinks-append, verdicts-append, length-verdicts, room-first, room-after}
use Rattle.sg_machine.proofs.RecordLemmas.{length-claims}

drop-whole : {A : Type 0} (xs ys : List A) (n : ℕ) → length xs ≡ n → drop n (xs ++ ys) ≡ ys
drop-whole [] ys zero h = refl
drop-whole [] ys (suc n) h = absurd (omega arith)
drop-whole (x ∷ xs) ys zero h = absurd (omega arith)
drop-whole (x ∷ xs) ys (suc n) h = drop-whole xs ys n (omega arith)

begun-more : (r : Admission) (rs : List Admission) (vs ws : List Verdict) → length vs ≡ length r.offers → begun_of (r ∷ rs) (vs ++ ws) ≡ record { end = r.end; left = owing r.offers vs } ∷ begun_of rs ws
begun-more r rs vs ws h = rw (take-whole vs ws (length r.offers) h, drop-whole vs ws (length r.offers) h) refl

-- a record with this end and so many acknowledgements
pub record-is : (x : BegunRecord) (end left : ℕ) → x.end ≡ end → x.left ≡ left → x ≡ record { end = end; left = left }
record-is x end left h g = rw (← h, ← g) refl

-- all that goes along with the records that are still to come
pub record Ahead (fails : List Bool) (i next place : ℕ) (sinks : List Sunk) (rest : List Admission) (payloads : List Payload) (verdicts : List Verdict) (begun : List BegunRecord) (after : List SinkState) (all : List Verdict) (whole : List BegunRecord) : Type 0 where
  pub sinks_at_last : sinks_after fails i next (seen_in sinks) (claims_from place rest) ≡ after
  pub judged : verdicts ++ verdicts_from fails i next (seen_in sinks) (claims_from place rest) ≡ all
  pub counted : begun ++ begun_of rest (verdicts_from fails i next (seen_in sinks) (claims_from place rest)) ≡ whole
  pub enter : AllMayEnter (length sinks) rest
  pub room : HaveRoom sinks (claims_from place rest)
  pub blocks : AreBlocks i (buffers_of (seen_in sinks)) (claims_from place rest) payloads

-- what the first of them asks
pub record AsksBatch (i place : ℕ) (sinks : List Sunk) (r : Admission) (payloads : List Payload) : Type 0 where
  pub few : length r.offers ≤ 1024
  pub dests : AreClaimsWithin (length sinks) (claims_in place r.end r.offers)
  pub room : HaveRoom sinks (claims_in place r.end r.offers)
  pub first_blocks : AreBlocks i (buffers_of (seen_in sinks)) (claims_in place r.end r.offers) payloads

pub ahead-asks : (fails : List Bool) (i next place : ℕ) (sinks : List Sunk) (r : Admission) (rest : List Admission) (payloads : List Payload) (verdicts : List Verdict) (begun : List BegunRecord) (after : List SinkState) (all : List Verdict) (whole : List BegunRecord)
    → Ahead fails i next place sinks (r ∷ rest) payloads verdicts begun after all whole → AsksBatch i place sinks r payloads
ahead-asks fails i next place sinks r rest payloads verdicts begun after all whole a =
    let enter : MayEnter (length sinks) r = a.enter.0 in
    let cs = claims_in place r.end r.offers in
    let ds = claims_from (place + 1) rest in
    record {
      few = enter.few;
      dests = within-in (length sinks) place r.end r.offers enter.dests;
      room = room-first sinks cs ds a.room;
      first_blocks = blocks-first i (buffers_of (seen_in sinks)) cs ds payloads a.blocks;
    }

ahead-then : (fails : List Bool) (i next place : ℕ) (sinks : List Sunk) (r : Admission) (rest : List Admission) (payloads : List Payload) (verdicts : List Verdict) (begun : List BegunRecord) (after : List SinkState) (all : List Verdict) (whole : List BegunRecord)
    → Ahead fails i next place sinks (r ∷ rest) payloads verdicts begun after all whole
    → Ahead fails i next (place + 1) (spent_after fails i next sinks (claims_in place r.end r.offers)) rest (drop (length r.offers) payloads)
    (verdicts ++ verdicts_from fails i next (seen_in sinks) (claims_in place r.end r.offers))
    (begun ++ record { end = r.end; left = owing r.offers (verdicts_from fails i next (seen_in sinks) (claims_in place r.end r.offers)) } ∷ []) after all whole
ahead-then fails i next place sinks r rest payloads verdicts begun after all whole a =
    let cs = claims_in place r.end r.offers in
    let ds = claims_from (place + 1) rest in
    let ks = seen_in sinks in
    let vs = verdicts_from fails i next ks cs in
    let ws = verdicts_from fails i next (sinks_after fails i next ks cs) ds in
    let seen = seen-after fails i next sinks cs in
    let buffers = ap buffers_of seen ∙ buffers-after fails i next ks cs in
    let both = verdicts-append fails i next ks cs ds in
    let len : length vs ≡ length r.offers = length-verdicts fails i next ks cs ∙ length-claims place r.end r.offers in
    let b : BegunRecord = record { end = r.end; left = owing r.offers vs } in
    record {
      sinks_at_last = ap (λ (xs : List SinkState). sinks_after fails i next xs ds) seen ∙ sym (sinks-append fails i next ks cs ds) ∙ a.sinks_at_last;
      judged = ap (λ (xs : List SinkState). verdicts ++ vs ++ verdicts_from fails i next xs ds) seen ∙ append_assoc verdicts vs ws ∙ ap (λ (xs : List Verdict). verdicts ++ xs) (sym both) ∙ a.judged;
      counted = ap (λ (xs : List SinkState). (begun ++ b ∷ []) ++ begun_of rest (verdicts_from fails i next xs ds)) seen ∙ append_assoc begun (b ∷ []) (begun_of rest ws)
          ∙ ap (λ (xs : List BegunRecord). begun ++ xs) (sym (begun-more r rest vs ws len)) ∙ ap (λ (xs : List Verdict). begun ++ begun_of (r ∷ rest) xs) (sym both) ∙ a.counted;
      enter = subst (λ (n : ℕ). AllMayEnter n rest) (sym (length-after fails i next sinks cs)) a.enter.1;
      room = room-after fails i next sinks cs ds a.room;
      blocks = subst (λ (bs : List (Option BufferSetup)). AreBlocks i bs ds (drop (length r.offers) payloads)) (sym buffers)
          (subst (λ (n : ℕ). AreBlocks i (buffers_of ks) ds (drop n payloads)) (length-claims place r.end r.offers) (blocks-behind i (buffers_of ks) cs ds payloads a.blocks));
    }

pub ahead-step : (fails : List Bool) (i next place : ℕ) (sinks news : List Sunk) (r : Admission) (rest : List Admission) (payloads : List Payload) (verdicts : List Verdict) (begun : List BegunRecord) (after : List SinkState) (all : List Verdict) (whole : List BegunRecord)
    (left : List Payload) (said : List Verdict) (b : BegunRecord) → Ahead fails i next place sinks (r ∷ rest) payloads verdicts begun after all whole
    → news ≡ spent_after fails i next sinks (claims_in place r.end r.offers) → said ≡ verdicts ++ verdicts_from fails i next (seen_in sinks) (claims_in place r.end r.offers)
    → b.end ≡ r.end → b.left ≡ owing r.offers (verdicts_from fails i next (seen_in sinks) (claims_in place r.end r.offers)) → left ≡ drop (length r.offers) payloads
    → Ahead fails i next (place + 1) news rest left said (begun ++ b ∷ []) after all whole
ahead-step fails i next place sinks news r rest payloads verdicts begun after all whole left said b a n s e l p =
    let is = record-is b r.end (owing r.offers (verdicts_from fails i next (seen_in sinks) (claims_in place r.end r.offers))) e l in
    rw (n, s, is, p) (ahead-then fails i next place sinks r rest payloads verdicts begun after all whole a)
