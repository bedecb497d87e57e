-- The destinations of a core behind offers.
use Rattle.std.proofs.Common.{◌≡◌, ℕ, ◌+◌, ◌-◌, ◌<◌, ◌≤◌, List, [], ◌∷◌, ◌++◌, length, drop, Option, Some, Bool, true, false, refl, sym, ap, ◌∙◌, arith, suc, slice_get, subst, if◌then◌else◌, append_assoc, inl, inr}
use Rattle.std.specs.Prelude.{◌==◌}
use Rattle.sg_list.specs.Lists.{change}
use Rattle.sg_list.proofs.ListLemmas.{map-change, length-change, slice_get-some, get-change, map-kept}
use Rattle.sg_msg.specs.declared.offer.Offer.{Offer}
use Rattle.sg_machine.specs.declared.event.Verdict.{Verdict}
use Rattle.sg_machine.specs.declared.event.Verdict.TheVariants.{Queued, Spooled, Waits, DroppedFull, DroppedDisk}
use Rattle.sg_machine.specs.declared.setup.BufferSetup.{BufferSetup}
use Rattle.sg_machine.specs.declared.setup.DestSetup.{DestSetup}
use Rattle.sg_machine.specs.Verdicts.{Claim, claims_in}
use Rattle.sg_machine.specs.Turns.{owes_by, owing}
use Rattle.sg_machine.proofs.MoveLemmas.{change-agree}
use Rattle.sg_sinks.specs.States.{SinkState, Sunk}
use Rattle.sg_sinks.specs.Blocks.{block_of_offer}
use Rattle.sg_sinks.specs.Offers.{takes, verdict_of}
use Rattle.sg_offers.specs.declared.batch.Payload.{Payload}
use Rattle.sg_offers.specs.Payloads.{buffers_of, buffer_at}
use Rattle.sg_offers.specs.Rooms.{seen_in, given_to, HaveRoom}
use Rattle.sg_offers.specs.Answering.{fails_at, offered_by, sinks_then, sinks_after, verdict_at, verdicts_from, spent, spent_by, spent_then, spent_after, first_block, AreBlocks, AreClaimsWithin}
use Rattle.sg_offers.proofs.ItemLemmas.{seen-there, buffer-there}
use Rattle.sg_offers.proofs.PayloadLemmas.{BlocksThen, blocks-then}

-- What is seen.

pub seen-then : (fails : List Bool) (i next : ℕ) (sinks : List Sunk) (c : Claim) → seen_in (spent_then fails i next sinks c) ≡ sinks_then fails i next (seen_in sinks) c
seen-then fails i next sinks c = map-change (λ (s : Sunk). s.seen) sinks c.offer.dest (spent_by fails i next c) (offered_by fails i next c) (λ s. refl)

pub seen-after : (fails : List Bool) (i next : ℕ) (sinks : List Sunk) (cs : List Claim) → seen_in (spent_after fails i next sinks cs) ≡ sinks_after fails i next (seen_in sinks) cs
seen-after fails i next sinks [] = refl
seen-after fails i next sinks (c ∷ cs) = seen-after fails i next (spent_then fails i next sinks c) cs ∙ ap (λ ks. sinks_after fails i next ks cs) (seen-then fails i next sinks c)

-- Setups stay.

takes-setup : (inlet number : ℕ) (offer : Offer) (block : Option (List ℕ)) (v : Verdict) (sink : SinkState) → (takes inlet number offer block v sink).setup ≡ sink.setup
takes-setup inlet number offer block Queued sink = refl
takes-setup inlet number offer block Spooled sink = refl
takes-setup inlet number offer block Waits sink = refl
takes-setup inlet number offer block DroppedFull sink = refl
takes-setup inlet number offer block DroppedDisk sink = refl

pub offered-setup : (fails : List Bool) (i next : ℕ) (c : Claim) (sink : SinkState) → (offered_by fails i next c sink).setup ≡ sink.setup
offered-setup fails i next c sink = takes-setup i (next + c.place) c.offer _ _ sink

pub buffers-then : (fails : List Bool) (i next : ℕ) (sinks : List SinkState) (c : Claim) → buffers_of (sinks_then fails i next sinks c) ≡ buffers_of sinks
buffers-then fails i next sinks c =
    map-kept (λ (s : SinkState). s.setup.buffer) (offered_by fails i next c) sinks c.offer.dest (λ s. ap (λ (x : DestSetup). x.buffer) (offered-setup fails i next c s))

pub buffers-after : (fails : List Bool) (i next : ℕ) (sinks : List SinkState) (cs : List Claim) → buffers_of (sinks_after fails i next sinks cs) ≡ buffers_of sinks
buffers-after fails i next sinks [] = refl
buffers-after fails i next sinks (c ∷ cs) = buffers-after fails i next (sinks_then fails i next sinks c) cs ∙ buffers-then fails i next sinks c

pub length-after : (fails : List Bool) (i next : ℕ) (sinks : List Sunk) (cs : List Claim) → length (spent_after fails i next sinks cs) ≡ length sinks
length-after fails i next sinks [] = refl
length-after fails i next sinks (c ∷ cs) = length-after fails i next (spent_then fails i next sinks c) cs ∙ length-change sinks c.offer.dest (spent_by fails i next c)

-- Offers behind others.

pub sinks-append : (fails : List Bool) (i next : ℕ) (sinks : List SinkState) (cs ds : List Claim) → sinks_after fails i next sinks (cs ++ ds) ≡ sinks_after fails i next (sinks_after fails i next sinks cs) ds
sinks-append fails i next sinks [] ds = refl
sinks-append fails i next sinks (c ∷ cs) ds = sinks-append fails i next (sinks_then fails i next sinks c) cs ds

pub verdicts-append : (fails : List Bool) (i next : ℕ) (sinks : List SinkState) (cs ds : List Claim)
    → verdicts_from fails i next sinks (cs ++ ds) ≡ verdicts_from fails i next sinks cs ++ verdicts_from fails i next (sinks_after fails i next sinks cs) ds
verdicts-append fails i next sinks [] ds = refl
verdicts-append fails i next sinks (c ∷ cs) ds = ap (λ vs. verdict_at fails sinks c.offer ∷ vs) (verdicts-append fails i next (sinks_then fails i next sinks c) cs ds)

pub length-verdicts : (fails : List Bool) (i next : ℕ) (sinks : List SinkState) (cs : List Claim) → length (verdicts_from fails i next sinks cs) ≡ length cs
length-verdicts fails i next sinks [] = refl
length-verdicts fails i next sinks (c ∷ cs) = ap suc (length-verdicts fails i next (sinks_then fails i next sinks c) cs)

-- Room.

pub given-append : (d : ℕ) (cs ds : List Claim) → given_to d (cs ++ ds) ≡ given_to d cs + given_to d ds
given-append d [] ds = omega arith
given-append d (c ∷ cs) ds = let rest = given-append d cs ds in omega arith

pub room-first : (sinks : List Sunk) (cs ds : List Claim) → HaveRoom sinks (cs ++ ds) → HaveRoom sinks cs
room-first sinks cs ds h = λ d sink e. let a = h d sink e in let b = given-append d cs ds in omega arith

-- there is room where the first offer goes
pub room-here : (sinks : List Sunk) (c : Claim) (cs : List Claim) (sink : Sunk) → HaveRoom sinks (c ∷ cs) → slice_get sinks c.offer.dest ≡ Some sink → 0 < sink.room
room-here sinks c cs sink h e =
    let a = h c.offer.dest sink e in
    let here : (c.offer.dest == c.offer.dest) ≡ true = grind arith in
    let b : 1 + given_to c.offer.dest cs ≤ sink.room = rw here at a in
    omega arith

less-if : (b : Bool) (n m : ℕ) → (if b then 1 else 0) + n ≤ m → n ≤ m
less-if true n m h = omega arith
less-if false n m h = omega arith

pub room-then : (fails : List Bool) (i next : ℕ) (sinks : List Sunk) (c : Claim) (cs : List Claim) → HaveRoom sinks (c ∷ cs) → HaveRoom (spent_then fails i next sinks c) cs
room-then fails i next sinks c cs h = λ d y e.
    let r = get-change sinks c.offer.dest d (spent_by fails i next c) y e in
    let a = h d r.0 r.1 in
    elim r.2 [
      | inl p ↦ (
          let here : (c.offer.dest == d) ≡ true = grind (arith, p.0) in
          let b : 1 + given_to d cs ≤ r.0.room = rw here at a in
          let room : y.room ≡ r.0.room - 1 = ap (λ (s : Sunk). s.room) p.1 in
          omega arith)
      | inr p ↦ (
          let b = less-if (c.offer.dest == d) (given_to d cs) r.0.room a in
          let room : y.room ≡ r.0.room = ap (λ (s : Sunk). s.room) p.1 in
          omega arith)
    ]

pub room-after : (fails : List Bool) (i next : ℕ) (sinks : List Sunk) (cs ds : List Claim) → HaveRoom sinks (cs ++ ds) → HaveRoom (spent_after fails i next sinks cs) ds
room-after fails i next sinks [] ds h = h
room-after fails i next sinks (c ∷ cs) ds h = room-after fails i next (spent_then fails i next sinks c) cs ds (room-then fails i next sinks c (cs ++ ds) h)

-- One offer, as it is taken at its destination.

pub spent-here : (fails : List Bool) (i next : ℕ) (sinks : List Sunk) (c : Claim) (block : Option (List ℕ)) (v : Verdict) → c.offer.dest < length sinks
    → block ≡ block_of_offer (buffer_at (buffers_of (seen_in sinks)) c.offer.dest) i c.end c.offer → v ≡ verdict_at fails (seen_in sinks) c.offer
    → change sinks c.offer.dest (spent (fails_at fails c.offer.dest) i (next + c.place) c.offer block v) ≡ spent_then fails i next sinks c
spent-here fails i next sinks c block v l b w =
    let there = slice_get-some sinks c.offer.dest l in
    let seen = seen-there sinks c.offer.dest there.0 there.1 in
    let buffer = buffer-there (seen_in sinks) c.offer.dest there.0.seen seen in
    let block_is : block ≡ block_of_offer there.0.seen.setup.buffer i c.end c.offer = b ∙ ap (λ x. block_of_offer x i c.end c.offer) buffer in
    let verdict_is : v ≡ verdict_of (fails_at fails c.offer.dest) there.0.seen c.offer = w ∙ rw seen refl in
    change-agree sinks c.offer.dest (spent (fails_at fails c.offer.dest) i (next + c.place) c.offer block v) (spent_by fails i next c) there.0 there.1 (rw (block_is, verdict_is) refl)

owing-step : (left more n : ℕ) (b : Bool) → more ≡ (if b then left + 1 else left) → more + n ≡ left + ((if b then 1 else 0) + n)
owing-step left more n true h = omega arith
owing-step left more n false h = omega arith

-- all that goes along with the offers of a record that are still to come
pub record Along (fails : List Bool) (i next place end : ℕ) (sinks : List Sunk) (rest : List Offer) (payloads : List Payload) (verdicts : List Verdict) (left : ℕ) (after : List Sunk) (all : List Verdict) (owed : ℕ) (behind : List Payload) : Type 0 where
  pub sinks_at_last : spent_after fails i next sinks (claims_in place end rest) ≡ after
  pub judged : verdicts ++ verdicts_from fails i next (seen_in sinks) (claims_in place end rest) ≡ all
  pub counted : left + owing rest (verdicts_from fails i next (seen_in sinks) (claims_in place end rest)) ≡ owed
  pub dests : AreClaimsWithin (length sinks) (claims_in place end rest)
  pub room : HaveRoom sinks (claims_in place end rest)
  pub blocks : AreBlocks i (buffers_of (seen_in sinks)) (claims_in place end rest) payloads
  pub dropped : drop (length rest) payloads ≡ behind

along-then : (fails : List Bool) (i next place end : ℕ) (sinks : List Sunk) (o : Offer) (rest : List Offer) (payloads : List Payload) (verdicts : List Verdict) (left : ℕ) (after : List Sunk) (all : List Verdict) (owed : ℕ) (behind : List Payload)
    (c : Claim) (v : Verdict) (more : ℕ) → c ≡ record { place = place; end = end; offer = o }
    → Along fails i next place end sinks (o ∷ rest) payloads verdicts left after all owed behind → BlocksThen i (buffers_of (seen_in sinks)) c (claims_in place end rest) payloads
    → v ≡ verdict_at fails (seen_in sinks) o → more ≡ (if owes_by o.flow v then left + 1 else left)
    → Along fails i next place end (spent_then fails i next sinks c) rest (drop 1 payloads) (verdicts ++ v ∷ []) more after all owed behind
along-then fails i next place end sinks o rest payloads verdicts left after all owed behind c v more at a b w m =
    let cs = claims_in place end rest in
    let first : Claim = record { place = place; end = end; offer = o } in
    let S : Claim → Type 0 = λ x. Along fails i next place end (spent_then fails i next sinks x) rest (drop 1 payloads) (verdicts ++ v ∷ []) more after all owed behind in
    let seen = seen-then fails i next sinks first in
    let buffers = ap buffers_of seen ∙ buffers-then fails i next (seen_in sinks) first in
    let count = length-change sinks o.dest (spent_by fails i next first) in
    let later = verdicts_from fails i next (sinks_then fails i next (seen_in sinks) first) cs in
    subst S (sym at) (record {
      sinks_at_last = a.sinks_at_last;
      judged = append_assoc verdicts (v ∷ []) (verdicts_from fails i next (seen_in (spent_then fails i next sinks first)) cs)
          ∙ ap (λ (ks : List SinkState). verdicts ++ (v ∷ verdicts_from fails i next ks cs)) seen ∙ ap (λ (x : Verdict). verdicts ++ (x ∷ later)) w ∙ a.judged;
      counted = ap (λ (ks : List SinkState). more + owing rest (verdicts_from fails i next ks cs)) seen ∙ owing-step left more (owing rest later) (owes_by o.flow v) m
          ∙ ap (λ (x : Verdict). left + ((if owes_by o.flow x then 1 else 0) + owing rest later)) w ∙ a.counted;
      dests = subst (λ (n : ℕ). AreClaimsWithin n cs) (sym count) a.dests.1;
      room = room-then fails i next sinks first cs a.room;
      blocks = subst (λ (bs : List (Option BufferSetup)). AreBlocks i bs cs (drop 1 payloads)) (sym buffers) b.rest;
      dropped = b.behind (length rest) ∙ a.dropped;
    })

pub along-step : (fails : List Bool) (i next place end : ℕ) (sinks news : List Sunk) (o : Offer) (rest : List Offer) (payloads : List Payload) (verdicts : List Verdict) (left : ℕ) (after : List Sunk) (all : List Verdict) (owed : ℕ) (behind : List Payload)
    (v : Verdict) (more : ℕ) → Along fails i next place end sinks (o ∷ rest) payloads verdicts left after all owed behind
    → news ≡ change sinks o.dest (spent (fails_at fails o.dest) i (next + place) o (first_block payloads) v) → v ≡ verdict_at fails (seen_in sinks) o → more ≡ (if owes_by o.flow v then left + 1 else left)
    → Along fails i next place end news rest (drop 1 payloads) (verdicts ++ v ∷ []) more after all owed behind
along-step fails i next place end sinks news o rest payloads verdicts left after all owed behind v more a n w m =
    let c : Claim = record { place = place; end = end; offer = o } in
    let b = blocks-then i (buffers_of (seen_in sinks)) c (claims_in place end rest) payloads a.blocks in
    let is = n ∙ spent-here fails i next sinks c (first_block payloads) v a.dests.0 b.first w in
    subst (λ (ks : List Sunk). Along fails i next place end ks rest (drop 1 payloads) (verdicts ++ v ∷ []) more after all owed behind) (sym is)
    (along-then fails i next place end sinks o rest payloads verdicts left after all owed behind c v more refl a b w m)
