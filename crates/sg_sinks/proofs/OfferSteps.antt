-- What an offer leaves at a destination of the core, and at that of the machine.
use Rattle.std.proofs.Common.{◌≡◌, ℕ, ◌+◌, ◌==◌, [], ◌∷◌, ◌++◌, length, Option, Some, None, Bool, true, false, ◌&&◌, ◌||◌, not, refl, ap, if◌then◌else◌}
use Rattle.std.specs.Prelude.{nat_lt}
use Rattle.sg_queue.specs.Waiting.{unflowed_of}
use Rattle.sg_msg.specs.Length.{encoded_len}
use Rattle.sg_msg.specs.declared.offer.Offer.{Offer}
use Rattle.sg_machine.specs.declared.event.Verdict.{Verdict}
use Rattle.sg_machine.specs.declared.event.Verdict.TheVariants.{Queued, Spooled, Waits, DroppedFull, DroppedDisk}
use Rattle.sg_machine.specs.declared.setup.BufferSetup.{BufferSetup}
use Rattle.sg_machine.specs.declared.state.Origin.{Origin}
use Rattle.sg_machine.specs.declared.state.Dest.{Dest}
use Rattle.sg_machine.specs.Entries.{any_waits}
use Rattle.sg_machine.specs.Verdicts.{entry_from, keep, take_offer}
use Rattle.sg_sinks.specs.Fitting.{space, has_space}
use Rattle.sg_sinks.specs.Blocks.{block_of_offer}
use Rattle.sg_sinks.specs.Offers.{broken_then, verdict_of, keeps, takes, offered}
use Rattle.sg_sinks.specs.Standing.{lengths_of, waiting_from, sink_of, is_split_by, IsSplit}
use Rattle.sg_sinks.specs.Laws.{OfferLeaves}
use Rattle.sg_sinks.proofs.LeftLemmas.{waiting-any, none-waits, lengths-spooled, lengths-waiting, waiting-spooled, waiting-waiting, blocks-spooled, blocks-waiting, are-waiting-push, are-split-push, are-split-spooled}

-- no entry waits where the offer is spooled, and there is a disk-buffer
abbrev pub EmptiesSink : Option BufferSetup → Dest → Verdict → Type 0
EmptiesSink None dest v = v ≡ Spooled → ⊥
EmptiesSink (Some buffer) dest v = v ≡ Spooled → any_waits dest.left ≡ false

-- an entry that waits
kept-seen : (dest : Dest) (broken new : Bool) (origin : Origin) (offer : Offer)
    → sink_of new (keep origin offer false dest) ≡ record (keeps origin.inlet origin.number offer (block_of_offer dest.setup.buffer origin.inlet origin.end offer) (sink_of broken dest)) { broken = new }
kept-seen dest broken new origin offer =
    let x = entry_from origin offer false in
    let l = lengths-waiting dest.left x refl in
    let p : ℕ = length dest.settled + length (lengths_of dest.left) in
    let w = waiting-waiting p dest.left x refl in
    let b = blocks-waiting dest.setup.buffer dest.left x refl in
    rw (l, w, b) refl

-- one on the disk
spooled-seen : (dest : Dest) (broken new : Bool) (origin : Origin) (offer : Offer) → any_waits dest.left ≡ false
    → sink_of new (keep origin offer true dest) ≡ record (sink_of broken dest) { lengths = lengths_of dest.left ++ encoded_len offer.message ∷ []; broken = new }
spooled-seen dest broken new origin offer h =
    let x = entry_from origin offer true in
    let l = lengths-spooled dest.left x refl in
    let p : ℕ = length dest.settled + length (lengths_of dest.left) in
    let q : ℕ = length dest.settled + length (lengths_of dest.left ++ encoded_len offer.message ∷ []) in
    let w = waiting-spooled q dest.left x refl in
    let b = blocks-spooled dest.setup.buffer dest.left x refl in
    rw (l, w, b, none-waits p dest.left h, none-waits q dest.left h) refl

taken-seen : (buffer : Option BufferSetup) (v : Verdict) (dest : Dest) (broken new : Bool) (origin : Origin) (offer : Offer) → EmptiesSink buffer dest v
    → sink_of new (take_offer origin offer v dest) ≡ record (takes origin.inlet origin.number offer (block_of_offer dest.setup.buffer origin.inlet origin.end offer) v (sink_of broken dest)) { broken = new }
taken-seen buffer Queued dest broken new origin offer h = kept-seen dest broken new origin offer
taken-seen None Spooled dest broken new origin offer h = absurd (h refl)
taken-seen (Some buffer) Spooled dest broken new origin offer h = spooled-seen dest broken new origin offer (h refl)
taken-seen buffer Waits dest broken new origin offer h = kept-seen dest broken new origin offer
taken-seen buffer DroppedFull dest broken new origin offer h = refl
taken-seen buffer DroppedDisk dest broken new origin offer h = refl

split-push : (buffer : Option BufferSetup) (dest : Dest) (origin : Origin) (offer : Offer) → is_split_by buffer dest.left ≡ true
    → is_split_by buffer (keep origin offer false dest).left ≡ true
split-push None dest origin offer s = are-waiting-push dest.left (entry_from origin offer false) s refl refl
split-push (Some buffer) dest origin offer s = are-split-push dest.left (entry_from origin offer false) s refl refl

taken-split : (buffer : Option BufferSetup) (v : Verdict) (dest : Dest) (origin : Origin) (offer : Offer) → EmptiesSink buffer dest v → is_split_by buffer dest.left ≡ true
    → is_split_by buffer (take_offer origin offer v dest).left ≡ true
taken-split buffer Queued dest origin offer h s = split-push buffer dest origin offer s
taken-split None Spooled dest origin offer h s = absurd (h refl)
taken-split (Some buffer) Spooled dest origin offer h s = are-split-spooled dest.left (entry_from origin offer true) (h refl) refl
taken-split buffer Waits dest origin offer h s = split-push buffer dest origin offer s
taken-split buffer DroppedFull dest origin offer h s = s
taken-split buffer DroppedDisk dest origin offer h s = s

-- an offer is spooled where none waits
spooled-none : (lost none fits flow : Bool)
    → (if lost then (if flow then Waits else DroppedDisk) else if none && fits then Spooled else (if flow then Waits else DroppedFull)) ≡ Spooled → none ≡ true
spooled-none true none fits true e = let wrong : Waits ≡ Spooled = e in cc
spooled-none true none fits false e = let wrong : DroppedDisk ≡ Spooled = e in cc
spooled-none false true fits flow e = refl
spooled-none false false fits true e = let wrong : Waits ≡ Spooled = e in cc
spooled-none false false fits false e = let wrong : DroppedFull ≡ Spooled = e in cc

spooled-works : (broken fails none fits flow : Bool)
    → (if broken || (fails && (not broken && (none && fits))) then (if flow then Waits else DroppedDisk) else if not broken && (none && fits) then Spooled else (if flow then Waits else DroppedFull)) ≡ Spooled
    → none ≡ true
spooled-works true fails none fits true e = let wrong : Waits ≡ Spooled = e in cc
spooled-works true fails none fits false e = let wrong : DroppedDisk ≡ Spooled = e in cc
spooled-works false fails none fits flow e = spooled-none (fails && (none && fits)) none fits flow e

queued-not : (room : Bool) → (if room then Queued else DroppedFull) ≡ Spooled → ⊥
queued-not true e = let wrong : Queued ≡ Spooled = e in cc
queued-not false e = let wrong : DroppedFull ≡ Spooled = e in cc

empties-by : (buffer : Option BufferSetup) (dest : Dest) (broken fails : Bool) (offer : Offer) → dest.setup.buffer ≡ buffer
    → EmptiesSink buffer dest (verdict_of fails (sink_of broken dest) offer)
empties-by None dest broken fails offer e =
    let p : ℕ = length dest.settled + length (lengths_of dest.left) in
    rw e (queued-not (offer.flow || nat_lt (unflowed_of (waiting_from p dest.left)) dest.setup.fifo))
empties-by (Some buffer) dest broken fails offer e =
    let p : ℕ = length dest.settled + length (lengths_of dest.left) in
    rw (e, waiting-any p dest.left) (λ h. ap not (spooled-works broken fails (length (waiting_from p dest.left) == 0) (has_space buffer.capacity (space (lengths_of dest.left)) (encoded_len offer.message)) offer.flow h))

offering-by : (buffer : Option BufferSetup) (dest : Dest) (broken fails : Bool) (origin : Origin) (offer : Offer) → dest.setup.buffer ≡ buffer → is_split_by buffer dest.left ≡ true
    → (is_split_by buffer (take_offer origin offer (verdict_of fails (sink_of broken dest) offer) dest).left ≡ true)
    × (sink_of (broken_then fails (sink_of broken dest) offer) (take_offer origin offer (verdict_of fails (sink_of broken dest) offer) dest)
    ≡ offered fails origin.inlet origin.number offer (block_of_offer dest.setup.buffer origin.inlet origin.end offer) (verdict_of fails (sink_of broken dest) offer) (sink_of broken dest))
offering-by buffer dest broken fails origin offer e s =
    let v = verdict_of fails (sink_of broken dest) offer in
    let h = empties-by buffer dest broken fails offer e in
    (taken-split buffer v dest origin offer h s, taken-seen buffer v dest broken (broken_then fails (sink_of broken dest) offer) origin offer h)

pub same-setup : (origin : Origin) (offer : Offer) (v : Verdict) (dest : Dest) → (take_offer origin offer v dest).setup ≡ dest.setup
same-setup origin offer Queued dest = refl
same-setup origin offer Spooled dest = refl
same-setup origin offer Waits dest = refl
same-setup origin offer DroppedFull dest = refl
same-setup origin offer DroppedDisk dest = refl

pub offering : (dest : Dest) (broken fails : Bool) (origin : Origin) (offer : Offer) → IsSplit dest → OfferLeaves dest broken fails origin offer
offering dest broken fails origin offer s =
    let v = verdict_of fails (sink_of broken dest) offer in
    let o = offering-by dest.setup.buffer dest broken fails origin offer refl s in
    record { split = rw (same-setup origin offer v dest) o.0; seen = o.1 }
