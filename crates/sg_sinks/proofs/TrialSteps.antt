-- A trial of offers to a disk-buffer.
use Rattle.std.proofs.Common.{◌≡◌, ℕ, ◌==◌, List, [], ◌∷◌, ◌++◌, length, Option, Some, Bool, true, false, ◌&&◌, not, refl, arith}
use Rattle.std.proofs.lemmas.List.{length_push}
use Rattle.sg_msg.specs.Length.{encoded_len}
use Rattle.sg_msg.specs.declared.offer.Offer.{Offer}
use Rattle.sg_machine.specs.declared.setup.BufferSetup.{BufferSetup}
use Rattle.sg_sinks.specs.Fitting.{space, has_space}
use Rattle.sg_sinks.specs.States.{SinkState}
use Rattle.sg_sinks.specs.Offers.{would_spool, verdict_of, offered, entry_at}
use Rattle.sg_sinks.specs.Laws.{Trying}
use Rattle.sg_sinks.proofs.SpaceLemmas.{space_push}
use Rattle.sg_sinks.specs.Trials.{trial_of, takes_in, tried}

takes-as : (none fits : Bool) → (not (not none) && fits) ≡ (not false && (none && fits))
takes-as true fits = refl
takes-as false fits = refl

takes-by : (buffer : BufferSetup) (sink : SinkState) (offer : Offer) → sink.setup.buffer ≡ Some buffer → sink.broken ≡ false
    → takes_in (encoded_len offer.message) (trial_of buffer sink) ≡ would_spool sink offer
takes-by buffer sink offer e b = rw (e, b) (takes-as (length sink.entries == 0) (has_space buffer.capacity (space sink.lengths) (encoded_len offer.message)))

some-more : {A : Type 0} (xs : List A) (x : A) → (length (xs ++ x ∷ []) == 0) ≡ false
some-more xs x = let l = length_push xs x in grind (arith, l)

abbrev pub FollowsTrial : BufferSetup → SinkState → ℕ → ℕ → Offer → Option (List ℕ) → Type 0
FollowsTrial buffer sink inlet number offer block = trial_of buffer (offered false inlet number offer block (verdict_of false sink offer) sink) ≡ tried offer.flow (encoded_len offer.message) (trial_of buffer sink)

after-by : (none fits flow : Bool) (buffer : BufferSetup) (sink : SinkState) (inlet number : ℕ) (offer : Offer) (block : Option (List ℕ))
    → sink.setup.buffer ≡ Some buffer → sink.broken ≡ false → (length sink.entries == 0) ≡ none → has_space buffer.capacity (space sink.lengths) (encoded_len offer.message) ≡ fits → offer.flow ≡ flow
    → FollowsTrial buffer sink inlet number offer block
after-by true true flow buffer sink inlet number offer block e b n f w = rw (e, b, n, f) (rw (n, space_push sink.lengths (encoded_len offer.message)) refl)
after-by true false true buffer sink inlet number offer block e b n f w = rw (e, b, n, f, w) (rw (some-more sink.entries (record (entry_at inlet number offer sink) { flow = true })) refl)
after-by true false false buffer sink inlet number offer block e b n f w = rw (e, b, n, f, w) (rw n refl)
after-by false fits true buffer sink inlet number offer block e b n f w = rw (e, b, n, w) (rw (some-more sink.entries (record (entry_at inlet number offer sink) { flow = true })) refl)
after-by false fits false buffer sink inlet number offer block e b n f w = rw (e, b, n, w) (rw n refl)

pub trying : (buffer : BufferSetup) (sink : SinkState) (inlet number : ℕ) (offer : Offer) (block : Option (List ℕ)) → sink.setup.buffer ≡ Some buffer → sink.broken ≡ false
    → Trying buffer sink inlet number offer block
trying buffer sink inlet number offer block e b = record {
  takes = takes-by buffer sink offer e b;
  after = after-by (length sink.entries == 0) (has_space buffer.capacity (space sink.lengths) (encoded_len offer.message)) offer.flow buffer sink inlet number offer block e b refl refl refl;
}
