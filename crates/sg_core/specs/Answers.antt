-- What the answers of a core tell: the act that a call was, and when each comes.
use Rattle.std.specs.Prelude.{◌≡◌, ◌≢◌, ◌<◌, ℕ, ◌+◌, ◌-◌, ◌==◌, nat_le, min, Bool, true, false, ◌&&◌, if◌then◌else◌, is_some, option_and_then, Option, Some, None, Result, Ok, Err, List, [], ◌∷◌, length, map, take, slice_get, zero, suc}
use Rattle.std.specs.Option.{option_map, option_map_or}
use Rattle.sg_device.specs.Disk.{content}
use Rattle.sg_msg.specs.Length.{encoded_len}
use Rattle.sg_queue.specs.declared.entry.Entry.{Entry as Waiting}
use Rattle.sg_machine.specs.declared.event.Act.{Act}
use Rattle.sg_machine.specs.declared.event.Act.TheVariants.{Settle, Refill as RefillAct, Store, Rewind, Look}
use Rattle.sg_machine.specs.declared.setup.BufferSetup.{BufferSetup}
use Rattle.sg_machine.specs.declared.state.Dest.{Dest}
use Rattle.sg_machine.specs.declared.state.State.{State}
use Rattle.sg_machine.specs.declared.tally.Tally.{Tally}
use Rattle.sg_machine.specs.Marks.{outstanding_of}
use Rattle.sg_machine.specs.Tallies.{tally_of}
use Rattle.sg_counter.specs.Bringing.{is_credit_refusal}
use Rattle.sg_counter.specs.declared.answers.CoreFront.{CoreFront}
use Rattle.sg_counter.specs.declared.answers.CoreFront.TheVariants.{Entries, Empty, Broken as FrontBroken}
use Rattle.sg_counter.specs.declared.answers.Refill.{Refill}
use Rattle.sg_counter.specs.declared.answers.Refill.TheVariants.{Moved, NoneWaits, NoRoom, Broken as RefillBroken}
use Rattle.sg_counter.specs.declared.answers.Refused.{Refused}
use Rattle.sg_counter.specs.declared.answers.Settled.{Settled}
use Rattle.sg_counter.specs.declared.answers.Settled.TheVariants.{Done, NotFront, DiskFailed}
use Rattle.sg_counter.specs.declared.answers.Stored.{Stored}
use Rattle.sg_counter.specs.declared.answers.Stored.TheVariants.{Wrote, Unchanged, Broken}
use Rattle.sg_sinks.specs.Runs.{run_of}
use Rattle.sg_sinks.specs.States.{SinkState, with_broken}
use Rattle.sg_sinks.specs.Trials.{refill_of, takes_in, tried}
use Rattle.sg_sinks.specs.declared.trial.Trial.{Trial}
use Rattle.sg_stores.specs.Stores.{StoreState}
use Rattle.sg_stores.specs.Positions.{position_of}
use Rattle.sg_standing.specs.States.{CoreState}
use Rattle.sg_standing.specs.Standing.{IsAt}

-- the window of an inlet less its outstanding records
abbrev pub credit_left : State → ℕ → ℕ
credit_left state i =
    option_map_or (λ inlet. inlet.setup.window - outstanding_of state.dests i inlet)
    (slice_get state.inlets i) 0

-- the stored position of an inlet
abbrev pub stored_position : State → ℕ → ℕ
stored_position state i = option_map_or (λ inlet. inlet.stored) (slice_get state.inlets i) 0

abbrev pub is_no_credit : {T : Type 0} → Result T Refused → Bool
is_no_credit (Ok x) = false
is_no_credit (Err refused) = is_credit_refusal refused

-- the disk-buffer of the destination of that number, where it has one
abbrev pub buffer_at : List SinkState → ℕ → Option BufferSetup
buffer_at sinks d = option_and_then (λ (sink : SinkState). sink.setup.buffer) (slice_get sinks d)

-- Positions.

abbrev pub store_act : ℕ → Stored → Act
store_act i (Wrote w) = Store i w
store_act i Unchanged = Look
store_act i Broken = Look

abbrev pub rewind_act : ℕ → Stored → Act
rewind_act i (Wrote w) = Rewind i
rewind_act i Unchanged = Look
rewind_act i Broken = Look

-- the position to write is the stored one, or it is written, or it isn't and the store has failed
abbrev pub AnswersStore : ℕ → Option StoreState → Option StoreState → Stored → Type 0
AnswersStore position old new (Wrote w) = (w ≡ position) × (position_of old ≢ position)
AnswersStore position old new Unchanged = position_of old ≡ position
AnswersStore position old new Broken = (position_of old ≢ position)
    × (option_map (λ (s : StoreState). s.failed) new ≡ Some true)

-- Fronts.

-- how many messages `front` shows: of those on the disk, where there are some, else of those that wait
abbrev pub shown_of : ℕ → SinkState → ℕ
shown_of most sink = if length sink.lengths == 0 then min most (length sink.entries)
    else run_of most sink.lengths

-- So many messages, from the place of the first; those that wait are known. None is left, and the store works. It has failed
-- before, or in this call.
abbrev pub AnswersFront : SinkState → SinkState → ℕ → CoreFront → Type 0
AnswersFront old new most (Entries place messages) = (new ≡ old) × (old.broken ≡ false)
    × (place ≡ old.taken) × (length messages ≡ shown_of most old) × (0 < length messages)
    × (old.lengths ≡ [] → messages ≡ map (λ (e : Waiting). e.message) (take most old.entries))
AnswersFront old new most Empty = (new ≡ old) × (old.broken ≡ false) × (old.lengths ≡ [])
    × (old.entries ≡ [])
AnswersFront old new most FrontBroken = new ≡ with_broken old

-- there is no disk-buffer, or its disk tells its bytes
abbrev pub IsBufferTold : List StoreState → Option BufferSetup → Type 0
IsBufferTold stores None = Unit {0}
IsBufferTold stores (Some buffer) =
    option_map (λ (store : StoreState). is_some (content store.disk))
    (slice_get stores buffer.store) ≡ Some true

-- the messages are those of the first entries that are left
abbrev pub ShowsLeft : List StoreState → Dest → CoreFront → Type 0
ShowsLeft stores dest (Entries place messages) = IsBufferTold stores dest.setup.buffer
    → messages ≡ map (λ e. e.message) (take (length messages) dest.left)
ShowsLeft stores dest Empty = dest.left ≡ []
ShowsLeft stores dest FrontBroken = Unit {0}

abbrev pub is_front_broken : CoreFront → Bool
is_front_broken (Entries place messages) = false
is_front_broken Empty = false
is_front_broken FrontBroken = true

-- Settles.

-- so many entries are left, from that place on
abbrev pub can_settle : SinkState → ℕ → ℕ → Bool
can_settle sink place n = place == sink.taken
    && nat_le n (length sink.lengths + length sink.entries)

abbrev pub can_settle_at : List SinkState → ℕ → ℕ → ℕ → Bool
can_settle_at sinks d place n = option_map_or (λ sink. can_settle sink place n) (slice_get sinks d)
    false

-- the store of the destination's disk-buffer has failed
abbrev pub broken_at : List SinkState → ℕ → Bool
broken_at sinks d = option_map_or (λ (sink : SinkState). sink.broken) (slice_get sinks d) false

-- on DiskFailed the entries count as settled
abbrev pub settle_act : ℕ → ℕ → Settled → Act
settle_act d n Done = Settle d n
settle_act d n NotFront = Look
settle_act d n DiskFailed = Settle d n

-- it can't be; or it can, and the store works then, or has failed
abbrev pub AnswersSettle : Bool → Bool → Settled → Type 0
AnswersSettle can broken Done = (can ≡ true) × (broken ≡ false)
AnswersSettle can broken NotFront = can ≡ false
AnswersSettle can broken DiskFailed = (can ≡ true) × (broken ≡ true)

-- this holds where nothing was settled
abbrev pub OnNotFront : Settled → Type 0 → Type 0
OnNotFront Done holds = Unit {0}
OnNotFront NotFront holds = holds
OnNotFront DiskFailed holds = Unit {0}

-- Refills.

abbrev pub refill_act : ℕ → Refill → Act
refill_act d (Moved n) = RefillAct d n
refill_act d NoneWaits = Look
refill_act d NoRoom = Look
refill_act d RefillBroken = Look

-- the first that wait fit, each after the ones before: at most so many
abbrev pub fitting : ℕ → Trial → List Waiting → ℕ
fitting zero trial es = 0
fitting (suc n) trial [] = 0
fitting (suc n) trial (e ∷ es) = if takes_in (encoded_len e.message) trial
    then 1 + fitting n (tried true (encoded_len e.message) trial) es else 0

-- The store has failed before or fails now; else nothing waits, or the first that waits doesn't fit, or as many as fit are moved, at
-- most 1,000. Without a disk-buffer nothing waits for one.
abbrev pub RefillsBy : Option BufferSetup → SinkState → SinkState → Refill → Type 0
RefillsBy None old new answer = answer ≡ NoneWaits
RefillsBy (Some buffer) old new RefillBroken = new.broken ≡ true
RefillsBy (Some buffer) old new NoneWaits = (old.broken ≡ false) × (old.entries ≡ [])
    × (new ≡ old)
RefillsBy (Some buffer) old new NoRoom = (old.broken ≡ false) × (old.entries ≢ [])
    × (fitting 1000 (refill_of buffer old) old.entries ≡ 0) × (new ≡ old)
RefillsBy (Some buffer) old new (Moved n) = (new.broken ≡ false) × (0 < n)
    × (n ≡ fitting 1000 (refill_of buffer old) old.entries)

-- of the destination of that number
abbrev pub RefillsAt : Option SinkState → Option SinkState → Refill → Type 0
RefillsAt (Some old) (Some new) answer = RefillsBy old.setup.buffer old new answer
RefillsAt _ _ answer = ⊥

abbrev pub AnswersFrontAt : Option SinkState → Option SinkState → ℕ → CoreFront → Type 0
AnswersFrontAt (Some old) (Some new) most front = AnswersFront old new most front
AnswersFrontAt _ _ most front = ⊥

-- the tally of each state that the core may be at
abbrev pub Tallies : CoreState → Tally → Type 0
Tallies core tally = (state : State) → IsAt core state → tally ≡ tally_of state
