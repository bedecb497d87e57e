-- A source of the core: its window, and what a call makes of it.
use Rattle.std.specs.Prelude.{ℕ, ◌+◌, ◌-◌, ◌^◌, ◌<◌, ◌≤◌, ◌==◌, if◌then◌else◌, Option, Some, None, List, [], ◌∷◌, length, slice_get, option_and_then}
use Rattle.std.specs.Option.{option_map_or}
use Rattle.sg_list.specs.Lists.{change}
use Rattle.sg_window.specs.Window.{first_waiting, left_at, after_begin, after_ack}
use Rattle.sg_window.specs.declared.tracker.BegunRecord.{BegunRecord}
use Rattle.sg_queue.specs.declared.entry.Entry.{Entry}
use Rattle.sg_counter.specs.declared.answers.Stored.{Stored}
use Rattle.sg_counter.specs.declared.answers.Stored.TheVariants.{Wrote, Unchanged, Broken}
use Rattle.sg_standing.specs.declared.source.Source.{Source}

-- the end of the last record of the longest acknowledged prefix, the opening place where that is empty
abbrev pub mark_at : Source → ℕ
mark_at source = if length source.tracker.waiting == source.tracker.begun then source.opening
    else source.tracker.mark

-- how many records may come in
abbrev pub credit_of : Source → ℕ
credit_of source = source.tracker.limit - length source.tracker.waiting

abbrev pub credit_at : List Source → ℕ → ℕ
credit_at sources i = option_map_or credit_of (slice_get sources i) 0

abbrev pub mark_in : List Source → ℕ → ℕ
mark_in sources i = option_map_or mark_at (slice_get sources i) 0

-- how many records came in
abbrev pub begun_in : List Source → ℕ → ℕ
begun_in sources i = option_map_or (λ source. source.tracker.begun) (slice_get sources i) 0

-- the number of a source's store
abbrev pub store_at : List Source → ℕ → Option ℕ
store_at sources i = option_and_then (λ source. source.setup.store) (slice_get sources i)

-- so many more records may come in
abbrev pub HasCredit : Option Source → ℕ → Type 0
HasCredit None n = ⊥
HasCredit (Some source) n = (length source.tracker.waiting + n ≤ source.tracker.limit)
    × (source.tracker.begun + n ≤ 2 ^ 63)

-- the record of that number is outstanding, and needs an acknowledgement
abbrev pub CanAck : Option Source → ℕ → Type 0
CanAck None number = ⊥
CanAck (Some source) number =
    (first_waiting source.tracker ≤ number)
    × (0 < left_at source.tracker.waiting (number - first_waiting source.tracker))

-- with one more record, which needs so many acknowledgements
abbrev pub begun_at : ℕ → ℕ → Source → Source
begun_at end left source = record source { tracker = after_begin source.tracker end left }

-- with these records more
abbrev pub begun_all : List BegunRecord → Source → Source
begun_all [] source = source
begun_all (r ∷ rs) source = begun_all rs (begun_at r.end r.left source)

-- with one acknowledgement more of that record
abbrev pub acked_at : ℕ → Source → Source
acked_at number source = record source { tracker = after_ack source.tracker number }

-- the sources once the entry is acknowledged
abbrev pub acks : List Source → Entry → List Source
acks sources e = if e.flow then change sources e.inlet (acked_at e.number) else sources

abbrev pub acks_all : List Source → List Entry → List Source
acks_all sources [] = sources
acks_all sources (e ∷ es) = acks_all (acks sources e) es

-- it begins anew
abbrev pub anew : Source → Source
anew source = record source { opening = 0 }

abbrev pub after_rewind : List Source → ℕ → Stored → List Source
after_rewind sources i (Wrote w) = change sources i anew
after_rewind sources i Unchanged = sources
after_rewind sources i Broken = sources
