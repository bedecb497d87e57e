-- A window of records, after the flow control of syslog-ng's sources (log-iw-size()).
use Rattle.std.specs.Prelude.{◌≡◌, ℕ, ◌+◌, ◌-◌, ◌==◌, if◌then◌else◌, List, [], ◌∷◌, ◌++◌, length, slice_get}
use Rattle.std.specs.Option.{option_map_or}
use Rattle.sg_list.specs.Lists.{change}
use Rattle.sg_window.specs.declared.tracker.BegunRecord.{BegunRecord}

-- the records behind the longest prefix of acknowledged ones
abbrev pub outstanding : List BegunRecord → List BegunRecord
outstanding [] = []
outstanding (r ∷ rs) = if r.left == 0 then outstanding rs else r ∷ rs

-- the end of the last record of that prefix, `from` where it is empty
abbrev pub mark_from : ℕ → List BegunRecord → ℕ
mark_from from [] = from
mark_from from (r ∷ rs) = if r.left == 0 then mark_from r.end rs else from

-- how many may be outstanding, how many were begun, the mark, and the records that are outstanding
pub record Window : Type 0 where
  pub limit : ℕ
  pub begun : ℕ
  pub mark : ℕ
  pub waiting : List BegunRecord

-- the window that these records leave
abbrev pub window_of : ℕ → ℕ → ℕ → List BegunRecord → Window
window_of limit begun from records = record {
  limit = limit;
  begun = begun;
  mark = mark_from from records;
  waiting = outstanding records;
}

-- the window of all records begun, each with the acknowledgements that it still needs, from this place on
abbrev pub WindowStandsFor : Window → ℕ → List BegunRecord → Type 0
WindowStandsFor w from records = w ≡ window_of w.limit (length records) from records

-- the number of the first outstanding record, or of the next one where none is outstanding
abbrev pub first_waiting : Window → ℕ
first_waiting w = w.begun - length w.waiting

-- what the record at that place needs, 0 where there is none
abbrev pub left_at : List BegunRecord → ℕ → ℕ
left_at records k = option_map_or (λ r. r.left) (slice_get records k) 0

abbrev pub after_begin : Window → ℕ → ℕ → Window
after_begin w end left = window_of w.limit (w.begun + 1) w.mark
    (w.waiting ++ record { end = end; left = left } ∷ [])

abbrev pub one_less : BegunRecord → BegunRecord
one_less r = record r { left = r.left - 1 }

abbrev pub after_ack : Window → ℕ → Window
after_ack w number = window_of w.limit w.begun w.mark
    (change w.waiting (number - first_waiting w) one_less)
