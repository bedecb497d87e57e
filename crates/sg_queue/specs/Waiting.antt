-- What a queue holds.
use Rattle.std.specs.Prelude.{ℕ, not, List, count_by}
use Rattle.sg_queue.specs.declared.entry.Entry.{Entry}

pub record Waiting : Type 0 where
  -- in the order pushed
  pub entries : List Entry
  -- how many more can be pushed without memory
  pub spare : ℕ

-- the number of entries without flow-control
abbrev pub unflowed_of : List Entry → ℕ
unflowed_of entries = count_by (λ entry. not entry.flow) entries
