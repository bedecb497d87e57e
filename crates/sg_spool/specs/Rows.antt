-- The places of a list, and those of the list with what is staged behind it.
use Rattle.std.specs.Prelude.{◌≡◌, ℕ, zero, suc, ◌+◌, ◌-◌, ◌<◌, ◌≤◌, ◌^◌, min, Option, Some, None}
use Rattle.sg_spool.specs.Places.{IsOrdered, AreCompact, HasRoom, live}
use Rattle.sg_spool.specs.declared.places.Places.{Places}
use Rattle.sg_spool.specs.declared.rows.Rows.{Rows}

-- a list of so many entries at these places, with nothing staged
abbrev pub listed : Places → ℕ → Rows
listed list count = record { list = list; ahead = list; count = count; staged = 0 }

-- the number of entries, with those that are staged
abbrev pub total : Rows → ℕ
total rows = min (rows.count + rows.staged) (2 ^ 64 - 1)

-- all that was staged is in the list
abbrev pub committed : Rows → Rows
committed rows = listed rows.ahead (total rows)

-- What is staged stands behind the list's end: behind a jump of its own, or below the head as the list's end.
abbrev pub IsPast : Option ℕ → ℕ → Option ℕ → ℕ → Type 0
IsPast None end None last = end < last
IsPast None end (Some jump) last = end ≤ jump
IsPast (Some jump) end None last = ⊥
IsPast (Some jump) end (Some other) last = (other ≡ jump) × (end < last)

-- so many entries are staged behind the list
abbrev pub AreStagedAhead : ℕ → Places → Places → Type 0
AreStagedAhead zero list ahead = ahead ≡ list
AreStagedAhead (suc staged) list ahead = (ahead.head ≡ list.head)
    × IsPast list.jump list.end ahead.jump ahead.end

-- both places are in order
pub record AreRows (rows : Rows) : Type 0 where
  pub list : IsOrdered rows.list
  pub ahead : IsOrdered rows.ahead
  pub apart : AreStagedAhead rows.staged rows.list rows.ahead
  pub few : rows.staged ≤ live rows.ahead

-- the same entries, with room behind them for a payload of n bytes
pub record HasRoomFor (n : ℕ) (old new : Rows) : Type 0 where
  pub rows : AreRows new
  pub total : total new ≡ total old
  pub live : live new.ahead ≡ live old.ahead
  pub room : HasRoom new.ahead.jump new.ahead.head new.ahead.end n

-- The places of all that is staged, with a payload of n bytes behind it. They are within the capacity, where they were.
pub record IsLonger (capacity n : ℕ) (rows : Rows) (ahead : Places) : Type 0 where
  pub ordered : IsOrdered ahead
  pub head : ahead.head ≡ rows.ahead.head
  pub past : IsPast rows.list.jump rows.list.end ahead.jump ahead.end
  pub live : live ahead ≡ live rows.ahead + 5 + n
  pub compact : AreCompact capacity rows.ahead.jump rows.ahead.head rows.ahead.end
      → AreCompact capacity ahead.jump ahead.head ahead.end

-- One entry more, a payload of n bytes. The places are within the capacity, where they were.
pub record HasOneMore (capacity n : ℕ) (old new : Rows) : Type 0 where
  pub rows : AreRows new
  pub total : total new ≡ min (total old + 1) (2 ^ 64 - 1)
  pub live : live new.ahead ≡ live old.ahead + 5 + n
  pub compact : AreCompact capacity old.ahead.jump old.ahead.head old.ahead.end
      → AreCompact capacity new.ahead.jump new.ahead.head new.ahead.end
