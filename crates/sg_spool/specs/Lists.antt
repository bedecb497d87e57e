-- What a call makes of the list, and what of that a crash may show.
use Rattle.std.specs.Prelude.{◌≡◌, ◌⊎◌, ℕ, List, map}
use Rattle.sg_spool.specs.Ring.{Entries, IsList}

-- the bytes stand for the one list or the other
abbrev pub IsEitherList : Entries → Entries → List ℕ → Type 0
IsEitherList one other bytes = IsList one bytes ⊎ IsList other bytes

-- the list stays
abbrev pub ListStays : Entries → Entries → Type 0
ListStays old new = new ≡ old

-- each payload is spelled anew
abbrev pub Recodes : (List ℕ → List ℕ) → Entries → Entries → Type 0
Recodes meaning old new = new ≡ map meaning old

-- the list stays, or it takes this step
abbrev pub Perhaps : (Entries → Entries → Type 0) → Entries → Entries → Type 0
Perhaps step old new = (new ≡ old) ⊎ step old new
