-- What a list ends as, once a `&mut` to one of its items has ended.
use Rattle.std.specs.Prelude.{ℕ, List, slice_set}
use Rattle.std.specs.Borrow.{Lends, Fml, RattleType, MutBor}
use Rattle.sg_list.specs.contracts.seq.Seq.{the_row}

-- that item is the last value written through r
abbrev pub LendsItem : (R : RattleType) → MutBor (List R.Denot) → ℕ → MutBor R.Denot → Fml
LendsItem R s i r = Lends (the_row R) R s r (λ w. slice_set s.now i w)
