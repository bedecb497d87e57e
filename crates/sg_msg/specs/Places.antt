-- Where a name stands among ascending pairs, or would stand.
use Rattle.std.specs.Prelude.{◌≡◌, ◌≤◌, ◌<◌, ℕ, List, length, HoldsAt}
use Rattle.std.specs.declared.cmp.Ordering.TheVariants.{Less, Greater}
use Rattle.std.specs.List.{AllWithin}
use Rattle.sg_msg.specs.Message.{NameValue, byte_order}

-- the pair at this place has the name
pub record IsPairAt (pairs : List NameValue) (name : List ℕ) (place : ℕ) : Type 0 where
  pub in_range : place < length pairs
  pub has_name : HoldsAt (λ pair. pair.name ≡ name) pairs place

-- smaller names stand before this place, and greater ones from it on
pub record IsGapFor (pairs : List NameValue) (name : List ℕ) (place : ℕ) : Type 0 where
  pub in_range : place ≤ length pairs
  pub smaller : AllWithin (λ pair. byte_order pair.name name ≡ Less) pairs 0 place
  pub greater : AllWithin (λ pair. byte_order pair.name name ≡ Greater) pairs place (length pairs)
