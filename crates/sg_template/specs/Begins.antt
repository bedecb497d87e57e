-- What a call leaves of a text that it appends to, where it fails on the way.
use Rattle.std.specs.Prelude.{◌≡◌, ℕ, List, ◌++◌}

-- the text is that front and whatever follows it
pub record BeginsWith (front text : List ℕ) : Type 0 where
  pub rest : List ℕ
  pub is_text : text ≡ front ++ rest
