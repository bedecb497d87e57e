-- What frames take as entries of the store.
use Rattle.std.specs.Prelude.{ℕ, ◌+◌, List, [], ◌∷◌, length}

-- the gate, the length, the first byte of the payload and the frame
abbrev pub size_of : List (List ℕ) → ℕ
size_of [] = 0
size_of (frame ∷ frames) = length frame + 6 + size_of frames
