-- A frame that says to which file it goes: the length of the path in two bytes, the higher first, the path, and the text.
use Rattle.std.specs.Prelude.{ℕ, ◌+◌, ◌*◌, ◌/◌, ◌%◌, ◌==◌, ◌||◌, nat_lt, if◌then◌else◌, List, [], ◌∷◌, ◌++◌, length, take, drop}

abbrev pub length_bytes : ℕ → List ℕ
length_bytes n = n / 256 ∷ n % 256 ∷ []

abbrev pub packed : List ℕ → List ℕ → List ℕ
packed path text = length_bytes (length path) ++ (path ++ text)

-- a path and the text behind it; where there is no path, or less than its length says, the whole frame is text
abbrev pub cut : ℕ → List ℕ → List ℕ → (List ℕ × List ℕ)
cut n frame behind = if (n == 0) || nat_lt (length behind) n then ([], frame)
    else (take n behind, drop n behind)

-- the path of a frame, and its text
abbrev pub unpacked : List ℕ → (List ℕ × List ℕ)
unpacked [] = ([], [])
unpacked (b ∷ []) = ([], b ∷ [])
unpacked (high ∷ low ∷ behind) = cut (high * 256 + low) (high ∷ low ∷ behind) behind
