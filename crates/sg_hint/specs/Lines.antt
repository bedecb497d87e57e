-- The lines of a text.
use Rattle.std.specs.Prelude.{◌==◌, ◌+◌, ◌-◌, ◌^◌, if◌then◌else◌, min, ℕ, List, [], ◌∷◌, Option, None, option_map, slice_get}
use Rattle.std.specs.List.{slice_split}
use Rattle.std.specs.Str.Lines.{strip_carriage_return}
use Rattle.sg_hint.specs.declared.line.TextPlace.{TextPlace}

-- one more, as far as the number goes
abbrev pub more : ℕ → ℕ
more n = min (n + 1) (2 ^ 32 - 1)

abbrev pub first_place : TextPlace
first_place = record { line = 1; column = 1 }

-- Behind an LF begins the next line.
abbrev pub behind_byte : TextPlace → ℕ → TextPlace
behind_byte place byte =
    if byte == 10 then record { line = more place.line; column = 1 }
    else record { line = place.line; column = more place.column }

abbrev pub behind_bytes : TextPlace → List ℕ → TextPlace
behind_bytes place [] = place
behind_bytes place (byte ∷ text) = behind_bytes (behind_byte place byte) text

-- The line of a number, counted from 1: what stands between the LFs around it, without a CR at its end.
abbrev pub numbered_line : List ℕ → ℕ → Option (List ℕ)
numbered_line text number =
    if number == 0 then None
    else option_map strip_carriage_return
    (slice_get (slice_split (λ byte. byte == 10) text) (number - 1))
