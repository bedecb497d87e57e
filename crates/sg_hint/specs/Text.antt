-- The text of a hint.
use Rattle.std.specs.Prelude.{◌≡◌, slice_get, ℕ, ◌-◌, nat_le, min, if◌then◌else◌, List, [], ◌++◌, map, take, drop, replicate, length, codes, Option, Some, None}
use Rattle.std.specs.Fmt.{decimal}
use Rattle.sg_lex.specs.declared.fault.ConfigFault.{ConfigFault}
use Rattle.sg_report.specs.Fault.{kind_text_of, name_at}
use Rattle.sg_hint.specs.Shown.{shown_byte}
use Rattle.sg_hint.specs.declared.written.Spotted.{Spotted}

-- the fault's file and line
abbrev pub place_text : ConfigFault → List (List ℕ) → List ℕ
place_text fault names = map shown_byte (name_at names fault.file)
    ++ (codes ":" ++ decimal fault.line)

-- what is wrong, and the end of the line
abbrev pub kind_line : ConfigFault → List ℕ
kind_line fault = codes ": " ++ (kind_text_of fault.kind ++ codes "\n")

-- How many bytes of a line of that length stand before the 120 that are shown, with the token at this byte of it.
abbrev pub hidden_before : ℕ → ℕ → ℕ
hidden_before total at = if nat_le total 120 then 0 else min (at - 60) (total - 120)

-- what is shown of a line behind so many of its bytes
abbrev pub shown_part : List ℕ → ℕ → List ℕ
shown_part line hidden = take 120 (drop hidden line)

abbrev pub excerpt : List ℕ → ℕ → List ℕ
excerpt line hidden = codes "    " ++ (map shown_byte (shown_part line hidden) ++ codes "\n")

abbrev pub suggestion : Option (List ℕ) → List ℕ
suggestion None = []
suggestion (Some name) = codes " did you mean `" ++ (map shown_byte name ++ codes "`?")

-- the mark below the byte of what is shown, and the name that may have been meant
abbrev pub caret : ℕ → Option (List ℕ) → List ℕ
caret before meant =
    codes "    " ++ (replicate (min before 120) 32
    ++ (codes "^" ++ (suggestion meant ++ codes "\n")))

-- the line and its mark, with the token at this byte of it
abbrev pub marked : List ℕ → ℕ → Option (List ℕ) → List ℕ
marked line at meant = excerpt line (hidden_before (length line) at)
    ++ caret (at - hidden_before (length line) at) meant

-- what stands behind the place
abbrev pub behind_place : ConfigFault → List ℕ → Option Spotted → List ℕ
behind_place fault line None = kind_line fault ++ excerpt line 0
behind_place fault line (Some spotted) = (codes ":" ++ decimal spotted.column)
    ++ (kind_line fault ++ marked line (spotted.column - 1) spotted.meant)

abbrev pub hint_text : ConfigFault → List (List ℕ) → List ℕ → Option Spotted → List ℕ
hint_text fault names line spotted = place_text fault names ++ behind_place fault line spotted

-- The byte above the mark is that of the line at which the token begins.
abbrev pub IsAbove : List ℕ → ℕ → Type 0
IsAbove line at =
    slice_get (shown_part line (hidden_before (length line) at))
    (at - hidden_before (length line) at)
    ≡ slice_get line at
