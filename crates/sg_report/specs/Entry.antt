-- The lines on the entries of a store.
use Rattle.std.specs.Prelude.{ℕ, Bool, true, false, List, ◌++◌, codes}
use Rattle.std.specs.Fmt.{decimal}

abbrev pub flow_text : Bool → List ℕ
flow_text true = codes "yes"
flow_text false = codes "no"

-- an entry: its number, its source, the place behind its record there, its flow, and the length of its payload
abbrev pub entry_line : (number source end : ℕ) → Bool → ℕ → List ℕ
entry_line number source end flow length =
    codes "entry " ++ (decimal number
    ++ (codes " source " ++ (decimal source
    ++ (codes " end " ++ (decimal end
    ++ (codes " flow " ++ (flow_text flow
    ++ (codes " length " ++ (decimal length ++ codes "\n")))))))))

-- a frame that is held back: its number, and its length
abbrev pub frame_line : (number length : ℕ) → List ℕ
frame_line number length = codes "entry "
    ++ (decimal number ++ (codes " frame length " ++ (decimal length ++ codes "\n")))

-- behind the entries, how many they are
abbrev pub entries_line : ℕ → List ℕ
entries_line count = codes "entries " ++ (decimal count ++ codes "\n")
