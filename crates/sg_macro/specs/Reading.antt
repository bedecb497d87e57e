-- What the text of a template means (syslog-ng's administration guide, "Templates and macros").
use Rattle.std.specs.Prelude.{◌≡◌, ℕ, zero, suc, ◌+◌, ◌-◌, Bool, false, ◌==◌, ◌&&◌, ◌||◌, if◌then◌else◌, List, [], ◌∷◌, length, take, drop, Option, Some, None, Result, Ok, Err, codes}
use Rattle.std.specs.List.{prefix_len, position_or_len}
use Rattle.std.specs.Char.{is_ascii_alphanumeric}
use Rattle.sg_macro.specs.declared.macros.Macro.{Macro as MacroKind}
use Rattle.sg_macro.specs.declared.part.TemplatePart.{TemplatePart}
use Rattle.sg_macro.specs.declared.part.TemplatePart.TheVariants.{Literal, Macro, Pair}
use Rattle.sg_macro.specs.declared.cut.CutPart.{CutPart}
use Rattle.sg_macro.specs.declared.fault.TemplateFault.{TemplateFault}
use Rattle.sg_macro.specs.declared.fault.TemplateFault.TheVariants.{OpenBrace, Function, NoMemory}
use Rattle.sg_macro.specs.Macros.{macro_of, pair_name}

-- letters, digits and `_`
abbrev pub is_name_byte : ℕ → Bool
is_name_byte b = is_ascii_alphanumeric b || (b == 95)

-- the bytes before the first of this value, all where there is none
abbrev pub length_before : ℕ → List ℕ → ℕ
length_before c bytes = position_or_len (λ b. b == c) bytes

abbrev pub begins_with : ℕ → List ℕ → Bool
begins_with c [] = false
begins_with c (b ∷ bytes) = b == c

-- the bytes before the first `:-`, all where there is none
abbrev pub length_before_default : List ℕ → ℕ
length_before_default [] = 0
length_before_default (b ∷ bytes) =
    if (b == 58) && begins_with 45 bytes then 0 else 1 + length_before_default bytes

-- a macro, or a pair, by its name, with the text that stands in place of an empty one
abbrev pub part_of : Option MacroKind → List ℕ → List ℕ → TemplatePart
part_of (Some kind) name default = Macro kind default
part_of None name default = Pair (pair_name name) default

abbrev pub named : List ℕ → List ℕ → TemplatePart
named name default = part_of (macro_of name) name default

-- a part that so many bytes spell
abbrev pub cut : TemplatePart → ℕ → Result CutPart TemplateFault
cut part len = Ok (record { part = part; len = len })

-- `${NAME}` or `${NAME:-default}`, behind its brace
abbrev pub brace_cut : List ℕ → Result CutPart TemplateFault
brace_cut bytes =
    let len = length_before 125 bytes in
    let inner = take len bytes in
    let name = length_before_default inner in
    if len == length bytes then Err OpenBrace
    else cut (named (take name inner) (drop (name + 2) inner)) (len + 3)

-- `$NAME`, of the longest run of such bytes behind the dollar; without them the dollar is itself
abbrev pub word_cut : List ℕ → Result CutPart TemplateFault
word_cut bytes =
    let len = prefix_len is_name_byte bytes in
    if len == 0 then cut (Literal (codes "$")) 1 else cut (named (take len bytes) []) (len + 1)

-- what a dollar begins: `$$` is a dollar, and `$(` a function
abbrev pub dollar_cut : List ℕ → Result CutPart TemplateFault
dollar_cut [] = cut (Literal (codes "$")) 1
dollar_cut (b ∷ bytes) =
    if b == 36 then cut (Literal (codes "$")) 2
    else (if b == 123 then brace_cut bytes
    else (if b == 40 then Err Function
    else word_cut (b ∷ bytes)))

-- the first part: the bytes before the first dollar are themselves
abbrev pub first_cut : List ℕ → Result CutPart TemplateFault
first_cut text =
    let len = length_before 36 text in
    if len == 0 then dollar_cut (drop 1 text) else cut (Literal (take len text)) len

abbrev pub length_behind : Result CutPart TemplateFault → ℕ
length_behind (Ok found) = found.len - 1
length_behind (Err fault) = 0

-- the part before those that follow, or the first fault
abbrev pub with_cut : Result CutPart TemplateFault → Result (List TemplatePart) TemplateFault
    → Result (List TemplatePart) TemplateFault
with_cut (Err fault) parts = Err fault
with_cut (Ok found) (Ok parts) = Ok (found.part ∷ parts)
with_cut (Ok found) (Err fault) = Err fault

-- the parts behind so many bytes
abbrev pub parts_behind : ℕ → List ℕ → Result (List TemplatePart) TemplateFault
parts_behind skip [] = Ok []
parts_behind (suc skip) (b ∷ bytes) = parts_behind skip bytes
parts_behind zero (b ∷ bytes) = with_cut (first_cut (b ∷ bytes))
    (parts_behind (length_behind (first_cut (b ∷ bytes))) bytes)

-- the parts of a text, or its first fault
unfoldable pub parts_of : List ℕ → Result (List TemplatePart) TemplateFault
parts_of text = parts_behind 0 text

-- the fault is the reading's, or memory ran out
abbrev pub RefusesTemplate : {A : Type 0} → Result A TemplateFault → TemplateFault → Type 0
RefusesTemplate reading NoMemory = Unit {0}
RefusesTemplate reading OpenBrace = reading ≡ Err OpenBrace
RefusesTemplate reading Function = reading ≡ Err Function
