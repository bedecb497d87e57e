-- The arguments of definitions and uses.
use Rattle.std.specs.Prelude.{◌≡◌, ℕ, ◌==◌, Bool, true, false, ◌&&◌, ◌||◌, not, if◌then◌else◌, List, [], ◌∷◌, ◌++◌, length, Option, Some, None}
use Rattle.std.specs.Str.{bytes_eq}
use Rattle.std.specs.Ordering.{nat_cmp}
use Rattle.std.specs.Cmp.Lexicographic.{slice_cmp}
use Rattle.std.specs.FinMap as map
use Rattle.sg_block.specs.declared.argument.Argument.{Argument}

abbrev pub has_name : List ℕ → List Argument → Bool
has_name name [] = false
has_name name (argument ∷ others) = bytes_eq name argument.name || has_name name others

-- of the arguments of one name the last
abbrev pub last_named : List Argument → List Argument
last_named [] = []
last_named (argument ∷ others) =
    if has_name argument.name others then last_named others else argument ∷ last_named others

-- the parameter must be given, and isn't
abbrev pub lacks : Argument → List Argument → Bool
lacks parameter given = (length parameter.tokens == 0) && not (has_name parameter.name given)

-- a parameter that must be given isn't
abbrev pub is_missing : List Argument → List Argument → Bool
is_missing [] given = false
is_missing (parameter ∷ others) given = lacks parameter given || is_missing others given

-- an argument is given that isn't declared
abbrev pub is_unknown : List Argument → List Argument → Bool
is_unknown parameters [] = false
is_unknown parameters (argument ∷ others) = not (has_name argument.name parameters)
    || is_unknown parameters others

-- the defaults of the parameters that aren't given, in the order declared
abbrev pub defaults : List Argument → List Argument → List Argument
defaults [] given = []
defaults (parameter ∷ others) given = if has_name parameter.name given then defaults others given
    else parameter ∷ defaults others given

-- what a use binds: the last of each name that is given, in the order written, then the defaults
abbrev pub bindings : List Argument → List Argument → List Argument
bindings parameters given = last_named given ++ defaults parameters given

-- the table has the arguments' names, and no others
abbrev pub HasNames : map.FinMap (slice_cmp nat_cmp) Bool → List Argument → Type 0
HasNames names arguments = (name : List ℕ) → map.contains_key names name ≡ has_name name arguments

abbrev pub AddsName : map.FinMap (slice_cmp nat_cmp) Bool → map.FinMap (slice_cmp nat_cmp) Bool
    → Argument → Type 0
AddsName old new argument = new ≡ map.insert old argument.name true

-- the first, or the last, is taken off where there is one
abbrev pub TakesOneOff : List Argument → List Argument → Option Argument → Type 0
TakesOneOff old new None = (old ≡ []) × (new ≡ [])
TakesOneOff old new (Some argument) = old ≡ argument ∷ new

abbrev pub TakesLast : List Argument → List Argument → Option Argument → Type 0
TakesLast old new None = (old ≡ []) × (new ≡ [])
TakesLast old new (Some argument) = old ≡ new ++ argument ∷ []
