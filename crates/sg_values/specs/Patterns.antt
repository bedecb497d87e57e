-- Patterns.
use Rattle.std.specs.Prelude.{ℕ, ◌==◌, nat_lt, Bool, true, false, ◌||◌, ◌&&◌, if◌then◌else◌, List, [], ◌∷◌, ◌++◌, length, Option, Some, None, codes}
use Rattle.sg_parse_base.specs.declared.spot.Spot.{Spot}
use Rattle.sg_parse_base.specs.Tokens.{same_keyword}
use Rattle.sg_parse_expr.specs.declared.tree.Arg.{Arg}
use Rattle.sg_parse_expr.specs.declared.tree.Call.{Call}
use Rattle.sg_fault.specs.declared.placed.Placed.{Placed}
use Rattle.sg_options.specs.Settings.{args_of, calls_of, items_of, first_item, last_option, last_value}
use Rattle.sg_options.specs.Checks.{bad_value}

abbrev pub says : List ℕ → Option Spot → Bool
says word None = false
says word (Some spot) = same_keyword spot.token.text word

-- whether the pattern has that type
abbrev pub is_kind : List ℕ → List Arg → Bool
is_kind word args = says word (last_value (codes "type" ∷ []) (calls_of args))

-- at most 1,000 bytes, and of the type `string` one or more
abbrev pub text_faults_of : Bool → Option Spot → List Placed
text_faults_of plain None = []
text_faults_of plain (Some spot) = if nat_lt 1000 (length spot.token.text)
    || (plain && (length spot.token.text == 0)) then bad_value spot ∷ [] else []

abbrev pub text_faults : List Arg → List Placed
text_faults args = text_faults_of (is_kind (codes "string") args) (first_item args)

abbrev pub find_word : List ℕ → List Spot → Option Spot
find_word word [] = None
find_word word (spot ∷ spots) =
    if same_keyword spot.token.text word then Some spot else find_word word spots

abbrev pub flag_in : List ℕ → Option Call → Option Spot
flag_in word None = None
flag_in word (Some call) = find_word word (items_of (args_of call))

abbrev pub bad_if : Option Spot → List Placed
bad_if None = []
bad_if (Some spot) = bad_value spot ∷ []

-- a glob doesn't ignore case: at the flag that counts
abbrev pub case_faults : List Arg → List Placed
case_faults args = if is_kind (codes "glob") args
    then bad_if (flag_in (codes "ignore-case") (last_option (codes "flags" ∷ []) (calls_of args)))
    else []

unfoldable pub pattern_faults : List Arg → List Placed
pattern_faults args = text_faults args ++ case_faults args
