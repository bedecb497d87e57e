-- Options of filters and rewrites.
use Rattle.std.specs.Prelude.{ℕ, ◌==◌, nat_lt, Bool, ◌||◌, if◌then◌else◌, List, [], ◌∷◌, length, Option, Some, None, codes}
use Rattle.std.specs.List.{flat_map}
use Rattle.sg_lex.specs.declared.fault.ConfigKind.TheVariants.{MissingOption, HardMacro}
use Rattle.sg_msg.specs.Macros.{is_hard}
use Rattle.sg_parse_base.specs.declared.spot.Spot.{Spot}
use Rattle.sg_parse_base.specs.Input.{spot_line}
use Rattle.sg_parse_expr.specs.declared.tree.Arg.{Arg}
use Rattle.sg_parse_expr.specs.declared.tree.Call.{Call, out-Call}
use Rattle.sg_fault.specs.declared.placed.Placed.{Placed}
use Rattle.sg_options.specs.Settings.{args_of, calls_of, item_of, nested_of, value_of, is_called, last_option}
use Rattle.sg_options.specs.Checks.{bad_value}

abbrev pub missing_if : Spot → Option Call → List Placed
missing_if word (Some call) = []
missing_if word None = (record { kind = MissingOption; line = spot_line word }) ∷ []

-- none of the options is called so
abbrev pub missing : List ℕ → Call → List Placed
missing word call = missing_if (out-Call call).word
    (last_option (word ∷ []) (calls_of (args_of call)))

-- a name has 1 to 255 bytes
abbrev pub name_faults_of : Option Spot → List Placed
name_faults_of None = []
name_faults_of (Some spot) = if (length spot.token.text == 0) || nat_lt 255 (length spot.token.text)
    then bad_value spot ∷ [] else []

-- what is wrong with an option, where it is called so
abbrev pub faults_if : List ℕ → (Call → List Placed) → Option Call → List Placed
faults_if word faults None = []
faults_if word faults (Some call) = if is_called (word ∷ []) call then faults call else []

abbrev pub name_faults : Arg → List Placed
name_faults arg = faults_if (codes "value") (λ call. name_faults_of (value_of call)) (nested_of arg)

-- a macro can't be set: at the rewrite's word
abbrev pub hard_faults_of : Spot → Option Spot → List Placed
hard_faults_of word None = []
hard_faults_of word (Some spot) = if is_hard spot.token.text
    then (record { kind = HardMacro; line = spot_line word }) ∷ [] else []

abbrev pub hard_faults : Spot → Arg → List Placed
hard_faults word arg = faults_if (codes "value") (λ call. hard_faults_of word (value_of call))
    (nested_of arg)

-- a glob has at most 1,000 bytes
abbrev pub long_faults_of : Option Spot → List Placed
long_faults_of None = []
long_faults_of (Some spot) = if nat_lt 1000 (length spot.token.text) then bad_value spot ∷ []
    else []

abbrev pub long_faults : Arg → List Placed
long_faults arg = long_faults_of (item_of arg)

abbrev pub glob_faults : Arg → List Placed
glob_faults arg = faults_if (codes "values") (λ call. flat_map long_faults (args_of call))
    (nested_of arg)
