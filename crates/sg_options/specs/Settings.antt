-- The options among the arguments of a driver, and which of several counts.
use Rattle.std.specs.Prelude.{ℕ, Bool, true, false, if◌then◌else◌, List, [], ◌∷◌, Option, Some, None}
use Rattle.sg_parse_base.specs.declared.spot.Spot.{Spot}
use Rattle.sg_parse_base.specs.Tokens.{same_keyword}
use Rattle.sg_parse_expr.specs.declared.tree.Arg.{Arg, out-Arg}
use Rattle.sg_parse_expr.specs.declared.tree.Arg.TheOpen.{Arg-F}
use Rattle.sg_parse_expr.specs.declared.tree.Call.{Call, out-Call}
use Rattle.sg_parse_expr.specs.declared.tree.RawExpr.{RawExpr}
use Rattle.sg_parse_expr.specs.Classes.{is_one_of}

unfoldable pub word_of : Call → Spot
word_of call = (out-Call call).word

unfoldable pub args_of : Call → List Arg
args_of call = (out-Call call).args

abbrev pub item_in : Arg-F Arg RawExpr Call → Option Spot
item_in (Arg-F.Item spot) = Some spot
item_in _ = None

abbrev pub call_in : Arg-F Arg RawExpr Call → Option Call
call_in (Arg-F.Nested call) = Some call
call_in _ = None

-- a value, and an option
unfoldable pub item_of : Arg → Option Spot
item_of arg = item_in (out-Arg arg)

unfoldable pub nested_of : Arg → Option Call
nested_of arg = call_in (out-Arg arg)

abbrev pub with_call : Option Call → List Call → List Call
with_call None calls = calls
with_call (Some call) calls = call ∷ calls

-- the options among arguments
abbrev pub calls_of : List Arg → List Call
calls_of [] = []
calls_of (arg ∷ args) = with_call (nested_of arg) (calls_of args)

abbrev pub with_item : Option Spot → List Spot → List Spot
with_item None spots = spots
with_item (Some spot) spots = spot ∷ spots

-- the values among them
abbrev pub items_of : List Arg → List Spot
items_of [] = []
items_of (arg ∷ args) = with_item (item_of arg) (items_of args)

abbrev pub first_item : List Arg → Option Spot
first_item [] = None
first_item (arg ∷ args) = item_of arg

-- the value of an option: its first argument
abbrev pub value_of : Call → Option Spot
value_of call = first_item (args_of call)

-- whether it is called by one of these words
abbrev pub is_called : List (List ℕ) → Call → Bool
is_called words call = is_one_of (word_of call).token.text words

abbrev pub later : {A : Type 0} → Option A → Option A → Option A
later (Some x) before = Some x
later None before = before

-- of several options with one of these words the last counts
abbrev pub last_option : List (List ℕ) → List Call → Option Call
last_option words [] = None
last_option words (call ∷ calls) = later (last_option words calls)
    (if is_called words call then Some call else None)

abbrev pub value_behind : Option Call → Option Spot
value_behind None = None
value_behind (Some call) = value_of call

-- the value that counts
abbrev pub last_value : List (List ℕ) → List Call → Option Spot
last_value words calls = value_behind (last_option words calls)

abbrev pub has_word : List ℕ → List Spot → Bool
has_word word [] = false
has_word word (spot ∷ spots) =
    if same_keyword spot.token.text word then true else has_word word spots

-- whether this word is among the option's values
abbrev pub has_flag : List ℕ → Option Call → Bool
has_flag word None = false
has_flag word (Some call) = has_word word (items_of (args_of call))
