-- Parsers with whose values nothing is wrong have columns that pairs may be called.
use Rattle.std.proofs.Common.{◌≡◌, ℕ, List, [], ◌∷◌, ◌++◌, length, Bool, true, false, Option, Some, None, refl, ap, subst, arith}
use Rattle.std.specs.Prelude.{cond, not, codes, option_map, ◌&&◌, ◌||◌, ◌==◌, nat_lt, nat_le}
use Rattle.std.specs.List.{flat_map, list_all}
use Rattle.std.proofs.lemmas.Bool.Decides.{nat_tests}
use Rattle.sg_msg.specs.Macros.{is_hard}
use Rattle.sg_parsers.specs.declared.csv.Csv.{Csv}
use Rattle.sg_parsers.specs.declared.parser.MessageParser.TheVariants as parser
use Rattle.sg_parsers.specs.Names.{may_name}
use Rattle.sg_parsers.specs.Csv.{prefixed}
use Rattle.sg_parse_base.specs.declared.spot.Spot.{Spot}
use Rattle.sg_parse_expr.specs.declared.tree.Arg.{Arg}
use Rattle.sg_parse_expr.specs.declared.tree.Call.{Call, out-Call}
use Rattle.sg_fault.specs.declared.placed.Placed.{Placed}
use Rattle.sg_options.specs.Settings.{args_of, calls_of, item_of, is_called, last_option, last_value}
use Rattle.sg_options.specs.Values.{text_of, text_or}
use Rattle.sg_lower.specs.Values.{text_if}
use Rattle.sg_lower.specs.Parsers.{columns_behind, columns_in, csv_of, csv_by, kv_by, rule_by, rule_with}
use Rattle.sg_values.specs.Settings.{missing}
use Rattle.sg_values.specs.Parsers.{length_faults, quote_faults, column_name_faults, name_faults_if, column_faults, count_faults, columns_faults, csv_faults, kv_faults, parser_faults}
use Rattle.sg_forest.specs.Kept.{ParsersAreKept}
use Rattle.sg_forest.proofs.Keeping.{both-empty, or-right, at-most}

or-left : (a b : Bool) → (a || b) ≡ false → a ≡ false
or-left true b h = let no : ⊥ = cc in absurd no
or-left false b h = refl

at-least : (n : ℕ) → (n == 0) ≡ false → nat_le 1 n ≡ true
at-least n h = grind (arith, nat_tests)

-- a name that is as long as one may be, and no macro's
may-be : (name : List ℕ) → ((length name == 0) || nat_lt 255 (length name)) ≡ false → is_hard name ≡ false → may_name name ≡ true
may-be name long hard =
    let first : nat_le 1 (length name) ≡ true = at-least (length name) (or-left (length name == 0) (nat_lt 255 (length name)) long) in
    let last : nat_le (length name) 255 ≡ true = at-most (length name) (or-right (length name == 0) (nat_lt 255 (length name)) long) in
    λ i. (first i && last i) && not (hard i)

neither : (a b : Bool) (x y : Placed) → cond a (x ∷ []) (cond b (y ∷ []) []) ≡ [] → (a ≡ false) × (b ≡ false)
neither true b x y h = let no : ⊥ = cc in absurd no
neither false true x y h = let no : ⊥ = cc in absurd no
neither false false x y h = (refl, refl)

module _ (word : Spot) (prefix : List ℕ) where
  column-named : (column : Spot) → column_name_faults word prefix column ≡ [] → may_name (prefix ++ column.token.text) ≡ true
  column-named column clean =
      let name : List ℕ = prefix ++ column.token.text in
      let both = neither ((length name == 0) || nat_lt 255 (length name)) (is_hard name) _ _ clean in
      may-be name both.0 both.1

  item-named : (item : Option Spot) (rest : List (List ℕ)) → name_faults_if word prefix item ≡ [] → list_all may_name (prefixed prefix rest) ≡ true → list_all may_name (prefixed prefix (text_if item ++ rest)) ≡ true
  item-named None rest clean h = h
  item-named (Some column) rest clean h = let first : may_name (prefix ++ column.token.text) ≡ true = column-named column clean in λ i. first i && h i

  all-named : (args : List Arg) → flat_map (column_faults word prefix) args ≡ [] → list_all may_name (prefixed prefix (flat_map (λ arg. text_if (item_of arg)) args)) ≡ true
  all-named [] clean = refl
  all-named (arg ∷ args) clean =
      let both = both-empty (column_faults word prefix arg) (flat_map (column_faults word prefix) args) clean in
      item-named (item_of arg) (flat_map (λ a. text_if (item_of a)) args) both.0 (all-named args both.1)

  columns-named : (option : Option Call) → columns_faults word prefix option ≡ [] → list_all may_name (prefixed prefix (columns_behind option)) ≡ true
  columns-named None clean = refl
  columns-named (Some option) clean = all-named (args_of option) (both-empty (count_faults option) (flat_map (column_faults word prefix) (args_of option)) clean).1

text-same : (value : Option Spot) → text_of value ≡ text_or value []
text-same None = refl
text-same (Some spot) = refl

csv-named : (call : Call) → csv_faults call ≡ [] → list_all may_name (csv_of (args_of call)).names ≡ true
csv-named call clean =
    let args = args_of call in
    let calls = calls_of args in
    let word = (out-Call call).word in
    let delimiters = last_value (codes "delimiters" ∷ []) calls in
    let prefix = last_value (codes "prefix" ∷ []) calls in
    let columns = last_option (codes "columns" ∷ []) calls in
    let first = (missing (codes "columns") call ++ missing (codes "delimiters") call) ++ (length_faults delimiters ++ quote_faults delimiters) in
    let rest = columns_faults word (text_of prefix) columns in
    subst (λ (text : List ℕ). list_all may_name (prefixed text (columns_in args)) ≡ true) (text-same prefix)
    (columns-named word (text_of prefix) columns (both-empty first rest clean).1)

pub are-kept : ParsersAreKept
unfolding parser_faults rule_by
are-kept call clean = by (is_called (codes "csv-parser" ∷ []) call) clean
  where
    csv : Csv
    csv = csv_of (args_of call)

    by : (b : Bool) → cond b (csv_faults call) (kv_faults call) ≡ []
        → option_map (rule_with call) (cond b (csv_by (args_of call)) (Some (kv_by (args_of call)))) ≡ Some (rule_with call (cond b (parser.Csv csv) (kv_by (args_of call))))
    by true h = ap (λ (x : Bool). option_map (rule_with call) (option_map parser.Csv (cond x (Some csv) None))) (csv-named call h)
    by false h = refl
