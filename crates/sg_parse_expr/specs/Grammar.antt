-- The grammar of calls and expressions: what stands at the front of tokens, and what stands behind it.
use Rattle.std.specs.Prelude.{◌≡◌, ◌⊎◌, ℕ, zero, suc, false, List, [], ◌∷◌, codes, Option, Some}
use Rattle.sg_lex.specs.declared.place.Cmp.{Cmp}
use Rattle.sg_parse_base.specs.declared.spot.Spot.{Spot}
use Rattle.sg_parse_base.specs.Tokens.{is_word, is_dots}
use Rattle.sg_parse_base.specs.Input.{sees_dots}
use Rattle.sg_parse_base.specs.Grammar.{Stands, TakesToken, Symbol, Keyword, Commas, Single, Rest, Many, Chain, Skipped}
use Rattle.sg_parse_expr.specs.declared.tree.Arg.{Arg}
use Rattle.sg_parse_expr.specs.declared.tree.Arg.TheVariants.{Item, Range, Nested, Test}
use Rattle.sg_parse_expr.specs.declared.tree.Call.{Call}
use Rattle.sg_parse_expr.specs.declared.tree.RawExpr.{RawExpr}
use Rattle.sg_parse_expr.specs.declared.tree.RawExpr.TheVariants as e
use Rattle.sg_parse_expr.specs.declared.class.Class.{Class}
use Rattle.sg_parse_expr.specs.declared.class.Class.TheVariants.{Name, Template, Text}
use Rattle.sg_parse_expr.specs.declared.form.Flat.{Flat}
use Rattle.sg_parse_expr.specs.declared.form.Flat.TheVariants as flat
use Rattle.sg_parse_expr.specs.declared.form.FilterTable.{FilterTable}
use Rattle.sg_parse_expr.specs.declared.form.FilterForm.{FilterForm}
use Rattle.sg_parse_expr.specs.declared.form.FilterForm.TheVariants as filter
use Rattle.sg_parse_expr.specs.declared.form.RewriteTable.{RewriteTable}
use Rattle.sg_parse_expr.specs.declared.form.RewriteOption.{RewriteOption}
use Rattle.sg_parse_expr.specs.declared.form.RewriteOption.TheVariants as option
use Rattle.sg_parse_expr.specs.declared.form.RewriteForm.{RewriteForm}
use Rattle.sg_parse_expr.specs.declared.form.RewriteForm.TheVariants as rewrite
use Rattle.sg_parse_expr.specs.Classes.{passes}
use Rattle.sg_parse_expr.specs.Forms.{row_of, filter_options, filters, rewrite_options, rewrites}
use Rattle.sg_parse_expr.specs.Args.{call_of}
use Rattle.sg_parse_expr.specs.Expr.{cmp_of, and_of, or_of, is_reserved}

-- ---- arguments

-- a value of a class
abbrev pub OneItem : Class → Stands Arg
OneItem class s arg r = (spot : Spot) × TakesToken (passes class) s spot r × (arg ≡ Item spot)

-- two values with `..` between them
pub record TwoItems (class : Class) (s : List Spot) (arg : Arg) (r : List Spot) : Type 0 where
  pub low : Spot
  pub dots : Spot
  pub high : Spot
  pub m : List Spot
  pub n : List Spot
  pub is_low : TakesToken (passes class) s low m
  pub are_dots : TakesToken is_dots m dots n
  pub is_high : TakesToken (passes class) n high r
  pub is : arg ≡ Range low high

-- value [ ".." value ]
abbrev pub ValueSpan : Class → List Spot → Arg → List Spot → Type 0
ValueSpan class s arg r = (OneItem class s arg r × (sees_dots r ≡ false)) ⊎ TwoItems class s arg r

abbrev pub NoArgs : Stands (List Arg)
NoArgs s args r = Skipped s r × (args ≡ [])

abbrev pub FlatArgs : Flat → Stands (List Arg)
FlatArgs flat.Skipped = NoArgs
FlatArgs (flat.One class) = Single (OneItem class)
FlatArgs (flat.Many class) = Many (OneItem class)
FlatArgs (flat.Ranges class) = Many (ValueSpan class)

-- WORD ( args ), where the word has a form, which says what the arguments are
pub record Called {F : Type 0} (form_of : List ℕ → Option F) (Args : F → Stands (List Arg))
    (s : List Spot) (call : Call) (r : List Spot) : Type 0 where
  pub word : Spot
  pub m : List Spot
  pub form : F
  pub args : List Arg
  pub is_word : TakesToken is_word s word m
  pub has_form : form_of word.token.text ≡ Some form
  pub are_args : Args form m args r
  pub is : call ≡ call_of word args

-- such a call as an option
abbrev pub Option_of : {F : Type 0} → (List ℕ → Option F) → (F → Stands (List Arg)) → Stands Arg
Option_of form_of Args s arg r = (call : Call) × Called form_of Args s call r × (arg ≡ Nested call)

-- "(" value { [commas] option } ")"
pub record Named (class : Class) (Opt : Stands Arg) (s : List Spot) (args : List Arg)
    (r : List Spot) : Type 0 where
  pub inner : List Spot
  pub after : List Spot
  pub first : Spot
  pub options : List Arg
  pub opens : Symbol 40 s inner
  pub is_first : TakesToken (passes class) inner first after
  pub are_options : Rest Opt after options r
  pub is : args ≡ Item first ∷ options

-- "(" value [commas] value { [commas] option } ")"
pub record Paired (class next_class : Class) (Opt : Stands Arg) (s : List Spot) (args : List Arg)
    (r : List Spot) : Type 0 where
  pub inner : List Spot
  pub between : List Spot
  pub next : List Spot
  pub after : List Spot
  pub first : Spot
  pub second : Spot
  pub options : List Arg
  pub opens : Symbol 40 s inner
  pub is_first : TakesToken (passes class) inner first between
  pub commas : Commas between next
  pub is_second : TakesToken (passes next_class) next second after
  pub are_options : Rest Opt after options r
  pub is : args ≡ Item first ∷ Item second ∷ options

-- ---- filters

abbrev pub FilterOption : FilterTable → Stands Arg
FilterOption table = Option_of (row_of (filter_options table)) FlatArgs

abbrev pub FilterArgs : FilterForm → Stands (List Arg)
FilterArgs (filter.Flat form) = FlatArgs form
FilterArgs (filter.Pattern table) = Named Name (FilterOption table)

abbrev pub FilterCall : Stands Call
FilterCall = Called (row_of filters) FilterArgs

-- ---- expressions

-- STR cmp STR
pub record Compare (s : List Spot) (x : RawExpr) (r : List Spot) : Type 0 where
  pub left : Spot
  pub cmp : Cmp
  pub right : Spot
  pub m : List Spot
  pub word : Spot
  pub n : List Spot
  pub is_left : TakesToken (passes Text) s left m
  pub behind_word : m ≡ word ∷ n
  pub is_cmp : cmp_of m ≡ Some cmp
  pub is_right : TakesToken (passes Text) n right r
  pub is : x ≡ e.Compare left cmp right

-- a filter, whose word is none of `and`, `or`, `not`
pub record Filtered (s : List Spot) (x : RawExpr) (r : List Spot) : Type 0 where
  pub call : Call
  pub plain : is_reserved s ≡ false
  pub called : FilterCall s call r
  pub is : x ≡ e.Call call

-- the rules of an expression, over what a group is
module _ (Group : Stands RawExpr) where
  -- prim = group | STR cmp STR | WORD ( args )
  pub data Primary : List Spot → RawExpr → List Spot → Type 0 where
    group : (s r : List Spot) (x : RawExpr) → Group s x r → Primary s x r
    compare : (s r : List Spot) (x : RawExpr) → Compare s x r → Primary s x r
    call : (s r : List Spot) (x : RawExpr) → Filtered s x r → Primary s x r

  -- not = [ "not" ] prim
  pub data Negation : List Spot → RawExpr → List Spot → Type 0 where
    plain : (s r : List Spot) (x : RawExpr) → Primary s x r → Negation s x r
    negated : (s m r : List Spot) (x y : RawExpr) → Keyword (codes "not") s m → Primary m x r
        → y ≡ e.Not x → Negation s y r

  -- and = not { "and" not }
  pub record Conjunction (s : List Spot) (x : RawExpr) (r : List Spot) : Type 0 where
    pub xs : List RawExpr
    pub terms : Chain Negation (codes "and") s xs r
    pub is : x ≡ and_of xs

  -- expr = and { "or" and }
  pub record Disjunction (s : List Spot) (x : RawExpr) (r : List Spot) : Type 0 where
    pub xs : List RawExpr
    pub terms : Chain Conjunction (codes "or") s xs r
    pub is : x ≡ or_of xs

-- "(" expr ")", with groups in it nested less deep
abbrev pub Group : ℕ → List Spot → RawExpr → List Spot → Type 0
Group zero s x r = ⊥
Group (suc depth) s x r = (m : List Spot) × (n : List Spot) × Symbol 40 s m
    × Disjunction (Group depth) m x n × Symbol 41 n r

abbrev pub Expression : ℕ → Stands RawExpr
Expression depth = Disjunction (Group depth)

-- ---- rewrites

-- "(" expr ")", the parentheses being the option's own
abbrev pub Condition : ℕ → Stands (List Arg)
Condition depth s args r = (m : List Spot) × (n : List Spot) × (x : RawExpr) × Symbol 40 s m
    × Expression depth m x n × Symbol 41 n r × (args ≡ Test x ∷ [])

abbrev pub RewriteOptionArgs : ℕ → RewriteOption → Stands (List Arg)
RewriteOptionArgs depth (option.Flat form) = FlatArgs form
RewriteOptionArgs depth option.Condition = Condition depth

abbrev pub RewriteOptionOf : ℕ → RewriteTable → Stands Arg
RewriteOptionOf depth table = Option_of (row_of (rewrite_options table)) (RewriteOptionArgs depth)

abbrev pub RewriteArgs : ℕ → RewriteForm → Stands (List Arg)
RewriteArgs depth (rewrite.Options table) = Many (RewriteOptionOf depth table)
RewriteArgs depth (rewrite.Named class table) = Named class (RewriteOptionOf depth table)
RewriteArgs depth (rewrite.Pattern table) = Paired Name Template (RewriteOptionOf depth table)

abbrev pub RewriteCall : ℕ → Stands Call
RewriteCall depth = Called (row_of rewrites) (RewriteArgs depth)
