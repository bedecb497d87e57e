-- Conditions. A group is an expression in parentheses.
use Rattle.std.specs.Prelude.{ℕ, zero, suc, Bool, ◌||◌, if◌then◌else◌, List, [], ◌∷◌, codes, Option, Some, None, Ok, Err}
use Rattle.sg_lex.specs.declared.fault.ConfigKind.TheVariants.{Unexpected, Unsupported, DepthOver64}
use Rattle.sg_parse_base.specs.declared.spot.Spot.{Spot}
use Rattle.sg_lex.specs.declared.place.Cmp.{Cmp}
use Rattle.sg_lex.specs.declared.place.Cmp.TheVariants.{Eq, Ne, Lt, Gt, Le, Ge}
use Rattle.sg_parse_expr.specs.declared.tree.RawExpr.{RawExpr}
use Rattle.sg_parse_expr.specs.declared.tree.RawExpr.TheVariants as e
use Rattle.sg_parse_base.specs.Tokens.{is_operator, is_string}
use Rattle.sg_parse_base.specs.Input.{Parser, ◌>>=◌, behind, next_is, sees, sees_word, symbol, fault_at}
use Rattle.sg_parse_base.specs.Lists.{chain}
use Rattle.sg_parse_expr.specs.declared.class.Class.TheVariants.{Text}
use Rattle.sg_parse_expr.specs.Args.{value}
use Rattle.sg_parse_expr.specs.Filters.{filter_call}

-- a list of one is that one
unfoldable pub or_of : List RawExpr → RawExpr
or_of [] = e.Or []
or_of (only ∷ []) = only
or_of (first ∷ second ∷ more) = e.Or (first ∷ second ∷ more)

unfoldable pub and_of : List RawExpr → RawExpr
and_of [] = e.And []
and_of (only ∷ []) = only
and_of (first ∷ second ∷ more) = e.And (first ∷ second ∷ more)

-- what the word compares
unfoldable pub cmp_of : List Spot → Option Cmp
cmp_of spots =
    if sees_word (codes "eq") spots then Some Eq
    else (if sees_word (codes "ne") spots then Some Ne
    else (if sees_word (codes "lt") spots then Some Lt
    else (if sees_word (codes "gt") spots then Some Gt
    else (if sees_word (codes "le") spots then Some Le
    else (if sees_word (codes "ge") spots then Some Ge
    else None)))))

-- operators aren't supported where a word compares
abbrev pub no_cmp : Parser Cmp
no_cmp spots = if next_is is_operator spots then Err (fault_at Unsupported spots)
    else Err (fault_at Unexpected spots)

abbrev pub cmp_behind : Option Cmp → Parser Cmp
cmp_behind (Some cmp) spots = Ok (cmp, behind spots)
cmp_behind None spots = no_cmp spots

unfoldable pub comparison : Parser Cmp
comparison spots = cmp_behind (cmp_of spots) spots

unfoldable pub compare : Parser RawExpr
compare spots = do
  left ← value Text spots
  cmp ← comparison left.1
  right ← value Text cmp.1
  Ok (e.Compare left.0 cmp.0 right.0, right.1)

-- a word that stands between terms or before one
unfoldable pub is_reserved : List Spot → Bool
is_reserved spots = sees_word (codes "and") spots || sees_word (codes "or") spots
    || sees_word (codes "not") spots

unfoldable pub filtered : Parser RawExpr
filtered spots = do
  call ← filter_call spots
  Ok (e.Call call.0, call.1)

module _ (group : Parser RawExpr) where
  unfoldable pub primary : Parser RawExpr
  primary spots =
      if sees 40 spots then group spots
      else (if next_is is_string spots then compare spots
      else (if is_reserved spots then Err (fault_at Unexpected spots)
      else filtered spots))

  unfoldable pub negation : Parser RawExpr
  negation spots =
      if sees_word (codes "not") spots then (do
        x ← primary (behind spots)
        Ok (e.Not x.0, x.1)) else primary spots

  unfoldable pub conjunction : Parser RawExpr
  conjunction spots = do
    found ← chain negation (codes "and") spots
    Ok (and_of found.0, found.1)

  unfoldable pub disjunction : Parser RawExpr
  disjunction spots = do
    found ← chain conjunction (codes "or") spots
    Ok (or_of found.0, found.1)

  -- an expression in parentheses
  unfoldable pub grouped : Parser RawExpr
  grouped spots = do
    opened ← symbol 40 spots
    x ← disjunction opened.1
    closed ← symbol 41 x.1
    Ok (x.0, closed.1)

-- the same, where groups may be nested so deep
unfoldable pub group : ℕ → Parser RawExpr
group zero spots = Err (fault_at DepthOver64 spots)
group (suc depth) spots = grouped (group depth) spots

-- an expression
unfoldable pub expr : ℕ → Parser RawExpr
expr depth spots = disjunction (group depth) spots
