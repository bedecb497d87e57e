-- Paths: what is read, or the first fault.
use Rattle.std.specs.Prelude.{ℕ, zero, suc, Bool, true, false, ◌&&◌, if◌then◌else◌, List, [], ◌∷◌, ◌++◌, length, codes, Option, Some, None, Ok, Err}
use Rattle.sg_lex.specs.declared.fault.ConfigKind.TheVariants.{Unexpected, Unsupported, DepthOver64}
use Rattle.sg_parse_base.specs.declared.fault.ParseFault.{ParseFault}
use Rattle.sg_parse_base.specs.declared.spot.Spot.{Spot}
use Rattle.sg_parse_base.specs.Input.{Parser, ◌>>=◌, behind, any, sees, sees_word, symbol, fault_at}
use Rattle.sg_parse_base.specs.Lists.{many, body, ending}
use Rattle.sg_parse_expr.specs.declared.tree.RawExpr.{RawExpr}
use Rattle.sg_parse_expr.specs.Expr.{expr}
use Rattle.sg_parse_path.specs.declared.tree.RawLog.{RawLog, roll-RawLog}
use Rattle.sg_parse_path.specs.declared.tree.RawElement.{RawElement}
use Rattle.sg_parse_path.specs.declared.tree.RawElement.TheVariants.{Junction, If}
use Rattle.sg_parse_path.specs.declared.tree.RawBranch.{RawBranch, roll-RawBranch}
use Rattle.sg_parse_path.specs.declared.path.Stage.{Stage}
use Rattle.sg_parse_path.specs.declared.path.Stage.TheVariants as stage
use Rattle.sg_parse_path.specs.declared.path.PathItem.{PathItem}
use Rattle.sg_parse_path.specs.declared.path.PathItem.TheVariants as piece
use Rattle.sg_parse_path.specs.declared.path.RawPath.{RawPath}
use Rattle.sg_parse_path.specs.declared.reference.ReferenceKind.{ReferenceKind}
use Rattle.sg_parse_path.specs.Flags.{flag}
use Rattle.sg_parse_path.specs.References.{referring, kind_of, mapped}

abbrev pub empty_path : RawPath
empty_path = record { elements = []; embedded = []; flags = [] }

-- a path and one thing more behind it
abbrev pub with_piece : RawPath → PathItem → RawPath
with_piece path (piece.Element x) =
    record { elements = path.elements ++ x ∷ []; embedded = path.embedded; flags = path.flags }
with_piece path (piece.Embedded x) =
    record { elements = path.elements; embedded = path.embedded ++ x ∷ []; flags = path.flags }
with_piece path (piece.Flags xs) =
    record { elements = path.elements; embedded = path.embedded; flags = xs }

-- what may stand behind a thing that may stand there
abbrev pub stage_behind : Stage → PathItem → Stage
stage_behind at (piece.Element x) = at
stage_behind at (piece.Embedded x) = stage.Embedded
stage_behind at (piece.Flags xs) = stage.Nothing

abbrev pub takes_elements : Stage → Bool
takes_elements stage.All = true
takes_elements stage.Branch = true
takes_elements stage.Embedded = false
takes_elements stage.Nothing = false

-- whether embedded statements and flags may stand there
abbrev pub takes_ends : Stage → Bool
takes_ends stage.All = true
takes_ends stage.Branch = false
takes_ends stage.Embedded = true
takes_ends stage.Nothing = false

unfoldable pub log_of : Spot → RawPath → RawLog
log_of word path = roll-RawLog
    (record { word = word; elements = path.elements; embedded = path.embedded; flags = path.flags })

unfoldable pub branch_of : RawExpr → RawPath → RawBranch
branch_of test path = roll-RawBranch (record { test = test; elements = path.elements })

-- "flags" "(" { NAME } ")"
unfoldable pub flags : Parser PathItem
flags spots = mapped (λ xs. piece.Flags xs) (many flag) (behind spots)

-- the rules, over what stands in braces inside
module _ (block : Stage → Parser RawPath) where
  -- the word and "{" path "}"
  unfoldable pub worded : List ℕ → Parser RawLog
  worded word spots =
      if sees_word word spots then (do
        spot ← any spots
        path ← block stage.All spot.1
        Ok (log_of spot.0 path.0, path.1)) else Err (fault_at Unexpected spots)

  abbrev pub channel : Parser RawLog
  channel spots = worded (codes "channel") spots

  unfoldable pub junction : Parser RawElement
  junction spots = mapped (λ xs. Junction xs) (body channel) (behind spots)

  unfoldable pub other : Parser (Option (List RawElement))
  other spots =
      if sees_word (codes "else") spots then (do
        path ← block stage.Branch (behind spots)
        Ok (Some path.0.elements, path.1)) else Ok (None, spots)

  unfoldable pub embedded : Parser PathItem
  embedded spots = mapped (λ x. piece.Embedded x) (worded (codes "log")) spots

-- the same, where groups of expressions may be nested so deep
module _ (depth : ℕ) (block : Stage → Parser RawPath) where
  -- the word, "(" expr ")" and "{" { element ";" } "}"
  unfoldable pub arm : Parser RawBranch
  arm spots =
      if sees 123 (behind spots) then Err (fault_at Unsupported spots) else (do
        opened ← symbol 40 (behind spots)
        x ← expr depth opened.1
        closed ← symbol 41 x.1
        path ← block stage.Branch closed.1
        Ok (branch_of x.0 path.0, path.1))

  unfoldable pub arms_from : ℕ → List RawBranch → Parser (List RawBranch)
  arms_from zero found spots = Ok (found, spots)
  arms_from (suc n) found spots =
      if sees_word (codes "elif") spots then (do
        x ← arm spots
        arms_from n (found ++ x.0 ∷ []) x.1) else Ok (found, spots)

  unfoldable pub arms : Parser (List RawBranch)
  arms spots = do
    x ← arm spots
    arms_from (length x.1) (x.0 ∷ []) x.1

  unfoldable pub conditional : Parser RawElement
  conditional spots = do
    branches ← arms spots
    rest ← other block branches.1
    Ok (If branches.0 rest.0, rest.1)

  abbrev pub structure : Parser RawElement
  structure spots =
      if sees_word (codes "junction") spots then junction block spots
      else (if sees_word (codes "if") spots then conditional spots
      else Err (fault_at Unexpected spots))

  abbrev pub element_by : Option ReferenceKind → Parser RawElement
  element_by (Some kind) spots = referring depth kind spots
  element_by None spots = structure spots

  unfoldable pub element : Parser RawElement
  element spots = element_by (kind_of spots) spots

  unfoldable pub one_piece : Stage → Parser PathItem
  one_piece at spots =
      if takes_ends at && sees_word (codes "log") spots then embedded block spots
      else (if takes_ends at && sees_word (codes "flags") spots then flags spots
      else (if takes_elements at then mapped (λ x. piece.Element x) element spots
      else Err (fault_at Unexpected spots)))

  -- up to the closing brace, each with a semicolon behind it that may miss at the last, and more semicolons anywhere
  unfoldable pub pieces_from : ℕ → Stage → RawPath → Parser RawPath
  pieces_from zero at found spots = Err (fault_at Unexpected spots)
  pieces_from (suc n) at found spots =
      if sees 125 spots then Ok (found, behind spots)
      else (if sees 59 spots then pieces_from n at found (behind spots) else (do
        x ← one_piece at spots
        next ← ending x.1
        pieces_from n (stage_behind at x.0) (with_piece found x.0) next.1))

  unfoldable pub pieces : Stage → Parser RawPath
  pieces at spots = pieces_from (length spots) at empty_path spots

  unfoldable pub braced : Stage → Parser RawPath
  braced at spots = do
    opened ← symbol 123 spots
    pieces at opened.1

unfoldable pub too_deep : List Spot → ParseFault
too_deep spots = if sees 123 spots then fault_at DepthOver64 spots else fault_at Unexpected spots

-- what stands in braces, where braces and groups may be nested so deep
unfoldable pub block : ℕ → Stage → Parser RawPath
block zero at spots = Err (too_deep spots)
block (suc depth) at spots = braced depth (block depth) at spots

-- a log statement
unfoldable pub log_in : ℕ → Parser RawLog
log_in depth spots = worded (block depth) (codes "log") spots
