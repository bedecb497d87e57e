-- All statements: what is read, or the first fault.
use Rattle.std.specs.Prelude.{ℕ, zero, suc, Bool, true, false, if◌then◌else◌, List, [], ◌∷◌, ◌++◌, length, codes, Ok, Err}
use Rattle.sg_lex.specs.declared.fault.ConfigKind.TheVariants.{Unexpected}
use Rattle.sg_parse_base.specs.declared.spot.Spot.{Spot}
use Rattle.sg_parse_base.specs.Input.{ParseOutcome, Parser, ◌>>=◌, behind, sees, sees_word, symbol, fault_at}
use Rattle.sg_parse_obj.specs.Objects.{depth_limit, object_at}
use Rattle.sg_parse_path.specs.References.{mapped}
use Rattle.sg_parse_path.specs.Paths.{log_in}
use Rattle.sg_parse_text.specs.declared.statement.Statement.{Statement}
use Rattle.sg_parse_text.specs.declared.statement.Statement.TheVariants as statement

abbrev pub ends : List Spot → Bool
ends [] = true
ends (spot ∷ spots) = false

-- one statement, by its word
unfoldable pub statement_at : Parser Statement
statement_at spots =
    if sees_word (codes "log") spots then mapped (λ x. statement.Log x) (log_in depth_limit) spots
    else mapped (λ x. statement.Object x) object_at spots

-- with its semicolon
unfoldable pub ended_at : Parser Statement
ended_at spots = do
  x ← statement_at spots
  next ← symbol 59 x.1
  Ok (x.0, next.1)

-- up to the last token, with more semicolons anywhere
unfoldable pub text_from : ℕ → List Statement → Parser (List Statement)
text_from zero found spots = if ends spots then Ok (found, []) else Err (fault_at Unexpected spots)
text_from (suc n) found spots =
    if ends spots then Ok (found, [])
    else (if sees 59 spots then text_from n found (behind spots) else (do
      x ← ended_at spots
      text_from n (found ++ x.0 ∷ []) x.1))

unfoldable pub text_at : Parser (List Statement)
text_at spots = text_from (length spots) [] spots
