-- The grammar of a configuration.
use Rattle.std.specs.Prelude.{List, [], ◌∷◌}
use Rattle.sg_parse_base.specs.declared.spot.Spot.{Spot}
use Rattle.sg_parse_base.specs.Grammar.{Stands, Symbol}
use Rattle.sg_parse_obj.specs.Objects.{depth_limit}
use Rattle.sg_parse_obj.specs.Grammar.{IsObject}
use Rattle.sg_parse_path.specs.Grammar.{IsLog}
use Rattle.sg_parse_text.specs.declared.statement.Statement.{Statement}
use Rattle.sg_parse_text.specs.declared.statement.Statement.TheVariants as statement

abbrev pub IsStatement : Stands Statement
IsStatement s (statement.Object object) r = IsObject depth_limit s object r
IsStatement s (statement.Log log) r = IsLog depth_limit s log r

-- config = { statement ";" }, with further semicolons anywhere
pub data IsConfigText : List Spot → List Statement → Type 0 where
  none : IsConfigText [] []
  extra : (s m : List Spot) (xs : List Statement) → Symbol 59 s m → IsConfigText m xs
      → IsConfigText s xs
  more : (s m n : List Spot) (x : Statement) (xs : List Statement) → IsStatement s x m
      → Symbol 59 m n → IsConfigText n xs → IsConfigText s (x ∷ xs)
