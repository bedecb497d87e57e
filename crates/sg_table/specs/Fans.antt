-- What becomes of one message, in numbers that are cut behind 1,024.
use Rattle.std.specs.Prelude.{ℕ, min, List, map, Result, Ok, Err}
use Rattle.sg_filter.specs.declared.expr.Expr.{Expr}
use Rattle.sg_tree.specs.Bounds.{Reach, reach}
use Rattle.sg_tree.specs.Offers.{top_view}
use Rattle.sg_tree.specs.Walk.{Steps}
use Rattle.sg_tree.specs.declared.refusal.PathRefusal.{PathRefusal}
use Rattle.sg_tree.specs.declared.refusal.PathRefusal.TheVariants.{BadPattern, PatternTooLarge, TooManyOffers, NoMemory}
use Rattle.sg_tree.specs.declared.tree.Path.{Path}
use Rattle.sg_table.specs.declared.fan.Fan.{Fan}
use Rattle.sg_table.specs.Refused.{AreOffersBounded, IsFirstBeyond}

-- 1,025 stands for all greater numbers too
abbrev pub cut : ℕ → ℕ
cut n = min n 1025

abbrev pub cut_reach : Reach → Fan
cut_reach r = record { offers = cut r.offers; out = cut r.out; most = cut r.most }

abbrev pub fan : Steps → Fan
fan steps = cut_reach (reach steps 1)

-- the statements are within the bounds, or the one of that line is the first beyond them
abbrev pub ChecksBounds : List Expr → List Path → Result Unit PathRefusal → Type 0
ChecksBounds named paths (Ok done) = AreOffersBounded (map (top_view named) paths)
ChecksBounds named paths (Err (TooManyOffers line)) = IsFirstBeyond named paths line
ChecksBounds named paths (Err NoMemory) = Unit {0}
ChecksBounds named paths (Err (BadPattern line)) = ⊥
ChecksBounds named paths (Err (PatternTooLarge line)) = ⊥
