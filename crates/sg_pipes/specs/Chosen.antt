-- The statements that an inlet's messages are offered to.
use Rattle.std.specs.Prelude.{ℕ, Bool, ◌||◌, ◌==◌, List, [], ◌∷◌, if◌then◌else◌}
use Rattle.std.specs.List.{list_any}
use Rattle.sg_table.specs.declared.pipe.Branch.{Branch}
use Rattle.sg_table.specs.declared.pipe.Top.{Top}

abbrev pub is_for : ℕ → Top → Bool
is_for inlet top = top.catchall || list_any (λ source. source == inlet) top.sources.items

abbrev pub branches_for : ℕ → List Top → List Branch
branches_for inlet [] = []
branches_for inlet (top ∷ tops) =
    if is_for inlet top then top.branch ∷ branches_for inlet tops else branches_for inlet tops
