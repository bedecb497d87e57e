-- What single pipes do.
use Rattle.std.specs.Prelude.{ℕ, Bool, true, false, List, [], ◌∷◌, Option, None, Some, slice_get, if◌then◌else◌}
use Rattle.sg_msg.specs.Message.{Content}
use Rattle.sg_filter.specs.Decisions.{decides}
use Rattle.sg_rewrite.specs.Rewritten.{rewritten}
use Rattle.sg_tree.specs.Rules.{passes}
use Rattle.sg_table.specs.declared.pipe.Pipe.{Pipe}
use Rattle.sg_table.specs.declared.pipe.Pipe.TheVariants as pipe
use Rattle.sg_table.specs.declared.pipe.Test.{Test}

-- only a filter stops a message
abbrev pub lets_pass : Pipe → Content → Bool
lets_pass (pipe.Filter decision next) m = decides decision m
lets_pass _ m = true

-- only a rewrite has a condition
abbrev pub is_met : Pipe → Content → Bool
is_met (pipe.Rewrite condition change next) m = passes condition m
is_met _ m = true

abbrev pub changed : Pipe → Content → Content
changed (pipe.Rewrite condition change next) m = rewritten change m
changed _ m = m

abbrev pub rewritten_at : Pipe → Content → Content
rewritten_at one m = if is_met one m then changed one m else m

-- where the branch of the first test that holds begins, else the other one
abbrev pub start_of : List Test → Option ℕ → Content → Option ℕ
start_of [] other m = other
start_of (test ∷ tests) other m =
    if decides test.filter m then Some test.start else start_of tests other m

abbrev pub start_at : Pipe → Option ℕ → Content → Option ℕ
start_at (pipe.If tests next_other next) other m = start_of tests.items other m
start_at _ other m = other

-- a list ends there
abbrev pub is_end : Option Pipe → Bool
is_end (Some pipe.End) = true
is_end _ = false

abbrev pub only_driver : List ℕ → Option ℕ
only_driver (driver ∷ []) = Some driver
only_driver _ = None

-- the driver of a delivery to it alone, with which a list ends
abbrev pub last_driver : List Pipe → Option Pipe → Option ℕ
last_driver pipes (Some (pipe.Deliver drivers next)) =
    if is_end (slice_get pipes next) then only_driver drivers.items else None
last_driver pipes _ = None
