-- The decision that a table of checks stands for.
use Rattle.std.specs.Prelude.{ℕ, suc, ◌<◌, true, false, if◌then◌else◌, List, [], ◌∷◌, ◌++◌, slice_index_or, Option, None, Some}
use Rattle.sg_msg.specs.Message.{Content}
use Rattle.sg_filter.specs.Checks.{check_holds}
use Rattle.sg_filter.specs.declared.node.Node.{Node}
use Rattle.sg_filter.specs.Decisions.{Decision, answer, ask}

-- what stands at a place
abbrev pub place : List Decision → ℕ → Decision
place seen i = slice_index_or seen i (answer false)

abbrev pub node_means : (ℕ → Decision) → Node → Decision
node_means at node = ask node.check (at node.yes) (at node.no)

-- The table is read from its front: a node refers to those before it.
abbrev pub read : List Decision → List Node → List Decision
read seen [] = seen
read seen (node ∷ more) = read (seen ++ node_means (place seen) node ∷ []) more

-- the answers, which stand before the nodes
abbrev pub answers : List Decision
answers = answer false ∷ answer true ∷ []

abbrev pub decision_at : List Node → ℕ → Decision
decision_at nodes i = place (read answers nodes) i

abbrev pub AreNodesBelow : ℕ → List Node → Type 0
AreNodesBelow n [] = Unit {0}
AreNodesBelow n (node ∷ more) = (node.yes < n) × (node.no < n) × AreNodesBelow (suc n) more

-- each node refers to places below its own
unfoldable pub IsNodeTable : List Node → Type 0
IsNodeTable = AreNodesBelow 2

-- the place to go on at, behind the node that was found
abbrev pub next_of : Option Node → Content → ℕ
next_of None m = 0
next_of (Some node) m = if check_holds node.check m then node.yes else node.no
