-- What the frames that wait come to.
use Rattle.std.specs.Prelude.{◌≡◌, ℕ, ◌+◌, ◌<◌, List, [], ◌∷◌, ◌++◌, map, length}
use Rattle.std.specs.List.{AllByRecursion}
use Rattle.sg_pattern.specs.declared.text.PatternText.{PatternText}
use Rattle.sg_filter.specs.declared.expr.Expr.{Expr}
use Rattle.sg_filter.specs.declared.node.Node.{Node}
use Rattle.sg_filter.specs.declared.work.CompileFrame.{CompileFrame}
use Rattle.sg_filter.specs.declared.work.CompileFrame.TheVariants as frame
use Rattle.sg_filter.specs.declared.work.CompileWork.{CompileWork}
use Rattle.sg_filter.specs.Decisions.{Decision, forks, all_fork, any_fork, decision_of}
use Rattle.sg_filter.specs.Patterns.{joined, patterns_within, patterns_of, AreValid}
use Rattle.sg_filter.specs.Table.{decision_at, IsNodeTable}

module _ (named : List Expr) where
  -- what a frame makes of what was made last
  abbrev pub does : List Node → CompileFrame → Decision → Decision
  does nodes (frame.One expr depth pass fail) last =
      forks depth named expr.now (decision_at nodes pass) (decision_at nodes fail)
  does nodes (frame.All terms depth fail) last =
      all_fork (map (forks depth named) terms.now) last (decision_at nodes fail)
  does nodes (frame.Any terms depth pass) last =
      any_fork (map (forks depth named) terms.now) (decision_at nodes pass) last

  -- the frames that wait, the first to be done last
  abbrev pub run : List Node → List CompileFrame → Decision → Decision
  run nodes [] last = last
  run nodes (one ∷ more) last = does nodes one (run nodes more last)

  abbrev pub frame_patterns : CompileFrame → List PatternText
  frame_patterns (frame.One expr depth pass fail) = patterns_within depth named expr.now
  frame_patterns (frame.All terms depth fail) = joined (map (patterns_within depth named) terms.now)
  frame_patterns (frame.Any terms depth pass) = joined (map (patterns_within depth named) terms.now)

  abbrev pub waiting_patterns : List CompileFrame → List PatternText
  waiting_patterns frames = joined (map frame_patterns frames)

abbrev pub IsIn : ℕ → CompileFrame → Type 0
IsIn n (frame.One expr depth pass fail) = (pass < n) × (fail < n)
IsIn n (frame.All terms depth fail) = fail < n
IsIn n (frame.Any terms depth pass) = pass < n

abbrev pub AreIn : ℕ → List CompileFrame → Type 0
AreIn n = AllByRecursion (IsIn n)

-- more nodes stand behind the old ones
pub record NodesGrow (old new : List Node) : Type 0 where
  pub more : List Node
  pub is : new ≡ old ++ more
  pub in_order : IsNodeTable old → IsNodeTable new

-- the work came to frames that make this of what was made last, and has made matchers of the patterns that don't wait
pub record ComesToNodes (named : List Expr) (made : Decision) (patterns : List PatternText)
    (here : Type 0) (old new : CompileWork) : Type 0 where
  pub grows : here → NodesGrow old.nodes.items new.nodes.items
  pub more : List CompileFrame
  pub frames : new.frames.items ≡ old.frames.items ++ more
  pub inside : here
      → AreIn (length new.nodes.items + 2) more × (new.last < length new.nodes.items + 2)
  pub means : here → run named new.nodes.items more (decision_at new.nodes.items new.last) ≡ made
  pub done : List PatternText
  pub is : patterns ≡ waiting_patterns named more ++ done
  pub valid : AreValid done

-- what one frame comes to, where its places and that of what was made last stand in the table
abbrev pub TurnsFrame : List Expr → CompileFrame → CompileWork → CompileWork → Type 0
TurnsFrame named one old new =
    ComesToNodes named (does named old.nodes.items one (decision_at old.nodes.items old.last))
    (frame_patterns named one)
    (IsIn (length old.nodes.items + 2) one × (old.last < length old.nodes.items + 2)) old new

-- the work is on its way to what an expression comes to
pub record WorkLeads (named : List Expr) (expr : Expr) (work : CompileWork) : Type 0 where
  pub table : IsNodeTable work.nodes.items
  pub inside : AreIn (length work.nodes.items + 2) work.frames.items
  pub within : work.last < length work.nodes.items + 2
  pub means : run named work.nodes.items work.frames.items (decision_at work.nodes.items work.last)
      ≡ decision_of named expr
  pub done : List PatternText
  pub is : patterns_of named expr ≡ waiting_patterns named work.frames.items ++ done
  pub valid : AreValid done
