-- Configurations that hold the same, and how much one holds.
use Rattle.std.specs.Prelude.{◌≡◌, ℕ, ◌≤◌, length, map, slice_get, Some}
use Rattle.sg_machine.specs.declared.setup.SourceSetup.{SourceSetup}
use Rattle.sg_machine.specs.declared.setup.DestSetup.{DestSetup}
use Rattle.sg_run_plan.specs.declared.inlet.InletPlan.{InletPlan}
use Rattle.sg_plan.specs.Limits.{NumbersStores, HasWindow, HasPlannedRoom, IsInlet, AreHeldWithin}
use Rattle.sg_table.specs.Patterns.{patterns_in}
use Rattle.sg_tree.specs.Laws.{TopsStayWithin}
use Rattle.sg_tree.specs.Offers.{woods_of}
use Rattle.sg_forest.specs.Statements.{line_of}
use Rattle.sg_forest.specs.Written.{written_of}
use Rattle.sg_config.specs.declared.config.Config.{Config}

-- all that is said of a configuration is the same: its log paths as they are meant, their patterns and lines, and the rest
pub record AreAlikeConfigs (a b : Config) : Type 0 where
  pub woods : woods_of a.forest ≡ woods_of b.forest
  pub patterns : patterns_in a.forest ≡ patterns_in b.forest
  pub lines : map line_of a.forest.paths.items ≡ map line_of b.forest.paths.items
  pub filters : a.forest.filters.items ≡ b.forest.filters.items
  pub rewrites : map written_of a.forest.rewrites.items ≡ map written_of b.forest.rewrites.items
  pub setup : a.setup ≡ b.setup
  pub inlets : a.inlets.items ≡ b.inlets.items
  pub outlets : a.outlets.items ≡ b.outlets.items
  pub stores : a.stores.items ≡ b.stores.items

pub record IsConfigWithin (config : Config) : Type 0 where
  pub inlets : length config.inlets.items ≤ 128
  pub outlets : length config.outlets.items ≤ 64
  pub stores : length config.stores.items ≤ 192
  pub inlet_setups : length config.setup.sources ≡ length config.inlets.items
  pub outlet_setups : length config.setup.dests ≡ length config.outlets.items
  pub numbers : NumbersStores config.setup.sources config.setup.dests (length config.stores.items)
  pub windows : (i : ℕ) (setup : SourceSetup) → slice_get config.setup.sources i ≡ Some setup
      → HasWindow setup
  pub rooms : (d : ℕ) (setup : DestSetup) → slice_get config.setup.dests d ≡ Some setup
      → HasPlannedRoom setup
  -- so many drivers of sources
  pub drivers : ℕ
  pub each : (i : ℕ) (inlet : InletPlan) → slice_get config.inlets.items i ≡ Some inlet
      → IsInlet drivers inlet
  pub held : AreHeldWithin config.outlets.items
  -- its log paths are those of its inlets and destinations
  pub readings : length (woods_of config.forest).inlets ≡ length config.inlets.items
  pub dests : (woods_of config.forest).dests ≡ length config.outlets.items
  pub paths : TopsStayWithin (woods_of config.forest).dests (woods_of config.forest).tops
