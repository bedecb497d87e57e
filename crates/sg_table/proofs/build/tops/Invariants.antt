use Rattle.std.proofs.Common.{map, take}
use Rattle.sg_outside.specs.World.{OnlyBuilds}
use Rattle.sg_pattern.specs.Builds.{RefusesNone}
use Rattle.sg_filter.specs.Patterns.{AreValid}
use Rattle.sg_tree.specs.Offers.{top_view}
use Rattle.sg_table.specs.Compiled.{CompiledTops}
use Rattle.sg_table.specs.Patterns.{siblings_patterns}
use Rattle.sg_table.proofs.build.tops.Given as goal

abbrev pub invariant-loop-one : goal.invariant-loop-one
invariant-loop-one g l = record {
  compiled : CompiledTops l.initial.pipes.items l.pipes.items l.tops.items (map (top_view l.named) (take l.one-index l.paths));
  valid : AreValid (siblings_patterns l.named (take l.one-index l.paths));
  stays : RefusesNone (g.B.Machine.state l.initial.builder) (g.B.Machine.state l.builder);
  only : OnlyBuilds (g.B.Machine.state l.initial.builder) (g.B.Machine.state l.builder);
}
