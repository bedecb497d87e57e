use Rattle.sg_filter.proofs.Turning.{only-more}
use Rattle.sg_table.specs.Patterns.{patterns_in}
use Rattle.sg_table.specs.declared.table.Table.{Table}
use Rattle.sg_table.proofs.Whole.{first-refused, first-tries, later-made, later-refused, later-tries, tried-valid}
use Rattle.sg_table.proofs.compiling.compile.Goals as goal

pub returns-in-Err-clause-refused : goal.returns-in-Err-clause-refused
returns-in-Err-clause-refused g c =
    first-refused g.B.Machine.state g.B.Builder.build_step c.args.builder.now c.try_forest.new.builder c.args.forest.now c.in-Err.refusal c.in-Err.ensures.tries

pub returns-in-Err-clause-tries : goal.returns-in-Err-clause-tries
returns-in-Err-clause-tries g c =
    first-tries g.B.Machine.state g.B.Builder.build_step Table c.args.builder.now c.try_forest.new.builder (patterns_in c.args.forest.now) c.in-Err.refusal c.in-Err.ensures.tries

pub returns-in-Err-made-clause-refused : goal.returns-in-Err-made-clause-refused
returns-in-Err-made-clause-refused g c =
    later-refused g.B.Machine.state g.B.Builder.build_step c.args.builder.now c.try_forest.new.builder c.made.new.builder c.args.forest.now c.in-Err-made.refusal
    c.in-Ok.ensures.tries c.in-Err-made.ensures.only c.in-Err-made.ensures.refused

pub returns-in-Err-made-clause-tries : goal.returns-in-Err-made-clause-tries
returns-in-Err-made-clause-tries g c =
    later-tries g.B.Machine.state g.B.Builder.build_step c.args.builder.now c.try_forest.new.builder c.made.new.builder c.args.forest.now Table c.in-Err-made.refusal
    c.in-Ok.ensures.tries c.in-Err-made.ensures.only c.in-Err-made.ensures.refused

pub returns-in-Err-made-clause-only : goal.returns-in-Err-made-clause-only
returns-in-Err-made-clause-only g c = only-more _ _ _ c.in-Ok.ensures.only c.in-Err-made.ensures.only

pub returns-in-Ok-made-clause-tries : goal.returns-in-Ok-made-clause-tries
returns-in-Ok-made-clause-tries g c =
    later-made g.B.Machine.state g.B.Builder.build_step c.args.builder.now c.try_forest.new.builder c.made.new.builder c.args.forest.now
    c.in-Ok.ensures.tries c.in-Ok-made.ensures.only c.in-Ok-made.ensures.stays

pub returns-in-Ok-made-clause-only : goal.returns-in-Ok-made-clause-only
returns-in-Ok-made-clause-only g c = only-more _ _ _ c.in-Ok.ensures.only c.in-Ok-made.ensures.only

pub returns-in-Ok-made-clause-valid : goal.returns-in-Ok-made-clause-valid
returns-in-Ok-made-clause-valid g c =
    tried-valid g.B.Machine.state g.B.Builder.build_step c.args.builder.now c.try_forest.new.builder c.made.new.builder c.args.forest.now c.in-Ok.ensures.tries.0
