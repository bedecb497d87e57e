use Rattle.sg_table.proofs.Tries.{tries-made, tries-large}
use Rattle.sg_table.proofs.tried.try_next.Goals as goal

pub returns-in-Ok-clause-tries : goal.returns-in-Ok-clause-tries
returns-in-Ok-clause-tries g c = tries-made g.B.Machine.state g.B.Builder.build_step c.args.builder.now c.try_text.new.builder c.args.pattern.now c.args.large.now c.in-Ok.ensures.tries

pub returns-in-Err-TooLarge-clause-tries : goal.returns-in-Err-TooLarge-clause-tries
returns-in-Err-TooLarge-clause-tries g c =
    let why = rw c.in-Err-TooLarge.field-0-is at c.in-Err-TooLarge.ensures.tries in
    tries-large g.B.Machine.state g.B.Builder.build_step c.args.builder.now c.try_text.new.builder c.args.pattern.now c.args.large.now _ c.in-Err-TooLarge.line why.0 why.1 c.first_large.ensures
