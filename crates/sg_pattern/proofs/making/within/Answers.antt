use Rattle.std.proofs.Common.{◌∙◌}
use Rattle.sg_pattern.proofs.Built.{built, fits, refused}
use Rattle.sg_pattern.proofs.making.within.Goals as goal

pub returns-in-Ok-clause-matches : goal.returns-in-Ok-clause-matches
returns-in-Ok-clause-matches c =
    let o = c.options-builder.ensures in
    built c.args.unicode c.args.ignore_case c.args.text.now c.in-Ok.regex (c.in-Ok.ensures.source ∙ o.source) (c.in-Ok.ensures.config ∙ o.config) c.in-Ok.ensures.read

pub returns-in-Ok-clause-small : goal.returns-in-Ok-clause-small
returns-in-Ok-clause-small c = rw c.options-builder.ensures.limit at c.in-Ok.ensures.small

pub returns-in-Err-Syntax-clause-refused : goal.returns-in-Err-Syntax-clause-refused
returns-in-Err-Syntax-clause-refused c =
    let o = c.options-builder.ensures in
    let why = c.in-Err-Syntax.ensures.refused c.in-Err-Syntax.field-0-0 c.in-Err-Syntax.field-0-is in
    let kind = rw c.in-Err-Syntax.field-0-is at c.in-Err-Syntax.ensures.kind in
    refused c.args.unicode c.args.ignore_case c.args.text.now _ (rw (o.config, o.source) at why) kind

pub returns-in-Err-CompiledTooBig-clause-refused : goal.returns-in-Err-CompiledTooBig-clause-refused
returns-in-Err-CompiledTooBig-clause-refused c =
    let o = c.options-builder.ensures in
    let kind = rw c.in-Err-CompiledTooBig.field-0-is at c.in-Err-CompiledTooBig.ensures.kind in
    fits c.args.unicode c.args.ignore_case c.args.text.now (rw (o.config, o.source) at kind)

pub returns-in-Err-Internal-clause-refused : goal.returns-in-Err-Internal-clause-refused
returns-in-Err-Internal-clause-refused c =
    let o = c.options-builder.ensures in
    let kind = rw c.in-Err-Internal.field-0-is at c.in-Err-Internal.ensures.kind in
    fits c.args.unicode c.args.ignore_case c.args.text.now (rw (o.config, o.source) at kind)
