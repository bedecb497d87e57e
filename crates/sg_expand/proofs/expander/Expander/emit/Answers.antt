use Rattle.sg_expand.proofs.Emitting.{emits-text}
use Rattle.sg_expand.proofs.expander.Expander.emit.Goals as goal

pub returns : goal.returns
returns c =
    emits-text c.args.rest.context c.args.rest.tokens c.behind-2.result c.is_front_at-fresh.result c.is_tick_at.result c.in_ok-emit_text.field-0
    c.args.self.now c.emit_text.new.self c.go_on-2.new.self c.go_on-2.result
    c.is_tick_at.ensures c.if-is_tick_at.false c.is_front_at-fresh.ensures c.behind-2.ensures c.in_ok-emit_text.ensures c.go_on-2.ensures
