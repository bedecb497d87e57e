use Rattle.std.proofs.Common.{◌≡◌, ◌∙◌, sym, true, false, Ok, Err}
use Rattle.sg_parse_obj.specs.Objects.{spots_at}
use Rattle.sg_parse_obj.specs.declared.whole.ParseRefusal.TheVariants.{Bad}
use Rattle.sg_parse_text.proofs.Reading.{read-ends, read-text, read-semicolon, read-statement, read-refused, read-past, no-text, whole-is}
use Rattle.sg_parse_text.proofs.text.statements.Goals as goal

pub returns-then-is_end-clause-found : goal.returns-then-is_end-clause-found
returns-then-is_end-clause-found c = read-text c.args.tokens.now c.loop-turn._turn c.loop-turn.at _ (sym c.is_end.ensures.ends ∙ c.if-is_end.true) c.loop-turn.invariant

pub returns-then-is_end-clause-exact : goal.returns-then-is_end-clause-exact
returns-then-is_end-clause-exact c = read-ends c.args.tokens.now c.loop-turn._turn c.loop-turn.at _ (sym c.is_end.ensures.ends ∙ c.if-is_end.true) c.loop-turn.invariant

pub loop-turn-preserved-then-sees_symbol : goal.loop-turn-preserved-then-sees_symbol
loop-turn-preserved-then-sees_symbol c =
    read-semicolon c.args.tokens.now c.loop-turn._turn c.loop-turn.at _ c.loop-turn-test.true c.if-is_end.ensures.within (sym c.is_end.ensures.ends ∙ c.if-is_end.false) (sym c.sees_symbol.ensures.seen ∙ c.if-sees_symbol.true) c.loop-turn.invariant

pub returns-in-Err-clause-exact : goal.returns-in-Err-clause-exact
returns-in-Err-clause-exact c =
    read-refused c.args.tokens.now c.loop-turn._turn c.loop-turn.at _ _ c.loop-turn-test.true (sym c.is_end.ensures.ends ∙ c.if-is_end.false) (sym c.sees_symbol.ensures.seen ∙ c.if-sees_symbol.false) c.in-Err.ensures c.loop-turn.invariant

pub returns-in-Err-clause-none : goal.returns-in-Err-clause-none
returns-in-Err-clause-none c =
    no-text c.args.tokens.now (Err _)
    (read-refused c.args.tokens.now c.loop-turn._turn c.loop-turn.at _ _ c.loop-turn-test.true (sym c.is_end.ensures.ends ∙ c.if-is_end.false) (sym c.sees_symbol.ensures.seen ∙ c.if-sees_symbol.false) c.in-Err.ensures c.loop-turn.invariant)

pub loop-turn-preserved : goal.loop-turn-preserved
loop-turn-preserved c =
    read-statement c.args.tokens.now c.loop-turn._turn c.loop-turn.at c.in-Ok.next c.in-Ok.statement c.loop-turn.found c.push.new.self c.loop-turn-test.true (sym c.is_end.ensures.ends ∙ c.if-is_end.false) (sym c.sees_symbol.ensures.seen ∙ c.if-sees_symbol.false) c.in-Ok.ensures c.in-Ok-push.ensures.ok c.loop-turn.invariant

pub returns-then-is_end-2-clause-found : goal.returns-then-is_end-2-clause-found
returns-then-is_end-2-clause-found c = read-text c.args.tokens.now c.loop-turn._turn c.loop-turn.at _ (sym c.is_end-2.ensures.ends ∙ c.if-is_end-2.true) c.loop-turn.invariant

pub returns-then-is_end-2-clause-exact : goal.returns-then-is_end-2-clause-exact
returns-then-is_end-2-clause-exact c = read-ends c.args.tokens.now c.loop-turn._turn c.loop-turn.at _ (sym c.is_end-2.ensures.ends ∙ c.if-is_end-2.true) c.loop-turn.invariant

pub returns-clause-exact : goal.returns-clause-exact
returns-clause-exact c = read-past c.args.tokens.now c.loop-turn._turn c.loop-turn.at _ _ c.loop-turn-test.false (sym c.is_end-2.ensures.ends ∙ c.if-is_end-2.false) c.unexpected.ensures c.loop-turn.invariant

pub returns-clause-none : goal.returns-clause-none
returns-clause-none c =
    no-text c.args.tokens.now (Err (Bad _))
    (read-past c.args.tokens.now c.loop-turn._turn c.loop-turn.at _ _ c.loop-turn-test.false (sym c.is_end-2.ensures.ends ∙ c.if-is_end-2.false) c.unexpected.ensures c.loop-turn.invariant)
