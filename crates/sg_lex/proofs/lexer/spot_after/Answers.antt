use Rattle.std.proofs.Common.{get_or, arith, ◌∙◌, sym, ap}
use Rattle.sg_lex.specs.Tokens.{spot_behind}
use Rattle.sg_lex.proofs.Steps.{spot_after-more}
use Rattle.sg_lex.proofs.lexer.spot_after.Goals as goal

pub loop-byte-preserved : goal.loop-byte-preserved
loop-byte-preserved c =
    record {
      value = c.spot_behind-now.ensures.value ∙ ap (λ s. spot_behind s (get_or c.args.bytes.now c.loop-byte.byte-index 0)) c.loop-byte.invariant.value ∙ sym (spot_after-more c.args.spot c.args.bytes.now c.loop-byte.byte-index c.loop-byte-test.true);
      place = omega (arith, c.spot_behind-now.ensures.place);
      line = omega (arith, c.spot_behind-now.ensures.place, c.spot_behind-now.ensures.line);
      column = omega (arith, c.spot_behind-now.ensures.place, c.spot_behind-now.ensures.column);
    }
