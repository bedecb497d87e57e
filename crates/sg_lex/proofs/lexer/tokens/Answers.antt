use Rattle.std.proofs.lemmas.List.{length-drop, length-take-le}
use Rattle.std.proofs.Common.{◌≡◌, ◌+◌, ◌<◌, List, length, take, drop, ℕ, Ok, arith, ap, ◌∙◌, subst}
use Rattle.sg_lex.specs.declared.piece.Lexeme.{Lexeme}
use Rattle.sg_lex.specs.Tokens.{piece}
use Rattle.sg_lex.specs.Pieces.{IsLexemeWithin, TakesPiece, spot_after}
use Rattle.sg_lex.proofs.Words.{tail}
use Rattle.sg_lex.proofs.Steps.{within-length, taken-more}
use Rattle.sg_lex.proofs.lexer.tokens.Goals as goal

pub loop-spot-preserved : goal.loop-spot-preserved
loop-spot-preserved c =
    let text = c.args.text.now in
    let spot = c.loop-spot.spot in
    let rest = drop spot.place text in
    let whole = tail spot.place text in
    let found = c.in_ok-piece.ensures.value ∙ ap (piece spot.before) whole in
    let bound = subst (λ (p : Lexeme). IsLexemeWithin (length rest) p) found (subst (λ (bytes : List ℕ). IsLexemeWithin (length bytes) c.in_ok-piece.piece) whole c.in_ok-piece.ensures.bound) in
    let taken = subst (λ (p : Lexeme). TakesPiece c.args.file spot p c.loop-spot.tokens.items c.take_piece.new.tokens.items (Ok c.in_ok-count.count)) found c.in_ok-count.ensures in
    let ahead : 0 < length rest = omega (arith, length-drop spot.place text) in
    let within = within-length (piece spot.before rest) (length rest) ahead bound in
    let front = ap (take c.in_ok-count.count) whole in
    let counted : length (take c.in_ok-count.count rest) ≡ c.in_ok-count.count = length-take-le c.in_ok-count.count rest (omega (arith, within.1, taken.0)) in
    let place : c.spot_after-spot.result.place ≡ spot.place + c.in_ok-count.count = c.spot_after-spot.ensures.place ∙ ap (λ n. spot.place + n) (ap length front ∙ counted) in
    record {
      value = taken-more c.args.file spot c.spot_after-spot.result text c.in_ok-count.count c.loop-spot.tokens.items c.take_piece.new.tokens.items _ c.loop-spot-test.true bound taken (c.spot_after-spot.ensures.value ∙ ap (spot_after spot) front)
          place c.loop-spot.invariant.value;
      place = omega (arith, place, within.1, taken.0, length-drop spot.place text);
      line = c.spot_after-spot.ensures.line;
      column = c.spot_after-spot.ensures.column;
    }
