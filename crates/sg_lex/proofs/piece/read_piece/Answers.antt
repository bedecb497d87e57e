use Rattle.std.proofs.Common.{◌≡◌, ◌<◌, take, get_or, IfOk, arith, ap, ◌∙◌, subst}
use Rattle.sg_lex.specs.declared.piece.Lexeme.{Lexeme}
use Rattle.sg_lex.specs.declared.piece.Lexeme.TheVariants.{Spelled}
use Rattle.sg_lex.specs.declared.token.TokenKind.TheVariants.{Word}
use Rattle.sg_lex.specs.Tokens.{word_length, mark}
use Rattle.sg_lex.proofs.Words.{tail, piece-word, piece-mark}
use Rattle.sg_lex.proofs.piece.read_piece.Goals as goal

pub returns-then-length-gt0-clause-value : goal.returns-then-length-gt0-clause-value
returns-then-length-gt0-clause-value c =
    let text = c.args.text.now in
    let some : 0 < word_length c.args.before text = omega (arith, c.word_length-length.ensures.value) in
    ap (λ word. Spelled Word word c.word_length-length.result) c.in_ok-word.ensures
    ∙ ap (λ n. Spelled Word (take n text) n) c.word_length-length.ensures.value
    ∙ piece-word c.args.before text some

pub returns-clause-value : goal.returns-clause-value
returns-clause-value c =
    let text = c.args.text.now in
    let none : word_length c.args.before text ≡ 0 = omega (arith, c.word_length-length.ensures.value) in
    subst (λ (p : Lexeme). IfOk c.mark.result (λ found. found ≡ p)) (ap (mark (get_or text 0 0)) (tail 1 text) ∙ piece-mark c.args.before text (omega arith) none) c.mark.ensures.value
