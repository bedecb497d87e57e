use Rattle.std.proofs.Common.{◌≡◌, ◌+◌, ℕ, List, [], ◌∷◌, ◌++◌, take, ap, sym, ◌∙◌, subst, arith}
use Rattle.std.proofs.lemmas.List.{take_more}
use Rattle.sg_lex.specs.declared.token.Token.{Token}
use Rattle.sg_block.specs.Values.{IsCapped, spaced}
use Rattle.sg_block.proofs.Replacing.{spaced-more}
use Rattle.sg_block.proofs.values.push_spaced.Goals as goal

pub loop-token-preserved : goal.loop-token-preserved
loop-token-preserved c = λ made h.
    let all = c.args.tokens.now in
    let i = c.loop-token.token-index in
    let t = c.token-item.result in
    let front = take i all in
    let grown : take (i + 1) all ≡ front ++ t ∷ [] = take_more all i t (omega arith) ∙ ap (λ (x : Token). front ++ x ∷ []) (sym c.token-item.is) in
    let before = c.in_ok-push_capped.ensures (made ++ spaced front) (c.loop-token.invariant made h) in
    let after = c.in_ok-push_capped-2.ensures (made ++ spaced front ++ 32 ∷ []) before in
    let texts : (made ++ spaced front ++ 32 ∷ []) ++ c.bytes.result.now ≡ made ++ spaced (take (i + 1) all) =
    ap (λ (b : List ℕ). (made ++ spaced front ++ 32 ∷ []) ++ b) c.bytes.ensures ∙ spaced-more front t made ∙ ap (λ (xs : List Token). made ++ spaced xs) (sym grown) in
    subst (λ (ys : List ℕ). IsCapped c.args.room ys c.push_capped-in-loop-token.new.whole.items) texts after
