use Rattle.std.proofs.Common.{◌≡◌, get_or, ap, sym, ◌∙◌, subst, Err}
use Rattle.std.proofs.lemmas.Result.{err_from_is_err_and}
use Rattle.sg_lex.specs.declared.token.Token.{Token}
use Rattle.sg_expand.proofs.Putting.{put-step, count-step, emits-stop}
use Rattle.sg_expand.proofs.total.put_all.Goals as goal

pub loop-token-preserved : goal.loop-token-preserved
loop-token-preserved c =
    let tokens = c.args.tokens.now in
    let place = c.loop-token.token-index in
    let token = c.in_ok-copy_token.field-0 in
    let is : token ≡ get_or tokens place token = subst (λ (t : Token). t ≡ get_or tokens place t) (sym c.in_ok-copy_token.ensures) c.token-item.is in
    record {
      counts = count-step c.args.total.now c.loop-token.total c.put.new.total tokens place token c.loop-token-test.true is c.loop-token.invariant.counts c.in_ok-put.ensures.0;
      puts = put-step tokens place token c.args.out.now c.loop-token.out c.put.new.out c.loop-token-test.true is c.loop-token.invariant.puts c.in_ok-put.ensures.1;
    }

pub returns-in_err-put : goal.returns-in_err-put
returns-in_err-put c =
    let tokens = c.args.tokens.now in
    let place = c.loop-token.token-index in
    let token = c.in_ok-copy_token.field-0 in
    let result = c.from_residual-in_err-put.result in
    let is : token ≡ get_or tokens place token = subst (λ (t : Token). t ≡ get_or tokens place t) (sym c.in_ok-copy_token.ensures) c.token-item.is in
    let p = err_from_is_err_and result c.from_residual-in_err-put.ensures.1 in
    emits-stop tokens place token c.args.out.now c.loop-token.out c.put.new.out c.args.total.now c.loop-token.total c.put.new.total c.in_err-put.field-0.0 result (p.1 ∙ ap Err p.2) c.loop-token-test.true is c.loop-token.invariant.counts c.in_err-put.ensures
