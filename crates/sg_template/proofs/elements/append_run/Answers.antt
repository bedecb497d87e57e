use Rattle.std.proofs.Common.{ℕ, List, ◌++◌, ap, sym, ◌∙◌, arith}
use Rattle.std.proofs.lemmas.List.{nil_from_length}
use Rattle.sg_template.proofs.Runs.{run-all, run-more}
use Rattle.sg_template.proofs.elements.append_run.Goals as goal

pub returns-in-empty-clause-ok : goal.returns-in-empty-clause-ok
returns-in-empty-clause-ok c =
    run-all c.args.value.now c.args.out.now.items c.append.new.out.items c.plain_length.result c.plain_length.ensures.value
    (sym c.split_at.ensures.back ∙ nil_from_length c.split_at.result.1.now (omega arith)) (c.in_ok-append.ensures.ok ∙ ap (λ (t : List ℕ). c.args.out.now.items ++ t) c.split_at.ensures.front)

pub returns-in_ok-append-in-len1-up-clause-ok : goal.returns-in_ok-append-in-len1-up-clause-ok
returns-in_ok-append-in-len1-up-clause-ok c =
    run-more c.args.value.now c.args.out.now.items c.append.new.out.items c.append-in-len1-up.new.out.items c.split_at.result.1.now
    c.plain_length.result c.plain_length.ensures.value c.split_at.ensures.back (omega (arith, c.in-len1-up.len_at_least))
    (c.in_ok-append.ensures.ok ∙ ap (λ (t : List ℕ). c.args.out.now.items ++ t) c.split_at.ensures.front) c.in_ok-append-in-len1-up.ensures.ok
