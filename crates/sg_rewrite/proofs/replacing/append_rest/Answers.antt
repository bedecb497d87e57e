use Rattle.std.proofs.Common.{◌++◌, ℕ, List, ap, ◌∙◌, drop}
use Rattle.std.proofs.lemmas.List.{take_rest}
use Rattle.sg_rewrite.specs.Values.{cut}
use Rattle.sg_rewrite.proofs.Cuts.{cut_behind}
use Rattle.sg_rewrite.proofs.replacing.append_rest.Goals as goal

pub returns : goal.returns
returns c =
    let bytes = c.args.bytes.now in
    let old = c.args.value.now.items in
    cut_behind old (drop c.args.at bytes) c.append.new.value.items
    (λ rest. c.in_ok-append.ensures.behind rest ∙ ap (λ (b : List ℕ). cut (old ++ (b ++ rest))) (take_rest bytes c.args.at))
    c.in_ok-append.ensures.short
