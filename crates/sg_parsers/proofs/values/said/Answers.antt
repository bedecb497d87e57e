use Rattle.std.proofs.Common.{◌≡◌, false, nat_eq, sym, ap, ◌∙◌}
use Rattle.std.specs.List.{list_any}
use Rattle.sg_parsers.proofs.ValueLemmas.{no_slash}
use Rattle.sg_parsers.proofs.values.said.Goals as goal

pub returns-then-not-contains : goal.returns-then-not-contains
returns-then-not-contains c =
    let test : list_any (λ b. nat_eq b 92) c.args.text ≡ false =
    ap (list_any (λ b. nat_eq b 92)) (sym c.as_slice.ensures) ∙ (sym c.contains.ensures.value ∙ c.if-not-contains.true) in
    sym (no_slash c.args.text test)
