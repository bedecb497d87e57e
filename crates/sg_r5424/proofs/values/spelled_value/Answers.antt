use Rattle.std.proofs.Common.{◌≡◌, false, nat_eq, sym, ◌∙◌}
use Rattle.std.specs.List.{list_any}
use Rattle.sg_r5424.proofs.ValueLemmas.{no_slash}
use Rattle.sg_r5424.proofs.values.spelled_value.Goals as goal

pub returns-then-not-contains-clause-value : goal.returns-then-not-contains-clause-value
returns-then-not-contains-clause-value c = λ item is.
    let test : list_any (λ b. nat_eq b 92) c.args.text.now ≡ false = sym c.contains.ensures.value ∙ c.if-not-contains.true in
    is ∙ sym (no_slash c.args.text.now test)
