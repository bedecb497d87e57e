use Rattle.std.proofs.Common.{◌≡◌, ℕ, ℤ, List, ap, ◌∙◌, subst, to_z, of_z, w64, arith}
use Rattle.std.proofs.lemmas.Int.{ints}
use Rattle.sg_tree.specs.Readings.{ReadsByFormat, with_tags}
use Rattle.sg_tree.proofs.Lines.{line-stays}
use Rattle.sg_tree.proofs.reading.read_item.Goals as goal

pub returns-clause-reading : goal.returns-clause-reading
returns-clause-reading c =
    let m = c.in_ok-message.message in
    let same : to_z w64 (of_z w64 c.args.at) ≡ c.args.at = omega (arith, ints, c.requires.0, c.requires.1) in (
      m,
      (
        subst (λ (x : ℤ). ReadsByFormat c.args.rule.now.rfc5424 c.args.item x c.args.peer.now c.args.rule.now.opts m) same c.in_ok-message.ensures,
        c.in_ok-set_tags.ensures ∙ ap (λ (ts : List (List ℕ)). with_tags ts c.put_message.new.message) c.deref.ensures.value
            ∙ ap (with_tags c.args.rule.now.tags.items) c.in_ok-put_message.ensures.whole,
      ),
    )

pub returns-clause-line : goal.returns-clause-line
returns-clause-line c =
    line-stays c.args.rule.now.one_line c.deref.result.now c.put_message.new.message c.set_tags.new.message c.in_ok-set_tags.ensures c.in_ok-put_message.ensures.line
