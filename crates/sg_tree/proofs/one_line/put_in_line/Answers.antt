use Rattle.std.proofs.Common.{◌≡◌, ℕ, false, true, codes, List, Option, Some, sym, ◌∙◌, subst, arith}
use Rattle.std.specs.List.{list_any}
use Rattle.sg_msg.specs.Message.{IsPairName, value_of}
use Rattle.sg_tree.specs.Readings.{ends_line, IsLine}
use Rattle.sg_tree.proofs.Lines.{message-soft, no-lines}
use Rattle.sg_tree.proofs.one_line.put_in_line.Goals as goal

pub put-requires : goal.put-requires
put-requires c = subst (λ (name : List ℕ). IsPairName name) (sym c.from_static.ensures) (omega arith, omega arith, message-soft)

pub returns-clause-line : goal.returns-clause-line
returns-clause-line c =
    let line = c.in_ok-line.line in
    let has : value_of (codes "MESSAGE") c.put-2.new.self.pairs ≡ Some line =
    subst (λ (name : List ℕ). value_of name c.put-2.new.self.pairs ≡ Some line) c.from_static.ensures c.in_ok-put.ensures.value in
    let is = c.in_ok-line.ensures.ok ∙ c.in_ok-without_lines.ensures in
    let plain : list_any ends_line line ≡ false = subst (λ (text : List ℕ). list_any ends_line text ≡ false) (sym is) (no-lines c.in-Some.text.now) in
    subst (λ (value : Option (List ℕ)). IsLine true value) (sym has) plain
