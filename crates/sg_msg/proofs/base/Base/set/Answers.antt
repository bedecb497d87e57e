use Rattle.std.proofs.Common.{ℕ, List, [], ap, sym, ◌∙◌, set}
use Rattle.std.proofs.lemmas.Result.{on_ok_weaker}
use Rattle.sg_msg.specs.Message.{NameValue}
use Rattle.sg_msg.proofs.PairPlaces.{with-at, with-gap}
use Rattle.sg_msg.proofs.base.Base.set.Goals as goal

-- the pair of the name has the new value
pub returns-in-Ok-clause-ok : goal.returns-in-Ok-clause-ok
returns-in-Ok-clause-ok c =
    let found = c.in-Ok.ensures.found in
    let some : NameValue = record { name = []; value = [] } in
    on_ok_weaker c.replace.result
    (λ e. e some ∙ ap (λ (n : List ℕ). set c.args.self.now c.in-Ok.place (record { name = n; value = c.args.value })) (found.has_name some) ∙ sym (with-at c.args.name.now c.args.value c.args.self.now c.in-Ok.place c.requires found))
    c.replace.ensures.ok

-- the pair stands in the gap
pub returns-in_ok-name-in-Err-clause-ok : goal.returns-in_ok-name-in-Err-clause-ok
returns-in_ok-name-in-Err-clause-ok c =
    on_ok_weaker c.insert.result
    (λ e. rw c.in_ok-name-in-Err.ensures at e ∙ sym (with-gap c.args.name.now c.args.value c.args.self.now c.in-Err.place c.in-Err.ensures.absent))
    c.insert.ensures.ok
