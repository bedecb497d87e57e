use Rattle.std.proofs.Common.{rules}
use Rattle.std.proofs.lemmas.Fn.{always_returns_same}
use Rattle.sg_msg.specs.Message.{byte_order}
use Rattle.sg_msg.specs.Parts.{name_in}
use Rattle.sg_msg.specs.declared.pair.Pair.{Pair}
use Rattle.sg_msg.proofs.PartSearch.{searched-in}
use Rattle.sg_msg.proofs.base.halve.Goals as goal

pub returns-clause-found : goal.returns-clause-found
returns-clause-found c =
    let facts = c.binary_search_by.ensures in
    let texts = c.args.texts.now in
    let by_name = facts.position (λ (pair : Pair). byte_order (name_in texts.own.items pair.name) c.args.name.now) (always_returns_same _ _ _ (λ a r g called. (search rules, search rules))) in
    (searched-in texts.item texts.own.items c.args.name.now c.args.pairs.now c.requires c.binary_search_by.result facts.bound by_name).found

pub returns-clause-absent : goal.returns-clause-absent
returns-clause-absent c =
    let facts = c.binary_search_by.ensures in
    let texts = c.args.texts.now in
    let by_name = facts.position (λ (pair : Pair). byte_order (name_in texts.own.items pair.name) c.args.name.now) (always_returns_same _ _ _ (λ a r g called. (search rules, search rules))) in
    (searched-in texts.item texts.own.items c.args.name.now c.args.pairs.now c.requires c.binary_search_by.result facts.bound by_name).absent
