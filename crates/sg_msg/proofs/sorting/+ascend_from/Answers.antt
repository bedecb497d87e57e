use Rattle.std.proofs.Common.{◌≡◌, sym, subst, ◌∙◌, List, ◌∷◌, take, drop, get_or, length, ◌-◌}
use Rattle.std.specs.declared.cmp.Ordering.TheVariants.{Less}
use Rattle.sg_msg.specs.Message.{byte_order, IsAscending}
use Rattle.sg_msg.specs.Parts.{name_in, pair_of, pairs_of}
use Rattle.sg_msg.specs.declared.pair.Name.TheVariants.{Host}
use Rattle.sg_msg.specs.declared.pair.Text.TheVariants.{Part}
use Rattle.sg_msg.specs.declared.pair.Pair.{Pair}
use Rattle.sg_msg.proofs.OrderedPairs.{front-in, is-less, ascends-more}
use Rattle.sg_msg.proofs.sorting.+ascend_from.Goals as goal

-- the first is less than the second, and those from there on ascend
pub returns-then-eq : goal.returns-then-eq
returns-then-eq t c = λ yes.
    let texts = c.args.texts.now in
    let first = c.args.first in
    let pairs = c.args.pairs.now in
    let blank : Pair = record { name = Host; value = Part 0 0 } in
    let second = get_or pairs 0 blank in
    let rest = take (length pairs - 1) (drop 1 pairs) in
    let split = front-in pairs blank c.in-len1-up.len_at_least in
    let order = is-less c.order.result (sym c.eq.ensures ∙ c.if-eq.true) in
    let less : byte_order (name_in texts.own.items first.name) (name_in texts.own.items second.name) ≡ Less = sym c.order.ensures ∙ order in
    subst (λ (ps : List Pair). IsAscending (pairs_of texts (first ∷ ps))) (sym split)
    (ascends-more (pair_of texts first) (pair_of texts second) (pairs_of texts rest) less (c.ascend_from.ensures yes))
