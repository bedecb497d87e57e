use Rattle.std.proofs.Common.{rules}
use Rattle.std.proofs.lemmas.Result.{on_ok_weaker}
use Rattle.std.proofs.lemmas.List.Sorted.{ranks_by, All-permutation}
use Rattle.std.proofs.lemmas.Fn.{always_returns_same}
use Rattle.std.specs.Cmp.Lexicographic.{nat_list_cmp_total}
use Rattle.sg_msg.specs.Parts.{name_in, IsPairIn}
use Rattle.sg_msg.specs.declared.pair.Pair.{Pair}
use Rattle.sg_msg.proofs.SortedParts.{before_in, sorted-in, stable-in}
use Rattle.sg_msg.proofs.sorting.sort.Goals as goal

pub returns-clause-sorted : goal.returns-clause-sorted
returns-clause-sorted c =
    let texts = c.args.texts.now in
    on_ok_weaker c.sort_by.result
    (λ sorted. sorted-in texts.item texts.own.items _ (sorted (before_in texts.item texts.own.items) (ranks_by nat_list_cmp_total (λ (pair : Pair). name_in texts.own.items pair.name)) (always_returns_same _ _ _ (λ a r f k. search rules))))
    c.sort_by.ensures.sorted

pub returns-clause-stable : goal.returns-clause-stable
returns-clause-stable c =
    let texts = c.args.texts.now in
    stable-in texts.item texts.own.items _ _ (c.sort_by.ensures.stable (before_in texts.item texts.own.items) (ranks_by nat_list_cmp_total (λ (pair : Pair). name_in texts.own.items pair.name)) (always_returns_same _ _ _ (λ a r f k. search rules)))

pub returns-clause-within : goal.returns-clause-within
returns-clause-within c within = All-permutation (IsPairIn c.args.texts.now.own.items) _ _ c.sort_by.ensures.permutation within
