use Rattle.std.proofs.Common.{[], ◌∷◌, subst, sym, arith}
use Rattle.std.proofs.lemmas.List.Elements.{All-append, All-pop}
use Rattle.sg_msg.specs.Parts.{IsPairIn, AreIn}
use Rattle.sg_msg.proofs.TextLemmas.{all-first, all-tail, all-with}
use Rattle.sg_msg.proofs.sorting.put_last.Goals.{then-ends_with_name, else-ends_with_name}
use Rattle.sg_msg.proofs.sorting.put_last.Goals as goal

pub returns-clause-within : goal.returns-clause-within
returns-clause-within c = λ all.
    let own = c.args.texts.now.own.items in
    let holds = IsPairIn own in
    let old = c.args.pairs.now.items in
    let tail = all-tail holds c.args.pair old all in
    let front : AreIn own c.if-ends_with_name.pairs.items = elim c.if-ends_with_name.branch [
      | then-ends_with_name w ↦ rw w.pairs-is (All-pop holds old w.pop.new.self.items w.pop.result w.pop.ensures.items tail).0
      | else-ends_with_name w ↦ rw w.pairs-is tail
    ] in
    subst (AreIn own) (sym c.in_ok-push.ensures.items)
    (All-append holds c.if-ends_with_name.pairs.items (c.args.pair ∷ []) front (all-with holds c.args.pair [] (all-first holds c.args.pair old all) (λ k d lt. absurd (omega (arith, lt)))))
