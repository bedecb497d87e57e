use Rattle.std.proofs.Common.{[]}
use Rattle.sg_msg.specs.Parts.{pairs_of}
use Rattle.sg_msg.proofs.ManyPairs.{ascending-all, names-all}
use Rattle.sg_msg.proofs.builder.MessageBuilder.message.Goals as goal

pub of-requires-2-clause-ascending : goal.of-requires-2-clause-ascending
of-requires-2-clause-ascending c =
    rw (c.in_ok-shared.ensures, c.new.ensures, c.in_ok-ordered.ensures.pairs) (ascending-all (pairs_of c.self.inside.texts c.self.inside.pairs.items) [] tt)

pub of-requires-2-clause-names : goal.of-requires-2-clause-names
of-requires-2-clause-names c =
    rw (c.in_ok-shared.ensures, c.new.ensures, c.in_ok-ordered.ensures.pairs) (names-all (pairs_of c.self.inside.texts c.self.inside.pairs.items) [] c.self.invariant.3 tt)
