use Rattle.std.proofs.Common.{◌≡◌, ◌++◌, true, drop, option_to_list}
use Rattle.sg_hint.specs.Expansions.{columns_from}
use Rattle.sg_hint.proofs.stopped.only_column.Given as goal

abbrev pub invariant-loop-token : goal.invariant-loop-token
invariant-loop-token l = columns_from l.fault true l.tokens
    ≡ option_to_list l.found ++ columns_from l.fault l.first (drop l.token-index l.tokens)
