use Rattle.std.proofs.Common.{◌+◌, arith, sym, ◌∙◌}
use Rattle.sg_block.proofs.Lists.{got-at}
use Rattle.sg_block.proofs.Closing.{ends-neither, ends-closer, ends-opener}
use Rattle.sg_block.proofs.source.end_at.Goals as goal

pub returns-in-Neither : goal.returns-in-Neither
returns-in-Neither c =
    let xs = c.args.tokens.now in
    ends-neither xs c.args.place _ _ (got-at xs c.args.place _ c.requires.place c.index-tokens-place.is) (sym c.read_bracket.ensures ∙ c.in-Neither.is) (c.requires.behind.1 (c.args.place + 1) (omega arith) (omega (arith, c.requires.place)))

pub returns-in-Closes : goal.returns-in-Closes
returns-in-Closes c =
    let xs = c.args.tokens.now in
    ends-closer xs c.args.place _ _ (got-at xs c.args.place _ c.requires.place c.index-tokens-place.is) (sym c.read_bracket.ensures ∙ c.in-Closes.is)

pub returns-in-Opens : goal.returns-in-Opens
returns-in-Opens c =
    let xs = c.args.tokens.now in
    ends-opener xs c.args.ends.now c.args.place _ _ _ (got-at xs c.args.place _ c.requires.place c.index-tokens-place.is) (sym c.read_bracket.ensures ∙ c.in-Opens.is) c.requires.behind c.end_behind.ensures
