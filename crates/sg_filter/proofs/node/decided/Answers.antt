use Rattle.std.proofs.Common.{ap, ◌∙◌, arith}
use Rattle.sg_filter.specs.Decisions.{decides}
use Rattle.sg_filter.specs.Table.{decision_at}
use Rattle.sg_filter.proofs.Tables.{step-below, step-same, answer-at}
use Rattle.sg_filter.proofs.node.decided.Goals as goal

pub asks-smaller : goal.asks-smaller
asks-smaller c =
    step-below c.args.nodes.now c.asks.nodes c.asks.at c.in_ok-at.at c.args.message.now c.requires c.asks.invariant.0 (omega (arith, c.asks-test.true)) c.in_ok-at.ensures.value

pub asks-preserved : goal.asks-preserved
asks-preserved c =
    let same = c.next_place.ensures.same in (
      same ∙ c.asks.invariant.0,
      ap (λ ns. decides (decision_at ns c.in_ok-at.at) c.args.message.now) same
          ∙ step-same c.args.nodes.now c.asks.nodes c.asks.at c.in_ok-at.at c.args.message.now c.requires c.asks.invariant.0 (omega (arith, c.asks-test.true)) c.in_ok-at.ensures.value
          ∙ c.asks.invariant.1,
    )

pub returns-clause-value : goal.returns-clause-value
returns-clause-value c = answer-at c.asks.nodes c.asks.at c.args.message.now (omega (arith, c.asks-test.false)) ∙ c.asks.invariant.1
