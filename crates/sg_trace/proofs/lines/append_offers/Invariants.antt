use Rattle.std.proofs.Common.{◌≡◌, ◌++◌, take}
use Rattle.sg_trace.specs.Rows.{offers_text}
use Rattle.sg_trace.proofs.lines.append_offers.Given as goal

abbrev pub invariant-loop-offer : goal.invariant-loop-offer
invariant-loop-offer l = l.text.items ≡ l.initial.text.items ++ offers_text l.targets l.number (take l.offer-index l.offers)
