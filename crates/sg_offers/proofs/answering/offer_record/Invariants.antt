use Rattle.std.proofs.Common.{◌≡◌, ◌≤◌, ◌+◌, ◌++◌, length, drop, vec_capacity, deque_len}
use Rattle.sg_machine.specs.Verdicts.{claims_in}
use Rattle.sg_machine.specs.Turns.{owing}
use Rattle.sg_offers.specs.Rooms.{seen_in}
use Rattle.sg_offers.specs.Answering.{spent_after, verdicts_from}
use Rattle.sg_offers.proofs.SinkLemmas.{Along}
use Rattle.sg_offers.proofs.answering.offer_record.Given as goal

abbrev pub invariant-loop-offer : goal.invariant-loop-offer
invariant-loop-offer l =
    let all = claims_in l.place l.end l.fn.admission.offers in
    let verdicts = verdicts_from l.fails l.inlet l.next (seen_in l.fn.sinks) all in
    record {
      along : Along l.fails l.inlet l.next l.place l.end l.sinks l.rest.items l.payloads.items l.verdicts.items l.left (spent_after l.fails l.inlet l.next l.fn.sinks all) (l.fn.verdicts.items ++ verdicts)
          (owing l.fn.admission.offers verdicts) (drop (length l.fn.admission.offers) l.fn.payloads.items);
      count : l.left + length l.rest.items ≤ 1024;
      capacity : length l.verdicts.items + length l.rest.items ≤ vec_capacity l.verdicts;
      same : vec_capacity l.verdicts ≡ vec_capacity l.fn.verdicts;
    }

abbrev pub decreases-loop-offer : goal.decreases-loop-offer
decreases-loop-offer l = deque_len l.rest
