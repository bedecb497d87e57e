use Rattle.std.proofs.Common.{◌≡◌, ◌≤◌, ◌+◌, length, vec_capacity, deque_len}
use Rattle.sg_machine.specs.Verdicts.{claims_from}
use Rattle.sg_offers.specs.Rooms.{seen_in}
use Rattle.sg_offers.specs.Answering.{sinks_after, verdicts_from, begun_of}
use Rattle.sg_offers.proofs.BatchSteps.{Ahead}
use Rattle.sg_offers.proofs.answering.offer_all.Given as goal

abbrev pub invariant-loop-admission : goal.invariant-loop-admission
invariant-loop-admission l =
    let all = claims_from 0 l.fn.records.items in
    let verdicts = verdicts_from l.fails.items l.inlet l.next (seen_in l.fn.sinks) all in
    record {
      ahead : Ahead l.fails.items l.inlet l.next l.place l.sinks l.rest.items l.payloads.items l.answers.verdicts.items l.answers.begun.items (sinks_after l.fails.items l.inlet l.next (seen_in l.fn.sinks) all) verdicts
          (begun_of l.fn.records.items verdicts);
      place : l.place + length l.rest.items ≡ length l.fn.records.items;
      verdict_room : length l.answers.verdicts.items + length (claims_from l.place l.rest.items) ≤ vec_capacity l.answers.verdicts;
      begun_room : length l.answers.begun.items + length l.rest.items ≤ vec_capacity l.answers.begun;
    }

abbrev pub decreases-loop-admission : goal.decreases-loop-admission
decreases-loop-admission l = deque_len l.rest
