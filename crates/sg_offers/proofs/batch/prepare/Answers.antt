use Rattle.std.proofs.Common.{◌∙◌, ap, arith, length, map, false}
use Rattle.sg_machine.specs.Verdicts.{claims_of}
use Rattle.sg_offers.specs.Payloads.{buffers_of, trial_in}
use Rattle.sg_offers.specs.Rooms.{seen_in}
use Rattle.sg_offers.proofs.ItemLemmas.{replicate-map}
use Rattle.sg_offers.proofs.ClaimLemmas.{within-from}
use Rattle.sg_offers.proofs.PayloadLemmas.{payloads-to, of-start, spelled-from, counted-given, length-payloads}
use Rattle.sg_offers.proofs.batch.prepare.Goals as goal

pub room_for-requires : goal.room_for-requires
room_for-requires c =
    let ks = seen_in c.args.sinks.now in
    let payloads = rw c.as_slice.ensures at c.in_ok-payloads.ensures.payloads in
    rw (c.deref.ensures.value, payloads) (payloads-to (length c.args.sinks.now) c.args.inlet (buffers_of ks) (map trial_in ks) (claims_of c.args.records.now) (within-from (length c.args.sinks.now) 0 c.args.records.now c.requires))

pub returns-clause-spelled : goal.returns-clause-spelled
returns-clause-spelled c = λ small.
    let ks = seen_in c.args.sinks.now in
    let payloads = rw c.as_slice.ensures at c.in_ok-payloads.ensures.payloads in
    let kept = rw c.as_slice.ensures at c.in_ok-payloads.ensures.kept in
    rw payloads (spelled-from c.args.inlet (buffers_of ks) (map trial_in ks) (claims_of c.args.records.now) small (of-start ks) kept)

pub returns-clause-fails : goal.returns-clause-fails
returns-clause-fails c = c.in_ok-fails.ensures.items_if_clones_equal (λ y e. e) ∙ replicate-map c.args.sinks.now c.len.result false c.len.ensures

pub returns-clause-ready : goal.returns-clause-ready
returns-clause-ready c =
    let ks = seen_in c.args.sinks.now in
    let payloads = rw c.as_slice.ensures at c.in_ok-payloads.ensures.payloads in
    let items = c.deref.ensures.value ∙ payloads in
    record {
      room = λ d sink e.
          let room = rw items at (c.in_ok-room_for.ensures.room d sink e) in
          rw (← counted-given d c.args.inlet (buffers_of ks) (map trial_in ks) (claims_of c.args.records.now)) room;
      no_verdict = c.in_ok-answers.ensures.no_verdict;
      none_begun = c.in_ok-answers.ensures.none_begun;
      verdicts = (let n = c.len-2.ensures in let m = ap length payloads in let k = length-payloads c.args.inlet (buffers_of ks) (map trial_in ks) (claims_of c.args.records.now) in let b = c.in_ok-answers.ensures.verdicts in omega arith);
      begun = c.in_ok-answers.ensures.begun;
    }
