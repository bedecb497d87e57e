use Rattle.std.proofs.Common.{◌≡◌, ◌<◌, ◌^◌, arith}
use Rattle.test_core.proofs.TestLemmas.{enter_push}
use Rattle.test_core.proofs.batches.add_record.Goals as goal

pub returns : goal.returns
returns c = record {
  each = rw c.in_ok-push.ensures.items (enter_push 2 c.args.records.now.items (record { end = c.from.result; offers = c.new.result }) c.requires.each (record {
    end = (let e = c.from.ensures in let f = c.ranges.end.fits in omega arith);
    few = rw c.new.ensures c.requires.few;
    dests = rw c.new.ensures c.requires.within;
  }));
}
