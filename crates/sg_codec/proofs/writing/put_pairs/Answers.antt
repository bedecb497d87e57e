use Rattle.std.proofs.Common.{sym, arith}
use Rattle.sg_list.proofs.ListLemmas.{slice_get-below}
use Rattle.sg_codec.proofs.WriteLemmas.{pairs_bytes-step, pairs_bytes-end, names-step, values-step, written-steps, written-end}
use Rattle.sg_codec.proofs.writing.put_pairs.Goals as goal

pub put_text-requires : goal.put_text-requires
put_text-requires c =
    let short = (names-step c.args.message.now.pairs c.loop-name.place c.in-Some.name.now c.in-Some.value.now c.in-Some.ensures c.loop-name.invariant.names).0 in
    omega arith

pub put_text-requires-in-Some : goal.put_text-requires-in-Some
put_text-requires-in-Some c = (values-step c.args.message.now.pairs c.loop-name.place c.in-Some.name.now c.in-Some.value.now c.in-Some.ensures c.loop-name.invariant.values).0

pub loop-name-smaller : goal.loop-name-smaller
loop-name-smaller c =
    let below = slice_get-below c.args.message.now.pairs c.loop-name.place _ (sym c.in-Some.ensures) in
    omega arith

pub loop-name-preserved : goal.loop-name-preserved
loop-name-preserved c =
    let pairs = c.args.message.now.pairs in
    let at = c.loop-name.place in
    let name = c.in-Some.name.now in
    let value = c.in-Some.value.now in
    let below = slice_get-below pairs at _ (sym c.in-Some.ensures) in
    record {
      place = omega arith;
      written = written-steps c.loop-name.out.items _ c.put_text.new.out.items _ c.put_text-in-Some.new.out.items _ _ _ c.in_ok-put_text.ensures c.in_ok-put_text-2.ensures (pairs_bytes-step pairs at name value c.in-Some.ensures) c.loop-name.invariant.written;
      names = (names-step pairs at name value c.in-Some.ensures c.loop-name.invariant.names).1;
      values = (values-step pairs at name value c.in-Some.ensures c.loop-name.invariant.values).1;
    }

pub returns : goal.returns
returns c = written-end c.loop-name.out.items _ _ (pairs_bytes-end c.args.message.now.pairs c.loop-name.place c.in_default.ensures) c.loop-name.invariant.written
