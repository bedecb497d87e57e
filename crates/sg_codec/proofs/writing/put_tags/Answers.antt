use Rattle.std.proofs.Common.{sym, arith}
use Rattle.sg_list.proofs.ListLemmas.{slice_get-below}
use Rattle.sg_codec.proofs.WriteLemmas.{tags_bytes-step, tags_bytes-end, texts-step, written-step, written-end}
use Rattle.sg_codec.proofs.writing.put_tags.Goals as goal

pub put_text-requires : goal.put_text-requires
put_text-requires c = (texts-step c.args.message.now.tags c.loop-tag.place c.in-Some.tag.now c.in-Some.ensures c.loop-tag.invariant.texts).0

pub loop-tag-smaller : goal.loop-tag-smaller
loop-tag-smaller c =
    let below = slice_get-below c.args.message.now.tags c.loop-tag.place c.in-Some.tag.now (sym c.in-Some.ensures) in
    omega arith

pub loop-tag-preserved : goal.loop-tag-preserved
loop-tag-preserved c =
    let below = slice_get-below c.args.message.now.tags c.loop-tag.place c.in-Some.tag.now (sym c.in-Some.ensures) in
    record {
      place = omega arith;
      written = written-step c.loop-tag.out.items _ c.put_text.new.out.items _ _ _ c.in_ok-put_text.ensures (tags_bytes-step c.args.message.now.tags c.loop-tag.place c.in-Some.tag.now c.in-Some.ensures) c.loop-tag.invariant.written;
      texts = (texts-step c.args.message.now.tags c.loop-tag.place c.in-Some.tag.now c.in-Some.ensures c.loop-tag.invariant.texts).1;
    }

pub returns : goal.returns
returns c = written-end c.loop-tag.out.items _ _ (tags_bytes-end c.args.message.now.tags c.loop-tag.place c.in_default.ensures) c.loop-tag.invariant.written
