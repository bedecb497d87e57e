use Rattle.std.proofs.Common.{ap, ◌+◌, arith, length, length-drop}
use Rattle.sg_parsers.specs.Fields.{field_len, field_count}
use Rattle.sg_parsers.proofs.RunLemmas.{tail, next-count, end-count}
use Rattle.sg_parsers.proofs.fields.field_count.Goals as goal

pub fields-preserved : goal.fields-preserved
fields-preserved c =
    let delimiters = c.args.delimiters.now in
    let rest = c.fields.rest.now in
    let len = c.fields.len in
    let behind = tail (len + 1) rest in
    record {
      counted = next-count delimiters rest _ len c.fields.count (1 + field_count delimiters c.args.text.now) c.fields.invariant.counted c.fields.invariant.first c.fields-test.true behind;
      first = c.field_len-len-in-fields.ensures.value;
      within = c.field_len-len-in-fields.ensures.within;
      most = omega (arith, c.fields.invariant.most, c.fields-test.true, ap length behind, length-drop (len + 1) rest);
    }

pub returns : goal.returns
returns c =
    end-count c.args.delimiters.now c.fields.rest.now c.fields.len c.fields.count (field_count c.args.delimiters.now c.args.text.now) c.fields.invariant.counted c.fields.invariant.first c.fields-test.false
