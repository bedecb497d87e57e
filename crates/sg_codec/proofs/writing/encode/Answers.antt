use Rattle.std.proofs.Common.{◌≡◌, length, ap, arith}
use Rattle.sg_codec.specs.Spelling.{spelling2}
use Rattle.sg_msg.proofs.LengthLemmas.{tag_count-bound, pair_count-bound}
use Rattle.sg_codec.proofs.WriteLemmas.{texts_fit, values_fit, joined, length-spelling}
use Rattle.sg_codec.proofs.writing.encode.Goals as goal

-- what was written is the spelling
spelled : (c : goal.In_ok-put_pairs) → c.put_pairs.new.out.items ≡ spelling2 c.args.kept.now
spelled c =
    joined c.in_ok-out.out.items c.push.new.self.items c.put_head.new.out.items c.put_stamp.new.out.items c.put_u32.new.out.items c.put_tags.new.out.items c.put_u32-2.new.out.items c.put_pairs.new.out.items _ _ _ _ _ _
    c.in_ok-out.ensures.items c.in_ok-push.ensures.items c.in_ok-put_head.ensures.written (rw c.received.ensures at c.in_ok-put_stamp.ensures) (rw c.tag_count.ensures at c.in_ok-put_u32.ensures) c.in_ok-put_tags.ensures (rw c.pair_count.ensures at c.in_ok-put_u32-2.ensures) c.in_ok-put_pairs.ensures

pub tag_count-requires : goal.tag_count-requires
tag_count-requires c = omega (arith, tag_count-bound c.args.kept.now.message.tags, c.requires.len)

pub put_tags-requires-clause-texts : goal.put_tags-requires-clause-texts
put_tags-requires-clause-texts c = texts_fit c.args.kept.now.message.tags (omega (arith, c.requires.len))

pub pair_count-requires : goal.pair_count-requires
pair_count-requires c = omega (arith, pair_count-bound c.args.kept.now.message.pairs, c.requires.len)

pub put_pairs-requires-clause-names : goal.put_pairs-requires-clause-names
put_pairs-requires-clause-names c = c.in_ok-put_head.ensures.message.names

pub put_pairs-requires-clause-values : goal.put_pairs-requires-clause-values
put_pairs-requires-clause-values c = values_fit c.args.kept.now.message.pairs (omega (arith, c.requires.len))

pub returns-clause-spelling : goal.returns-clause-spelling
returns-clause-spelling c =
    let message = c.args.kept.now.message in
    record {
      fits = record {
        source = c.in_ok-put_head.ensures.source;
        end = c.requires.end;
        message = c.in_ok-put_head.ensures.message;
        tag_count = omega (arith, tag_count-bound message.tags, c.requires.len);
        tags = texts_fit message.tags (omega (arith, c.requires.len));
        pair_count = omega (arith, pair_count-bound message.pairs, c.requires.len);
        values = values_fit message.pairs (omega (arith, c.requires.len));
      };
      spelled = spelled c;
    }

pub returns-clause-len : goal.returns-clause-len
returns-clause-len c =
    let all = ap length (spelled c) in
    omega (arith, all, length-spelling c.args.kept.now, c.put_pairs.new.out.ok)
