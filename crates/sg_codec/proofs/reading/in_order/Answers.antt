use Rattle.std.proofs.Common.{List, ap, ◌∙◌}
use Rattle.sg_msg.specs.Message.{NameValue}
use Rattle.sg_msg.proofs.ManyPairs.{all-ascending}
use Rattle.sg_codec.specs.Answers.{content_of}
use Rattle.sg_codec.proofs.reading.in_order.Goals as goal

-- setting pairs that ascend gives them as they stand
pub returns : goal.returns
returns c = record {
  ok = c.in_ok-message.ensures ∙ ap (λ (pairs : List NameValue). record (content_of c.args.builder) { pairs = pairs }) (all-ascending c.args.builder.put c.requires);
  memory = tt;
}
