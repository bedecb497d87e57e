use Rattle.std.proofs.Common.{◌++◌, List, drop, ap, ◌∙◌}
use Rattle.sg_msg.specs.Message.{NameValue}
use Rattle.sg_parsers.proofs.PairLemmas.{pair-front, pair-rest}
use Rattle.sg_parsers.proofs.pairs.take_pair.Goals as goal

pub returns-clause-pairs : goal.returns-clause-pairs
returns-clause-pairs c =
    c.in_ok-push_named.ensures
    ∙ ap (λ (ps : List NameValue). c.args.pairs.now ++ ps)
    (pair-front c.args.kv.now c.args.text.now c.in_ok-key.key c.in_ok-name.name c.in_ok-value.value c.advance.new.self c.bytes-2.result.now c.bytes.result.now c.args.len
    c.bytes-2.ensures c.bytes.ensures c.requires.key c.requires.begins c.in_ok-key.ensures.front (c.advance.ensures ∙ ap (drop 1) c.in_ok-key.ensures.rest) c.in_ok-name.ensures c.in_ok-value.ensures.value)

pub returns-clause-rest : goal.returns-clause-rest
returns-clause-rest c =
    pair-rest c.args.kv.now c.args.text.now c.advance.new.self c.take_value.new.text c.bytes.result.now c.args.len
    c.bytes.ensures c.requires.key c.requires.begins (c.advance.ensures ∙ ap (drop 1) c.in_ok-key.ensures.rest) c.in_ok-value.ensures.rest
