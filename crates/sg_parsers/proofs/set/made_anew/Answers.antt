use Rattle.std.proofs.Common.{◌++◌, ap, ◌∙◌}
use Rattle.sg_msg.specs.Build.{Build}
use Rattle.sg_parsers.proofs.Walks.{made-anew}
use Rattle.sg_parsers.proofs.set.made_anew.Goals as goal

pub returns : goal.returns
returns c =
    let content = c.args.message.now in
    c.in_ok-message.ensures
    ∙ made-anew content c.args.pairs.now c.keep_tags.new.builder c.pri-pri.ensures.whole.ascending
    (c.in_ok-keep_tags.ensures
    ∙ ap (λ (b : Build). record b { tags = content.tags })
    (c.in_ok-put_each.ensures
    ∙ ap (λ (b : Build). record b { put = b.put ++ c.args.pairs.now })
    (c.in_ok-keep_pairs.ensures ∙ ap (λ (b : Build). record b { put = content.pairs }) c.empty-builder.ensures)))
