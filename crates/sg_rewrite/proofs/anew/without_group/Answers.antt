use Rattle.std.proofs.Common.{ap, ◌∙◌}
use Rattle.sg_msg.specs.Build.{Build}
use Rattle.sg_rewrite.specs.Rewritten.{unpicked}
use Rattle.sg_rewrite.proofs.Unpicked.{made-anew}
use Rattle.sg_rewrite.proofs.anew.without_group.Goals as goal

pub returns : goal.returns
returns c =
    let globs = c.args.globs.now in
    let content = c.args.message.now in
    c.in_ok-message.ensures
    ∙ made-anew globs content c.keep_tags.new.builder c.pri-pri.ensures.whole.ascending
    (c.in_ok-keep_tags.ensures
    ∙ ap (λ (b : Build). record b { tags = content.tags })
    (c.in_ok-keep_pairs.ensures ∙ ap (λ (b : Build). record b { put = unpicked globs content.pairs }) c.empty-builder.ensures))
