use Rattle.std.proofs.Common.{take, ap, ◌∙◌}
use Rattle.sg_time.specs.Text.{bsd_stamp_text, bsd_local_text}
use Rattle.sg_time.proofs.Texts.{bsd_cut, on_ok-appended}
use Rattle.sg_time.proofs.text.bsd_text.Goals as goal

pub returns-clause-ok : goal.returns-clause-ok
unfolding bsd_stamp_text
returns-clause-ok c =
    let cut = bsd_cut c.local.result c.args.digits c.shown_len-shown.result c.bsd_whole-whole.result c.local.ensures.shown.date.1 c.requires.at_most_six c.shown_len-shown.ensures c.bsd_whole-whole.ensures in
    on_ok-appended c.extend_from_slice.result c.extend_from_slice.new.self.items c.args.out.now.items (take c.shown_len-shown.result c.bsd_whole-whole.result) (bsd_stamp_text c.args.stamp c.args.digits) (cut ∙ ap (λ l. bsd_local_text l c.args.digits) c.local.ensures.value) c.extend_from_slice.ensures.items
