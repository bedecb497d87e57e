use Rattle.std.proofs.Common.{◌≡◌, ◌++◌, take, ap, ◌∙◌, arith, to_z, of_z, w16}
use Rattle.std.proofs.lemmas.Int.{ints}
use Rattle.sg_time.specs.Text.{iso_stamp_text, iso_local_text, offset_text}
use Rattle.sg_time.proofs.Texts.{iso_cut, on_ok-same}
use Rattle.sg_time.proofs.text.iso_text.Goals as goal

pub returns-clause-ok : goal.returns-clause-ok
unfolding iso_stamp_text
returns-clause-ok c =
    let cut = iso_cut c.local.result c.args.stamp.offset c.args.digits c.shown_len-shown.result c.iso_whole-whole.result c.requires.at_most_six c.shown_len-shown.ensures c.iso_whole-whole.ensures in
    let back : to_z w16 (of_z w16 c.args.stamp.offset) ≡ c.args.stamp.offset = omega (arith, ints) in
    on_ok-same c.append.result c.append.new.out.items c.args.out.now.items (take c.shown_len-shown.result c.iso_whole-whole.result ++ c.offset_bytes.result) (iso_stamp_text c.args.stamp c.args.digits) (ap (λ t. take c.shown_len-shown.result c.iso_whole-whole.result ++ t) (c.offset_bytes.ensures ∙ ap offset_text back) ∙ (cut ∙ ap (λ l. iso_local_text l c.args.stamp.offset c.args.digits) c.local.ensures.value)) c.append.ensures.ok
