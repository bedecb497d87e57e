use Rattle.std.proofs.Common.{ℕ, List, take, sym, ap, ◌∙◌}
use Rattle.sg_msg.specs.Message.{with_tag}
use Rattle.sg_msg.specs.Build.{Build}
use Rattle.sg_msg.proofs.TagWalks.{tag-next, tags-end}
use Rattle.sg_parsers.proofs.set.keep_tags.Goals as goal

pub loop-tag-preserved : goal.loop-tag-preserved
loop-tag-preserved c =
    let start = c.args.builder.now in
    let tags = c.args.message.now.tags in
    let place = c.loop-tag.place in
    let tag = c.in-Some.tag.now in
    c.in_ok-set_tag.ensures.ok
    ∙ ap (λ (b : Build). record b { tags = with_tag tag b.tags }) c.loop-tag.invariant
    ∙ ap (λ (ts : List (List ℕ)). record start { tags = ts }) (tag-next tags place tag c.pri-pri.ensures.whole.tags (sym c.in-Some.ensures))
    ∙ ap (λ (n : ℕ). record start { tags = take n tags }) (sym c.in_ok-place.ensures)

pub returns : goal.returns
returns c =
    c.loop-tag.invariant
    ∙ ap (λ (ts : List (List ℕ)). record c.args.builder.now { tags = ts }) (tags-end c.args.message.now.tags c.loop-tag.place (sym c.in_default.ensures))
