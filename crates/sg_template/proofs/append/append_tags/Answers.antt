use Rattle.std.proofs.Common.{ℕ, ◌≡◌, ◌+◌, List, [], ◌∷◌, ◌++◌, length, drop, codes, sym, ap, ◌∙◌, arith}
use Rattle.std.specs.List.{flat_map}
use Rattle.std.proofs.lemmas.List.{append-nil, length-append}
use Rattle.sg_template.specs.Texts.{tags_text, later_tag}
use Rattle.sg_template.proofs.Appending.{begins_more, begins_further}
use Rattle.sg_template.proofs.Steps.{two_more, later-step, later-end}
use Rattle.sg_template.proofs.append.append_tags.Goals as goal

pub loop-tag-preserved : goal.loop-tag-preserved
loop-tag-preserved c =
    let tags = c.args.message.now.tags in
    let tag = c.in-Some-tag.tag.now in
    let out = c.loop-tag.out.items in
    let mid = c.append-in-Some-tag.new.out.items in
    let new = c.append-in-Some-tag-2.new.out.items in
    let comma : mid ≡ out ++ codes "," = c.in_ok-append-2.ensures.ok in
    let more : new ≡ mid ++ tag = c.in_ok-append-3.ensures.ok in
    record {
      text = two_more out mid new (codes ",") tag (flat_map later_tag (drop (c.loop-tag.place + 1) tags)) (c.args.out.now.items ++ tags_text tags) comma more
          (ap (λ (t : List ℕ). out ++ t) (sym (later-step tags c.loop-tag.place tag c.in-Some-tag.ensures)) ∙ c.loop-tag.invariant.text);
      begins = begins_further c.args.out.now.items out new c.loop-tag.invariant.begins (begins_further out mid new (begins_more out mid (codes ",") comma) (begins_more mid new tag more));
      place = omega (arith, c.loop-tag.invariant.place, ap length comma, ap length more, length-append out (44 ∷ []), length-append mid tag);
    }

pub returns-clause-ok : goal.returns-clause-ok
returns-clause-ok c =
    let tags = c.args.message.now.tags in
    let out = c.loop-tag.out.items in
    sym (append-nil out) ∙ (ap (λ (t : List ℕ). out ++ t) (sym (later-end tags c.loop-tag.place c.in_default-tag.ensures)) ∙ c.loop-tag.invariant.text)
