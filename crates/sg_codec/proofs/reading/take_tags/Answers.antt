use Rattle.std.proofs.Common.{◌≡◌, ◌∙◌, ap, sym, ℕ, List, None, slice_get}
use Rattle.std.proofs.lemmas.Result.{err_from_is_err_and}
use Rattle.sg_msg.specs.Build.{Build}
use Rattle.sg_msg.specs.Message.{with_tag}
use Rattle.sg_codec.proofs.ReadSteps.{tags-stops, tags-repeated, tags-done, tags-preserved, copied-none, copied-some, repeated-none}
use Rattle.sg_codec.proofs.reading.take_tags.Goals as goal

pub returns-in_err-tag-clause-field : goal.returns-in_err-tag-clause-field
returns-in_err-tag-clause-field c =
    let p = err_from_is_err_and c.from_residual.result c.from_residual.ensures.1 in
    rw (p.1, p.2) (tags-stops c.in_err-tag.field-0.0 c.args.count c.loop-place.place c.loop-place.builder.tags c.loop-place.rest _ c.loop-place-test.true c.in_err-tag.ensures c.loop-place.invariant.read)

pub returns-then-is_none-clause-field : goal.returns-then-is_none-clause-field
returns-then-is_none-clause-field c =
    let tag = c.in_ok-tag.tag in
    let tags = c.loop-place.builder.tags in
    let set = rw c.deref.ensures at c.in_ok-set_tag.ensures.ok in
    let tags_are : c.set_tag.new.self.tags ≡ with_tag tag tags = ap (λ (m : Build). m.tags) set in
    let none = copied-none c.tag-in-loop-place.result c.is_none.result c.is_none.ensures c.if-is_none.true in
    let lacks : slice_get (with_tag tag tags) c.loop-place.place ≡ None = ap (λ (ts : List (List ℕ)). slice_get ts c.loop-place.place) (sym tags_are) ∙ sym c.tag-in-loop-place.ensures ∙ none in
    let repeated = repeated-none tag tags c.loop-place.place c.loop-place.invariant.place lacks in
    rw c.len-left.ensures.value (tags-repeated c.args.count c.loop-place.place tags c.loop-place.rest tag c.take_text.new.rest _ c.loop-place-test.true c.in_ok-tag.ensures repeated c.loop-place.invariant.read)

pub loop-place-preserved : goal.loop-place-preserved
loop-place-preserved c =
    let tag = c.in_ok-tag.tag in
    let set = rw c.deref.ensures at c.in_ok-set_tag.ensures.ok in
    let some = copied-some c.tag-in-loop-place.result c.is_none.result c.is_none.ensures c.if-is_none.false in
    let found = sym c.tag-in-loop-place.ensures ∙ some.1 in
    let p = tags-preserved c.args.builder.now c.loop-place.builder c.set_tag.new.self c.args.count c.loop-place.place c.loop-place.rest tag c.take_text.new.rest some.0 _ c.loop-place-test.true c.in_ok-tag.ensures set found c.loop-place.invariant.others c.loop-place.invariant.read c.loop-place.invariant.place in
    record { others = p.0; read = p.1; place = p.2 }

pub returns-clause-field : goal.returns-clause-field
returns-clause-field c = tags-done c.args.count c.loop-place.place c.loop-place.builder.tags c.loop-place.rest _ c.loop-place-test.false c.loop-place.invariant.read
