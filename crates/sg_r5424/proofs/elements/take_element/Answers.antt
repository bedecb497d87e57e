use Rattle.std.proofs.Common.{ℕ, List, [], ◌∷◌, arith, subst, sym}
use Rattle.sg_r5424.specs.Data.{element_name, HasParams}
use Rattle.sg_r5424.specs.Takes.{PutsPairs}
use Rattle.sg_r5424.specs.Spans.{span_text, IsWithin, EndsItem}
use Rattle.sg_r5424.proofs.ElementLemmas.{bare_element, element_taken}
use Rattle.sg_r5424.proofs.SpanLemmas.{ends-front}
use Rattle.sg_r5424.proofs.elements.take_element.Goals as goal

pub returns-then-take_text : goal.returns-then-take_text
returns-then-take_text c =
    let item = c.args.builder.now.item in
    let opens = c.if-not-take_text.ensures.taken in
    let behind = ends-front item c.args.text.now (91 ∷ []) c.take_text.new.text opens c.requires.0 in
    let id = c.in-Some.ensures.name item c.requires.1 behind in
    let named = span_text item c.in-Some.id in
    let shorter = id.1 in (
      (record { name = element_name named; value = [] }) ∷ [],
      (
        bare_element c.args.text.now c.take_text.new.text named c.take_name.new.text c.take_text-2.new.text opens id.0 c.if-take_text.ensures.taken,
        c.in_ok-put_element.ensures,
        omega (arith, shorter, c.take_text.ensures.shorter, c.take_text-2.ensures.shorter),
      ),
    )

pub returns : goal.returns
returns c =
    let item = c.args.builder.now.item in
    let opens = c.if-not-take_text.ensures.taken in
    let behind = ends-front item c.args.text.now (91 ∷ []) c.take_text.new.text opens c.requires.0 in
    let id = c.in-Some.ensures.name item c.requires.1 behind in
    let named = span_text item c.in-Some.id in
    let shorter = id.1 in
    let kept = c.if-take_text.ensures.kept in
    let here = subst (λ (x : List ℕ). PutsPairs (HasParams named) x c.take_params.new.text c.args.builder.now c.take_params.new.builder c.take_params.result) kept c.take_params.ensures in
    element_taken c.args.text.now c.take_text.new.text named c.take_name.new.text c.take_params.new.text c.args.builder.now c.take_params.new.builder c.take_params.result opens id.0 c.if-take_text.ensures.taken
    (omega (arith, shorter, c.take_text.ensures.shorter)) here

pub take_name-requires : goal.take_name-requires
take_name-requires c = omega (arith, c.requires.0.shorter, c.requires.1, c.take_text.ensures.shorter)

pub put_element-requires-clause-id : goal.put_element-requires-clause-id
put_element-requires-clause-id c = subst (λ (n : ℕ). IsWithin n c.in-Some.id) (sym c.requires.1) c.in-Some.ensures.within

pub put_element-requires-clause-short : goal.put_element-requires-clause-short
put_element-requires-clause-short c =
    let item = c.args.builder.now.item in
    let opens = c.if-not-take_text.ensures.taken in
    let behind = ends-front item c.args.text.now (91 ∷ []) c.take_text.new.text opens c.requires.0 in
    let id = c.in-Some.ensures.name item c.requires.1 behind in
    let named = span_text item c.in-Some.id in
    let shorter = id.1 in
    id.0.most

pub take_params-requires-clause-ends : goal.take_params-requires-clause-ends
take_params-requires-clause-ends c =
    let item = c.args.builder.now.item in
    let opens = c.if-not-take_text.ensures.taken in
    let behind = ends-front item c.args.text.now (91 ∷ []) c.take_text.new.text opens c.requires.0 in
    let id = c.in-Some.ensures.name item c.requires.1 behind in
    let named = span_text item c.in-Some.id in
    let shorter = id.1 in
    let behind_id = ends-front item c.take_text.new.text named c.take_name.new.text id.0.is_text behind in
    (subst (EndsItem item) (sym c.if-take_text.ensures.kept) behind_id, c.requires.1)

pub take_params-requires-clause-short : goal.take_params-requires-clause-short
take_params-requires-clause-short c =
    let item = c.args.builder.now.item in
    let opens = c.if-not-take_text.ensures.taken in
    let behind = ends-front item c.args.text.now (91 ∷ []) c.take_text.new.text opens c.requires.0 in
    let id = c.in-Some.ensures.name item c.requires.1 behind in
    let named = span_text item c.in-Some.id in
    let shorter = id.1 in
    id.0.most
