use Rattle.std.proofs.Common.{◌∙◌}
use Rattle.std.proofs.lemmas.Result.{err_from_is_err_and}
use Rattle.sg_codec.proofs.ReadSteps.{pairs-name_stops, pairs-value_stops, pairs-done, pairs-preserved}
use Rattle.sg_codec.proofs.reading.take_pairs.Goals as goal

pub returns-in_err-name-clause-field : goal.returns-in_err-name-clause-field
returns-in_err-name-clause-field c =
    let p = err_from_is_err_and c.from_residual.result c.from_residual.ensures.1 in
    rw (p.1, p.2) (pairs-name_stops c.in_err-name.field-0.0 c.args.count c.loop.counter c.loop.builder.put c.deref.result.now c.loop.rest _ c.loop-test.true (c.deref.ensures ∙ c.loop.invariant.last) c.in_err-name.ensures.field c.loop.invariant.read)

pub returns-in_err-value-clause-field : goal.returns-in_err-value-clause-field
returns-in_err-value-clause-field c =
    let p = err_from_is_err_and c.from_residual-in_err-value.result c.from_residual-in_err-value.ensures.1 in
    rw (p.1, p.2) (pairs-value_stops c.in_err-value.field-0.0 c.args.count c.loop.counter c.loop.builder.put c.deref.result.now c.loop.rest c.in_ok-name.name c.take_name.new.rest _ c.loop-test.true (c.deref.ensures ∙ c.loop.invariant.last) c.in_ok-name.ensures.field c.in_err-value.ensures c.loop.invariant.read)

pub loop-preserved : goal.loop-preserved
loop-preserved c =
    let set = c.in_ok-append.ensures.ok in
    let p = pairs-preserved c.args.builder.now c.loop.builder c.append.new.builder c.args.count c.loop.counter c.deref.result.now c.loop.rest c.in_ok-name.name c.take_name.new.rest c.in_ok-value.value c.take_text.new.rest _ c.loop-test.true (c.deref.ensures ∙ c.loop.invariant.last) c.in_ok-name.ensures.follows c.in_ok-name.ensures.field c.in_ok-value.ensures set c.loop.invariant.others c.loop.invariant.read c.loop.invariant.ascending in
    record { others = p.0; read = p.1; last = p.2; ascending = p.3 }

pub returns-clause-field : goal.returns-clause-field
returns-clause-field c = pairs-done c.args.count c.loop.counter c.loop.builder.put c.loop.rest _ c.loop-test.false c.loop.invariant.read
