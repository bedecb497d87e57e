use Rattle.std.proofs.Common.{ℕ, ◌≡◌, ◌<◌, List, [], ◌∷◌, ◌++◌, length, drop, ap, ◌∙◌, arith}
use Rattle.std.proofs.lemmas.Bool.Decides.{nat_tests}
use Rattle.std.proofs.lemmas.List.{nil_from_length}
use Rattle.sg_macro.specs.declared.part.TemplatePart.{TemplatePart}
use Rattle.sg_macro.specs.Reading.{parts_behind}
use Rattle.sg_macro.proofs.Parts.{ahead, ahead-more, ahead-all, ahead-fault}
use Rattle.sg_macro.proofs.reading.read_parts.Goals as goal

pub loop-rest-preserved : goal.loop-rest-preserved
loop-rest-preserved c =
    let rest = c.loop-rest.rest.now in
    let found = c.in-Ok.field-0 in
    let some : 0 < length c.loop-rest.rest.now = grind (arith, nat_tests) in
    let step = ahead-more c.args.text.now rest c.loop-rest.parts found some c.in-Ok.ensures.ok c.in-Ok.ensures.len.0 c.loop-rest.invariant in
    let pushed : c.loop-rest.parts ++ c.in-Ok.field-0.part ∷ [] ≡ c.push.new.self = cc (c.in_ok-push-in-Ok.ensures.ok, c.in-Ok.part-is) in
    let behind : drop c.in-Ok.field-0.len c.loop-rest.rest.now ≡ c.behind-rest.result.now = cc (c.behind-rest.ensures, c.in-Ok.len-is) in
    step ∙ (ap (λ (parts : List TemplatePart). ahead parts (parts_behind 0 (drop found.len rest))) pushed ∙ ap (λ (text : List ℕ). ahead c.push.new.self (parts_behind 0 text)) behind)

pub returns-in-Err-clause-err : goal.returns-in-Err-clause-err
returns-in-Err-clause-err c =
    let some : 0 < length c.loop-rest.rest.now = grind (arith, nat_tests) in
    ahead-fault c.args.text.now c.loop-rest.rest.now c.loop-rest.parts c.in-Err.fault some c.loop-rest.invariant c.in-Err.ensures.err

pub returns-clause-ok : goal.returns-clause-ok
returns-clause-ok c =
    let empty : length c.loop-rest.rest.now ≡ 0 = grind (arith, nat_tests) in
    ahead-all c.args.text.now c.loop-rest.parts (c.loop-rest.invariant ∙ ap (λ (text : List ℕ). ahead c.loop-rest.parts (parts_behind 0 text)) (nil_from_length c.loop-rest.rest.now empty))
