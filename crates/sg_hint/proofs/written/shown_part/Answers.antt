use Rattle.std.proofs.Common.{◌∙◌, sym, ap, take, arith, List, ℕ}
use Rattle.std.proofs.lemmas.List.{length-take-le, take_all}
use Rattle.sg_hint.proofs.written.shown_part.Goals as goal

pub returns-then-rest-le-WIDTH : goal.returns-then-rest-le-WIDTH
returns-then-rest-le-WIDTH c = sym (take_all 120 c.behind-rest.result.now (omega arith)) ∙ ap (λ (bytes : List ℕ). take 120 bytes) c.behind-rest.ensures

pub slice_bounds-result-end : goal.slice_bounds-result-end
slice_bounds-result-end c = sym (length-take-le 120 c.behind-rest.result.now (omega arith))
