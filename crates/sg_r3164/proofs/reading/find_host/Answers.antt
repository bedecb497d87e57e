use Rattle.std.proofs.Common.{◌≡◌, ◌+◌, Some, drop, ap, sym, List, ℕ, ◌∙◌}
use Rattle.std.proofs.lemmas.List.{drop-drop, take_rest}
use Rattle.sg_r3164.specs.Read3164.{host_behind}
use Rattle.sg_r3164.proofs.reading.find_host.Goals as goal

pub returns-in-Some-clause-rest : goal.returns-in-Some-clause-rest
returns-in-Some-clause-rest c =
    let text = c.args.text.now in
    let at = c.args.at in
    let len = c.in-Some.len in
    let rest = take_rest text at in
    let value = c.in-Some.ensures.value in
    let host : host_behind c.args.stamped (drop at text) ≡ Some len = rw c.if-not-stamped.false (cc) in
    rw host (sym (ap (λ (t : List ℕ). drop 1 t) (drop-drop len at text) ∙ drop-drop 1 (at + len) text))
