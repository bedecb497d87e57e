use Rattle.std.proofs.Common.{◌≡◌, ℕ, ◌+◌, ◌<◌, List, ◌++◌, length, take, length-append, ap, ◌∙◌, arith}
use Rattle.std.specs.List.{flat_map}
use Rattle.sg_template.specs.Path.{path_part, path_of}
use Rattle.sg_template.proofs.Paths.{fitted-cut}
use Rattle.sg_template.proofs.path.append_path.Goals as goal

pub returns-clause-ok : goal.returns-clause-ok
unfolding path_of
returns-clause-ok c =
    let front : List ℕ = c.args.out.now.items in
    let text : List ℕ = flat_map (path_part c.args.message.now c.args.env.now) c.args.parts.now in
    let whole : c.append_path_parts.new.out.items ≡ front ++ text = c.in_ok-append_path_parts.ensures.ok in
    let all : length (front ++ text) ≡ length front + length text = length-append front text in
    let long : length c.append_path_parts.new.out.items ≡ length (front ++ text) = ap length whole in
    let some : 0 < length text = grind (arith, c.if-len-before.false, c.len.ensures, c.len-before.ensures, all, long) in
    c.truncate.ensures.items ∙ (ap (take (c.len-before.result + 4095)) whole ∙ fitted-cut front text (c.len-before.result + 4095) some (omega (arith, c.len-before.ensures)))
