use Rattle.std.proofs.Common.{◌≡◌, map, drop}
use Rattle.sg_parse_expr.specs.Classes.{is_one_of}
use Rattle.sg_options.proofs.settings.is_one_of.Given as goal

abbrev pub invariant-loop-word : goal.invariant-loop-word
invariant-loop-word l = is_one_of l.text (map (λ word. word.now) l.words) ≡ is_one_of l.text (map (λ word. word.now) (drop l.word-index l.words))
