use Rattle.std.proofs.Common.{◌≡◌, ℕ, List, refl, sym, ◌∙◌, subst}
use Rattle.regex.specs.Bytes.{regex_pattern}
use Rattle.sg_pattern.specs.Builds.{MatchesAs}
use Rattle.sg_pattern.proofs.matcher.Matcher.new.Goals as goal
use Rattle.sg_pattern.proofs.matcher.Matcher.new.Goals.{in-Regex+in_ok-engine-in-Regex, in-Text+in_ok-literal-in-Text, in-Glob}

pub returns-clause-made : goal.returns-clause-made
returns-clause-made g c =
    let text : c.in_ok-copy.copy.items ≡ c.args.text.now = c.in_ok-copy.ensures.items_if_clones_equal (λ x y e. e) in
    elim c.match-kind.branch [
      | in-Regex+in_ok-engine-in-Regex w ↦ λ is.
          let made = w.in_ok-engine-in-Regex.ensures.made refl in
          record { regex = made.regex; matches = subst (λ (t : List ℕ). MatchesAs c.args.flags.ignore_case t (regex_pattern made.regex)) (sym text) made.matches }
      | in-Text+in_ok-literal-in-Text w ↦ λ is. let wrong = sym w.in-Text.is ∙ is in absurd cc
      | in-Glob w ↦ λ is. let wrong = sym w.in-Glob.is ∙ is in absurd cc
    ]
