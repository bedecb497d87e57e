use Rattle.std.proofs.Common.{[], ◌∷◌, ◌++◌, refl, ap, ◌∙◌}
use Rattle.test_runs.specs.Runs.{meeting, two}
use Rattle.test_runs.proofs.TestLemmas.{one-source}
use Rattle.test_runs.proofs.meeting.sources.Goals as goal

pub returns : goal.returns
returns g c = one-source _ two two meeting c.in_ok-held.held.items c.in_ok-first.first refl c.in_ok-first.ensures
    (c.in_ok-held.ensures ∙ ap (λ xs. xs ++ c.in_ok-first.first ∷ []) c.new.ensures.items)
