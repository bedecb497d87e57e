-- The first node on a cycle is one.
use Rattle.std.proofs.Common.{◌≡◌, ℕ, ◌<◌, List, Option, None, Some, refl, ap, ⊎_elim}
use Rattle.std.proofs.lemmas.Bool.{cases_order}
use Rattle.sg_graph.specs.Graph.{IsFirstOnCycle}

pub firsts-same : (links : List (List ℕ)) (first other : Option ℕ) → IsFirstOnCycle links first → IsFirstOnCycle links other → first ≡ other
firsts-same links None None a b = refl
firsts-same links None (Some j) a b = absurd (a j b.0)
firsts-same links (Some i) None a b = absurd (b i a.0)
firsts-same links (Some i) (Some j) a b =
    ⊎_elim (λ same. ap Some same) (λ apart. ⊎_elim (λ below. absurd (b.1 i below a.0)) (λ above. absurd (a.1 j above b.0)) apart) (cases_order i j)
