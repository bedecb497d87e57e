-- What is offered to destinations.
use Rattle.std.proofs.Common.{◌≡◌, ℕ, List, [], ◌∷◌, ◌++◌}
use Rattle.sg_machine.specs.declared.event.Admission.{Admission}
use Rattle.sg_counter.specs.Bringing.{MayEnter, AllMayEnter}

pub enter_push : (n : ℕ) (rs : List Admission) (r : Admission) → AllMayEnter n rs → MayEnter n r → AllMayEnter n (rs ++ r ∷ [])
enter_push n [] r h m = (m, tt)
enter_push n (q ∷ rs) r h m = (h.0, enter_push n rs r h.1 m)
