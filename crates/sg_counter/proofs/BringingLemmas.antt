-- Records that may enter, one more.
use Rattle.sg_machine.specs.declared.event.Admission.{Admission}
use Rattle.sg_counter.specs.Bringing.{AllMayEnter}
use Rattle.sg_msg.specs.Offers.{AllWithin}
use Rattle.std.proofs.Common.{List, length, ℕ, ◌<◌, ◌≤◌, ◌^◌, ◌∷◌, ◌++◌, []}

pub enter_push : (n : ℕ) (rs : List Admission) (r : Admission) → AllMayEnter n rs → r.end < 2 ^ 63 → length r.offers ≤ 1024 → AllWithin n r.offers → AllMayEnter n (rs ++ r ∷ [])
enter_push n [] r h end few within = (record { end = end; few = few; dests = within }, tt)
enter_push n (q ∷ rs) r h end few within = (h.0, enter_push n rs r h.1 end few within)
