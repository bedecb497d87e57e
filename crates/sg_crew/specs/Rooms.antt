-- The memory of a run.
use Rattle.std.specs.Prelude.{◌≡◌, ◌≤◌, ℕ, [], vec_capacity}
use Rattle.sg_crew.specs.declared.run.CrewRoom.{CrewRoom}

-- room for so many actors, with none in it
abbrev pub IsRoom : {A D : Type 0} → ℕ → CrewRoom A D → Type 0
IsRoom count room = (room.workers.items ≡ []) × (room.actors.items ≡ [])
    × (count ≤ vec_capacity room.workers) × (count ≤ vec_capacity room.actors)
