-- Destinations that pipes name.
use Rattle.std.specs.Prelude.{ℕ, Bool, true, ◌&&◌, nat_lt, List, [], ◌∷◌}
use Rattle.sg_table.specs.declared.pipe.Pipe.{Pipe}
use Rattle.sg_table.specs.declared.pipe.Pipe.TheVariants as pipe

-- each is one of so many
abbrev pub are_there : ℕ → List ℕ → Bool
are_there dests [] = true
are_there dests (driver ∷ drivers) = nat_lt driver dests && are_there dests drivers

abbrev pub names_there : ℕ → Pipe → Bool
names_there dests (pipe.Deliver drivers next) = are_there dests drivers.items
names_there dests _ = true

abbrev pub pipes_name_there : ℕ → List Pipe → Bool
pipes_name_there dests [] = true
pipes_name_there dests (one ∷ more) = names_there dests one && pipes_name_there dests more
