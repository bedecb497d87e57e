-- What a parser and a rule of the grammar have in common.
use Rattle.std.specs.Prelude.{◌≡◌, true, List, ◌∷◌, ◌++◌, Ok}
use Rattle.sg_parse_base.specs.declared.spot.Spot.{Spot}
use Rattle.sg_parse_base.specs.Tokens.{is_name}
use Rattle.sg_parse_base.specs.Input.{Parser, next_is}
use Rattle.sg_parse_base.specs.Grammar.{Stands}

-- what is left is a proper end of what there was
abbrev pub LeavesEnd : List Spot → List Spot → Type 0
LeavesEnd s r = (spot : Spot) × (front : List Spot) × (s ≡ spot ∷ (front ++ r))

-- what is read is of the grammar, what is of the grammar is read, and it takes a token or more
pub record Matches {A : Type 0} (parse : Parser A) (One : Stands A) : Type 0 where
  pub sound : (s : List Spot) (x : A × List Spot) → parse s ≡ Ok x → One s x.0 x.1
  pub again : (s r : List Spot) (x : A) → One s x r → parse s ≡ Ok (x, r)
  pub leaves : (s r : List Spot) (x : A) → One s x r → LeavesEnd s r

-- the same, of something that begins with a word or a string
pub record Agrees {A : Type 0} (parse : Parser A) (One : Stands A) : Type 0 where
  pub sound : (s : List Spot) (x : A × List Spot) → parse s ≡ Ok x → One s x.0 x.1
  pub again : (s r : List Spot) (x : A) → One s x r → parse s ≡ Ok (x, r)
  pub front : (s r : List Spot) (x : A) → One s x r → next_is is_name s ≡ true
  pub leaves : (s r : List Spot) (x : A) → One s x r → LeavesEnd s r
