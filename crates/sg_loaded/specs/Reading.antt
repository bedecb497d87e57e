-- What the text of a configuration file comes to: the tokens of a whole expansion, or why there is none.
use Rattle.std.specs.Prelude.{◌≡◌, ℕ, List, [], ◌∷◌}
use Rattle.sg_outside.specs.World.{WorldState, OnlyReads, IsContent, IsBeyond}
use Rattle.sg_lex.specs.declared.fault.ConfigFault.{ConfigFault}
use Rattle.sg_lex.specs.declared.fault.ConfigKind.{ConfigKind}
use Rattle.sg_lex.specs.declared.fault.ConfigKind.TheVariants.{TooLong}
use Rattle.sg_lex.specs.declared.token.Token.{Token}
use Rattle.sg_expand.specs.Expansion.{ExpansionState, ExpansionOutcome, Goes, Stops, Faulty, Unread, RunsMain}

-- The text of the file of this name comes to this outcome. It is the file's content, where the machine tells it; and the
-- included files are read once it was read.
abbrev pub FileComesTo : WorldState → List ℕ → ExpansionOutcome → Type 0
FileComesTo world file outcome = (text : List ℕ) × (IsContent world.files file text
    × ((start : WorldState) × (OnlyReads world start × RunsMain file text start outcome)))

-- it is expanded to these tokens, of files of these names; then the machine is this one, of which nothing but readings was asked
pub record Expands (world : WorldState) (file : List ℕ) (tokens : List Token)
    (names : List (List ℕ)) (read : WorldState) : Type 0 where
  pub last : ExpansionState
  pub comes : FileComesTo world file (Goes last read)
  pub out : tokens ≡ last.out
  pub files : names ≡ last.names
  pub reads : OnlyReads world read

-- a fault of the main file as a whole
abbrev pub at_main : ConfigKind → ConfigFault
at_main kind = record { kind = kind; file = 0; line = 1 }

-- the file is too long
abbrev pub IsTooLong : WorldState → List ℕ → ConfigFault → List (List ℕ) → Type 0
IsTooLong world file fault names = IsBeyond world.files file 1048576 × (fault ≡ at_main TooLong)
    × (names ≡ file ∷ [])

-- it isn't expanded
abbrev pub IsFaulty : WorldState → List ℕ → ConfigFault → List (List ℕ) → Type 0
IsFaulty world file fault names = (read : WorldState)
    × FileComesTo world file (Stops (Faulty fault) names read)

-- the file that couldn't be read is one that was asked for by `@include`
abbrev pub IsUnreadFile : WorldState → List ℕ → List ℕ → Type 0
IsUnreadFile world file name = (names : List (List ℕ))
    × ((read : WorldState) × FileComesTo world file (Stops (Unread name) names read))
