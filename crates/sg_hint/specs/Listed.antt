-- The token of a fault behind the expansion: the same fault is looked for where the tokens have their places in the list as lines.
use Rattle.std.specs.Prelude.{◌≡◌, ◌⊎◌, ◌<◌, ◌-◌, ◌==◌, ℕ, List, [], ◌∷◌, map, slice_get, if◌then◌else◌, Option, Some, None}
use Rattle.sg_outside.specs.World.{WorldState}
use Rattle.sg_lex.specs.declared.fault.ConfigFault.{ConfigFault}
use Rattle.sg_lex.specs.declared.fault.ConfigKind.{ConfigKind}
use Rattle.sg_lex.specs.declared.fault.ConfigKind.TheVariants as kind
use Rattle.sg_lex.specs.declared.place.Line.{Line}
use Rattle.sg_lex.specs.declared.token.Token.{Token}
use Rattle.sg_config.specs.Means.{Means, IsFaultOfTokens}
use Rattle.sg_config.specs.declared.config.Config.{Config}
use Rattle.sg_filter.specs.Patterns.{AreValid}
use Rattle.sg_table.specs.Patterns.{patterns_in}
use Rattle.sg_table.specs.Refused.{AreOffersBounded, RefusesForest}
use Rattle.sg_tree.specs.Offers.{woods_of}
use Rattle.sg_tree.specs.declared.refusal.PathRefusal.{PathRefusal}
use Rattle.sg_tree.specs.declared.refusal.PathRefusal.TheVariants.{BadPattern, PatternTooLarge, TooManyOffers, NoMemory}
use Rattle.sg_hint.specs.Lines.{more}
use Rattle.sg_hint.specs.Meanings.{IsNameOf}
use Rattle.sg_hint.specs.declared.written.Spotted.{Spotted}

-- ---- what is wrong with tokens

abbrev pub fault_of : ConfigKind → Line → ConfigFault
fault_of kind line = record { kind = kind; file = line.file; line = line.line }

-- the fault that a refusal of log paths is
abbrev pub IsListedPathFault : PathRefusal → ConfigFault → Type 0
IsListedPathFault (BadPattern line) fault = fault ≡ fault_of kind.BadPattern line
IsListedPathFault (PatternTooLarge line) fault = fault ≡ fault_of kind.PatternTooLarge line
IsListedPathFault (TooManyOffers line) fault = fault ≡ fault_of kind.TooManyOffers line
IsListedPathFault NoMemory fault = ⊥

-- The log paths of a configuration are refused.
pub record ArePathsRefused (config : Config) (refusal : PathRefusal) : Type 0 where
  pub old : WorldState
  pub new : WorldState
  pub refuses : RefusesForest old new config.forest refusal

-- They can be compiled, or are refused.
abbrev pub IsCompiled : Config → Option PathRefusal → Type 0
IsCompiled config None = AreValid (patterns_in config.forest)
    × AreOffersBounded (woods_of config.forest).tops
IsCompiled config (Some refusal) = ArePathsRefused config refusal

-- the fault of a configuration whose log paths are refused
pub record IsUncompiledConfig (config : Config) (fault : ConfigFault) : Type 0 where
  pub refusal : PathRefusal
  pub refused : ArePathsRefused config refusal
  pub is : IsListedPathFault refusal fault

-- what is wrong with log paths, if anything is
abbrev pub IsPathsFirst : Config → Option ConfigFault → Type 0
IsPathsFirst config None = IsCompiled config None
IsPathsFirst config (Some fault) = IsUncompiledConfig config fault

-- What is wrong with tokens first, if anything is: they mean no configuration, or one whose log paths are refused.
abbrev pub IsFirstWrong : List Token → Option ConfigFault → Type 0
IsFirstWrong tokens None = (config : Config) × (Means tokens config × IsPathsFirst config None)
IsFirstWrong tokens (Some fault) = IsFaultOfTokens tokens fault
    ⊎ ((config : Config) × (Means tokens config × IsPathsFirst config (Some fault)))

-- ---- where it stands

-- tokens with their places in the list, from 1 on, in the place of their lines
abbrev pub numbered : ℕ → List Token → List Token
numbered before [] = []
numbered before (token ∷ tokens) =
    (record token { line = more before }) ∷ numbered (more before) tokens

-- The faults are of one kind and file, and the second has a place.
pub record IsAgain (fault again : ConfigFault) : Type 0 where
  pub kind : again.kind ≡ fault.kind
  pub file : again.file ≡ fault.file
  pub place : 0 < again.line

-- the column of a token, if it was written in this line
abbrev pub column_of : ℕ → Option Token → Option ℕ
column_of line None = None
column_of line (Some token) = if token.line == line then Some token.column else None

-- the column, and what may have been meant by the token of this place
abbrev pub IsSpotted : ConfigKind → List Token → ℕ → Option ℕ → Option Spotted → Type 0
IsSpotted kind tokens at None spotted = spotted ≡ None
IsSpotted kind tokens at (Some column) None = ⊥
IsSpotted kind tokens at (Some column) (Some spotted) = (spotted.column ≡ column)
    × IsNameOf kind tokens at spotted.meant

-- The token at the place of the same fault, if it has a column.
abbrev pub IsSpotOf : List Token → (ℕ → Option ℕ) → ConfigFault → Option ConfigFault
    → Option Spotted → Type 0
IsSpotOf tokens column fault None spotted = spotted ≡ None
IsSpotOf tokens column fault (Some again) spotted = (IsAgain fault again
    × IsSpotted fault.kind tokens (again.line - 1) (column (again.line - 1)) spotted)
    ⊎ ((IsAgain fault again → ⊥) × (spotted ≡ None))

pub record IsInList (tokens : List Token) (column : ℕ → Option ℕ) (fault : ConfigFault)
    (spotted : Option Spotted) : Type 0 where
  pub first : Option ConfigFault
  pub wrong : IsFirstWrong tokens first
  pub spot : IsSpotOf tokens column fault first spotted

-- The token of the fault among the tokens of an expansion: the one at whose place the same fault stands in the numbered list,
-- if it was written in the fault's line.
abbrev pub IsListed : List Token → ConfigFault → Option Spotted → Type 0
IsListed tokens fault spotted =
    IsInList (numbered 0 tokens) (λ at. column_of fault.line (slice_get tokens at)) fault spotted

-- ---- the numbered list with the lines beside it

abbrev pub lines_of : List Token → List ℕ
lines_of tokens = map (λ token. token.line) tokens

abbrev pub listed_column : ℕ → Option Token → Option ℕ → Option ℕ
listed_column line None own = None
listed_column line (Some token) None = None
listed_column line (Some token) (Some own) = if own == line then Some token.column else None

abbrev pub column_at : List Token → List ℕ → ℕ → ℕ → Option ℕ
column_at tokens lines line at = listed_column line (slice_get tokens at) (slice_get lines at)
