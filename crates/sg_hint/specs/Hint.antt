-- What a hint is.
use Rattle.std.specs.Prelude.{◌≡◌, ◌⊎◌, ◌≤◌, ◌-◌, true, ℕ, List, ◌++◌, length, Option, None, Some, IfSome, Vec}
use Rattle.std.specs.List.{list_all}
use Rattle.std.specs.declared.alloc.Global.{Global}
use Rattle.sg_lex.specs.declared.fault.ConfigFault.{ConfigFault}
use Rattle.sg_outside.specs.World.{WorldState, OnlyReads, IsContent}
use Rattle.sg_report.specs.Fault.{name_at}
use Rattle.sg_hint.specs.Lines.{numbered_line}
use Rattle.sg_hint.specs.Shown.{is_told}
use Rattle.sg_hint.specs.Spots.{IsSpot, FailsToRead}
use Rattle.sg_hint.specs.Text.{place_text, hint_text, IsAbove}
use Rattle.sg_hint.specs.declared.written.Spotted.{Spotted}

-- The text begins with the fault's file and line, and has at most so many bytes behind them. All of it is printable, or an LF.
pub record HasHintForm (fault : ConfigFault) (names : List (List ℕ)) (text : List ℕ) : Type 0 where
  pub begins : (rest : List ℕ) × ((text ≡ place_text fault names ++ rest) × (length rest ≤ 400))
  pub plain : list_all is_told text ≡ true

-- What is shown of a fault in this text of its file: its line, and where the fault's token is known, which begins at this column,
-- a mark below it and what may have been meant.
pub record IsHintOf (read new : WorldState) (fault : ConfigFault) (names : List (List ℕ))
    (content text : List ℕ) : Type 0 where
  pub line : List ℕ
  pub spotted : Option Spotted
  pub is_line : numbered_line content fault.line ≡ Some line
  pub spot : IsSpot read new fault names content spotted
  pub above : IfSome spotted (λ token. IsAbove line (token.column - 1))
  pub is : text ≡ hint_text fault names line spotted
  pub form : HasHintForm fault names text

-- there is a hint, or no such line
abbrev pub HintsOf : WorldState → WorldState → ConfigFault → List (List ℕ) → List ℕ
    → Option (Vec ℕ Global) → Type 0
HintsOf read new fault names content (Some text) = IsHintOf read new fault names content text.items
HintsOf read new fault names content None = numbered_line content fault.line ≡ None

-- The fault's file is read again, and this is what it holds then.
pub record HintsAgain (old new : WorldState) (fault : ConfigFault) (names : List (List ℕ))
    (text : Option (Vec ℕ Global)) : Type 0 where
  pub content : List ℕ
  pub read : WorldState
  pub file : IsContent old.files (name_at names fault.file) content
  pub reads : OnlyReads old read
  pub hints : HintsOf read new fault names content text

-- There is a hint where the fault's file has a name, is read again, and has the line.
abbrev pub Hints : WorldState → WorldState → ConfigFault → List (List ℕ) → Option (Vec ℕ Global)
    → Type 0
Hints old new fault names text = HintsAgain old new fault names text
    ⊎ ((text ≡ None) × ((length names ≤ fault.file)
    ⊎ FailsToRead old new (name_at names fault.file)))
