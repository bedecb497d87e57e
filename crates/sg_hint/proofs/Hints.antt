-- A hint from its parts.
use Rattle.std.proofs.Common.{◌≡◌, ◌≤◌, ◌-◌, inl, inr, refl, sym, ℕ, List, length, Option, Some, None, Result, Ok, Err, Vec, IfOk, IfSome}
use Rattle.std.specs.declared.alloc.Global.{Global}
use Rattle.sg_lex.specs.declared.fault.ConfigFault.{ConfigFault}
use Rattle.sg_outside.specs.World.{WorldState, OnlyReads, IsContent}
use Rattle.sg_report.specs.Fault.{name_at}
use Rattle.sg_hint.specs.Lines.{numbered_line}
use Rattle.sg_hint.specs.Spots.{IsSpot}
use Rattle.sg_hint.specs.Text.{hint_text, IsAbove}
use Rattle.sg_hint.specs.Hint.{HasHintForm, IsHintOf, Hints, HintsAgain, HintsOf}
use Rattle.sg_hint.specs.declared.written.Spotted.{Spotted}
use Rattle.sg_hint.proofs.Under.{above}

all-above : (line : List ℕ) (spotted : Option Spotted) → IfSome spotted (λ token. IsAbove line (token.column - 1))
all-above line None = tt
all-above line (Some token) = above line (token.column - 1)

pub hint-of : (read new : WorldState) (fault : ConfigFault) (names : List (List ℕ)) (content text line : List ℕ)
    (spotted : Option Spotted) → Some line ≡ numbered_line content fault.line → IsSpot read new fault names content spotted
    → text ≡ hint_text fault names line spotted → HasHintForm fault names text → IsHintOf read new fault names content text
hint-of read new fault names content text line spotted stands spot is form = record {
  line = line;
  spotted = spotted;
  is_line = sym stands;
  spot = spot;
  above = all-above line spotted;
  is = is;
  form = form;
}

pub hints-again : {E : Type 0} (old read new : WorldState) (fault : ConfigFault) (names : List (List ℕ)) (content : List ℕ)
    (result : Result (Option (Vec ℕ Global)) E) → IsContent old.files (name_at names fault.file) content → OnlyReads old read
    → IfOk result (λ text. HintsOf read new fault names content text) → IfOk result (λ text. Hints old new fault names text)
hints-again old read new fault names content (Ok text) file reads h =
    inl (record { content = content; read = read; file = file; reads = reads; hints = h })
hints-again old read new fault names content (Err e) file reads h = tt
