-- The token of a fault from its parts.
use Rattle.std.proofs.Common.{◌≡◌, ◌≤◌, ◌∙◌, inl, inr, refl, sym, ap, subst, ℕ, List, length, slice_get, Option, Some, None, Result, Ok, Err, IfOk, IfSome, option_map}
use Rattle.sg_lex.specs.Tokens.{tokens_of}
use Rattle.sg_lex.specs.declared.fault.ConfigFault.{ConfigFault}
use Rattle.sg_lex.specs.declared.token.Token.{Token}
use Rattle.sg_outside.specs.World.{WorldState, OnlyReads, IsContent}
use Rattle.sg_expand.specs.Expansion.{IsExpanded}
use Rattle.sg_expand.specs.declared.fault.Expanded.{Expanded}
use Rattle.sg_expand.specs.declared.fault.ExpandRefusal.{ExpandRefusal}
use Rattle.sg_expand.specs.declared.fault.ExpandRefusal.TheVariants.{Bad, ReadFault, NoMemory}
use Rattle.sg_report.specs.Fault.{name_at}
use Rattle.sg_hint.specs.Expansions.{column_by}
use Rattle.sg_hint.specs.Listed.{column_of, numbered, IsInList, IsListed, IsSpotOf, IsSpotted}
use Rattle.sg_hint.specs.Spots.{plain_spot, IsSpot, IsStoppedExpansion, FailsToRead, Spots, SpotsAgain, SpotsBy}
use Rattle.sg_hint.specs.declared.written.Spotted.{Spotted}
use Rattle.sg_hint.proofs.Briefs.{IsShortText, name-short}

pub stopped-by : (fault again : ConfigFault) (text : List ℕ) (column : Option ℕ) (spotted : Option Spotted) → again ≡ fault
    → column ≡ column_by fault text (tokens_of fault.file text) → spotted ≡ option_map plain_spot column
    → IsStoppedExpansion fault again text spotted
stopped-by fault again text column spotted same found is = inl (same, is ∙ ap (option_map plain_spot) found)

pub spots-again : {E : Type 0} (old new : WorldState) (name main : List ℕ) (fault : ConfigFault) (text : List ℕ)
    (answer : Result Expanded ExpandRefusal) (result : Result (Option Spotted) E) → IsExpanded old new name main answer
    → IfOk result (λ spotted. SpotsBy fault text answer spotted)
    → IfOk result (λ spotted. SpotsAgain old new name main fault text spotted)
spots-again old new name main fault text answer (Ok spotted) expands h = record { answer = answer; expands = expands; spots = h }
spots-again old new name main fault text answer (Err e) expands h = tt

pub spots-main : {E : Type 0} (read start new : WorldState) (fault : ConfigFault) (names : List (List ℕ)) (text main : List ℕ)
    (result : Result (Option Spotted) E) → IsContent read.files (name_at names 0) main → OnlyReads read start
    → IfOk result (λ spotted. SpotsAgain start new (name_at names 0) main fault text spotted)
    → IfOk result (λ spotted. IsSpot read new fault names text spotted)
spots-main read start new fault names text main (Ok spotted) content reads h =
    inr (record { main = main; start = start; content = content; reads = reads; again = h })
spots-main read start new fault names text main (Err e) content reads h = tt

-- ---- what was meant isn't long

abbrev pub IsBrief : Option Spotted → Type 0
IsBrief spotted = IfSome spotted (λ token. IsShortText token.meant)

none-brief : (spotted : Option Spotted) → spotted ≡ None → IsBrief spotted
none-brief spotted e = subst IsBrief (sym e) tt

plain-brief : (column : Option ℕ) → IsBrief (option_map plain_spot column)
plain-brief None = tt
plain-brief (Some column) = tt

spotted-brief : (fault : ConfigFault) (tokens : List Token) (at : ℕ) (column : Option ℕ) (spotted : Option Spotted)
    → IsSpotted fault.kind tokens at column spotted → IsBrief spotted
spotted-brief fault tokens at None spotted h = none-brief spotted h
spotted-brief fault tokens at (Some column) None h = tt
spotted-brief fault tokens at (Some column) (Some spotted) h = name-short fault.kind tokens at spotted.meant h.1

spot-brief : (tokens : List Token) (column : ℕ → Option ℕ) (fault : ConfigFault) (first : Option ConfigFault)
    (spotted : Option Spotted) → IsSpotOf tokens column fault first spotted → IsBrief spotted
spot-brief tokens column fault None spotted h = none-brief spotted h
spot-brief tokens column fault (Some again) spotted (inl (is, h)) = spotted-brief fault tokens _ _ spotted h
spot-brief tokens column fault (Some again) spotted (inr (not, none)) = none-brief spotted none

stopped-brief : (fault again : ConfigFault) (text : List ℕ) (spotted : Option Spotted) → IsStoppedExpansion fault again text spotted
    → IsBrief spotted
stopped-brief fault again text spotted (inl (same, is)) =
    subst IsBrief (sym is) (plain-brief (column_by fault text (tokens_of fault.file text)))
stopped-brief fault again text spotted (inr (not, none)) = none-brief spotted none

by-brief : (fault : ConfigFault) (text : List ℕ) (answer : Result Expanded ExpandRefusal) (spotted : Option Spotted)
    → SpotsBy fault text answer spotted → IsBrief spotted
by-brief fault text (Ok expanded) spotted h = spot-brief (numbered 0 expanded.tokens) (λ at. column_of fault.line (slice_get expanded.tokens at)) fault h.first spotted h.spot
by-brief fault text (Err (Bad again names)) spotted h = stopped-brief fault again text spotted h
by-brief fault text (Err (ReadFault name)) spotted h = none-brief spotted h
by-brief fault text (Err NoMemory) spotted h = absurd h

pub brief : (read new : WorldState) (fault : ConfigFault) (names : List (List ℕ)) (text : List ℕ) (spotted : Option Spotted)
    → IsSpot read new fault names text spotted → IsBrief spotted
brief read new fault names text spotted (inl (unread, none)) = none-brief spotted none
brief read new fault names text spotted (inr h) = by-brief fault text h.again.answer spotted h.again.spots
