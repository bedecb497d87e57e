-- The token of a fault in the numbered list.
use Rattle.std.proofs.Common.{◌≡◌, ◌≢◌, ◌∙◌, ◌+◌, ◌-◌, ◌<◌, inl, inr, refl, sym, ap, subst, arith, true, false, Bool, ℕ, zero, suc, List, [], ◌∷◌, length, slice_get, Option, Some, None, Result, Ok, Err, IfOk, IfErr, Decides}
use Rattle.std.specs.Result.{result_err}
use Rattle.sg_lex.specs.declared.fault.ConfigFault.{ConfigFault}
use Rattle.sg_lex.specs.declared.fault.ConfigKind.{ConfigKind}
use Rattle.sg_lex.specs.declared.token.Token.{Token}
use Rattle.sg_outside.specs.World.{WorldState}
use Rattle.sg_config.specs.Means.{Means}
use Rattle.sg_config.specs.declared.config.Config.{Config}
use Rattle.sg_filter.specs.Patterns.{AreValid}
use Rattle.sg_table.specs.Patterns.{patterns_in}
use Rattle.sg_table.specs.Refused.{AreOffersBounded, RefusesForest}
use Rattle.sg_tree.specs.Offers.{woods_of}
use Rattle.sg_tree.specs.declared.refusal.PathRefusal.{PathRefusal}
use Rattle.sg_hint.specs.Lines.{more}
use Rattle.sg_hint.specs.Meanings.{name_of, IsNameOf}
use Rattle.sg_hint.specs.Listed.{column_at, column_of, lines_of, numbered, IsAgain, IsCompiled, IsFirstWrong, IsInList, IsListed, IsListedPathFault, IsPathsFirst, ArePathsRefused, IsSpotOf, IsSpotted}
use Rattle.sg_hint.specs.declared.written.Spotted.{Spotted}
use Rattle.sg_hint.proofs.Briefs.{name-is}

-- ---- what is wrong with tokens

pub compiled-by : {T : Type 0} (config : Config) (old new : WorldState) (result : Result T PathRefusal)
    → IfOk result (λ _. AreValid (patterns_in config.forest)) → IfOk result (λ _. AreOffersBounded (woods_of config.forest).tops)
    → IfErr result (λ refusal. RefusesForest old new config.forest refusal) → IsCompiled config (result_err result)
compiled-by config old new (Ok table) valid bound h = (valid, bound)
compiled-by config old new (Err refusal) valid bound h = record { old = old; new = new; refuses = h }

pub paths-refused : (config : Config) (refusal : PathRefusal) (fault : ConfigFault) → ArePathsRefused config refusal
    → IsListedPathFault refusal fault → IsPathsFirst config (Some fault)
paths-refused config refusal fault refused is = record { refusal = refusal; refused = refused; is = is }

-- the fault of the log paths is one of the tokens
pub first-of-paths : {E : Type 0} (tokens : List Token) (config : Config) (result : Result (Option ConfigFault) E)
    → Means tokens config → IfOk result (λ fault. IsPathsFirst config fault) → IfOk result (λ fault. IsFirstWrong tokens fault)
first-of-paths tokens config (Ok None) means h = (config, (means, h))
first-of-paths tokens config (Ok (Some fault)) means h = inr (config, (means, h))
first-of-paths tokens config (Err e) means h = tt

-- ---- faults that are alike

pub decides-not : (P : Type 0) → (P → ⊥) → Decides false P
decides-not P never = (λ is. absurd (search (arith, is)), λ h. absurd (never h))

pub again-by : (fault again : ConfigFault) (result : Bool) → Decides result (again.kind ≡ fault.kind)
    → again.file ≡ fault.file → 0 < again.line → Decides result (IsAgain fault again)
again-by fault again result kind file place =
    (λ is. record { kind = kind.0 is; file = file; place = place }, λ h. kind.1 h.kind)

-- faults are equal where their parts are
same-fault : (fault other : ConfigFault) → fault.kind ≡ other.kind → fault.file ≡ other.file → fault.line ≡ other.line
    → fault ≡ other
same-fault fault other kind file line = λ i. record { kind = kind i; file = file i; line = line i }

pub same-by : (fault other : ConfigFault) (result : Bool) → Decides result (fault.kind ≡ other.kind)
    → fault.file ≡ other.file → fault.line ≡ other.line → Decides result (fault ≡ other)
same-by fault other result kind file line =
    (λ is. same-fault fault other (kind.0 is) file line, λ same. kind.1 (ap (λ (f : ConfigFault). f.kind) same))

pub files-same : (fault other : ConfigFault) → fault ≡ other → fault.file ≡ other.file
files-same fault other same = ap (λ (f : ConfigFault). f.file) same

pub lines-same : (fault other : ConfigFault) → fault ≡ other → fault.line ≡ other.line
lines-same fault other same = ap (λ (f : ConfigFault). f.line) same

-- ---- where it stands

pub spotted-by : (kind : ConfigKind) (tokens : List Token) (at : ℕ) (place : Option ℕ) (column : ℕ) (spotted : Spotted)
    → Some column ≡ place → spotted.column ≡ column → spotted.meant ≡ name_of kind tokens at
    → IsSpotted kind tokens at place (Some spotted)
spotted-by kind tokens at place column spotted is same found = subst (λ p. IsSpotted kind tokens at p (Some spotted)) is
    (same, subst (λ meant. IsNameOf kind tokens at meant) (sym found) (name-is kind tokens at))

pub unspotted-by : (kind : ConfigKind) (tokens : List Token) (at : ℕ) (place : Option ℕ) → None ≡ place
    → IsSpotted kind tokens at place None
unspotted-by kind tokens at place is = subst (λ p. IsSpotted kind tokens at p None) is refl

pub spot-found : {E : Type 0} (tokens : List Token) (column : ℕ → Option ℕ) (fault again : ConfigFault)
    (result : Result (Option Spotted) E) → IsAgain fault again
    → IfOk result (λ spotted. IsSpotted fault.kind tokens (again.line - 1) (column (again.line - 1)) spotted)
    → IfOk result (λ spotted. IsSpotOf tokens column fault (Some again) spotted)
spot-found tokens column fault again (Ok spotted) is h = inl (is, h)
spot-found tokens column fault again (Err e) is h = tt

pub in-list : {E : Type 0} (tokens : List Token) (column : ℕ → Option ℕ) (fault : ConfigFault) (first : Option ConfigFault)
    (result : Result (Option Spotted) E) → IsFirstWrong tokens first
    → IfOk result (λ spotted. IsSpotOf tokens column fault first spotted)
    → IfOk result (λ spotted. IsInList tokens column fault spotted)
in-list tokens column fault first (Ok spotted) wrong h = record { first = first; wrong = wrong; spot = h }
in-list tokens column fault first (Err e) wrong h = tt

-- ---- the list and the lines beside it

pub length-numbered : (n : ℕ) (tokens : List Token) → length (numbered n tokens) ≡ length tokens
length-numbered n [] = refl
length-numbered n (token ∷ tokens) = ap suc (length-numbered (more n) tokens)

columns-same : (line n : ℕ) (tokens : List Token) (at : ℕ)
    → column_at (numbered n tokens) (lines_of tokens) line at ≡ column_of line (slice_get tokens at)
columns-same line n [] at = refl
columns-same line n (token ∷ tokens) zero = refl
columns-same line n (token ∷ tokens) (suc at) = columns-same line (more n) tokens at

spot-columns : (tokens : List Token) (c d : ℕ → Option ℕ) (fault : ConfigFault) (first : Option ConfigFault)
    (spotted : Option Spotted) → ((at : ℕ) → c at ≡ d at) → IsSpotOf tokens c fault first spotted → IsSpotOf tokens d fault first spotted
spot-columns tokens c d fault None spotted same h = h
spot-columns tokens c d fault (Some again) spotted same (inl (is, h)) =
    inl (is, subst (λ column. IsSpotted fault.kind tokens (again.line - 1) column spotted) (same (again.line - 1)) h)
spot-columns tokens c d fault (Some again) spotted same (inr h) = inr h

list-columns : (tokens : List Token) (c d : ℕ → Option ℕ) (fault : ConfigFault) (spotted : Option Spotted)
    → ((at : ℕ) → c at ≡ d at) → IsInList tokens c fault spotted → IsInList tokens d fault spotted
list-columns tokens c d fault spotted same h = record {
  first = h.first;
  wrong = h.wrong;
  spot = spot-columns tokens c d fault h.first spotted same h.spot;
}

one-listed : (all tokens : List Token) (lines : List ℕ) (fault : ConfigFault) (spotted : Option Spotted)
    → tokens ≡ numbered 0 all → lines ≡ lines_of all
    → IsInList tokens (column_at tokens lines fault.line) fault spotted → IsListed all fault spotted
one-listed all tokens lines fault spotted is own h =
    list-columns (numbered 0 all) (column_at (numbered 0 all) (lines_of all) fault.line)
    (λ at. column_of fault.line (slice_get all at)) fault spotted (columns-same fault.line 0 all)
    (subst (λ ls. IsInList (numbered 0 all) (column_at (numbered 0 all) ls fault.line) fault spotted) own
    (subst (λ ts. IsInList ts (column_at ts lines fault.line) fault spotted) is h))

pub listed-by : {E : Type 0} (all tokens : List Token) (lines : List ℕ) (fault : ConfigFault) (result : Result (Option Spotted) E)
    → tokens ≡ numbered 0 all → lines ≡ lines_of all
    → IfOk result (λ spotted. IsInList tokens (column_at tokens lines fault.line) fault spotted)
    → IfOk result (λ spotted. IsListed all fault spotted)
listed-by all tokens lines fault (Ok spotted) is own h = one-listed all tokens lines fault spotted is own h
listed-by all tokens lines fault (Err e) is own h = tt
