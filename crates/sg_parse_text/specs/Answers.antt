-- What a call answers.
use Rattle.std.specs.Prelude.{◌≡◌, ◌-◌, ℕ, List, [], length, Some, slice_get, Result, Ok, Err}
use Rattle.sg_lex.specs.declared.token.Token.{Token}
use Rattle.sg_lex.specs.declared.fault.ConfigFault.{ConfigFault}
use Rattle.sg_lex.specs.declared.fault.ConfigKind.TheVariants.{Unexpected}
use Rattle.sg_parse_base.specs.declared.fault.ParseFault.{ParseFault}
use Rattle.sg_parse_base.specs.Input.{ParseOutcome, fault_at}
use Rattle.sg_parse_obj.specs.declared.whole.ParseRefusal.{ParseRefusal}
use Rattle.sg_parse_obj.specs.declared.whole.ParseRefusal.TheVariants.{Bad, NoMemory}
use Rattle.sg_parse_obj.specs.Objects.{spots_at}
use Rattle.sg_parse_obj.specs.Answers.{fault_of, IsBadSyntax}
use Rattle.sg_parse_text.specs.declared.statement.Statement.{Statement}

abbrev pub unexpected_on : Token → ConfigFault
unexpected_on token = record { kind = Unexpected; file = token.file; line = token.line }

-- nothing goes on at that place
abbrev pub IsUnexpected : List Token → ℕ → ConfigFault → Type 0
IsUnexpected tokens at fault = (last : Token) × (slice_get tokens (length tokens - 1) ≡ Some last)
    × (fault ≡ fault_of (fault_at Unexpected (spots_at tokens at)) last)

abbrev pub RefusesParse : {A : Type 0} → List Token → ParseOutcome A → ParseRefusal → Type 0
RefusesParse tokens outcome (Bad fault) =
    (first : ParseFault) × (last : Token) × (outcome ≡ Err first)
    × (slice_get tokens (length tokens - 1) ≡ Some last) × (fault ≡ fault_of first last)
RefusesParse tokens outcome NoMemory = Unit {0}

-- what stands at a place, and the place behind it, or the first fault, unless memory runs out
abbrev pub Answers : {A : Type 0} → List Token → ParseOutcome A → Result (A × ℕ) ParseRefusal
    → Type 0
Answers tokens outcome (Ok x) = outcome ≡ Ok (x.0, spots_at tokens x.1)
Answers tokens outcome (Err refusal) = RefusesParse tokens outcome refusal

-- the same where the place alone is told
abbrev pub AnswersPlace : List Token → ParseOutcome (Unit {0}) → Result ℕ ParseRefusal → Type 0
AnswersPlace tokens outcome (Ok next) = outcome ≡ Ok (tt, spots_at tokens next)
AnswersPlace tokens outcome (Err refusal) = RefusesParse tokens outcome refusal

-- and where nothing is left
abbrev pub AnswersAll : List Token → ParseOutcome (List Statement)
    → Result (List Statement) ParseRefusal → Type 0
AnswersAll tokens outcome (Ok found) = outcome ≡ Ok (found, [])
AnswersAll tokens outcome (Err refusal) = RefusesParse tokens outcome refusal

abbrev pub IsRefused : Result (List Statement) ParseRefusal → Type 0
IsRefused (Ok found) = ⊥
IsRefused (Err refusal) = IsBadSyntax refusal
