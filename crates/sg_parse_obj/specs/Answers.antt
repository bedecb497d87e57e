-- What a call answers.
use Rattle.std.specs.Prelude.{◌≡◌, ◌-◌, ℕ, List, length, Option, Some, None, slice_get, Result, Ok, Err}
use Rattle.sg_lex.specs.declared.token.Token.{Token}
use Rattle.sg_lex.specs.declared.place.Line.{Line}
use Rattle.sg_lex.specs.declared.fault.ConfigKind.{ConfigKind}
use Rattle.sg_lex.specs.declared.fault.ConfigFault.{ConfigFault}
use Rattle.sg_parse_base.specs.declared.fault.ParseFault.{ParseFault}
use Rattle.sg_parse_base.specs.Input.{ParseOutcome}
use Rattle.sg_parse_obj.specs.declared.object.Object.{Object}
use Rattle.sg_parse_obj.specs.declared.whole.ParseRefusal.{ParseRefusal}
use Rattle.sg_parse_obj.specs.declared.whole.ParseRefusal.TheVariants.{Bad, NoMemory}
use Rattle.sg_parse_obj.specs.Objects.{spots_at}

abbrev pub fault_on : ConfigKind → Option Line → Token → ConfigFault
fault_on kind (Some line) last = record { kind = kind; file = line.file; line = line.line }
fault_on kind None last = record { kind = kind; file = last.file; line = last.line }

-- a fault behind the last token stands on its line
abbrev pub fault_of : ParseFault → Token → ConfigFault
fault_of fault last = fault_on fault.kind fault.at last

abbrev pub RefusesObject : List Token → ParseOutcome Object → ParseRefusal → Type 0
RefusesObject tokens outcome (Bad fault) =
    (first : ParseFault) × (last : Token) × (outcome ≡ Err first)
    × (slice_get tokens (length tokens - 1) ≡ Some last) × (fault ≡ fault_of first last)
RefusesObject tokens outcome NoMemory = Unit {0}

-- the statement and the place behind it, or the first fault, unless memory runs out
abbrev pub AnswersObject : List Token → ParseOutcome Object → Result (Object × ℕ) ParseRefusal
    → Type 0
AnswersObject tokens outcome (Ok x) = outcome ≡ Ok (x.0, spots_at tokens x.1)
AnswersObject tokens outcome (Err refusal) = RefusesObject tokens outcome refusal

abbrev pub IsBadSyntax : ParseRefusal → Type 0
IsBadSyntax (Bad fault) = Unit {0}
IsBadSyntax NoMemory = ⊥

abbrev pub IsObjectRefused : Result (Object × ℕ) ParseRefusal → Type 0
IsObjectRefused (Ok x) = ⊥
IsObjectRefused (Err refusal) = IsBadSyntax refusal
