-- What a call answers.
use Rattle.std.specs.Prelude.{◌≡◌, ◌-◌, ℕ, List, length, Some, slice_get, Result, Ok, Err}
use Rattle.sg_lex.specs.declared.token.Token.{Token}
use Rattle.sg_parse_base.specs.declared.fault.ParseFault.{ParseFault}
use Rattle.sg_parse_base.specs.Input.{ParseOutcome}
use Rattle.sg_parse_path.specs.declared.tree.RawLog.{RawLog}
use Rattle.sg_parse_obj.specs.declared.whole.ParseRefusal.{ParseRefusal}
use Rattle.sg_parse_obj.specs.declared.whole.ParseRefusal.TheVariants.{Bad, NoMemory}
use Rattle.sg_parse_obj.specs.Objects.{spots_at}
use Rattle.sg_parse_obj.specs.Answers.{fault_of, IsBadSyntax}

abbrev pub RefusesLog : List Token → ParseOutcome RawLog → ParseRefusal → Type 0
RefusesLog tokens outcome (Bad fault) =
    (first : ParseFault) × (last : Token) × (outcome ≡ Err first)
    × (slice_get tokens (length tokens - 1) ≡ Some last) × (fault ≡ fault_of first last)
RefusesLog tokens outcome NoMemory = Unit {0}

-- the log statement and the place behind it, or the first fault, unless memory runs out
abbrev pub AnswersLog : List Token → ParseOutcome RawLog → Result (RawLog × ℕ) ParseRefusal → Type 0
AnswersLog tokens outcome (Ok x) = outcome ≡ Ok (x.0, spots_at tokens x.1)
AnswersLog tokens outcome (Err refusal) = RefusesLog tokens outcome refusal

abbrev pub IsLogRefused : Result (RawLog × ℕ) ParseRefusal → Type 0
IsLogRefused (Ok x) = ⊥
IsLogRefused (Err refusal) = IsBadSyntax refusal
