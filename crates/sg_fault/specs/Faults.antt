-- Faults with their places, of which the first is told.
use Rattle.std.specs.Prelude.{ℕ, ◌+◌, ◌*◌, nat_lt, if◌then◌else◌, List, [], ◌∷◌, Option, Some, None}
use Rattle.sg_lex.specs.declared.fault.ConfigKind.{ConfigKind}
use Rattle.sg_lex.specs.declared.fault.ConfigKind.TheVariants as kind
use Rattle.sg_lex.specs.declared.fault.ConfigFault.{ConfigFault}
use Rattle.sg_fault.specs.declared.placed.Placed.{Placed}

-- the numbers of the kinds
unfoldable pub number : ConfigKind → ℕ
number kind.OpenString = 1
number kind.BadByte = 2
number kind.Version = 3
number kind.IncludeDepth = 4
number kind.UnknownVariable = 5
number kind.MissingArgument = 6
number kind.UnknownArgument = 7
number kind.TooLong = 8
number kind.Unexpected = 9
number kind.Unsupported = 10
number kind.BadNumber = 11
number kind.DepthOver64 = 12
number kind.OpenBrace = 13
number kind.Function = 14
number kind.UnknownName = 20
number kind.DuplicateName = 21
number kind.MissingOption = 22
number kind.BadValue = 23
number kind.HardMacro = 24
number kind.BadPattern = 25
number kind.FilterCycle = 26
number kind.SourcePlace = 27
number kind.Limit = 28
number kind.TooManyOffers = 29
number kind.PatternTooLarge = 30

-- by place, and at one place by the number of the kind
abbrev pub rank : Placed → ℕ
rank placed = placed.line.at * 32 + number placed.kind

abbrev pub first_of : Placed → Placed → Placed
first_of placed other = if nat_lt (rank other) (rank placed) then other else placed

abbrev pub earlier : Option Placed → Option Placed → Option Placed
earlier None other = other
earlier (Some placed) None = Some placed
earlier (Some placed) (Some next) = Some (first_of placed next)

-- the first of these faults
abbrev pub least : List Placed → Option Placed
least [] = None
least (placed ∷ others) = earlier (Some placed) (least others)

-- with the file and the line of its token
abbrev pub fault_at : Placed → ConfigFault
fault_at placed = record { kind = placed.kind; file = placed.line.file; line = placed.line.line }
