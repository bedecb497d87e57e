-- The line that tells what is wrong with a configuration.
use Rattle.std.specs.Prelude.{ℕ, List, [], ◌++◌, codes, slice_get, unwrap_or}
use Rattle.std.specs.Fmt.{decimal}
use Rattle.sg_lex.specs.declared.fault.ConfigFault.{ConfigFault}
use Rattle.sg_lex.specs.declared.fault.ConfigKind.{ConfigKind}
use Rattle.sg_lex.specs.declared.fault.ConfigKind.TheVariants.{OpenString, BadByte, Version, IncludeDepth, UnknownVariable, MissingArgument, UnknownArgument, TooLong, Unexpected, Unsupported, BadNumber, DepthOver64, OpenBrace, Function, UnknownName, DuplicateName, MissingOption, BadValue, HardMacro, BadPattern, FilterCycle, SourcePlace, Limit, TooManyOffers, PatternTooLarge}

abbrev pub kind_text_of : ConfigKind → List ℕ
kind_text_of OpenString = codes "string not closed"
kind_text_of BadByte = codes "unexpected byte"
kind_text_of Version = codes "version not supported"
kind_text_of IncludeDepth = codes "includes nested too deep"
kind_text_of UnknownVariable = codes "unknown variable"
kind_text_of MissingArgument = codes "argument missing"
kind_text_of UnknownArgument = codes "unknown argument"
kind_text_of TooLong = codes "configuration too long"
kind_text_of Unexpected = codes "unexpected token"
kind_text_of Unsupported = codes "not supported"
kind_text_of BadNumber = codes "not a number"
kind_text_of DepthOver64 = codes "nested too deep"
kind_text_of OpenBrace = codes "template brace not closed"
kind_text_of Function = codes "template function"
kind_text_of UnknownName = codes "unknown name"
kind_text_of DuplicateName = codes "name defined twice"
kind_text_of MissingOption = codes "option missing"
kind_text_of BadValue = codes "value out of range"
kind_text_of HardMacro = codes "macro cannot be set"
kind_text_of BadPattern = codes "pattern not valid"
kind_text_of FilterCycle = codes "filter refers to itself"
kind_text_of SourcePlace = codes "source not allowed here"
kind_text_of Limit = codes "too many"
kind_text_of TooManyOffers = codes "too many offers"
kind_text_of PatternTooLarge = codes "pattern too large"

-- the name of the file of that number
abbrev pub name_at : List (List ℕ) → ℕ → List ℕ
name_at names file = unwrap_or (slice_get names file) []

abbrev pub fault_text_of : ConfigFault → List (List ℕ) → List ℕ
fault_text_of fault names = name_at names fault.file
    ++ (codes ":" ++ (decimal fault.line
    ++ (codes ": " ++ (kind_text_of fault.kind ++ codes "\n"))))
