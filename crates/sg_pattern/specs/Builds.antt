-- What building a pattern answers.
use Rattle.std.specs.Prelude.{◌≡◌, ℕ, Bool, List, [], None, Result, Ok, Err, IsSome, IsSomeAnd}
use Rattle.std.specs.Borrow.{Bor}
use Rattle.sg_device.specs.Faults.{Rose}
use Rattle.sg_outside.specs.World.{WorldState, OnlyBuilds}
use Rattle.regex.specs.Patterns.{Re, SameCaptures}
use Rattle.regex.specs.Bytes.{regex_pattern}
use Rattle.regex.specs.declared.bytes.regex.Regex as kit
use Rattle.sg_pattern.specs.Pattern.{Pattern, regex_of, pattern_of, IsValidPattern, IsNoPattern}
use Rattle.sg_pattern.specs.declared.pattern.Kind.{Kind}
use Rattle.sg_pattern.specs.declared.pattern.Kind.TheVariants.{Regex, Text, Glob}
use Rattle.sg_pattern.specs.declared.fault.BuildFault.{BuildFault}
use Rattle.sg_pattern.specs.declared.fault.BuildFault.TheVariants.{Syntax, TooLarge, NoMemory}
use Rattle.sg_pattern.specs.declared.fault.PatternRefusal.{PatternRefusal}
use Rattle.sg_pattern.specs.declared.fault.PatternRefusal.TheVariants as refusal
use Rattle.sg_pattern.specs.declared.text.PatternText.{PatternText}
use Rattle.sg_pattern.specs.declared.text.BuildRefusal.{BuildRefusal}
use Rattle.sg_pattern.specs.declared.text.BuildRefusal.TheVariants as build

-- a machine that holds nothing, and has refused so many patterns as too large
abbrev pub refusing_machine : ℕ → WorldState
refusing_machine count = record {
  files = None;
  unread = None;
  inlets = record { opened = []; closed = [] };
  outlets = record { opened = []; closed = [] };
  stores = record { opened = []; closed = [] };
  paths = record { opened = []; closed = [] };
  store_names = None;
  said = None;
  read_faults = 0;
  inlet_faults = 0;
  outlet_faults = 0;
  store_faults = 0;
  paths_faults = 0;
  say_faults = 0;
  build_faults = count;
}

-- the text is a regular expression, and a caller sees the same of this one
abbrev pub MatchesAs : Bool → List ℕ → Re → Type 0
MatchesAs ignore_case text re = IsSomeAnd (regex_of ignore_case text) (SameCaptures re)

-- the answer of a builder, which lends what it made
abbrev pub answer_of : Result (Bor kit.Regex) BuildFault → Result kit.Regex BuildFault
answer_of (Ok regex) = Ok regex.now
answer_of (Err fault) = Err fault

abbrev pub Builds : WorldState → WorldState → List ℕ → Bool → Result kit.Regex BuildFault → Type 0
Builds old new text ignore_case (Ok regex) = OnlyBuilds old new
    × MatchesAs ignore_case text (regex_pattern regex) × (new.build_faults ≡ old.build_faults)
Builds old new text ignore_case (Err Syntax) = OnlyBuilds old new
    × (regex_of ignore_case text ≡ None)
Builds old new text ignore_case (Err TooLarge) = OnlyBuilds old new
    × Rose old.build_faults new.build_faults × IsSome (regex_of ignore_case text)
Builds old new text ignore_case (Err NoMemory) = OnlyBuilds old new

-- no pattern was refused for its size
abbrev pub RefusesNone : WorldState → WorldState → Type 0
RefusesNone old new = new.build_faults ≡ old.build_faults

-- the calls of a builder: the builder before, the text, whether case doesn't count, the answer, and the builder behind
abbrev pub BuilderCalls : Type 0 → Type 1
BuilderCalls S = S → List ℕ → Bool → Result kit.Regex BuildFault → S → Type 0

-- as the machine shows them
abbrev pub machine_calls : BuilderCalls WorldState
machine_calls = λ old text ignore_case result new. Builds old new text ignore_case result

-- a builder's own, with what the machine shows of them
abbrev pub calls_by : {S : Type 0} → (S → WorldState) → BuilderCalls S → BuilderCalls S
calls_by state step = λ old text ignore_case result new.
    step old text ignore_case result new × Builds (state old) (state new) text ignore_case result

-- A regular expression is made by one call of a builder, any other pattern without one.
abbrev pub makes_kind : {S : Type 0} → BuilderCalls S → Kind → S → List ℕ → Bool → S → Type 0
makes_kind step Regex old text ignore_case new = (regex : kit.Regex)
    × step old text ignore_case (Ok regex) new
makes_kind step Text old text ignore_case new = new ≡ old
makes_kind step Glob old text ignore_case new = new ≡ old

-- the pattern was made
abbrev pub MakesOne : {S : Type 0} → BuilderCalls S → S → PatternText → S → Type 0
MakesOne step old p new = makes_kind step p.kind old p.text p.flags.ignore_case new

-- its builder refused it for its size
abbrev pub RefusesLarge : {S : Type 0} → BuilderCalls S → S → PatternText → S → Type 0
RefusesLarge step old p new = (p.kind ≡ Regex)
    × step old p.text p.flags.ignore_case (Err TooLarge) new

-- a regular expression of the pattern, as the builder makes it
pub record IsBuilt (p : Pattern) : Type 0 where
  pub regex : kit.Regex
  pub matches : MatchesAs p.flags.ignore_case p.text (regex_pattern regex)

-- one was made of it, where it is of that kind
abbrev pub WasMade : Pattern → Type 0
WasMade p = p.kind ≡ Regex → IsBuilt p

-- why a pattern was refused: what is too large is a pattern
abbrev pub RefusesPattern : WorldState → WorldState → Pattern → PatternRefusal → Type 0
RefusesPattern old new p refusal.Syntax = IsNoPattern p
RefusesPattern old new p refusal.TooLarge = (p.kind ≡ Regex)
    × Rose old.build_faults new.build_faults × IsValidPattern p
RefusesPattern old new p refusal.NoMemory = Unit {0}

-- why nothing was made of a pattern that a configuration writes
abbrev pub RefusesText : WorldState → WorldState → PatternText → BuildRefusal → Type 0
RefusesText old new p (build.BadPattern line) = (line ≡ p.line) × IsNoPattern (pattern_of p)
RefusesText old new p (build.TooLarge line) = (line ≡ p.line) × (p.kind ≡ Regex)
    × Rose old.build_faults new.build_faults × IsValidPattern (pattern_of p)
RefusesText old new p build.NoMemory = Unit {0}

-- what making a pattern comes to, by the calls of its builder
abbrev pub TriesText : {S : Type 0} → BuilderCalls S → S → S → PatternText
    → Result Unit BuildRefusal
    → Type 0
TriesText step old new p (Ok done) = MakesOne step old p new
TriesText step old new p (Err (build.BadPattern line)) = (line ≡ p.line)
    × IsNoPattern (pattern_of p)
TriesText step old new p (Err (build.TooLarge line)) = (line ≡ p.line)
    × RefusesLarge step old p new
TriesText step old new p (Err build.NoMemory) = Unit {0}
