-- What the words of the command line ask for, without the program's name.
use Rattle.std.specs.Prelude.{ℕ, ◌<◌, ◌≤◌, Bool, true, false, if◌then◌else◌, List, [], ◌∷◌, codes, Option, Some, None}
use Rattle.std.specs.Option.{option_map}
use Rattle.std.specs.Str.{bytes_eq}
use Rattle.sg_words.specs.declared.command.Command.{Command}
use Rattle.sg_words.specs.declared.command.Command.TheVariants as command
use Rattle.sg_words.specs.Numbers.{most_rounds, most_records, number_of}

pub data Asked : Type 0 where
  check : List ℕ → Asked
  trace : (file source input : List ℕ) → Asked
  run : List ℕ → Bool → ℕ → Asked
  spool : List ℕ → Asked
  drill : ℕ → Asked
  help : Asked
  version : Asked

abbrev pub asked_by : Command → Asked
asked_by (command.Check file) = check file.now
asked_by (command.Trace file source input) = trace file.now source.now input.now
asked_by (command.Run file once rounds) = run file.now once rounds
asked_by (command.Spool file) = spool file.now
asked_by (command.Drill records) = drill records
asked_by command.Help = help
asked_by command.Version = version

abbrev pub one_file : (List ℕ → Asked) → List (List ℕ) → Option Asked
one_file make (file ∷ []) = Some (make file)
one_file make _ = None

abbrev pub trace_of : List (List ℕ) → Option Asked
trace_of (file ∷ source ∷ input ∷ []) = Some (trace file source input)
trace_of _ = None

-- --rounds N, or nothing
abbrev pub rounds_in : List (List ℕ) → Option ℕ
rounds_in [] = Some most_rounds
rounds_in (word ∷ number ∷ []) = if bytes_eq word (codes "--rounds") then number_of most_rounds number else None
rounds_in _ = None

-- [--once] [--rounds N]
abbrev pub run_with : List ℕ → List (List ℕ) → Option Asked
run_with file [] = option_map (run file false) (rounds_in [])
run_with file (word ∷ words) =
    if bytes_eq word (codes "--once") then option_map (run file true) (rounds_in words) else option_map (run file false) (rounds_in (word ∷ words))

abbrev pub run_of : List (List ℕ) → Option Asked
run_of [] = None
run_of (file ∷ words) = run_with file words

abbrev pub drill_of : List (List ℕ) → Option Asked
drill_of (number ∷ []) = option_map drill (number_of most_records number)
drill_of _ = None

abbrev pub alone : Asked → List (List ℕ) → Option Asked
alone asked [] = Some asked
alone asked _ = None

abbrev pub told_behind : List ℕ → List (List ℕ) → Option Asked
told_behind word words =
    if bytes_eq word (codes "--help") then alone help words
    else (if bytes_eq word (codes "--version") then alone version words
    else None)

-- by the first word
abbrev pub asked_behind : List ℕ → List (List ℕ) → Option Asked
asked_behind word words =
    if bytes_eq word (codes "check") then one_file check words
    else (if bytes_eq word (codes "trace") then trace_of words
    else (if bytes_eq word (codes "run") then run_of words
    else (if bytes_eq word (codes "spool") then one_file spool words
    else (if bytes_eq word (codes "drill") then drill_of words
    else told_behind word words))))

-- none where the words are of no command
abbrev pub asked : List (List ℕ) → Option Asked
asked [] = None
asked (word ∷ words) = asked_behind word words

-- the numbers are within their bounds
abbrev pub IsCommandWithin : Command → Type 0
IsCommandWithin (command.Run file once rounds) = (0 < rounds) × (rounds ≤ most_rounds)
IsCommandWithin (command.Drill records) = (0 < records) × (records ≤ most_records)
IsCommandWithin (command.Check file) = Unit {0}
IsCommandWithin (command.Trace file source input) = Unit {0}
IsCommandWithin (command.Spool file) = Unit {0}
IsCommandWithin command.Help = Unit {0}
IsCommandWithin command.Version = Unit {0}
