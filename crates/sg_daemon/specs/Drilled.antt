-- What a drill does.
use Rattle.std.specs.Prelude.{◌≡◌, ℕ, true, List, Some, Result, Ok, Err, codes}
use Rattle.std.specs.declared.alloc.AllocError.{AllocError}
use Rattle.sg_outside.specs.World.{WorldState}
use Rattle.sg_memory_disk.specs.Stores.{store_of}
use Rattle.sg_memory.specs.Files.{file_of}
use Rattle.sg_memory.specs.Open.{feed_of, drain_of, opener_of}
use Rattle.sg_memory.specs.World.{new_world}
use Rattle.sg_memory.specs.declared.files.MemoryFile.{MemoryFile}
use Rattle.sg_words.specs.Numbers.{most_rounds}
use Rattle.sg_serve.specs.Exits.{way_of}
use Rattle.sg_drill.specs.Input.{drill_text}
use Rattle.sg_run.specs.Run.{RunsFile}
use Rattle.sg_run.specs.declared.end.End.TheVariants.{Clean}
use Rattle.sg_run.specs.declared.end.Outcome.{Outcome}

abbrev pub drill_config : List ℕ
drill_config = codes "@version: 4.2\nsource s { file(\"drill\"); };\ndestination hot { file(\"hot\" disk-buffer(reliable(yes) disk-buf-size(1048576))); };\ndestination rest { file(\"rest\"); };\nlog { source(s); filter { level(err .. emerg); }; destination(hot); flags(final flow-control); };\nlog { source(s); destination(rest); flags(flow-control); };\n"

-- the input of so many records, and the configuration
pub record AreDrillFiles (records : ℕ) (files : List MemoryFile) : Type 0 where
  pub input : file_of files (codes "drill") ≡ Some (drill_text records)
  pub config : file_of files (codes "drill.conf") ≡ Some drill_config

-- the configuration was run with `--once`, from one state of the machine to another, and nothing failed
pub record RunClean (old new : WorldState) (outcome : Outcome) : Type 0 where
  pub runs : RunsFile feed_of (way_of drain_of opener_of store_of) old new (codes "drill.conf")
      true most_rounds (Ok outcome)
  pub clean : outcome.end ≡ Clean

-- lack of memory is free
abbrev pub RunsClean : WorldState → WorldState → Result Outcome AllocError → Type 0
RunsClean old new (Ok outcome) = RunClean old new outcome
RunsClean old new (Err e) = Unit {0}

-- so it was over a machine in memory that has these files, of which nothing was asked before
pub record Drilled (records : ℕ) (outcome : Outcome) : Type 0 where
  pub files : List MemoryFile
  pub are_files : AreDrillFiles records files
  pub ran : WorldState
  pub run : RunClean (new_world files) ran outcome

abbrev pub Drills : ℕ → Result Outcome AllocError → Type 0
Drills records (Ok outcome) = Drilled records outcome
Drills records (Err e) = Unit {0}
