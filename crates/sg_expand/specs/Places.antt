-- The files in which tokens and faults stand.
use Rattle.std.specs.Prelude.{◌<◌, length, Result, Ok, Err}
use Rattle.std.specs.List.{All}
use Rattle.sg_expand.specs.declared.fault.Expanded.{Expanded}
use Rattle.sg_expand.specs.declared.fault.ExpandRefusal.{ExpandRefusal}
use Rattle.sg_expand.specs.declared.fault.ExpandRefusal.TheVariants.{Bad, ReadFault, NoMemory}

-- the file of each token, or of a fault, is one of the names
abbrev pub AreFilesPlaced : Result Expanded ExpandRefusal → Type 0
AreFilesPlaced (Ok expanded) = All (λ token. token.file < length expanded.names) expanded.tokens
AreFilesPlaced (Err (Bad fault names)) = fault.file < length names
AreFilesPlaced (Err (ReadFault file)) = Unit {0}
AreFilesPlaced (Err NoMemory) = Unit {0}
