-- The line of what is wrong with a file's text.
use Rattle.std.specs.Prelude.{◌≡◌, ℕ, ◌≤◌, List}
use Rattle.sg_lex.specs.declared.token.LexFault.{LexFault}
use Rattle.sg_lex.specs.declared.token.LexFault.TheVariants.{OpenString, BadByte, NoMemory}
use Rattle.sg_expand.specs.declared.fault.ExpandStop.{ExpandStop}
use Rattle.sg_expand.specs.declared.fault.ExpandStop.TheVariants.{Fault, NoMemory as StopNoMemory}
use Rattle.sg_expand.specs.Expansion.{fault_in}

abbrev pub PlaceWithin : ℕ → LexFault → Type 0
PlaceWithin length (OpenString place) = place ≤ length
PlaceWithin length (BadByte place) = place ≤ length
PlaceWithin length NoMemory = Unit {0}

abbrev pub FaultIn : ℕ → List ℕ → LexFault → ExpandStop → Type 0
FaultIn file text (OpenString place) stop = stop ≡ Fault (fault_in file text (OpenString place))
FaultIn file text (BadByte place) stop = stop ≡ Fault (fault_in file text (BadByte place))
FaultIn file text NoMemory stop = stop ≡ StopNoMemory
