-- Faults by their line.
use Rattle.sg_lex.specs.declared.fault.ConfigKind.{ConfigKind}
use Rattle.sg_lex.specs.declared.fault.ConfigFault.{ConfigFault}
use Rattle.sg_block.specs.declared.token.FileLine.{FileLine}

abbrev pub fault_at : ConfigKind → FileLine → ConfigFault
fault_at kind line = record { kind = kind; file = line.file; line = line.line }
