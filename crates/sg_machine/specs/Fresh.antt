-- What `replay` keeps at first, and what it adds up at last.
use Rattle.std.specs.Prelude.{◌-◌, [], length, map}
use Rattle.std.specs.Option.{option_map}
use Rattle.sg_machine.specs.declared.setup.SourceSetup.{SourceSetup}
use Rattle.sg_machine.specs.declared.setup.DestSetup.{DestSetup}
use Rattle.sg_machine.specs.declared.setup.Setup.{Setup}
use Rattle.sg_machine.specs.declared.running.SourceRun.{SourceRun}
use Rattle.sg_machine.specs.declared.running.DestRun.{DestRun}
use Rattle.sg_machine.specs.declared.running.Run.{Run}
use Rattle.sg_machine.specs.declared.tally.SourceTally.{SourceTally}
use Rattle.sg_machine.specs.declared.tally.DestTally.{DestTally}
use Rattle.sg_machine.specs.declared.tally.Tally.{Tally}

abbrev pub fresh_source : SourceSetup → SourceRun
fresh_source setup = record { setup = setup; stored = 0; records = []; acked = 0; mark = 0 }

abbrev pub fresh_dest : DestSetup → DestRun
fresh_dest setup = record {
  setup = setup;
  kept = [];
  taken = 0;
  moved = 0;
  unflowed = 0;
  used = 0;
  dropped_full = 0;
  dropped_disk = 0;
}

abbrev pub fresh_run_of : Setup → Run
fresh_run_of setup = record {
  sources = map fresh_source setup.sources;
  dests = map fresh_dest setup.dests;
  failed = [];
}

abbrev pub source_sum : SourceRun → SourceTally
source_sum source = record {
  records = length source.records;
  mark = source.mark;
  stored = option_map (λ _. source.stored) source.setup.store;
}

abbrev pub dest_sum : DestRun → DestTally
dest_sum dest = record {
  taken = dest.taken;
  dropped_full = dest.dropped_full;
  dropped_disk = dest.dropped_disk;
  left = length dest.kept - dest.taken;
}

abbrev pub sum_of : Run → Tally
sum_of run = record { sources = map source_sum run.sources; dests = map dest_sum run.dests }
