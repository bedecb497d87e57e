use Rattle.sg_msg.proofs.sorting.+sink.Given as goal

abbrev pub decreases-sink : goal.decreases-sink
decreases-sink l = l.at
