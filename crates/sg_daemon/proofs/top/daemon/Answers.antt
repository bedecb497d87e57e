use Rattle.sg_daemon.proofs.top.daemon.Goals as goal

pub run-requires-clause-some : goal.run-requires-clause-some
run-requires-clause-some g c = λ κs lives. (rw c.in-Some-Run.field-0-is at c.in-Some-Run.ensures.within).0

pub run-requires-clause-rounds : goal.run-requires-clause-rounds
run-requires-clause-rounds g c = λ κs lives. (rw c.in-Some-Run.field-0-is at c.in-Some-Run.ensures.within).1

pub drill-requires-clause-records : goal.drill-requires-clause-records
drill-requires-clause-records g c = λ κs lives. (rw c.in-Some-Drill.field-0-is at c.in-Some-Drill.ensures.within).1
