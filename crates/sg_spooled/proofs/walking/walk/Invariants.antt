use Rattle.sg_spooled.proofs.WalkLemmas.{IsWalking}
use Rattle.sg_spooled.proofs.walking.walk.Given as goal

abbrev pub invariant-loop-number : goal.invariant-loop-number
invariant-loop-number g l = IsWalking g.W.Store.Disk.state l.initial.spool l.spool (g.W.Machine.state l.initial.world) (g.W.Machine.state l.world) l.text.items l.gate l.number
