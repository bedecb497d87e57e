use Rattle.std.proofs.Common.{◌≡◌, map, deque_len}
use Rattle.sg_outside.specs.World.{WorldState}
use Rattle.sg_serve.specs.Devices.{ClosesOutlets}
use Rattle.sg_serve.specs.Exits.{out_of}
use Rattle.sg_serve.proofs.outlets.close_ways.Given as goal

abbrev pub invariant-loop-way : goal.invariant-loop-way
invariant-loop-way g l = record {
  closes : (new : WorldState) → ClosesOutlets (g.W.Machine.state l.world) new (map (out_of g.W.Drain.Outlet.state g.W.Paths.Opener.state g.W.Store.Disk.state) l.rest.items)
      → ClosesOutlets (g.W.Machine.state l.fn.world) new (map (out_of g.W.Drain.Outlet.state g.W.Paths.Opener.state g.W.Store.Disk.state) l.fn.ways.items);
  last : l.last ≡ l.fn.last;
}

abbrev pub decreases-loop-way : goal.decreases-loop-way
decreases-loop-way g l = deque_len l.rest
