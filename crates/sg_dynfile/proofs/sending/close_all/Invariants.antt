use Rattle.std.proofs.Common.{◌≡◌, length}
use Rattle.sg_dynfile.specs.Tracks.{Tracks}
use Rattle.sg_dynfile.proofs.sending.close_all.Given as goal

abbrev pub invariant-loop-opener : goal.invariant-loop-opener
invariant-loop-opener g l = record {
  tracks : Tracks (g.P.Opener.state l.opener) l.open_paths;
  same : g.P.Opener.state l.opener ≡ record (g.P.Opener.state l.fn.opener) { opened = (g.P.Opener.state l.opener).opened };
}

abbrev pub decreases-loop-opener : goal.decreases-loop-opener
decreases-loop-opener g l = length l.open_paths.names.items
