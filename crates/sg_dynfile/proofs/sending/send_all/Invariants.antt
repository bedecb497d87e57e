use Rattle.std.proofs.Common.{◌≡◌, ◌<◌, take, drop}
use Rattle.std.specs.Prelude.{map, length}
use Rattle.sg_device.specs.Frames.{joined, total}
use Rattle.sg_dynfile.specs.Tracks.{Tracks}
use Rattle.sg_dynfile.specs.Sending.{IsUnderWay, AreReady}
use Rattle.sg_dynfile.proofs.sending.send_all.Given as goal

abbrev pub invariant-loop-size : goal.invariant-loop-size
invariant-loop-size g l = record {
  rest : l.rest ≡ drop (total (take l.size-index (map length l.frames))) (joined l.frames);
  tracks : Tracks (g.P.Opener.state l.opener) l.open_paths;
  ready : AreReady (g.P.Opener.state l.opener) l.waiting.places.items l.waiting.texts;
  way : IsUnderWay (g.P.Opener.state l.fn.opener) (g.P.Opener.state l.opener) (take l.size-index l.frames) l.waiting.places.items l.waiting.texts;
  some : 0 < l.size-index → 0 < length l.waiting.texts;
}
