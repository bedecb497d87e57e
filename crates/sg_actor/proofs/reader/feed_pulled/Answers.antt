use Rattle.std.proofs.Common.{refl, arith, w64}
use Rattle.std.proofs.lemmas.Int.{to_z-of_z, ints}
use Rattle.std.specs.Prelude.{FitsSigned as SFits}
use Rattle.sg_actor.proofs.reader.feed_pulled.Goals as goal

pub returns : goal.returns
returns c =
    let unfed = rw c.in-Bytes.is at c.requires.unfed in
    let in_range : SFits w64 c.in-Bytes.at = omega (arith, ints, unfed.1.0, unfed.1.1) in
    let moment = to_z-of_z w64 c.in-Bytes.at in_range in
    rw c.in-Bytes.is (record {
      rest = refl;
      framer = rw moment at c.in_ok-feed.ensures.fed;
      goes = rw moment at c.in_ok-feed.ensures.history;
    })
