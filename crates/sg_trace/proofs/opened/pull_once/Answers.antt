use Rattle.std.proofs.Common.{◌≤◌, length, arith, w64}
use Rattle.std.proofs.lemmas.Int.{to_z-of_z, ints}
use Rattle.std.specs.Prelude.{FitsSigned as SFits}
use Rattle.sg_trace.proofs.Readings.{reads-pulled}
use Rattle.sg_trace.proofs.opened.pull_once.Goals as goal

pub returns-in_ok-feed-in-Ok-Bytes-clause-pulls : goal.returns-in_ok-feed-in-Ok-Bytes-clause-pulls
returns-in_ok-feed-in-Ok-Bytes-clause-pulls g c = λ kind limit first items reads.
    let fills = rw c.in-Ok-Bytes.field-0-is at c.in-Ok-Bytes.ensures.fills in
    let whole = fills.whole in
    let told = rw c.in-Ok-Bytes.field-0-is at c.in-Ok-Bytes.ensures.told in
    let place = rw c.in-Ok-Bytes.field-0-is at c.in-Ok-Bytes.ensures.place in
    let adds = rw c.in-Ok-Bytes.field-0-is at c.in-Ok-Bytes.ensures.adds in
    let feed = g.I.Inlet.state c.args.feed.now in
    let feed' = g.I.Inlet.state c.pull.new.self in
    let fits : c.in-Ok-Bytes.len ≤ length c.pull.new.into = omega (arith, fills.size, whole.1) in
    let in_range : SFits w64 c.in-Ok-Bytes.at = omega (arith, ints, whole.2, whole.3) in
    let at = to_z-of_z w64 c.in-Ok-Bytes.at in_range in
    reads-pulled kind limit first feed feed' c.args.framer.now c.feed.new.self items c.pull.new.into _ c.in-Ok-Bytes.len c.in-Ok-Bytes.at _ reads whole fits at told place adds.counts
    adds.faults c.in_ok-feed-in-Ok-Bytes.ensures.fed c.in_ok-feed-in-Ok-Bytes.ensures.history
