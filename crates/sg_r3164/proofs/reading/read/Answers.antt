use Rattle.std.proofs.Common.{◌≡◌, true, ℤ, ap, ◌∙◌, arith, to_z, of_z, w64}
use Rattle.std.proofs.lemmas.Int.{ints}
use Rattle.sg_r3164.specs.Options.{received_at}
use Rattle.sg_r3164.proofs.Readings.{reads_as}
use Rattle.sg_r3164.proofs.reading.read.Goals as goal

pub returns-then-opts : goal.returns-then-opts
returns-then-opts c =
    let same : to_z w64 (of_z w64 c.args.at) ≡ c.args.at = omega (arith, ints, c.requires.0, c.requires.1) in
    let received = c.received-received.ensures.value ∙ ap (λ (at : ℤ). received_at at c.args.opts.now) same in
    reads_as true c.args.opts.now c.args.at c.received-received.result c.args.peer.now c.args.item c.read_parsed.result c.if-opts.true received c.read_parsed.ensures
