use Rattle.std.proofs.Common.{◌<◌, length, get_or, arith}
use Rattle.std.proofs.lemmas.List.{get_or_default}
use Rattle.std.proofs.lemmas.List.Edits.{map_over_more}
use Rattle.sg_template.specs.Path.{name_byte}
use Rattle.sg_template.proofs.path.make_name_bytes.Goals as goal

pub loop-byte-preserved : goal.loop-byte-preserved
loop-byte-preserved c =
    let i = c.loop-byte.byte-index in
    let x = get_or c.loop-byte.text i 0 in
    let within : i < length c.args.text.now = omega (arith, c.loop-byte.auto.text) in
    rw c.name_byte.ensures (map_over_more name_byte c.args.text.now c.loop-byte.text i x within c.loop-byte.invariant
    (get_or_default c.loop-byte.text i 0 x (omega (arith, c.loop-byte.auto.text))))
