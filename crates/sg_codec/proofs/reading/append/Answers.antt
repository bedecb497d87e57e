use Rattle.sg_codec.specs.Reading.{last_name}
use Rattle.sg_codec.proofs.FieldLaws.{may_follow-parts}
use Rattle.sg_codec.proofs.reading.append.Goals as goal

-- the name isn't a macro's
pub put-requires : goal.put-requires
put-requires c =
    let parts = may_follow-parts (last_name c.args.builder.now.put) c.args.name.now c.requires.follows in
    rw c.in_ok-clone.ensures.cases (c.requires.size.0, c.requires.size.1, parts.1)
