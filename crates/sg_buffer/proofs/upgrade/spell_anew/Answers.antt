use Rattle.std.proofs.Common.{rules, ◌≡◌, Err, sym, ◌∙◌}
use Rattle.sg_codec.specs.Reading.{reading}
use Rattle.sg_buffer.proofs.Upgrades.{older-len, upgraded-entry, upgraded-damaged}
use Rattle.sg_buffer.proofs.upgrade.spell_anew.Goals as goal

pub encode-requires-clause-len : goal.encode-requires-clause-len
encode-requires-clause-len c = older-len c.args.payload.now c.in-Ok.kept c.requires c.in-Ok.ensures.exact

pub returns-in_ok-encode-in-Ok-clause-payload : goal.returns-in_ok-encode-in-Ok-clause-payload
returns-in_ok-encode-in-Ok-clause-payload c =
    c.in_ok-encode-in-Ok.ensures.spelling.spelled ∙ sym (upgraded-entry c.args.payload.now c.in-Ok.kept c.requires c.in-Ok.ensures.exact)

pub returns-in_ok-to_vec-in-Err-Damage-clause-payload : goal.returns-in_ok-to_vec-in-Err-Damage-clause-payload
returns-in_ok-to_vec-in-Err-Damage-clause-payload c =
    let damaged : reading c.args.payload.now ≡ Err c.in-Err-Damage.field-0-0 = rw c.in-Err-Damage.field-0-is at c.in-Err-Damage.ensures.exact in
    let same : c.in_ok-to_vec-in-Err-Damage.field-0.items ≡ c.args.payload.now = search rules in
    same ∙ sym (upgraded-damaged c.args.payload.now c.in-Err-Damage.field-0-0 c.requires damaged)
