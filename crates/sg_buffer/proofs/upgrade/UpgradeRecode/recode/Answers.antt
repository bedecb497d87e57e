use Rattle.std.proofs.Common.{rules, ◌≡◌, false, sym, ◌∙◌}
use Rattle.sg_buffer.specs.Formats.{is_older}
use Rattle.sg_buffer.proofs.Upgrades.{upgraded-same}
use Rattle.sg_buffer.proofs.upgrade.UpgradeRecode.recode.Goals as goal

pub returns-clause-payload : goal.returns-clause-payload
returns-clause-payload c =
    let newer : is_older c.args.payload.now ≡ false = sym c.is_older.ensures ∙ c.if-is_older.false in
    let same : c.in_ok-to_vec.field-0.items ≡ c.args.payload.now = search rules in
    same ∙ sym (upgraded-same c.args.payload.now newer)
