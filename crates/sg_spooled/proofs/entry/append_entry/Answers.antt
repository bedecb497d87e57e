use Rattle.std.proofs.Common.{rules, Some, subst}
use Rattle.sg_spooled.specs.Walking.{IsRead}
use Rattle.sg_spooled.proofs.entry.append_entry.Goals as goal

pub returns-in_ok-append_about-in-Entry : goal.returns-in_ok-append_about-in-Entry
returns-in_ok-append_about-in-Entry c =
    let read = subst (λ r. IsRead c.args.payload.now r) c.in-Entry.is c.in_ok-kept.ensures in
    (Some c.in-Entry.kept, (read, c.in_ok-entry_text-in-Entry.ensures.ok))
