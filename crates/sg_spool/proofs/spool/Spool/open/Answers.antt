use Rattle.std.proofs.Common.{◌≡◌}
use Rattle.std.specs.Prelude.{true, false}
use Rattle.sg_spool.proofs.Whole.{whole_open, advanced_rows}
use Rattle.sg_spool.proofs.spool.Spool.open.Goals as goal

pub invariant_of-result : goal.invariant_of-result
invariant_of-result g c =
    let found = c.in-Ok.found in
    record {
      rows = advanced_rows found.places found.count c.listed.result c.listed.ensures c.in-Ok.ensures.found.ordered;
      unstaged = λ shut. absurd (let no : false ≡ true = shut in cc);
      cell_open = λ shut. c.in-Ok.ensures.found.opened;
      whole = λ shut. whole_open found.cell found.places found.count c.listed.result (g.D.Disk.state c.args.disk) (g.D.Disk.state c.look.new.disk) c.listed.ensures c.in-Ok.ensures.found.held c.in-Ok.ensures.synced.preserves c.in-Ok.ensures.synced.durable;
    }
