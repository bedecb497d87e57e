use Rattle.std.proofs.Common.{sym}
use Rattle.sg_report.proofs.LineLemmas.{lines-get}
use Rattle.sg_report.proofs.report.inlet_line.Goals as goal

pub returns : goal.returns
returns c =
    rw (c.position_of.ensures)
    (sym (lines-get c.args.shown.now.drivers c.args.shown.now.files c.args.shown.now.bad_frames c.args.tally.now.sources c.args.i
    c.at.result.now c.at-3.result.now c.at-2.result.now c.at-source.result.now c.at.ensures c.at-3.ensures c.at-2.ensures c.at-source.ensures))
