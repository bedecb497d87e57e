use Rattle.std.proofs.Common.{ℕ, ◌≤◌, List, ◌++◌, ap, sym, ◌∙◌, length, arith}
use Rattle.sg_report.specs.declared.line.SourceLine.{SourceLine}
use Rattle.sg_report.specs.Report.{lines, source_lines}
use Rattle.sg_report.proofs.LineLemmas.{lines-next, lines-end, length-all}
use Rattle.sg_report.proofs.report.append_sources.Goals as goal

pub loop-i-preserved : goal.loop-i-preserved
loop-i-preserved c =
    lines-next c.loop-i.text.items c.append_next.new.text.items c.args.text.now.items (source_lines (lines c.args.tally.now c.args.shown.now))
    (lines c.args.tally.now c.args.shown.now) c.loop-i.i c.loop-i.sum c.inlet_line.result c.in_ok-sum.sum c.inlet_line.ensures c.in_ok-sum.ensures c.loop-i.invariant

pub returns : goal.returns
returns c =
    let all : List SourceLine = lines c.args.tally.now c.args.shown.now in
    let count : length all ≤ c.loop-i.i = rw (length-all c.args.tally.now c.args.shown.now c.requires) (omega (arith, c.loop-i-test.false, c.len-i-end.ensures)) in
    c.in_ok-append_line.ensures
    ∙ (ap (λ (rest : List ℕ). c.loop-i.text.items ++ rest) (sym (lines-end all c.loop-i.i c.loop-i.sum count)) ∙ c.loop-i.invariant)
