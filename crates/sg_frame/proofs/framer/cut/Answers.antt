use Rattle.std.proofs.Common.{◌≤◌, ◌+◌, ◌∙◌, take, drop, ap, arith, w64}
use mir.Val.{SFits}
use Rattle.std.proofs.lemmas.Int.{to_z-of_z, ints}
use Rattle.std.proofs.lemmas.List.{take-take}
use Rattle.sg_frame.specs.Kept.{runs_end}
use Rattle.sg_frame.proofs.MomentLemmas.{runs_end-move, moment-at, moments-move}
use Rattle.sg_frame.proofs.ScanLemmas.{slice-range}
use Rattle.sg_frame.proofs.framer.cut.Goals as goal

-- src/framer.rt:74:16
pub moment_at-requires : goal.moment_at-requires
moment_at-requires c =
    let last = c.requires.last in
    let covers = c.requires.covers in
    let inside : c.args.place + c.args.span.last ≤ runs_end c.args.place c.args.runs.now.items = omega arith in
    let same = runs_end-move c.args.place c.args.span.last c.args.runs.now.items inside in
    omega arith

-- src/framer.rt:56:1
pub returns-clause-cut : goal.returns-clause-cut
returns-clause-cut c =
    let place = c.args.place in
    let span = c.args.span in
    let old = c.args.kept.now in
    let runs = c.args.runs.now.items in
    let taken = c.requires.taken in
    let covers = c.requires.covers in
    let fits : SFits w64 c.moment_at.result = omega (arith, ints) in
    let at = to_z-of_z w64 c.moment_at.result fits in
    let inside : place + span.taken ≤ runs_end place runs = omega arith in
    let from : place + span.last ≤ place + span.taken = omega arith in
    record {
      text = c.advance.ensures ∙ ap (drop span.from) (c.truncate.ensures ∙ ap (take span.to) c.in_ok-bytes.ensures.front ∙ take-take span.to span.taken old c.requires.to)
          ∙ slice-range old span.from span.to c.requires.from;
      rest = c.in_ok-bytes.ensures.rest;
      moment = at ∙ moment-at place span.last runs c.moment_at.result c.moment_at.ensures.moment.0 c.moment_at.ensures.moment.1;
      kept = moments-move place span.taken runs c.moment_at.new.runs.items (c.moment_at.ensures.moments (place + span.taken) from);
      covers = c.moment_at.ensures.end (place + span.taken) from ∙ runs_end-move place span.taken runs inside;
    }
