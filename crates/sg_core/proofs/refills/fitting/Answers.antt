use Rattle.std.proofs.Common.{◌≡◌, ◌∙◌, ◌+◌, Some, true, false, slice_get, sym, refl, subst, arith}
use Rattle.sg_sinks.specs.Fitting.{space}
use Rattle.sg_sinks.specs.Trials.{refill_of}
use Rattle.sg_sinks.specs.declared.trial.Trial.{Trial}
use Rattle.sg_core.proofs.RefillParts.{IsFitting, fitting-begins, fitting-most, fitting-none, fitting-full, fitting-more}
use Rattle.sg_core.proofs.refills.fitting.Goals as goal

pub loop-n-init : goal.loop-n-init
loop-n-init c =
    let start = refill_of c.args.buffer c.args.sink.now.seen in
    let es = c.args.sink.now.seen.entries in
    let used = space c.args.sink.now.seen.lengths in
    record {
      most = omega arith;
      fitting = subst (λ (t : Trial). IsFitting c.args.buffer.capacity used 0 start t es) (sym c.refill-trial.ensures) (fitting-begins c.args.buffer.capacity used start es refl refl refl);
    }

pub returns-in_default-clause-value : goal.returns-in_default-clause-value
returns-in_default-clause-value c =
    let start = refill_of c.args.buffer c.args.sink.now.seen in
    let es = c.args.sink.now.seen.entries in
    let inv = c.loop-n.invariant in
    let used = space c.args.sink.now.seen.lengths in
    (fitting-none c.args.buffer.capacity used c.loop-n.n start c.loop-n.trial es inv.fitting (sym c.in_default.ensures)).0

pub returns-in_default-clause-fits : goal.returns-in_default-clause-fits
returns-in_default-clause-fits c =
    let start = refill_of c.args.buffer c.args.sink.now.seen in
    let es = c.args.sink.now.seen.entries in
    let inv = c.loop-n.invariant in
    let used = space c.args.sink.now.seen.lengths in
    (fitting-none c.args.buffer.capacity used c.loop-n.n start c.loop-n.trial es inv.fitting (sym c.in_default.ensures)).1

pub returns-then-not-take-clause-value : goal.returns-then-not-take-clause-value
returns-then-not-take-clause-value c =
    let start = refill_of c.args.buffer c.args.sink.now.seen in
    let es = c.args.sink.now.seen.entries in
    let inv = c.loop-n.invariant in
    let used = space c.args.sink.now.seen.lengths in
    let at : slice_get es c.loop-n.n ≡ Some c.in-Some.entry.now = sym c.in-Some.ensures in
    (fitting-full c.args.buffer.capacity used c.loop-n.n start c.loop-n.trial es c.in-Some.entry.now inv.fitting at (sym c.take.ensures.taken ∙ c.if-not-take.true)).0

pub returns-then-not-take-clause-fits : goal.returns-then-not-take-clause-fits
returns-then-not-take-clause-fits c =
    let start = refill_of c.args.buffer c.args.sink.now.seen in
    let es = c.args.sink.now.seen.entries in
    let inv = c.loop-n.invariant in
    let used = space c.args.sink.now.seen.lengths in
    let at : slice_get es c.loop-n.n ≡ Some c.in-Some.entry.now = sym c.in-Some.ensures in
    (fitting-full c.args.buffer.capacity used c.loop-n.n start c.loop-n.trial es c.in-Some.entry.now inv.fitting at (sym c.take.ensures.taken ∙ c.if-not-take.true)).1

pub loop-n-preserved : goal.loop-n-preserved
loop-n-preserved c =
    let start = refill_of c.args.buffer c.args.sink.now.seen in
    let es = c.args.sink.now.seen.entries in
    let inv = c.loop-n.invariant in
    let used = space c.args.sink.now.seen.lengths in
    let at : slice_get es c.loop-n.n ≡ Some c.in-Some.entry.now = sym c.in-Some.ensures in
    record {
      most = omega (arith, c.loop-n-test.true);
      fitting = subst (λ (t : Trial). IsFitting c.args.buffer.capacity used (c.loop-n.n + 1) start t es) (sym c.take.ensures.after)
          (fitting-more c.args.buffer.capacity used c.loop-n.n start c.loop-n.trial es c.in-Some.entry.now inv.fitting at c.loop-n-test.true (sym c.take.ensures.taken ∙ c.if-not-take.false));
    }

pub returns-clause-value : goal.returns-clause-value
returns-clause-value c =
    let start = refill_of c.args.buffer c.args.sink.now.seen in
    let es = c.args.sink.now.seen.entries in
    let inv = c.loop-n.invariant in
    let used = space c.args.sink.now.seen.lengths in
    (fitting-most c.args.buffer.capacity used c.loop-n.n start c.loop-n.trial es inv.fitting (omega (arith, c.loop-n-test.false))).0

pub returns-clause-fits : goal.returns-clause-fits
returns-clause-fits c =
    let start = refill_of c.args.buffer c.args.sink.now.seen in
    let es = c.args.sink.now.seen.entries in
    let inv = c.loop-n.invariant in
    let used = space c.args.sink.now.seen.lengths in
    (fitting-most c.args.buffer.capacity used c.loop-n.n start c.loop-n.trial es inv.fitting (omega (arith, c.loop-n-test.false))).1
