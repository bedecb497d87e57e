use Rattle.std.proofs.Common.{◌∷◌, Err, reverse, arith}
use Rattle.std.proofs.lemmas.Result.{err_from_is_err_and}
use Rattle.sg_expand.specs.Expansion.{Goes}
use Rattle.sg_expand.specs.Machine.{state_of}
use Rattle.sg_expand.specs.Pending.{FramesLead}
use Rattle.sg_expand.proofs.Reading.{reads-same, reads-then}
use Rattle.sg_expand.proofs.Turns.{popped-bounded}
use Rattle.sg_expand.proofs.Turning.{answers-then, ends-here, frame-leads}
use Rattle.sg_expand.proofs.expander.Expander.work.Goals as goal

pub steps-init : goal.steps-init
steps-init g c = record { leads = λ o h. h; bounded = c.requires.bounded; reads = reads-same (g.F.Machine.state c.args.files.now) }

pub steps-preserved : goal.steps-preserved
steps-preserved g c =
    let world = g.F.Machine.state c.steps.files in
    record {
      leads = λ o h. c.steps.invariant.leads o (frame-leads c.steps.self.frames.items c.pop.new.self.items c.in-Some.frame (state_of c.steps.self) world o c.in-Some.ensures.items (c.in_ok-do_frame-in-Some.ensures.does o h));
      bounded = c.in_ok-do_frame-in-Some.ensures.bounded;
      reads = reads-then (g.F.Machine.state c.args.files.now) world (g.F.Machine.state c.do_frame.new.files) c.steps.invariant.reads c.do_frame.ensures.reads;
    }

pub returns-in-None-clause-does : goal.returns-in-None-clause-does
returns-in-None-clause-does g c =
    let s = state_of c.steps.self in
    let world = g.F.Machine.state c.steps.files in
    c.steps.invariant.leads (Goes s world) (ends-here c.steps.self.frames.items s world (omega (arith, c.in-None.ensures.cases.0, c.steps.self.frames.ok.0)))

pub returns-in-None-clause-reads : goal.returns-in-None-clause-reads
returns-in-None-clause-reads g c = c.steps.invariant.reads

pub returns-in_err-do_frame-in-Some-clause-does : goal.returns-in_err-do_frame-in-Some-clause-does
returns-in_err-do_frame-in-Some-clause-does g c =
    let p = err_from_is_err_and c.from_residual.result c.from_residual.ensures.1 in
    let s = state_of c.steps.self in
    let world = g.F.Machine.state c.steps.files in
    rw (p.1, p.2)
    (answers-then (Err c.in_err-do_frame-in-Some.field-0.0) c.do_frame.new.self (g.F.Machine.state c.do_frame.new.files) (FramesLead (c.in-Some.frame ∷ reverse c.pop.new.self.items) s world)
    (FramesLead (reverse c.args.self.now.frames.items) (state_of c.args.self.now) (g.F.Machine.state c.args.files.now))
    (λ o h. c.steps.invariant.leads o (frame-leads c.steps.self.frames.items c.pop.new.self.items c.in-Some.frame s world o c.in-Some.ensures.items h))
    c.in_err-do_frame-in-Some.ensures.does)

pub returns-in_err-do_frame-in-Some-clause-reads : goal.returns-in_err-do_frame-in-Some-clause-reads
returns-in_err-do_frame-in-Some-clause-reads g c =
    reads-then (g.F.Machine.state c.args.files.now) (g.F.Machine.state c.steps.files) (g.F.Machine.state c.do_frame.new.files) c.steps.invariant.reads c.do_frame.ensures.reads

pub do_frame-requires : goal.do_frame-requires
do_frame-requires g c = record { bounded = popped-bounded c.steps.self.frames.items c.pop.new.self c.in-Some.frame c.steps.self c.in-Some.ensures.items c.steps.invariant.bounded }
