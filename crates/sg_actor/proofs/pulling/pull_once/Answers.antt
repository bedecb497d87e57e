use Rattle.std.proofs.Common.{subst, sym, false, arith, w64}
use Rattle.std.proofs.lemmas.Int.{to_z-of_z, ints}
use Rattle.std.specs.Prelude.{FitsSigned as SFits}
use Rattle.sg_device.specs.declared.inlet.Pull.TheVariants.{Bytes}
use Rattle.sg_frame.specs.declared.framer.Framed.TheVariants.{More}
use Rattle.sg_actor.specs.Sources.{source}
use Rattle.sg_actor.specs.Steps.{PullsOnce}
use Rattle.sg_actor.proofs.PullLemmas.{pulls-bytes, pulls-next, pulls-idle, pulls-end, pulls-fault}
use Rattle.sg_actor.proofs.pulling.pull_once.Goals as goal

pub returns-in-Ok-Next : goal.returns-in-Ok-Next
returns-in-Ok-Next g c = λ dests spec ready.
    let e = rw c.in-Ok-Next.field-0-is at c.in-Ok-Next.ensures in
    let feed = g.I.Inlet.state c.args.inlet.now in
    let feed' = g.I.Inlet.state c.pull.new.self in
    let r = c.args.reader.now in
    subst (λ f. PullsOnce dests spec (source feed r c.args.buffer.now) (source feed' (record r { framer = f; ahead = More; given_up = false }) c.pull.new.into) false) (sym c.restart.ensures)
    (pulls-next feed feed' c.args.buffer.now c.pull.new.into r c.requires.spent c.requires.going e.fills.size e.fills.whole e.told e.place e.left e.adds.counts e.adds.faults dests spec ready)

pub returns-in-Ok-Idle : goal.returns-in-Ok-Idle
returns-in-Ok-Idle g c = λ dests spec ready.
    let e = rw c.in-Ok-Idle.field-0-is at c.in-Ok-Idle.ensures in
    pulls-idle (g.I.Inlet.state c.args.inlet.now) (g.I.Inlet.state c.pull.new.self) c.args.buffer.now c.pull.new.into c.args.reader.now c.requires.spent c.requires.going e.fills.size e.fills.whole e.told e.place e.left e.adds.counts e.adds.faults dests spec ready

pub returns-in-Ok-End : goal.returns-in-Ok-End
returns-in-Ok-End g c = λ dests spec ready.
    let e = rw c.in-Ok-End.field-0-is at c.in-Ok-End.ensures in
    pulls-end (g.I.Inlet.state c.args.inlet.now) (g.I.Inlet.state c.pull.new.self) c.args.buffer.now c.pull.new.into c.args.reader.now c.requires.spent c.requires.going e.fills.size e.fills.whole e.told e.place e.left e.adds.counts e.adds.faults dests spec ready

pub returns-in-Err : goal.returns-in-Err
returns-in-Err g c = λ dests spec ready.
    let e = c.in-Err.ensures in
    pulls-fault (g.I.Inlet.state c.args.inlet.now) (g.I.Inlet.state c.pull.new.self) c.args.buffer.now c.pull.new.into c.args.reader.now _ c.requires.spent c.requires.going c.requires.works e.fills.size e.fills.whole e.told e.place e.left e.adds.counts e.adds.faults dests spec ready

pub returns-in-Ok-Bytes : goal.returns-in-Ok-Bytes
returns-in-Ok-Bytes g c = λ dests spec ready.
    let e = rw c.in-Ok-Bytes.field-0-is at c.in-Ok-Bytes.ensures in
    let feed = g.I.Inlet.state c.args.inlet.now in
    let feed' = g.I.Inlet.state c.pull.new.self in
    let r = c.args.reader.now in
    let whole = e.fills.whole in
    let in_range : SFits w64 c.in-Ok-Bytes.at = omega (arith, ints, whole.2, whole.3) in
    let moment = to_z-of_z w64 c.in-Ok-Bytes.at in_range in
    subst (λ at. PullsOnce dests spec (source feed r c.args.buffer.now) (source feed' (record r { pulled = Bytes c.in-Ok-Bytes.len at }) c.pull.new.into) false) (sym moment)
    (pulls-bytes feed feed' c.args.buffer.now c.pull.new.into r c.in-Ok-Bytes.len c.in-Ok-Bytes.at c.requires.spent c.requires.going e.fills.size e.fills.whole e.told e.place e.left e.adds.counts e.adds.faults dests spec ready)
