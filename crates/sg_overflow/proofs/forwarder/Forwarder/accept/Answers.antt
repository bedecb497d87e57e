use Rattle.sg_overflow.proofs.Accepting.{both_moves, refused_cause}
use Rattle.sg_overflow.proofs.forwarder.Forwarder.accept.Goals as goal

pub keep_rest-requires-clause-memory : goal.keep_rest-requires-clause-memory
keep_rest-requires-clause-memory g c = c.forward_before-sent.ensures.memory c.requires.memory

pub returns-clause-passes : goal.returns-clause-passes
returns-clause-passes g c =
    let s = c.forward_before-sent in
    let k = c.keep_rest in
    let j = g.O.Outlet.state s.new.self.inner in (
      s.ensures.passes.0,
      both_moves g.D.Disk.state c.args.frames.now s.result.count k.result.count s.ensures.passes.0 (g.O.Outlet.state c.args.self.now.inner) j c.args.self.now.held s.new.self.held k.new.held s.ensures.passes.1 (k.ensures.moves j) k.ensures.from.0,
    )

pub returns-clause-cause : goal.returns-clause-cause
returns-clause-cause g c =
    let s = c.forward_before-sent in
    let k = c.keep_rest in
    let j = g.O.Outlet.state s.new.self.inner in
    refused_cause g.D.Disk.state c.args.frames.now s.result.count k.result.count s.ensures.passes.0 (g.O.Outlet.state c.args.self.now.inner) j c.args.self.now.held s.new.self.held k.new.held s.ensures.passes.1 (k.ensures.moves j) k.ensures.from.0
    s.result.stop k.result.stop s.ensures.cause k.ensures.cause
