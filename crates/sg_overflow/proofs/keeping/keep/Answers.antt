use Rattle.std.proofs.Common.{◌≡◌, ◌∙◌, ◌-◌, ℕ, length, drop, subst, sym, arith}
use Rattle.sg_overflow.specs.Held.{SettlesHeld}
use Rattle.sg_overflow.specs.Line.{MovesLine}
use Rattle.sg_overflow.specs.View.{Held}
use Rattle.sg_overflow.proofs.Keeps.{few_dropped, moves_settled, settled_none, kept_as, kept_fewer}
use Rattle.sg_overflow.proofs.keeping.keep.Goals as goal

pub returns-then-is_open-clause-moves : goal.returns-then-is_open-clause-moves
returns-then-is_open-clause-moves g c = λ inner.
    let p = c.push_all-pushed in
    let s = c.settle-dropped in
    let settles = subst (λ (h : Held g.row.D.Denot). SettlesHeld g.D.Disk.state h s.new.self s.result.0) p.ensures.pushes.pushed s.ensures.settles in
    let none : s.result.0 ≡ 0 = settled_none s.result.0 s.new.self.store.closed s.result.1 (sym c.is_open.ensures ∙ c.if-is_open.true) s.ensures.cause in
    let all : p.result.count - s.result.0 - c.args.sent.count ≡ p.result.count - c.args.sent.count = omega (arith, none) in
    subst (λ (n : ℕ). MovesLine g.D.Disk.state (drop c.args.sent.count c.args.frames.now) n 0 inner inner c.args.held.now s.new.self) all
    (moves_settled g.D.Disk.state c.args.frames.now c.args.sent.count c.args.held.now p.result.count p.ensures.pushes.from p.ensures.pushes.within s.new.self s.result.0 settles c.requires.memory inner)

pub returns-then-is_open-clause-cause : goal.returns-then-is_open-clause-cause
returns-then-is_open-clause-cause g c =
    let p = c.push_all-pushed in
    kept_as c.args.sent.stop p.result.stop c.settle-dropped.new.self.store.closed p.result.count (length c.args.frames.now) p.ensures.cause

pub overflow_sub-result : goal.overflow_sub-result
overflow_sub-result g c =
    let p = c.push_all-pushed in
    let s = c.settle-dropped in
    let settles = subst (λ (h : Held g.row.D.Denot). SettlesHeld g.D.Disk.state h s.new.self s.result.0) p.ensures.pushes.pushed s.ensures.settles in
    let few = few_dropped g.D.Disk.state c.args.frames.now c.args.sent.count c.args.held.now p.result.count p.ensures.pushes.from p.ensures.pushes.within s.new.self s.result.0 settles c.requires.memory in
    omega (arith, few)

pub returns-clause-moves : goal.returns-clause-moves
returns-clause-moves g c = λ inner.
    let p = c.push_all-pushed in
    let s = c.settle-dropped in
    let settles = subst (λ (h : Held g.row.D.Denot). SettlesHeld g.D.Disk.state h s.new.self s.result.0) p.ensures.pushes.pushed s.ensures.settles in
    moves_settled g.D.Disk.state c.args.frames.now c.args.sent.count c.args.held.now p.result.count p.ensures.pushes.from p.ensures.pushes.within s.new.self s.result.0 settles c.requires.memory inner

pub returns-clause-from : goal.returns-clause-from
returns-clause-from g c =
    let p = c.push_all-pushed in
    let s = c.settle-dropped in
    let settles = subst (λ (h : Held g.row.D.Denot). SettlesHeld g.D.Disk.state h s.new.self s.result.0) p.ensures.pushes.pushed s.ensures.settles in
    let few = few_dropped g.D.Disk.state c.args.frames.now c.args.sent.count c.args.held.now p.result.count p.ensures.pushes.from p.ensures.pushes.within s.new.self s.result.0 settles c.requires.memory in
    (omega (arith, few, p.ensures.pushes.from), omega (arith, p.ensures.pushes.within))

pub returns-clause-cause : goal.returns-clause-cause
returns-clause-cause g c =
    let p = c.push_all-pushed in
    let s = c.settle-dropped in
    let settles = subst (λ (h : Held g.row.D.Denot). SettlesHeld g.D.Disk.state h s.new.self s.result.0) p.ensures.pushes.pushed s.ensures.settles in
    let few = few_dropped g.D.Disk.state c.args.frames.now c.args.sent.count c.args.held.now p.result.count p.ensures.pushes.from p.ensures.pushes.within s.new.self s.result.0 settles c.requires.memory in
    kept_fewer c.args.sent.stop s.result.1 s.new.self.store.closed p.result.count s.result.0 (length c.args.frames.now) p.ensures.pushes.within (omega (arith, few))
    (sym c.is_open.ensures ∙ c.if-is_open.false) s.ensures.cause
