use Rattle.std.proofs.Common.{◌≡◌, subst, sym, ◌∙◌, true, false, rules, tests}
use Rattle.std.specs.Prelude.{Ok}
use Rattle.std.specs.declared.alloc.AllocError.{AllocError}
use Rattle.sg_actor.specs.Sources.{source}
use Rattle.sg_actor.specs.Bringing.{Admits}
use Rattle.sg_actor.proofs.FindLemmas.{empty-of}
use Rattle.sg_actor.proofs.HandLemmas.{some-of, hands-none, hands-refused, hands-starved, hands-unlooked, hands-admitted, hands-err}
use Rattle.sg_actor.proofs.admitting.hand_in.Goals as goal

pub returns-then-is_empty-clause-hands : goal.returns-then-is_empty-clause-hands
returns-then-is_empty-clause-hands g c = λ buffer ready.
    hands-none g.C.Counter.step c.args.counter.now _ c.args.spec.now (g.I.Inlet.state c.args.inlet.now) (g.I.Inlet.state c.give_up-gave_up.new.inlet) buffer c.args.reader.now c.give_up-gave_up.new.reader c.give_up-gave_up.result
    (empty-of c.args.reader.now.held (sym c.is_empty.ensures ∙ c.if-is_empty.true)) c.give_up-gave_up.ensures ready

pub returns-in_err-admit-clause-hands : goal.returns-in_err-admit-clause-hands
returns-in_err-admit-clause-hands g c = λ buffer ready.
    let feed = g.I.Inlet.state c.args.inlet.now in
    hands-err g.C.Counter.step c.args.counter.now c.admit.new.counter _ c.args.spec.now (source feed c.args.reader.now buffer) (source feed c.admit.new.reader buffer) c.from_residual.result c.from_residual.ensures.0
    (λ e. hands-starved g.C.Counter.step c.args.counter.now c.admit.new.counter _ c.args.spec.now feed buffer c.args.reader.now c.admit.new.reader c.in_err-admit.field-0.0 e c.in_err-admit.ensures.admits ready)

pub returns-then-not-branch-clause-hands : goal.returns-then-not-branch-clause-hands
returns-then-not-branch-clause-hands g c = λ buffer ready.
    let is : c.in_ok-admit.field-0 ≡ false = search (rules, tests) in
    let admits = subst (λ b. Admits {E = AllocError} g.C.Counter.step c.args.counter.now c.admit.new.counter c.args.spec.now.inlet c.args.reader.now c.admit.new.reader (Ok b)) is c.in_ok-admit.ensures.admits in
    hands-refused g.C.Counter.step c.args.counter.now c.admit.new.counter _ c.args.spec.now (g.I.Inlet.state c.args.inlet.now) buffer c.args.reader.now c.admit.new.reader admits ready

pub returns-in_err-look-clause-hands : goal.returns-in_err-look-clause-hands
returns-in_err-look-clause-hands g c = λ buffer ready.
    let feed = g.I.Inlet.state c.args.inlet.now in
    let is : c.in_ok-admit.field-0 ≡ true = search (rules, tests) in
    let admits = subst (λ b. Admits {E = AllocError} g.C.Counter.step c.args.counter.now c.admit.new.counter c.args.spec.now.inlet c.args.reader.now c.admit.new.reader (Ok b)) is c.in_ok-admit.ensures.admits in
    let admits' = subst (λ r. Admits {E = AllocError} g.C.Counter.step c.args.counter.now c.admit.new.counter c.args.spec.now.inlet c.args.reader.now r (Ok true)) (sym c.in_err-look.ensures) admits in
    hands-err g.C.Counter.step c.args.counter.now c.admit.new.counter _ c.args.spec.now (source feed c.args.reader.now buffer) (source feed c.look.new.reader buffer) c.from_residual-in_err-look.result c.from_residual-in_err-look.ensures.0
    (λ e. hands-unlooked g.C.Counter.step c.args.counter.now c.admit.new.counter _ c.args.spec.now feed buffer c.args.reader.now c.look.new.reader e admits' ready)

pub returns-clause-hands : goal.returns-clause-hands
returns-clause-hands g c = λ buffer ready.
    let is : c.in_ok-admit.field-0 ≡ true = search (rules, tests) in
    let admits = subst (λ b. Admits {E = AllocError} g.C.Counter.step c.args.counter.now c.admit.new.counter c.args.spec.now.inlet c.args.reader.now c.admit.new.reader (Ok b)) is c.in_ok-admit.ensures.admits in
    hands-admitted g.C.Counter.step c.args.counter.now c.admit.new.counter _ c.args.spec.now (g.I.Inlet.state c.args.inlet.now) (g.I.Inlet.state c.give_up-gave_up-2.new.inlet) buffer c.args.reader.now c.admit.new.reader c.look.new.reader c.give_up-gave_up-2.new.reader
    c.give_up-gave_up-2.result admits c.in_ok-look.ensures c.give_up-gave_up-2.ensures (some-of c.args.reader.now.held (sym c.is_empty.ensures ∙ c.if-is_empty.false)) ready
