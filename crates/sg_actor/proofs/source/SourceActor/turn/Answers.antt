use Rattle.std.proofs.Common.{◌≡◌, sym, arith, length, List, ℕ, subst}
use Rattle.std.specs.Prelude.{Ok, Err, not}
use Rattle.std.specs.declared.alloc.AllocError.{AllocError}
use Rattle.sg_actor.specs.Sources.{source}
use Rattle.sg_actor.specs.Bringing.{ReadsOnTurn}
use Rattle.sg_actor.specs.SourceTurns.{actor, TakesTurn}
use Rattle.sg_actor.proofs.TurnLemmas.{turn-starved, turn-done, buffer-is, not-resting, resting}
use Rattle.sg_actor.proofs.source.SourceActor.turn.Goals as goal

pub returns-in_err-doings-clause-turn : goal.returns-in_err-doings-clause-turn
returns-in_err-doings-clause-turn g c =
    let old = c.args.self.now in
    let offers = g.R.Router.offers old.router in
    let dests = g.R.Router.dests old.router in
    let feed = g.I.Inlet.state old.inlet in
    let feed' = g.I.Inlet.state c.read_on.new.inlet in
    let b = source feed' c.read_on.new.reader c.read_on.new.buffer in
    let size : length c.read_on.new.buffer ≡ length old.buffer.items = omega arith in
    let len : old.buffer.len ≡ length old.buffer.items = omega arith in
    let reads = subst (λ (buffer : List ℕ). ReadsOnTurn {E = AllocError} offers dests old.spec g.C.Counter.step c.credit-credit.new.self c.read_on.new.counter c.credit-credit.result (source feed old.reader buffer) b (Err c.in_err-doings.field-0.0)) c.deref_mut.ensures.value c.in_err-doings.ensures.reads in
    subst (λ (buffer : List ℕ). TakesTurn {E = AllocError} offers dests old.spec g.C.Counter.step c.args.counter.now c.read_on.new.counter (actor feed old.reader old.buffer.items old.position old.bad_frames)
    (actor feed' c.read_on.new.reader buffer c.note-same.new.self old.bad_frames) c.from_residual.result) (sym (buffer-is old.buffer.items c.read_on.new.buffer old.buffer.len size len))
    (turn-starved offers dests old.spec g.C.Counter.step c.args.counter.now c.credit-credit.new.self c.read_on.new.counter c.credit-credit.result (actor feed old.reader old.buffer.items old.position old.bad_frames) b
    c.note-same.new.self c.in_err-doings.field-0.0 c.from_residual.result c.from_residual.ensures.0 c.credit-credit.ensures.step c.note-same.ensures.noted reads c.in_err-doings.ensures.failing c.in_err-doings.ensures.ended)

pub returns-then-not-rests-clause-turn : goal.returns-then-not-rests-clause-turn
returns-then-not-rests-clause-turn g c =
    let old = c.args.self.now in
    let offers = g.R.Router.offers old.router in
    let dests = g.R.Router.dests old.router in
    let feed = g.I.Inlet.state old.inlet in
    let feed' = g.I.Inlet.state c.read_on.new.inlet in
    let b = source feed' c.read_on.new.reader c.read_on.new.buffer in
    let size : length c.read_on.new.buffer ≡ length old.buffer.items = omega arith in
    let len : old.buffer.len ≡ length old.buffer.items = omega arith in
    let reads = subst (λ (buffer : List ℕ). ReadsOnTurn {E = AllocError} offers dests old.spec g.C.Counter.step c.credit-credit.new.self c.read_on.new.counter c.credit-credit.result (source feed old.reader buffer) b (Ok c.in_ok-doings.doings)) c.deref_mut.ensures.value c.in_ok-doings.ensures.reads in
    subst (λ (buffer : List ℕ). TakesTurn {E = AllocError} offers dests old.spec g.C.Counter.step c.args.counter.now c.store_position-stored.new.counter (actor feed old.reader old.buffer.items old.position old.bad_frames)
    (actor feed' c.read_on.new.reader buffer c.store_position-stored.new.position c.count_up-self.result) (Ok (record { did = not c.is_resting-rests.result; idle = c.in_ok-doings.doings.idle }))) (sym (buffer-is old.buffer.items c.read_on.new.buffer old.buffer.len size len))
    (turn-done offers dests old.spec g.C.Counter.step c.args.counter.now c.credit-credit.new.self c.read_on.new.counter c.store_position-stored.new.counter c.credit-credit.result (actor feed old.reader old.buffer.items old.position old.bad_frames) b
    c.note-same.new.self c.store_position-stored.new.position c.in_ok-doings.doings c.note-same.result c.is_resting-rests.result c.store_position-stored.result (not c.is_resting-rests.result) c.count_up-self.result
    c.credit-credit.ensures.step c.note-same.ensures.noted c.note-same.ensures.same reads c.is_resting-rests.ensures c.store_position-stored.ensures.stores (not-resting c.is_resting-rests.result c.store_position-stored.result c.if-not-rests.true) c.count_up-self.ensures c.in_ok-doings.ensures.failing c.in_ok-doings.ensures.ended)

pub returns-else-not-rests-clause-turn : goal.returns-else-not-rests-clause-turn
returns-else-not-rests-clause-turn g c =
    let old = c.args.self.now in
    let offers = g.R.Router.offers old.router in
    let dests = g.R.Router.dests old.router in
    let feed = g.I.Inlet.state old.inlet in
    let feed' = g.I.Inlet.state c.read_on.new.inlet in
    let b = source feed' c.read_on.new.reader c.read_on.new.buffer in
    let size : length c.read_on.new.buffer ≡ length old.buffer.items = omega arith in
    let len : old.buffer.len ≡ length old.buffer.items = omega arith in
    let reads = subst (λ (buffer : List ℕ). ReadsOnTurn {E = AllocError} offers dests old.spec g.C.Counter.step c.credit-credit.new.self c.read_on.new.counter c.credit-credit.result (source feed old.reader buffer) b (Ok c.in_ok-doings.doings)) c.deref_mut.ensures.value c.in_ok-doings.ensures.reads in
    subst (λ (buffer : List ℕ). TakesTurn {E = AllocError} offers dests old.spec g.C.Counter.step c.args.counter.now c.store_position-stored.new.counter (actor feed old.reader old.buffer.items old.position old.bad_frames)
    (actor feed' c.read_on.new.reader buffer c.store_position-stored.new.position c.count_up-self.result) (Ok (record { did = c.store_position-stored.result; idle = c.in_ok-doings.doings.idle }))) (sym (buffer-is old.buffer.items c.read_on.new.buffer old.buffer.len size len))
    (turn-done offers dests old.spec g.C.Counter.step c.args.counter.now c.credit-credit.new.self c.read_on.new.counter c.store_position-stored.new.counter c.credit-credit.result (actor feed old.reader old.buffer.items old.position old.bad_frames) b
    c.note-same.new.self c.store_position-stored.new.position c.in_ok-doings.doings c.note-same.result c.is_resting-rests.result c.store_position-stored.result c.store_position-stored.result c.count_up-self.result
    c.credit-credit.ensures.step c.note-same.ensures.noted c.note-same.ensures.same reads c.is_resting-rests.ensures c.store_position-stored.ensures.stores (resting c.is_resting-rests.result c.store_position-stored.result c.if-not-rests.false) c.count_up-self.ensures c.in_ok-doings.ensures.failing c.in_ok-doings.ensures.ended)
