use Rattle.std.proofs.Common.{◌≡◌, inl, ◌≤◌, ◌∙◌, ◌+◌, ◌-◌, ◌^◌, refl, subst, sym, arith, true, false, Ok, Err}
use Rattle.sg_device.specs.Outlet.{Sends}
use Rattle.sg_device.specs.declared.fault.SendRefusal.{SendRefusal}
use Rattle.sg_device.specs.declared.fault.SendRefusal.TheVariants.{Fault}
use Rattle.sg_overflow.specs.Line.{Accepts, Lasts, HasSendCause, HasSendCauseOf}
use Rattle.sg_overflow.specs.View.{OverflowView, outlet_of}
use Rattle.sg_overflow.proofs.Answering.{same_loaded, counted, some_given, sends_none, accepts_none, lasts_none, stands}
use Rattle.sg_overflow.proofs.Tallying.{sends_ok, sends_err, took_of, lasts_of, sound_of}
use Rattle.sg_overflow.proofs.overflow.OverflowOutlet.send.Goals as goal

pub returns-then-not-can_count-clause-sends : goal.returns-then-not-can_count-clause-sends
returns-then-not-can_count-clause-sends g c = sends_none (outlet_of g.O.Outlet.state g.D.Disk.state c.args.self.now) c.args.frames.now c.requires

pub returns-then-not-can_count-clause-accepts : goal.returns-then-not-can_count-clause-accepts
returns-then-not-can_count-clause-accepts g c =
    let m = c.self.inside in
    let old : OverflowView g.row.O.Denot g.row.D.Denot = record { inner = m.line.inner; held = m.line.held; reopens = m.line.reopens; tally = m.tally } in
    subst (λ (v : OverflowView g.row.O.Denot g.row.D.Denot). Accepts g.O.Outlet.state g.D.Disk.state c.args.frames.now v v) c.self.view_is (accepts_none g.O.Outlet.state g.D.Disk.state c.args.frames.now old old.tally c.is_empty-empty.ensures.still refl)

pub returns-then-not-can_count-clause-lasts : goal.returns-then-not-can_count-clause-lasts
returns-then-not-can_count-clause-lasts g c =
    let m = c.self.inside in
    let old : OverflowView g.row.O.Denot g.row.D.Denot = record { inner = m.line.inner; held = m.line.held; reopens = m.line.reopens; tally = m.tally } in
    subst (λ (v : OverflowView g.row.O.Denot g.row.D.Denot). Lasts g.O.Outlet.state g.D.Disk.state v v) c.self.view_is (lasts_none g.O.Outlet.state g.D.Disk.state c.args.frames.now old old.tally c.is_empty-empty.ensures.still refl)

pub invariant_of-self : goal.invariant_of-self
invariant_of-self g c =
    let m = c.self.inside in
    let old : OverflowView g.row.O.Denot g.row.D.Denot = record { inner = m.line.inner; held = m.line.held; reopens = m.line.reopens; tally = m.tally } in
    let new : OverflowView g.row.O.Denot g.row.D.Denot = record { inner = m.line.inner; held = m.line.held; reopens = m.line.reopens; tally = c.after_send-failed.result } in
    let same = same_loaded old.tally new.tally 0 (Err Fault) c.after_send-failed.ensures in
    let moves = stands g.O.Outlet.state g.D.Disk.state c.args.frames.now old new.tally c.is_empty-empty.ensures.still in
    sound_of g.O.Outlet.state g.D.Disk.state c.args.frames.now 0 0 old new moves same c.self.invariant c.self.invariant.memory

pub returns-then-failed-clause-sends : goal.returns-then-failed-clause-sends
returns-then-failed-clause-sends g c =
    let m = c.self.inside in
    let old : OverflowView g.row.O.Denot g.row.D.Denot = record { inner = m.line.inner; held = m.line.held; reopens = m.line.reopens; tally = m.tally } in
    let new : OverflowView g.row.O.Denot g.row.D.Denot = record { inner = m.line.inner; held = m.line.held; reopens = m.line.reopens; tally = c.after_send-failed.result } in
    let same = same_loaded old.tally new.tally 0 (Err Fault) c.after_send-failed.ensures in
    let moves = stands g.O.Outlet.state g.D.Disk.state c.args.frames.now old new.tally c.is_empty-empty.ensures.still in
    let can = c.can_count.ensures c.if-not-can_count.false in
    subst (λ (v : OverflowView g.row.O.Denot g.row.D.Denot). Sends (outlet_of g.O.Outlet.state g.D.Disk.state v) (outlet_of g.O.Outlet.state g.D.Disk.state new) c.args.frames.now (Err Fault)) c.self.view_is
    (sends_err g.O.Outlet.state g.D.Disk.state old new c.args.frames.now 0 Fault c.after_send-failed.ensures (took_of g.O.Outlet.state g.D.Disk.state c.args.frames.now 0 0 old new moves same c.self.invariant)
    (omega (arith, can.0)) can.1 can.2 (some_given c.args.frames.now c.requires))

pub returns-then-failed-clause-accepts : goal.returns-then-failed-clause-accepts
returns-then-failed-clause-accepts g c =
    let m = c.self.inside in
    let old : OverflowView g.row.O.Denot g.row.D.Denot = record { inner = m.line.inner; held = m.line.held; reopens = m.line.reopens; tally = m.tally } in
    let new : OverflowView g.row.O.Denot g.row.D.Denot = record { inner = m.line.inner; held = m.line.held; reopens = m.line.reopens; tally = c.after_send-failed.result } in
    let same = same_loaded old.tally new.tally 0 (Err Fault) c.after_send-failed.ensures in
    let moves = stands g.O.Outlet.state g.D.Disk.state c.args.frames.now old new.tally c.is_empty-empty.ensures.still in
    let can = c.can_count.ensures c.if-not-can_count.false in
    let count = counted old.tally new.tally 0 (Err Fault) c.after_send-failed.ensures (omega (arith, can.0)) in
    subst (λ (v : OverflowView g.row.O.Denot g.row.D.Denot). Accepts g.O.Outlet.state g.D.Disk.state c.args.frames.now v new) c.self.view_is
    (accepts_none g.O.Outlet.state g.D.Disk.state c.args.frames.now old new.tally c.is_empty-empty.ensures.still (omega (arith, count)))

pub returns-then-failed-clause-lasts : goal.returns-then-failed-clause-lasts
returns-then-failed-clause-lasts g c =
    let m = c.self.inside in
    let old : OverflowView g.row.O.Denot g.row.D.Denot = record { inner = m.line.inner; held = m.line.held; reopens = m.line.reopens; tally = m.tally } in
    let new : OverflowView g.row.O.Denot g.row.D.Denot = record { inner = m.line.inner; held = m.line.held; reopens = m.line.reopens; tally = c.after_send-failed.result } in
    let same = same_loaded old.tally new.tally 0 (Err Fault) c.after_send-failed.ensures in
    let moves = stands g.O.Outlet.state g.D.Disk.state c.args.frames.now old new.tally c.is_empty-empty.ensures.still in
    subst (λ (v : OverflowView g.row.O.Denot g.row.D.Denot). Lasts g.O.Outlet.state g.D.Disk.state v new) c.self.view_is (lasts_of g.O.Outlet.state g.D.Disk.state c.args.frames.now 0 0 old new moves same c.self.invariant)

pub returns-then-failed-clause-cause : goal.returns-then-failed-clause-cause
returns-then-failed-clause-cause g c =
    let m = c.self.inside in
    let old : OverflowView g.row.O.Denot g.row.D.Denot = record { inner = m.line.inner; held = m.line.held; reopens = m.line.reopens; tally = m.tally } in
    let new : OverflowView g.row.O.Denot g.row.D.Denot = record { inner = m.line.inner; held = m.line.held; reopens = m.line.reopens; tally = c.after_send-failed.result } in
    let same = same_loaded old.tally new.tally 0 (Err Fault) c.after_send-failed.ensures in
    let moves = stands g.O.Outlet.state g.D.Disk.state c.args.frames.now old new.tally c.is_empty-empty.ensures.still in
    let closed = sym c.failed.ensures ∙ c.if-failed.true in
    subst (λ (v : OverflowView g.row.O.Denot g.row.D.Denot). HasSendCause g.O.Outlet.state g.D.Disk.state v new (Err Fault)) c.self.view_is (inl closed)

pub accept-done-requires-clause-memory : goal.accept-done-requires-clause-memory
accept-done-requires-clause-memory g c = c.self.invariant.memory

pub invariant_of-self-then-done-number : goal.invariant_of-self-then-done-number
invariant_of-self-then-done-number g c =
    let m = c.self.inside in
    let old : OverflowView g.row.O.Denot g.row.D.Denot = record { inner = m.line.inner; held = m.line.held; reopens = m.line.reopens; tally = m.tally } in
    let a = c.accept-done in
    let new : OverflowView g.row.O.Denot g.row.D.Denot = record { inner = a.new.self.inner; held = a.new.self.held; reopens = a.new.self.reopens; tally = c.after_send-partial.result } in
    let same = same_loaded old.tally new.tally a.result.count (Err c.refusal-refusal.result) c.after_send-partial.ensures in
    let moves = a.ensures.passes.1 in
    sound_of g.O.Outlet.state g.D.Disk.state c.args.frames.now a.result.count a.ensures.passes.0 old new moves same c.self.invariant a.ensures.memory

pub returns-then-done-number-clause-sends : goal.returns-then-done-number-clause-sends
returns-then-done-number-clause-sends g c =
    let m = c.self.inside in
    let old : OverflowView g.row.O.Denot g.row.D.Denot = record { inner = m.line.inner; held = m.line.held; reopens = m.line.reopens; tally = m.tally } in
    let a = c.accept-done in
    let new : OverflowView g.row.O.Denot g.row.D.Denot = record { inner = a.new.self.inner; held = a.new.self.held; reopens = a.new.self.reopens; tally = c.after_send-partial.result } in
    let same = same_loaded old.tally new.tally a.result.count (Err c.refusal-refusal.result) c.after_send-partial.ensures in
    let moves = a.ensures.passes.1 in
    let can = c.can_count.ensures c.if-not-can_count.false in
    let small : old.tally.count + a.result.count ≤ 2 ^ 64 - 1 = omega (arith, can.0, a.ensures.few, c.len-number.ensures) in
    let took = took_of g.O.Outlet.state g.D.Disk.state c.args.frames.now a.result.count a.ensures.passes.0 old new moves same c.self.invariant in
    subst (λ (v : OverflowView g.row.O.Denot g.row.D.Denot). Sends (outlet_of g.O.Outlet.state g.D.Disk.state v) (outlet_of g.O.Outlet.state g.D.Disk.state new) c.args.frames.now (Err c.refusal-refusal.result)) c.self.view_is
    (sends_err g.O.Outlet.state g.D.Disk.state old new c.args.frames.now a.result.count c.refusal-refusal.result c.after_send-partial.ensures took small can.1 can.2 (omega (arith, c.if-done-number.true, c.len-number.ensures)))

pub returns-then-done-number-clause-accepts : goal.returns-then-done-number-clause-accepts
returns-then-done-number-clause-accepts g c =
    let m = c.self.inside in
    let old : OverflowView g.row.O.Denot g.row.D.Denot = record { inner = m.line.inner; held = m.line.held; reopens = m.line.reopens; tally = m.tally } in
    let a = c.accept-done in
    let new : OverflowView g.row.O.Denot g.row.D.Denot = record { inner = a.new.self.inner; held = a.new.self.held; reopens = a.new.self.reopens; tally = c.after_send-partial.result } in
    let same = same_loaded old.tally new.tally a.result.count (Err c.refusal-refusal.result) c.after_send-partial.ensures in
    let moves = a.ensures.passes.1 in
    let can = c.can_count.ensures c.if-not-can_count.false in
    let small : old.tally.count + a.result.count ≤ 2 ^ 64 - 1 = omega (arith, can.0, a.ensures.few, c.len-number.ensures) in
    subst (λ (v : OverflowView g.row.O.Denot g.row.D.Denot). Accepts g.O.Outlet.state g.D.Disk.state c.args.frames.now v new) c.self.view_is
    (record { taken = a.result.count; count = counted old.tally new.tally a.result.count (Err c.refusal-refusal.result) c.after_send-partial.ensures small; forwarded = a.ensures.passes.0; moves = moves })

pub returns-then-done-number-clause-lasts : goal.returns-then-done-number-clause-lasts
returns-then-done-number-clause-lasts g c =
    let m = c.self.inside in
    let old : OverflowView g.row.O.Denot g.row.D.Denot = record { inner = m.line.inner; held = m.line.held; reopens = m.line.reopens; tally = m.tally } in
    let a = c.accept-done in
    let new : OverflowView g.row.O.Denot g.row.D.Denot = record { inner = a.new.self.inner; held = a.new.self.held; reopens = a.new.self.reopens; tally = c.after_send-partial.result } in
    let same = same_loaded old.tally new.tally a.result.count (Err c.refusal-refusal.result) c.after_send-partial.ensures in
    let moves = a.ensures.passes.1 in
    subst (λ (v : OverflowView g.row.O.Denot g.row.D.Denot). Lasts g.O.Outlet.state g.D.Disk.state v new) c.self.view_is (lasts_of g.O.Outlet.state g.D.Disk.state c.args.frames.now a.result.count a.ensures.passes.0 old new moves same c.self.invariant)

pub returns-then-done-number-clause-refused : goal.returns-then-done-number-clause-refused
returns-then-done-number-clause-refused g c =
    let m = c.self.inside in
    let old : OverflowView g.row.O.Denot g.row.D.Denot = record { inner = m.line.inner; held = m.line.held; reopens = m.line.reopens; tally = m.tally } in
    let a = c.accept-done in
    let new : OverflowView g.row.O.Denot g.row.D.Denot = record { inner = a.new.self.inner; held = a.new.self.held; reopens = a.new.self.reopens; tally = c.after_send-partial.result } in
    let same = same_loaded old.tally new.tally a.result.count (Err c.refusal-refusal.result) c.after_send-partial.ensures in
    let moves = a.ensures.passes.1 in
    subst (λ (v : OverflowView g.row.O.Denot g.row.D.Denot). v.held.store.closed ≡ true → new.inner ≡ v.inner) c.self.view_is
    (λ closed. absurd (let no : false ≡ true = sym (sym c.failed.ensures ∙ c.if-failed.false) ∙ closed in cc))

pub returns-then-done-number-clause-cause : goal.returns-then-done-number-clause-cause
returns-then-done-number-clause-cause g c =
    let m = c.self.inside in
    let old : OverflowView g.row.O.Denot g.row.D.Denot = record { inner = m.line.inner; held = m.line.held; reopens = m.line.reopens; tally = m.tally } in
    let a = c.accept-done in
    let new : OverflowView g.row.O.Denot g.row.D.Denot = record { inner = a.new.self.inner; held = a.new.self.held; reopens = a.new.self.reopens; tally = c.after_send-partial.result } in
    let same = same_loaded old.tally new.tally a.result.count (Err c.refusal-refusal.result) c.after_send-partial.ensures in
    let moves = a.ensures.passes.1 in
    subst (λ (v : OverflowView g.row.O.Denot g.row.D.Denot). HasSendCause g.O.Outlet.state g.D.Disk.state v new (Err c.refusal-refusal.result)) c.self.view_is
    (subst (λ (r : SendRefusal). HasSendCauseOf g.D.Disk.state (g.O.Outlet.state old.inner) (g.O.Outlet.state new.inner) old.held new.held (Err r)) (sym c.refusal-refusal.ensures) a.ensures.cause)

pub invariant_of-self-2 : goal.invariant_of-self-2
invariant_of-self-2 g c =
    let m = c.self.inside in
    let old : OverflowView g.row.O.Denot g.row.D.Denot = record { inner = m.line.inner; held = m.line.held; reopens = m.line.reopens; tally = m.tally } in
    let a = c.accept-done in
    let new : OverflowView g.row.O.Denot g.row.D.Denot = record { inner = a.new.self.inner; held = a.new.self.held; reopens = a.new.self.reopens; tally = c.after_send-whole.result } in
    let same = same_loaded old.tally new.tally a.result.count (Ok tt) c.after_send-whole.ensures in
    let moves = a.ensures.passes.1 in
    sound_of g.O.Outlet.state g.D.Disk.state c.args.frames.now a.result.count a.ensures.passes.0 old new moves same c.self.invariant a.ensures.memory

pub returns-clause-sends : goal.returns-clause-sends
returns-clause-sends g c =
    let m = c.self.inside in
    let old : OverflowView g.row.O.Denot g.row.D.Denot = record { inner = m.line.inner; held = m.line.held; reopens = m.line.reopens; tally = m.tally } in
    let a = c.accept-done in
    let new : OverflowView g.row.O.Denot g.row.D.Denot = record { inner = a.new.self.inner; held = a.new.self.held; reopens = a.new.self.reopens; tally = c.after_send-whole.result } in
    let same = same_loaded old.tally new.tally a.result.count (Ok tt) c.after_send-whole.ensures in
    let moves = a.ensures.passes.1 in
    let can = c.can_count.ensures c.if-not-can_count.false in
    let small : old.tally.count + a.result.count ≤ 2 ^ 64 - 1 = omega (arith, can.0, a.ensures.few, c.len-number.ensures) in
    let took = took_of g.O.Outlet.state g.D.Disk.state c.args.frames.now a.result.count a.ensures.passes.0 old new moves same c.self.invariant in
    subst (λ (v : OverflowView g.row.O.Denot g.row.D.Denot). Sends (outlet_of g.O.Outlet.state g.D.Disk.state v) (outlet_of g.O.Outlet.state g.D.Disk.state new) c.args.frames.now (Ok tt)) c.self.view_is
    (sends_ok g.O.Outlet.state g.D.Disk.state old new c.args.frames.now a.result.count tt c.after_send-whole.ensures took small (omega (arith, c.if-done-number.false, c.len-number.ensures, a.ensures.few)))

pub returns-clause-accepts : goal.returns-clause-accepts
returns-clause-accepts g c =
    let m = c.self.inside in
    let old : OverflowView g.row.O.Denot g.row.D.Denot = record { inner = m.line.inner; held = m.line.held; reopens = m.line.reopens; tally = m.tally } in
    let a = c.accept-done in
    let new : OverflowView g.row.O.Denot g.row.D.Denot = record { inner = a.new.self.inner; held = a.new.self.held; reopens = a.new.self.reopens; tally = c.after_send-whole.result } in
    let same = same_loaded old.tally new.tally a.result.count (Ok tt) c.after_send-whole.ensures in
    let moves = a.ensures.passes.1 in
    let can = c.can_count.ensures c.if-not-can_count.false in
    let small : old.tally.count + a.result.count ≤ 2 ^ 64 - 1 = omega (arith, can.0, a.ensures.few, c.len-number.ensures) in
    subst (λ (v : OverflowView g.row.O.Denot g.row.D.Denot). Accepts g.O.Outlet.state g.D.Disk.state c.args.frames.now v new) c.self.view_is
    (record { taken = a.result.count; count = counted old.tally new.tally a.result.count (Ok tt) c.after_send-whole.ensures small; forwarded = a.ensures.passes.0; moves = moves })

pub returns-clause-lasts : goal.returns-clause-lasts
returns-clause-lasts g c =
    let m = c.self.inside in
    let old : OverflowView g.row.O.Denot g.row.D.Denot = record { inner = m.line.inner; held = m.line.held; reopens = m.line.reopens; tally = m.tally } in
    let a = c.accept-done in
    let new : OverflowView g.row.O.Denot g.row.D.Denot = record { inner = a.new.self.inner; held = a.new.self.held; reopens = a.new.self.reopens; tally = c.after_send-whole.result } in
    let same = same_loaded old.tally new.tally a.result.count (Ok tt) c.after_send-whole.ensures in
    let moves = a.ensures.passes.1 in
    subst (λ (v : OverflowView g.row.O.Denot g.row.D.Denot). Lasts g.O.Outlet.state g.D.Disk.state v new) c.self.view_is (lasts_of g.O.Outlet.state g.D.Disk.state c.args.frames.now a.result.count a.ensures.passes.0 old new moves same c.self.invariant)

pub returns-clause-refused : goal.returns-clause-refused
returns-clause-refused g c =
    let m = c.self.inside in
    let old : OverflowView g.row.O.Denot g.row.D.Denot = record { inner = m.line.inner; held = m.line.held; reopens = m.line.reopens; tally = m.tally } in
    let a = c.accept-done in
    let new : OverflowView g.row.O.Denot g.row.D.Denot = record { inner = a.new.self.inner; held = a.new.self.held; reopens = a.new.self.reopens; tally = c.after_send-whole.result } in
    let same = same_loaded old.tally new.tally a.result.count (Ok tt) c.after_send-whole.ensures in
    let moves = a.ensures.passes.1 in
    subst (λ (v : OverflowView g.row.O.Denot g.row.D.Denot). v.held.store.closed ≡ true → new.inner ≡ v.inner) c.self.view_is
    (λ closed. absurd (let no : false ≡ true = sym (sym c.failed.ensures ∙ c.if-failed.false) ∙ closed in cc))
