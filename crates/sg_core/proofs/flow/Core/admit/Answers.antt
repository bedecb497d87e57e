use Rattle.std.proofs.Common.{◌≡◌, ◌∙◌, ◌++◌, refl, sym, ap, arith, length, take, drop}
use Rattle.sg_machine.specs.Verdicts.{claims_of}
use Rattle.sg_offers.specs.Payloads.{payloads_of}
use Rattle.sg_offers.specs.Rooms.{seen_in}
use Rattle.sg_offers.proofs.ItemLemmas.{take-whole}
use Rattle.sg_machine.specs.declared.event.Act.TheVariants.{Admit}
use Rattle.sg_core.proofs.AtSteps.{quiet-look}
use Rattle.sg_core.proofs.Whole.{whole-still}
use Rattle.sg_core.proofs.AdmitTurn.{unset-at, all-to, stores-there, stores-apart, credit-for, enter-of, length-seen, length-begun, turn-does}
use Rattle.sg_core.proofs.flow.Core.admit.Goals as goal

pub returns-then-credit-len-clause-does : goal.returns-then-credit-len-clause-does
returns-then-credit-len-clause-does g c = rw (← c.self.view_is) (quiet-look _ _ refl refl refl refl)

pub returns-then-next-len-clause-does : goal.returns-then-next-len-clause-does
returns-then-next-len-clause-does g c = rw (← c.self.view_is) (quiet-look _ _ refl refl refl refl)

pub returns-in-Err-clause-does : goal.returns-in-Err-clause-does
returns-in-Err-clause-does g c = rw (← c.self.view_is) (quiet-look _ _ refl c.prepare.ensures.same refl refl)

pub append_all-requires-clause-to : goal.append_all-requires-clause-to
append_all-requires-clause-to g c =
    let enter = rw (← c.self.view_is) at c.requires.batch.each in
    let count = sym (length-seen c.prepare.new.sinks) ∙ ap length c.prepare.ensures.same in
    let few = enter-of (seen_in c.self.inside.sinks) (length c.prepare.new.sinks) c.args.records.items enter (sym count) in
    all-to (length c.prepare.new.sinks) c.args.i (seen_in c.self.inside.sinks) c.args.records.items c.deref-2.result.now few (c.deref-2.ensures.value ∙ c.in-Ok.ensures.payloads ∙ ap (λ rs. payloads_of c.args.i (seen_in c.self.inside.sinks) (claims_of rs)) c.deref.ensures.value)

pub append_all-requires-clause-unset : goal.append_all-requires-clause-unset
append_all-requires-clause-unset g c = λ d. rw (c.deref_mut.ensures.value, c.in-Ok.ensures.fails) (unset-at c.self.inside.sinks d)

pub append_all-requires-clause-stores : goal.append_all-requires-clause-stores
append_all-requires-clause-stores g c = rw c.prepare.ensures.same (stores-there _ c.self.invariant.state c.self.invariant.at)

pub append_all-requires-clause-apart : goal.append_all-requires-clause-apart
append_all-requires-clause-apart g c = rw c.prepare.ensures.same (stores-apart _ c.self.invariant.state c.self.invariant.at)

pub begin_all-requires-clause-credit : goal.begin_all-requires-clause-credit
begin_all-requires-clause-credit g c =
    let len = ap length (c.deref-3.ensures.value ∙ c.offer_all-answers.ensures.begun) ∙ length-begun c.args.records.items _ in
    let batch = c.requires.batch.some in
    let n = c.len.ensures in
    let k = c.credit.ensures in
    let m = c.len-2.ensures in
    let b = c.begun-next.ensures in
    rw len (credit-for c.self.inside.sources c.args.i (length c.args.records.items) c.at-source.result.now c.at-source.ensures batch (omega arith) (omega arith))

pub invariant_of-self-2 : goal.invariant_of-self-2
invariant_of-self-2 g c =
    whole-still _ _ (Admit c.args.i c.args.records.items c.offer_all-answers.result.verdicts.items) c.self.invariant
    (turn-does _ _ c.args.i c.begun-next.result c.at-source.result.now c.args.records.items c.offer_all-answers.result.verdicts.items c.deref-3.result.now (seen_in c.prepare.new.sinks) c.in-Ok.batch.payloads.items c.deref-2.result.now c.append_all.new.fails (take c.in-Ok.batch.fails.len (c.append_all.new.fails ++ drop (length c.append_all.new.fails) c.in-Ok.batch.fails.items)) c.self.invariant (record {
      there = c.at-source.ensures;
      next_is = c.begun-next.ensures;
      room = (let n = c.len.ensures in let k = c.credit.ensures in omega arith);
      batch = rw (← c.self.view_is) at c.requires.batch;
      same = c.prepare.ensures.same;
      payloads_are = rw c.deref.ensures.value at c.in-Ok.ensures.payloads;
      spelled = λ small. rw c.deref.ensures.value at (c.in-Ok.ensures.spelled small);
      kept = rw c.deref.ensures.value at c.in-Ok.ensures.kept;
      read_is = c.deref-2.ensures.value;
      appended = c.append_all.ensures;
      used_is = (let len : length c.append_all.new.fails ≡ c.in-Ok.batch.fails.len = (let a = c.append_all.auto.fails in let b = c.deref_mut.ensures.len in omega arith) in take-whole c.append_all.new.fails (drop (length c.append_all.new.fails) c.in-Ok.batch.fails.items) c.in-Ok.batch.fails.len len);
      sinks = c.offer_all-answers.ensures.sinks;
      verdicts = c.offer_all-answers.ensures.verdicts;
      begun_are = c.deref-3.ensures.value ∙ c.offer_all-answers.ensures.begun;
      sources = c.begin_all.ensures;
      calls = refl;
    }))

pub returns-clause-does : goal.returns-clause-does
returns-clause-does g c =
    rw (← c.self.view_is)
    (turn-does _ _ c.args.i c.begun-next.result c.at-source.result.now c.args.records.items c.offer_all-answers.result.verdicts.items c.deref-3.result.now (seen_in c.prepare.new.sinks) c.in-Ok.batch.payloads.items c.deref-2.result.now c.append_all.new.fails (take c.in-Ok.batch.fails.len (c.append_all.new.fails ++ drop (length c.append_all.new.fails) c.in-Ok.batch.fails.items)) c.self.invariant (record {
      there = c.at-source.ensures;
      next_is = c.begun-next.ensures;
      room = (let n = c.len.ensures in let k = c.credit.ensures in omega arith);
      batch = rw (← c.self.view_is) at c.requires.batch;
      same = c.prepare.ensures.same;
      payloads_are = rw c.deref.ensures.value at c.in-Ok.ensures.payloads;
      spelled = λ small. rw c.deref.ensures.value at (c.in-Ok.ensures.spelled small);
      kept = rw c.deref.ensures.value at c.in-Ok.ensures.kept;
      read_is = c.deref-2.ensures.value;
      appended = c.append_all.ensures;
      used_is = (let len : length c.append_all.new.fails ≡ c.in-Ok.batch.fails.len = (let a = c.append_all.auto.fails in let b = c.deref_mut.ensures.len in omega arith) in take-whole c.append_all.new.fails (drop (length c.append_all.new.fails) c.in-Ok.batch.fails.items) c.in-Ok.batch.fails.len len);
      sinks = c.offer_all-answers.ensures.sinks;
      verdicts = c.offer_all-answers.ensures.verdicts;
      begun_are = c.deref-3.ensures.value ∙ c.offer_all-answers.ensures.begun;
      sources = c.begin_all.ensures;
      calls = refl;
    }))
