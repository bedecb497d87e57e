-- The turns of a destination that do something.
use Rattle.std.proofs.Common.{arith, ◌≡◌, ◌≤◌, ◌<◌, ℕ, ◌+◌, ◌-◌, ◌*◌, ◌^◌, Bool, true, false, Option, Some, None, List, [], ◌∷◌, length, refl, ap, sym, subst}
use Rattle.std.proofs.lemmas.Bool.Decides.{nat_tests}
use Rattle.std.specs.Prelude.{◌||◌, ◌&&◌, ◌==◌, not, nat_lt, Ok, Err}
use Rattle.sg_device.specs.Faults.{Rose}
use Rattle.sg_msg.specs.Message.{Content}
use Rattle.sg_actor.specs.Reading.{one_if}
use Rattle.sg_actor.specs.Rendering.{sent_of}
use Rattle.sg_actor.specs.DestTurns.{shown_in, has_shown, SendsWith}
use Rattle.sg_actor.specs.declared.rendering.DestSpec.{DestSpec}
use Rattle.sg_actor.specs.declared.turned.GivenUp.{GivenUp}
use Rattle.sg_actor.specs.declared.turned.Turned.{Turned}
use Rattle.sg_turns.specs.Turns.{Turn, any_step, result_of, DestState, SendsBy, SentTurns}
use Rattle.sg_turns.specs.Serving.{is_busy, is_busy_answer, busy_of}
use Rattle.sg_turns.specs.Failing.{DestIsBounded}

pub one-most : (b : Bool) → one_if b ≤ 1
one-most true = omega arith
one-most false = omega arith

-- what pays for a turn, by what was told of it; at a time that was too early it was idle, or not
paid : (later shown reopens refused idle : Bool) (taken c c' f f' l l' : ℕ) → c' ≡ c + taken → f ≤ f' → l ≤ l'
    → (later ≡ true → l < l') → (later ≡ true → shown ≡ false → reopens ≡ true) → (refused ≡ true → f + 1 ≤ f') → (refused ≡ false → later ≡ false → shown ≡ true → 0 < taken)
    → one_if (((shown || reopens) && not (later && idle)) || (later && idle)) + (c + 2 * f + l + one_if (refused || (later && not shown))) ≤ one_if reopens + (c' + 2 * f' + l')
paid later shown reopens true idle taken c c' f f' l l' count faults laters more early rose some =
    let busy = one-most (((shown || reopens) && not (later && idle)) || (later && idle)) in let one : f + 1 ≤ f' = rose refl in omega arith
paid true true reopens false idle taken c c' f f' l l' count faults laters more early rose some =
    let busy = one-most (((true || reopens) && not (true && idle)) || (true && idle)) in let one : l < l' = more refl in omega arith
paid true false true false idle taken c c' f f' l l' count faults laters more early rose some =
    let busy = one-most (((false || true) && not (true && idle)) || (true && idle)) in let one : l < l' = more refl in omega arith
paid true false false false idle taken c c' f f' l l' count faults laters more early rose some = absurd (let differ : false ≡ true = early refl refl in cc)
paid false true reopens false idle taken c c' f f' l l' count faults laters more early rose some =
    let one : 0 < taken = some refl refl refl in omega arith
paid false false true false idle taken c c' f f' l l' count faults laters more early rose some = omega arith
paid false false false false idle taken c c' f f' l l' count faults laters more early rose some = omega arith

-- without an answer
unpaid : (later shown reopens refused : Bool) (taken c c' f f' l l' : ℕ) → c' ≡ c + taken → f ≤ f' → l ≤ l' → (later ≡ true → l < l') → (refused ≡ true → f + 1 ≤ f')
    → c + 2 * f + l + one_if (refused || (later && not shown)) ≤ one_if reopens + (c' + 2 * f' + l')
unpaid later shown reopens true taken c c' f f' l l' count faults laters more rose = let one : f + 1 ≤ f' = rose refl in omega arith
unpaid true shown reopens false taken c c' f f' l l' count faults laters more rose = let one : l < l' = more refl in let most = one-most (not shown) in omega arith
unpaid false shown reopens false taken c c' f f' l l' count faults laters more rose = omega arith

less-of : (l l' : ℕ) → nat_lt l l' ≡ true → l < l'
less-of l l' h = grind (arith, nat_tests)

same-of : (l l' : ℕ) → l ≤ l' → nat_lt l l' ≡ false → l' ≡ l
same-of l l' most h = (let least : l' ≤ l = grind (arith, nat_tests) in omega arith)

rose-one : (f f' : ℕ) → f' < 2 ^ 64 - 1 → Rose f f' → f + 1 ≤ f'
rose-one f f' below rose = omega arith

sent-some : (spec : DestSpec) (messages : List Content) → 0 < length messages → 0 < length (sent_of spec messages)
sent-some spec [] some = absurd (omega arith)
sent-some spec (m ∷ ms) some = omega arith

-- What a turn, or several, leave: they were paid for, and no count falls.
record Pays (busy : ℕ) (old new : DestState) : Type 0 where
  paid : busy + (old.drain.count + 2 * old.drain.faults + old.drain.laters + one_if new.outage.reopens) ≤ one_if old.outage.reopens + (new.drain.count + 2 * new.drain.faults + new.drain.laters)
  count : old.drain.count ≤ new.drain.count
  faults : old.drain.faults ≤ new.drain.faults
  laters : old.drain.laters ≤ new.drain.laters

answered : (spec : DestSpec) (old new : DestState) (turn : Turn) (turned : Turned) (taken : ℕ) (refused : Bool) → new.drain.faults < 2 ^ 64 - 1
    → SendsWith {E = Unit {0}} spec any_step (tt {0}) (tt {0}) old.outage new.outage old.drain new.drain (Ok turned) turn.made taken refused
    → Pays (one_if (turned.did || turned.idle)) old new
answered spec old new turn turned taken refused below h =
    let later : Bool = nat_lt old.drain.laters new.drain.laters in
    let pay = paid later (has_shown turn.made) old.outage.reopens refused (taken == 0) taken old.drain.count new.drain.count old.drain.faults new.drain.faults old.drain.laters new.drain.laters
    h.takes.rose h.takes.faults h.laters.0 (less-of old.drain.laters new.drain.laters) (λ l s. h.early (less-of old.drain.laters new.drain.laters l) s)
    (λ r. rose-one old.drain.faults new.drain.faults below (h.rose r))
    (λ r l s. subst (λ n. 0 < n) (sym (h.whole refl r (same-of old.drain.laters new.drain.laters h.laters.0 l))) (sent-some spec (shown_in turn.made) (less-of 0 (length (shown_in turn.made)) s))) in
    record {
      paid = rw (h.tells.did, h.tells.idle, h.reopens) pay;
      count = omega (arith, h.takes.rose);
      faults = h.takes.faults;
      laters = h.laters.0;
    }

unanswered : (spec : DestSpec) (old new : DestState) (turn : Turn) (taken : ℕ) (refused : Bool) → new.drain.faults < 2 ^ 64 - 1
    → SendsWith {E = Unit {0}} spec any_step (tt {0}) (tt {0}) old.outage new.outage old.drain new.drain (Err tt) turn.made taken refused
    → Pays 0 old new
unanswered spec old new turn taken refused below h =
    let later : Bool = nat_lt old.drain.laters new.drain.laters in
    let pay = unpaid later (has_shown turn.made) old.outage.reopens refused taken old.drain.count new.drain.count old.drain.faults new.drain.faults old.drain.laters new.drain.laters
    h.takes.rose h.takes.faults h.laters.0 (less-of old.drain.laters new.drain.laters) (λ r. rose-one old.drain.faults new.drain.faults below (h.rose r)) in
    record {
      paid = rw (h.reopens) (omega (arith, pay));
      count = omega (arith, h.takes.rose);
      faults = h.takes.faults;
      laters = h.laters.0;
    }

stays-paid : (s : DestState) → Pays 0 s s
stays-paid s = record { paid = omega arith; count = omega arith; faults = omega arith; laters = omega arith }

by-answer : (answer : Option Turned) (spec : DestSpec) (old new : DestState) (turn : Turn) (taken : ℕ) (refused : Bool) → new.drain.faults < 2 ^ 64 - 1
    → SendsWith {E = Unit {0}} spec any_step (tt {0}) (tt {0}) old.outage new.outage old.drain new.drain (result_of answer) turn.made taken refused
    → Pays (one_if (is_busy_answer answer)) old new
by-answer (Some turned) spec old new turn taken refused below h = answered spec old new turn turned taken refused below h
by-answer None spec old new turn taken refused below h = unanswered spec old new turn taken refused below h

calm-of : (answer : Option Turned) → result_of answer ≡ Ok (record { did = false; idle = false }) → is_busy_answer answer ≡ false
calm-of (Some turned) is = let same : turned ≡ record { did = false; idle = false } = cc in ap (λ t. t.did || t.idle) same
calm-of None is = absurd (let differ : Err tt ≡ Ok (record { did = false; idle = false }) = is in cc)

turn-paid : (cause : Option GivenUp) (spec : DestSpec) (old new : DestState) (turn : Turn) → new.drain.faults < 2 ^ 64 - 1 → SendsBy cause spec old new turn → Pays (one_if (is_busy turn)) old new
turn-paid None spec old new turn below (taken, (refused, h)) = by-answer turn.answer spec old new turn taken refused below h
turn-paid (Some c) spec old new turn below h =
    let same : new ≡ old = (λ i. record { outage = h.1.outage_stays i; drain = h.1.drain_stays i }) in
    subst (λ s. Pays (one_if (is_busy turn)) old s) (sym same) (subst (λ b. Pays (one_if b) old old) (sym (calm-of turn.answer h.1.nothing)) (stays-paid old))

turns-paid : (spec : DestSpec) (old new : DestState) (turns : List Turn) → new.drain.faults < 2 ^ 64 - 1 → SentTurns spec old new turns → Pays (busy_of turns) old new
turns-paid spec old new [] below same = subst (λ s. Pays 0 old s) (sym same) (stays-paid old)
turns-paid spec old new (turn ∷ turns) below (mid, (sent, rest)) =
    let k = turns-paid spec mid new turns below rest in
    let h = turn-paid old.outage.given_up spec old mid turn (omega (arith, k.faults, below)) sent in
    record {
      paid = omega (arith, h.paid, k.paid);
      count = omega (arith, h.count, k.count);
      faults = omega (arith, h.faults, k.faults);
      laters = omega (arith, h.laters, k.laters);
    }

pub dest-bounded : (spec : DestSpec) (old new : DestState) (turns : List Turn) → DestIsBounded spec old new turns
dest-bounded spec old new turns sent below =
    let h = turns-paid spec old new turns below sent in omega (arith, h.paid, h.count, h.faults, h.laters)

pub busy-most : (turns : List Turn) → busy_of turns ≤ length turns
busy-most [] = omega arith
busy-most (t ∷ turns) = let rest = busy-most turns in let one = one-most (is_busy t) in omega (arith, rest, one)
