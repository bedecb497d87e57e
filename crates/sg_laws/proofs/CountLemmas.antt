-- Counts of calls, and of what is true.
use Rattle.std.proofs.Common.{arith, ◌≡◌, ◌≤◌, ◌<◌, ℕ, ◌+◌, ◌-◌, ◌^◌, Bool, true, false, Option, Some, List, [], ◌∷◌, ◌++◌, length, length-append, refl, ap, sym, ◌∙◌, subst, inl, inr, append_assoc}
use Rattle.std.proofs.lemmas.Bool.{cases_eq, ne_eqb}
use Rattle.std.proofs.lemmas.Bool.Decides.{nat_tests}
use Rattle.std.specs.Prelude.{◌||◌, ◌&&◌, ◌==◌, not, nat_lt}
use Rattle.sg_device.specs.Faults.{Rose}
use Rattle.sg_counter.specs.Exchanges.{Exchange}
use Rattle.sg_counter.specs.declared.answers.Stored.{Stored}
use Rattle.sg_counter.specs.declared.answers.Stored.TheVariants.{Wrote, Unchanged, Broken}
use Rattle.sg_counter.specs.declared.calls.CoreReply.{CoreReply}
use Rattle.sg_counter.specs.declared.calls.CoreReply.TheVariants.{Credit as CreditReply, Admitted, Front as FrontReply, Settled as SettledReply, Refilled, Stored as StoredReply}
use Rattle.sg_actor.specs.Bringing.{admitted_by, admitted_in, stored_by, stores_in}
use Rattle.sg_actor.specs.Positions.{is_same_credit, is_failure, has_news, after_stores}
use Rattle.sg_actor.specs.Reading.{one_if}
use Rattle.sg_actor.specs.SourceTurns.{AsksCredit}
use Rattle.sg_actor.specs.Steps.{PullFails}
use Rattle.sg_actor.specs.declared.position.Position.{Position}
use Rattle.sg_laws.specs.Counts.{credit_after, changed_by, changes, writes, writes_in}
use Rattle.sg_turns.proofs.BoundLemmas.{one-most}

-- What is true.

or-sum : (a b : Bool) → one_if (a || b) ≤ one_if a + one_if b
or-sum true b = omega arith
or-sum false b = omega arith

nand-sum : (a b : Bool) → one_if (not (not a && b)) ≤ one_if a + one_if (not b)
nand-sum true b = omega arith
nand-sum false b = omega arith

pub pulled-split : (a b c d : Bool) → one_if (a || b || c || d) ≤ one_if a + one_if b + one_if c + one_if d
pulled-split true b c d = let h = one-most (true || b || c || d) in omega (arith, h)
pulled-split false true c d = let h = one-most (false || true || c || d) in omega (arith, h)
pulled-split false false c d = let h = or-sum c d in omega (arith, h)

busy-split : (pulled adm up same news idle : Bool) → one_if ((not (not (pulled || adm || up) && same) || news) || idle) ≤ one_if pulled + one_if adm + one_if up + one_if (not same) + one_if news + one_if idle
busy-split pulled adm up same news idle =
    let a = or-sum (not (not (pulled || adm || up) && same) || news) idle in
    let b = or-sum (not (not (pulled || adm || up) && same)) news in
    let c = nand-sum (pulled || adm || up) same in
    let d = or-sum (pulled || adm) up in
    let e = or-sum pulled adm in
    omega (arith, a, b, c, d, e)

pub turn-sum : (did idle pulled adm up same news was : Bool) → did ≡ (not (not (pulled || adm || up) && same) || news) → idle ≡ was
    → one_if (did || idle) ≤ one_if pulled + one_if adm + one_if up + one_if (not same) + one_if news + one_if was
turn-sum did idle pulled adm up same news was did-is idle-is =
    let is : one_if (did || idle) ≡ one_if ((not (not (pulled || adm || up) && same) || news) || was) =
    ap (λ d. one_if (d || idle)) did-is ∙ ap (λ i. one_if ((not (not (pulled || adm || up) && same) || news) || i)) idle-is in
    let split = busy-split pulled adm up same news was in
    omega (arith, is, split)

pub not-sum : (b : Bool) → one_if (not b) + one_if b ≡ 1
not-sum true = omega arith
not-sum false = omega arith

less-of : (x y : ℕ) → nat_lt x y ≡ true → x < y
less-of x y h = grind (arith, nat_tests)

rises-by : (b : Bool) (x y : ℕ) → nat_lt x y ≡ b → x ≤ y → one_if b + x ≤ y
rises-by true x y is le = let l : x < y = less-of x y is in omega (arith, l)
rises-by false x y is le = omega (arith, le)

pub rises : (x y : ℕ) → x ≤ y → one_if (nat_lt x y) + x ≤ y
rises x y le = rises-by (nat_lt x y) x y refl le

pub fails-paid : (f f' : Bool) (x y : ℕ) → PullFails f f' x y → x ≤ y → y < 2 ^ 64 - 1 → one_if (nat_lt (one_if f) (one_if f')) + x ≤ y
fails-paid true true x y h le below = let none : one_if (nat_lt (one_if true) (one_if true)) ≡ 0 = refl in omega (arith, le, none)
fails-paid true false x y h le below = let none : one_if (nat_lt (one_if true) (one_if false)) ≡ 0 = refl in omega (arith, le, none)
fails-paid false true x y h le below =
    let rose : Rose x y = h.1 refl refl in
    let more : x + 1 ≤ y = omega (arith, rose, below) in
    let one = one-most (nat_lt (one_if false) (one_if true)) in
    omega (arith, more, one)
fails-paid false false x y h le below = let none : one_if (nat_lt (one_if false) (one_if false)) ≡ 0 = refl in omega (arith, le, none)

-- an end is for good
pub ends-paid : (e e' : Bool) → (e ≡ true → e' ≡ true) → one_if (nat_lt (one_if e) (one_if e')) + one_if e ≤ one_if e'
ends-paid true true h = let none : one_if (nat_lt (one_if true) (one_if true)) ≡ 0 = refl in omega (arith, none)
ends-paid true false h = absurd (let wrong : false ≡ true = h refl in cc)
ends-paid false true h = let one = one-most (nat_lt (one_if false) (one_if true)) in omega (arith, one)
ends-paid false false h = let none : one_if (nat_lt (one_if false) (one_if false)) ≡ 0 = refl in omega (arith, none)

-- Credits.

far-apart : (a b c : ℕ) → one_if (not (a == c)) ≤ one_if (not (a == b)) + one_if (not (b == c))
far-apart a b c = elim (cases_eq a b) [
  | inl e ↦ (let same : one_if (not (a == c)) ≡ one_if (not (b == c)) = ap (λ x. one_if (not (x == c))) e in omega (arith, same))
  | inr ne ↦ (let far : one_if (not (a == b)) ≡ 1 = ap (λ t. one_if (not t)) (ne_eqb a b ne) in let few = one-most (not (a == c)) in omega (arith, far, few))
]

-- the same calls, with another credit told before
less-by : (reply : CoreReply) (a b : ℕ) (es : List Exchange) → changes (Some a) es ≤ one_if (not (a == b)) + changes (Some b) es
    → changed_by (Some a) reply + changes (credit_after (Some a) reply) es ≤ one_if (not (a == b)) + (changed_by (Some b) reply + changes (credit_after (Some b) reply) es)
less-by (CreditReply c) a b es h = let far = far-apart a b c in omega (arith, far)
less-by (Admitted result) a b es h = omega (arith, h)
less-by (FrontReply result) a b es h = omega (arith, h)
less-by (SettledReply result) a b es h = omega (arith, h)
less-by (Refilled result) a b es h = omega (arith, h)
less-by (StoredReply result) a b es h = omega (arith, h)

changes-less : (a b : ℕ) (es : List Exchange) → changes (Some a) es ≤ one_if (not (a == b)) + changes (Some b) es
changes-less a b [] = omega arith
changes-less a b (e ∷ es) = less-by e.reply a b es (changes-less a b es)

-- other calls before them
behind-by : (reply : CoreReply) (a : ℕ) (es rest : List Exchange) → ((b : ℕ) → changes (Some b) rest ≤ changes (Some b) (es ++ rest))
    → changes (Some a) rest ≤ changed_by (Some a) reply + changes (credit_after (Some a) reply) (es ++ rest)
behind-by (CreditReply c) a es rest h = let less = changes-less a c rest in let more = h c in omega (arith, less, more)
behind-by (Admitted result) a es rest h = let more = h a in omega (arith, more)
behind-by (FrontReply result) a es rest h = let more = h a in omega (arith, more)
behind-by (SettledReply result) a es rest h = let more = h a in omega (arith, more)
behind-by (Refilled result) a es rest h = let more = h a in omega (arith, more)
behind-by (StoredReply result) a es rest h = let more = h a in omega (arith, more)

changes-behind : (a : ℕ) (es rest : List Exchange) → changes (Some a) rest ≤ changes (Some a) (es ++ rest)
changes-behind a [] rest = omega arith
changes-behind a (e ∷ es) rest = behind-by e.reply a es rest (λ b. changes-behind b es rest)

-- the calls of a turn, and those behind it
pub changes-turn : (before : Option ℕ) (i credit : ℕ) (made rest : List Exchange) → AsksCredit i credit made
    → one_if (not (is_same_credit before credit)) + changes (Some credit) rest ≤ changes before (made ++ rest)
changes-turn before i credit [] rest asks = absurd asks
changes-turn before i credit (e ∷ es) rest asks =
    subst (λ (x : Exchange). one_if (not (is_same_credit before credit)) + changes (Some credit) rest ≤ changes before ((x ∷ es) ++ rest)) (sym asks)
    (let more = changes-behind credit es rest in omega (arith, more))

pub after-credit : (end : ℕ) (ss : List Stored) (p : Position) → (after_stores end ss p).credit ≡ p.credit
after-credit end [] p = refl
after-credit end (s ∷ ss) p = after-credit end ss (record p { asked = end; broken = p.broken || is_failure s })

-- Positions.

pub stores-both : (xs ys : List Exchange) → stores_in (xs ++ ys) ≡ stores_in xs ++ stores_in ys
stores-both [] ys = refl
stores-both (x ∷ xs) ys = ap (λ ss. stored_by x.reply ++ ss) (stores-both xs ys) ∙ sym (append_assoc (stored_by x.reply) (stores_in xs) (stores_in ys))

pub writes-both : (xs ys : List Stored) → writes (xs ++ ys) ≡ writes xs + writes ys
writes-both [] ys = omega arith
writes-both (x ∷ xs) ys = let h = writes-both xs ys in omega (arith, h)

pub written-both : (xs ys : List Exchange) → writes_in (xs ++ ys) ≡ writes_in xs + writes_in ys
written-both xs ys = ap writes (stores-both xs ys) ∙ writes-both (stores_in xs) (stores_in ys)

pub admitted-both : (xs ys : List Exchange) → admitted_in (xs ++ ys) ≡ admitted_in xs ++ admitted_in ys
admitted-both [] ys = refl
admitted-both (x ∷ xs) ys = ap (λ as'. admitted_by x.call x.reply ++ as') (admitted-both xs ys) ∙ sym (append_assoc (admitted_by x.call x.reply) (admitted_in xs) (admitted_in ys))

pub admitted-length : (xs ys : List Exchange) → length (admitted_in (xs ++ ys)) ≡ length (admitted_in xs) + length (admitted_in ys)
admitted-length xs ys = ap length (admitted-both xs ys) ∙ length-append (admitted_in xs) (admitted_in ys)

or-more : (a b : Bool) → one_if a ≤ one_if (a || b)
or-more true b = omega arith
or-more false b = omega arith

pub broken-stays : (end : ℕ) (ss : List Stored) (p : Position) → one_if p.broken ≤ one_if (after_stores end ss p).broken
broken-stays end [] p = omega arith
broken-stays end (s ∷ ss) p =
    let first = or-more p.broken (is_failure s) in
    let rest = broken-stays end ss (record p { asked = end; broken = p.broken || is_failure s }) in
    omega (arith, first, rest)

abbrev broken_after : Bool → List Stored → Bool
broken_after b [] = b
broken_after b (s ∷ ss) = broken_after (b || is_failure s) ss

broken-is : (end : ℕ) (ss : List Stored) (p : Position) → (after_stores end ss p).broken ≡ broken_after p.broken ss
broken-is end [] p = refl
broken-is end (s ∷ ss) p = broken-is end ss (record p { asked = end; broken = p.broken || is_failure s })

none-asked : (stored x : Bool) → one_if (stored && (not true && x)) ≡ 0
none-asked true x = refl
none-asked false x = refl

-- a position that is news was written, or its store failed, which comes once
news-by : (ss : List Stored) (stored x b : Bool) → length ss ≡ one_if (stored && (not b && x)) → one_if (has_news ss) + one_if b ≤ writes ss + one_if (broken_after b ss)
news-by [] stored x b len = omega arith
news-by (Wrote w ∷ []) stored x true len = omega arith
news-by (Wrote w ∷ []) stored x false len = omega arith
news-by (Unchanged ∷ []) stored x true len = omega arith
news-by (Unchanged ∷ []) stored x false len = omega arith
news-by (Broken ∷ []) stored x true len = absurd (let none = none-asked stored x in let wrong : ⊥ = omega (arith, none, len) in wrong)
news-by (Broken ∷ []) stored x false len = omega arith
news-by (s ∷ t ∷ ss) stored x b len = absurd (let few = one-most (stored && (not b && x)) in let wrong : ⊥ = omega (arith, few, len) in wrong)

pub news-paid : (ss : List Stored) (stored x : Bool) (end : ℕ) (p : Position) → length ss ≡ one_if (stored && (not p.broken && x)) → one_if (has_news ss) + one_if p.broken ≤ writes ss + one_if (after_stores end ss p).broken
news-paid ss stored x end p len = let h = news-by ss stored x p.broken len in let is = ap one_if (broken-is end ss p) in omega (arith, h, is)
