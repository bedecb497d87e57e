-- The turns of some of the actors of one kind, one actor after the other.
use Rattle.std.proofs.Common.{arith, ◌≡◌, ◌<◌, ◌+◌, ℕ, true, false, List, [], ◌++◌, length, refl, ap, sym, ◌∙◌, subst, Option, Some, None, slice_get, ◌⊎◌, inl, inr}
use Rattle.std.proofs.lemmas.Bool.{cases_eq, eq-eqb, ne_eqb, or_cases, or_parts, cond-true, cond-false}
use Rattle.std.proofs.lemmas.List.{append-nil}
use Rattle.std.proofs.Math.Bool.{cond}
use Rattle.std.specs.Prelude.{◌==◌, ◌||◌}
use Rattle.sg_list.specs.Lists.{change}
use Rattle.sg_list.proofs.ListLemmas.{length-change, get-change-same, get-change-other, some-same}
use Rattle.sg_counter.specs.Exchanges.{Exchange, Makes, Caller, calls_by}
use Rattle.sg_counter.specs.declared.calls.CoreCall.{CoreCall}
use Rattle.sg_counter.specs.declared.calls.CoreReply.{CoreReply}
use Rattle.sg_actor.specs.Bringing.{AllBy}
use Rattle.sg_actor.specs.declared.turned.Turned.{Turned}
use Rattle.sg_turns.specs.Turns.{Turn}
use Rattle.sg_turns.specs.Serving.{is_busy, is_busy_answer}
use Rattle.sg_turns.specs.Rounds.{noted, TellsRound, TookFirst}
use Rattle.sg_turns.specs.declared.round.Round.{Round}
use Rattle.sg_turns.proofs.TurnLemmas.{calls-append, own-calls, other-calls}
use Rattle.sg_actor.proofs.TurnLemmas.{makes-append}

abbrev pub no-turn : Turn
no-turn = record { made = []; answer = None }

abbrev pub put : (ℕ → Turn) → ℕ → Turn → ℕ → Turn
put turn n t j = cond (j == n) t (turn j)

put-same : (turn : ℕ → Turn) (n j : ℕ) (t : Turn) → j ≡ n → put turn n t j ≡ t
put-same turn n j t e = cond-true (j == n) t (turn j) (eq-eqb j n e)

put-other : (turn : ℕ → Turn) (n j : ℕ) (t : Turn) → (j ≡ n → ⊥) → put turn n t j ≡ turn j
put-other turn n j t h = cond-false (j == n) t (turn j) (ne_eqb j n h)

-- A number below the next one is that one, or below it.
pub last-or : (j n : ℕ) → j < n + 1 → (j ≡ n) ⊎ ((j < n) × (j ≡ n → ⊥))
last-or j n h = elim (cases_eq j n) [ inl e ↦ inl e | inr d ↦ inr (omega (arith, d), d) ]

tells-some : (n : ℕ) (turn : ℕ → Turn) (round : Round) (t : Turn) (turned : Turned) → t.answer ≡ Some turned → TellsRound (λ j. j < n) turn round
    → TellsRound (λ j. j < n + 1) (put turn n t) (noted round (Some turned))
tells-some n turn round t turned is h = record {
  busy = (λ b. elim (or_cases round.busy (turned.did || turned.idle) b) [
    | inl e ↦ (let k = h.busy e in (k.0, (omega (arith, k.1.0), ap is_busy (put-other turn n k.0 t (λ q. omega (arith, k.1.0, q))) ∙ k.1.1)))
    | inr e ↦ (n, (omega arith, ap is_busy (put-same turn n n t refl) ∙ (ap is_busy_answer is ∙ e)))
  ]);
  calm = (λ b k below. let parts = or_parts round.busy (turned.did || turned.idle) b in elim (last-or k n below) [
    | inl e ↦ ap is_busy (put-same turn n k t e) ∙ (ap is_busy_answer is ∙ parts.1)
    | inr p ↦ ap is_busy (put-other turn n k t p.1) ∙ h.calm parts.0 k p.0
  ]);
  starved = (λ b. let k = h.starved b in (k.0, (omega (arith, k.1.0), ap (λ (u : Turn). u.answer) (put-other turn n k.0 t (λ q. omega (arith, k.1.0, q))) ∙ k.1.1)));
  fed = (λ b k below. elim (last-or k n below) [
    | inl e ↦ (turned, ap (λ (u : Turn). u.answer) (put-same turn n k t e) ∙ is)
    | inr p ↦ (let u = h.fed b k p.0 in (u.0, ap (λ (u : Turn). u.answer) (put-other turn n k t p.1) ∙ u.1))
  ]);
}

tells-none : (n : ℕ) (turn : ℕ → Turn) (round : Round) (t : Turn) → t.answer ≡ None → TellsRound (λ j. j < n) turn round
    → TellsRound (λ j. j < n + 1) (put turn n t) (noted round None)
tells-none n turn round t is h = record {
  busy = (λ b. let k = h.busy b in (k.0, (omega (arith, k.1.0), ap is_busy (put-other turn n k.0 t (λ q. omega (arith, k.1.0, q))) ∙ k.1.1)));
  calm = (λ b k below. elim (last-or k n below) [
    | inl e ↦ ap is_busy (put-same turn n k t e) ∙ ap is_busy_answer is
    | inr p ↦ ap is_busy (put-other turn n k t p.1) ∙ h.calm b k p.0
  ]);
  starved = (λ b. (n, (omega arith, ap (λ (u : Turn). u.answer) (put-same turn n n t refl) ∙ is)));
  fed = (λ b. absurd (let differ : true ≡ false = b in cc));
}

tells-more : (n : ℕ) (turn : ℕ → Turn) (round : Round) (t : Turn) (answer : Option Turned) → t.answer ≡ answer → TellsRound (λ j. j < n) turn round
    → TellsRound (λ j. j < n + 1) (put turn n t) (noted round answer)
tells-more n turn round t (Some turned) is h = tells-some n turn round t turned is h
tells-more n turn round t None is h = tells-none n turn round t is h

-- none took a turn yet
pub took-none : {A S : Type 0} (takes : A → A → Turn → Type 0) (who : ℕ → Caller) (step : S → CoreCall → CoreReply → S → Type 0) (counter : S) (old : List A)
    → TookFirst takes who step counter counter old old 0 (record { busy = false; starved = false }) [] (λ j. no-turn)
took-none takes who step counter old = record {
  makes = refl;
  all = refl;
  each = λ j a b below. absurd (omega (arith, below));
  rest = λ j above. refl;
  calls = λ j below. absurd (omega (arith, below));
  others = λ c other. refl;
  tells = record {
    busy = (λ b. absurd (let differ : false ≡ true = b in cc));
    calm = (λ b k below. absurd (omega (arith, below)));
    starved = (λ b. absurd (let differ : false ≡ true = b in cc));
    fed = (λ b k below. absurd (omega (arith, below)));
  };
}

-- the next one takes its turn
pub took-more : {A S : Type 0} (takes : A → A → Turn → Type 0) (who : ℕ → Caller) (step : S → CoreCall → CoreReply → S → Type 0) (counter between counter' : S)
    (old mid new : List A) (n : ℕ) (round : Round) (made : List Exchange) (turn : ℕ → Turn) (x y : A) (t : Turn) (answer : Option Turned)
    → ((j k : ℕ) → who j ≡ who k → j ≡ k)
    → TookFirst takes who step counter between old mid n round made turn
    → slice_get mid n ≡ Some x → new ≡ change mid n (λ z. y)
    → takes x y t → Makes step between t.made counter' → AllBy (who n) t.made → t.answer ≡ answer
    → TookFirst takes who step counter counter' old new (n + 1) (noted round answer) (made ++ t.made) (put turn n t)
took-more takes who step counter between counter' old mid new n round made turn x y t answer inj h there is took makes own came = record {
  makes = makes-append step counter between counter' made t.made h.makes makes;
  all = (ap length is ∙ length-change mid n (λ z. y)) ∙ h.all;
  each = (λ j a b below before after. elim (last-or j n below) [
    | inl e ↦ (
        let a-is : a ≡ x = some-same a x (sym before ∙ (ap (λ k. slice_get old k) e ∙ (sym (h.rest n (omega arith)) ∙ there))) in
        let b-is : b ≡ y = some-same b y (sym after ∙ (ap (λ k. slice_get new k) e ∙ (ap (λ l. slice_get l n) is ∙ get-change-same mid n (λ z. y) x there))) in
        subst (λ u. takes a b u) (sym (put-same turn n j t e)) (subst (λ v. takes a v t) (sym b-is) (subst (λ v. takes v y t) (sym a-is) took)))
    | inr p ↦ (
        let kept : slice_get mid j ≡ Some b = sym (get-change-other mid n j (λ z. y) p.1) ∙ (ap (λ l. slice_get l j) (sym is) ∙ after) in
        subst (λ u. takes a b u) (sym (put-other turn n j t p.1)) (h.each j a b p.0 before kept))
  ]);
  rest = (λ j above. ap (λ l. slice_get l j) is ∙ (get-change-other mid n j (λ z. y) (λ e. omega (arith, above, e)) ∙ h.rest j (omega (arith, above))));
  calls = (λ j below. calls-append (who j) made t.made ∙ elim (last-or j n below) [
    | inl e ↦ (
        let none : calls_by (who j) made ≡ [] = h.others (who j) (λ k under same. omega (arith, under, e, inj j k same)) in
        let mine : calls_by (who j) t.made ≡ t.made = own-calls (who j) t.made (subst (λ k. AllBy (who k) t.made) (sym e) own) in
        ap (λ l. l ++ calls_by (who j) t.made) none ∙ (mine ∙ ap (λ (u : Turn). u.made) (sym (put-same turn n j t e))))
    | inr p ↦ (
        let none : calls_by (who j) t.made ≡ [] = other-calls (who n) (who j) t.made (λ same. p.1 (inj j n same)) own in
        ap (λ l. calls_by (who j) made ++ l) none ∙ (append-nil (calls_by (who j) made) ∙ (h.calls j p.0 ∙ ap (λ (u : Turn). u.made) (sym (put-other turn n j t p.1)))))
  ]);
  others = (λ c other. calls-append c made t.made ∙ (ap (λ l. l ++ calls_by c t.made) (h.others c (λ j below. other j (omega (arith, below))))
      ∙ other-calls (who n) c t.made (other n (omega arith)) own));
  tells = tells-more n turn round t answer came h.tells;
}
