-- What was said, and is still to be said.
use Rattle.std.proofs.Common.{◌≡◌, ◌≤◌, ◌+◌, ◌-◌, ◌^◌, min, ℕ, List, [], ◌++◌, Option, Some, None, refl, sym, ap, ◌∙◌, subst, arith, Err, IsErrAnd, Ok, Result}
use Rattle.std.proofs.lemmas.List.{append_assoc, append-nil}
use Rattle.std.specs.Option.{option_map}
use Rattle.sg_device.specs.Faults.{Rose}
use Rattle.sg_outside.specs.World.{WorldState}
use Rattle.sg_output.specs.Saying.{OnlySays, SaidText, SaidSome}

min-grows : (a b c : ℕ) → a ≤ b → min (b + 1) (2 ^ 64 - 1) ≤ c → min (a + 1) (2 ^ 64 - 1) ≤ c
min-grows a b c h k = grind arith

pub rose-later : (a b c : ℕ) → a ≤ b → Rose b c → Rose a c
rose-later a b c h k = min-grows a b c h k

pub rose-on : (a b c : ℕ) → Rose a b → b ≤ c → Rose a c
rose-on a b c h k = omega arith

said-then : (a b c : Option (List ℕ)) (s t : List ℕ) → b ≡ option_map (λ said. said ++ s) a → c ≡ option_map (λ said. said ++ t) b → c ≡ option_map (λ said. said ++ (s ++ t)) a
said-then None b c s t e f = f ∙ ap (option_map (λ said. said ++ t)) e
said-then (Some x) b c s t e f = f ∙ (ap (option_map (λ said. said ++ t)) e ∙ ap (λ (y : List ℕ). Some y) (append_assoc x s t))

pub says-text : (a b c : WorldState) (s t : List ℕ) → SaidText a b s → SaidText b c t → SaidText a c (s ++ t)
says-text a b c s t e f = said-then a.said b.said c.said s t e f

said-nothing : (a : Option (List ℕ)) → a ≡ option_map (λ said. said ++ []) a
said-nothing None = refl
said-nothing (Some x) = ap (λ (y : List ℕ). Some y) (sym (append-nil x))

pub says-none : (a : WorldState) → SaidText a a []
says-none a = said-nothing a.said

pub only-says-none : (a : WorldState) → OnlySays a a
only-says-none a = record { same = refl; later = omega arith }

same-says : (a b c : WorldState) → b ≡ record a { say_faults = b.say_faults; said = b.said } → c ≡ record b { say_faults = c.say_faults; said = c.said } → c ≡ record a { say_faults = c.say_faults; said = c.said }
same-says a b c e f = f ∙ ap (λ (w : WorldState). record w { say_faults = c.say_faults; said = c.said }) e

pub only-says-then : (a b c : WorldState) → OnlySays a b → OnlySays b c → OnlySays a c
only-says-then a b c e f = record {
  same = same-says a b c e.same f.same;
  later = (let l = e.later in let k = f.later in omega (arith, l, k));
}

-- some of the text was said before, and some of the rest is said now
pub some-then : (a b c : WorldState) (all text text' : List ℕ) → SaidSome a b all text → SaidSome b c text text' → SaidSome a c all text'
some-then a b c all text text' (s, (e, f)) (t, (g, h)) =
    (s ++ t, (says-text a b c s t e g, append_assoc s t text' ∙ (ap (λ (xs : List ℕ). s ++ xs) h ∙ f)))

pub some-more : (a b : WorldState) (all text more : List ℕ) → SaidSome a b all text → SaidSome a b (all ++ more) (text ++ more)
some-more a b all text more (s, (e, f)) = (s, (e, sym (append_assoc s text more) ∙ ap (λ (xs : List ℕ). xs ++ more) f))

-- what was said and what is said at the end
pub all-said : (a b c : WorldState) (lines text end : List ℕ) → SaidSome a b lines text → SaidText b c (text ++ end) → SaidText a c (lines ++ end)
all-said a b c lines text end (s, (e, is)) f =
    subst (λ (t : List ℕ). SaidText a c t) (sym (append_assoc s text end) ∙ ap (λ (xs : List ℕ). xs ++ end) is) (says-text a b c s (text ++ end) e f)

pub err-is : {T E : Type 0} → (r : Result T E) (e : E) → IsErrAnd r (λ s. s ≡ e) → r ≡ Err e
err-is (Ok x) e h = absurd h
err-is (Err x) e h = ap Err h
