-- Numbers of stores, each of which is used once.
use Rattle.std.proofs.Common.{◌≡◌, ◌⊎◌, inl, inr, ℕ, ◌+◌, ◌<◌, ◌≤◌, leb, true, false, Option, Some, ◌∙◌, ap, sym, arith}
use Rattle.std.proofs.lemmas.Bool.Decides.{leb_tells}

abbrev pub IsUsedBy : (ℕ → Option ℕ) → (ℕ → Option ℕ) → ℕ → Type 0
IsUsedBy f g s = ((i : ℕ) × (f i ≡ Some s)) ⊎ ((d : ℕ) × (g d ≡ Some s))

-- what inlets have and what destinations have: all numbers below this one
pub record AreDriversApart (f g : ℕ → Option ℕ) (n : ℕ) : Type 0 where
  pub firsts : (i s : ℕ) → f i ≡ Some s → s < n
  pub seconds : (d s : ℕ) → g d ≡ Some s → s < n
  pub firsts_apart : (i j s : ℕ) → f i ≡ Some s → f j ≡ Some s → i ≡ j
  pub seconds_apart : (d e s : ℕ) → g d ≡ Some s → g e ≡ Some s → d ≡ e
  pub apart : (i d s : ℕ) → f i ≡ Some s → g d ≡ Some s → ⊥
  pub used : (s : ℕ) → s < n → IsUsedBy f g s

used-swapped : (f g : ℕ → Option ℕ) (s : ℕ) → IsUsedBy f g s → IsUsedBy g f s
used-swapped f g s (inl p) = inr p
used-swapped f g s (inr p) = inl p

used-kept : (f g h : ℕ → Option ℕ) (s : ℕ) → ((i : ℕ) → f i ≡ Some s → h i ≡ Some s) → IsUsedBy f g s → IsUsedBy h g s
used-kept f g h s keep (inl p) = inl (p.0, keep p.0 p.1)
used-kept f g h s keep (inr p) = inr p

pub swapped : (f g : ℕ → Option ℕ) (n : ℕ) → AreDriversApart f g n → AreDriversApart g f n
swapped f g n a = record {
  firsts = a.seconds;
  seconds = a.firsts;
  firsts_apart = a.seconds_apart;
  seconds_apart = a.firsts_apart;
  apart = λ i d s e e'. a.apart d i s e' e;
  used = λ s h. used-swapped f g s (a.used s h);
}

-- nothing more is used
pub none-more : (f g h : ℕ → Option ℕ) (n : ℕ) → ((i s : ℕ) → h i ≡ Some s → f i ≡ Some s) → ((i s : ℕ) → f i ≡ Some s → h i ≡ Some s) → AreDriversApart f g n → AreDriversApart h g n
none-more f g h n old keep a = record {
  firsts = λ i s e. a.firsts i s (old i s e);
  seconds = a.seconds;
  firsts_apart = λ i j s e e'. a.firsts_apart i j s (old i s e) (old j s e');
  seconds_apart = a.seconds_apart;
  apart = λ i d s e e'. a.apart i d s (old i s e) e';
  used = λ s b. used-kept f g h s (λ i. keep i s) (a.used s b);
}

abbrev OldOrNew : (ℕ → Option ℕ) → ℕ → ℕ → ℕ → ℕ → Type 0
OldOrNew f k n i s = (f i ≡ Some s) ⊎ ((i ≡ k) × (s ≡ n))

below-more : (f : ℕ → Option ℕ) (k n i s : ℕ) → (f i ≡ Some s → s < n) → OldOrNew f k n i s → s < n + 1
below-more f k n i s old (inl e) = (let p = old e in omega arith)
below-more f k n i s old (inr q) = (let p = q.1 in omega arith)

apart-more : (f : ℕ → Option ℕ) (k n i j s : ℕ) → (f i ≡ Some s → s < n) → (f j ≡ Some s → s < n) → (f i ≡ Some s → f j ≡ Some s → i ≡ j)
    → OldOrNew f k n i s → OldOrNew f k n j s → i ≡ j
apart-more f k n i j s ib jb old (inl e) (inl e') = old e e'
apart-more f k n i j s ib jb old (inl e) (inr q) = (let p = ib e in let r = q.1 in omega arith)
apart-more f k n i j s ib jb old (inr q) (inl e) = (let p = jb e in let r = q.1 in omega arith)
apart-more f k n i j s ib jb old (inr q) (inr r) = q.0 ∙ sym r.0

other-more : (f : ℕ → Option ℕ) (k n i s : ℕ) → (s < n) → (f i ≡ Some s → ⊥) → OldOrNew f k n i s → ⊥
other-more f k n i s below old (inl e) = old e
other-more f k n i s below old (inr q) = (let p = q.1 in omega arith)

below-or-next : (s n : ℕ) → s < n + 1 → ((leb n s ≡ true) × (n ≤ s)) ⊎ ((leb n s ≡ false) × (s < n)) → (s < n) ⊎ (s ≡ n)
below-or-next s n h (inl p) = (let q = p.1 in inr (omega arith))
below-or-next s n h (inr p) = inl p.1

used-more : (f g h : ℕ → Option ℕ) (k n s : ℕ) → ((i : ℕ) → f i ≡ Some s → h i ≡ Some s) → h k ≡ Some n → (s < n → IsUsedBy f g s) → (s < n) ⊎ (s ≡ n) → IsUsedBy h g s
used-more f g h k n s keep has old (inl below) = used-kept f g h s keep (old below)
used-more f g h k n s keep has old (inr next) = inl (k, has ∙ ap Some (sym next))

-- the next number is used
pub one-more : (f g h : ℕ → Option ℕ) (k n : ℕ) → ((i s : ℕ) → h i ≡ Some s → (f i ≡ Some s) ⊎ ((i ≡ k) × (s ≡ n))) → ((i s : ℕ) → f i ≡ Some s → h i ≡ Some s) → h k ≡ Some n
    → AreDriversApart f g n → AreDriversApart h g (n + 1)
one-more f g h k n new keep has a = record {
  firsts = λ i s e. below-more f k n i s (a.firsts i s) (new i s e);
  seconds = λ d s e. (let p = a.seconds d s e in omega arith);
  firsts_apart = λ i j s e e'. apart-more f k n i j s (a.firsts i s) (a.firsts j s) (a.firsts_apart i j s) (new i s e) (new j s e');
  seconds_apart = a.seconds_apart;
  apart = λ i d s e e'. other-more f k n i s (a.seconds d s e') (λ p. a.apart i d s p e') (new i s e);
  used = λ s b. used-more f g h k n s (λ i. keep i s) has (a.used s) (below-or-next s n b (leb_tells n s));
}
