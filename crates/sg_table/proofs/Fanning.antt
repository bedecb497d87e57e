-- What becomes of one message, and of many.
use Rattle.std.proofs.Common.{◌≡◌, ℕ, zero, suc, ◌+◌, ◌*◌, ◌≤◌, List, [], ◌∷◌, map, length, Some, None, refl, sym, ap, ap₂, ◌∙◌, arith, inl, inr}
use Rattle.std.specs.Prelude.{◌⊎◌, max, slice_get}
use Rattle.std.proofs.Math.Nat.{mul-le-mul_left, mul-le-mul_right}
use Rattle.std.proofs.lemmas.Bool.{cases_order}
use Rattle.sg_tree.specs.Bounds.{Reach, reach, reach_all, reach_each, beside, greatest, onward}
use Rattle.sg_tree.specs.Walk.{Steps, Siblings, Choice, none_left, filter, rewrite, parse, deliver, junction, choose, embedded, no_siblings, sibling, otherwise, test}
use Rattle.sg_table.specs.declared.fan.Fan.{Fan}
use Rattle.sg_table.specs.Fans.{cut, cut_reach, fan}
use Rattle.sg_table.specs.Table.{place}

either-way : (a b : ℕ) → (a ≤ b) ⊎ (b ≤ a)
either-way a b =
    elim (cases_order a b) [
      | inl same ↦ inl (omega arith)
      | inr (inl less) ↦ inl (omega arith)
      | inr (inr more) ↦ inr (omega arith)
    ]

-- cutting
cut-big : (x y : ℕ) → 1025 ≤ x → 1025 ≤ y → cut x ≡ cut y
cut-big x y hx hy = omega arith

big : (a b : ℕ) → 1025 ≤ a → 1 ≤ b → 1025 ≤ a * b
big a b h k = let more : 1025 * b ≤ a * b = mul-le-mul_right b h in omega arith

big-turned : (a b : ℕ) → 1 ≤ a → 1025 ≤ b → 1025 ≤ a * b
big-turned a b h k = let more : a * 1025 ≤ a * b = mul-le-mul_left a k in omega arith

cut-sum : (a b : ℕ) → cut (cut a + cut b) ≡ cut (a + b)
cut-sum a b = omega arith

cut-small : (a : ℕ) → a ≤ 1025 → cut a ≡ a
cut-small a h = omega arith

cut-whole : (a : ℕ) → 1025 ≤ a → 1025 ≤ cut a
cut-whole a h = omega arith

cut-some : (a : ℕ) → 1 ≤ a → 1 ≤ cut a
cut-some a h = omega arith

cut-product : (a b : ℕ) → cut (cut a * cut b) ≡ cut (a * b)
cut-product zero b = omega arith
cut-product (suc a) zero = omega arith
cut-product (suc a) (suc b) =
    elim (either-way 1025 (suc a)) [
      | inl h ↦ cut-big (cut (suc a) * cut (suc b)) (suc a * suc b) (big (cut (suc a)) (cut (suc b)) (cut-whole (suc a) h) (cut-some (suc b) (omega arith))) (big (suc a) (suc b) h (omega arith))
      | inr h ↦ elim (either-way 1025 (suc b)) [
        | inl k ↦ cut-big (cut (suc a) * cut (suc b)) (suc a * suc b) (big-turned (cut (suc a)) (cut (suc b)) (cut-some (suc a) (omega arith)) (cut-whole (suc b) k)) (big-turned (suc a) (suc b) (omega arith) k)
        | inr k ↦ ap₂ (λ (x y : ℕ). cut (x * y)) (cut-small (suc a) (omega arith)) (cut-small (suc b) (omega arith))
      ]
    ]

-- records by their parts
reach-is : (r s : Reach) → r.offers ≡ s.offers → r.out ≡ s.out → r.most ≡ s.most → r ≡ s
reach-is r s e f g = λ i. record { offers = e i; out = f i; most = g i }

fan-is : (r s : Fan) → r.offers ≡ s.offers → r.out ≡ s.out → r.most ≡ s.most → r ≡ s
fan-is r s e f g = λ i. record { offers = e i; out = f i; most = g i }

-- n messages come to n times what one comes to
abbrev scaled : ℕ → Reach → Reach
scaled n r = record { offers = n * r.offers; out = n * r.out; most = n * r.most }

max-scaled : (n a b : ℕ) → max (n * a) (n * b) ≡ n * max a b
max-scaled n a b =
    elim (either-way a b) [
      | inl h ↦ let less : n * a ≤ n * b = mul-le-mul_left n h in let is : max a b ≡ b = omega arith in let left : max (n * a) (n * b) ≡ n * b = omega arith in left ∙ sym (ap (λ x. n * x) is)
      | inr h ↦ let less : n * b ≤ n * a = mul-le-mul_left n (omega arith) in let is : max a b ≡ a = omega arith in let left : max (n * a) (n * b) ≡ n * a = omega arith in left ∙ sym (ap (λ x. n * x) is)
    ]

beside-scaled : (n : ℕ) (a b : Reach) → beside (scaled n a) (scaled n b) ≡ scaled n (beside a b)
beside-scaled n a b = reach-is (beside (scaled n a) (scaled n b)) (scaled n (beside a b)) (omega arith) (omega arith) (max-scaled n a.most b.most)

greatest-scaled : (n : ℕ) (a b : Reach) → greatest (scaled n a) (scaled n b) ≡ scaled n (greatest a b)
greatest-scaled n a b = reach-is (greatest (scaled n a) (scaled n b)) (scaled n (greatest a b)) (max-scaled n a.offers b.offers) (max-scaled n a.out b.out) (max-scaled n a.most b.most)

product-offers : (n a b c : ℕ) → n * a + (n * b) * c ≡ n * (a + b * c)
product-offers n a b c = omega arith

product-out : (n b c : ℕ) → (n * b) * c ≡ n * (b * c)
product-out n b c = omega arith

most-scaled : (n a b c : ℕ) → max n (max (n * a) ((n * b) * c)) ≡ n * max 1 (max a (b * c))
most-scaled n a b c =
    let one : n ≡ n * 1 = omega arith in
    ap₂ (λ x y. max x (max (n * a) y)) one (product-out n b c) ∙ ap (max (n * 1)) (max-scaled n a (b * c)) ∙ max-scaled n 1 (max a (b * c))

onward-scaled : (n : ℕ) (first one : Reach) (rest : ℕ → Reach) → first ≡ scaled n one → ((k : ℕ) → rest k ≡ scaled k (rest 1))
    → onward n first (rest first.out) ≡ scaled n (onward 1 one (rest one.out))
onward-scaled n first one rest e h =
    ap (λ (x : Reach). onward n x (rest x.out)) e ∙ ap (onward n (scaled n one)) (h (n * one.out))
    ∙ reach-is (onward n (scaled n one) (scaled (n * one.out) (rest 1))) (scaled n (onward 1 one (scaled one.out (rest 1))))
    (product-offers n one.offers one.out (rest 1).offers) (product-out n one.out (rest 1).out) (most-scaled n one.most one.out (rest 1).most)
    ∙ ap (λ (x : Reach). scaled n (onward 1 one x)) (sym (h one.out))

embedded-most : (n a : ℕ) → max n (n * a) ≡ n * max 1 a
embedded-most n a = let one : n ≡ n * 1 = omega arith in ap (λ x. max x (n * a)) one ∙ max-scaled n 1 a

delivered : (n a b : ℕ) → n * a + n * b ≡ n * (1 * a + b)
delivered n a b = omega arith

mutual
  pub linear : (s : Steps) (n : ℕ) → reach s n ≡ scaled n (reach s 1)
  linear none_left n = reach-is (reach none_left n) (scaled n (reach none_left 1)) (omega arith) (omega arith) (omega arith)
  linear (filter decision rest) n = linear rest n
  linear (rewrite rule rest) n = linear rest n
  linear (parse rule rest) n = linear rest n
  linear (deliver drivers rest) n =
      let e = linear rest n in
      reach-is (reach (deliver drivers rest) n) (scaled n (reach (deliver drivers rest) 1))
      (ap (λ (x : Reach). n * length drivers + x.offers) e ∙ delivered n (length drivers) (reach rest 1).offers)
      (ap (λ (x : Reach). x.out) e) (ap (λ (x : Reach). x.most) e)
  linear (junction channels rest) n = onward-scaled n (reach_all channels n) (reach_all channels 1) (reach rest) (all-linear channels n) (linear rest)
  linear (choose choice rest) n = onward-scaled n (reach_each choice n) (reach_each choice 1) (reach rest) (each-linear choice n) (linear rest)
  linear (embedded logs) n =
      let e = all-linear logs n in
      reach-is (reach (embedded logs) n) (scaled n (reach (embedded logs) 1))
      (ap (λ (x : Reach). x.offers) e) (omega arith) (ap (λ (x : Reach). max n x.most) e ∙ embedded-most n (reach_all logs 1).most)

  all-linear : (s : Siblings) (n : ℕ) → reach_all s n ≡ scaled n (reach_all s 1)
  all-linear no_siblings n = reach-is (reach_all no_siblings n) (scaled n (reach_all no_siblings 1)) (omega arith) (omega arith) (omega arith)
  all-linear (sibling marks steps more) n = ap₂ beside (linear steps n) (all-linear more n) ∙ beside-scaled n (reach steps 1) (reach_all more 1)

  each-linear : (c : Choice) (n : ℕ) → reach_each c n ≡ scaled n (reach_each c 1)
  each-linear (otherwise steps) n = linear steps n
  each-linear (test decision steps more) n = ap₂ greatest (linear steps n) (each-linear more n) ∙ greatest-scaled n (reach steps 1) (reach_each more 1)

-- what single parts come to, in numbers that are cut
pub fan-beside : (x y : Reach) (f g : Fan) → f ≡ cut_reach x → g ≡ cut_reach y
    → record { offers = cut (f.offers + g.offers); out = cut (f.out + g.out); most = max f.most g.most } ≡ cut_reach (beside x y)
fan-beside x y f g ef eg =
    ap₂ (λ (a b : Fan). record { offers = cut (a.offers + b.offers); out = cut (a.out + b.out); most = max a.most b.most }) ef eg
    ∙ fan-is _ (cut_reach (beside x y)) (cut-sum x.offers y.offers) (cut-sum x.out y.out) (cut-most x.most y.most)
  where
    cut-most : (a b : ℕ) → max (cut a) (cut b) ≡ cut (max a b)
    cut-most a b = omega arith

pub fan-greatest : (x y : Reach) (f g : Fan) → f ≡ cut_reach x → g ≡ cut_reach y
    → record { offers = max f.offers g.offers; out = max f.out g.out; most = max f.most g.most } ≡ cut_reach (greatest x y)
fan-greatest x y f g ef eg =
    ap₂ (λ (a b : Fan). record { offers = max a.offers b.offers; out = max a.out b.out; most = max a.most b.most }) ef eg
    ∙ fan-is _ (cut_reach (greatest x y)) (cut-greatest x.offers y.offers) (cut-greatest x.out y.out) (cut-greatest x.most y.most)
  where
    cut-greatest : (a b : ℕ) → max (cut a) (cut b) ≡ cut (max a b)
    cut-greatest a b = omega arith

abbrev pub onward_fan : Fan → Fan → Fan
onward_fan first rest = record { offers = cut (first.offers + cut (first.out * rest.offers)); out = cut (first.out * rest.out); most = max 1 (max first.most (cut (first.out * rest.most))) }

pub fan-onward : (first : Reach) (rest : Steps) (f g : Fan) → f ≡ cut_reach first → g ≡ fan rest → onward_fan f g ≡ cut_reach (onward 1 first (reach rest first.out))
fan-onward first rest f g ef eg =
    let r = reach rest 1 in
    ap₂ onward_fan ef eg
    ∙ fan-is (onward_fan (cut_reach first) (cut_reach r)) (cut_reach (onward 1 first (scaled first.out r)))
    (ap (λ x. cut (cut first.offers + x)) (cut-product first.out r.offers) ∙ cut-sum first.offers (first.out * r.offers))
    (cut-product first.out r.out)
    (ap (λ x. max 1 (max (cut first.most) x)) (cut-product first.out r.most) ∙ cut-both first.most (first.out * r.most))
    ∙ ap (λ (x : Reach). cut_reach (onward 1 first x)) (sym (linear rest first.out))
  where
    cut-both : (a b : ℕ) → max 1 (max (cut a) (cut b)) ≡ cut (max 1 (max a b))
    cut-both a b = omega arith

pub fan-deliver : (drivers : List ℕ) (rest : Steps) (g : Fan) → g ≡ fan rest
    → record { offers = cut (cut (length drivers) + g.offers); out = g.out; most = g.most } ≡ fan (deliver drivers rest)
fan-deliver drivers rest g eg =
    ap (λ (a : Fan). record { offers = cut (cut (length drivers) + a.offers); out = a.out; most = a.most }) eg
    ∙ fan-is _ (fan (deliver drivers rest)) (cut-sum (length drivers) (reach rest 1).offers ∙ ap cut (one-more (length drivers) (reach rest 1).offers)) refl refl
  where
    one-more : (a b : ℕ) → a + b ≡ 1 * a + b
    one-more a b = omega arith

pub fan-embedded : (logs : Siblings) (f : Fan) → f ≡ cut_reach (reach_all logs 1) → record { offers = f.offers; out = 1; most = max 1 f.most } ≡ fan (embedded logs)
fan-embedded logs f ef =
    ap (λ (a : Fan). record { offers = a.offers; out = 1; most = max 1 a.most }) ef
    ∙ fan-is _ (fan (embedded logs)) refl refl (cut-one (reach_all logs 1).most)
  where
    cut-one : (a : ℕ) → max 1 (cut a) ≡ cut (max 1 a)
    cut-one a = omega arith

-- a place of the list
pub fan-found : (steps : List Steps) (i : ℕ) (f : Fan) → slice_get (map fan steps) i ≡ Some f → f ≡ fan (place steps i)
fan-found [] i f e = absurd cc
fan-found (s ∷ steps) zero f e = cc
fan-found (s ∷ steps) (suc i) f e = fan-found steps i f e

pub fan-missing : (steps : List Steps) (i : ℕ) → slice_get (map fan steps) i ≡ None → fan none_left ≡ fan (place steps i)
fan-missing [] i e = refl
fan-missing (s ∷ steps) zero e = absurd cc
fan-missing (s ∷ steps) (suc i) e = fan-missing steps i e
