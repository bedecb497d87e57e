-- The bound, statement after statement.
use Rattle.std.proofs.Common.{◌≡◌, ℕ, zero, suc, ◌+◌, ◌<◌, ◌≤◌, List, [], ◌∷◌, ◌++◌, map, length, get_or, take, drop, refl, sym, ap, ◌∙◌, subst, arith, inl, inr}
use Rattle.std.specs.Prelude.{◌⊎◌, ◌||◌, Bool, true, false, nat_lt}
use Rattle.std.proofs.lemmas.Bool.{ltb-true, ltb-false, or_cases}
use Rattle.std.proofs.lemmas.List.{take_all, take_more, drop_more, take-append-drop}
use Rattle.sg_lex.specs.declared.place.Line.{Line}
use Rattle.sg_filter.specs.declared.expr.Expr.{Expr}
use Rattle.sg_tree.specs.Bounds.{reach, all_offers, AreMessagesFew}
use Rattle.sg_tree.specs.Offers.{TopStatement as Statement, top_view}
use Rattle.sg_tree.specs.Walk.{Steps}
use Rattle.sg_tree.specs.declared.tree.Path.{Path, out-Path}
use Rattle.sg_table.specs.declared.fan.Fan.{Fan}
use Rattle.sg_table.specs.declared.pipe.Top.{Top}
use Rattle.sg_table.specs.Fans.{cut, fan}
use Rattle.sg_table.specs.Forest.{statement_at}
use Rattle.sg_table.specs.Refused.{AreOffersBounded, IsFirstBeyond}
use Rattle.sg_table.specs.Table.{place}
use Rattle.sg_table.proofs.Parts.{map-last-at}

-- the statements so far have these offers, and are within the bounds
abbrev pub SofarBounded : List Expr → List Path → ℕ → ℕ → Type 0
SofarBounded named paths i offers = (offers ≡ all_offers (map (top_view named) (take i paths))) × AreOffersBounded (map (top_view named) (take i paths))

abbrev pub IsSofar : List Fan → List Path → List Top → ℕ → ℕ → Type 0
IsSofar fans paths tops i offers = (named : List Expr) (steps : List Steps) → fans ≡ map fan steps
    → map (statement_at (place steps)) tops ≡ map (top_view named) paths → SofarBounded named paths i offers

-- one more statement
offers-last : (tops : List Statement) (top : Statement) → all_offers (tops ++ top ∷ []) ≡ all_offers tops + (reach top.steps 1).offers
offers-last [] top = omega arith
offers-last (t ∷ tops) top = omega (arith, offers-last tops top)

few-last : (most : ℕ) (tops : List Statement) (top : Statement) → AreMessagesFew most tops → (reach top.steps 1).most ≤ most → AreMessagesFew most (tops ++ top ∷ [])
few-last most [] top h l = (l, tt)
few-last most (t ∷ tops) top h l = (h.0, few-last most tops top h.1 l)

-- the tests of the two numbers
neither : (x y : Bool) → (x || y) ≡ false → (x ≡ false) × (y ≡ false)
neither true y e = absurd cc
neither false y e = (refl, e)

pub over-neither : (a b : ℕ) → (nat_lt 1024 a || nat_lt 1024 b) ≡ false → (a ≤ 1024) × (b ≤ 1024)
over-neither a b e =
    let parts = neither (nat_lt 1024 a) (nat_lt 1024 b) e in
    (ltb-false 1024 a parts.0, ltb-false 1024 b parts.1)

pub over-either : (a b : ℕ) → (nat_lt 1024 a || nat_lt 1024 b) ≡ true → (1024 < a) ⊎ (1024 < b)
over-either a b e =
    elim (or_cases (nat_lt 1024 a) (nat_lt 1024 b) e) [
      | inl h ↦ inl (ltb-true 1024 a h)
      | inr h ↦ inr (ltb-true 1024 b h)
    ]

-- the two lists go together
first : {A : Type 0} {x y : A} {xs ys : List A} → x ∷ xs ≡ y ∷ ys → x ≡ y
first e = cc

behind : {A : Type 0} {x y : A} {xs ys : List A} → x ∷ xs ≡ y ∷ ys → xs ≡ ys
behind e = cc

pub same-steps : (named : List Expr) (steps : List Steps) (tops : List Top) (paths : List Path) (i : ℕ) (d : Top) (e : Path) → i < length tops → i < length paths
    → map (statement_at (place steps)) tops ≡ map (top_view named) paths → place steps (get_or tops i d).branch.start ≡ (top_view named (get_or paths i e)).steps
same-steps named steps [] paths i d e h k same = absurd (omega arith)
same-steps named steps (t ∷ tops) [] i d e h k same = absurd (omega arith)
same-steps named steps (t ∷ tops) (p ∷ paths) zero d e h k same = ap (λ (x : Statement). x.steps) (first same)
same-steps named steps (t ∷ tops) (p ∷ paths) (suc i) d e h k same = same-steps named steps tops paths i d e (omega arith) (omega arith) (behind same)

cut-in : (a : ℕ) → cut a ≤ 1024 → cut a ≡ a
cut-in a h = omega arith

sum-in : (a b : ℕ) → cut (a + cut b) ≤ 1024 → cut (a + cut b) ≡ a + b
sum-in a b h = omega arith

sum-out : (a b : ℕ) → 1024 < cut (a + cut b) → 1024 < a + b
sum-out a b h = omega arith

cut-out : (a : ℕ) → 1024 < cut a → 1024 < a
cut-out a h = omega arith

pub whole : (named : List Expr) (paths : List Path) (i offers : ℕ) → length paths ≤ i → SofarBounded named paths i offers → AreOffersBounded (map (top_view named) paths)
whole named paths i offers h s = subst (λ (ps : List Path). AreOffersBounded (map (top_view named) ps)) (take_all i paths h) s.1

module _ (named : List Expr) (paths : List Path) (i offers : ℕ) (path : Path) (f : Fan) where
  abbrev here : Statement
  here = top_view named path

  pub sofar-more : SofarBounded named paths i offers → i < length paths → path ≡ get_or paths i path → f ≡ fan here.steps
      → cut (offers + f.offers) ≤ 1024 → f.most ≤ 1024 → SofarBounded named paths (i + 1) (cut (offers + f.offers))
  sofar-more s h e ef few within =
      let r = reach here.steps 1 in
      let next : take (i + 1) paths ≡ take i paths ++ path ∷ [] = take_more paths i path h ∙ ap (λ y. take i paths ++ y ∷ []) (sym e) in
      let all : map (top_view named) (take (i + 1) paths) ≡ map (top_view named) (take i paths) ++ here ∷ [] = map-last-at (top_view named) (take i paths) (take (i + 1) paths) path next in
      let eo : f.offers ≡ cut r.offers = ap (λ (x : Fan). x.offers) ef in
      let em : f.most ≡ cut r.most = ap (λ (x : Fan). x.most) ef in
      let less : cut (offers + cut r.offers) ≤ 1024 = subst (λ x. cut (offers + x) ≤ 1024) eo few in
      let sum : cut (offers + f.offers) ≡ all_offers (map (top_view named) (take (i + 1) paths)) =
      ap (λ x. cut (offers + x)) eo ∙ sum-in offers r.offers less ∙ ap (λ x. x + r.offers) s.0
      ∙ sym (offers-last (map (top_view named) (take i paths)) here) ∙ sym (ap all_offers all) in
      let most : r.most ≤ 1024 = let low : cut r.most ≤ 1024 = subst (λ x. x ≤ 1024) em within in omega (arith, cut-in r.most low, low) in
      (sum, (omega (arith, sum, few), subst (AreMessagesFew 1024) (sym all) (few-last 1024 (map (top_view named) (take i paths)) here s.1.1 most)))

  pub first-beyond : (line : Line) → SofarBounded named paths i offers → i < length paths → path ≡ get_or paths i path → f ≡ fan here.steps → (out-Path path).line ≡ line
      → (1024 < cut (offers + f.offers)) ⊎ (1024 < f.most) → IsFirstBeyond named paths line
  first-beyond line s h e ef at beyond =
      let r = reach here.steps 1 in
      let eo : f.offers ≡ cut r.offers = ap (λ (x : Fan). x.offers) ef in
      let em : f.most ≡ cut r.most = ap (λ (x : Fan). x.most) ef in
      record {
        before = take i paths;
        path = path;
        after = drop (i + 1) paths;
        is = sym (take-append-drop i paths) ∙ ap (λ y. take i paths ++ y) (drop_more paths i path h ∙ ap (λ y. y ∷ drop (i + 1) paths) (sym e));
        at = at;
        bounded = s.1;
        exceeds = elim beyond [
          | inl o ↦ inl (subst (λ x. 1024 < x + r.offers) s.0 (sum-out offers r.offers (subst (λ x. 1024 < cut (offers + x)) eo o)))
          | inr m ↦ inr (cut-out r.most (subst (λ x. 1024 < x) em m))
        ];
      }
