-- Elements added one after another.
use Rattle.std.proofs.Common.{◌≡◌, ◌∙◌, ℕ, ◌+◌, ◌<◌, ◌≤◌, List, [], ◌∷◌, ◌++◌, length, get_or, take, map, refl, sym, ap}
use Rattle.std.proofs.lemmas.List.{take_more, take_all, append-nil, append_assoc}
use Rattle.sg_filter.specs.Patterns.{joined}
use Rattle.sg_filter.specs.declared.expr.Expr.{Expr}
use Rattle.sg_tree.specs.declared.tree.Element.{Element}
use Rattle.sg_tree.specs.Walk.{Steps}
use Rattle.sg_tree.specs.Plain.{in_front, element_view}
use Rattle.sg_table.specs.Patterns as table
use Rattle.sg_table.specs.Patterns.{PatternTexts}
use Rattle.sg_forest.specs.Adds.{AddsElements}

pub front-last : {X A : Type 0} (f : X → A → A) (xs : List X) (x : X) (rest : A) → in_front (map f (xs ++ x ∷ [])) rest ≡ in_front (map f xs) (f x rest)
front-last f [] x rest = refl
front-last f (y ∷ xs) x rest = ap (f y) (front-last f xs x rest)

pub joined-last : {X : Type 0} (f : X → PatternTexts) (xs : List X) (x : X) → joined (map f (xs ++ x ∷ [])) ≡ joined (map f xs) ++ f x
joined-last f [] x = append-nil (f x)
joined-last f (y ∷ xs) x = ap (λ (r : PatternTexts). f y ++ r) (joined-last f xs x) ∙ sym (append_assoc (f y) (joined (map f xs)) (f x))

module _ (named : List Expr) where
  pub adds-none : (old : List Element) (steps : Steps → Steps) (patterns : PatternTexts) → steps ≡ (λ rest. rest) → patterns ≡ [] → AddsElements named old old steps patterns
  adds-none old steps patterns s p = record {
    steps_are = λ rest. ap (λ (f : Steps → Steps). in_front (map (element_view named) old) (f rest)) (sym s);
    patterns_are = sym (append-nil (table.list_patterns named old)) ∙ ap (λ (q : PatternTexts). table.list_patterns named old ++ q) (sym p);
  }

  pub adds-one : (old new : List Element) (e : Element) (steps : Steps → Steps) (patterns : PatternTexts)
      → new ≡ old ++ e ∷ [] → ((rest : Steps) → element_view named e rest ≡ steps rest) → table.element_patterns named e ≡ patterns → AddsElements named old new steps patterns
  adds-one old new e steps patterns is s p = record {
    steps_are = λ rest.
        ap (λ (es : List Element). in_front (map (element_view named) es) rest) is
        ∙ front-last (element_view named) old e rest
        ∙ ap (in_front (map (element_view named) old)) (s rest);
    patterns_are = ap (table.list_patterns named) is ∙ joined-last (table.element_patterns named) old e ∙ ap (λ (q : PatternTexts). table.list_patterns named old ++ q) p;
  }

  pub adds-start : {X : Type 0} (f : X → Steps → Steps) (g : X → PatternTexts) (xs : List X) (old : List Element) → AddsElements named old old (in_front (map f (take 0 xs))) (joined (map g (take 0 xs)))
  adds-start f g xs old = record { steps_are = λ rest. refl; patterns_are = sym (append-nil (table.list_patterns named old)) }

  pub adds-more : {X : Type 0} (f : X → Steps → Steps) (g : X → PatternTexts) (xs : List X) (i : ℕ) (x : X) (old mid new : List Element)
      → i < length xs → x ≡ get_or xs i x
      → AddsElements named old mid (in_front (map f (take i xs))) (joined (map g (take i xs)))
      → AddsElements named mid new (f x) (g x)
      → AddsElements named old new (in_front (map f (take (i + 1) xs))) (joined (map g (take (i + 1) xs)))
  adds-more f g xs i x old mid new below here before more =
      let next : take (i + 1) xs ≡ take i xs ++ x ∷ [] = take_more xs i x below ∙ ap (λ (y : _). take i xs ++ y ∷ []) (sym here) in
      record {
        steps_are = λ rest.
            more.steps_are rest
            ∙ before.steps_are (f x rest)
            ∙ ap (in_front (map (element_view named) old)) (sym (front-last f (take i xs) x rest) ∙ ap (λ (ys : List _). in_front (map f ys) rest) (sym next));
        patterns_are =
            more.patterns_are
            ∙ ap (λ (q : PatternTexts). q ++ g x) before.patterns_are
            ∙ append_assoc (table.list_patterns named old) (joined (map g (take i xs))) (g x)
            ∙ ap (λ (q : PatternTexts). table.list_patterns named old ++ q) (sym (joined-last g (take i xs) x) ∙ ap (λ (ys : List _). joined (map g ys)) (sym next));
      }

  pub adds-all : {X : Type 0} (f : X → Steps → Steps) (g : X → PatternTexts) (xs : List X) (i : ℕ) (old new : List Element) → length xs ≤ i
      → AddsElements named old new (in_front (map f (take i xs))) (joined (map g (take i xs))) → AddsElements named old new (in_front (map f xs)) (joined (map g xs))
  adds-all f g xs i old new past a =
      let all : take i xs ≡ xs = take_all i xs past in
      record {
        steps_are = λ rest. a.steps_are rest ∙ ap (λ (ys : List _). in_front (map (element_view named) old) (in_front (map f ys) rest)) all;
        patterns_are = a.patterns_are ∙ ap (λ (ys : List _). table.list_patterns named old ++ joined (map g ys)) all;
      }

  -- the same under other names
  pub adds-same : (old new : List Element) (s t : Steps → Steps) (p q : PatternTexts) → s ≡ t → p ≡ q → AddsElements named old new s p → AddsElements named old new t q
  adds-same old new s t p q es ep a = record {
    steps_are = λ rest. a.steps_are rest ∙ ap (λ (f : Steps → Steps). in_front (map (element_view named) old) (f rest)) es;
    patterns_are = a.patterns_are ∙ ap (λ (r : PatternTexts). table.list_patterns named old ++ r) ep;
  }
