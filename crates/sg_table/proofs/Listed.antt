-- Patterns that wait to be listed.
use Rattle.std.proofs.Common.{◌≡◌, ◌<◌, List, [], ◌∷◌, ◌++◌, map, length, Bor, refl, sym, ap, ap₂, ◌∙◌, arith}
use Rattle.std.proofs.lemmas.List.{append_assoc, append-nil}
use Rattle.sg_pattern.specs.declared.text.PatternText.{PatternText}
use Rattle.sg_filter.specs.declared.expr.Expr.{Expr}
use Rattle.sg_table.specs.Patterns.{PatternTexts}
use Rattle.sg_table.specs.Listing.{waiting_patterns, stacked, listed_patterns, all_patterns, PushesPatterns, ListsPatterns}
use Rattle.sg_table.specs.declared.listing.PatternListing.{PatternListing}
use Rattle.sg_table.specs.declared.listing.ListingTask.{ListingTask}
use Rattle.sg_table.proofs.Parts.{map-last-at}

module _ (named : List Expr) where
  stacked-append : (xs ys : List ListingTask) → stacked named (xs ++ ys) ≡ stacked named ys ++ stacked named xs
  stacked-append [] ys = sym (append-nil (stacked named ys))
  stacked-append (x ∷ xs) ys =
      ap (λ (ps : PatternTexts). ps ++ waiting_patterns named x) (stacked-append xs ys)
      ∙ append_assoc (stacked named ys) (stacked named xs) (waiting_patterns named x)

  pub pushes-none : (patterns : PatternTexts) (old : PatternListing) → patterns ≡ [] → PushesPatterns named patterns old old
  pushes-none patterns old is = record { more = []; is = sym (append-nil old.waiting.items); same = refl; means = sym is }

  pub pushes-one : (old new : PatternListing) (one : ListingTask) → new.waiting.items ≡ old.waiting.items ++ one ∷ [] → new.found ≡ old.found
      → PushesPatterns named (waiting_patterns named one) old new
  pushes-one old new one is same = record { more = one ∷ []; is = is; same = same; means = refl }

  pub pushes-as : (ps qs : PatternTexts) (old new : PatternListing) → ps ≡ qs → PushesPatterns named ps old new → PushesPatterns named qs old new
  pushes-as ps qs old new is p = record { more = p.more; is = p.is; same = p.same; means = p.means ∙ is }

  -- what is pushed later stands in front
  pub pushes-more : (ps qs all : PatternTexts) (a b c : PatternListing) → all ≡ qs ++ ps → PushesPatterns named ps a b → PushesPatterns named qs b c → PushesPatterns named all a c
  pushes-more ps qs all a b c is p q = record {
    more = p.more ++ q.more;
    is = q.is ∙ ap (λ (xs : List ListingTask). xs ++ q.more) p.is ∙ append_assoc a.waiting.items p.more q.more;
    same = q.same ∙ p.same;
    means = stacked-append p.more q.more ∙ ap₂ (λ (xs ys : PatternTexts). xs ++ ys) q.means p.means ∙ sym is;
  }

  pub lists-pushed : (ps : PatternTexts) (old new : PatternListing) → PushesPatterns named ps old new → ListsPatterns named ps old new
  lists-pushed ps old new p =
      ap₂ (λ (xs : List (Bor PatternText)) (ys : List ListingTask). map (λ (x : Bor PatternText). x.now) xs ++ stacked named ys) (ap (λ v. v.items) p.same) p.is
      ∙ ap (λ (xs : PatternTexts). listed_patterns old ++ xs) (stacked-append old.waiting.items p.more ∙ ap (λ (xs : PatternTexts). xs ++ stacked named old.waiting.items) p.means)

  pub lists-found : (pattern : Bor PatternText) (old new : PatternListing) → new.found.items ≡ old.found.items ++ pattern ∷ [] → new.waiting ≡ old.waiting
      → ListsPatterns named (pattern.now ∷ []) old new
  lists-found pattern old new is same =
      ap₂ (λ (xs : PatternTexts) (ys : List ListingTask). xs ++ stacked named ys) (map-last-at (λ (x : Bor PatternText). x.now) old.found.items new.found.items pattern is) (ap (λ v. v.items) same)
      ∙ append_assoc (listed_patterns old) (pattern.now ∷ []) (stacked named old.waiting.items)

  -- one that waited was listed, or opened
  pub lists-on : (one : ListingTask) (at popped new : PatternListing) (all : PatternTexts) → all_patterns named at ≡ all → at.waiting.items ≡ popped.waiting.items ++ one ∷ [] → popped.found ≡ at.found
      → ListsPatterns named (waiting_patterns named one) popped new → all_patterns named new ≡ all
  lists-on one at popped new all is popped-is same l =
      l
      ∙ ap₂ (λ (xs : List (Bor PatternText)) (ys : PatternTexts). map (λ (x : Bor PatternText). x.now) xs ++ ys) (ap (λ v. v.items) same)
      (sym (stacked-append popped.waiting.items (one ∷ [])) ∙ ap (stacked named) (sym popped-is))
      ∙ is

  -- from nothing
  pub begins : (ps : PatternTexts) (old new : PatternListing) → old.found.items ≡ [] → old.waiting.items ≡ [] → PushesPatterns named ps old new → all_patterns named new ≡ ps
  begins ps old new found waiting p =
      lists-pushed ps old new p
      ∙ ap₂ (λ (xs : List (Bor PatternText)) (ys : List ListingTask). map (λ (x : Bor PatternText). x.now) xs ++ (ps ++ stacked named ys)) found waiting
      ∙ append-nil ps

  none-waits : (xs : List ListingTask) → (0 < length xs → ⊥) → xs ≡ []
  none-waits [] h = refl
  none-waits (x ∷ xs) h = absurd (h (omega arith))

  -- to the end
  pub ends : (listing : PatternListing) (all : PatternTexts) → (0 < length listing.waiting.items → ⊥) → all_patterns named listing ≡ all → listed_patterns listing ≡ all
  ends listing all none is =
      sym (append-nil (listed_patterns listing)) ∙ ap (λ (ws : List ListingTask). listed_patterns listing ++ stacked named ws) (sym (none-waits listing.waiting.items none)) ∙ is
