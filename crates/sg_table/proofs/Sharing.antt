-- Tables that stand for the same.
use Rattle.std.proofs.Common.{◌≡◌, ℕ, suc, ◌+◌, List, [], ◌∷◌, ◌++◌, length, refl, sym, ap, ◌∙◌, subst, arith, length-append}
use Rattle.sg_tree.specs.Walk.{Steps}
use Rattle.sg_table.specs.declared.pipe.Pipe.{Pipe}
use Rattle.sg_table.specs.Shared.{IsSame, AreSame}
use Rattle.sg_table.specs.Table.{ArePipesBelow, IsPipeBelow, IsPipeTable, place, read, steps_at, steps_of}
use Rattle.sg_table.proofs.Tables.{read-append, below-append}

pub same-none : (copies : List Pipe) → copies ≡ [] → AreSame [] copies
same-none copies e = record { long = ap length e; reads = λ seen. ap (read seen) e; below = λ n h. subst (ArePipesBelow n) (sym e) tt }

split : (n m : ℕ) (xs : List Pipe) (one : Pipe) → m ≡ n + length xs → ArePipesBelow n (xs ++ one ∷ []) → ArePipesBelow n xs × IsPipeBelow m one
split n m [] one e h = let same : m ≡ n = omega arith in (tt, subst (λ (k : ℕ). IsPipeBelow k one) (sym same) h.0)
split n m (x ∷ xs) one e h = let rest = split (suc n) m xs one (omega arith) h.1 in ((h.0, rest.0), rest.1)

pub same-last : (ps qs copies more : List Pipe) (one copy : Pipe) → AreSame ps copies → IsSame one copy → qs ≡ ps ++ one ∷ [] → more ≡ copies ++ copy ∷ [] → AreSame qs more
same-last ps qs copies more one copy s h ep ec = record {
  long = ap length ec ∙ long ∙ sym (ap length ep);
  reads = λ seen.
      ap (read seen) ec ∙ read-append seen copies (copy ∷ []) ∙ ap (λ (x : List Steps). x ++ steps_of (place x) copy ∷ []) (s.reads seen)
      ∙ ap (λ (x : Steps). read seen ps ++ x ∷ []) (h.means (place (read seen ps)))
      ∙ sym (read-append seen ps (one ∷ [])) ∙ sym (ap (read seen) ep);
  below = λ n b.
      let parts = split n (n + length ps) ps one refl (subst (ArePipesBelow n) ep b) in
      subst (ArePipesBelow n) (sym ec) (below-append n copies copy (n + length ps) (ap (λ k. n + k) (sym s.long)) (s.below n parts.0) (h.below (n + length ps) parts.1));
}
  where
    long : length (copies ++ copy ∷ []) ≡ length (ps ++ one ∷ [])
    long = omega (arith, s.long, length-append copies (copy ∷ []), length-append ps (one ∷ []))

pub same-table : (ps copies : List Pipe) → AreSame ps copies → IsPipeTable ps → IsPipeTable copies
unfolding IsPipeTable
same-table ps copies s t = s.below 0 t

pub same-places : (ps copies : List Pipe) (i : ℕ) → AreSame ps copies → steps_at copies i ≡ steps_at ps i
same-places ps copies i s = ap (λ (x : List Steps). place x i) (s.reads [])
