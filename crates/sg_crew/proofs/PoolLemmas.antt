-- Workers that leave and enter a list at its end.
use Rattle.std.proofs.Common.{◌≡◌, ℕ, zero, suc, List, [], ◌∷◌, ◌++◌, length, refl, sym, subst, slice_get, Some, None}
use Rattle.sg_list.proofs.ListLemmas.{some-same}
use Rattle.sg_crew.specs.Pools.{AllKept}

module _ {W : Type 0} where
  get-left : (xs ys : List W) (j : ℕ) (x : W) → slice_get xs j ≡ Some x → slice_get (xs ++ ys) j ≡ Some x
  get-left [] ys j x e = absurd (let wrong : None ≡ Some x = e in cc)
  get-left (z ∷ xs) ys zero x e = e
  get-left (z ∷ xs) ys (suc j) x e = get-left xs ys j x e

  get-last : (ws : List W) (w : W) → slice_get (ws ++ w ∷ []) (length ws) ≡ Some w
  get-last [] w = refl
  get-last (x ∷ ws) w = get-last ws w

  pub kept-none : (kept : ℕ → W → Type 0) → AllKept kept []
  kept-none kept j w e = absurd (let wrong : None ≡ Some w = e in cc)

  kept-push : (kept : ℕ → W → Type 0) (ws : List W) (w : W) → AllKept kept ws → kept (length ws) w → AllKept kept (ws ++ w ∷ [])
  kept-push kept [] w h k zero x e = subst (kept 0) (some-same w x e) k
  kept-push kept [] w h k (suc j) x e = absurd (let wrong : None ≡ Some x = e in cc)
  kept-push kept (y ∷ ws) w h k zero x e = h zero x e
  kept-push kept (y ∷ ws) w h k (suc j) x e = kept-push (λ i. kept (suc i)) ws w (λ i z there. h (suc i) z there) k j x e

  pub kept-pushed : (kept : ℕ → W → Type 0) (ws vs : List W) (w : W) → vs ≡ ws ++ w ∷ [] → AllKept kept ws → kept (length ws) w → AllKept kept vs
  kept-pushed kept ws vs w are h k = subst (AllKept kept) (sym are) (kept-push kept ws w h k)

  pub kept-before : (kept : ℕ → W → Type 0) (ws : List W) (w : W) → AllKept kept (ws ++ w ∷ []) → AllKept kept ws
  kept-before kept ws w h j x e = h j x (get-left ws (w ∷ []) j x e)

  pub kept-last : (kept : ℕ → W → Type 0) (ws : List W) (w : W) → AllKept kept (ws ++ w ∷ []) → kept (length ws) w
  kept-last kept ws w h = h (length ws) w (get-last ws w)
