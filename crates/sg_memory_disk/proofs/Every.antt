-- Each image can be picked.
use Rattle.std.proofs.Common.{◌≡◌, inl, inr, ℕ, ◌+◌, ◌-◌, ◌<◌, ◌≤◌, min, List, [], ◌∷◌, length, get_or, take, drop, refl, sym, ◌∙◌, ap, subst, arith, length-take, length-drop, get_or-take, get_or-drop}
use Rattle.std.specs.Prelude.{◌==◌, if◌then◌else◌}
use Rattle.std.proofs.lemmas.List.{ext_get_or, take-take}
use Rattle.std.proofs.lemmas.Bool.{cases_lt}
use Rattle.sg_device.specs.Disk.{DiskEvent, Wrote, Tore, Synced, Lost, IsLeftByCrash}
use Rattle.sg_device.specs.DiskBytes.{Torn, Written, overlaid}
use Rattle.sg_device.proofs.Parts.{overlaid_by, part_at}
use Rattle.sg_memory_disk.specs.Pick.{laid, pick_at, picked, unsynced}
use Rattle.sg_memory_disk.specs.Images.{PicksBytes, PutAll, IsPicked, NoneLost}
use Rattle.sg_memory_disk.specs.declared.pick.Pick.{Pick}
use Rattle.sg_memory_disk.specs.declared.pick.Pick.TheVariants.{Old, New, Ones, Zeros, Bytes}

-- what stands from before the place on, up to the write's end
abbrev torn_part : ℕ → ℕ → List ℕ → List ℕ → List ℕ
torn_part at n before bytes = take (at + n - min at (length before)) (drop (min at (length before)) bytes)

module _ (at n start : ℕ) (before bytes mine new : List ℕ) (from : start ≡ min at (length before)) (is : mine ≡ take (at + n - start) (drop start bytes)) (torn : Torn at n before bytes) (w : Written start mine before new) where
  length-mine : length mine ≡ min (at + n - start) (length bytes - start)
  length-mine = ap (λ (l : List ℕ). length l) is ∙ length-take (at + n - start) (drop start bytes) ∙ ap (λ (m : ℕ). min (at + n - start) m) (length-drop start bytes)

  length-new : length new ≡ length bytes
  length-new = omega (arith, w.size, length-mine, torn.no_shorter, torn.no_longer, from)

  within : (j : ℕ) → j < length mine → get_or new (start + j) 0 ≡ get_or bytes (start + j) 0
  within j lt =
      sym (part_at start (length mine) new j lt)
      ∙ ap (λ (l : List ℕ). get_or l j 0) (w.there ∙ is)
      ∙ get_or-take (at + n - start) (drop start bytes) j 0 (omega (arith, lt, length-mine))
      ∙ get_or-drop start bytes j 0

  there : (k : ℕ) → k < length new → get_or new k 0 ≡ get_or bytes k 0
  there k lt = elim (cases_lt k start) [
    | inl low ↦ w.before k (omega arith) (omega (arith, low, from)) ∙ sym (torn.before k (omega arith) (omega (arith, low, from)))
    | inr high ↦ elim (cases_lt k (start + length mine)) [
      | inl inside ↦
          let same : k ≡ start + (k - start) = omega (arith, high) in
          rw same (within (k - start) (omega (arith, high, inside)))
      | inr behind ↦
          let old : k < length before = omega (arith, lt, behind, w.size) in
          let past : at + n ≤ k = omega (arith, lt, behind, length-new, length-mine, high, from) in
          w.after k behind old ∙ sym (torn.after k past old)
    ]
  ]

  pub spliced_back : new ≡ bytes
  spliced_back = ext_get_or 0 new bytes length-new there

laid_put : (pick : Pick) (at n : ℕ) (written before bytes : List ℕ) → PicksBytes pick (torn_part at n before bytes) → Torn at n before bytes → laid pick at n written before ≡ bytes
laid_put Old at n written before bytes puts torn = absurd puts
laid_put New at n written before bytes puts torn = absurd puts
laid_put Ones at n written before bytes puts torn = absurd puts
laid_put Zeros at n written before bytes puts torn = absurd puts
laid_put (Bytes picked) at n written before bytes puts torn =
    let start = min at (length before) in
    let whole : take (at + n - start) (torn_part at n before bytes) ≡ torn_part at n before bytes = take-take (at + n - start) (at + n - start) (drop start bytes) (omega arith) in
    ap (λ (l : List ℕ). overlaid 0 start (take (at + n - start) l) before) puts
    ∙ ap (λ (l : List ℕ). overlaid 0 start l before) whole
    ∙ spliced_back at n start before bytes (torn_part at n before bytes) (overlaid 0 start (torn_part at n before bytes) before) refl refl torn (overlaid_by 0 start (torn_part at n before bytes) before)

-- these bytes for one number, and others for the rest
abbrev chosen : ℕ → List ℕ → (ℕ → List ℕ) → ℕ → List ℕ
chosen here mine others k = if k == here then mine else others k

chosen_here : (here : ℕ) (mine : List ℕ) (others : ℕ → List ℕ) → chosen here mine others here ≡ mine
chosen_here here mine others = grind arith

chosen_before : (here k : ℕ) (mine : List ℕ) (others : ℕ → List ℕ) → k < here → chosen here mine others k ≡ others k
chosen_before here k mine others lt = grind (arith, lt)

-- one write more
picks_more : (at n : ℕ) (written first before bytes : List ℕ) (earlier : List DiskEvent) → IsPicked first earlier before → Torn at n before bytes → (put : ℕ → List ℕ) × ((picks : List Pick) → PutAll picks (unsynced earlier + 1) put → laid (pick_at picks (unsynced earlier)) at n written (picked picks first earlier) ≡ bytes)
picks_more at n written first before bytes earlier (put, all) torn =
    let here = unsynced earlier in
    let mine = torn_part at n before bytes in (
      chosen here mine put,
      λ picks puts.
          let was : picked picks first earlier ≡ before = all picks (λ k lt. subst (λ (b : List ℕ). PicksBytes (pick_at picks k) b) (chosen_before here k mine put lt) (puts k (omega (arith, lt)))) in
          let this : PicksBytes (pick_at picks here) mine = subst (λ (b : List ℕ). PicksBytes (pick_at picks here) b) (chosen_here here mine put) (puts here (omega arith)) in
          ap (λ (l : List ℕ). laid (pick_at picks here) at n written l) was ∙ laid_put (pick_at picks here) at n written before bytes this torn,
    )

pub every_image : (first bytes : List ℕ) (events : List DiskEvent) → NoneLost events → IsLeftByCrash first events bytes → IsPicked first events bytes
every_image first bytes [] none left = (λ k. [], λ picks puts. sym left)
every_image first bytes (Wrote at written ∷ earlier) none (before, left, torn) = picks_more at (length written) written first before bytes earlier (every_image first before earlier none left) torn
every_image first bytes (Tore at n written ∷ earlier) none (before, left, torn) = picks_more at n (take n written) first before bytes earlier (every_image first before earlier none left) torn
every_image first bytes (Synced ∷ earlier) none left = (λ k. [], λ picks puts. sym left)
every_image first bytes (Lost lost ∷ earlier) none left = absurd none
