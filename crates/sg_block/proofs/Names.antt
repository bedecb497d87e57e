-- Tables by the bytes of their keys.
use Rattle.std.proofs.Common.{◌≡◌, ℕ, cond, List, [], ◌∷◌, Some, refl, ap, sym, ◌∙◌, Vec}
use Rattle.std.specs.declared.alloc.Global.{Global}
use Rattle.std.specs.declared.cmp.Ordering.{Ordering}
use Rattle.std.specs.declared.cmp.Ordering.TheVariants.{Less, Equal, Greater}
use Rattle.std.specs.Ordering.{nat_cmp, eq_by_cmp, match_ordering}
use Rattle.std.specs.Cmp.Lexicographic.{slice_cmp, nat_list_cmp_total}
use Rattle.std.specs.BTreeMap.{is_at, insert_entry}
use Rattle.std.specs.Map.{lookup}
use Rattle.std.specs.FinMap.{get, insert, from_entries, find, put, get-from_entries, get-insert, same_map, slice_cmp-IsAntisymmetric, nat_cmp-IsAntisymmetric}
use Rattle.std.specs.FinMap.Entries.{find-put, by_order}
use Rattle.sg_block.specs.Names.{by_bytes}

abbrev pub names_cmp : List ℕ → List ℕ → Ordering
names_cmp = slice_cmp nat_cmp

find-by_bytes : {X : Type 0} (es : List (Vec ℕ Global × X)) (q : List ℕ) → find names_cmp q (by_bytes es) ≡ lookup (is_at (λ (k : Vec ℕ Global). names_cmp q k.items)) es
find-by_bytes [] q = refl
find-by_bytes (e ∷ es) q = ap (cond (eq_by_cmp names_cmp q e.0.items) (Some e.1)) (find-by_bytes es q)

-- what a table has at a name
pub get-by_bytes : {X : Type 0} (es : List (Vec ℕ Global × X)) (q : List ℕ) → lookup (is_at (λ (k : Vec ℕ Global). names_cmp q k.items)) es ≡ get (from_entries {R = names_cmp} (by_bytes es)) q
get-by_bytes es q = sym (get-from_entries nat_list_cmp_total (by_bytes es) q ∙ find-by_bytes es q)

put-by_bytes : {X : Type 0} (es : List (Vec ℕ Global × X)) (k : Vec ℕ Global) (v : X) → by_bytes (insert_entry (λ (a b : Vec ℕ Global). names_cmp a.items b.items) es k v) ≡ put names_cmp k.items v (by_bytes es)
put-by_bytes [] k v = refl
put-by_bytes (e ∷ es) k v =
    elim (names_cmp k.items e.0.items) as (λ (o : Ordering). by_bytes (match_ordering o ((k, v) ∷ e ∷ es) ((e.0, v) ∷ es) (e ∷ insert_entry (λ (a b : Vec ℕ Global). names_cmp a.items b.items) es k v)) ≡ by_order o ((k.items, v) ∷ by_bytes (e ∷ es)) ((e.0.items, v) ∷ by_bytes es) ((e.0.items, e.1) ∷ put names_cmp k.items v (by_bytes es))) [
      | Less ↦ refl
      | Equal ↦ refl
      | Greater ↦ ap (λ rest. (e.0.items, e.1) ∷ rest) (put-by_bytes es k v)
    ]

-- the table with an entry more
pub insert-by_bytes : {X : Type 0} (es fs : List (Vec ℕ Global × X)) (k : Vec ℕ Global) (v : X) → fs ≡ insert_entry (λ (a b : Vec ℕ Global). names_cmp a.items b.items) es k v → from_entries {R = names_cmp} (by_bytes fs) ≡ insert (from_entries {R = names_cmp} (by_bytes es)) k.items v
insert-by_bytes es fs k v is =
    same_map nat_list_cmp_total (slice_cmp-IsAntisymmetric nat_cmp-IsAntisymmetric) _ _ (λ q.
    get-from_entries nat_list_cmp_total (by_bytes fs) q
    ∙ ap (find names_cmp q) (ap by_bytes is ∙ put-by_bytes es k v)
    ∙ find-put names_cmp nat_list_cmp_total q k.items v (by_bytes es)
    ∙ sym (get-insert nat_list_cmp_total (from_entries (by_bytes es)) k.items v q ∙ ap (cond (eq_by_cmp names_cmp q k.items) (Some v)) (get-from_entries nat_list_cmp_total (by_bytes es) q)))
