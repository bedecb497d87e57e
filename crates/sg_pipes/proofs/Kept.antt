-- A table whose pipes stay.
use Rattle.std.proofs.Common.{◌≡◌, ℕ, ◌≤◌, List, ◌++◌, length, get_or, take, drop, Vec, sym, ap, ◌∙◌, arith}
use Rattle.std.specs.Prelude.{slice_set}
use Rattle.std.specs.Vec.{with_items}
use Rattle.std.specs.declared.alloc.Global.{Global}
use Rattle.std.proofs.lemmas.List.{append-nil, drop_all, set-get_or}
use Rattle.std.proofs.lemmas.List.{take_all}
use mathlib.Core.HLevel.{is_prop→PathP}
use native.Mathlib.Nat.{ℕ_set}
use native.Mathlib.Bridge.{le_prop}
use Rattle.sg_table.specs.declared.pipe.Pipe.{Pipe}
use Rattle.sg_table.specs.declared.pipe.Test.{Test}

pub put-back : (all : List Pipe) (i : ℕ) (x one : Pipe) → x ≡ get_or all i x → x ≡ one → slice_set all i one ≡ all
put-back all i x one e is = ap (λ (y : Pipe). slice_set all i y) (sym is ∙ e) ∙ set-get_or all i x

items-same : (v : Vec Test Global) (ws : List Test) → ws ≡ v.items → take v.len (ws ++ drop (length ws) v.items) ≡ v.items
items-same v ws e =
    ap (λ (x : List Test). take v.len (x ++ drop (length x) v.items)) e
    ∙ ap (λ (x : List Test). take v.len (v.items ++ x)) (drop_all (length v.items) v.items (omega arith))
    ∙ ap (take v.len) (append-nil v.items)
    ∙ take_all v.len v.items (omega (arith, v.ok.0))

pub with-same : (v : Vec Test Global) (ws : List Test) → ws ≡ v.items → with_items v ws ≡ v
with-same v ws e =
    let it = items-same v ws e in
    let fits = is_prop→PathP (λ i. (v.len ≡ length (it i)) × (v.len ≤ v.cap)) (λ i p q j. (ℕ_set _ _ p.0 q.0 j, le_prop p.1 q.1 j)) (with_items v ws).ok v.ok in
    λ i. record { ptr = v.ptr; len = v.len; cap = v.cap; alloc = v.alloc; items = it i; ok = fits i; small = v.small }
