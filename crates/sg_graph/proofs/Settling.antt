-- Sizes, one node after another.
use Rattle.std.proofs.Common.{◌≡◌, ℕ, zero, suc, ◌+◌, ◌<◌, ◌≤◌, min, Bool, true, false, not, cond, List, [], ◌∷◌, ◌++◌, length, get_or, set, refl, sym, ap, ◌∙◌, subst, inl, inr, ◌⊎◌, ⊎_elim, arith, get_or-set_same, get_or-set_other}
use Rattle.std.specs.Prelude.{replicate}
use Rattle.std.specs.List.{Contains, sum_by, count_by}
use Rattle.std.proofs.lemmas.Bool.{true≢false, false≢true, cases_eq, cases_lt, cases_Bool}
use Rattle.std.proofs.lemmas.List.{length-replicate, get_or_past, get_or-replicate}
use Rattle.std.proofs.lemmas.List.Elements.{Contains-push, Contains-append_right, Contains-append_left}
use Rattle.std.proofs.lemmas.List.Sums.{sum_by-cons, sum_by-set, count_by-le-length}
use Rattle.sg_graph.specs.Graph.{row_of, ReachesNode, direct, HasNoCycle}
use Rattle.sg_graph.specs.Sizes.{size_within, AreSizes, IsNodeReady, IsNodeHeld}
use Rattle.sg_graph.proofs.Visiting.{marked-past, contains-none}
use Rattle.sg_graph.proofs.Searching.{reaches-then}
use Rattle.sg_graph.proofs.Holes.{two-alike}

-- numbers that are known up to a bound have a sum that is
capped-sums : (most a : ℕ) (f g : ℕ → ℕ) (row : List ℕ) → ((j : ℕ) → Contains row j → f j ≡ min most (g j)) → min most (a + sum_by f row) ≡ min most (a + sum_by g row)
capped-sums most a f g [] same = refl
capped-sums most a f g (x ∷ row) same =
    let here : f x ≡ min most (g x) = same x (Contains-append_left (x ∷ []) row x (Contains-push [] x)) in
    let rest = capped-sums most (a + g x) f g row (λ j has. same j (Contains-append_right (x ∷ []) row j has)) in
    omega (arith, here, rest, sum_by-cons f x row, sum_by-cons g x row)

more : (done : List Bool) (node : ℕ) → get_or done node true ≡ false → count_by (λ mark. mark) (set done node true) ≡ count_by (λ mark. mark) done + 1
more done node e =
    let f : Bool → ℕ = λ b. cond b 1 0 in
    let h = sum_by-set f done node true true (marked-past done node e) in
    let none : f (get_or done node true) ≡ 0 = ap f e in
    omega (arith, h, none)

size-more : (links : List (List ℕ)) (own : List ℕ) (most node depth : ℕ) (done : List Bool) (sizes : List ℕ) → IsNodeReady links done node → AreSizes links own most done sizes → count_by (λ mark. mark) done + 1 ≤ depth → min most (get_or own node 0 + sum_by (λ j. get_or sizes j 0) (row_of links node)) ≡ min most (size_within depth links own node)
unfolding size_within
size-more links own most node zero done sizes ready known deep = absurd (omega (arith, deep))
size-more links own most node (suc depth) done sizes ready known deep =
    capped-sums most (get_or own node 0) (λ j. get_or sizes j 0) (size_within depth links own) (row_of links node) (λ j has. known j depth (ready.1 j has) (omega (arith, deep)))

pub settles : (links : List (List ℕ)) (own : List ℕ) (most node size : ℕ) (done : List Bool) (sizes : List ℕ) → length sizes ≡ length done → IsNodeReady links done node → size ≡ min most (get_or own node 0 + sum_by (λ j. get_or sizes j 0) (row_of links node)) → AreSizes links own most done sizes → AreSizes links own most (set done node true) (set sizes node size)
settles links own most node size done sizes sized ready is known i depth e deep =
    let within : node < length sizes = omega (arith, marked-past done node ready.0, sized) in
    let count = more done node ready.0 in
    ⊎_elim
    (λ same. ap (λ k. get_or (set sizes node size) k 0) same ∙ get_or-set_same sizes node size 0 within ∙ is ∙ size-more links own most node depth done sizes ready known (omega (arith, count, deep)) ∙ ap (λ k. min most (size_within depth links own k)) (sym same))
    (λ other. get_or-set_other sizes node i size 0 other ∙ known i depth (sym (get_or-set_other done node i true true other) ∙ e) (omega (arith, count, deep)))
    (cases_eq i node)

pub settled : (links : List (List ℕ)) (own : List ℕ) (most node size : ℕ) (done after : List Bool) (sizes known : List ℕ) → length sizes ≡ length done → IsNodeReady links done node → size ≡ min most (get_or own node 0 + sum_by (λ j. get_or sizes j 0) (row_of links node)) → after ≡ set done node true → known ≡ set sizes node size → AreSizes links own most done sizes → AreSizes links own most after known
settled links own most node size done after sizes known sized ready is marks numbers before =
    let P : List Bool → Type 0 = λ d. AreSizes links own most d known in
    let Q : List ℕ → Type 0 = λ s. AreSizes links own most (set done node true) s in
    subst P (sym marks) (subst Q (sym numbers) (settles links own most node size done sizes sized ready is before))

size-past : (links : List (List ℕ)) (own : List ℕ) (i depth : ℕ) → length own ≡ length links → length links ≤ i → size_within depth links own i ≡ 0
unfolding size_within
size-past links own i zero same past = refl
size-past links own i (suc depth) same past =
    ap (λ n. n + sum_by (size_within depth links own) (row_of links i)) (get_or_past own i 0 (omega (arith, same, past)))
    ∙ ap (λ row. 0 + sum_by (size_within depth links own) row) (get_or_past links i [] past)

none-known : (links : List (List ℕ)) (own : List ℕ) (most : ℕ) → length own ≡ length links → AreSizes links own most (replicate (length links) false) (replicate (length links) 0)
none-known links own most same i depth e deep =
    ⊎_elim
    (λ below. absurd (false≢true (sym (get_or-replicate (length links) i false true below) ∙ e)))
    (λ past.
    let zeros : List ℕ = replicate (length links) 0 in
    let none : get_or zeros i 0 ≡ 0 = get_or_past zeros i 0 (omega (arith, past, length-replicate {A = ℕ} (length links) 0)) in
    omega (arith, none, size-past links own i depth same past))
    (cases_lt i (length links))

pub known-first : (links : List (List ℕ)) (own : List ℕ) (most : ℕ) (done : List Bool) (sizes : List ℕ) → length own ≡ length links → done ≡ replicate (length links) false → sizes ≡ replicate (length links) 0 → AreSizes links own most done sizes
known-first links own most done sizes same marks numbers =
    let P : List Bool → Type 0 = λ d. AreSizes links own most d sizes in
    let Q : List ℕ → Type 0 = λ s. AreSizes links own most (replicate (length links) false) s in
    subst P (sym marks) (subst Q (sym numbers) (none-known links own most same))

-- Where each node is done or names one that isn't, a walk along those that aren't comes round.
abbrev Undone : List Bool → Type 0
Undone done = (i : ℕ) × (get_or done i true ≡ false)

abbrev AllHeld : List (List ℕ) → List Bool → Type 0
AllHeld links done = (i : ℕ) → i < length links → IsNodeHeld links done i

onward : (links : List (List ℕ)) (done : List Bool) → length done ≡ length links → AllHeld links done → (i : ℕ) → get_or done i true ≡ false → (j : ℕ) × Contains (row_of links i) j × (get_or done j true ≡ false)
onward links done sized held i e =
    ⊎_elim (λ is-done. absurd (true≢false (sym is-done ∙ e))) (λ next. next) (held i (omega (arith, marked-past done i e, sized)))

walk : (links : List (List ℕ)) (done : List Bool) → length done ≡ length links → AllHeld links done → Undone done → ℕ → Undone done
walk links done sized held start zero = start
walk links done sized held start (suc k) =
    let here = walk links done sized held start k in
    let next = onward links done sized held here.0 here.1 in (next.0, next.2)

walk-edge : (links : List (List ℕ)) (done : List Bool) (sized : length done ≡ length links) (held : AllHeld links done) (start : Undone done) (k : ℕ) → Contains (row_of links (walk links done sized held start k).0) (walk links done sized held start (suc k)).0
unfolding walk
walk-edge links done sized held start k =
    let here = walk links done sized held start k in
    (onward links done sized held here.0 here.1).1

walk-reaches : (links : List (List ℕ)) (done : List Bool) (sized : length done ≡ length links) (held : AllHeld links done) (start : Undone done) (a b : ℕ) → a < b → ReachesNode links (walk links done sized held start a).0 (walk links done sized held start b).0
walk-reaches links done sized held start a zero below = absurd (omega (arith, below))
walk-reaches links done sized held start a (suc b) below =
    let at : ℕ → ℕ = λ k. (walk links done sized held start k).0 in
    ⊎_elim
    (λ lower. reaches-then links (at a) (at b) (at (suc b)) (walk-reaches links done sized held start a b lower) (walk-edge links done sized held start b))
    (λ above. let same : b ≡ a = omega (arith, below, above) in let P : ℕ → Type 0 = λ k. ReachesNode links (at k) (at (suc b)) in subst P same (direct (at b) (at (suc b)) (walk-edge links done sized held start b)))
    (cases_lt a b)

comes-round : (links : List (List ℕ)) (done : List Bool) → HasNoCycle links → length done ≡ length links → AllHeld links done → Undone done → ⊥
comes-round links done acyclic sized held start =
    let at : ℕ → ℕ = λ k. (walk links done sized held start k).0 in
    let two = two-alike (length links) at (λ k _. omega (arith, marked-past done (at k) (walk links done sized held start k).1, sized)) in
    let P : ℕ → Type 0 = λ k. ReachesNode links (at two.0) k in
    acyclic (at two.0) (subst P (sym two.4) (walk-reaches links done sized held start two.0 two.1 two.2))

-- So without a cycle all are done.
pub all-done : (links : List (List ℕ)) (done : List Bool) → HasNoCycle links → length done ≡ length links → ((i : ℕ) → i < length links → IsNodeHeld links done i) → (i : ℕ) → get_or done i true ≡ true
all-done links done acyclic sized held i =
    ⊎_elim (λ yes. yes) (λ no. absurd (comes-round links done acyclic sized held (i, no))) (cases_Bool (get_or done i true))

pub sizes-known : (links : List (List ℕ)) (own : List ℕ) (most : ℕ) (done : List Bool) (sizes : List ℕ) → HasNoCycle links → length done ≡ length links → ((i : ℕ) → i < length links → IsNodeHeld links done i) → AreSizes links own most done sizes → (i : ℕ) → get_or sizes i 0 ≡ min most (size_within (length links) links own i)
sizes-known links own most done sizes acyclic sized held known i =
    known i (length links) (all-done links done acyclic sized held i) (omega (arith, count_by-le-length (λ (mark : Bool). mark) done, sized))
