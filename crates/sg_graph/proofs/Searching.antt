-- A search from a node.
use Rattle.std.proofs.Common.{◌≡◌, ℕ, ◌+◌, ◌<◌, ◌≤◌, Bool, true, false, List, [], ◌∷◌, ◌++◌, length, get_or, refl, sym, ap, ◌∙◌, subst, inl, inr, ◌⊎◌, ⊎_elim, arith}
use Rattle.std.specs.Prelude.{replicate}
use Rattle.std.specs.List.{Contains}
use Rattle.std.proofs.lemmas.Bool.{false≢true, cases_lt}
use Rattle.std.proofs.lemmas.List.{length_push, length-replicate, get_or_past, get_or-replicate}
use Rattle.std.proofs.lemmas.List.Elements.{Contains-push, Contains-push_cases, Contains-append_left}
use Rattle.sg_graph.specs.Graph.{row_of, ReachesNode, direct, through}
use Rattle.sg_graph.specs.Visits.{VisitsNodes, unseen}
use Rattle.sg_graph.proofs.Visiting.{contains-none, contains-one}

-- what is seen is reached, and what it names is seen, or it waits
pub record IsSearch (links : List (List ℕ)) (from : ℕ) (seen : List Bool) (waiting : List ℕ) : Type 0 where
  pub size : length seen ≡ length links
  pub found : (i : ℕ) → i < length links → get_or seen i true ≡ true → ReachesNode links from i
  pub waits : (i : ℕ) → Contains waiting i → (from ≡ i) ⊎ ReachesNode links from i
  pub closed : (i : ℕ) → (from ≡ i) ⊎ (get_or seen i true ≡ true) → Contains waiting i ⊎ ((j : ℕ) → Contains (row_of links i) j → get_or seen j true ≡ true)

pub reaches-then : (links : List (List ℕ)) (i j k : ℕ) → ReachesNode links i j → Contains (row_of links j) k → ReachesNode links i k
reaches-then links i j k (direct _ _ has) more = through i j k has (direct j k more)
reaches-then links i j k (through _ m _ has rest) more = through i m k has (reaches-then links m j k rest more)

no-row : (links : List (List ℕ)) (i j : ℕ) → length links ≤ i → Contains (row_of links i) j → ⊥
no-row links i j past has = let P : List ℕ → Type 0 = λ row. Contains row j in contains-none j (subst P (get_or_past links i [] past) has)

pub search-start : (links : List (List ℕ)) (from : ℕ) → IsSearch links from (replicate (length links) false) (from ∷ [])
search-start links from = record {
  size = length-replicate (length links) false;
  found = λ i below e. absurd (false≢true (sym (get_or-replicate (length links) i false true below) ∙ e));
  waits = λ i has. inl (contains-one from i has);
  closed = λ i which. ⊎_elim
      (λ same. let P : ℕ → Type 0 = λ k. Contains (from ∷ []) k in inl (subst P same (Contains-push [] from)))
      (λ e. inr (λ j has. absurd (⊎_elim (λ below. false≢true (sym (get_or-replicate (length links) i false true below) ∙ e)) (λ past. no-row links i j past has) (cases_lt i (length links)))))
      which;
}

reaches-row : (links : List (List ℕ)) (from node i : ℕ) → (from ≡ node) ⊎ ReachesNode links from node → Contains (row_of links node) i → ReachesNode links from i
reaches-row links from node i which has =
    ⊎_elim (λ same. let P : ℕ → Type 0 = λ k. ReachesNode links k i in subst P (sym same) (direct node i has)) (λ reaches. reaches-then links from node i reaches has) which

pub search-step : (links : List (List ℕ)) (from : ℕ) (seen : List Bool) (waiting left : List ℕ) (node : ℕ) (after : List Bool) (waits : List ℕ) → waiting ≡ left ++ node ∷ [] → IsSearch links from seen waiting → VisitsNodes (row_of links node) seen left after waits → IsSearch links from after waits
search-step links from seen waiting left node after waits popped s v =
    let holds : (i : ℕ) → Contains (left ++ node ∷ []) i → Contains waiting i = λ i has. (let Q : List ℕ → Type 0 = λ w. Contains w i in subst Q (sym popped) has) in
    let splits : (i : ℕ) → Contains waiting i → Contains left i ⊎ (node ≡ i) = λ i has. (let Q : List ℕ → Type 0 = λ w. Contains w i in Contains-push_cases left node i (subst Q popped has)) in
    let here : (from ≡ node) ⊎ ReachesNode links from node = s.waits node (holds node (Contains-push left node)) in
    let older : (i : ℕ) → (from ≡ i) ⊎ (get_or seen i true ≡ true) → Contains waits i ⊎ ((j : ℕ) → Contains (row_of links i) j → get_or after j true ≡ true) =
    λ i which. ⊎_elim
    (λ waited. ⊎_elim
    (λ stays. inl (v.waited i stays))
    (λ same. inr (λ j has. (let Q : ℕ → Type 0 = λ k. Contains (row_of links k) j in v.all j (subst Q (sym same) has))))
    (splits i waited))
    (λ seen-all. inr (λ j has. v.stays j (seen-all j has)))
    (s.closed i which) in
    record {
      size = v.size ∙ s.size;
      found = λ i below e. ⊎_elim (λ old. s.found i below old) (λ new. reaches-row links from node i here new.0) (v.only i e);
      waits = λ i has. ⊎_elim
          (λ old. s.waits i (holds i (Contains-append_left left (node ∷ []) i old)))
          (λ new. inr (reaches-row links from node i here new))
          (v.given i has);
      closed = λ i which. ⊎_elim
          (λ same. older i (inl same))
          (λ e. ⊎_elim (λ old. older i (inr old)) (λ new. inl new.1) (v.only i e))
          which;
    }

seen-all : (links : List (List ℕ)) (from : ℕ) (seen : List Bool) → IsSearch links from seen [] → (i j : ℕ) → (from ≡ i) ⊎ (get_or seen i true ≡ true) → ReachesNode links i j → get_or seen j true ≡ true
seen-all links from seen s i j which (direct _ _ has) =
    ⊎_elim (λ none. absurd (contains-none i none)) (λ all. all j has) (s.closed i which)
seen-all links from seen s i j which (through _ m _ has rest) =
    ⊎_elim (λ none. absurd (contains-none i none)) (λ all. seen-all links from seen s m j (inr (all m has)) rest) (s.closed i which)

pub search-end : (links : List (List ℕ)) (from : ℕ) (seen : List Bool) (waiting : List ℕ) → length waiting ≡ 0 → IsSearch links from seen waiting → (i : ℕ) → ReachesNode links from i → get_or seen i true ≡ true
search-end links from seen [] none s i reaches = seen-all links from seen s from i (inl refl) reaches
search-end links from seen (x ∷ waiting) none s i reaches = absurd (omega (arith, none))

pub search-begun : (links : List (List ℕ)) (from : ℕ) (seen : List Bool) (waiting : List ℕ) → seen ≡ replicate (length links) false → waiting ≡ from ∷ [] → IsSearch links from seen waiting
search-begun links from seen waiting none one =
    let P : List Bool → Type 0 = λ s. IsSearch links from s waiting in
    let Q : List ℕ → Type 0 = λ w. IsSearch links from (replicate (length links) false) w in
    subst P (sym none) (subst Q (sym one) (search-start links from))

pub search-on : (links : List (List ℕ)) (from : ℕ) (seen : List Bool) (waiting left : List ℕ) (node : ℕ) (row : List ℕ) (after : List Bool) (waits : List ℕ) → waiting ≡ left ++ node ∷ [] → row ≡ row_of links node → IsSearch links from seen waiting → VisitsNodes row seen left after waits → IsSearch links from after waits
search-on links from seen waiting left node row after waits popped is s v =
    let P : List ℕ → Type 0 = λ r. VisitsNodes r seen left after waits in
    search-step links from seen waiting left node after waits popped s (subst P is v)

pub search-smaller : (row : List ℕ) (seen after : List Bool) (waiting left waits : List ℕ) (node : ℕ) → waiting ≡ left ++ node ∷ [] → VisitsNodes row seen left after waits → unseen after + length waits < unseen seen + length waiting
search-smaller row seen after waiting left waits node popped v = omega (arith, v.count, ap length popped, length_push left node)
