-- The parts of a refill.
use Rattle.std.proofs.Common.{◌≡◌, ℕ, zero, suc, ◌+◌, ◌-◌, ◌<◌, ◌≤◌, List, [], ◌∷◌, ◌++◌, length, drop, Some, None, Option, Bool, true, false, not, ◌&&◌, refl, sym, ap, ◌∙◌, arith, slice_get, subst, if◌then◌else◌}
use Rattle.std.proofs.lemmas.List.{append-nil, append_assoc}
use Rattle.sg_list.specs.Lists.{change}
use Rattle.sg_list.proofs.ListLemmas.{some-same, drop-get, slice_get-all, get-change-same}
use Rattle.sg_msg.specs.Length.{encoded_len}
use Rattle.sg_queue.specs.declared.entry.Entry.{Entry}
use Rattle.sg_machine.specs.Runs.{BufferedEntry}
use Rattle.sg_machine.proofs.MoveLemmas.{change-twice}
use Rattle.sg_sinks.specs.Fitting.{has_space}
use Rattle.sg_sinks.specs.Moving.{block_at}
use Rattle.sg_sinks.specs.Trials.{takes_in, tried}
use Rattle.sg_sinks.specs.declared.trial.Trial.{Trial}
use Rattle.sg_stores.specs.Appending.{IsNextPayload, IsAppending, StagesAt, CommitsAt}
use Rattle.sg_stores.specs.Stores.{StoreState, StoreGoesOn}
use Rattle.sg_stores.proofs.StoreLemmas.{goes_refl, goes_trans}
use Rattle.sg_stores.proofs.StageLemmas.{begins}
use Rattle.sg_core.specs.Answers.{fitting}
use Rattle.sg_core.specs.Parts.{FitSome}
use Rattle.sg_core.specs.Steps.{AreNext, AppendsAt}
use Rattle.sg_core.proofs.AtSteps.{change-const}

-- How many fit.

-- the first n fit, and what fits of the rest
pub record IsFitting (capacity used n : ℕ) (start trial : Trial) (es : List Entry) : Type 0 where
  pub free : trial.waits ≡ false
  pub limit : trial.capacity ≡ capacity
  pub value : fitting 1000 start es ≡ n + fitting (1000 - n) trial (drop n es)
  pub fits : (m : ℕ) → FitSome m capacity trial.used (drop n es) → FitSome (n + m) capacity used es

pub fitting-begins : (capacity used : ℕ) (start : Trial) (es : List Entry) → start.waits ≡ false → start.capacity ≡ capacity → start.used ≡ used → IsFitting capacity used 0 start start es
fitting-begins capacity used start es free limit taken = record {
  free = free;
  limit = limit;
  value = omega arith;
  fits = λ m h. let z : 0 + m ≡ m = omega arith in rw z (subst (λ (u : ℕ). FitSome m capacity u es) taken h);
}

-- none is left, or no more are asked for
pub fitting-ends : (capacity used n : ℕ) (start trial : Trial) (es : List Entry) → IsFitting capacity used n start trial es → fitting (1000 - n) trial (drop n es) ≡ 0 → (n ≡ fitting 1000 start es) × FitSome n capacity used es
fitting-ends capacity used n start trial es f none =
    let value = f.value in
    let same : n ≡ fitting 1000 start es = omega (arith, value, none) in
    let z : n + 0 ≡ n = omega arith in
    (same, subst (λ (m : ℕ). FitSome m capacity used es) z (f.fits 0 tt))

fitting-zero : (trial : Trial) (es : List Entry) → fitting 0 trial es ≡ 0
fitting-zero trial es = refl

fitting-nil : (n : ℕ) (trial : Trial) → fitting n trial [] ≡ 0
fitting-nil zero trial = refl
fitting-nil (suc n) trial = refl

fitting-cons : (n : ℕ) (trial : Trial) (e : Entry) (es : List Entry) (b : Bool) → takes_in (encoded_len e.message) trial ≡ b → fitting (suc n) trial (e ∷ es) ≡ (if b then 1 + fitting n (tried true (encoded_len e.message) trial) es else 0)
fitting-cons n trial e es true h = rw h refl
fitting-cons n trial e es false h = rw h refl

fitting-not : (n : ℕ) (trial : Trial) (e : Entry) (es : List Entry) → takes_in (encoded_len e.message) trial ≡ false → fitting n trial (e ∷ es) ≡ 0
fitting-not zero trial e es h = refl
fitting-not (suc n) trial e es h = fitting-cons n trial e es false h

pub fitting-most : (capacity used n : ℕ) (start trial : Trial) (es : List Entry) → IsFitting capacity used n start trial es → 1000 ≤ n → (n ≡ fitting 1000 start es) × FitSome n capacity used es
fitting-most capacity used n start trial es f most =
    let z : 1000 - n ≡ 0 = omega (arith, most) in
    fitting-ends capacity used n start trial es f (ap (λ m. fitting m trial (drop n es)) z)

pub fitting-none : (capacity used n : ℕ) (start trial : Trial) (es : List Entry) → IsFitting capacity used n start trial es → slice_get es n ≡ None → (n ≡ fitting 1000 start es) × FitSome n capacity used es
fitting-none capacity used n start trial es f none = fitting-ends capacity used n start trial es f (ap (fitting (1000 - n) trial) (slice_get-all es n none) ∙ fitting-nil (1000 - n) trial)

pub fitting-full : (capacity used n : ℕ) (start trial : Trial) (es : List Entry) (e : Entry) → IsFitting capacity used n start trial es → slice_get es n ≡ Some e → takes_in (encoded_len e.message) trial ≡ false → (n ≡ fitting 1000 start es) × FitSome n capacity used es
fitting-full capacity used n start trial es e f at full = fitting-ends capacity used n start trial es f (ap (fitting (1000 - n) trial) (drop-get es n e at) ∙ fitting-not (1000 - n) trial e (drop (n + 1) es) full)

after-taken : (trial : Trial) (length : ℕ) (b : Bool) → takes_in length trial ≡ b → b ≡ true → tried true length trial ≡ record trial { used = trial.used + (5 + length) }
after-taken trial length true h is = rw h refl
after-taken trial length false h is = absurd (let no : false ≡ true = is in cc)

space-taken : (a b : Bool) → (not a && b) ≡ true → (a ≡ false) × (b ≡ true)
space-taken true b h = absurd (let no : false ≡ true = h in cc)
space-taken false b h = (refl, h)

-- one more fits
pub fitting-more : (capacity used n : ℕ) (start trial : Trial) (es : List Entry) (e : Entry) → IsFitting capacity used n start trial es → slice_get es n ≡ Some e → n < 1000 → takes_in (encoded_len e.message) trial ≡ true
    → IsFitting capacity used (n + 1) start (tried true (encoded_len e.message) trial) es
fitting-more capacity used n start trial es e f at low takes =
    let len = encoded_len e.message in
    let next = after-taken trial len true takes refl in
    let room = (space-taken trial.waits (has_space trial.capacity trial.used len) takes).1 in
    let s : 1000 - n ≡ suc (1000 - (n + 1)) = omega (arith, low) in
    let step : fitting (1000 - n) trial (drop n es) ≡ 1 + fitting (1000 - (n + 1)) (tried true len trial) (drop (n + 1) es) =
    ap (λ m. fitting m trial (drop n es)) s ∙ ap (fitting (suc (1000 - (n + 1))) trial) (drop-get es n e at) ∙ fitting-cons (1000 - (n + 1)) trial e (drop (n + 1) es) true takes in
    let value = f.value in
    record {
      free = ap (λ (t : Trial). t.waits) next ∙ f.free;
      limit = ap (λ (t : Trial). t.capacity) next ∙ f.limit;
      value = omega (arith, value, step);
      fits = λ m h.
          let z : n + suc m ≡ (n + 1) + m = omega arith in
          let here : has_space capacity trial.used len ≡ true = ap (λ c. has_space c trial.used len) (sym f.limit) ∙ room in
          let rest : FitSome m capacity (trial.used + (5 + len)) (drop (n + 1) es) = subst (λ (t : Trial). FitSome m capacity t.used (drop (n + 1) es)) next h in
          subst (λ (k : ℕ). FitSome k capacity used es) z (f.fits (suc m) (subst (λ (l : List Entry). FitSome (suc m) capacity trial.used l) (sym (drop-get es n e at)) (here, rest)));
    }

-- Blocks that are staged one after another.

-- the first k blocks are staged
pub record IsStaging (olds news : List StoreState) (s : ℕ) (blocks : List (Option (List ℕ))) (k : ℕ) : Type 0 where
  pub old : StoreState
  pub new : StoreState
  pub was : slice_get olds s ≡ Some old
  pub others : news ≡ change olds s (λ _. new)
  pub goes : StoreGoesOn old new
  pub appends : (ks : List BufferedEntry) → length ks ≡ k → old.failed ≡ false → AreNext old [] blocks ks → IsAppending old new ks

begins-none : (old : StoreState) (ks : List BufferedEntry) → length ks ≡ 0 → old.failed ≡ false → IsAppending old old ks
begins-none old [] l works = begins old works
begins-none old (k ∷ ks) l works = absurd (omega (arith, l))

pub staging-begins : (stores : List StoreState) (s : ℕ) (old : StoreState) (blocks : List (Option (List ℕ))) → slice_get stores s ≡ Some old → IsStaging stores stores s blocks 0
staging-begins stores s old blocks was = record {
  old = old;
  new = old;
  was = was;
  others = sym (change-const stores s old was);
  goes = goes_refl old;
  appends = λ ks l works h. begins-none old ks l works;
}

-- the entry of the block at this place
record IsLastRefilled (start : StoreState) (tried : List BufferedEntry) (blocks : List (Option (List ℕ))) (payload : List ℕ) (k : ℕ) (ks : List BufferedEntry) : Type 0 where
  front : List BufferedEntry
  last : BufferedEntry
  parts : ks ≡ front ++ last ∷ []
  count : length front ≡ k
  before : AreNext start tried blocks front
  next : IsNextPayload start (tried ++ front) payload last

next-at : (start : StoreState) (tried : List BufferedEntry) (blocks : List (Option (List ℕ))) (payload : List ℕ) (k : ℕ) (ks : List BufferedEntry) → length ks ≡ k + 1 → block_at blocks k ≡ Some payload → AreNext start tried blocks ks → IsLastRefilled start tried blocks payload k ks
next-at start tried blocks payload k [] l b h = absurd (omega (arith, l))
next-at start tried [] payload k (x ∷ ks) l b h = absurd h
next-at start tried (None ∷ blocks) payload k (x ∷ ks) l b h = absurd h
next-at start tried (Some p ∷ blocks) payload zero (x ∷ []) l b h =
    record {
      front = [];
      last = x;
      parts = refl;
      count = refl;
      before = tt;
      next = subst (λ (ts : List BufferedEntry). IsNextPayload start ts payload x) (sym (append-nil tried)) (subst (λ (q : List ℕ). IsNextPayload start tried q x) (some-same p payload b) h.0);
    }
next-at start tried (Some p ∷ blocks) payload zero (x ∷ (y ∷ ks)) l b h = absurd (omega (arith, l))
next-at start tried (Some p ∷ blocks) payload (suc k) (x ∷ ks) l b h =
    let rest = next-at start (tried ++ x ∷ []) blocks payload k ks (omega (arith, l)) b h.1 in
    record {
      front = x ∷ rest.front;
      last = rest.last;
      parts = ap (λ (js : List BufferedEntry). x ∷ js) rest.parts;
      count = ap suc rest.count;
      before = (h.0, rest.before);
      next = subst (λ (ts : List BufferedEntry). IsNextPayload start ts payload rest.last) (append_assoc tried (x ∷ []) rest.front) rest.next;
    }

next-never : (start : StoreState) (tried : List BufferedEntry) (blocks : List (Option (List ℕ))) (k : ℕ) (ks : List BufferedEntry) → length ks ≡ k + 1 → block_at blocks k ≡ None → AreNext start tried blocks ks → ⊥
next-never start tried blocks k [] l b h = omega (arith, l)
next-never start tried [] k (x ∷ ks) l b h = h
next-never start tried (None ∷ blocks) k (x ∷ ks) l b h = h
next-never start tried (Some p ∷ blocks) zero (x ∷ ks) l b h = let no : Some p ≡ None = b in cc
next-never start tried (Some p ∷ blocks) (suc k) (x ∷ ks) l b h = next-never start (tried ++ x ∷ []) blocks k ks (omega (arith, l)) b h.1

pub staging-some : (olds news nexts : List StoreState) (s : ℕ) (blocks : List (Option (List ℕ))) (k : ℕ) (payload : List ℕ) (works : Bool) → IsStaging olds news s blocks k → block_at blocks k ≡ Some payload → StagesAt news nexts s payload works → IsStaging olds nexts s blocks (k + 1)
staging-some olds news nexts s blocks k payload works st b t =
    let now : slice_get news s ≡ Some st.new = ap (λ xs. slice_get xs s) st.others ∙ get-change-same olds s (λ _. st.new) st.old st.was in
    let same : t.old ≡ st.new = some-same t.old st.new (sym t.was ∙ now) in
    let stages = t.stages in
    record {
      old = st.old;
      new = t.new;
      was = st.was;
      others = t.others ∙ ap (λ xs. change xs s (λ _. t.new)) st.others ∙ change-twice olds s (λ _. st.new) (λ _. t.new);
      goes = goes_trans st.old st.new t.new st.goes (subst (λ (x : StoreState). StoreGoesOn x t.new) same stages.goes);
      appends = λ ks l works0 h.
          let p = next-at st.old [] blocks payload k ks l b h in
          let a = st.appends p.front p.count works0 p.before in
          subst (λ (js : List BufferedEntry). IsAppending st.old t.new js) (sym p.parts) (stages.stages st.old p.front p.last p.next (subst (λ (x : StoreState). IsAppending st.old x p.front) (sym same) a));
    }

pub staging-none : (olds news : List StoreState) (s : ℕ) (blocks : List (Option (List ℕ))) (k : ℕ) → IsStaging olds news s blocks k → block_at blocks k ≡ None → IsStaging olds news s blocks (k + 1)
staging-none olds news s blocks k st b = record {
  old = st.old;
  new = st.new;
  was = st.was;
  others = st.others;
  goes = st.goes;
  appends = λ ks l works h. absurd (next-never st.old [] blocks k ks l b h);
}

pub staging-commits : (olds news nexts : List StoreState) (s : ℕ) (blocks : List (Option (List ℕ))) (n : ℕ) (works : Bool) → IsStaging olds news s blocks n → CommitsAt news nexts s works → AppendsAt olds nexts s blocks n works
staging-commits olds news nexts s blocks n works st t =
    let now : slice_get news s ≡ Some st.new = ap (λ xs. slice_get xs s) st.others ∙ get-change-same olds s (λ _. st.new) st.old st.was in
    let same : t.old ≡ st.new = some-same t.old st.new (sym t.was ∙ now) in
    let commits = t.commits in
    record {
      old = st.old;
      new = t.new;
      was = st.was;
      others = t.others ∙ ap (λ xs. change xs s (λ _. t.new)) st.others ∙ change-twice olds s (λ _. st.new) (λ _. t.new);
      works = t.answer;
      goes = goes_trans st.old st.new t.new st.goes (subst (λ (x : StoreState). StoreGoesOn x t.new) same commits.goes);
      appends = λ ks l works0 h. commits.commits st.old ks (subst (λ (x : StoreState). IsAppending st.old x ks) (sym same) (st.appends ks l works0 h));
    }
