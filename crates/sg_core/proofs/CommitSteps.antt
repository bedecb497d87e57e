-- Disk-buffers that commit, one after another.
use Rattle.std.proofs.Common.{◌≡◌, ◌≢◌, ℕ, ◌+◌, ◌<◌, ◌≤◌, List, [], ◌∷◌, length, set, get_or, Option, Some, None, Bool, true, false, ◌&&◌, ◌||◌, not, refl, sym, ap, ◌∙◌, arith, suc, zero, slice_get, subst, if◌then◌else◌, inl, inr}
use Rattle.std.specs.Prelude.{◌==◌}
use Rattle.std.specs.Option.{option_map_or}
use Rattle.std.proofs.lemmas.Bool.{cases_eq, cases_lt, eqb-true, and_right, false_from_ne_true}
use Rattle.sg_list.specs.Lists.{change}
use Rattle.sg_list.proofs.ListLemmas.{some-same, length-change, slice_get-some, slice_get-none, slice_get-below, get-change-same, get-change-other}
use Rattle.sg_machine.specs.declared.setup.BufferSetup.{BufferSetup}
use Rattle.sg_stores.specs.Appending.{CommitsAt, CommitsStore}
use Rattle.sg_stores.specs.Stores.{StoreState, StoreGoesOn}
use Rattle.sg_stores.proofs.StoreLemmas.{goes_trans}
use Rattle.sg_standing.proofs.Calls.{goes-refl, IsTouched, touched-or}
use Rattle.sg_offers.specs.declared.batch.Payload.{Payload}
use Rattle.sg_offers.specs.Payloads.{buffer_at}
use Rattle.sg_offers.specs.Answering.{fails_at}
use Rattle.sg_core.specs.Admits.{AreApartBuffers, is_for, blocks_for, is_staged, CommitsBy, CommitsFor, Staged, StagedAll, Committed, CommittedAll, AppendedBlocks, AppendedAll}
use Rattle.sg_core.proofs.AppendSteps.{fails-set-same, fails-set-other}

-- those below k have committed, and the others are as they were
pub record Committing (olds news : List StoreState) (buffers : List (Option BufferSetup)) (staged fails : List Bool) (k : ℕ) : Type 0 where
  pub count : length news ≡ length olds
  pub goes : (s : ℕ) (old new : StoreState) → slice_get olds s ≡ Some old → slice_get news s ≡ Some new → StoreGoesOn old new
  pub below : (d : ℕ) (buffer : BufferSetup) (old new : StoreState) → buffer_at buffers d ≡ Some buffer → slice_get olds buffer.store ≡ Some old → slice_get news buffer.store ≡ Some new → d < k
      → Committed old new (fails_at staged d) (fails_at fails d)
  pub above : (d : ℕ) (buffer : BufferSetup) (old new : StoreState) → buffer_at buffers d ≡ Some buffer → slice_get olds buffer.store ≡ Some old → slice_get news buffer.store ≡ Some new → k ≤ d → new ≡ old
  pub others : (s : ℕ) → ((d : ℕ) (buffer : BufferSetup) → buffer_at buffers d ≡ Some buffer → buffer.store ≢ s) → slice_get news s ≡ slice_get olds s
  pub unbacked : (d : ℕ) → buffer_at buffers d ≡ None → d < k → fails_at fails d ≡ false
  pub marks : (d : ℕ) → k ≤ d → fails_at fails d ≡ fails_at staged d

pub committing-start : (olds : List StoreState) (buffers : List (Option BufferSetup)) (staged : List Bool) → Committing olds olds buffers staged staged 0
committing-start olds buffers staged = record {
  count = refl;
  goes = λ s old new go gn. subst (λ (y : StoreState). StoreGoesOn old y) (some-same old new (sym go ∙ gn)) (goes-refl old);
  below = λ d buffer old new b go gn l. absurd (omega arith);
  above = λ d buffer old new b go gn l. some-same new old (sym gn ∙ go);
  others = λ s h. refl;
  unbacked = λ d b l. absurd (omega arith);
  marks = λ d l. refl;
}

-- one that isn't marked
pub committing-skip : (olds mids : List StoreState) (buffers : List (Option BufferSetup)) (staged fails : List Bool) (k : ℕ) → Committing olds mids buffers staged fails k → fails_at fails k ≡ false → Committing olds mids buffers staged fails (k + 1)
committing-skip olds mids buffers staged fails k c f =
    let marked : fails_at staged k ≡ false = sym (c.marks k (omega arith)) ∙ f in
    record {
      count = c.count;
      goes = c.goes;
      below = λ d buffer old new b go gn l.
          elim (cases_eq d k) [
            | inl e ↦ (
                let same = c.above d buffer old new b go gn (omega arith) in
                let was : fails_at staged d ≡ false = ap (fails_at staged) e ∙ marked in
                let is : fails_at fails d ≡ false = ap (fails_at fails) e ∙ f in
                record {
                  commits = λ t. absurd (let wrong : true ≡ false = sym t ∙ was in cc);
                  stays = λ t. same;
                  failed = is ∙ sym (ap (λ (x : Bool). x && new.failed) was);
                })
            | inr ne ↦ c.below d buffer old new b go gn (let n : d ≢ k = ne in omega arith)
          ];
      above = λ d buffer old new b go gn l. c.above d buffer old new b go gn (omega arith);
      others = c.others;
      unbacked = λ d b l.
          elim (cases_eq d k) [
            | inl e ↦ ap (fails_at fails) e ∙ f
            | inr ne ↦ c.unbacked d b (let n : d ≢ k = ne in omega arith)
          ];
      marks = λ d l. c.marks d (omega arith);
    }

-- one that is, and has no disk-buffer
committing-none : (olds mids news : List StoreState) (buffers : List (Option BufferSetup)) (staged fails : List Bool) (k : ℕ) (fail : Bool) → Committing olds mids buffers staged fails k → k < length fails → buffer_at buffers k ≡ None
    → news ≡ mids → fail ≡ false → Committing olds news buffers staged (set fails k fail) (k + 1)
committing-none olds mids news buffers staged fails k fail c l at same absent = record {
  count = ap length same ∙ c.count;
  goes = λ s old new go gn. c.goes s old new go (ap (λ (xs : List StoreState). slice_get xs s) (sym same) ∙ gn);
  below = λ d buffer old new b go gn m.
      elim (cases_eq d k) [
        | inl e ↦ absurd (let wrong : Some buffer ≡ None = sym b ∙ ap (buffer_at buffers) e ∙ at in cc)
        | inr ne ↦ (
            let gm : slice_get mids buffer.store ≡ Some new = ap (λ (xs : List StoreState). slice_get xs buffer.store) (sym same) ∙ gn in
            let was = c.below d buffer old new b go gm (let n : d ≢ k = ne in omega arith) in
            subst (λ (f : Bool). Committed old new (fails_at staged d) f) (sym (fails-set-other fails k d fail ne)) was)
      ];
  above = λ d buffer old new b go gn m. c.above d buffer old new b go (ap (λ (xs : List StoreState). slice_get xs buffer.store) (sym same) ∙ gn) (omega arith);
  others = λ s h. ap (λ (xs : List StoreState). slice_get xs s) same ∙ c.others s h;
  unbacked = λ d b m.
      elim (cases_eq d k) [
        | inl e ↦ ap (fails_at (set fails k fail)) e ∙ fails-set-same fails k fail l ∙ absent
        | inr ne ↦ fails-set-other fails k d fail ne ∙ c.unbacked d b (let n : d ≢ k = ne in omega arith)
      ];
  marks = λ d m. fails-set-other fails k d fail (λ e. omega arith) ∙ c.marks d (omega arith);
}

not-not : (a b : Bool) → not a ≡ not b → a ≡ b
not-not true true h = refl
not-not true false h = let wrong : false ≡ true = h in cc
not-not false true h = let wrong : true ≡ false = h in cc
not-not false false h = refl

touched-new : (mids news : List StoreState) (s : ℕ) (old now new : StoreState) → slice_get mids s ≡ Some old → news ≡ change mids s (λ _. now) → slice_get news s ≡ Some new → new ≡ now
touched-new mids news s old now new g others h = some-same new now (sym h ∙ ap (λ (xs : List StoreState). slice_get xs s) others ∙ get-change-same mids s (λ _. now) old g)

here-commits : (staged fails : List Bool) (old new : StoreState) (k d : ℕ) (fail was : Bool) → d ≡ k → k < length fails → was ≡ true → (mid now : StoreState) → mid ≡ old → new ≡ now → CommitsStore mid now → not fail ≡ not now.failed
    → Committed old new was (fails_at (set fails k fail) d)
here-commits staged fails old new k d fail was e l t mid now m n commits answer =
    let is : fails_at (set fails k fail) d ≡ fail = ap (fails_at (set fails k fail)) e ∙ fails-set-same fails k fail l in
    let fail_is : fail ≡ new.failed = not-not fail now.failed answer ∙ ap (λ (y : StoreState). y.failed) (sym n) in
    record {
      commits = λ q. subst (λ (y : StoreState). CommitsStore old y) (sym n) (subst (λ (y : StoreState). CommitsStore y now) m commits);
      stays = λ q. absurd (let wrong : true ≡ false = sym t ∙ q in cc);
      failed = is ∙ fail_is ∙ sym (ap (λ (b : Bool). b && new.failed) t);
    }

-- one that is, and commits
committing-some : (olds mids news : List StoreState) (buffers : List (Option BufferSetup)) (staged fails : List Bool) (k : ℕ) (fail : Bool) (x : BufferSetup) → Committing olds mids buffers staged fails k → k < length fails → fails_at fails k ≡ true
    → AreApartBuffers buffers → buffer_at buffers k ≡ Some x → CommitsAt mids news x.store (not fail) → Committing olds news buffers staged (set fails k fail) (k + 1)
committing-some olds mids news buffers staged fails k fail x c l f apart at h =
    let marked : fails_at staged k ≡ true = sym (c.marks k (omega arith)) ∙ f in
    record {
      count = ap length h.others ∙ length-change mids x.store (λ _. h.new) ∙ c.count;
      goes = λ s old new go gn.
          let below = slice_get-below olds s old go in
          let count = c.count in
          let gm = slice_get-some mids s (omega (arith, below, count)) in
          let first = c.goes s old gm.0 go gm.1 in
          elim (touched-or mids news x.store s h.old h.new gm.0 new h.was h.others gm.1 gn) [
            | inl q ↦ (
                let t : IsTouched h.old h.new gm.0 new = q.1 in
                goes_trans old gm.0 new first (subst (λ (y : StoreState). StoreGoesOn gm.0 y) t.after (subst (λ (y : StoreState). StoreGoesOn y h.new) t.before (h.commits).goes)))
            | inr q ↦ subst (λ (y : StoreState). StoreGoesOn old y) q.1 first
          ];
      below = λ d buffer old new b go gn m.
          elim (cases_eq d k) [
            | inl e ↦ (
                let same : buffer ≡ x = some-same buffer x (sym b ∙ ap (buffer_at buffers) e ∙ at) in
                let go_x : slice_get olds x.store ≡ Some old = rw (← same) go in
                let gn_x : slice_get news x.store ≡ Some new = rw (← same) gn in
                let was : h.old ≡ old = c.above k x old h.old at go_x h.was (omega arith) in
                here-commits staged fails old new k d fail (fails_at staged d) e l (ap (fails_at staged) e ∙ marked) h.old h.new was (touched-new mids news x.store h.old h.new new h.was h.others gn_x) h.commits h.answer)
            | inr ne ↦ (
                let n : d ≢ k = ne in
                let other : buffer.store ≢ x.store = λ q. ne (apart d k buffer x b at q) in
                let gm : slice_get mids buffer.store ≡ Some new = sym (get-change-other mids x.store buffer.store (λ _. h.new) other) ∙ ap (λ (xs : List StoreState). slice_get xs buffer.store) (sym h.others) ∙ gn in
                subst (λ (z : Bool). Committed old new (fails_at staged d) z) (sym (fails-set-other fails k d fail ne)) (c.below d buffer old new b go gm (omega arith)))
          ];
      above = λ d buffer old new b go gn m.
          let ne : d ≢ k = λ e. omega arith in
          let other : buffer.store ≢ x.store = λ q. ne (apart d k buffer x b at q) in
          c.above d buffer old new b go (sym (get-change-other mids x.store buffer.store (λ _. h.new) other) ∙ ap (λ (xs : List StoreState). slice_get xs buffer.store) (sym h.others) ∙ gn) (omega arith);
      others = λ s absent.
          let other : s ≢ x.store = λ q. absent k x at (sym q) in
          ap (λ (xs : List StoreState). slice_get xs s) h.others ∙ get-change-other mids x.store s (λ _. h.new) other ∙ c.others s absent;
      unbacked = λ d b m.
          elim (cases_eq d k) [
            | inl e ↦ absurd (let wrong : None ≡ Some x = sym b ∙ ap (buffer_at buffers) e ∙ at in cc)
            | inr ne ↦ fails-set-other fails k d fail ne ∙ c.unbacked d b (let n : d ≢ k = ne in omega arith)
          ];
      marks = λ d m. fails-set-other fails k d fail (λ e. omega arith) ∙ c.marks d (omega arith);
    }

pub committing-by : (olds mids news : List StoreState) (buffers : List (Option BufferSetup)) (staged fails : List Bool) (k : ℕ) (fail : Bool) (b : Option BufferSetup) → Committing olds mids buffers staged fails k → k < length fails → fails_at fails k ≡ true
    → AreApartBuffers buffers → buffer_at buffers k ≡ b → CommitsBy mids news b fail → Committing olds news buffers staged (set fails k fail) (k + 1)
committing-by olds mids news buffers staged fails k fail None c l f apart at h = committing-none olds mids news buffers staged fails k fail c l at h.0 h.1
committing-by olds mids news buffers staged fails k fail (Some x) c l f apart at h = committing-some olds mids news buffers staged fails k fail x c l f apart at h

there-below : (buffers : List (Option BufferSetup)) (d : ℕ) (x : BufferSetup) (k : ℕ) → buffer_at buffers d ≡ Some x → length buffers ≡ k → d < k
there-below [] d x k h n = let wrong : None ≡ Some x = h in cc
there-below (b ∷ buffers) zero x k h n = omega arith
there-below (b ∷ buffers) (suc d) x zero h n = absurd (omega arith)
there-below (b ∷ buffers) (suc d) x (suc k) h n = let rest = there-below buffers d x k h (omega arith) in omega arith

fails-none : (fs : List Bool) (d : ℕ) → length fs ≤ d → fails_at fs d ≡ false
fails-none [] d l = refl
fails-none (f ∷ fs) zero l = absurd (omega arith)
fails-none (f ∷ fs) (suc d) l = fails-none fs d (omega arith)

-- once all have
pub committed-all : (olds news : List StoreState) (buffers : List (Option BufferSetup)) (staged fails : List Bool) (k : ℕ) → Committing olds news buffers staged fails k → length buffers ≡ k → length fails ≡ k → CommittedAll olds news buffers staged fails
committed-all olds news buffers staged fails k c n m = record {
  count = c.count;
  goes = c.goes;
  each = λ d buffer old new b go gn. c.below d buffer old new b go gn (there-below buffers d buffer k b n);
  others = c.others;
  unbacked = λ d b. elim (cases_lt d k) [ inl l ↦ c.unbacked d b l | inr g ↦ fails-none fails d (omega arith) ];
}

-- Both.

-- the payloads for a store are those for the destination of its disk-buffer
for-dest-by : (buffers : List (Option BufferSetup)) (d : ℕ) (x : BufferSetup) (p : Payload) (b : Option BufferSetup) (t : Bool) → AreApartBuffers buffers → buffer_at buffers d ≡ Some x → buffer_at buffers p.dest ≡ b → p.taken ≡ t
    → (t && option_map_or (λ (y : BufferSetup). y.store == x.store) b false) ≡ true → p.dest ≡ d
for-dest-by buffers d x p None true apart at e q h = let wrong : false ≡ true = h in cc
for-dest-by buffers d x p None false apart at e q h = let wrong : false ≡ true = h in cc
for-dest-by buffers d x p (Some y) false apart at e q h = let wrong : false ≡ true = h in cc
for-dest-by buffers d x p (Some y) true apart at e q h = apart p.dest d y x e at (eqb-true y.store x.store h)

and-end : (b : Bool) → (b && true) ≡ b
and-end true = refl
and-end false = refl

for-here : (buffers : List (Option BufferSetup)) (d : ℕ) (x : BufferSetup) (p : Payload) → buffer_at buffers d ≡ Some x → p.dest ≡ d → is_for buffers x.store p ≡ p.taken
for-here buffers d x p at e =
    let here : buffer_at buffers p.dest ≡ Some x = ap (buffer_at buffers) e ∙ at in
    let same : (x.store == x.store) ≡ true = grind arith in
    ap (λ (b : Option BufferSetup). p.taken && option_map_or (λ (y : BufferSetup). y.store == x.store) b false) here ∙ ap (λ (b : Bool). p.taken && b) same ∙ and-end p.taken

pub for-dest : (buffers : List (Option BufferSetup)) (d : ℕ) (x : BufferSetup) (p : Payload) → AreApartBuffers buffers → buffer_at buffers d ≡ Some x → is_for buffers x.store p ≡ (p.taken && (p.dest == d))
for-dest buffers d x p apart at =
    elim (cases_eq p.dest d) [
      | inl e ↦ (
          let hit : (p.dest == d) ≡ true = grind arith in
          for-here buffers d x p at e ∙ sym (ap (λ (b : Bool). p.taken && b) hit ∙ and-end p.taken))
      | inr ne ↦ (
          let miss : (p.dest == d) ≡ false = grind arith in
          false_from_ne_true (is_for buffers x.store p) (λ h. ne (for-dest-by buffers d x p (buffer_at buffers p.dest) p.taken apart at refl refl h)) ∙ sym (and_right p.taken (p.dest == d) miss))
    ]

blocks-none : (buffers : List (Option BufferSetup)) (s : ℕ) (ps : List Payload) → ((p : Payload) → is_for buffers s p ≡ false) → blocks_for buffers s ps ≡ []
blocks-none buffers s [] h = refl
blocks-none buffers s (p ∷ ps) h = rw (h p) (blocks-none buffers s ps h)

pick-if : (a b : Bool) (x : Option (List ℕ)) (xs : List (Option (List ℕ))) → (a || b) ≡ false → (b ≡ false → xs ≡ []) → (if a then x ∷ xs else xs) ≡ []
pick-if true b x xs h f = let wrong : true ≡ false = h in cc
pick-if false b x xs h f = f h

some-if : (a b : Bool) (x : Option (List ℕ)) (xs : List (Option (List ℕ))) → (a || b) ≡ true → (b ≡ true → xs ≢ []) → (if a then x ∷ xs else xs) ≢ []
some-if true b x xs h f = λ e. let wrong : x ∷ xs ≡ [] = e in cc
some-if false b x xs h f = f h

unstaged-blocks : (buffers : List (Option BufferSetup)) (d : ℕ) (x : BufferSetup) (ps : List Payload) → AreApartBuffers buffers → buffer_at buffers d ≡ Some x → is_staged d ps ≡ false → blocks_for buffers x.store ps ≡ []
unstaged-blocks buffers d x [] apart at h = refl
unstaged-blocks buffers d x (p ∷ ps) apart at h =
    let same = for-dest buffers d x p apart at in
    pick-if (is_for buffers x.store p) (is_staged d ps) p.block (blocks_for buffers x.store ps) (ap (λ (b : Bool). b || is_staged d ps) same ∙ h) (λ g. unstaged-blocks buffers d x ps apart at g)

staged-blocks : (buffers : List (Option BufferSetup)) (d : ℕ) (x : BufferSetup) (ps : List Payload) → AreApartBuffers buffers → buffer_at buffers d ≡ Some x → is_staged d ps ≡ true → blocks_for buffers x.store ps ≢ []
staged-blocks buffers d x [] apart at h = let wrong : false ≡ true = h in cc
staged-blocks buffers d x (p ∷ ps) apart at h =
    let same = for-dest buffers d x p apart at in
    some-if (is_for buffers x.store p) (is_staged d ps) p.block (blocks_for buffers x.store ps) (ap (λ (b : Bool). b || is_staged d ps) same ∙ h) (λ g. staged-blocks buffers d x ps apart at g)

appended-by : (old mid new : StoreState) (blocks : List (Option (List ℕ))) (marked fails b : Bool) → marked ≡ b → (b ≡ true → blocks ≢ []) → (b ≡ false → blocks ≡ []) → Staged old mid blocks → Committed mid new marked fails → AppendedBlocks old new blocks fails
appended-by old mid new blocks marked fails true m some none s c =
    let commits = c.commits m in
    record {
      goes = goes_trans old mid new s.goes commits.goes;
      none = λ h. absurd (some refl h);
      before = λ f. let same = s.before f in commits.before (ap (λ (y : StoreState). y.failed) same ∙ f) ∙ same;
      some = λ h. c.failed ∙ ap (λ (x : Bool). x && new.failed) m;
      quiet = λ h. absurd (some refl h);
      appends = λ ks l ne works next. commits.commits old ks (s.appends ks l works next);
    }
appended-by old mid new blocks marked fails false m some none s c =
    let same = c.stays m ∙ s.none (none refl) in
    record {
      goes = subst (λ (y : StoreState). StoreGoesOn old y) (sym (c.stays m)) s.goes;
      none = λ h. same;
      before = λ f. same;
      some = λ h. absurd (h (none refl));
      quiet = λ h. c.failed ∙ ap (λ (x : Bool). x && new.failed) m;
      appends = λ ks l ne works next. absurd (ne (none refl));
    }

not-for : (buffers : List (Option BufferSetup)) (s : ℕ) (p : Payload) (b : Option BufferSetup) → ((d : ℕ) (buffer : BufferSetup) → buffer_at buffers d ≡ Some buffer → buffer.store ≢ s) → buffer_at buffers p.dest ≡ b
    → (p.taken && option_map_or (λ (y : BufferSetup). y.store == s) b false) ≡ false
not-for buffers s p None absent e = and_right p.taken false refl
not-for buffers s p (Some y) absent e =
    let ne : y.store ≢ s = absent p.dest y e in
    let miss : (y.store == s) ≡ false = grind arith in
    and_right p.taken (y.store == s) miss

untouched : (olds mids : List StoreState) (buffers : List (Option BufferSetup)) (ps : List Payload) (s : ℕ) → StagedAll olds mids buffers ps → ((d : ℕ) (buffer : BufferSetup) → buffer_at buffers d ≡ Some buffer → buffer.store ≢ s)
    → slice_get mids s ≡ slice_get olds s
untouched olds mids buffers ps s all absent =
    elim (cases_lt s (length olds)) [
      | inl l ↦ (
          let go = slice_get-some olds s l in
          let count = all.count in
          let gm = slice_get-some mids s (omega (arith, l, count)) in
          let none = blocks-none buffers s ps (λ p. not-for buffers s p (buffer_at buffers p.dest) absent refl) in
          let same = (all.each s go.0 gm.0 go.1 gm.1).none none in
          gm.1 ∙ ap Some same ∙ sym go.1)
      | inr g ↦ (let count = all.count in slice_get-none mids s (omega (arith, g, count)) ∙ sym (slice_get-none olds s g))
    ]

pub appended-all : (olds mids news : List StoreState) (buffers : List (Option BufferSetup)) (ps : List Payload) (staged fails : List Bool) → StagedAll olds mids buffers ps → ((d : ℕ) → fails_at staged d ≡ is_staged d ps)
    → CommittedAll mids news buffers staged fails → AreApartBuffers buffers → AppendedAll olds news buffers ps fails
appended-all olds mids news buffers ps staged fails all marks done apart = record {
  all_go = record {
    count = done.count ∙ all.count;
    each = λ s old new go gn.
        let below = slice_get-below olds s old go in
        let count = all.count in
        let gm = slice_get-some mids s (omega (arith, below, count)) in
        goes_trans old gm.0 new ((all.each s old gm.0 go gm.1).goes) (done.goes s gm.0 new gm.1 gn);
  };
  each = λ d buffer old new b go gn.
      let below = slice_get-below olds buffer.store old go in
      let count = all.count in
      let gm = slice_get-some mids buffer.store (omega (arith, below, count)) in
      appended-by old gm.0 new (blocks_for buffers buffer.store ps) (fails_at staged d) (fails_at fails d) (is_staged d ps) (marks d) (staged-blocks buffers d buffer ps apart b) (unstaged-blocks buffers d buffer ps apart b)
      (all.each buffer.store old gm.0 go gm.1) (done.each d buffer gm.0 new b gm.1 gn);
  others = λ s absent. done.others s absent ∙ untouched olds mids buffers ps s all absent;
  unbacked = done.unbacked;
}

-- One commit.

not-twice : (b : Bool) → not (not b) ≡ b
not-twice true = refl
not-twice false = refl

pub commits-for : (olds news : List StoreState) (buffers : List (Option BufferSetup)) (d : ℕ) (x : BufferSetup) (works : Bool) → buffer_at buffers d ≡ Some x → CommitsAt olds news x.store works → CommitsFor olds news buffers d (not works)
commits-for olds news buffers d x works e h = rw (e, not-twice works) h

pub commits-none : (stores : List StoreState) (buffers : List (Option BufferSetup)) (d : ℕ) → buffer_at buffers d ≡ None → CommitsFor stores stores buffers d false
commits-none stores buffers d e = rw e (refl, refl)

pub fails-item : (fs : List Bool) (d : ℕ) (b : Bool) → get_or fs d false ≡ b → fails_at fs d ≡ b
fails-item [] d b h = h
fails-item (f ∷ fs) zero b h = h
fails-item (f ∷ fs) (suc d) b h = fails-item fs d b h
