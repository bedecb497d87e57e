-- Payloads that are staged and committed, one after another.
use Rattle.std.proofs.Common.{◌≡◌, ◌≢◌, ℕ, ◌+◌, ◌<◌, List, [], ◌∷◌, ◌++◌, length, set, Option, Some, None, Bool, true, false, ◌&&◌, ◌||◌, refl, sym, ap, ◌∙◌, arith, suc, zero, slice_get, subst, if◌then◌else◌, append_assoc, inl, inr}
use Rattle.std.specs.Prelude.{◌==◌}
use Rattle.std.specs.Option.{option_map_or}
use Rattle.std.proofs.lemmas.Bool.{cases_eq, cases_Bool}
use Rattle.std.proofs.lemmas.List.{append-nil, length_push}
use Rattle.std.proofs.Math.ListN.{length-set}
use Rattle.sg_list.proofs.ListLemmas.{some-same, length-change, slice_get-some, slice_get-below}
use Rattle.sg_machine.specs.declared.setup.BufferSetup.{BufferSetup}
use Rattle.sg_machine.specs.Runs.{BufferedEntry}
use Rattle.sg_stores.specs.Appending.{IsAppending, IsNextPayload, StagesAt, StagesStore}
use Rattle.sg_stores.specs.Stores.{StoreState}
use Rattle.sg_stores.proofs.StoreLemmas.{goes_trans}
use Rattle.sg_stores.proofs.StageLemmas.{begins as appending-begins}
use Rattle.sg_standing.proofs.Calls.{goes-refl, IsTouched, touched-or}
use Rattle.sg_offers.specs.declared.batch.Payload.{Payload}
use Rattle.sg_offers.specs.Payloads.{buffers_of, buffer_at}
use Rattle.sg_offers.specs.Rooms.{seen_in, AreTo}
use Rattle.sg_offers.proofs.ItemLemmas.{seen-there, buffer-there}
use Rattle.sg_sinks.specs.States.{Sunk}
use Rattle.sg_offers.specs.Answering.{fails_at}
use Rattle.sg_core.specs.Steps.{AreNext}
use Rattle.sg_core.specs.Admits.{is_for, blocks_for, is_staged, StagesBy, StagesFor, Staged, StagedAll}
use Rattle.sg_machine.proofs.FailLemmas.{or-assoc}

-- Blocks, one more.

push-nil : {A : Type 0} (xs : List A) (x : A) → xs ++ x ∷ [] ≡ [] → ⊥
push-nil [] x h = cc
push-nil (y ∷ xs) x h = cc

-- entries that these blocks spell, and the last one
record SplitAppend (start : StoreState) (tried : List BufferedEntry) (blocks : List (Option (List ℕ))) (payload : List ℕ) (ks : List BufferedEntry) : Type 0 where
  front : List BufferedEntry
  last : BufferedEntry
  parts : ks ≡ front ++ last ∷ []
  count : length front ≡ length blocks
  before : AreNext start tried blocks front
  next : IsNextPayload start (tried ++ front) payload last

next-split : (start : StoreState) (tried : List BufferedEntry) (blocks : List (Option (List ℕ))) (payload : List ℕ) (ks : List BufferedEntry) → length ks ≡ length blocks + 1 → AreNext start tried (blocks ++ Some payload ∷ []) ks → SplitAppend start tried blocks payload ks
next-split start tried [] payload [] l h = absurd (omega arith)
next-split start tried [] payload (k ∷ []) l h =
    record { front = []; last = k; parts = refl; count = refl; before = tt; next = subst (λ (ts : List BufferedEntry). IsNextPayload start ts payload k) (sym (append-nil tried)) h.0 }
next-split start tried [] payload (k ∷ (j ∷ ks)) l h = absurd (omega arith)
next-split start tried (b ∷ blocks) payload [] l h = absurd (omega arith)
next-split start tried (None ∷ blocks) payload (k ∷ ks) l h = absurd h
next-split start tried (Some p ∷ blocks) payload (k ∷ ks) l h =
    let rest = next-split start (tried ++ k ∷ []) blocks payload ks (omega arith) h.1 in
    record {
      front = k ∷ rest.front;
      last = rest.last;
      parts = ap (λ (js : List BufferedEntry). k ∷ js) rest.parts;
      count = ap suc rest.count;
      before = (h.0, rest.before);
      next = subst (λ (ts : List BufferedEntry). IsNextPayload start ts payload rest.last) (append_assoc tried (k ∷ []) rest.front) rest.next;
    }

-- a block that isn't there spells nothing
next-never : (start : StoreState) (tried : List BufferedEntry) (blocks : List (Option (List ℕ))) (ks : List BufferedEntry) → length ks ≡ length blocks + 1 → AreNext start tried (blocks ++ None ∷ []) ks → ⊥
next-never start tried [] [] l h = omega arith
next-never start tried [] (k ∷ ks) l h = h
next-never start tried (b ∷ blocks) [] l h = omega arith
next-never start tried (None ∷ blocks) (k ∷ ks) l h = h
next-never start tried (Some p ∷ blocks) (k ∷ ks) l h = next-never start (tried ++ k ∷ []) blocks ks (omega arith) h.1

-- Stages.

begins : (old : StoreState) (ks : List BufferedEntry) → length ks ≡ 0 → old.failed ≡ false → IsAppending old old ks
begins old [] l works = appending-begins old works
begins old (k ∷ ks) l works = absurd (omega arith)

staged-start : (old : StoreState) → Staged old old []
staged-start old = record { goes = goes-refl old; none = λ h. refl; before = λ h. refl; appends = λ ks l works h. begins old ks l works }

staged-never : (old mid : StoreState) (blocks : List (Option (List ℕ))) → Staged old mid blocks → Staged old mid (blocks ++ None ∷ [])
staged-never old mid blocks s = record {
  goes = s.goes;
  none = λ h. absurd (push-nil blocks None h);
  before = s.before;
  appends = λ ks l works h. absurd (next-never old [] blocks ks (l ∙ length_push blocks None) h);
}

staged-push : (old mid new : StoreState) (blocks : List (Option (List ℕ))) (payload : List ℕ) → Staged old mid blocks → StagesStore mid new payload → Staged old new (blocks ++ Some payload ∷ [])
staged-push old mid new blocks payload s t = record {
  goes = goes_trans old mid new s.goes t.goes;
  none = λ h. absurd (push-nil blocks (Some payload) h);
  before = λ f.
      let same = s.before f in
      t.before (ap (λ (x : StoreState). x.failed) same ∙ f) ∙ same;
  appends = λ ks l works h.
      let p = next-split old [] blocks payload ks (l ∙ length_push blocks (Some payload)) h in
      let a = s.appends p.front p.count works p.before in
      subst (λ (js : List BufferedEntry). IsAppending old new js) (sym p.parts) (t.stages old p.front p.last p.next a);
}

blocks-more : (a b : Bool) (x y : Option (List ℕ)) (xs ys : List (Option (List ℕ))) → ys ≡ (if b then xs ++ y ∷ [] else xs) → (if a then x ∷ ys else ys) ≡ (if b then (if a then x ∷ xs else xs) ++ y ∷ [] else (if a then x ∷ xs else xs))
blocks-more true true x y xs ys h = ap (λ (zs : List (Option (List ℕ))). x ∷ zs) h
blocks-more true false x y xs ys h = ap (λ (zs : List (Option (List ℕ))). x ∷ zs) h
blocks-more false true x y xs ys h = h
blocks-more false false x y xs ys h = h

blocks-push : (buffers : List (Option BufferSetup)) (s : ℕ) (ps : List Payload) (p : Payload) (b : Bool) → is_for buffers s p ≡ b
    → blocks_for buffers s (ps ++ p ∷ []) ≡ (if b then blocks_for buffers s ps ++ p.block ∷ [] else blocks_for buffers s ps)
blocks-push buffers s [] p true h = rw h refl
blocks-push buffers s [] p false h = rw h refl
blocks-push buffers s (q ∷ ps) p b h = blocks-more (is_for buffers s q) b q.block p.block (blocks_for buffers s ps) (blocks_for buffers s (ps ++ p ∷ [])) (blocks-push buffers s ps p b h)

-- a payload that isn't for the store changes nothing of it
staged-skip : (buffers : List (Option BufferSetup)) (s : ℕ) (ps : List Payload) (p : Payload) (old mid new : StoreState) → is_for buffers s p ≡ false → new ≡ mid
    → Staged old mid (blocks_for buffers s ps) → Staged old new (blocks_for buffers s (ps ++ p ∷ []))
staged-skip buffers s ps p old mid new h same staged =
    rw (blocks-push buffers s ps p false h, same) staged

staged-none : (buffers : List (Option BufferSetup)) (s : ℕ) (ps : List Payload) (p : Payload) (old mid new : StoreState) → is_for buffers s p ≡ true → p.block ≡ None → new ≡ mid
    → Staged old mid (blocks_for buffers s ps) → Staged old new (blocks_for buffers s (ps ++ p ∷ []))
staged-none buffers s ps p old mid new h b same staged =
    rw (blocks-push buffers s ps p true h, b, same) (staged-never old mid (blocks_for buffers s ps) staged)

staged-some : (buffers : List (Option BufferSetup)) (s : ℕ) (ps : List Payload) (p : Payload) (payload : List ℕ) (old mid new : StoreState) → is_for buffers s p ≡ true → p.block ≡ Some payload → StagesStore mid new payload
    → Staged old mid (blocks_for buffers s ps) → Staged old new (blocks_for buffers s (ps ++ p ∷ []))
staged-some buffers s ps p payload old mid new h b stages staged =
    rw (blocks-push buffers s ps p true h, b) (staged-push old mid new (blocks_for buffers s ps) payload staged stages)

for-by : (buffers : List (Option BufferSetup)) (s : ℕ) (p : Payload) (b : Option BufferSetup) → buffer_at buffers p.dest ≡ b → p.taken ≡ true → is_for buffers s p ≡ option_map_or (λ (x : BufferSetup). x.store == s) b false
for-by buffers s p b e t = rw (t, e) refl

same-store : (mids news : List StoreState) (s : ℕ) (mid new : StoreState) → news ≡ mids → slice_get mids s ≡ Some mid → slice_get news s ≡ Some new → new ≡ mid
same-store mids news s mid new same g h = some-same new mid (sym h ∙ ap (λ (xs : List StoreState). slice_get xs s) same ∙ g)

stage-by : (buffers : List (Option BufferSetup)) (ps : List Payload) (p : Payload) (b : Option BufferSetup) (block : Option (List ℕ)) (mids news : List StoreState) → buffer_at buffers p.dest ≡ b → p.block ≡ block → p.taken ≡ true
    → StagesBy mids news b block → (s : ℕ) (old mid new : StoreState) → slice_get mids s ≡ Some mid → slice_get news s ≡ Some new → Staged old mid (blocks_for buffers s ps) → Staged old new (blocks_for buffers s (ps ++ p ∷ []))
stage-by buffers ps p None block mids news e f t h s old mid new gm gn staged =
    staged-skip buffers s ps p old mid new (for-by buffers s p None e t) (same-store mids news s mid new h gm gn) staged
stage-by buffers ps p (Some x) None mids news e f t h s old mid new gm gn staged =
    let same = same-store mids news s mid new h gm gn in
    let here = for-by buffers s p (Some x) e t in
    elim (cases_Bool (x.store == s)) [
      | inl q ↦ staged-none buffers s ps p old mid new (here ∙ q) f same staged
      | inr q ↦ staged-skip buffers s ps p old mid new (here ∙ q) same staged
    ]
stage-by buffers ps p (Some x) (Some payload) mids news e f t h s old mid new gm gn staged =
    let here = for-by buffers s p (Some x) e t in
    let at : StagesAt mids news x.store payload h.0 = h.1 in
    elim (touched-or mids news x.store s at.old at.new mid new at.was at.others gm gn) [
      | inl q ↦ (
          let is : (x.store == s) ≡ true = grind (arith, q.0) in
          let touched : IsTouched at.old at.new mid new = q.1 in
          let stages : StagesStore mid new payload = subst (λ (y : StoreState). StagesStore mid y payload) touched.after (subst (λ (y : StoreState). StagesStore y at.new payload) touched.before at.stages) in
          staged-some buffers s ps p payload old mid new (here ∙ is) f stages staged)
      | inr q ↦ (
          let ne : s ≢ x.store = q.0 in
          let is : (x.store == s) ≡ false = grind arith in
          staged-skip buffers s ps p old mid new (here ∙ is) (sym q.1) staged)
    ]

count-by : (b : Option BufferSetup) (block : Option (List ℕ)) (mids news : List StoreState) → StagesBy mids news b block → length news ≡ length mids
count-by None block mids news h = ap length h
count-by (Some x) None mids news h = ap length h
count-by (Some x) (Some payload) mids news h = let at : StagesAt mids news x.store payload h.0 = h.1 in ap length at.others ∙ length-change mids x.store (λ _. at.new)

pub staged-all-start : (olds : List StoreState) (buffers : List (Option BufferSetup)) → StagedAll olds olds buffers []
staged-all-start olds buffers = record {
  count = refl;
  each = λ s old new go gn. subst (λ (y : StoreState). Staged old y []) (some-same old new (sym go ∙ gn)) (staged-start old);
}

pub staged-all-taken : (olds mids news : List StoreState) (buffers : List (Option BufferSetup)) (ps : List Payload) (p : Payload) → StagedAll olds mids buffers ps → StagesFor mids news buffers p → p.taken ≡ true → StagedAll olds news buffers (ps ++ p ∷ [])
staged-all-taken olds mids news buffers ps p all h t =
    let count = count-by (buffer_at buffers p.dest) p.block mids news h in
    record {
      count = count ∙ all.count;
      each = λ s old new go gn.
          let below = slice_get-below news s new gn in
          let there = slice_get-some mids s (omega (arith, below, count)) in
          stage-by buffers ps p (buffer_at buffers p.dest) p.block mids news refl refl t h s old there.0 new there.1 gn (all.each s old there.0 go there.1);
    }

pub staged-all-skip : (olds mids : List StoreState) (buffers : List (Option BufferSetup)) (ps : List Payload) (p : Payload) → StagedAll olds mids buffers ps → p.taken ≡ false → StagedAll olds mids buffers (ps ++ p ∷ [])
staged-all-skip olds mids buffers ps p all t = record {
  count = all.count;
  each = λ s old new go gn.
      let no : is_for buffers s p ≡ false = rw t refl in
      staged-skip buffers s ps p old new new no refl (all.each s old new go gn);
}

-- Marks.

pub fails-set-same : (fs : List Bool) (d : ℕ) (b : Bool) → d < length fs → fails_at (set fs d b) d ≡ b
fails-set-same [] d b l = absurd (omega arith)
fails-set-same (f ∷ fs) zero b l = refl
fails-set-same (f ∷ fs) (suc d) b l = fails-set-same fs d b (omega arith)

pub fails-set-other : (fs : List Bool) (d e : ℕ) (b : Bool) → e ≢ d → fails_at (set fs d b) e ≡ fails_at fs e
fails-set-other [] d e b ne = refl
fails-set-other (f ∷ fs) zero zero b ne = absurd (ne refl)
fails-set-other (f ∷ fs) zero (suc e) b ne = refl
fails-set-other (f ∷ fs) (suc d) zero b ne = refl
fails-set-other (f ∷ fs) (suc d) (suc e) b ne = fails-set-other fs d e b (λ q. ne (ap suc q))

or-end : (b : Bool) → (b || false) ≡ b
or-end true = refl
or-end false = refl

staged-more : (d : ℕ) (ps : List Payload) (p : Payload) → is_staged d (ps ++ p ∷ []) ≡ (is_staged d ps || (p.taken && (p.dest == d)))
staged-more d [] p = or-end (p.taken && (p.dest == d))
staged-more d (q ∷ ps) p = ap (λ (b : Bool). (q.taken && (q.dest == d)) || b) (staged-more d ps p) ∙ or-assoc (q.taken && (q.dest == d)) (is_staged d ps) (p.taken && (p.dest == d))

or-true-end : (b : Bool) → (b || true) ≡ true
or-true-end true = refl
or-true-end false = refl

abbrev pub MarksOfClaims : List Bool → List Bool → List Payload → Type 0
MarksOfClaims olds news ps = (d : ℕ) → fails_at news d ≡ (fails_at olds d || is_staged d ps)

pub marks-start : (fs : List Bool) → MarksOfClaims fs fs []
marks-start fs = λ d. sym (or-end (fails_at fs d))

pub marks-taken : (olds fs : List Bool) (ps : List Payload) (p : Payload) → p.dest < length fs → MarksOfClaims olds fs ps → p.taken ≡ true → MarksOfClaims olds (set fs p.dest true) (ps ++ p ∷ [])
marks-taken olds fs ps p l m t = λ d.
    let more = ap (λ (b : Bool). fails_at olds d || b) (staged-more d ps p) in
    elim (cases_eq d p.dest) [
      | inl e ↦ (
          let hit : (p.taken && (p.dest == d)) ≡ true = (let q : (p.dest == d) ≡ true = grind arith in rw (t, q) refl) in
          ap (fails_at (set fs p.dest true)) e ∙ fails-set-same fs p.dest true l
          ∙ sym (more ∙ ap (λ (b : Bool). fails_at olds d || (is_staged d ps || b)) hit ∙ ap (λ (b : Bool). fails_at olds d || b) (or-true-end (is_staged d ps)) ∙ or-true-end (fails_at olds d)))
      | inr ne ↦ (
          let miss : (p.taken && (p.dest == d)) ≡ false = (let q : (p.dest == d) ≡ false = grind arith in rw (t, q) refl) in
          fails-set-other fs p.dest d true ne ∙ m d
          ∙ sym (more ∙ ap (λ (b : Bool). fails_at olds d || (is_staged d ps || b)) miss ∙ ap (λ (b : Bool). fails_at olds d || b) (or-end (is_staged d ps))))
    ]

pub marks-skip : (olds fs : List Bool) (ps : List Payload) (p : Payload) → MarksOfClaims olds fs ps → p.taken ≡ false → MarksOfClaims olds fs (ps ++ p ∷ [])
marks-skip olds fs ps p m t = λ d.
    let miss : (p.taken && (p.dest == d)) ≡ false = rw t refl in
    m d ∙ sym (ap (λ (b : Bool). fails_at olds d || b) (staged-more d ps p ∙ ap (λ (b : Bool). is_staged d ps || b) miss ∙ or-end (is_staged d ps)))

-- The disk-buffer of a destination of the core.

pub buffer-of : (sinks : List Sunk) (d : ℕ) (k : Sunk) → slice_get sinks d ≡ Some k → buffer_at (buffers_of (seen_in sinks)) d ≡ k.seen.setup.buffer
buffer-of sinks d k h = buffer-there (seen_in sinks) d k.seen (seen-there sinks d k h)

pub length-buffers : (sinks : List Sunk) → length (buffers_of (seen_in sinks)) ≡ length sinks
length-buffers [] = refl
length-buffers (k ∷ sinks) = ap suc (length-buffers sinks)

stages-of : (olds news : List StoreState) (x : BufferSetup) (payload : List ℕ) (b : Option BufferSetup) (block : Option (List ℕ)) (works : Bool) → b ≡ Some x → block ≡ Some payload → StagesAt olds news x.store payload works → StagesBy olds news b block
stages-of olds news x payload b block works e f h = rw (e, f) (works, h)

pub stages-for : (olds news : List StoreState) (buffers : List (Option BufferSetup)) (p : Payload) (x : BufferSetup) (payload : List ℕ) (works : Bool) → buffer_at buffers p.dest ≡ Some x → p.block ≡ Some payload → StagesAt olds news x.store payload works → StagesFor olds news buffers p
stages-for olds news buffers p x payload works e f h = stages-of olds news x payload (buffer_at buffers p.dest) p.block works e f h

pub stages-unbacked : (stores : List StoreState) (buffers : List (Option BufferSetup)) (p : Payload) → buffer_at buffers p.dest ≡ None → StagesFor stores stores buffers p
stages-unbacked stores buffers p e = rw e refl

unblocked-by : (stores : List StoreState) (b : Option BufferSetup) → StagesBy stores stores b None
unblocked-by stores None = refl
unblocked-by stores (Some x) = refl

pub stages-unblocked : (stores : List StoreState) (buffers : List (Option BufferSetup)) (p : Payload) → p.block ≡ None → StagesFor stores stores buffers p
stages-unblocked stores buffers p e = rw e (unblocked-by stores (buffer_at buffers p.dest))

pub to-first : (count : ℕ) (p : Payload) (ps : List Payload) → AreTo count (p ∷ ps) → p.dest < count
to-first count p ps h = h.0

-- one payload more
pub record StagedMore (olds news : List StoreState) (buffers : List (Option BufferSetup)) (count : ℕ) (marks : List Bool) (fs : List Bool) (done rest : List Payload) : Type 0 where
  pub to : AreTo count rest
  pub len : length fs ≡ count
  pub all : StagedAll olds news buffers done
  pub marked : MarksOfClaims marks fs done

pub more-taken : (olds mids news : List StoreState) (buffers : List (Option BufferSetup)) (count : ℕ) (marks fs gs : List Bool) (done later rest : List Payload) (p : Payload) → StagedMore olds mids buffers count marks fs done (p ∷ rest)
    → later ≡ done ++ p ∷ [] → p.taken ≡ true → StagesFor mids news buffers p → gs ≡ set fs p.dest true → StagedMore olds news buffers count marks gs later rest
more-taken olds mids news buffers count marks fs gs done later rest p m e t h g =
    let l : p.dest < length fs = (let a = (m.to).0 in let b = m.len in omega arith) in
    rw (e, g) (record {
      to = m.to.1;
      len = length-set fs p.dest true ∙ m.len;
      all = staged-all-taken olds mids news buffers done p m.all h t;
      marked = marks-taken marks fs done p l m.marked t;
    })

pub more-skip : (olds mids : List StoreState) (buffers : List (Option BufferSetup)) (count : ℕ) (marks fs : List Bool) (done later rest : List Payload) (p : Payload) → StagedMore olds mids buffers count marks fs done (p ∷ rest)
    → later ≡ done ++ p ∷ [] → p.taken ≡ false → StagedMore olds mids buffers count marks fs later rest
more-skip olds mids buffers count marks fs done later rest p m e t =
    rw e (record {
      to = m.to.1;
      len = m.len;
      all = staged-all-skip olds mids buffers done p m.all t;
      marked = marks-skip marks fs done p m.marked t;
    })
