-- Stores that are opened one after another.
use Rattle.std.proofs.Common.{◌≡◌, inl, inr, ℕ, suc, ◌+◌, ◌<◌, ◌≤◌, List, [], ◌∷◌, ◌++◌, length, map, drop, slice_get, Some, None, refl, sym, ap, ◌∙◌, arith, subst}
use Rattle.std.specs.Prelude.{Ok, Err, false}
use Rattle.std.proofs.lemmas.Bool.{cases_lt}
use Rattle.std.proofs.lemmas.List.{length-append, length-map, length_push, drop-drop}
use Rattle.sg_list.proofs.ListLemmas.{some-same, length-change, slice_get-some, slice_get-below, slice_get-map, get-change-same}
use Rattle.sg_device.specs.Disk.{DiskState, content, WhereTold, Rests}
use Rattle.sg_device.specs.Faults.{Rose}
use Rattle.sg_device.proofs.DiskCalls.{tells_same, unchanged}
use Rattle.sg_stable.specs.declared.fault.StoreRefusal.{StoreRefusal}
use Rattle.sg_stable.specs.declared.fault.StoreRefusal.TheVariants.{Damage, DiskFault, NoMemory}
use Rattle.sg_buffer.specs.declared.found.BufferEntries.{BufferEntries}
use Rattle.sg_stores.specs.Stores.{StoreState, StoreGoesOn, AllGo}
use Rattle.sg_stores.specs.Opening.{IsStore, IsOpenedAs, AreOpened, KeepsImages, RestsInList, AreStoresBefore, HasOpeningReason, AreStoresRefused, FailsByFaults, AllFailByFaults, refusal_of}
use Rattle.sg_stores.specs.Looking.{IsLookedAs, IsUnlooked, OpenReason, IsUnrenewed, IsUnstaged, CanRenew, CanRenewAll, RenewsAt, AreOpening}
use Rattle.sg_stores.specs.declared.kind.StoreKind.{StoreKind}
use Rattle.sg_stores.specs.declared.kind.StoreKind.TheVariants.{Position, Buffer}
use Rattle.sg_stores.specs.declared.answers.CoreRefusal.TheVariants.{NoMemory as CoreMemory}
use Rattle.sg_stores.proofs.LookLemmas.{looked-told, keeps}
use Rattle.sg_stores.proofs.GetLemmas.{get-changed, get-map, get-push, get-between, get-middle, get-drop}
use Rattle.sg_buffer.specs.Renewing.{RenewReason}

-- One store.

rests-list : (old new : DiskState) → Rests old new → RestsInList old new
rests-list old new rests = record {
  tells = rests.tells;
  still = record {
    later = rests.still.later;
    past = rests.still.past;
    kept = rests.still.kept;
    since = λ t c lt le left. let d = rests.still.since t c lt le left in (d.0, d.1, inl d.2);
  };
}

rests-keeps : (kind : StoreKind) (old new : DiskState) → Rests old new → KeepsImages kind old new
rests-keeps Position old new rests = rests
rests-keeps (Buffer capacity) old new rests = rests-list old new rests

keeps-same : (kind : StoreKind) (disk : DiskState) → KeepsImages kind disk disk
keeps-same kind disk = rests-keeps kind disk disk (tells_same disk disk (unchanged disk disk refl))

looked-keeps : (kind : StoreKind) (disk : DiskState) (found : BufferEntries) (store : StoreState) → IsLookedAs kind disk found store → KeepsImages kind disk store.disk
looked-keeps Position disk found store look = tells_same disk store.disk (look.0).preserves
looked-keeps (Buffer capacity) disk found store look = rests-list disk store.disk (tells_same disk store.disk look.preserves)

looked-later : (kind : StoreKind) (disk : DiskState) (found : BufferEntries) (store : StoreState) → IsLookedAs kind disk found store → disk.faults ≤ store.disk.faults
looked-later Position disk found store look = let well = (look.0).well in omega (arith, well)
looked-later (Buffer capacity) disk found store look = let well = look.well in omega (arith, well)

looked-store : (kind : StoreKind) (disk : DiskState) (found : BufferEntries) (store : StoreState) → IsLookedAs kind disk found store → WhereTold (content disk) (IsStore kind)
looked-store Position disk found store look = λ b told. (store.position, (look.0).position b told)
looked-store (Buffer capacity) disk found store look = λ b told. (look.entries, looked-told disk capacity found store look b told)

looked-ready : (kind : StoreKind) (disk : DiskState) (found : BufferEntries) (store : StoreState) → IsLookedAs kind disk found store → CanRenew (Some store)
looked-ready Position disk found store look = ((look.0).works, subst IsUnstaged (sym (look.0).buffer) tt)
looked-ready (Buffer capacity) disk found store look = (look.works, subst IsUnstaged (sym look.there) (let rows = look.rows in rw rows refl))

opened-keeps : (kind : StoreKind) (disk : DiskState) (found : BufferEntries) (store : StoreState) → IsOpenedAs kind disk found store → KeepsImages kind disk store.disk
opened-keeps Position disk found store is = tells_same disk store.disk (is.0).preserves
opened-keeps (Buffer capacity) disk found store is = keeps disk is.synced store.disk _ is.preserves is.within is.told

pub opened-later : (kind : StoreKind) (disk : DiskState) (found : BufferEntries) (store : StoreState) → IsOpenedAs kind disk found store → disk.faults ≤ store.disk.faults
opened-later Position disk found store is = let well = (is.0).well in omega (arith, well)
opened-later (Buffer capacity) disk found store is = let well = is.well in omega (arith, well)

by-faults : (disk : DiskState) (first now : StoreState) → first.failed ≡ false → first.disk.faults ≡ disk.faults → StoreGoesOn first now → FailsByFaults now.failed disk now.disk
by-faults disk first now works well goes = record {
  works = λ works. goes.works works ∙ well;
  fails = λ fails. subst (λ (n : ℕ). Rose n now.disk.faults) well (goes.broke works fails);
}

-- from an opening on
pub opened-by-faults : (kind : StoreKind) (disk : DiskState) (found : BufferEntries) (first now : StoreState) → IsOpenedAs kind disk found first → StoreGoesOn first now → FailsByFaults now.failed disk now.disk
opened-by-faults Position disk found first now is goes = by-faults disk first now (is.0).works (is.0).well goes
opened-by-faults (Buffer capacity) disk found first now is goes = by-faults disk first now is.works is.well goes

pub all-by-faults : (kinds : List StoreKind) (disks : List DiskState) (founds : List BufferEntries) (first now : List StoreState) → length kinds ≡ length disks → AreOpened kinds disks founds first → AllGo first now → AllFailByFaults disks now
all-by-faults kinds disks founds first now many are goes s disk store at_disk at_store =
    let low = slice_get-below disks s disk at_disk in
    let kind = slice_get-some kinds s (omega (arith, low, many)) in
    let found = slice_get-some founds s (let n = are.looked in omega (arith, low, n)) in
    let was = slice_get-some first s (let n = are.count in omega (arith, low, n)) in
    opened-by-faults kind.0 disk found.0 was.0 store (are.each s kind.0 disk found.0 was.0 kind.1 at_disk found.1 was.1) (goes.each s was.0 store was.1 at_store)

opened-store : (kind : StoreKind) (disk : DiskState) (found : BufferEntries) (store : StoreState) → IsOpenedAs kind disk found store → WhereTold (content disk) (IsStore kind)
opened-store Position disk found store is = λ b told. (store.position, (is.0).position b told)
opened-store (Buffer capacity) disk found store is = λ b told. (_, is.told b told)

-- All are looked through.

-- so many disks were opened and looked through, and these are left
pub record IsLooking (kinds : List StoreKind) (all : List DiskState) (founds : List BufferEntries) (held : List StoreState) (rest : List DiskState) : Type 0 where
  pub split : rest ≡ drop (length held) all
  pub many : length founds ≡ length held
  pub count : length held + length rest ≡ length all
  pub looked : (s : ℕ) (kind : StoreKind) (disk : DiskState) (found : BufferEntries) (store : StoreState) → slice_get kinds s ≡ Some kind → slice_get all s ≡ Some disk
      → slice_get founds s ≡ Some found → slice_get held s ≡ Some store → IsLookedAs kind disk found store

pub looking-none : (kinds : List StoreKind) (all : List DiskState) → IsLooking kinds all [] [] all
looking-none kinds all = record {
  split = refl;
  many = refl;
  count = omega arith;
  looked = λ s kind disk found store k d f h. absurd (let wrong : None ≡ Some store = h in cc);
}

first-at : (all rest : List DiskState) (n : ℕ) (disk : DiskState) → disk ∷ rest ≡ drop n all → slice_get all n ≡ Some disk
first-at all rest n disk split = let e : n ≡ n + 0 = omega arith in ap (slice_get all) e ∙ get-drop n all 0 ∙ ap (λ (l : List DiskState). slice_get l 0) (sym split)

pub looking-more : (kinds : List StoreKind) (all : List DiskState) (founds : List BufferEntries) (held : List StoreState) (disk : DiskState) (rest : List DiskState) (kind : StoreKind) (found : BufferEntries) (store : StoreState)
    → IsLooking kinds all founds held (disk ∷ rest) → slice_get kinds (length held) ≡ Some kind → IsLookedAs kind disk found store → IsLooking kinds all (founds ++ found ∷ []) (held ++ store ∷ []) rest
looking-more kinds all founds held disk rest kind found store l is look =
    let n = length_push held store in
    record {
      split = ap (drop 1) l.split ∙ drop-drop 1 (length held) all ∙ ap (λ m. drop m all) (sym n);
      many = (let m = length_push founds found in let e = l.many in omega (arith, m, n, e));
      count = (let c = l.count in omega (arith, n, c));
      looked = λ s kind0 disk0 found0 store0 k d f h. elim (get-push held store s store0 h) [
        | inl p ↦ elim (get-push founds found s found0 f) [
          | inl q ↦ l.looked s kind0 disk0 found0 store0 k d q.1 p.1
          | inr q ↦ absurd (let e = l.many in let a = p.0 in let b = q.0 in omega (arith, a, b, e))
        ]
        | inr p ↦ elim (get-push founds found s found0 f) [
          | inl q ↦ absurd (let e = l.many in let a = p.0 in let b = q.0 in omega (arith, a, b, e))
          | inr q ↦
              let same_kind : kind ≡ kind0 = some-same kind kind0 (sym is ∙ ap (slice_get kinds) (sym p.0) ∙ k) in
              let same_disk : disk ≡ disk0 = some-same disk disk0 (sym (first-at all rest (length held) disk l.split) ∙ ap (slice_get all) (sym p.0) ∙ d) in
              subst (λ (x : StoreKind). IsLookedAs x disk0 found0 store0) same_kind (subst (λ (x : DiskState). IsLookedAs kind x found0 store0) same_disk
              (subst (λ (x : BufferEntries). IsLookedAs kind disk x store0) (sym q.1) (subst (λ (x : StoreState). IsLookedAs kind disk found x) (sym p.1) look)))
        ]
      ];
    }

pub looking-done : (kinds : List StoreKind) (all : List DiskState) (founds : List BufferEntries) (held : List StoreState) → length kinds ≡ length all → IsLooking kinds all founds held [] → AreOpening 0 kinds all founds held
looking-done kinds all founds held known l = record {
  many = (let c = l.count in omega (arith, c));
  looked = (let c = l.count in let m = l.many in omega (arith, c, m));
  known = known;
  opened = λ s kind disk found store none k d f h. absurd (omega (arith, none));
  left = λ s kind disk found store any k d f h. l.looked s kind disk found store k d f h;
}

found-at : (kinds : List StoreKind) (all : List DiskState) (founds : List BufferEntries) (held : List StoreState) (rest : List DiskState) (s : ℕ) → IsLooking kinds all founds held rest → s < length held → (found : BufferEntries) × (slice_get founds s ≡ Some found)
found-at kinds all founds held rest s l low = slice_get-some founds s (let m = l.many in omega (arith, low, m))

-- the disks behind stay
rest-same : (all rest : List DiskState) (held : List StoreState) (disk : DiskState) (s j : ℕ) (old new : DiskState) → disk ∷ rest ≡ drop (length held) all → s ≡ length held + suc j → slice_get all s ≡ Some old → slice_get rest j ≡ Some new → old ≡ new
rest-same all rest held disk s j old new split at o n =
    let there : slice_get all s ≡ slice_get rest j = ap (slice_get all) at ∙ get-drop (length held) all (suc j) ∙ ap (λ (l : List DiskState). slice_get l (suc j)) (sym split) in
    some-same old new (sym o ∙ there ∙ n)

kind-at : (kinds : List StoreKind) (n : ℕ) (kind : StoreKind) (s : ℕ) → slice_get kinds n ≡ Some kind → s < n → (k : StoreKind) × (slice_get kinds s ≡ Some k)
kind-at kinds n kind s is low = slice_get-some kinds s (let b = slice_get-below kinds n kind is in omega (arith, b, low))

look-reason : (kinds : List StoreKind) (all news : List DiskState) (s : ℕ) (kind : StoreKind) (disk new : DiskState) (refusal : StoreRefusal) → slice_get kinds s ≡ Some kind → slice_get all s ≡ Some disk → slice_get news s ≡ Some new
    → OpenReason kind disk new refusal → AreStoresBefore s kinds all → HasOpeningReason kinds all news (refusal_of s refusal)
look-reason kinds all news s kind disk new (Damage at) k d n why before = record { kind = kind; disk = disk; is_kind = k; is_disk = d; damaged = why; before = before }
look-reason kinds all news s kind disk new DiskFault k d n why before = record { old = disk; new = new; was = d; now = n; rose = why; before = before }
look-reason kinds all news s kind disk new NoMemory k d n why before = tt

-- the store behind those that were looked through is refused
pub looking-refused : (kinds : List StoreKind) (all : List DiskState) (founds : List BufferEntries) (held : List StoreState) (disk new : DiskState) (rest : List DiskState) (kind : StoreKind) (refusal : StoreRefusal)
    → IsLooking kinds all founds held (disk ∷ rest) → slice_get kinds (length held) ≡ Some kind → IsUnlooked kind disk new refusal → AreStoresRefused kinds all (map (λ (s : StoreState). s.disk) held ++ new ∷ rest) (refusal_of (length held) refusal)
looking-refused kinds all founds held disk new rest kind refusal l is un =
    let long = length-map held (λ (s : StoreState). s.disk) in
    let at = first-at all rest (length held) disk l.split in
    let before : AreStoresBefore (length held) kinds all = λ s kind0 disk0 low k d.
    let f = found-at kinds all founds held (disk ∷ rest) s l low in
    let h = slice_get-some held s low in
    looked-store kind0 disk0 f.0 h.0 (l.looked s kind0 disk0 f.0 h.0 k d f.1 h.1) in
    record {
      preserved = record {
        count = (let a = length-append (map (λ (s : StoreState). s.disk) held) (new ∷ rest) in let c = l.count in omega (arith, a, long, c));
        keeps = λ s kind0 old0 new0 k o n. elim (get-between (map (λ (s : StoreState). s.disk) held) rest new s new0 n) [
          | inl p ↦
              let h = get-map (λ (s : StoreState). s.disk) held s new0 p.1 in
              let f = found-at kinds all founds held (disk ∷ rest) s l (let a = p.0 in omega (arith, a, long)) in
              subst (KeepsImages kind0 old0) (sym h.2) (looked-keeps kind0 old0 f.0 h.0 (l.looked s kind0 old0 f.0 h.0 k o f.1 h.1))
          | inr q ↦ elim q [
            | inl p ↦
                let e : s ≡ length held = p.0 ∙ long in
                let same_kind : kind ≡ kind0 = some-same kind kind0 (sym is ∙ ap (slice_get kinds) (sym e) ∙ k) in
                let same_disk : disk ≡ old0 = some-same disk old0 (sym at ∙ ap (slice_get all) (sym e) ∙ o) in
                subst (KeepsImages kind0 old0) (sym p.1) (subst (λ (x : DiskState). KeepsImages kind0 x new) same_disk (subst (λ (x : StoreKind). KeepsImages x disk new) same_kind (rests-keeps kind disk new un.rests)))
            | inr p ↦ subst (KeepsImages kind0 old0) (rest-same all rest held disk s p.0 old0 new0 l.split (p.1 ∙ ap (λ m. m + suc p.0) long) o p.2) (keeps-same kind0 old0)
          ]
        ];
        later = λ s old0 new0 o n. elim (get-between (map (λ (s : StoreState). s.disk) held) rest new s new0 n) [
          | inl p ↦
              let h = get-map (λ (s : StoreState). s.disk) held s new0 p.1 in
              let low : s < length held = let a = p.0 in omega (arith, a, long) in
              let f = found-at kinds all founds held (disk ∷ rest) s l low in
              let kind0 = kind-at kinds (length held) kind s is low in
              subst (λ (x : DiskState). old0.faults ≤ x.faults) (sym h.2) (looked-later kind0.0 old0 f.0 h.0 (l.looked s kind0.0 old0 f.0 h.0 kind0.1 o f.1 h.1))
          | inr q ↦ elim q [
            | inl p ↦
                let e : s ≡ length held = p.0 ∙ long in
                let same_disk : disk ≡ old0 = some-same disk old0 (sym at ∙ ap (slice_get all) (sym e) ∙ o) in
                subst (λ (x : DiskState). old0.faults ≤ x.faults) (sym p.1) (subst (λ (x : DiskState). x.faults ≤ new.faults) same_disk un.later)
            | inr p ↦ subst (λ (x : DiskState). old0.faults ≤ x.faults) (rest-same all rest held disk s p.0 old0 new0 l.split (p.1 ∙ ap (λ m. m + suc p.0) long) o p.2) (omega arith)
          ]
        ];
      };
      reason = look-reason kinds all (map (λ (s : StoreState). s.disk) held ++ new ∷ rest) (length held) kind disk new refusal is at
          (ap (slice_get (map (λ (s : StoreState). s.disk) held ++ new ∷ rest)) (sym long) ∙ get-middle (map (λ (s : StoreState). s.disk) held) rest new) un.reason before;
    }

-- no memory was left, and the disks are as they were
pub refused-memory : (kinds : List StoreKind) (disks : List DiskState) → AreStoresRefused kinds disks disks CoreMemory
refused-memory kinds disks = record {
  preserved = record {
    count = refl;
    keeps = λ s kind old new k o n. subst (KeepsImages kind old) (some-same old new (sym o ∙ n)) (keeps-same kind old);
    later = λ s old new o n. subst (λ (x : DiskState). old.faults ≤ x.faults) (some-same old new (sym o ∙ n)) (omega arith);
  };
  reason = tt;
}

-- Older entries are spelled anew.

pub all-ready : (kinds : List StoreKind) (disks : List DiskState) (founds : List BufferEntries) (stores : List StoreState) → AreOpening 0 kinds disks founds stores → CanRenewAll stores
all-ready kinds disks founds stores o s store h =
    let low = slice_get-below stores s store h in
    let k = slice_get-some kinds s (let a = o.many in let b = o.known in omega (arith, low, a, b)) in
    let d = slice_get-some disks s (let a = o.many in omega (arith, low, a)) in
    let f = slice_get-some founds s (let a = o.many in let b = o.looked in omega (arith, low, a, b)) in
    looked-ready k.0 d.0 f.0 store (o.left s k.0 d.0 f.0 store (omega arith) k.1 d.1 f.1 h)

module _ (k : ℕ) (kinds : List StoreKind) (disks : List DiskState) (founds : List BufferEntries) (olds news : List StoreState) (found : BufferEntries) (o : AreOpening k kinds disks founds olds) (there : slice_get founds k ≡ Some found) where
  pub renewing-more : (done : Unit) → RenewsAt olds news k found (Ok done) → AreOpening (k + 1) kinds disks founds news
  renewing-more done r = record {
    many = ap length r.others ∙ length-change olds k (λ _. r.new) ∙ o.many;
    looked = o.looked;
    known = o.known;
    opened = λ s kind disk found0 store low is d f h. elim (get-changed olds k s r.new store (ap (λ l. slice_get l s) (sym r.others) ∙ h)) [
      | inl p ↦
          let same : found ≡ found0 = some-same found found0 (sym there ∙ ap (slice_get founds) (sym p.0) ∙ f) in
          let look = o.left s kind disk found0 r.old (let e = p.0 in omega (arith, e)) is d f (ap (slice_get olds) p.0 ∙ r.was) in
          subst (IsOpenedAs kind disk found0) (sym p.1) (subst (λ (x : BufferEntries). IsOpenedAs kind disk x r.new) same (r.renews kind disk (subst (λ (x : BufferEntries). IsLookedAs kind disk x r.old) (sym same) look)))
      | inr p ↦ o.opened s kind disk found0 store (let ne = p.0 in grind (arith, low, ne)) is d f p.1
    ];
    left = λ s kind disk found0 store high is d f h. elim (get-changed olds k s r.new store (ap (λ l. slice_get l s) (sym r.others) ∙ h)) [
      | inl p ↦ absurd (let e = p.0 in omega (arith, e, high))
      | inr p ↦ o.left s kind disk found0 store (omega (arith, high)) is d f p.1
    ];
  }

  -- one is refused
  module _ (refusal : StoreRefusal) (r : RenewsAt olds news k found (Err refusal)) where
    renew-store : (s : ℕ) (kind : StoreKind) (disk : DiskState) (store : StoreState) → slice_get kinds s ≡ Some kind → slice_get disks s ≡ Some disk → slice_get olds s ≡ Some store
        → KeepsImages kind disk store.disk × (disk.faults ≤ store.disk.faults) × WhereTold (content disk) (IsStore kind)
    renew-store s kind disk store is d h =
        let f = slice_get-some founds s (let b = slice_get-below disks s disk d in let e = o.looked in omega (arith, b, e)) in
        elim (cases_lt s k) [
          | inl low ↦ let one = o.opened s kind disk f.0 store low is d f.1 h in (opened-keeps kind disk f.0 store one, opened-later kind disk f.0 store one, opened-store kind disk f.0 store one)
          | inr high ↦ let one = o.left s kind disk f.0 store high is d f.1 h in (looked-keeps kind disk f.0 store one, looked-later kind disk f.0 store one, looked-store kind disk f.0 store one)
        ]

    renew-at : (kind : StoreKind) (disk : DiskState) → slice_get kinds k ≡ Some kind → slice_get disks k ≡ Some disk → IsUnrenewed kind disk r.new.disk refusal
    renew-at kind disk is d = r.renews kind disk (o.left k kind disk found r.old (omega arith) is d there r.was)

    renew-any : (s : ℕ) (kind : StoreKind) (disk new : DiskState) → slice_get kinds s ≡ Some kind → slice_get disks s ≡ Some disk → slice_get (map (λ (s : StoreState). s.disk) news) s ≡ Some new → KeepsImages kind disk new × (disk.faults ≤ new.faults)
    renew-any s kind disk new is d n =
        let h = get-map (λ (s : StoreState). s.disk) news s new n in
        subst (λ (x : DiskState). KeepsImages kind disk x × (disk.faults ≤ x.faults)) (sym h.2) (elim (get-changed olds k s r.new h.0 (ap (λ l. slice_get l s) (sym r.others) ∙ h.1)) [
          | inl p ↦
              let un = renew-at kind disk (ap (slice_get kinds) (sym p.0) ∙ is) (ap (slice_get disks) (sym p.0) ∙ d) in
              subst (λ (x : StoreState). KeepsImages kind disk x.disk × (disk.faults ≤ x.disk.faults)) (sym p.1) (un.keeps, un.later)
          | inr p ↦ let one = renew-store s kind disk h.0 is d p.1 in (one.0, one.1)
        ])

    renew-reason : (kind : StoreKind) (disk : DiskState) (e : StoreRefusal) → slice_get kinds k ≡ Some kind → slice_get disks k ≡ Some disk → RenewReason disk r.new.disk e → AreStoresBefore k kinds disks → HasOpeningReason kinds disks (map (λ (s : StoreState). s.disk) news) (refusal_of k e)
    renew-reason kind disk (Damage at) is d why before = record { kind = kind; disk = disk; is_kind = is; is_disk = d; damaged = λ b told. absurd (why b told); before = before }
    renew-reason kind disk DiskFault is d why before = record {
      old = disk;
      new = r.new.disk;
      was = d;
      now = slice_get-map (λ (s : StoreState). s.disk) news k r.new (ap (λ l. slice_get l k) r.others ∙ get-change-same olds k (λ _. r.new) r.old r.was);
      rose = why;
      before = before;
    }
    renew-reason kind disk NoMemory is d why before = tt

    pub renewing-refused : AreStoresRefused kinds disks (map (λ (s : StoreState). s.disk) news) (refusal_of k refusal)
    renewing-refused =
        let low = slice_get-below olds k r.old r.was in
        let kind = slice_get-some kinds k (let a = o.many in let b = o.known in omega (arith, low, a, b)) in
        let disk = slice_get-some disks k (let a = o.many in omega (arith, low, a)) in
        record {
          preserved = record {
            count = length-map news (λ (s : StoreState). s.disk) ∙ ap length r.others ∙ length-change olds k (λ _. r.new) ∙ o.many;
            keeps = λ s kind0 old0 new0 is d n. (renew-any s kind0 old0 new0 is d n).0;
            later = λ s old0 new0 d n.
                let kind0 = slice_get-some kinds s (let b = slice_get-below disks s old0 d in let e = o.known in omega (arith, b, e)) in
                (renew-any s kind0.0 old0 new0 kind0.1 d n).1;
          };
          reason = renew-reason kind.0 disk.0 refusal kind.1 disk.1 (renew-at kind.0 disk.0 kind.1 disk.1).reason
              (λ s kind0 disk0 before is d.
              let h = slice_get-some olds s (let b = slice_get-below disks s disk0 d in let e = o.many in omega (arith, b, e)) in
              (renew-store s kind0 disk0 h.0 is d h.1).2);
        }

pub renewing-done : (k : ℕ) (kinds : List StoreKind) (disks : List DiskState) (founds : List BufferEntries) (stores : List StoreState) → length stores ≤ k → AreOpening k kinds disks founds stores → AreOpened kinds disks founds stores
renewing-done k kinds disks founds stores all o = record {
  count = o.many;
  looked = o.looked;
  each = λ s kind disk found store is d f h. o.opened s kind disk found store (let b = slice_get-below stores s store h in omega (arith, b, all)) is d f h;
}

-- the others can be spelled anew still
pub ready-more : (k : ℕ) (found : BufferEntries) (done : Unit) (olds news : List StoreState) → RenewsAt olds news k found (Ok done) → ((s : ℕ) (store : StoreState) → k ≤ s → slice_get olds s ≡ Some store → CanRenew (Some store))
    → (s : ℕ) (store : StoreState) → k + 1 ≤ s → slice_get news s ≡ Some store → CanRenew (Some store)
ready-more k found done olds news r ready s store high h = elim (get-changed olds k s r.new store (ap (λ l. slice_get l s) (sym r.others) ∙ h)) [
  | inl p ↦ absurd (let e = p.0 in omega (arith, e, high))
  | inr p ↦ ready s store (omega (arith, high)) p.1
]
