-- Lemmas on lists of devices.
use Rattle.std.proofs.Common.{◌≡◌, ◌≤◌, ℕ, ◌+◌, List, [], ◌∷◌, ◌++◌, length, map, drop, Some, None, Option, append_assoc, refl, sym, ap, ◌∙◌, ◌⊎◌, arith, slice_get, subst, zero, suc, inl, inr}
use Rattle.std.proofs.lemmas.List.{append-nil, length-append, map-append}
use Rattle.sg_device.specs.Disk.{DiskState}
use Rattle.sg_device.specs.Faults.{Rose}
use Rattle.sg_device.specs.Inlet.{InletState}
use Rattle.sg_outside.specs.World.{WorldState, Opened, Ledger, StandsNamed, StoreOpens, ClosesStore, ClosesInlet}
use Rattle.sg_outside.specs.declared.request.InletSpec.{InletSpec}
use Rattle.sg_outside.specs.declared.request.StoreSpec.{StoreSpec}
use Rattle.sg_list.proofs.ListLemmas.{some-same}
use Rattle.sg_serve.specs.Devices.{opened_for, with_all_opened, with_all_closed, AreStoresNamed, OpensStores, OpensInlets, ClosesStores, ClosesInlets}

pub rose-wider : (a b c d : ℕ) → a ≤ b → Rose b c → c ≤ d → Rose a d
rose-wider a b c d h r k = grind (arith, h, r, k)

-- Ledgers.

pub opened-none : {P S : Type 0} (ledger : Ledger P S) → with_all_opened ledger [] ≡ ledger
opened-none ledger = ap (λ os. record { opened = os; closed = ledger.closed }) (append-nil ledger.opened)

pub opened-two : {P S : Type 0} (ledger : Ledger P S) (os more : List (Opened P S)) → with_all_opened (with_all_opened ledger os) more ≡ with_all_opened ledger (os ++ more)
opened-two ledger os more = ap (λ xs. record { opened = xs; closed = ledger.closed }) (append_assoc ledger.opened os more)

pub closed-none : {P S : Type 0} (ledger : Ledger P S) → with_all_closed ledger [] ≡ ledger
closed-none ledger = ap (λ ss. record { opened = ledger.opened; closed = ss }) (append-nil ledger.closed)

-- these devices, opened on the first of the requests, and more on those behind them
pub opened-join : {P S : Type 0} (specs : List P) (states more : List S) → opened_for specs (states ++ more) ≡ opened_for specs states ++ opened_for (drop (length states) specs) more
opened-join specs [] more = refl
opened-join [] (s ∷ ss) [] = refl
opened-join [] (s ∷ ss) (m ∷ ms) = refl
opened-join (p ∷ ps) (s ∷ ss) more = ap (λ os. (record { spec = p; state = s }) ∷ os) (opened-join ps ss more)

-- one request is that at its place, and no more than one device is opened on it
pub opened-one : {P S : Type 0} (specs : List P) (n : ℕ) (spec : P) (more : List S) → slice_get specs n ≡ Some spec → length more ≤ 1
    → opened_for (drop n specs) more ≡ opened_for (spec ∷ []) more
opened-one [] n spec more h few = let wrong : None ≡ Some spec = h in cc
opened-one (p ∷ ps) n spec [] h few = refl
opened-one (p ∷ ps) zero spec (m ∷ []) h few = ap (λ q. (record { spec = q; state = m }) ∷ []) (some-same p spec h)
opened-one (p ∷ ps) zero spec (m ∷ k ∷ ms) h few = absurd (omega (arith, few))
opened-one (p ∷ ps) (suc n) spec (m ∷ ms) h few = opened-one ps n spec (m ∷ ms) h few

pub opened-next : {P S : Type 0} (specs : List P) (states : List S) (spec : P) (more : List S) → slice_get specs (length states) ≡ Some spec → length more ≤ 1
    → opened_for specs (states ++ more) ≡ opened_for specs states ++ opened_for (spec ∷ []) more
opened-next specs states spec more h few = opened-join specs states more ∙ ap (λ os. opened_for specs states ++ os) (opened-one specs (length states) spec more h few)

pub below : {A : Type 0} (xs : List A) (n : ℕ) (x : A) → slice_get xs n ≡ Some x → n + 1 ≤ length xs
below [] n x h = let wrong : None ≡ Some x = h in cc
below (y ∷ ys) zero x h = omega arith
below (y ∷ ys) (suc n) x h = omega (arith, below ys n x h)

-- Stores.

pub stores-none : (w : WorldState) (specs : List StoreSpec) → OpensStores w w specs []
stores-none w specs = record { count = omega arith; state = ap (λ l. record w { stores = l }) (sym (opened-none w.stores)); faults = omega arith; named = refl }

-- Inlets.

pub inlets-none : (w : WorldState) (specs : List InletSpec) → OpensInlets w w specs []
inlets-none w specs = record { count = omega arith; state = ap (λ l. record w { inlets = l }) (sym (opened-none w.inlets)); faults = omega arith }

pub inlets-kept : (old new : WorldState) (specs : List InletSpec) → new ≡ record old { inlet_faults = new.inlet_faults } → old.inlet_faults ≤ new.inlet_faults → OpensInlets old new specs []
inlets-kept old new specs state faults = record { count = omega arith; state = state ∙ ap (λ l. record old { inlet_faults = new.inlet_faults; inlets = l }) (sym (opened-none old.inlets)); faults = faults }

pub inlets-more : (old mid new : WorldState) (specs : List InletSpec) (feeds : List InletState) (spec : InletSpec) (more : List InletState)
    → OpensInlets old mid specs feeds → slice_get specs (length feeds) ≡ Some spec → OpensInlets mid new (spec ∷ []) more → OpensInlets old new specs (feeds ++ more)
inlets-more old mid new specs feeds spec more a at b =
    let few : length more ≤ 1 = b.count in
    let low = below specs (length feeds) spec at in
    let join = opened-next specs feeds spec more at few in
    record {
      count = (let n = length-append feeds more in omega (arith, n, few, low));
      state = b.state
          ∙ ap (λ (m : WorldState). record m { inlet_faults = new.inlet_faults; inlets = with_all_opened m.inlets (opened_for (spec ∷ []) more) }) a.state
          ∙ ap (λ l. record old { inlet_faults = new.inlet_faults; inlets = l }) (opened-two old.inlets (opened_for specs feeds) (opened_for (spec ∷ []) more))
          ∙ ap (λ os. record old { inlet_faults = new.inlet_faults; inlets = with_all_opened old.inlets os }) (sym join);
      faults = (let f = a.faults in let g = b.faults in omega (arith, f, g));
    }

named-more : (before : Option (List (List ℕ))) (os : List (Opened StoreSpec DiskState)) (mid after : Option (List (List ℕ))) (spec : StoreSpec) (disk : DiskState) → AreStoresNamed before os mid → StandsNamed mid spec disk after
    → AreStoresNamed before (os ++ (record { spec = spec; state = disk }) ∷ []) after
named-more before [] mid after spec disk h s = (after, subst (λ b. StandsNamed b spec disk after) h s, refl)
named-more before (o ∷ os) mid after spec disk h s = (h.0, h.1, named-more h.0 os mid after spec disk h.2 s)

pub stores-more : (old mid new : WorldState) (specs : List StoreSpec) (disks : List DiskState) (spec : StoreSpec) (disk : DiskState)
    → OpensStores old mid specs disks → slice_get specs (length disks) ≡ Some spec → StoreOpens mid new spec disk → OpensStores old new specs (disks ++ disk ∷ [])
stores-more old mid new specs disks spec disk a at b =
    let one : length (disk ∷ []) ≤ 1 = omega arith in
    let low = below specs (length disks) spec at in
    let join = opened-next specs disks spec (disk ∷ []) at one in
    record {
      count = (let n = length-append disks (disk ∷ []) in omega (arith, n, low));
      state = b.0
          ∙ ap (λ (m : WorldState). record m { store_faults = new.store_faults; store_names = new.store_names; stores = with_all_opened m.stores (opened_for (spec ∷ []) (disk ∷ [])) }) a.state
          ∙ ap (λ l. record old { store_faults = new.store_faults; store_names = new.store_names; stores = l }) (opened-two old.stores (opened_for specs disks) (opened_for (spec ∷ []) (disk ∷ [])))
          ∙ ap (λ os. record old { store_faults = new.store_faults; store_names = new.store_names; stores = with_all_opened old.stores os }) (sym join);
      faults = (let f = a.faults in let g = b.1 in omega (arith, f, g));
      named = subst (λ os. AreStoresNamed old.store_names os new.store_names) (sym join) (named-more old.store_names (opened_for specs disks) mid.store_names new.store_names spec disk a.named b.2);
    }

pub stores-kept : (old mid new : WorldState) (specs : List StoreSpec) (disks : List DiskState) → OpensStores old mid specs disks → new ≡ record mid { store_faults = new.store_faults } → mid.store_faults ≤ new.store_faults
    → OpensStores old new specs disks
stores-kept old mid new specs disks a state faults =
    let store_names : mid.store_names ≡ new.store_names = grind (arith, state) in
    record {
      count = a.count;
      state = state ∙ ap (λ (m : WorldState). record m { store_faults = new.store_faults }) a.state
          ∙ ap (λ s. record old { store_faults = new.store_faults; store_names = s; stores = with_all_opened old.stores (opened_for specs disks) }) store_names;
      faults = (let f = a.faults in omega (arith, f, faults));
      named = subst (λ s. AreStoresNamed old.store_names (opened_for specs disks) s) store_names a.named;
    }

-- Closings.

pub closed-join : {P S : Type 0} (ledger : Ledger P S) (states more : List S) → with_all_closed (with_all_closed ledger states) more ≡ with_all_closed ledger (states ++ more)
closed-join ledger states more = ap (λ ss. record { opened = ledger.opened; closed = ss }) (append_assoc ledger.closed states more)

pub closes-no-store : (w : WorldState) → ClosesStores w w []
closes-no-store w = ap (λ l. record w { stores = l }) (sym (closed-none w.stores))

pub closes-stores : (old mid new : WorldState) (disk : DiskState) (disks : List DiskState) → ClosesStore old mid disk → ClosesStores mid new disks → ClosesStores old new (disk ∷ disks)
closes-stores old mid new disk disks a b = let join = closed-join old.stores (disk ∷ []) disks in grind (arith, a, b, join)

pub closes-no-inlet : (w : WorldState) → ClosesInlets w w []
closes-no-inlet w = ap (λ l. record w { inlets = l }) (sym (closed-none w.inlets))

pub closes-inlets : (old mid new : WorldState) (feed : InletState) (feeds : List InletState) → ClosesInlet old mid feed → ClosesInlets mid new feeds → ClosesInlets old new (feed ∷ feeds)
closes-inlets old mid new feed feeds a b = let join = closed-join old.inlets (feed ∷ []) feeds in grind (arith, a, b, join)

pub closes-inlets-last : (old mid new : WorldState) (feeds : List InletState) (feed : InletState) → ClosesInlets old mid feeds → ClosesInlet mid new feed → ClosesInlets old new (feeds ++ feed ∷ [])
closes-inlets-last old mid new feeds feed a b = let join = closed-join old.inlets feeds (feed ∷ []) in grind (arith, a, b, join)

-- Lists that are gone over.

pub drop-head : {A : Type 0} (n : ℕ) (xs : List A) (x : A) (ys : List A) → drop n xs ≡ x ∷ ys → slice_get xs n ≡ Some x
drop-head zero [] x ys h = let wrong : [] ≡ x ∷ ys = h in cc
drop-head (suc n) [] x ys h = let wrong : [] ≡ x ∷ ys = h in cc
drop-head zero (z ∷ zs) x ys h = let e : z ∷ zs ≡ x ∷ ys = h in cc
drop-head (suc n) (z ∷ zs) x ys h = drop-head n zs x ys h

pub drop-tail : {A : Type 0} (n : ℕ) (xs : List A) (x : A) (ys : List A) → drop n xs ≡ x ∷ ys → drop (n + 1) xs ≡ ys
drop-tail zero [] x ys h = let wrong : [] ≡ x ∷ ys = h in cc
drop-tail (suc n) [] x ys h = let wrong : [] ≡ x ∷ ys = h in cc
drop-tail zero (z ∷ zs) x ys h = let e : z ∷ zs ≡ x ∷ ys = h in cc
drop-tail (suc n) (z ∷ zs) x ys h = let e : suc n + 1 ≡ suc (n + 1) = omega arith in ap (λ k. drop k (z ∷ zs)) e ∙ drop-tail n zs x ys h

pub get-push : {A : Type 0} (xs : List A) (x : A) (k : ℕ) (y : A) → slice_get (xs ++ x ∷ []) k ≡ Some y → (slice_get xs k ≡ Some y) ⊎ ((k ≡ length xs) × (y ≡ x))
get-push [] x zero y h = inr (refl, sym (some-same x y h))
get-push [] x (suc k) y h = absurd (let wrong : None ≡ Some y = h in cc)
get-push (z ∷ xs) x zero y h = inl h
get-push (z ∷ xs) x (suc k) y h = elim (get-push xs x k y h) [
  | inl p ↦ inl p
  | inr p ↦ inr (ap suc p.0, p.1)
]

pub map-push : {A B : Type 0} (f : A → B) (xs : List A) (x : A) → map f (xs ++ x ∷ []) ≡ map f xs ++ f x ∷ []
map-push f xs x = map-append f xs (x ∷ [])
