-- The state that a run begins with.
use Rattle.std.proofs.Common.{◌≡◌, ℕ, suc, zero, List, [], ◌∷◌, length, map, Some, None, Option, Bool, true, false, refl, sym, ap, ◌∙◌, subst, arith, inl, inr, ◌⊎◌, if◌then◌else◌, slice_get}
use Rattle.std.specs.Prelude.{Contains, is_some}
use Rattle.sg_list.proofs.ListLemmas.{slice_get-some, slice_get-below, some-same}
use Rattle.sg_machine.specs.declared.setup.BufferSetup.{BufferSetup}
use Rattle.sg_machine.specs.declared.setup.DestSetup.{DestSetup}
use Rattle.sg_machine.specs.declared.setup.Setup.{Setup}
use Rattle.sg_machine.specs.declared.setup.SourceSetup.{SourceSetup}
use Rattle.sg_machine.specs.declared.state.Dest.{Dest}
use Rattle.sg_machine.specs.Runs.{BufferedEntry, Opening, recovered, opened_inlet, opened_inlets, opened_dest, opened_dests, opened}
use Rattle.sg_machine.specs.Counts.{as_kept, kept_of}
use Rattle.sg_machine.specs.Safe.{Images}
use Rattle.sg_laws.specs.Covered.{listed, list_at}
use Rattle.sg_laws.specs.Passes.{BeginsWithImages}
use Rattle.sg_laws.proofs.HasLemmas.{has-nil}
use Rattle.sg_laws.proofs.EntryLemmas.{ListHolds, StateHolds}
use Rattle.sg_laws.proofs.LeftLemmas.{AllEarlier, DestsEarlier}

pub opened-inlet-at : (ss : List SourceSetup) (ps : List ℕ) (i : ℕ) (source : SourceSetup) (p : ℕ) → slice_get ss i ≡ Some source → slice_get ps i ≡ Some p → slice_get (opened_inlets ss ps) i ≡ Some (opened_inlet source p)
opened-inlet-at [] ps i source p h g = let wrong : None ≡ Some source = h in cc
opened-inlet-at (s ∷ ss) [] i source p h g = let wrong : None ≡ Some p = g in cc
opened-inlet-at (s ∷ ss) (q ∷ ps) zero source p h g =
    let a = some-same s source h in
    let b = some-same q p g in
    ap (λ (x : SourceSetup). Some (opened_inlet x q)) a ∙ ap (λ (x : ℕ). Some (opened_inlet source x)) b
opened-inlet-at (s ∷ ss) (q ∷ ps) (suc i) source p h g = opened-inlet-at ss ps i source p h g

-- a destination begins with the entries of its opening, or with none
pub record OpensDest (ss : List DestSetup) (ks : List (List BufferedEntry)) (d : ℕ) (s : DestSetup) : Type 0 where
  pub list : List BufferedEntry
  pub at : slice_get (opened_dests ss ks) d ≡ Some (opened_dest s list)
  pub is : (l : List BufferedEntry) → slice_get ks d ≡ Some l → l ≡ list
  pub from : (list ≡ []) ⊎ (slice_get ks d ≡ Some list)

pub opens-dest : (ss : List DestSetup) (ks : List (List BufferedEntry)) (d : ℕ) (s : DestSetup) → slice_get ss d ≡ Some s → OpensDest ss ks d s
opens-dest [] ks d s h = let wrong : None ≡ Some s = h in cc
opens-dest (x ∷ ss) [] zero s h = record {
  list = [];
  at = ap (λ (y : DestSetup). Some (opened_dest y [])) (some-same x s h);
  is = λ l g. (let wrong : None ≡ Some l = g in cc);
  from = inl refl;
}
opens-dest (x ∷ ss) (k ∷ ks) zero s h = record {
  list = k;
  at = ap (λ (y : DestSetup). Some (opened_dest y k)) (some-same x s h);
  is = λ l g. sym (some-same k l g);
  from = inr refl;
}
opens-dest (x ∷ ss) [] (suc d) s h =
    let r = opens-dest ss [] d s h in
    record { list = r.list; at = r.at; is = λ l g. (let wrong : None ≡ Some l = g in cc); from = inl (elim r.from [ inl e ↦ e | inr g ↦ (let wrong : None ≡ Some r.list = g in cc) ]) }
opens-dest (x ∷ ss) (k ∷ ks) (suc d) s h = let r = opens-dest ss ks d s h in record { list = r.list; at = r.at; is = r.is; from = r.from }

kept-recovered : (ks : List BufferedEntry) → map as_kept (map recovered ks) ≡ ks
kept-recovered [] = refl
kept-recovered (k ∷ ks) = ap (λ (xs : List BufferedEntry). k ∷ xs) (kept-recovered ks)

pub kept-opened : (s : DestSetup) (ks : List BufferedEntry) → kept_of (opened_dest s ks) ≡ ks
kept-opened s ks = kept-recovered ks

pub length-opened : (ss : List DestSetup) (ks : List (List BufferedEntry)) → length (opened_dests ss ks) ≡ length ss
length-opened [] ks = refl
length-opened (s ∷ ss) [] = ap suc (length-opened ss [])
length-opened (s ∷ ss) (k ∷ ks) = ap suc (length-opened ss ks)

recovered-earlier : (buffer : Option BufferSetup) (ks : List BufferedEntry) → is_some buffer ≡ true → AllEarlier buffer (map recovered ks)
recovered-earlier buffer [] h = tt
recovered-earlier buffer (k ∷ ks) h = (λ q. (refl, h), recovered-earlier buffer ks h)

recovered-none : (o buffer : Option BufferSetup) (ks : List BufferedEntry) → buffer ≡ o → (buffer ≡ None → ks ≡ []) → AllEarlier buffer (map recovered ks)
recovered-none None buffer ks q h = let P : List BufferedEntry → Type 0 = λ xs. AllEarlier buffer (map recovered xs) in subst P (sym (h q)) tt
recovered-none (Some b) buffer ks q h = recovered-earlier buffer ks (rw q refl)

pub opened-earlier : (ss : List DestSetup) (ks : List (List BufferedEntry)) → ((d : ℕ) (s : DestSetup) (l : List BufferedEntry) → slice_get ss d ≡ Some s → s.buffer ≡ None → slice_get ks d ≡ Some l → l ≡ []) → DestsEarlier (opened_dests ss ks)
opened-earlier [] ks h = tt
opened-earlier (s ∷ ss) [] h = (tt, opened-earlier ss [] (λ d x l a b g. let wrong : None ≡ Some l = g in cc))
opened-earlier (s ∷ ss) (k ∷ ks) h = (recovered-none s.buffer s.buffer k refl (λ q. h 0 s k refl q refl), opened-earlier ss ks (λ d x l a b g. h (suc d) x l a b g))

-- Images.

pub list-here : (setup : Setup) (images : Images) (d : ℕ) (s : DestSetup) (l : List BufferedEntry) → slice_get setup.dests d ≡ Some s → slice_get images.lists d ≡ Some l → list_at setup images d ≡ (if is_some s.buffer then l else [])
list-here setup images d s l h g = ap (λ (o : Option DestSetup). listed o (slice_get images.lists d)) h ∙ ap (λ (o : Option (List BufferedEntry)). listed (Some s) o) g

-- an entry of an image is one of a disk-buffer's list
pub record IsKindListed (a : Option DestSetup) (b : Option (List BufferedEntry)) (k : BufferedEntry) : Type 0 where
  pub s : DestSetup
  pub is : a ≡ Some s
  pub list : List BufferedEntry
  pub here : b ≡ Some list
  pub buffer : is_some s.buffer ≡ true
  pub has : Contains list k

listed-if : (s : DestSetup) (list : List BufferedEntry) (k : BufferedEntry) (b : Bool) → is_some s.buffer ≡ b → Contains (if b then list else []) k → IsKindListed (Some s) (Some list) k
listed-if s list k true q c = record { s = s; is = refl; list = list; here = refl; buffer = q; has = c }
listed-if s list k false q c = absurd (has-nil k c)

pub is-listed : (a : Option DestSetup) (b : Option (List BufferedEntry)) (k : BufferedEntry) → Contains (listed a b) k → IsKindListed a b k
is-listed None b k c = absurd (has-nil k c)
is-listed (Some s) None k c = absurd (has-nil k c)
is-listed (Some s) (Some list) k c = listed-if s list k (is_some s.buffer) refl c

-- each entry that a destination begins with stood in the images
begins-if : (setup : Setup) (images : Images) (opening : Opening) (d : ℕ) (s : DestSetup) (list : List BufferedEntry) (o : Option BufferSetup) (k : BufferedEntry) → BeginsWithImages setup images opening → s.buffer ≡ o → slice_get setup.dests d ≡ Some s → slice_get opening.entries d ≡ Some list
    → Contains list k → Contains (list_at setup images d) k
begins-if setup images opening d s list None k b q h g c =
    let none = b.bare d s list h q g in
    let P : List BufferedEntry → Type 0 = λ xs. Contains xs k in
    absurd (has-nil k (subst P none c))
begins-if setup images opening d s list (Some x) k b q h g c =
    let long = b.every_list in
    let below = slice_get-below setup.dests d s h in
    let l = slice_get-some images.lists d (omega (arith, long, below)) in
    let some : is_some s.buffer ≡ true = rw q refl in
    let same : list ≡ l.0 = some-same list l.0 (sym g ∙ b.lists d s l.0 h some l.1) in
    let here : list_at setup images d ≡ l.0 = list-here setup images d s l.0 h l.1 ∙ rw some refl in
    let P : List BufferedEntry → Type 0 = λ xs. Contains xs k in
    subst P (same ∙ sym here) c

pub begins-hold : (P : ℕ → BufferedEntry → Type 0) (setup : Setup) (images : Images) (opening : Opening) → BeginsWithImages setup images opening → ((d : ℕ) (k : BufferedEntry) → Contains (list_at setup images d) k → P d k) → StateHolds P (opened setup opening)
begins-hold P setup images opening b holds d dest at =
    let long = length-opened setup.dests opening.entries in
    let below = slice_get-below (opened_dests setup.dests opening.entries) d dest at in
    let s = slice_get-some setup.dests d (omega (arith, long, below)) in
    let o = opens-dest setup.dests opening.entries d s.0 s.1 in
    let same : opened_dest s.0 o.list ≡ dest = some-same (opened_dest s.0 o.list) dest (sym o.at ∙ at) in
    let Q : Dest → Type 0 = λ x. ListHolds P d (kept_of x) in
    let R : List BufferedEntry → Type 0 = λ xs. ListHolds P d xs in
    let first : R o.list =
    λ k c. elim o.from [
      | inl e ↦ (let S : List BufferedEntry → Type 0 = λ xs. Contains xs k in absurd (has-nil k (subst S e c)))
      | inr g ↦ holds d k (begins-if setup images opening d s.0 o.list s.0.buffer k b refl s.1 g c)
    ] in
    subst Q same (subst R (sym (kept-opened s.0 o.list)) first)
