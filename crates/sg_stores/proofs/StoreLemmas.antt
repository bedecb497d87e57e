-- Stores from one moment to the next, and the entries in them.
use Rattle.std.proofs.Common.{◌≡◌, inl, inr, ℕ, zero, suc, Option, ◌+◌, ◌*◌, ◌≤◌, ◌<◌, List, [], ◌∷◌, ◌++◌, length, map, take, drop, slice_get, Some, None, refl, sym, ap, ◌∙◌, arith, subst, Bool, true, false}
use Rattle.std.proofs.lemmas.Bool.{cases_lt}
use Rattle.std.proofs.lemmas.List.{map-append}
use Rattle.sg_list.proofs.ListLemmas.{slice_get-some, slice_get-below}
use Rattle.sg_device.specs.Disk.{DiskState, clock, Within, EachNow}
use Rattle.sg_device.specs.Faults.{Rose}
use Rattle.sg_device.proofs.Disks.{moves_refl}
use Rattle.sg_device.proofs.DiskCalls.{moves_trans}
use Rattle.sg_stable.specs.Putting.{DiskLasts as PutLasts}
use Rattle.sg_codec.specs.Spelling.{spelling2}
use Rattle.sg_spool.specs.Ring.{IsList}
use Rattle.sg_spool.specs.Calls.{SpoolLasts}
use Rattle.sg_spool.specs.View.{View}
use Rattle.sg_buffer.specs.Entries.{AreKept, IsListOf, spelled}
use Rattle.sg_buffer.proofs.Stored.{news_stored}
use Rattle.sg_machine.specs.Runs.{BufferedEntry}
use Rattle.sg_sinks.specs.Fitting.{space}
use Rattle.sg_stores.specs.Stores.{StoreState, BufferState, StoreGoesOn, AllGo, HoldsIn, HoldsEntries, coded, length_of, buffer_state}

-- one call behind another
pub within_then : (first mid last : DiskState) (P Q R : List ℕ → Type 0) → Within first mid P → Within mid last Q → ((c : List ℕ) → P c → R c) → ((c : List ℕ) → Q c → R c) → Within first last R
within_then first mid last P Q R one two p q = record {
  later = omega (arith, one.later, two.later);
  past = λ t c le left. one.past t c le (two.past t c (omega (arith, le, one.later)) left);
  kept = λ t c le left. two.kept t c (omega (arith, le, one.later)) (one.kept t c le left);
  each = λ t c low high left. elim (cases_lt (clock mid) t) [
    | inr early ↦ p c (one.each t c low early (two.past t c early left))
    | inl late ↦ q c (two.each t c (omega (arith, late)) high left)
  ];
}

pub goes_refl : (store : StoreState) → StoreGoesOn store store
goes_refl store = record {
  moves = moves_refl store.disk;
  later = omega arith;
  stays = λ failed. failed;
  works = λ works. refl;
  broke = λ works failed. absurd (let no : true ≡ false = sym failed ∙ works in cc);
}

-- one that works has worked before
worked : (mid new : StoreState) → StoreGoesOn mid new → new.failed ≡ false → (failed : Bool) → mid.failed ≡ failed → mid.failed ≡ false
worked mid new two works true is = absurd (let no : true ≡ false = sym (two.stays is) ∙ works in cc)
worked mid new two works false is = is

-- one that fails in two calls fails in one of them
broke_in : (old mid new : StoreState) → StoreGoesOn old mid → StoreGoesOn mid new → old.failed ≡ false → new.failed ≡ true → (failed : Bool) → mid.failed ≡ failed → Rose old.disk.faults new.disk.faults
broke_in old mid new one two works fails true is = let rose = one.broke works is in let later = two.later in omega (arith, rose, later)
broke_in old mid new one two works fails false is = subst (λ (n : ℕ). Rose n new.disk.faults) (one.works is) (two.broke is fails)

pub goes_trans : (old mid new : StoreState) → StoreGoesOn old mid → StoreGoesOn mid new → StoreGoesOn old new
goes_trans old mid new one two = record {
  moves = moves_trans old.disk mid.disk new.disk one.moves two.moves;
  later = omega (arith, one.later, two.later);
  stays = λ failed. two.stays (one.stays failed);
  works = λ works. two.works works ∙ one.works (worked mid new two works mid.failed refl);
  broke = λ works fails. broke_in old mid new one two works fails mid.failed refl;
}

pub all_go_trans : (olds mids news : List StoreState) → AllGo olds mids → AllGo mids news → AllGo olds news
all_go_trans olds mids news one two = record {
  count = two.count ∙ one.count;
  each = λ s old new h k.
      let low = slice_get-below olds s old h in
      let mid = slice_get-some mids s (let n = one.count in omega (arith, low, n)) in
      goes_trans old mid.0 new (one.each s old mid.0 h mid.1) (two.each s mid.0 new mid.1 k);
}

-- a call on a spool that leaves it open
pub goes_open : {D : Type 0} (state : D → DiskState) (f : Bool) (old new : View D) → SpoolLasts state old new → new.closed ≡ false → StoreGoesOn (buffer_state state f old) (buffer_state state f new)
goes_open state f old new lasts open_ = record {
  moves = lasts.moves;
  later = lasts.later;
  stays = λ failed. failed;
  works = λ works. lasts.works open_;
  broke = λ works failed. absurd (let no : true ≡ false = sym failed ∙ works in cc);
}

-- one that closes it
pub goes_closed : {D : Type 0} (state : D → DiskState) (f : Bool) (old new : View D) → SpoolLasts state old new → old.closed ≡ false → new.closed ≡ true → StoreGoesOn (buffer_state state f old) (buffer_state state true new)
goes_closed state f old new lasts open_ closed = record {
  moves = lasts.moves;
  later = lasts.later;
  stays = λ failed. refl;
  works = λ works. absurd (let no : true ≡ false = works in cc);
  broke = λ works failed. lasts.blames (state old.disk).faults (omega arith) (λ was. absurd (let no : false ≡ true = sym open_ ∙ was in cc)) closed;
}

-- a write of a position
pub goes_put : (f g : Bool) (p q : ℕ) (old new : DiskState) → PutLasts old new f g → (f ≡ true → g ≡ true)
    → StoreGoesOn (record { position = p; buffer = None; failed = f; disk = old }) (record { position = q; buffer = None; failed = g; disk = new })
goes_put f g p q old new lasts stays = record {
  moves = lasts.moves;
  later = lasts.later;
  stays = stays;
  works = lasts.works;
  broke = λ works fails. lasts.blames old.faults (omega arith) (λ was. absurd (let no : false ≡ true = sym works ∙ was in cc)) fails;
}

-- spellings of two lists
pub spelled-append : (xs ys : List BufferedEntry) → spelled (map coded (xs ++ ys)) ≡ spelled (map coded xs) ++ spelled (map coded ys)
spelled-append xs ys = ap spelled (map-append coded xs ys) ∙ map-append spelling2 (map coded xs) (map coded ys)

pub kept-append : (xs ys : List BufferedEntry) → AreKept (map coded xs) → AreKept (map coded ys) → AreKept (map coded (xs ++ ys))
kept-append [] ys one two = two
kept-append (x ∷ xs) ys one two = (one.0, kept-append xs ys one.1 two)

pub kept-front : (xs ys : List BufferedEntry) → AreKept (map coded (xs ++ ys)) → AreKept (map coded xs)
kept-front [] ys are = tt
kept-front (x ∷ xs) ys are = (are.0, kept-front xs ys are.1)

pub kept-behind : (xs ys : List BufferedEntry) → AreKept (map coded (xs ++ ys)) → AreKept (map coded ys)
kept-behind [] ys are = are
kept-behind (x ∷ xs) ys are = kept-behind xs ys are.1

-- bytes with the spellings of entries
pub list-of : (list : List BufferedEntry) (bytes : List ℕ) → AreKept (map coded list) → IsList (spelled (map coded list)) bytes → IsListOf (map coded list) bytes
list-of list bytes kept is = record { payloads = spelled (map coded list); list = is; stored = news_stored (map coded list) kept }

-- each image has the entries
pub each-list : (store : StoreState) (buffer : BufferState) (list staged : List BufferedEntry) → store.buffer ≡ Some buffer → HoldsEntries store list staged → EachNow store.disk (IsListOf (map coded list))
each-list store buffer list staged is held c left =
    let holds = subst (λ b. HoldsIn b store.disk list staged) is held.holds in
    list-of list c (kept-front list staged held.kept) (holds.images c left)

-- what holds entries is a disk-buffer
buffer-at : (store : StoreState) (list staged : List BufferedEntry) (buffer : Option BufferState) → store.buffer ≡ buffer → HoldsIn buffer store.disk list staged → (b : BufferState) × (store.buffer ≡ Some b)
buffer-at store list staged None is held = absurd held
buffer-at store list staged (Some b) is held = (b, is)

pub each-held : (store : StoreState) (list staged : List BufferedEntry) → HoldsEntries store list staged → EachNow store.disk (IsListOf (map coded list))
each-held store list staged held = let b = buffer-at store list staged store.buffer refl held.holds in each-list store b.0 list staged b.1 held

-- entries are many bytes
pub space-length : (ns : List ℕ) → 5 * length ns ≤ space ns
space-length [] = omega arith
space-length (n ∷ ns) = let i = space-length ns in omega (arith, i)

pub space-parts : (n : ℕ) (ns : List ℕ) → space (take n ns) + space (drop n ns) ≡ space ns
space-parts zero ns = omega arith
space-parts (suc n) [] = omega arith
space-parts (suc n) (m ∷ ns) = let i = space-parts n ns in omega (arith, i)

-- lists of the same lengths
pub lengths-append : (lengths : List ℕ) (xs ys : List BufferedEntry) → lengths ++ map length_of (xs ++ ys) ≡ (lengths ++ map length_of xs) ++ map length_of ys
lengths-append [] xs ys = map-append length_of xs ys
lengths-append (n ∷ ns) xs ys = ap (λ ms. n ∷ ms) (lengths-append ns xs ys)

-- what is found at a place is within the list
pub below : {A : Type 0} (P : Option A → Type 0) → (P None → ⊥) → (xs : List A) (k : ℕ) → P (slice_get xs k) → k < length xs
below P none [] k is = absurd (none is)
below P none (x ∷ xs) zero is = omega arith
below P none (x ∷ xs) (suc k) is = let i = below P none xs k is in omega (arith, i)
