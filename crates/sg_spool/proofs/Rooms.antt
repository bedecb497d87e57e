-- The places that an entry takes, and what is held once it is staged.
use Rattle.std.proofs.Common.{◌≡◌, ◌⊎◌, inl, inr, ⊎_elim, ℕ, zero, suc, ◌+◌, ◌-◌, ◌*◌, ◌<◌, ◌≤◌, ◌^◌, max, min, List, [], ◌∷◌, ◌++◌, length, length-append, refl, sym, ◌∙◌, ap, subst, arith, Some, None, Option}
use Rattle.std.proofs.lemmas.List.{append-nil}
use Rattle.sg_device.specs.Disk.{DiskState, content, IsImage, Elapses, Within, EachNow, WhereTold}
use Rattle.sg_device.proofs.Disks.{started, goes_on, within_as, within_now}
use Rattle.sg_device.proofs.DiskCalls.{reads_as_image}
use Rattle.sg_stable.specs.declared.cell.Pair.{Pair}
use Rattle.sg_spool.specs.Lists.{IsEitherList, ListStays}
use Rattle.sg_spool.specs.Places.{AreGatesOrdered, IsOrdered, AreCompact, HasRoom, bytes_between, bound, live}
use Rattle.sg_spool.specs.Ring.{Entries, IsList}
use Rattle.sg_spool.specs.Rows.{AreRows, AreStagedAhead, IsPast, listed, total}
use Rattle.sg_spool.specs.Staging.{IsStaged}
use Rattle.sg_spool.specs.Steps.{Stems, After, Spares}
use Rattle.sg_spool.specs.View.{IsRing, AreImagesHeld, AreHeldAfter}
use Rattle.sg_spool.specs.declared.places.Places.{Places}
use Rattle.sg_spool.specs.declared.rows.Rows.{Rows}
use Rattle.sg_spool.proofs.Chains.{within_join}
use Rattle.sg_spool.proofs.Looking.{between_small}
use Rattle.sg_spool.proofs.Rings.{list_of, ring_spared}

pub room_none : (jump : Option ℕ) (head end n : ℕ) → jump ≡ None → HasRoom jump head end n
room_none None head end n is = tt
room_none (Some j) head end n is = absurd (let e : Some j ≡ None = is in cc)

pub room_some : (jump : Option ℕ) (j head end n : ℕ) → jump ≡ Some j → end + n + 6 ≤ head → HasRoom jump head end n
room_some None j head end n is fits = tt
room_some (Some i) j head end n is fits = fits

pub no_room : (jump : Option ℕ) (j head end n : ℕ) → jump ≡ Some j → head < end + n + 6 → HasRoom jump head end n → ⊥
no_room None j head end n is over room = absurd (let e : None ≡ Some j = is in cc)
no_room (Some i) j head end n is over room = omega (arith, over, room)

-- behind the end
pub ordered_behind : (jump : Option ℕ) (head end n : ℕ) → AreGatesOrdered jump head end → HasRoom jump head end n → end + (n + 6) < 2 ^ 63 → AreGatesOrdered jump head (end + 5 + n)
ordered_behind None head end n ordered room small = (ordered.0, omega (arith, ordered.1), omega (arith, small))
ordered_behind (Some jump) head end n ordered room small = (omega (arith, ordered.0), omega (arith, room), ordered.2, ordered.3)

pub between_behind : (jump : Option ℕ) (head end n : ℕ) → AreGatesOrdered jump head end → bytes_between jump head (end + 5 + n) ≡ bytes_between jump head end + 5 + n
between_behind None head end n ordered = omega (arith, ordered.1)
between_behind (Some jump) head end n ordered = omega (arith, ordered.0)

pub compact_behind : (capacity : ℕ) (jump : Option ℕ) (head end n : ℕ) → (jump ≡ None → end + n + 6 ≤ 64 + 2 * capacity) → AreCompact capacity jump head end → AreCompact capacity jump head (end + 5 + n)
compact_behind capacity None head end n within compact = let le = within refl in omega (arith, le)
compact_behind capacity (Some jump) head end n within compact = compact

pub short_behind : (capacity : ℕ) (jump : Option ℕ) (head end n : ℕ) → AreGatesOrdered jump head end → HasRoom jump head end n → (jump ≡ None → end + n + 6 ≤ 64 + 2 * capacity) → AreCompact capacity jump head end → end + (n + 6) ≤ bound capacity
short_behind capacity None head end n ordered room within compact = let le = within refl in omega (arith, le)
short_behind capacity (Some jump) head end n ordered room within compact = omega (arith, room, ordered.2, compact.1)

-- over the end of the ring
pub front_room : (capacity : ℕ) (jump : Option ℕ) (head end n : ℕ) → jump ≡ None → AreGatesOrdered jump head end → bytes_between jump head end + n + 6 ≤ capacity → 64 + 2 * capacity < end + n + 6 → (64 + n + 6 ≤ head) × (64 + capacity < head)
front_room capacity None head end n is ordered fits over = (omega (arith, ordered.0, ordered.1, fits, over), omega (arith, ordered.0, ordered.1, fits, over))
front_room capacity (Some j) head end n is ordered fits over = absurd (let e : Some j ≡ None = is in cc)

pub row_none : (jump : Option ℕ) (head end : ℕ) → jump ≡ None → AreGatesOrdered jump head end → (64 ≤ head) × (head ≤ end) × (end < 2 ^ 63)
row_none None head end is ordered = ordered
row_none (Some j) head end is ordered = absurd (let e : Some j ≡ None = is in cc)

pub between_none : (jump : Option ℕ) (head end : ℕ) → jump ≡ None → bytes_between jump head end ≡ end - head
between_none None head end is = refl
between_none (Some j) head end is = absurd (let e : Some j ≡ None = is in cc)

pub compact_none : (capacity : ℕ) (jump : Option ℕ) (head end : ℕ) → jump ≡ None → AreCompact capacity jump head end → end < 64 + max 1 (2 * capacity)
compact_none capacity None head end is compact = compact
compact_none capacity (Some j) head end is compact = absurd (let e : Some j ≡ None = is in cc)

-- a ring that is compact has room for all that fits
pub compact_room : (capacity : ℕ) (jump : Option ℕ) (head end n : ℕ) → AreGatesOrdered jump head end → bytes_between jump head end + n + 6 ≤ capacity → AreCompact capacity jump head end → HasRoom jump head end n
compact_room capacity None head end n ordered fits compact = tt
compact_room capacity (Some jump) head end n ordered fits compact = omega (arith, ordered.0, ordered.1, ordered.2, fits, compact.0)

-- of one list
pub one_of : (cell : Pair) (places : Places) (one other : Entries) (c : List ℕ) → IsRing cell places one c → IsEitherList one other c
one_of cell places one other c ring = inl (list_of cell places.jump places.head places.end one c ring)

pub other_of : (cell : Pair) (places : Places) (one other : Entries) (c : List ℕ) → IsRing cell places other c → IsEitherList one other c
other_of cell places one other c ring = inr (list_of cell places.jump places.head places.end other c ring)

-- nothing is done
pub stay_held : (cell : Pair) (rows : Rows) (list staged : Entries) (d0 : DiskState) → AreImagesHeld d0 cell rows list staged → Within d0 d0 (IsEitherList list (list ++ staged))
stay_held cell rows list staged d0 held = started d0 (IsEitherList list (list ++ staged)) (λ c left. one_of cell rows.list list (list ++ staged) c (held.rings c left))

pub held_same : (cell : Pair) (rows : Rows) (list staged : Entries) (d0 : DiskState) → AreImagesHeld d0 cell rows list staged → AreHeldAfter d0 cell rows rows list staged []
held_same cell rows list staged d0 held = inl (subst (λ (l : Entries). AreImagesHeld d0 cell rows list l) (sym (append-nil staged)) held, refl)

-- what is staged was put into the list, and the list was moved
module _ (cell : Pair) (rows : Rows) (list staged : Entries) (d0 d1 : DiskState) (held : AreImagesHeld d0 cell rows list staged) where
  pub commits_one : Within d0 d1 (λ bytes. IsRing cell rows.list list bytes ⊎ IsRing cell rows.ahead (list ++ staged) bytes) → Within d0 d1 (IsEitherList list (list ++ staged))
  commits_one so_far = within_as d0 d1 (λ bytes. IsRing cell rows.list list bytes ⊎ IsRing cell rows.ahead (list ++ staged) bytes) (IsEitherList list (list ++ staged)) so_far
      (λ c at. ⊎_elim (λ old. one_of cell rows.list list (list ++ staged) c old) (λ new. other_of cell rows.ahead list (list ++ staged) c new) at)

  pub gathers_one : (d2 : DiskState) → Within d0 d1 (λ bytes. IsRing cell rows.list list bytes ⊎ IsRing cell rows.ahead (list ++ staged) bytes) → Within d1 d2 (Stems (IsImage d1) (After ListStays (list ++ staged))) → Within d0 d2 (IsEitherList list (list ++ staged))
  gathers_one d2 one two = within_join d0 d1 d2 (IsEitherList list (list ++ staged)) (Stems (IsImage d1) (After ListStays (list ++ staged))) (commits_one one) two
      (λ c stem. inr (subst (λ (l : Entries). IsList l c) stem.holds.1 stem.holds.2))

pub stems_away : (from : DiskState) (P : List ℕ → Type 0) (d : DiskState) → EachNow d (Stems (IsImage from) P) → EachNow d P
stems_away from P d now c left = (now c left).holds

pub listed_rows : (rows : Rows) (count : ℕ) → rows ≡ listed rows.list count → IsOrdered rows.list → AreRows rows
listed_rows rows count is ordered = subst AreRows (sym is) (let are : AreRows (listed rows.list count) = record { list = ordered; ahead = ordered; apart = refl; few = omega arith } in are)

pub listed_ahead : (rows : Rows) (count : ℕ) → rows ≡ listed rows.list count → rows.ahead ≡ rows.list
listed_ahead rows count is = ap (λ (r : Rows). r.ahead) is

pub gathered_held : (cell : Pair) (old next : Rows) (list staged : Entries) (d : DiskState) → next ≡ listed next.list (total old) → EachNow d (IsRing cell next.list (list ++ staged)) → AreHeldAfter d cell old next list staged []
gathered_held cell old next list staged d is rings = inr (record { rings = rings; opens = λ b told. tt; waits = ap (λ (r : Rows). r.staged) is }, ap (λ (r : Rows). r.count) is)

-- a ring, while nothing that it uses is written
pub spared_rings : (cell : Pair) (places : Places) (es : Entries) (d0 d1 : DiskState) → EachNow d0 (IsRing cell places es) → Elapses (Spares places.jump places.head places.end) d0 d1 → Within d0 d1 (IsRing cell places es)
spared_rings cell places es d0 d1 start time = goes_on d0 d0 d1 (IsRing cell places es) (IsRing cell places es) (started d0 (IsRing cell places es) start) time start (λ d c ring spares. ring_spared cell places.jump places.head places.end es d c ring spares)

-- one entry more is staged
module _ (cell : Pair) (rows : Rows) (ahead : Places) (fs qs : Entries) (payload : List ℕ) (d1 d2 : DiskState) (are : AreRows rows) (held : AreImagesHeld d1 cell rows fs qs) (time : Elapses (Spares rows.list.jump rows.list.head rows.list.end) d1 d2) where
  pub staged_before : WhereTold (content d1) (IsStaged cell rows.list rows.ahead fs qs)
  staged_before b told = record { ring = held.rings b (reads_as_image d1 b told); opens = held.opens b told }

  pub staged_within : Within d1 d2 (IsRing cell rows.list fs)
  staged_within = spared_rings cell rows.list fs d1 d2 held.rings time

  pub staged_held : (count more : ℕ) → more ≡ min (rows.staged + 1) (2 ^ 64 - 1) → WhereTold (content d2) (IsStaged cell rows.list ahead fs (qs ++ payload ∷ [])) → AreImagesHeld d2 cell (record { list = rows.list; ahead = ahead; count = count; staged = more }) fs (qs ++ payload ∷ [])
  staged_held count more is told = record {
    rings = within_now d1 d2 (IsRing cell rows.list fs) staged_within;
    opens = λ b at. (told b at).opens;
    waits = omega (arith, is, held.waits, length-append qs (payload ∷ []), are.few, between_small rows.ahead.jump rows.ahead.head rows.ahead.end are.ahead);
  }

pub more_staged : (rows : Rows) (more : ℕ) → AreRows rows → more ≡ min (rows.staged + 1) (2 ^ 64 - 1) → more ≡ suc rows.staged
more_staged rows more are is = let small = between_small rows.ahead.jump rows.ahead.head rows.ahead.end are.ahead in omega (arith, is, are.few, small)

pub staged_rows : (rows : Rows) (ahead : Places) (count more n : ℕ) → AreRows rows → more ≡ min (rows.staged + 1) (2 ^ 64 - 1) → IsOrdered ahead → ahead.head ≡ rows.ahead.head → IsPast rows.list.jump rows.list.end ahead.jump ahead.end → live ahead ≡ live rows.ahead + 5 + n → AreRows (record { list = rows.list; ahead = ahead; count = count; staged = more })
staged_rows rows ahead count more n are is ordered head past lives = record {
  list = are.list;
  ahead = ordered;
  apart = subst (λ (k : ℕ). AreStagedAhead k rows.list ahead) (sym (more_staged rows more are is)) (head ∙ same_head rows are, past);
  few = omega (arith, more_staged rows more are is, are.few, lives);
}
  where
    head_of : (k : ℕ) (list a : Places) → AreStagedAhead k list a → a.head ≡ list.head
    head_of zero list a is = ap (λ (p : Places). p.head) is
    head_of (suc k) list a is = is.0

    same_head : (rows : Rows) → AreRows rows → rows.ahead.head ≡ rows.list.head
    same_head rows are = head_of rows.staged rows.list rows.ahead are.apart

-- The first alternative, and the second.
pub after_stage : (cell : Pair) (old rows : Rows) (ahead : Places) (list staged : Entries) (payload : List ℕ) (d1 d2 : DiskState) (more : ℕ) → AreRows rows → Elapses (Spares rows.list.jump rows.list.head rows.list.end) d1 d2 → more ≡ min (rows.staged + 1) (2 ^ 64 - 1)
    → ((fs qs : Entries) → rows.staged ≡ length qs → WhereTold (content d1) (IsStaged cell rows.list rows.ahead fs qs) → WhereTold (content d2) (IsStaged cell rows.list ahead fs (qs ++ payload ∷ [])))
    → AreHeldAfter d1 cell old rows list staged [] → AreHeldAfter d2 cell old (record { list = rows.list; ahead = ahead; count = rows.count; staged = more }) list staged (payload ∷ [])
after_stage cell old rows ahead list staged payload d1 d2 more are time is goes (inl at) =
    let held = subst (λ (l : Entries). AreImagesHeld d1 cell rows list l) (append-nil staged) at.0 in
    inl (staged_held cell rows ahead list staged payload d1 d2 are held time rows.count more is (goes list staged held.waits (staged_before cell rows ahead list staged payload d1 d2 are held time)), at.1)
after_stage cell old rows ahead list staged payload d1 d2 more are time is goes (inr at) =
    inr (staged_held cell rows ahead (list ++ staged) [] payload d1 d2 are at.0 time rows.count more is (goes (list ++ staged) [] (at.0).waits (staged_before cell rows ahead (list ++ staged) [] payload d1 d2 are at.0 time)), at.1)

pub within_stage : (cell : Pair) (old rows : Rows) (list staged : Entries) (d0 d1 d2 : DiskState) → Elapses (Spares rows.list.jump rows.list.head rows.list.end) d1 d2 → Within d0 d1 (IsEitherList list (list ++ staged)) → AreHeldAfter d1 cell old rows list staged [] → Within d0 d2 (IsEitherList list (list ++ staged))
within_stage cell old rows list staged d0 d1 d2 time so_far (inl at) = within_join d0 d1 d2 (IsEitherList list (list ++ staged)) (IsRing cell rows.list list) so_far (spared_rings cell rows.list list d1 d2 (at.0).rings time) (λ c ring. one_of cell rows.list list (list ++ staged) c ring)
within_stage cell old rows list staged d0 d1 d2 time so_far (inr at) = within_join d0 d1 d2 (IsEitherList list (list ++ staged)) (IsRing cell rows.list (list ++ staged)) so_far (spared_rings cell rows.list (list ++ staged) d1 d2 (at.0).rings time) (λ c ring. other_of cell rows.list list (list ++ staged) c ring)
