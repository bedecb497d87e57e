-- What each call leaves of a disk-buffer.
use Rattle.std.proofs.Common.{◌≡◌, ◌⊎◌, inl, inr, ⊎_elim, ℕ, ◌+◌, ◌-◌, ◌<◌, ◌≤◌, ◌^◌, List, [], ◌∷◌, ◌++◌, length, take, drop, map, refl, sym, ◌∙◌, ap, subst, arith, length-append, length-drop, Some, None, Option}
use Rattle.std.proofs.lemmas.List.{append-nil, append_cancel_left, drop_all, length-map}
use Rattle.std.specs.Option.{option_map}
use Rattle.sg_device.specs.Disk.{DiskLog, DiskState, DiskEvent, content, clock, bytes_after, IsLeftByCrash, IsImage, IsImageAt, Moves, Elapses, Preserves, Durable, Within, EachNow, WhereTold}
use Rattle.sg_device.specs.DiskBytes.{Torn}
use Rattle.sg_device.proofs.Disks.{started, goes_on, now_same, within_as, told_back}
use Rattle.sg_device.proofs.DiskCalls.{unchanged, reads_as_image}
use Rattle.sg_stable.specs.Cell.{HasCell}
use Rattle.sg_stable.specs.declared.cell.Pair.{Pair}
use Rattle.sg_spool.specs.Advancing.{HasRingEntries, IsFirstSize, IsAdvanced}
use Rattle.sg_spool.specs.Lists.{IsEitherList, Perhaps, Recodes}
use Rattle.sg_spool.specs.Places.{AreGatesOrdered, IsOrdered, live, gate_past, Remains, AreCompact, bound}
use Rattle.sg_spool.specs.Ring.{Entries, IsEntry, IsList, IsRow, IsLaid, space}
use Rattle.sg_spool.specs.Rows.{AreRows, listed, committed}
use Rattle.sg_spool.specs.Staging.{OpensTo}
use Rattle.sg_spool.specs.Steps.{Spares, FileGrows, Stems, After}
use Rattle.sg_spool.specs.View.{Awaits, HoldsAt, IsCompactIn, IsCompactAt, IsRing, AreImagesHeld, AreHeldAfter, IsFrontPayload, IsRingHeld, IsWholeRing}
use Rattle.sg_spool.specs.declared.places.Places.{Places}
use Rattle.sg_spool.specs.declared.rows.Rows.{Rows}
use Rattle.sg_spool.proofs.AdvanceCalls.{image_told}
use Rattle.sg_spool.proofs.Chains.{elapses_as}
use Rattle.sg_spool.proofs.Advancing.{first_entry}
use Rattle.sg_spool.proofs.Looking.{between_small}
use Rattle.sg_spool.proofs.Remaining.{remains_of}
use Rattle.sg_spool.proofs.Rings.{list_of, row_between, length_space}
use Rattle.sg_spool.proofs.Rooms.{spared_rings}
use Rattle.sg_spool.proofs.Staging.{ahead_none, with_gate, with_gate_torn, with_gate_is, grows_torn}
use Rattle.sg_spool.proofs.Unique.{list_unique, laid_places}

-- a disk that has an image told its bytes before any call
log_before : (d0 d1 : DiskState) (first : List ℕ) → IsImageAt d1 0 first → Moves d0 d1 → (told : Option DiskLog) → told ≡ d0.told → (b : List ℕ) × (content d0 ≡ Some b)
log_before d0 d1 first left moves None is = absurd (subst (λ (t : Option DiskLog). IsImageAt (record { told = t; faults = 0 }) 0 first) (sym is) (moves.past 0 first (omega arith) left))
log_before d0 d1 first left moves (Some log) is = (bytes_after log.first log.events, ap (λ (t : Option DiskLog). content (record { told = t; faults = 0 })) (sym is))

first_left : (told : Option DiskLog) (f moment : ℕ) (c : List ℕ) → IsImageAt (record { told = told; faults = f }) moment c → (first : List ℕ) × IsImageAt (record { told = told; faults = f }) 0 first
first_left None f moment c left = absurd left
first_left (Some log) f moment c left = (log.first, subst (λ (l : List DiskEvent). IsLeftByCrash log.first l log.first) (sym (drop_all (length log.events - 0) log.events (omega arith))) refl)

pub told_at : (d0 d1 : DiskState) → Moves d0 d1 → (moment : ℕ) (c : List ℕ) → IsImageAt d1 moment c → (b : List ℕ) × (content d0 ≡ Some b)
told_at d0 d1 moves moment c left = let first = first_left d1.told d1.faults moment c left in log_before d0 d1 first.0 first.1 moves d0.told refl

pub front_longer : (front : Option (List ℕ)) (es ps : Entries) → IsFrontPayload front es → IsFrontPayload front (es ++ ps)
front_longer None es ps is = tt
front_longer (Some q) [] ps is = absurd is
front_longer (Some q) (e ∷ es) ps is = is

pub front_size : (front : Option (List ℕ)) (es : Entries) → IsFrontPayload front es → IsFirstSize (option_map length front) es
front_size None es is = tt
front_size (Some q) [] is = absurd is
front_size (Some q) (e ∷ es) is = ap length is

split_off : (es : Entries) → 1 ≤ length es → (p : List ℕ) × (ps : Entries) × (es ≡ p ∷ ps)
split_off [] some = absurd (omega (arith, some))
split_off (p ∷ ps) some = (p, ps, refl)

front_known : (payload : List ℕ) (es : Entries) → IsFrontPayload (Some payload) es → (rest : Entries) × (es ≡ payload ∷ rest)
front_known payload [] is = absurd is
front_known payload (e ∷ es) is = (es, ap (λ (l : List ℕ). l ∷ es) (sym is))

empty_map : (f : List ℕ → List ℕ) (es : Entries) → length es ≡ 0 → es ≡ map f es
empty_map f [] is = refl
empty_map f (e ∷ es) is = absurd (omega (arith, is))

-- the number of entries is small
pub number_small : (cell : Pair) (places : Places) (es : Entries) (c : List ℕ) → IsOrdered places → IsRing cell places es c → length es < 2 ^ 63
number_small cell places es c ordered ring = omega (arith, length_space es, row_between places.jump c places.head places.end es ring.laid.row, between_small places.jump places.head places.end ordered)

no_staged : (ps : Entries) → length ps ≡ 0 → ps ≡ []
no_staged [] none = refl
no_staged (p ∷ ps) none = absurd (omega (arith, none))

-- what awaits the gate is one list
staged_unique : (cell : Pair) (end : ℕ) (longer : Option ℕ) (first last : ℕ) (es ps list qs : Entries) (b : List ℕ) → es ≡ list → length ps ≡ length qs → OpensTo cell end longer first last es ps b → Awaits end list qs b → ps ≡ qs
staged_unique cell end longer first last es [] list [] b same long opens awaits = refl
staged_unique cell end longer first last es [] list (q ∷ qs) b same long opens awaits = absurd (omega (arith, long))
staged_unique cell end longer first last es (p ∷ ps) list [] b same long opens awaits = absurd (omega (arith, long))
staged_unique cell end longer first last es (p ∷ ps) list (q ∷ qs) b same long opens awaits =
    let d = with_gate end 1 b in
    let ring = opens d (with_gate_torn end 1 b) (λ shut. let no : 1 ≡ 0 = sym (with_gate_is end 1 b) ∙ shut in omega (arith, no)) in
    let both : es ++ p ∷ ps ≡ list ++ q ∷ qs = list_unique (es ++ p ∷ ps) (list ++ q ∷ qs) d (list_of cell longer first last (es ++ p ∷ ps) d ring) awaits in
    append_cancel_left list (p ∷ ps) (q ∷ qs) (ap (λ (l : Entries). l ++ p ∷ ps) (sym same) ∙ both)

awaits_of : (cell : Pair) (end : ℕ) (longer : Option ℕ) (first last : ℕ) (es ps : Entries) (b : List ℕ) → OpensTo cell end longer first last es ps b → Awaits end es ps b
awaits_of cell end longer first last es [] b opens = tt
awaits_of cell end longer first last es (p ∷ ps) b opens =
    list_of cell longer first last (es ++ p ∷ ps) (with_gate end 1 b) (opens (with_gate end 1 b) (with_gate_torn end 1 b) (λ shut. let no : 1 ≡ 0 = sym (with_gate_is end 1 b) ∙ shut in omega (arith, no)))

pub held_holds : (cell : Pair) (rows : Rows) (list staged : Entries) (d : DiskState) → AreImagesHeld d cell rows list staged → HoldsAt d rows list staged
held_holds cell rows list staged d held = record {
  images = λ c left. list_of cell rows.list.jump rows.list.head rows.list.end list c (held.rings c left);
  number = held.waits;
  waits = λ b told. awaits_of cell rows.list.end rows.ahead.jump rows.ahead.head rows.ahead.end list staged b (held.opens b told);
}

-- a list with nothing staged
pub list_holds : (cell : Pair) (rows : Rows) (list : Entries) (d : DiskState) → rows.staged ≡ 0 → EachNow d (IsRing cell rows.list list) → HoldsAt d rows list []
list_holds cell rows list d none rings = record { images = λ c left. list_of cell rows.list.jump rows.list.head rows.list.end list c (rings c left); number = none; waits = λ b told. tt }

-- nothing is done
pub stay_one : (rows : Rows) (list staged other : Entries) (d : DiskState) → HoldsAt d rows list staged → Within d d (IsEitherList list other)
stay_one rows list staged other d holds = started d (IsEitherList list other) (λ c left. inl (holds.images c left))

pub stay_short : (rows : Rows) (capacity : ℕ) (d : DiskState) → IsCompactAt d capacity rows → Within d d (IsCompactIn capacity)
stay_short rows capacity d compact = started d (IsCompactIn capacity) compact.images

-- what is compact
pub compact_in : (capacity : ℕ) (jump : Option ℕ) (head end : ℕ) (es : Entries) (c : List ℕ) → AreCompact capacity jump head end → IsLaid jump head end es c → length c ≤ bound capacity → IsCompactIn capacity c
compact_in capacity jump head end es c compact laid short = record {
  short = short;
  placed = λ j h e fs other.
      let same = laid_places jump j head h end e es fs c laid other in
      subst (λ (k : Option ℕ). AreCompact capacity k h e) same.0 (subst (λ (k : ℕ). AreCompact capacity jump k e) same.1 (subst (λ (k : ℕ). AreCompact capacity jump head k) same.2 compact));
}

pub within_both : (d0 d1 : DiskState) (P Q R : List ℕ → Type 0) → Within d0 d1 P → Within d0 d1 Q → ((c : List ℕ) → P c → Q c → R c) → Within d0 d1 R
within_both d0 d1 P Q R one two goes = record { later = one.later; past = one.past; kept = one.kept; each = λ t c low high left. goes c (one.each t c low high left) (two.each t c low high left) }

pub within_short : (most : ℕ) (d0 d1 : DiskState) → EachNow d0 (λ c. length c ≤ most) → Elapses (FileGrows most) d0 d1 → Within d0 d1 (λ c. length c ≤ most)
within_short most d0 d1 start time = goes_on d0 d0 d1 (λ c. length c ≤ most) (λ c. length c ≤ most) (started d0 (λ c. length c ≤ most) start) time start (λ d c short grows. omega (arith, short, grows))

end_bound : (capacity : ℕ) (jump : Option ℕ) (head end : ℕ) → AreGatesOrdered jump head end → AreCompact capacity jump head end → end + 1 ≤ bound capacity
end_bound capacity None head end ordered compact = omega (arith, compact)
end_bound capacity (Some jump) head end ordered compact = omega (arith, ordered.1, ordered.2, compact.1)

module _ (cell : Pair) (rows : Rows) (front : Option (List ℕ)) (d0 : DiskState) (w : IsWholeRing d0 cell rows front) where
  pub held : AreImagesHeld d0 cell rows w.entries w.staged
  held = record { rings = λ c left. (w.each c left).ring; opens = w.opens; waits = w.waits }

  pub holds : HoldsAt d0 rows w.entries w.staged
  holds = held_holds cell rows w.entries w.staged d0 held

  pub cells : EachNow d0 (HasCell cell.selector cell.value)
  cells c left = (w.each c left).ring.has_cell

  pub lists : EachNow d0 (IsList w.entries)
  lists c left = list_of cell rows.list.jump rows.list.head rows.list.end w.entries c (w.each c left).ring

  -- the list that is read is that one
  pub is_entries : (list : Entries) (c : List ℕ) → IsImage d0 c → IsList list c → w.entries ≡ list
  is_entries list c left is = list_unique w.entries list c (lists c left) is

  pub is_staged : (list staged : Entries) → HoldsAt d0 rows list staged → (b : List ℕ) → content d0 ≡ Some b → w.staged ≡ staged
  is_staged list staged h b told =
      let left = reads_as_image d0 b told in
      staged_unique cell rows.list.end rows.ahead.jump rows.ahead.head rows.ahead.end w.entries w.staged list staged b (is_entries list b left (h.images b left)) (sym w.waits ∙ h.number) (w.opens b told) (h.waits b told)

  pub holds_held : (list staged : Entries) → HoldsAt d0 rows list staged → AreImagesHeld d0 cell rows list staged
  holds_held list staged h = record {
    rings = λ c left. subst (λ (l : Entries). IsRing cell rows.list l c) (is_entries list c left (h.images c left)) (w.each c left).ring;
    opens = λ b told.
        let left = reads_as_image d0 b told in
        subst (λ (l : Entries). OpensTo cell rows.list.end rows.ahead.jump rows.ahead.head rows.ahead.end list l b) (is_staged list staged h b told)
        (subst (λ (l : Entries). OpensTo cell rows.list.end rows.ahead.jump rows.ahead.head rows.ahead.end l w.staged b) (is_entries list b left (h.images b left)) (w.opens b told));
    waits = h.number;
  }

  pub counts : (list : Entries) (c : List ℕ) → IsImage d0 c → IsList list c → rows.count ≡ length list
  counts list c left is = (w.each c left).number ∙ ap length (is_entries list c left is)

  -- at any image of a later moment
  pub number_at : (d1 : DiskState) → Moves d0 d1 → (c : List ℕ) → IsImage d1 c → (rows.count ≡ length w.entries) × IsFrontPayload front w.entries
  number_at d1 moves c left =
      let b = told_at d0 d1 moves (clock d1) c left in
      let at = w.each b.0 (reads_as_image d0 b.0 b.1) in
      (at.number, at.first)

  -- the bytes that all entries take
  pub spaces : AreRows rows → (list staged : Entries) → HoldsAt d0 rows list staged → (b : List ℕ) → content d0 ≡ Some b → live rows.ahead ≡ space (list ++ staged)
  spaces are list staged h b told = space_of staged (holds_held list staged h)
    where
      space_of : (ps : Entries) → AreImagesHeld d0 cell rows list ps → live rows.ahead ≡ space (list ++ ps)
      space_of [] at =
          let ring = at.rings b (reads_as_image d0 b told) in
          let none : rows.ahead ≡ rows.list = alone rows are at.waits in
          ap live none ∙ row_between rows.list.jump b rows.list.head rows.list.end list ring.laid.row ∙ ap space (sym (append-nil list))
        where
          alone : (rows : Rows) → AreRows rows → rows.staged ≡ 0 → rows.ahead ≡ rows.list
          alone rows are none = ahead_none rows.staged rows.list rows.ahead none are.apart
      space_of (p ∷ ps) at =
          let d = with_gate rows.list.end 1 b in
          let ring = at.opens b told d (with_gate_torn rows.list.end 1 b) (λ shut. let no : 1 ≡ 0 = sym (with_gate_is rows.list.end 1 b) ∙ shut in omega (arith, no)) in
          row_between rows.ahead.jump d rows.ahead.head rows.ahead.end (list ++ p ∷ ps) ring.laid.row

  -- where nothing is staged
  pub space_listed : AreRows rows → rows.staged ≡ 0 → (b : List ℕ) → content d0 ≡ Some b → (list : Entries) → IsList list b → live rows.ahead ≡ space list
  space_listed are none b told list is =
      let same = is_entries list b (reads_as_image d0 b told) is in
      let empty = no_staged w.staged (sym w.waits ∙ none) in
      spaces are w.entries w.staged holds b told ∙ ap (λ (l : Entries). space (w.entries ++ l)) empty ∙ ap space (append-nil w.entries) ∙ ap space same

  -- something more is staged
  pub whole_staged : (d1 : DiskState) (after : Pair) (next : Rows) (more : Entries) → Moves d0 d1 → AreRows next → AreHeldAfter d1 after rows next w.entries w.staged more → IsWholeRing d1 after next front
  whole_staged d1 after next more moves are (inl at) = record {
    entries = w.entries;
    staged = w.staged ++ more;
    each = λ c left. let was = number_at d1 moves c left in record { ring = (at.0).rings c left; number = at.1 ∙ was.0; first = was.1 };
    opens = (at.0).opens;
    waits = (at.0).waits;
  }
  whole_staged d1 after next more moves are (inr at) = record {
    entries = w.entries ++ w.staged;
    staged = more;
    each = λ c left.
        let was = number_at d1 moves c left in
        let ring = (at.0).rings c left in
        record {
          ring = ring;
          number = omega (arith, at.1, was.0, w.waits, length-append w.entries w.staged, number_small after next.list (w.entries ++ w.staged) c are.list ring);
          first = front_longer front w.entries w.staged was.1;
        };
    opens = (at.0).opens;
    waits = (at.0).waits;
  }

  -- what was staged is in the list
  pub whole_committed : (d1 : DiskState) (next : Rows) → Moves d0 d1 → next ≡ committed rows → IsOrdered rows.ahead → EachNow d1 (IsRing cell next.list (w.entries ++ w.staged)) → IsWholeRing d1 cell next front
  whole_committed d1 next moves is ordered rings = record {
    entries = w.entries ++ w.staged;
    staged = [];
    each = λ c left.
        let was = number_at d1 moves c left in
        let ring = rings c left in
        record {
          ring = ring;
          number = ap (λ (r : Rows). r.count) is ∙ (let small = number_small cell next.list (w.entries ++ w.staged) c (subst (λ (r : Rows). IsOrdered r.list) (sym is) ordered) ring in omega (arith, was.0, w.waits, length-append w.entries w.staged, small));
          first = front_longer front w.entries w.staged was.1;
        };
    opens = λ b told. tt;
    waits = ap (λ (r : Rows). r.staged) is;
  }

  -- the first entries, and what they take
  pub has_entries : (n size : ℕ) → n ≤ rows.count → WhereTold (content d0) (λ b. (list : Entries) → IsList list b → size ≡ space (take n list)) → (list staged : Entries) → HoldsAt d0 rows list staged → EachNow d0 (HasRingEntries cell rows.list n size list)
  has_entries n size enough sized list staged h c left =
      let at = w.each c left in
      let b = image_told d0 c left in
      subst (λ (l : Entries). HasRingEntries cell rows.list n size l c) (is_entries list c left (h.images c left))
      (record { ring = at.ring; enough = omega (arith, enough, at.number); sized = sized b.0 b.1 w.entries (lists b.0 (reads_as_image d0 b.0 b.1)) })

  -- what was read of them
  pub measured : (n size : ℕ) → n ≤ rows.count
      → WhereTold (content d0) (λ b. (es : Entries) → n ≤ length es → IsFirstSize (option_map length front) es → IsLaid rows.list.jump rows.list.head rows.list.end es b → size ≡ space (take n es))
      → WhereTold (content d0) (λ b. (list : Entries) → IsList list b → size ≡ space (take n list))
  measured n size enough read b told list is =
      let left = reads_as_image d0 b told in
      let at = w.each b left in
      subst (λ (l : Entries). size ≡ space (take n l)) (is_entries list b left is) (read b told w.entries (omega (arith, enough, at.number)) (front_size front w.entries at.first) at.ring.laid)

  pub whole_advanced : (n : ℕ) (d1 : DiskState) (after : Pair) (next : Places) → Moves d0 d1 → n ≤ rows.count → EachNow d1 (IsRing after next (drop n w.entries)) → IsWholeRing d1 after (listed next (rows.count - n)) None
  whole_advanced n d1 after next moves enough rings = record {
    entries = drop n w.entries;
    staged = [];
    each = λ c left. let was = number_at d1 moves c left in record { ring = rings c left; number = omega (arith, was.0, enough, length-drop n w.entries); first = tt };
    opens = λ b told. tt;
    waits = refl;
  }

  -- each entry is spelled anew
  pub whole_respelled : (f : List ℕ → List ℕ) (d1 : DiskState) (after : Pair) (next : Places) → Moves d0 d1 → EachNow d1 (Stems (IsImage d0) (IsRing after next (map f w.entries))) → IsWholeRing d1 after (listed next rows.count) None
  whole_respelled f d1 after next moves rings = record {
    entries = map f w.entries;
    staged = [];
    each = λ c left. let was = number_at d1 moves c left in record { ring = (rings c left).holds; number = was.0 ∙ sym (length-map w.entries f); first = tt };
    opens = λ b told. tt;
    waits = refl;
  }

  -- the list as it was, behind which nothing is staged
  pub whole_before : (d1 : DiskState) → rows.staged ≡ 0 → Moves d0 d1 → EachNow d1 (Stems (IsImage d0) (IsRing cell rows.list w.entries)) → IsWholeRing d1 cell rows front
  whole_before d1 none moves rings = record {
    entries = w.entries;
    staged = [];
    each = λ c left. let was = number_at d1 moves c left in record { ring = (rings c left).holds; number = was.0; first = was.1 };
    opens = λ b told. tt;
    waits = none;
  }

  -- a call that changes nothing
  pub whole_still : (d1 : DiskState) → d1.told ≡ d0.told → IsWholeRing d1 cell rows front
  whole_still d1 is = record {
    entries = w.entries;
    staged = w.staged;
    each = now_same d0 d1 (IsRingHeld cell rows.list rows.count front w.entries) (unchanged d0 d1 is).still w.each;
    opens = λ b told. w.opens b (ap (λ (t : Option DiskLog). content (record { told = t; faults = 0 })) (sym is) ∙ told);
    waits = w.waits;
  }

  at_first : (d1 : DiskState) → d1.told ≡ d0.told → EachNow d1 (IsImage d0)
  at_first d1 is = now_same d0 d1 (IsImage d0) (unchanged d0 d1 is).still (λ c left. left)

  -- of a list with entries the first stands at the first gate
  pub first_there : (b : List ℕ) → content d0 ≡ Some b → 1 ≤ rows.count → (p : List ℕ) × (ps : Entries) × (w.entries ≡ p ∷ ps) × IsEntry b (gate_past rows.list.jump rows.list.head) p
  first_there b told some =
      let was = w.each b (reads_as_image d0 b told) in
      let split = split_off w.entries (omega (arith, some, was.number)) in
      (split.0, split.1, split.2, first_entry rows.list.jump rows.list.head rows.list.end split.0 split.1 b (subst (λ (l : Entries). IsRow rows.list.jump b rows.list.head rows.list.end l) split.2 was.ring.laid.row))

  -- its payload is read
  pub whole_read : (d1 : DiskState) (payload : List ℕ) → d1.told ≡ d0.told → 1 ≤ rows.count → WhereTold (content d0) (λ b. (p : List ℕ) → IsEntry b (gate_past rows.list.jump rows.list.head) p → payload ≡ p) → IsWholeRing d1 cell rows (Some payload)
  whole_read d1 payload is some read = record {
    entries = w.entries;
    staged = w.staged;
    each = λ c left.
        let at = at_first d1 is c left in
        let was = w.each c at in
        let b = image_told d0 c at in
        let there = first_there b.0 b.1 some in
        let same = read b.0 b.1 there.0 there.3 in
        record { ring = was.ring; number = was.number; first = subst (λ (l : Entries). IsFrontPayload (Some payload) l) (sym there.2) same };
    opens = λ b told. w.opens b (ap (λ (t : Option DiskLog). content (record { told = t; faults = 0 })) (sym is) ∙ told);
    waits = w.waits;
  }

  pub first_read : (payload : List ℕ) → 1 ≤ rows.count → WhereTold (content d0) (λ b. (p : List ℕ) → IsEntry b (gate_past rows.list.jump rows.list.head) p → payload ≡ p) → WhereTold (content d0) (λ b. (fs : Entries) → IsList fs b → (rest : Entries) × (fs ≡ payload ∷ rest))
  first_read payload some read b told fs list =
      let there = first_there b told some in
      let same = read b told there.0 there.3 in
      (there.1, sym (is_entries fs b (reads_as_image d0 b told) list) ∙ there.2 ∙ ap (λ (l : List ℕ). l ∷ there.1) (sym same))

  -- where it was read before
  pub first_known : (payload : List ℕ) → front ≡ Some payload → WhereTold (content d0) (λ b. (fs : Entries) → IsList fs b → (rest : Entries) × (fs ≡ payload ∷ rest))
  first_known payload is b told fs list =
      let left = reads_as_image d0 b told in
      let known = front_known payload w.entries (subst (λ (f : Option (List ℕ)). IsFrontPayload f w.entries) is (w.each b left).first) in
      (known.0, sym (is_entries fs b left list) ∙ known.1)

  pub remains : (list : Entries) (c : List ℕ) → IsImage d0 c → IsList list c → Remains c rows.list.jump (gate_past rows.list.jump rows.list.head) list rows.list.end
  remains list c left is = subst (λ (l : Entries). Remains c rows.list.jump (gate_past rows.list.jump rows.list.head) l rows.list.end) (is_entries list c left is) (remains_of rows.list.jump rows.list.head rows.list.end w.entries c (w.each c left).ring.laid)

  -- an empty list is its own new spelling
  pub none_respelled : (f : List ℕ → List ℕ) (list : Entries) → rows.count ≡ 0 → HoldsAt d0 rows list [] → HoldsAt d0 rows (map f list) []
  none_respelled f list none h = record {
    images = λ c left. subst (λ (l : Entries). IsList l c) (empty_map f list (let number = counts list c left (h.images c left) in omega (arith, number, none))) (h.images c left);
    number = h.number;
    waits = λ b told. tt;
  }

  -- the list, or what is made of it
  pub advance_one : (n : ℕ) (d1 : DiskState) (list : Entries) → Within d0 d1 (IsAdvanced rows.list n list) → Within d0 d1 (IsEitherList list (drop n list))
  advance_one n d1 list so_far = within_as d0 d1 (IsAdvanced rows.list n list) (IsEitherList list (drop n list)) so_far (λ c at. ⊎_elim
      (λ old. inl (record { jump = rows.list.jump; head = rows.list.head; end = rows.list.end; laid = old }))
      (λ new. inr (record { jump = new.next.jump; head = new.next.head; end = new.next.end; laid = new.laid })) at)

  -- within the bound
  module _ (capacity : ℕ) (compact : IsCompactAt d0 capacity rows) (are : AreRows rows) where
    shorts : EachNow d0 (λ c. length c ≤ bound capacity)
    shorts c left = (compact.images c left).short

    -- while something is staged where there is room
    pub stage_short : (d1 : DiskState) → Elapses (Spares rows.list.jump rows.list.head rows.list.end) d0 d1 → Elapses (FileGrows (bound capacity)) d0 d1 → Within d0 d1 (IsCompactIn capacity)
    stage_short d1 spares grows = within_both d0 d1 (IsRing cell rows.list w.entries) (λ c. length c ≤ bound capacity) (IsCompactIn capacity)
        (spared_rings cell rows.list w.entries d0 d1 (held).rings spares) (within_short (bound capacity) d0 d1 shorts grows)
        (λ c ring short. compact_in capacity rows.list.jump rows.list.head rows.list.end w.entries c compact.list ring.laid short)

    -- while the gate is opened
    pub commit_short : (d1 : DiskState) → Within d0 d1 (λ bytes. IsRing cell rows.list w.entries bytes ⊎ IsRing cell rows.ahead (w.entries ++ w.staged) bytes) → Elapses (Torn rows.list.end 1) d0 d1 → Within d0 d1 (IsCompactIn capacity)
    commit_short d1 so_far images = within_both d0 d1 (λ bytes. IsRing cell rows.list w.entries bytes ⊎ IsRing cell rows.ahead (w.entries ++ w.staged) bytes) (λ c. length c ≤ bound capacity) (IsCompactIn capacity)
        so_far (within_short (bound capacity) d0 d1 shorts (elapses_as d0 d1 (λ d c torn. grows_torn (bound capacity) rows.list.end 1 d c (end_bound capacity rows.list.jump rows.list.head rows.list.end are.list compact.list) torn) images))
        (λ c at short. ⊎_elim (λ old. compact_in capacity rows.list.jump rows.list.head rows.list.end w.entries c compact.list old.laid short)
        (λ new. compact_in capacity rows.ahead.jump rows.ahead.head rows.ahead.end (w.entries ++ w.staged) c compact.ahead new.laid short) at)

    -- while the cell is put
    pub advance_short : (n : ℕ) (d1 : DiskState) → Within d0 d1 (IsAdvanced rows.list n w.entries) → Within d0 d1 (λ c. length c ≤ bound capacity) → Within d0 d1 (IsCompactIn capacity)
    advance_short n d1 so_far short = within_both d0 d1 (IsAdvanced rows.list n w.entries) (λ c. length c ≤ bound capacity) (IsCompactIn capacity) so_far short
        (λ c at long. ⊎_elim (λ old. compact_in capacity rows.list.jump rows.list.head rows.list.end w.entries c compact.list old long)
        (λ new. compact_in capacity new.next.jump new.next.head new.next.end (drop n w.entries) c (new.compact capacity compact.list) new.laid long) at)

-- the places that are left where what was staged is dropped, or put into the list
pub unstaged_rows : (rows next : Rows) → next ≡ listed rows.list rows.count → AreRows rows → AreRows next
unstaged_rows rows next is are = subst AreRows (sym is) (let all : AreRows (listed rows.list rows.count) = record { list = are.list; ahead = are.list; apart = refl; few = omega arith } in all)

pub committed_rows : (rows next : Rows) → next ≡ committed rows → AreRows rows → AreRows next
committed_rows rows next is are = subst AreRows (sym is) (let all : AreRows (committed rows) = record { list = are.ahead; ahead = are.ahead; apart = refl; few = omega arith } in all)

pub unstaged_compact : (rows next : Rows) (capacity : ℕ) (d0 d1 : DiskState) → next ≡ listed rows.list rows.count → IsCompactAt d0 capacity rows → EachNow d1 (IsCompactIn capacity) → IsCompactAt d1 capacity next
unstaged_compact rows next capacity d0 d1 is compact now = subst (IsCompactAt d1 capacity) (sym is) (let all : IsCompactAt d1 capacity (listed rows.list rows.count) = record { list = compact.list; ahead = compact.list; images = now } in all)

pub committed_compact : (rows next : Rows) (capacity : ℕ) (d0 d1 : DiskState) → next ≡ committed rows → IsCompactAt d0 capacity rows → EachNow d1 (IsCompactIn capacity) → IsCompactAt d1 capacity next
committed_compact rows next capacity d0 d1 is compact now = subst (IsCompactAt d1 capacity) (sym is) (let all : IsCompactAt d1 capacity (committed rows) = record { list = compact.ahead; ahead = compact.ahead; images = now } in all)

-- a store that was opened
open_at : (cell : Pair) (places : Places) (count : ℕ) (d0 d1 : DiskState) → WhereTold (content d0) (λ b. (es : Entries) × IsRingHeld cell places count None es b) → ((c : List ℕ) → IsImage d1 c → content d0 ≡ Some c) → (told : Option (List ℕ)) → told ≡ content d0 → IsWholeRing d1 cell (listed places count) None
open_at cell places count d0 d1 held at None is = record {
  entries = [];
  staged = [];
  each = λ c left. absurd (let no : None ≡ Some c = is ∙ at c left in cc);
  opens = λ b told. tt;
  waits = refl;
}
open_at cell places count d0 d1 held at (Some b) is =
    let found = held b (sym is) in
    record {
      entries = found.0;
      staged = [];
      each = λ c left. let both : Some b ≡ Some c = is ∙ at c left in let same : b ≡ c = cc in subst (IsRingHeld cell places count None found.0) same found.1;
      opens = λ b told. tt;
      waits = refl;
    }

pub whole_open : (cell : Pair) (places : Places) (count : ℕ) (rows : Rows) (d0 d1 : DiskState) → rows ≡ listed places count → WhereTold (content d0) (λ b. (es : Entries) × IsRingHeld cell places count None es b) → Preserves d0 d1 → Durable d1 → IsWholeRing d1 cell rows None
whole_open cell places count rows d0 d1 is held keeps durable = subst (λ (r : Rows). IsWholeRing d1 cell r None) (sym is) (open_at cell places count d0 d1 held (λ c left. told_back d0 d1 c keeps (durable c left)) (content d0) refl)

-- a list of so many entries at these places
pub advanced_rows : (places : Places) (count : ℕ) (next : Rows) → next ≡ listed places count → IsOrdered places → AreRows next
advanced_rows places count next is ordered = subst AreRows (sym is) (let all : AreRows (listed places count) = record { list = ordered; ahead = ordered; apart = refl; few = omega arith } in all)

pub advanced_whole : (cell : Pair) (places : Places) (count : ℕ) (next : Rows) (d : DiskState) → next ≡ listed places count → IsWholeRing d cell (listed places count) None → IsWholeRing d cell next None
advanced_whole cell places count next d is w = subst (λ (r : Rows). IsWholeRing d cell r None) (sym is) w

pub advanced_holds : (cell : Pair) (places : Places) (count : ℕ) (next : Rows) (list : Entries) (d : DiskState) → next ≡ listed places count → EachNow d (IsRing cell places list) → HoldsAt d next list []
advanced_holds cell places count next list d is rings = subst (λ (r : Rows). HoldsAt d r list []) (sym is) (list_holds cell (listed places count) list d refl rings)

pub advanced_compact : (places : Places) (count : ℕ) (next : Rows) (capacity : ℕ) (d : DiskState) → next ≡ listed places count → AreCompact capacity places.jump places.head places.end → EachNow d (IsCompactIn capacity) → IsCompactAt d capacity next
advanced_compact places count next capacity d is compact now = subst (IsCompactAt d capacity) (sym is) (let all : IsCompactAt d capacity (listed places count) = record { list = compact; ahead = compact; images = now } in all)

pub listed_same : (places : Places) (count : ℕ) (next : Rows) → next ≡ listed places count → next ≡ listed next.list count
listed_same places count next is = is ∙ ap (λ (p : Places). listed p count) (sym (ap (λ (r : Rows). r.list) is))

-- where nothing is staged
pub unstaged_same : (rows : Rows) → AreRows rows → rows.staged ≡ 0 → rows ≡ listed rows.list rows.count
unstaged_same rows are none =
    let same = ahead_none rows.staged rows.list rows.ahead none are.apart in
    λ i. record { list = rows.list; ahead = same i; count = rows.count; staged = none i }

-- the list, or its new spelling
pub respell_one : (f : List ℕ → List ℕ) (d0 d1 : DiskState) (list : Entries) → Within d0 d1 (Stems (IsImage d0) (After (Perhaps (Recodes f)) list)) → Within d0 d1 (IsEitherList list (map f list))
respell_one f d0 d1 list so_far = within_as d0 d1 (Stems (IsImage d0) (After (Perhaps (Recodes f)) list)) (IsEitherList list (map f list)) so_far
    (λ c stem. ⊎_elim (λ same. inl (subst (λ (l : Entries). IsList l c) same stem.holds.2)) (λ step. inr (subst (λ (l : Entries). IsList l c) step stem.holds.2)) stem.holds.1)

pub respelled_holds : (cell : Pair) (places : Places) (count : ℕ) (next : Rows) (list : Entries) (d0 d1 : DiskState) → next ≡ listed places count → EachNow d1 (Stems (IsImage d0) (IsRing cell places list)) → HoldsAt d1 next list []
respelled_holds cell places count next list d0 d1 is rings = advanced_holds cell places count next list d1 is (λ c left. (rings c left).holds)

pub before_holds : (cell : Pair) (rows : Rows) (list : Entries) (d0 d1 : DiskState) → rows.staged ≡ 0 → EachNow d1 (Stems (IsImage d0) (IsRing cell rows.list list)) → HoldsAt d1 rows list []
before_holds cell rows list d0 d1 none rings = list_holds cell rows list d1 none (λ c left. (rings c left).holds)
