-- The walk over a store's entries.
use Rattle.std.proofs.Common.{◌≡◌, ◌⊎◌, inl, inr, ℕ, ◌+◌, ◌-◌, ◌^◌, ◌≤◌, ◌<◌, false, List, [], ◌∷◌, ◌++◌, length, Option, Result, Ok, Err, Vec, Bool, true, refl, sym, ◌∙◌, ap, subst, arith, length-append}
use Rattle.std.proofs.lemmas.List.{append-nil}
use Rattle.std.specs.declared.alloc.Global.{Global}
use Rattle.sg_device.specs.Disk.{DiskState, content, WhereTold, EachNow}
use Rattle.sg_device.proofs.DiskCalls.{content_same, reads_as_image}
use Rattle.sg_outside.specs.World.{WorldState}
use Rattle.sg_codec.specs.declared.kept.Kept.{Kept}
use Rattle.sg_spool.specs.Answers.{IsWalked, IsNextOf}
use Rattle.sg_spool.specs.Calls.{OnlyReadsSpool}
use Rattle.sg_spool.specs.Places.{Remains, gate_past}
use Rattle.sg_spool.specs.Ring.{Entries, IsEntry, IsLaid, IsList}
use Rattle.sg_spool.specs.View.{View}
use Rattle.sg_spool.specs.declared.answers.Walked.{Walked}
use Rattle.sg_spool.specs.declared.answers.Walked.TheVariants.{Item}
use Rattle.sg_spool.specs.declared.places.Places.{Places}
use Rattle.sg_spool.specs.declared.rows.Rows.{Rows}
use Rattle.sg_spool.proofs.Remaining.{remains_of}
use Rattle.sg_spooled.specs.Entries.{SpooledRow, IsPayloadRow, IsNoEntry, AreRowsStored, payloads_of, row_line, row_lines, IsListBegun, IsFirstBadEntry}
use Rattle.sg_output.specs.Saying.{OnlySays, SaidSome}
use Rattle.sg_spooled.specs.Walking.{AppendsRow, IsHere, IsNoneHere, ListsEntry, SaysSome, UnlessUnsaid, WalkEnds, WalksBy, Walks}
use Rattle.sg_spooled.specs.declared.unlisted.Unlisted.{Unlisted}
use Rattle.sg_spooled.specs.declared.unlisted.Unlisted.TheVariants.{NotOpened, Damage, DiskFault, SayFault, NoMemory}
use Rattle.sg_output.proofs.Sayings.{rose-later, says-none, only-says-none, only-says-then, some-then, some-more}
use Rattle.sg_spooled.proofs.EntryLemmas.{stored-more, payloads-before, payloads-more, count-payloads, lines-more}

-- where a walk stands

pub record StandsAt (list : Places) (gate : ℕ) (rows : List SpooledRow) (bytes : List ℕ) : Type 0 where
  pub rest : Entries
  pub laid : IsLaid list.jump list.head list.end (payloads_of rows ++ rest) bytes
  pub left : Remains bytes list.jump gate rest list.end
  pub passed : Remains bytes list.jump (gate_past list.jump list.head) (payloads_of rows) gate

pub record WalkedTo {D : Type 0} (state : D → DiskState) (old now : View D) (world world' : WorldState) (text : List ℕ) (gate number : ℕ) (rows : List SpooledRow) : Type 0 where
  pub stored : AreRowsStored rows
  pub count : length rows ≡ number
  pub told : (state now.disk).told ≡ (state old.disk).told
  pub later : (state old.disk).faults ≤ (state now.disk).faults
  pub places : now.rows ≡ old.rows
  pub shut : now.closed ≡ false
  pub says : OnlySays world world'
  pub said : SaidSome world world' (row_lines 0 rows) text
  pub stands : WhereTold (content (state old.disk)) (StandsAt old.rows.list gate rows)

abbrev pub IsWalking : {D : Type 0} → (D → DiskState) → View D → View D → WorldState → WorldState → List ℕ → ℕ → ℕ → Type 0
IsWalking state old now world world' text gate number = (rows : List SpooledRow) × WalkedTo state old now world world' text gate number rows

pub stands-first : (list : Places) (gate : ℕ) (bytes : List ℕ) (entries : Entries) → IsLaid list.jump list.head list.end entries bytes → gate ≡ gate_past list.jump list.head → StandsAt list gate [] bytes
stands-first list gate bytes entries laid is = record {
  rest = entries;
  laid = laid;
  left = subst (λ (k : ℕ). Remains bytes list.jump k entries list.end) (sym is) (remains_of list.jump list.head list.end entries bytes laid);
  passed = sym is;
}

passed-more : (bytes : List ℕ) (jump : Option ℕ) (gate : ℕ) (payloads : Entries) (payload : List ℕ) (at next : ℕ) → Remains bytes jump gate payloads at → IsEntry bytes at payload → next ≡ gate_past jump (at + 5 + length payload) → Remains bytes jump gate (payloads ++ payload ∷ []) next
passed-more bytes jump gate [] payload at next is entry e =
    (subst (λ (k : ℕ). IsEntry bytes k payload) (sym is) entry, ap (λ (k : ℕ). gate_past jump (k + 5 + length payload)) is ∙ sym e)
passed-more bytes jump gate (p ∷ ps) payload at next h entry e = (h.0, passed-more bytes jump (gate_past jump (gate + 5 + length p)) ps payload at next h.1 entry e)

pub stands-next : (list : Places) (gate next : ℕ) (rows : List SpooledRow) (row : SpooledRow) (bytes : List ℕ) → IsHere list bytes gate row next → StandsAt list gate rows bytes → StandsAt list next (rows ++ row ∷ []) bytes
stands-next list gate next rows row bytes here s =
    let (rest, (is, (at, left))) = here s.rest s.left in
    let laid : IsLaid list.jump list.head list.end (payloads_of rows ++ row.payload ∷ rest) bytes = subst (λ (es : Entries). IsLaid list.jump list.head list.end (payloads_of rows ++ es) bytes) is s.laid in
    let remains : Remains bytes list.jump gate (row.payload ∷ rest) list.end = subst (λ (es : Entries). Remains bytes list.jump gate es list.end) is s.left in
    record {
      rest = rest;
      laid = subst (λ (es : Entries). IsLaid list.jump list.head list.end es bytes) (sym (payloads-before rows row rest)) laid;
      left = left;
      passed = subst (λ (es : Entries). Remains bytes list.jump (gate_past list.jump list.head) es next) (sym (payloads-more rows row)) (passed-more bytes list.jump (gate_past list.jump list.head) (payloads_of rows) row.payload gate next s.passed remains.0 at);
    }

pub list-begun : (list : Places) (gate : ℕ) (rows : List SpooledRow) (bytes : List ℕ) → StandsAt list gate rows bytes → IsListBegun rows bytes
list-begun list gate rows bytes s = inr (s.rest, record { jump = list.jump; head = list.head; end = list.end; laid = s.laid })

none-left : (rest : Entries) → length rest ≡ 0 → rest ≡ []
none-left [] e = refl
none-left (p ∷ ps) e = absurd (omega (arith, e))

-- all entries were listed
pub list-whole : (list : Places) (gate count : ℕ) (rows : List SpooledRow) (bytes : List ℕ) → ((entries : Entries) → IsList entries bytes → count ≡ length entries) → length rows ≡ count → StandsAt list gate rows bytes → IsList (payloads_of rows) bytes
list-whole list gate count rows bytes counts is s =
    let all = counts (payloads_of rows ++ s.rest) (record { jump = list.jump; head = list.head; end = list.end; laid = s.laid }) in
    let sum = length-append (payloads_of rows) s.rest in
    let some = count-payloads rows in
    let none : s.rest ≡ [] = none-left s.rest (omega (arith, all, sum, some, is)) in
    record {
      jump = list.jump;
      head = list.head;
      end = list.end;
      laid = subst (λ (es : Entries). IsLaid list.jump list.head list.end es bytes) (ap (λ (es : Entries). payloads_of rows ++ es) none ∙ append-nil (payloads_of rows)) s.laid;
    }

bad-here : (list : Places) (gate count : ℕ) (rows : List SpooledRow) (bytes : List ℕ) → ((entries : Entries) → IsList entries bytes → count ≡ length entries) → length rows < count → (s : StandsAt list gate rows bytes)
    → (s.rest ≡ []) ⊎ ((payload : List ℕ) × ((rest : Entries) × ((s.rest ≡ payload ∷ rest) × IsNoEntry payload))) → IsFirstBadEntry gate rows bytes
bad-here list gate count rows bytes counts few s (inl none) =
    let all = counts (payloads_of rows ++ s.rest) (record { jump = list.jump; head = list.head; end = list.end; laid = s.laid }) in
    let sum = length-append (payloads_of rows) s.rest in
    let some = count-payloads rows in
    let left : length s.rest ≡ 0 = ap (λ (es : Entries). length es) none in
    absurd (omega (arith, all, sum, some, left, few))
bad-here list gate count rows bytes counts few s (inr (payload, (rest, (is, bad)))) = record {
  jump = list.jump;
  head = list.head;
  end = list.end;
  payload = payload;
  rest = rest;
  laid = subst (λ (es : Entries). IsLaid list.jump list.head list.end (payloads_of rows ++ es) bytes) is s.laid;
  gate = s.passed;
  bad = bad;
}

-- the first payload that is no entry
pub first-bad : (list : Places) (gate count : ℕ) (rows : List SpooledRow) (bytes : List ℕ) → ((entries : Entries) → IsList entries bytes → count ≡ length entries) → length rows < count → IsNoneHere list bytes gate → StandsAt list gate rows bytes → IsFirstBadEntry gate rows bytes
first-bad list gate count rows bytes counts few none s = bad-here list gate count rows bytes counts few s (none s.rest s.left)

-- one entry

pub entry-listed : {D : Type 0} (state : D → DiskState) (old new : View D) (gate number next before now : ℕ) (payload : Vec ℕ Global) (walked : Walked) (bytes' text text' : List ℕ) (good : Bool)
    → walked ≡ Item payload next → bytes' ≡ payload.items → AppendsRow number bytes' text text' good → good ≡ true → IsWalked old new gate before now walked
    → WhereTold (content (state old.disk)) (λ bytes. (entries : Entries) → Remains bytes old.rows.list.jump gate entries old.rows.list.end → IsNextOf old gate bytes entries walked)
    → ListsEntry state old new gate number text text' (Ok next)
entry-listed state old new gate number next before now payload walked bytes' text text' good item same appends is answer follows =
    let (kept, (stored, more)) : (kept : Option Kept) × (IsPayloadRow kept payload.items × (text' ≡ text ++ row_line number (record { kept = kept; payload = payload.items }))) =
    subst (λ (p : List ℕ). AppendsRow number p text text' true) same (subst (λ (b : Bool). AppendsRow number bytes' text text' b) is appends) in
    let shut = (subst (λ (w : Walked). IsWalked old new gate before now w) item answer).2 in (
      record { kept = kept; payload = payload.items },
      (
        stored,
        (
          more,
          (
            shut,
            λ bytes told entries remains.
                let after = subst (λ (w : Walked). IsNextOf old gate bytes entries w) item (follows bytes told entries remains) in
                let (rest, first, left) = after.next in
                (rest, (first, (after.behind, left))),
          ),
        ),
      ),
    )

-- the loop

abbrev pub CountsRows : {D : Type 0} → (D → DiskState) → View D → ℕ → Type 0
CountsRows state old count = WhereTold (content (state old.disk)) (λ bytes. (entries : Entries) → IsList entries bytes → count ≡ length entries)

pub counts-of : (disk : DiskState) (count : ℕ) → EachNow disk (λ bytes. (entries : Entries) → IsList entries bytes → count ≡ length entries) → WhereTold (content disk) (λ bytes. (entries : Entries) → IsList entries bytes → count ≡ length entries)
counts-of disk count each = λ bytes told. each bytes (reads_as_image disk bytes told)

pub walk-first : {D : Type 0} (state : D → DiskState) (old : View D) (world : WorldState) (text : List ℕ) (gate : ℕ) → old.closed ≡ false → text ≡ [] → gate ≡ gate_past old.rows.list.jump old.rows.list.head
    → WhereTold (content (state old.disk)) (λ bytes. (entries : Entries) × IsLaid old.rows.list.jump old.rows.list.head old.rows.list.end entries bytes) → IsWalking state old old world world text gate 0
walk-first state old world text gate shut none is laid = (
  [],
  record {
    stored = tt;
    count = refl;
    told = refl;
    later = omega arith;
    places = refl;
    shut = shut;
    says = only-says-none world;
    said = ([], (says-none world, none));
    stands = λ bytes told. let (entries, at) = laid bytes told in stands-first old.rows.list gate bytes entries at is;
  },
)

-- what the next entry asks for
pub walk-left : {D : Type 0} (state : D → DiskState) (old now : View D) (world world' : WorldState) (text : List ℕ) (gate number : ℕ) → IsWalking state old now world world' text gate number
    → WhereTold (content (state now.disk)) (λ bytes. (entries : Entries) × Remains bytes now.rows.list.jump gate entries now.rows.list.end)
walk-left state old now world world' text gate number (rows, w) =
    subst (λ (r : Rows). WhereTold (content (state now.disk)) (λ bytes. (entries : Entries) × Remains bytes r.list.jump gate entries r.list.end)) (sym w.places)
    (λ bytes told. let s = w.stands bytes (sym (content_same (state old.disk) (state now.disk) w.told) ∙ told) in (s.rest, s.left))

here-in : {D : Type 0} (state : D → DiskState) (old now : View D) (gate next : ℕ) (row : SpooledRow) → (state now.disk).told ≡ (state old.disk).told → now.rows ≡ old.rows
    → WhereTold (content (state now.disk)) (λ bytes. IsHere now.rows.list bytes gate row next) → WhereTold (content (state old.disk)) (λ bytes. IsHere old.rows.list bytes gate row next)
here-in state old now gate next row told places here = λ bytes is.
    subst (λ (r : Rows). IsHere r.list bytes gate row next) places (here bytes (content_same (state old.disk) (state now.disk) told ∙ is))

none-here-in : {D : Type 0} (state : D → DiskState) (old now : View D) (gate : ℕ) → (state now.disk).told ≡ (state old.disk).told → now.rows ≡ old.rows
    → WhereTold (content (state now.disk)) (λ bytes. IsNoneHere now.rows.list bytes gate) → WhereTold (content (state old.disk)) (λ bytes. IsNoneHere old.rows.list bytes gate)
none-here-in state old now gate told places none = λ bytes is.
    subst (λ (r : Rows). IsNoneHere r.list bytes gate) places (none bytes (content_same (state old.disk) (state now.disk) told ∙ is))

-- an entry more, of which the text has the line
lines-next : (a b : WorldState) (rows : List SpooledRow) (row : SpooledRow) (number : ℕ) (text text' : List ℕ) → length rows ≡ number → text' ≡ text ++ row_line number row → SaidSome a b (row_lines 0 rows) text → SaidSome a b (row_lines 0 (rows ++ row ∷ [])) text'
lines-next a b rows row number text text' is more said =
    let place : number ≡ 0 + length rows = omega (arith, is) in
    let grown : SaidSome a b (row_lines 0 rows ++ row_line number row) (text ++ row_line number row) = some-more a b (row_lines 0 rows) text (row_line number row) said in
    let all : row_lines 0 rows ++ row_line number row ≡ row_lines 0 (rows ++ row ∷ []) = ap (λ (n : ℕ). row_lines 0 rows ++ row_line n row) place ∙ sym (lines-more 0 rows row) in
    subst (λ (xs : List ℕ). SaidSome a b xs text') all (subst (λ (xs : List ℕ). SaidSome a b (row_lines 0 rows ++ row_line number row) xs) (sym more) grown)

count-more : (rows : List SpooledRow) (row : SpooledRow) (number : ℕ) → length rows ≡ number → length (rows ++ row ∷ []) ≡ number + 1
count-more rows row number is = (let sum = length-append rows (row ∷ []) in omega (arith, sum, is))

pub walk-next : {D : Type 0} (state : D → DiskState) (old now next' : View D) (a b c : WorldState) (text text' text'' : List ℕ) (gate next number : ℕ)
    → IsWalking state old now a b text gate number → OnlyReadsSpool state now next' → ListsEntry state now next' gate number text text' (Ok next) → OnlySays b c → SaysSome b c text' text'' (Ok tt)
    → IsWalking state old next' a c text'' next (number + 1)
walk-next state old now next' a b c text text' text'' gate next number (rows, w) reads (row, (stored, (more, (shut, here)))) says said = (
  rows ++ row ∷ [],
  record {
    stored = stored-more rows row w.stored stored;
    count = count-more rows row number w.count;
    told = reads.told ∙ w.told;
    later = (let l = w.later in let k = reads.lasts.later in omega (arith, l, k));
    places = reads.rows ∙ w.places;
    shut = shut;
    says = only-says-then a b c w.says says;
    said = some-then a b c (row_lines 0 (rows ++ row ∷ [])) text' text'' (lines-next a b rows row number text text' w.count more w.said) said;
    stands = λ bytes told. stands-next old.rows.list gate next rows row bytes (here-in state old now gate next row w.told w.places here bytes told) (w.stands bytes told);
  },
)

pub unless-said : {T : Type 0} (result : Result T Unlisted) (P : Type 0) → P → UnlessUnsaid result P
unless-said (Ok done) P p = p
unless-said (Err NotOpened) P p = p
unless-said (Err (Damage at)) P p = p
unless-said (Err DiskFault) P p = p
unless-said (Err SayFault) P p = tt
unless-said (Err NoMemory) P p = tt

walked : {D : Type 0} (state : D → DiskState) (old now next' : View D) (a b : WorldState) (text : List ℕ) (gate number : ℕ) (rows : List SpooledRow) (result : Result ℕ Unlisted)
    → WalkedTo state old now a b text gate number rows → OnlyReadsSpool state now next' → WalkEnds state old next' a b rows result → WalksBy state old next' a b text result rows
walked state old now next' a b text gate number rows result w reads ends = record {
  stored = w.stored;
  told = reads.told ∙ w.told;
  later = (let l = w.later in let k = reads.lasts.later in omega (arith, l, k));
  says = w.says;
  said = unless-said result (SaidSome a b (row_lines 0 rows) text) w.said;
  ends = ends;
}

-- no entry was listed at this gate
pub walk-stopped : {D : Type 0} (state : D → DiskState) (old now next' : View D) (a b : WorldState) (text text' : List ℕ) (gate number count : ℕ) (e : Unlisted)
    → CountsRows state old count → number < count → IsWalking state old now a b text gate number → OnlyReadsSpool state now next' → ListsEntry state now next' gate number text text' (Err e)
    → Walks state old next' a b text' (Err e)
walk-stopped state old now next' a b text text' gate number count NotOpened counts few walking reads lists = absurd lists
walk-stopped state old now next' a b text text' gate number count SayFault counts few walking reads lists = absurd lists
walk-stopped state old now next' a b text text' gate number count NoMemory counts few (rows, w) reads lists = (
  rows,
  record {
    stored = w.stored;
    told = reads.told ∙ w.told;
    later = (let l = w.later in let k = reads.lasts.later in omega (arith, l, k));
    says = w.says;
    said = tt;
    ends = tt;
  },
)
walk-stopped state old now next' a b text text' gate number count DiskFault counts few (rows, w) reads (same, rose) = (
  rows,
  subst (λ (t : List ℕ). WalksBy state old next' a b t (Err DiskFault) rows) (sym same)
      (walked state old now next' a b text gate number rows (Err DiskFault) w reads
      (rose-later (state old.disk).faults (state now.disk).faults (state next'.disk).faults w.later rose, λ bytes told. list-begun old.rows.list gate rows bytes (w.stands bytes told))),
)
walk-stopped state old now next' a b text text' gate number count (Damage at) counts few (rows, w) reads (here, same, none) =
    let some : length rows < count = (let is = w.count in omega (arith, is, few)) in
    let ends : WhereTold (content (state old.disk)) (IsFirstBadEntry gate rows) = λ bytes told.
    first-bad old.rows.list gate count rows bytes (counts bytes told) some (none-here-in state old now gate w.told w.places none bytes told) (w.stands bytes told) in (
      rows,
      subst (λ (t : List ℕ). WalksBy state old next' a b t (Err (Damage at)) rows) (sym same)
          (walked state old now next' a b text gate number rows (Err (Damage at)) w reads (subst (λ (k : ℕ). WhereTold (content (state old.disk)) (IsFirstBadEntry k rows)) (sym here) ends)),
    )

-- the text couldn't be said
pub walk-unsaid : {D : Type 0} (state : D → DiskState) (old now next' : View D) (a b c : WorldState) (text text' text'' : List ℕ) (gate next number : ℕ) (e : Unlisted)
    → IsWalking state old now a b text gate number → OnlyReadsSpool state now next' → ListsEntry state now next' gate number text text' (Ok next) → OnlySays b c → SaysSome b c text' text'' (Err e)
    → Walks state old next' a c text'' (Err e)
walk-unsaid state old now next' a b c text text' text'' gate next number NotOpened walking reads lists says some = absurd some
walk-unsaid state old now next' a b c text text' text'' gate next number (Damage at) walking reads lists says some = absurd some
walk-unsaid state old now next' a b c text text' text'' gate next number DiskFault walking reads lists says some = absurd some
walk-unsaid state old now next' a b c text text' text'' gate next number NoMemory (rows, w) reads lists says some = (
  rows,
  record {
    stored = w.stored;
    told = reads.told ∙ w.told;
    later = (let l = w.later in let k = reads.lasts.later in omega (arith, l, k));
    says = only-says-then a b c w.says says;
    said = tt;
    ends = tt;
  },
)
walk-unsaid state old now next' a b c text text' text'' gate next number SayFault (rows, w) reads lists says some = (
  rows,
  record {
    stored = w.stored;
    told = reads.told ∙ w.told;
    later = (let l = w.later in let k = reads.lasts.later in omega (arith, l, k));
    says = only-says-then a b c w.says says;
    said = tt;
    ends = rose-later a.say_faults b.say_faults c.say_faults w.says.later some;
  },
)

-- all entries were listed
pub walk-whole : {D : Type 0} (state : D → DiskState) (old now : View D) (a b : WorldState) (text : List ℕ) (gate number count : ℕ)
    → CountsRows state old count → number ≡ count → IsWalking state old now a b text gate number → Walks state old now a b text (Ok count)
walk-whole state old now a b text gate number count counts is (rows, w) =
    let all : length rows ≡ count = w.count ∙ is in (
      rows,
      record {
        stored = w.stored;
        told = w.told;
        later = w.later;
        says = w.says;
        said = w.said;
        ends = (sym all, λ bytes told. list-whole old.rows.list gate count rows bytes (counts bytes told) all (w.stands bytes told));
      },
    )
