-- The items of bytes from an item's end on.
use Rattle.std.proofs.Common.{◌≡◌, ℕ, suc, zero, ◌+◌, ◌-◌, ◌<◌, ◌≤◌, List, [], ◌∷◌, ◌++◌, length, drop, map, Bool, true, false, ◌&&◌, refl, sym, ap, ◌∙◌, subst, arith, inl, inr, ◌⊎◌, if◌then◌else◌}
use Rattle.std.specs.Prelude.{ℤ, pos, ◌*◌, ◌==◌, nat_lt, nat_le, slice_index_or}
use Rattle.std.proofs.lemmas.List.{map-append, length-append, length_push}
use Rattle.sg_device.specs.Inlet.{Stamped, stamped}
use Rattle.sg_frame.specs.declared.kind.FrameKind.{FrameKind}
use Rattle.sg_frame.specs.declared.kind.FrameKind.TheVariants.{Lines, Counted}
use Rattle.sg_frame.specs.Items.{Item, Form, Text, Count, Body, Bad, is_digit, count_of, trimmed, open_at, item_of, item_at, items, open_after, beginning, items_of}
use Rattle.sg_frame.specs.Records.{moved}
use Rattle.sg_frame.specs.Scans.{plain}
use Rattle.sg_frame.proofs.ItemLemmas.{items-append, items-bad}
use Rattle.sg_laws.specs.Pieces.{Piece, piece_of, pieces, Rise, behind}
use Rattle.sg_laws.specs.Resuming.{IsReadingBegun}

-- Where reading began doesn't count, but for the places of ends.

-- a form, but for the place of a bad byte
abbrev erase : Form → Form
erase (Text line) = Text line
erase (Count value) = Count value
erase (Body missing text) = Body missing text
erase (Bad place) = Bad 0

items-erased : (limit place : ℕ) (form : Form) (bytes : List Stamped) → items limit place form bytes ≡ items limit place (erase form) bytes
items-erased limit place (Text line) bytes = refl
items-erased limit place (Count value) bytes = refl
items-erased limit place (Body missing text) bytes = refl
items-erased limit place (Bad bad) bytes = items-bad limit place bad bytes ∙ sym (items-bad limit place 0 bytes)

erase-if : (b : Bool) (value p q : ℕ) → erase (if b then Count value else Bad p) ≡ erase (if b then Count value else Bad q)
erase-if true value p q = refl
erase-if false value p q = refl

erase-count : (a c : Bool) (limit p q value value' : ℕ) → erase (if a then count_of limit p value' else (if c then Body value [] else Bad p)) ≡ erase (if a then count_of limit q value' else (if c then Body value [] else Bad q))
erase-count true c limit p q value value' = erase-if (nat_lt 0 value' && nat_le value' limit) value' p q
erase-count false true limit p q value value' = refl
erase-count false false limit p q value value' = refl

erase-open : (limit p q : ℕ) (form : Form) (b : ℕ) → erase (open_at limit p form b) ≡ erase (open_at limit q form b)
erase-open limit p q (Text line) b = refl
erase-open limit p q (Count value) b = erase-count (is_digit b) (b == 32 && nat_lt 0 value) limit p q value (value * 10 + (b - 48))
erase-open limit p q (Body missing text) b = refl
erase-open limit p q (Bad bad) b = refl

item-end : (text : List ℕ) (at : ℤ) (a b : ℕ) → a ≡ b → item_of text at a ≡ item_of text at b
item-end text at a b h = ap (λ (n : ℕ). item_of text at n) h

item-text-if : (n place : ℕ) (a c : Bool) (line : List ℕ) (at : ℤ)
    → (if a then item_of (trimmed line) at (n + place + 1) else (if c then item_of (trimmed line) at (n + place) else []))
    ≡ map (moved n) (if a then item_of (trimmed line) at (place + 1) else (if c then item_of (trimmed line) at place else []))
item-text-if n place true c line at = item-end (trimmed line) at (n + place + 1) (n + (place + 1)) (omega arith)
item-text-if n place false true line at = refl
item-text-if n place false false line at = refl

item-body-if : (n place : ℕ) (a : Bool) (text : List ℕ) (at : ℤ) → (if a then item_of text at (n + place + 1) else []) ≡ map (moved n) (if a then item_of text at (place + 1) else [])
item-body-if n place true text at = item-end text at (n + place + 1) (n + (place + 1)) (omega arith)
item-body-if n place false text at = refl

item-shift : (n limit place : ℕ) (form : Form) (b : Stamped) → item_at limit (n + place) form b ≡ map (moved n) (item_at limit place form b)
item-shift n limit place (Text line) b = item-text-if n place (b.0 == 10) (length line == limit) line b.1
item-shift n limit place (Count value) b = refl
item-shift n limit place (Body missing text) b = item-body-if n place (missing == 1) (text ++ b.0 ∷ []) b.1
item-shift n limit place (Bad bad) b = refl

items-shift : (n limit place : ℕ) (form : Form) (bytes : List Stamped) → items limit (n + place) form bytes ≡ map (moved n) (items limit place form bytes)
items-shift n limit place form [] = refl
items-shift n limit place form (b ∷ bytes) =
    let at : n + place + 1 ≡ n + (place + 1) = omega arith in
    let here = item_at limit (n + place) form b in
    let f = open_at limit (n + place) form b.0 in
    let g = open_at limit place form b.0 in
    ap (λ (k : ℕ). here ++ items limit k f bytes) at
    ∙ ap (λ (xs : List Item). here ++ xs) (items-erased limit (n + (place + 1)) f bytes)
    ∙ ap (λ (h : Form). here ++ items limit (n + (place + 1)) h bytes) (erase-open limit (n + place) place form b.0)
    ∙ ap (λ (xs : List Item). here ++ xs) (sym (items-erased limit (n + (place + 1)) g bytes))
    ∙ ap (λ (xs : List Item). here ++ xs) (items-shift n limit (place + 1) g bytes)
    ∙ ap (λ (xs : List Item). xs ++ map (moved n) (items limit (place + 1) g bytes)) (item-shift n limit place form b)
    ∙ sym (map-append (moved n) (item_at limit place form b) (items limit (place + 1) g bytes))

-- When bytes came doesn't count, but for moments.

piece-text-if : (place : ℕ) (a c : Bool) (line : List ℕ) (s t : ℤ)
    → map piece_of (if a then item_of (trimmed line) s (place + 1) else (if c then item_of (trimmed line) s place else []))
    ≡ map piece_of (if a then item_of (trimmed line) t (place + 1) else (if c then item_of (trimmed line) t place else []))
piece-text-if place true c line s t = refl
piece-text-if place false true line s t = refl
piece-text-if place false false line s t = refl

piece-body-if : (place : ℕ) (a : Bool) (text : List ℕ) (s t : ℤ) → map piece_of (if a then item_of text s (place + 1) else []) ≡ map piece_of (if a then item_of text t (place + 1) else [])
piece-body-if place true text s t = refl
piece-body-if place false text s t = refl

piece-at : (limit place : ℕ) (form : Form) (b : ℕ) (s t : ℤ) → map piece_of (item_at limit place form (b, s)) ≡ map piece_of (item_at limit place form (b, t))
piece-at limit place (Text line) b s t = piece-text-if place (b == 10) (length line == limit) line s t
piece-at limit place (Count value) b s t = refl
piece-at limit place (Body missing text) b s t = piece-body-if place (missing == 1) (text ++ b ∷ []) s t
piece-at limit place (Bad bad) b s t = refl

same-pieces : (limit place : ℕ) (form : Form) (xs ys : List Stamped) → plain xs ≡ plain ys → map piece_of (items limit place form xs) ≡ map piece_of (items limit place form ys)
same-pieces limit place form [] [] h = refl
same-pieces limit place form [] (y ∷ ys) h = absurd (omega (arith, ap length h))
same-pieces limit place form (x ∷ xs) [] h = absurd (omega (arith, ap length h))
same-pieces limit place form (x ∷ xs) (y ∷ ys) h =
    let first : x.0 ≡ y.0 = ap (λ (bs : List ℕ). slice_index_or bs 0 0) h in
    let rest : plain xs ≡ plain ys = ap (λ (bs : List ℕ). drop 1 bs) h in
    let f = open_at limit place form x.0 in
    map-append piece_of (item_at limit place form x) (items limit (place + 1) f xs)
    ∙ ap (λ (ps : List Piece). ps ++ map piece_of (items limit (place + 1) f xs)) (piece-at limit place form x.0 x.1 y.1)
    ∙ ap (λ (n : ℕ). map piece_of (item_at limit place form (n, y.1)) ++ map piece_of (items limit (place + 1) (open_at limit place form n) xs)) first
    ∙ ap (λ (ps : List Piece). map piece_of (item_at limit place form y) ++ ps) (same-pieces limit (place + 1) (open_at limit place form y.0) xs ys rest)
    ∙ sym (map-append piece_of (item_at limit place form y) (items limit (place + 1) (open_at limit place form y.0) ys))

pub moments-free : (kind : FrameKind) (limit : ℕ) (bytes others : List Stamped) → plain bytes ≡ plain others → map piece_of (items_of kind limit bytes) ≡ map piece_of (items_of kind limit others)
moments-free kind limit bytes others h = same-pieces limit 0 (beginning kind) bytes others h

-- One byte on.

-- the form is one of this framing, and what stands open of a line began at `base`
abbrev StandsItem : FrameKind → ℕ → ℕ → Form → Type 0
StandsItem Lines base place (Text line) = base + length line ≡ place
StandsItem Counted base place (Count value) = base ≤ place
StandsItem Counted base place (Body missing text) = base ≤ place
StandsItem Counted base place (Bad bad) = base ≤ place
StandsItem _ base place _ = ⊥

-- the byte makes no item whole
record MakesNone (kind : FrameKind) (limit base place : ℕ) (form : Form) (b : Stamped) : Type 0 where
  none : item_at limit place form b ≡ []
  stands : StandsItem kind base (place + 1) (open_at limit place form b.0)

-- it makes one whole, behind which all is as if the bytes began there
record MakesOneItem (kind : FrameKind) (limit base place : ℕ) (form : Form) (b : Stamped) : Type 0 where
  item : Item
  one : item_at limit place form b ≡ item ∷ []
  above : base < item.end
  from : place ≤ item.end
  stands : StandsItem kind item.end (place + 1) (open_at limit place form b.0)
  rest : (bytes : List Stamped) → items limit (place + 1) (open_at limit place form b.0) bytes ≡ items limit item.end (beginning kind) (drop (item.end - place) (b ∷ bytes))

drop-one : (place : ℕ) (b : Stamped) (bytes : List Stamped) → drop (place + 1 - place) (b ∷ bytes) ≡ bytes
drop-one place b bytes = let one : place + 1 - place ≡ 1 = omega arith in ap (λ (n : ℕ). drop n (b ∷ bytes)) one

drop-none : (place : ℕ) (b : Stamped) (bytes : List Stamped) → drop (place - place) (b ∷ bytes) ≡ b ∷ bytes
drop-none place b bytes = let none : place - place ≡ 0 = omega arith in ap (λ (n : ℕ). drop n (b ∷ bytes)) none

line-step : (limit base place : ℕ) (line : List ℕ) (b : Stamped) (a c : Bool) → (b.0 == 10) ≡ a → (length line == limit) ≡ c → 0 < limit → base + length line ≡ place
    → MakesNone Lines limit base place (Text line) b ⊎ MakesOneItem Lines limit base place (Text line) b
line-step limit base place line b true c q r some h =
    let item : Item = record { text = trimmed line; at = b.1; end = place + 1 } in
    let opens : open_at limit place (Text line) b.0 ≡ Text [] = rw q refl in
    let P : Form → Type 0 = λ f. StandsItem Lines (place + 1) (place + 1) f in
    let zero_is : place + 1 + length {A = ℕ} [] ≡ place + 1 = omega arith in
    inr (record {
      item = item;
      one = rw q refl;
      above = omega (arith, h);
      from = omega arith;
      stands = subst P (sym opens) zero_is;
      rest = λ bytes. ap (λ (f : Form). items limit (place + 1) f bytes) opens ∙ ap (λ (bs : List Stamped). items limit (place + 1) (Text []) bs) (sym (drop-one place b bytes));
    })
line-step limit base place line b false true q r some h =
    let full : length line ≡ limit = grind (arith, r) in
    let item : Item = record { text = trimmed line; at = b.1; end = place } in
    let opens : open_at limit place (Text line) b.0 ≡ Text (b.0 ∷ []) = rw (q, r) refl in
    let P : Form → Type 0 = λ f. StandsItem Lines place (place + 1) f in
    let one_is : place + length (b.0 ∷ []) ≡ place + 1 = omega arith in
    let miss : (0 == limit) ≡ false = grind (arith, some) in
    let first : (bytes : List Stamped) → items limit place (Text []) (b ∷ bytes) ≡ items limit (place + 1) (Text (b.0 ∷ [])) bytes = λ bytes. rw (q, miss) refl in
    inr (record {
      item = item;
      one = rw (q, r) refl;
      above = omega (arith, full, some, h);
      from = omega arith;
      stands = subst P (sym opens) one_is;
      rest = λ bytes. ap (λ (f : Form). items limit (place + 1) f bytes) opens ∙ sym (first bytes) ∙ ap (λ (bs : List Stamped). items limit place (Text []) bs) (sym (drop-none place b bytes));
    })
line-step limit base place line b false false q r some h =
    let opens : open_at limit place (Text line) b.0 ≡ Text (line ++ b.0 ∷ []) = rw (q, r) refl in
    let P : Form → Type 0 = λ f. StandsItem Lines base (place + 1) f in
    let long : length (line ++ b.0 ∷ []) ≡ length line + 1 = length_push line b.0 in
    let is : base + length (line ++ b.0 ∷ []) ≡ place + 1 = omega (arith, long, h) in
    inl (record { none = rw (q, r) refl; stands = subst P (sym opens) is })

count-stands-if : (base place value : ℕ) (b : Bool) (bad : ℕ) → base ≤ place → StandsItem Counted base place (if b then Count value else Bad bad)
count-stands-if base place value true bad h = h
count-stands-if base place value false bad h = h

count-stands : (base place limit value value' : ℕ) (a c : Bool) (bad : ℕ) → base ≤ place → StandsItem Counted base place (if a then count_of limit bad value' else (if c then Body value [] else Bad bad))
count-stands base place limit value value' true c bad h = count-stands-if base place value' (nat_lt 0 value' && nat_le value' limit) bad h
count-stands base place limit value value' false true bad h = h
count-stands base place limit value value' false false bad h = h

body-step : (limit base place missing : ℕ) (text : List ℕ) (b : Stamped) (a : Bool) → (missing == 1) ≡ a → base ≤ place → MakesNone Counted limit base place (Body missing text) b ⊎ MakesOneItem Counted limit base place (Body missing text) b
body-step limit base place missing text b true q h =
    let item : Item = record { text = text ++ b.0 ∷ []; at = b.1; end = place + 1 } in
    let opens : open_at limit place (Body missing text) b.0 ≡ Count 0 = rw q refl in
    let P : Form → Type 0 = λ f. StandsItem Counted (place + 1) (place + 1) f in
    let at_most : place + 1 ≤ place + 1 = omega arith in
    inr (record {
      item = item;
      one = rw q refl;
      above = omega (arith, h);
      from = omega arith;
      stands = subst P (sym opens) at_most;
      rest = λ bytes. ap (λ (f : Form). items limit (place + 1) f bytes) opens ∙ ap (λ (bs : List Stamped). items limit (place + 1) (Count 0) bs) (sym (drop-one place b bytes));
    })
body-step limit base place missing text b false q h =
    let opens : open_at limit place (Body missing text) b.0 ≡ Body (missing - 1) (text ++ b.0 ∷ []) = rw q refl in
    let P : Form → Type 0 = λ f. StandsItem Counted base (place + 1) f in
    let at_most : base ≤ place + 1 = omega (arith, h) in
    inl (record { none = rw q refl; stands = subst P (sym opens) at_most })

step : (kind : FrameKind) (limit base place : ℕ) (form : Form) (b : Stamped) → 0 < limit → StandsItem kind base place form → MakesNone kind limit base place form b ⊎ MakesOneItem kind limit base place form b
step Lines limit base place (Text line) b some h = line-step limit base place line b (b.0 == 10) (length line == limit) refl refl some h
step Lines limit base place (Count value) b some h = absurd h
step Lines limit base place (Body missing text) b some h = absurd h
step Lines limit base place (Bad bad) b some h = absurd h
step Counted limit base place (Text line) b some h = absurd h
step Counted limit base place (Count value) b some h =
    let at_most : base ≤ place + 1 = omega (arith, h) in
    let none : MakesNone Counted limit base place (Count value) b = record { none = refl; stands = count-stands base (place + 1) limit value (value * 10 + (b.0 - 48)) (is_digit b.0) (b.0 == 32 && nat_lt 0 value) place at_most } in
    inl none
step Counted limit base place (Body missing text) b some h = body-step limit base place missing text b (missing == 1) refl h
step Counted limit base place (Bad bad) b some h =
    let at_most : base ≤ place + 1 = omega (arith, h) in
    let none : MakesNone Counted limit base place (Bad bad) b = record { none = refl; stands = at_most } in
    inl none

begins : (kind : FrameKind) (place : ℕ) → StandsItem kind place place (beginning kind)
begins Lines place = omega arith
begins Counted place = omega arith

-- The rest.

cons-parts : (x y : Item) (xs ys : List Item) → x ∷ xs ≡ y ∷ ys → (x ≡ y) × (xs ≡ ys)
cons-parts x y xs ys h = (ap (λ (zs : List Item). slice_index_or zs 0 x) h, ap (λ (zs : List Item). drop 1 zs) h)

-- the item at some place, and what is behind it
record IsRest (kind : FrameKind) (limit place : ℕ) (bytes : List Stamped) (item : Item) (after : List Item) : Type 0 where
  from : place ≤ item.end
  is : after ≡ items limit item.end (beginning kind) (drop (item.end - place) bytes)

rest-later : (kind : FrameKind) (limit place : ℕ) (b : Stamped) (bytes : List Stamped) (item : Item) (after : List Item) → IsRest kind limit (place + 1) bytes item after → IsRest kind limit place (b ∷ bytes) item after
rest-later kind limit place b bytes item after r =
    let above = r.from in
    let one : item.end - place ≡ suc (item.end - (place + 1)) = omega (arith, above) in
    record { from = omega (arith, above); is = r.is ∙ ap (λ (n : ℕ). items limit item.end (beginning kind) (drop n (b ∷ bytes))) (sym one) }

nil-cons : (before : List Item) (item : Item) (after : List Item) → [] ≡ before ++ item ∷ after → ⊥
nil-cons before item after h = let long = length-append before (item ∷ after) in omega (arith, ap length h, long)

rest-split : (kind : FrameKind) (limit place : ℕ) (b : Stamped) (bytes : List Stamped) (it : Item) (rest before : List Item) (item : Item) (after : List Item) → it ∷ rest ≡ before ++ item ∷ after → place ≤ it.end
    → rest ≡ items limit it.end (beginning kind) (drop (it.end - place) (b ∷ bytes)) → ((later : List Item) → rest ≡ later ++ item ∷ after → IsRest kind limit (place + 1) bytes item after) → IsRest kind limit place (b ∷ bytes) item after
rest-split kind limit place b bytes it rest [] item after h from is later =
    let p = cons-parts it item rest after h in
    let P : Item → Type 0 = λ x. IsRest kind limit place (b ∷ bytes) x after in
    let first : P it = record { from = from; is = sym p.1 ∙ is } in
    subst P p.0 first
rest-split kind limit place b bytes it rest (x ∷ before) item after h from is later =
    rest-later kind limit place b bytes item after (later before ((cons-parts it x rest (before ++ item ∷ after) h).1))

rest-at : (kind : FrameKind) (limit base place : ℕ) (form : Form) (bytes : List Stamped) (before : List Item) (item : Item) (after : List Item) → 0 < limit → StandsItem kind base place form → items limit place form bytes ≡ before ++ item ∷ after
    → IsRest kind limit place bytes item after
rest-at kind limit base place form [] before item after some h e = absurd (nil-cons before item after e)
rest-at kind limit base place form (b ∷ bytes) before item after some h e =
    let f = open_at limit place form b.0 in
    let rest = items limit (place + 1) f bytes in
    elim (step kind limit base place form b some h) [
      | inl n ↦ (
          let here : rest ≡ before ++ item ∷ after = sym (ap (λ (xs : List Item). xs ++ rest) n.none) ∙ e in
          rest-later kind limit place b bytes item after (rest-at kind limit base (place + 1) f bytes before item after some n.stands here))
      | inr o ↦ (
          let here : o.item ∷ rest ≡ before ++ item ∷ after = sym (ap (λ (xs : List Item). xs ++ rest) o.one) ∙ e in
          rest-split kind limit place b bytes o.item rest before item after here o.from (o.rest bytes)
          (λ later q. rest-at kind limit o.item.end (place + 1) f bytes later item after some o.stands q))
    ]

pub rest-follows : (kind : FrameKind) (limit : ℕ) (bytes : List Stamped) (before : List Item) (item : Item) (after : List Item) → 0 < limit → items_of kind limit bytes ≡ before ++ item ∷ after
    → map (moved item.end) (items_of kind limit (drop item.end bytes)) ≡ after
rest-follows kind limit bytes before item after some e =
    let r = rest-at kind limit 0 0 (beginning kind) bytes before item after some (begins kind 0) e in
    let at : item.end - 0 ≡ item.end = omega arith in
    let from : item.end + 0 ≡ item.end = omega arith in
    sym (items-shift item.end limit 0 (beginning kind) (drop item.end bytes))
    ∙ ap (λ (n : ℕ). items limit n (beginning kind) (drop item.end bytes)) from
    ∙ ap (λ (n : ℕ). items limit item.end (beginning kind) (drop n bytes)) (sym at)
    ∙ sym r.is

-- Ends rise.

rise-at : (kind : FrameKind) (limit base place : ℕ) (form : Form) (bytes : List Stamped) → 0 < limit → StandsItem kind base place form → Rise base (map piece_of (items limit place form bytes))
rise-at kind limit base place form [] some h = tt
rise-at kind limit base place form (b ∷ bytes) some h =
    let f = open_at limit place form b.0 in
    let rest = items limit (place + 1) f bytes in
    let P : List Item → Type 0 = λ xs. Rise base (map piece_of (xs ++ rest)) in
    elim (step kind limit base place form b some h) [
      | inl n ↦ subst P (sym n.none) (rise-at kind limit base (place + 1) f bytes some n.stands)
      | inr o ↦ subst P (sym o.one) (o.above, rise-at kind limit o.item.end (place + 1) f bytes some o.stands)
    ]

pub ends-rise : (kind : FrameKind) (limit : ℕ) (bytes : List Stamped) → 0 < limit → Rise 0 (map piece_of (items_of kind limit bytes))
ends-rise kind limit bytes some = rise-at kind limit 0 0 (beginning kind) bytes some (begins kind 0)

-- Files.

stamped-append : (xs ys : List ℕ) (at : ℤ) → stamped (xs ++ ys) at ≡ stamped xs at ++ stamped ys at
stamped-append xs ys at = map-append (λ (b : ℕ). let s : Stamped = (b, at) in s) xs ys

plain-stamped : (xs : List ℕ) (at : ℤ) → plain (stamped xs at) ≡ xs
plain-stamped [] at = refl
plain-stamped (x ∷ xs) at = ap (λ (ys : List ℕ). x ∷ ys) (plain-stamped xs at)

plain-append : (xs ys : List Stamped) → plain (xs ++ ys) ≡ plain xs ++ plain ys
plain-append xs ys = map-append (λ (b : Stamped). b.0) xs ys

plain-drop : (n : ℕ) (xs : List Stamped) → plain (drop n xs) ≡ drop n (plain xs)
plain-drop zero xs = refl
plain-drop (suc n) [] = refl
plain-drop (suc n) (x ∷ xs) = plain-drop n xs

-- more bytes, more items
more-items : (kind : FrameKind) (limit : ℕ) (xs ys : List Stamped) → (later : List Item) × (items_of kind limit (xs ++ ys) ≡ items_of kind limit xs ++ later)
more-items kind limit xs ys = (items limit (0 + length xs) (open_after limit 0 (beginning kind) xs) ys, items-append limit 0 (beginning kind) xs ys)

pub pieces-grow : (kind : FrameKind) (limit : ℕ) (bytes more : List ℕ) → (later : List Piece) × (pieces kind limit (bytes ++ more) ≡ pieces kind limit bytes ++ later)
pieces-grow kind limit bytes more =
    let m = more-items kind limit (stamped bytes (pos 0)) (stamped more (pos 0)) in (
      map piece_of m.0,
      ap (λ (bs : List Stamped). map piece_of (items_of kind limit bs)) (stamped-append bytes more (pos 0))
          ∙ ap (map piece_of) m.1
          ∙ map-append piece_of (items_of kind limit (stamped bytes (pos 0))) m.0,
    )

le-true : (a b : ℕ) → a ≤ b → nat_le a b ≡ true
le-true a b h = grind (arith, h)

le-false : (a b : ℕ) → b < a → nat_le a b ≡ false
le-false a b h = grind (arith, h)

-- of items that all end behind a place all are behind it
behind-all : (from : ℕ) (xs : List Piece) → Rise from xs → behind from xs ≡ xs
behind-all from [] r = refl
behind-all from (x ∷ xs) r = let miss = le-false x.end from r.0 in rw miss refl

rise-above : (from : ℕ) (before : List Piece) (x : Piece) (after : List Piece) → Rise from (before ++ x ∷ after) → from < x.end
rise-above from [] x after r = r.0
rise-above from (y ∷ before) x after r = let low = r.0 in let high = rise-above y.end before x after r.1 in omega (arith, low, high)

behind-split : (from : ℕ) (before : List Piece) (x : Piece) (after : List Piece) → Rise from (before ++ x ∷ after) → behind x.end (before ++ x ∷ after) ≡ after
behind-split from [] x after r = let hit : nat_le x.end x.end ≡ true = le-true x.end x.end (omega arith) in rw hit (behind-all x.end after r.1)
behind-split from (y ∷ before) x after r =
    let above = rise-above y.end before x after r.1 in
    let hit : nat_le y.end x.end ≡ true = le-true y.end x.end (omega (arith, above)) in
    rw hit (behind-split y.end before x after r.1)

-- an item among others parts them
record RestParts (xs : List Item) (piece : Piece) : Type 0 where
  before : List Item
  item : Item
  after : List Item
  are : xs ≡ before ++ item ∷ after
  is : piece_of item ≡ piece

parts-at : (xs : List Item) (piece : Piece) (k : ℕ) → k < length (map piece_of xs) → slice_index_or (map piece_of xs) k piece ≡ piece → RestParts xs piece
parts-at [] piece k l h = absurd (omega (arith, l))
parts-at (x ∷ xs) piece zero l h = record { before = []; item = x; after = xs; are = refl; is = h }
parts-at (x ∷ xs) piece (suc k) l h =
    let r = parts-at xs piece k (omega (arith, l)) h in
    record { before = x ∷ r.before; item = r.item; after = r.after; are = ap (λ (ys : List Item). x ∷ ys) r.are; is = r.is }

moved-none : (xs : List Item) → map piece_of (map (moved 0) xs) ≡ map piece_of xs
moved-none [] = refl
moved-none (x ∷ xs) =
    let same : 0 + x.end ≡ x.end = omega arith in
    ap (λ (n : ℕ). let y : Piece = record { text = x.text; end = n } in y ∷ map piece_of (map (moved 0) xs)) same ∙ ap (λ (ys : List Piece). piece_of x ∷ ys) (moved-none xs)

-- the items behind a place where reading may begin
behind-place : (kind : FrameKind) (limit place : ℕ) (bytes : List ℕ) → 0 < limit → IsReadingBegun kind limit bytes place
    → behind place (pieces kind limit bytes) ≡ map piece_of (map (moved place) (items_of kind limit (drop place (stamped bytes (pos 0)))))
behind-place kind limit place bytes some (inl none) =
    let all = items_of kind limit (stamped bytes (pos 0)) in
    let same : (xs : List Item) → map piece_of (map (moved 0) xs) ≡ map piece_of xs = moved-none in
    let P : ℕ → Type 0 = λ n. behind n (pieces kind limit bytes) ≡ map piece_of (map (moved n) (items_of kind limit (drop n (stamped bytes (pos 0))))) in
    subst P (sym none) (behind-all 0 (pieces kind limit bytes) (ends-rise kind limit (stamped bytes (pos 0)) some) ∙ sym (same all))
behind-place kind limit place bytes some (inr y) =
    let all = items_of kind limit (stamped bytes (pos 0)) in
    let p = parts-at all y.0 y.1.0.0 y.1.0.1 y.1.0.2 in
    let end : p.item.end ≡ place = ap (λ (x : Piece). x.end) p.is ∙ y.1.1 in
    let split : map piece_of all ≡ map piece_of p.before ++ piece_of p.item ∷ map piece_of p.after = ap (map piece_of) p.are ∙ map-append piece_of p.before (p.item ∷ p.after) in
    let R : List Piece → Type 0 = λ xs. Rise 0 xs in
    let rise = subst R split (ends-rise kind limit (stamped bytes (pos 0)) some) in
    let P : ℕ → Type 0 = λ n. behind n (pieces kind limit bytes) ≡ map piece_of (map (moved n) (items_of kind limit (drop n (stamped bytes (pos 0))))) in
    subst P end
    (ap (behind p.item.end) split
    ∙ behind-split 0 (map piece_of p.before) (piece_of p.item) (map piece_of p.after) rise
    ∙ ap (map piece_of) (sym (rest-follows kind limit (stamped bytes (pos 0)) p.before p.item p.after some p.are)))

mapped-moved : (n : ℕ) (xs : List Item) → map piece_of (map (moved n) xs) ≡ map (λ (x : Piece). let y : Piece = record { text = x.text; end = n + x.end } in y) (map piece_of xs)
mapped-moved n [] = refl
mapped-moved n (x ∷ xs) = ap (λ (ys : List Piece). piece_of (moved n x) ∷ ys) (mapped-moved n xs)

moved-pieces : (n : ℕ) (xs ys : List Item) → map piece_of xs ≡ map piece_of ys → map piece_of (map (moved n) xs) ≡ map piece_of (map (moved n) ys)
moved-pieces n xs ys h = mapped-moved n xs ∙ ap (map (λ (x : Piece). let y : Piece = record { text = x.text; end = n + x.end } in y)) h ∙ sym (mapped-moved n ys)

pub reading-resumes : (kind : FrameKind) (limit place : ℕ) (bytes left : List ℕ) (given : List Stamped) → 0 < limit → IsReadingBegun kind limit bytes place → plain given ++ left ≡ drop place bytes
    → (later : List Piece) × (behind place (pieces kind limit bytes) ≡ map piece_of (map (moved place) (items_of kind limit given)) ++ later)
reading-resumes kind limit place bytes left given some begun h =
    let rest = drop place (stamped bytes (pos 0)) in
    let whole = given ++ stamped left (pos 0) in
    let same : plain rest ≡ plain whole =
    plain-drop place (stamped bytes (pos 0)) ∙ ap (drop place) (plain-stamped bytes (pos 0)) ∙ sym h ∙ ap (λ (bs : List ℕ). plain given ++ bs) (sym (plain-stamped left (pos 0))) ∙ sym (plain-append given (stamped left (pos 0))) in
    let m = more-items kind limit given (stamped left (pos 0)) in (
      map piece_of (map (moved place) m.0),
      behind-place kind limit place bytes some begun
          ∙ moved-pieces place (items_of kind limit rest) (items_of kind limit whole) (moments-free kind limit rest whole same)
          ∙ ap (λ (xs : List Item). map piece_of (map (moved place) xs)) m.1
          ∙ ap (map piece_of) (map-append (moved place) (items_of kind limit given) m.0)
          ∙ map-append piece_of (map (moved place) (items_of kind limit given)) (map (moved place) m.0),
    )

pub reading-ends : (kind : FrameKind) (limit place : ℕ) (bytes : List ℕ) (given : List Stamped) → 0 < limit → IsReadingBegun kind limit bytes place → plain given ≡ drop place bytes
    → behind place (pieces kind limit bytes) ≡ map piece_of (map (moved place) (items_of kind limit given))
reading-ends kind limit place bytes given some begun h =
    let rest = drop place (stamped bytes (pos 0)) in
    let same : plain rest ≡ plain given = plain-drop place (stamped bytes (pos 0)) ∙ ap (drop place) (plain-stamped bytes (pos 0)) ∙ sym h in
    behind-place kind limit place bytes some begun ∙ moved-pieces place (items_of kind limit rest) (items_of kind limit given) (moments-free kind limit rest given same)
