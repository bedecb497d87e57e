-- Parts of lists that agree, and what reads and writes leave at each place.
use Rattle.std.proofs.Common.{◌≡◌, ◌⊎◌, ◌++◌, inl, inr, ⊎_elim, ℕ, zero, suc, max, replicate, ◌+◌, ◌-◌, ◌<◌, ◌≤◌, List, length, get_or, take, drop, refl, sym, ◌∙◌, ap, arith, rules, length-append, length-take, length-drop, append_assoc, get_or-take, get_or-drop, zero-add}
use Rattle.std.proofs.lemmas.List.{ext_get_or, get_or_past, take-take, take_at, drop_at, take-append-le, drop-drop, drop-take, drop_all, append-nil, replicate-append-replicate, places, length-replicate, get_or_append_left, get_or-append_right}
use Rattle.std.proofs.lemmas.Bool.{cases_lt}
use Rattle.sg_device.specs.DiskBytes.{part, SameIn, overlaid, overwritten, Torn, Written, AreBytesRead}

pub length-part : (at n : ℕ) (c : List ℕ) → at + n ≤ length c → length (part at n c) ≡ n
length-part at n c le = simp (length-take, length-drop) (omega arith)

pub part_at : (at n : ℕ) (c : List ℕ) (k : ℕ) → k < n → get_or (part at n c) k 0 ≡ get_or c (at + k) 0
part_at at n c k lt = get_or-take n (drop at c) k 0 lt ∙ get_or-drop at c k 0

-- where the places agree, the parts do
pub part_same : (at n : ℕ) (c d : List ℕ) → at + n ≤ length c → at + n ≤ length d → SameIn at (at + n) c d → part at n d ≡ part at n c
part_same at n c d in_c in_d same =
    ext_get_or 0 (part at n d) (part at n c) (length-part at n d in_d ∙ sym (length-part at n c in_c))
    (λ k lt. let below : k < n = omega (arith, length-part at n d in_d) in part_at at n d k below ∙ same (at + k) (omega arith) (omega arith) ∙ sym (part_at at n c k below))

pub torn_refl : (at n : ℕ) (c : List ℕ) → Torn at n c c
torn_refl at n c = record { before = λ k low high. refl; after = λ k low high. refl; no_shorter = omega arith; no_longer = omega arith }

pub torn_of_written : (at : ℕ) (bytes c d : List ℕ) → Written at bytes c d → Torn at (length bytes) c d
torn_of_written at bytes c d w = record { before = w.before; after = w.after; no_shorter = omega (arith, w.size); no_longer = omega (arith, w.size) }

-- within the old length a torn write keeps the length, and each byte out of its range
pub torn_length : (at n : ℕ) (c d : List ℕ) → at + n ≤ length c → Torn at n c d → length d ≡ length c
torn_length at n c d fits torn = omega (arith, torn.no_shorter, torn.no_longer)

pub torn_elsewhere : (at n : ℕ) (c d : List ℕ) → at + n ≤ length c → Torn at n c d → (k : ℕ) → (k < at) ⊎ (at + n ≤ k) → get_or d k 0 ≡ get_or c k 0
torn_elsewhere at n c d fits torn k where_ =
    let same = torn_length at n c d fits torn in
    elim (cases_lt k (length c)) [
      | inl inside ↦ ⊎_elim (λ below. torn.before k (omega arith) (omega (arith, below, inside))) (λ above. torn.after k above inside) where_
      | inr past ↦ get_or_past d k 0 (omega (arith, past, same)) ∙ sym (get_or_past c k 0 past)
    ]

-- what a read gives at each place of the buffer
pub read_here : (at n : ℕ) (b before after : List ℕ) → AreBytesRead at b before after n → (k : ℕ) → k < n → get_or after k 0 ≡ get_or b (at + k) 0
read_here at n b before after r k lt = sym (get_or-take n after k 0 lt) ∙ ap (λ (l : List ℕ). get_or l k 0) r.front ∙ part_at at n b k lt

pub read_rest : (at n : ℕ) (b before after : List ℕ) → AreBytesRead at b before after n → (k : ℕ) → n ≤ k → get_or after k 0 ≡ get_or before k 0
read_rest at n b before after r k le =
    let i = k - n in
    let is : k ≡ n + i = omega arith in
    rw is (sym (get_or-drop n after i 0) ∙ ap (λ (l : List ℕ). get_or l i 0) r.rest ∙ get_or-drop n before i 0)

-- a read from 0 into a buffer of zeros: past the end the bytes count as zero
pub read_zeros : (n : ℕ) (b before after : List ℕ) → AreBytesRead 0 b before after n → ((k : ℕ) → get_or before k 0 ≡ 0) → (k : ℕ) → k < length before → get_or after k 0 ≡ get_or b k 0
read_zeros n b before after r zeros k lt = elim (cases_lt k n) [
  | inl inside ↦ read_here 0 n b before after r k inside ∙ ap (λ (i : ℕ). get_or b i 0) (zero-add k)
  | inr past ↦ read_rest 0 n b before after r k past ∙ zeros k ∙ sym (get_or_past b k 0 (omega (arith, past, lt, r.filled)))
]

pub zeros_at : (n k : ℕ) → get_or {A = ℕ} (replicate n 0) k 0 ≡ 0
zeros_at zero k = refl
zeros_at (suc n) zero = refl
zeros_at (suc n) (suc k) = zeros_at n k

-- a part of two pieces
pub part_front : (at m n : ℕ) (c xs ys : List ℕ) → part at (m + n) c ≡ xs ++ ys → length xs ≡ m → part at m c ≡ xs
part_front at m n c xs ys is long =
    sym (take-take m (m + n) (drop at c) (omega arith)) ∙ ap (λ (l : List ℕ). take m l) is ∙ take_at xs ys m long

pub part_back : (at m n : ℕ) (c xs ys : List ℕ) → part at (m + n) c ≡ xs ++ ys → length xs ≡ m → length ys ≡ n → part (at + m) n c ≡ ys
part_back at m n c xs ys is long rest =
    ap (λ (l : List ℕ). take n l) (sym (drop-drop m at c)) ∙ sym (drop-take m n (drop at c)) ∙ ap (λ (l : List ℕ). drop m l) is ∙ drop_at xs ys m long

-- a part of what a read gave, within the file
pub read_part : (at n : ℕ) (b before after : List ℕ) → AreBytesRead at b before after n → (k m : ℕ) → k + m ≤ n → n ≤ length after → at + n ≤ length b → part k m after ≡ part (at + k) m b
read_part at n b before after r k m fits in_after in_b =
    let long = length-part k m after (omega arith) in
    ext_get_or 0 (part k m after) (part (at + k) m b) (long ∙ sym (length-part (at + k) m b (omega arith)))
    (λ i lt. let below : i < m = omega (arith, long, lt) in part_at k m after i below ∙ read_here at n b before after r (k + i) (omega (arith, below)) ∙ ap (λ (j : ℕ). get_or b j 0) (omega arith) ∙ sym (part_at (at + k) m b i below))

abbrev front : ℕ → ℕ → List ℕ → List ℕ
front gap at old = take at (old ++ replicate (at - length old) gap)

length-front : (gap at : ℕ) (old : List ℕ) → length (front gap at old) ≡ at
length-front gap at old = simp (length-take, length-append, length-replicate) (omega arith)

front_at : (gap at : ℕ) (old : List ℕ) (k : ℕ) → k < at → k < length old → get_or (front gap at old) k 0 ≡ get_or old k 0
front_at gap at old k l m = search (rules, places)

pub length-overlaid : (gap at : ℕ) (bytes old : List ℕ) → length (overlaid gap at bytes old) ≡ max (length old) (at + length bytes)
unfolding overlaid
length-overlaid gap at bytes old = omega (arith, length-append (front gap at old ++ bytes) (drop (at + length bytes) old), length-append (front gap at old) bytes, length-front gap at old, length-drop (at + length bytes) old)

there_of : (gap at : ℕ) (bytes old : List ℕ) → part at (length bytes) (overlaid gap at bytes old) ≡ bytes
unfolding overlaid
there_of gap at bytes old =
    let tail = drop (at + length bytes) old in
    let from : drop at (front gap at old ++ bytes ++ tail) ≡ bytes ++ tail = rw (append_assoc (front gap at old) bytes tail) (drop_at (front gap at old) (bytes ++ tail) at (length-front gap at old)) in
    ap (λ (l : List ℕ). take (length bytes) l) from ∙ take_at bytes tail (length bytes) refl

before_of : (gap at : ℕ) (bytes old : List ℕ) (k : ℕ) → k < at → k < length old → get_or (overlaid gap at bytes old) k 0 ≡ get_or old k 0
unfolding overlaid
before_of gap at bytes old k l m =
    let tail = drop (at + length bytes) old in
    rw (append_assoc (front gap at old) bytes tail) (get_or_append_left (front gap at old) (bytes ++ tail) 0 k (omega (arith, length-front gap at old)) ∙ front_at gap at old k l m)

after_of : (gap at : ℕ) (bytes old : List ℕ) (k : ℕ) → at + length bytes ≤ k → get_or (overlaid gap at bytes old) k 0 ≡ get_or old k 0
unfolding overlaid
after_of gap at bytes old k l =
    let n = at + length bytes in
    let long : length (front gap at old ++ bytes) ≡ n = omega (arith, length-append (front gap at old) bytes, length-front gap at old) in
    get_or-append_right (front gap at old ++ bytes) (drop n old) n k 0 long l
    ∙ get_or-drop n old (k - n) 0 ∙ ap (λ (i : ℕ). get_or old i 0) (omega arith)

-- what a write leaves, as it is computed
pub overlaid_by : (gap at : ℕ) (bytes old : List ℕ) → Written at bytes old (overlaid gap at bytes old)
overlaid_by gap at bytes old = record {
  there = there_of gap at bytes old;
  before = λ k low high. before_of gap at bytes old k (omega arith) (omega arith);
  after = λ k low high. after_of gap at bytes old k low;
  size = length-overlaid gap at bytes old;
}

pub written_by : (at : ℕ) (bytes old : List ℕ) → Written at bytes old (overwritten at bytes old)
written_by at bytes old = overlaid_by 0 at bytes old

-- the same, where the list was made long enough first
pub overlaid_grown : (gap at : ℕ) (bytes old : List ℕ) (m : ℕ) → m ≡ at + length bytes - length old → take at (old ++ replicate m gap) ++ bytes ++ drop (at + length bytes) (old ++ replicate m gap) ≡ overlaid gap at bytes old
unfolding overlaid
overlaid_grown gap at bytes old m is =
    let a = at - length old in
    let split : m ≡ a + (m - a) = omega arith in
    let grown : old ++ replicate m gap ≡ (old ++ replicate a gap) ++ replicate (m - a) gap = ap (λ (n : ℕ). old ++ replicate n gap) split ∙ ap (λ (l : List ℕ). old ++ l) (sym (replicate-append-replicate a (m - a) gap)) ∙ sym (append_assoc old (replicate a gap) (replicate (m - a) gap)) in
    let in_front : take at (old ++ replicate m gap) ≡ take at (old ++ replicate a gap) = ap (λ (l : List ℕ). take at l) grown ∙ take-append-le at (old ++ replicate a gap) (replicate (m - a) gap) (simp (length-append, length-replicate) (omega arith)) in
    let behind : drop (at + length bytes) (old ++ replicate m gap) ≡ drop (at + length bytes) old = elim (cases_lt (length old) (at + length bytes)) [
      | inl short ↦ drop_all (at + length bytes) (old ++ replicate m gap) (simp (length-append, length-replicate) (omega arith)) ∙ sym (drop_all (at + length bytes) old (omega (arith, short)))
      | inr enough ↦ let none : m ≡ 0 = omega (arith, enough) in ap (λ (n : ℕ). drop (at + length bytes) (old ++ replicate n gap)) none ∙ ap (λ (l : List ℕ). drop (at + length bytes) l) (append-nil old)
    ] in
    ap (λ (l : List ℕ). l ++ bytes ++ drop (at + length bytes) (old ++ replicate m gap)) in_front ∙ ap (λ (l : List ℕ). take at (old ++ replicate a gap) ++ bytes ++ l) behind
