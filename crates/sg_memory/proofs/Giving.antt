-- What an inlet in memory has given, and what it has left.
use Rattle.std.proofs.lemmas.List.{take-append-drop, length-take-le, append-nil}
use Rattle.std.proofs.Math.Seq.{take-append-add}
use Rattle.std.proofs.Common.{zero, suc, zero-add, max, ◌+◌, ◌≤◌, ◌<◌, take, drop, ◌≡◌, ℕ, List, [], ◌∷◌, ◌++◌, refl, ap, sym, ◌∙◌, arith, length, length-append}
use Rattle.std.specs.Prelude.{ℤ, map, Option, Some, None, Bool, true, false, is_some, if◌then◌else◌}
use Rattle.std.specs.Option.{option_map}
use Rattle.sg_device.specs.Inlet.{Part, Stamped, stamped, with_bytes, with_part}
use Rattle.sg_memory.specs.Part.{part_of, listed, peer_of, size_of, given_of, left_of, more, total_given}
use Rattle.sg_memory.specs.declared.part.MemoryPart.{MemoryPart}

stamped-append : (xs ys : List ℕ) (t : ℤ) → stamped (xs ++ ys) t ≡ stamped xs t ++ stamped ys t
stamped-append [] ys t = refl
stamped-append (x ∷ xs) ys t = ap (λ r. (x, t) ∷ r) (stamped-append xs ys t)

take-add : (bytes : List ℕ) (at len : ℕ) → at ≤ length bytes → take (at + len) bytes ≡ take at bytes ++ take len (drop at bytes)
take-add bytes at len le =
    let n : length (take at bytes) ≡ at = length-take-le at bytes le in
    ap (λ b. take (at + len) b) (sym (take-append-drop at bytes))
    ∙ ap (λ k. take (k + len) (take at bytes ++ drop at bytes)) (sym n)
    ∙ take-append-add (take at bytes) (drop at bytes) len

-- the bytes given are those before and the next ones
pub stamped-take-add : (bytes next : List ℕ) (given len : ℕ) (t : ℤ) → given ≤ length bytes → next ≡ take len (drop given bytes)
    → stamped (take (given + len) bytes) t ≡ stamped (take given bytes) t ++ stamped next t
stamped-take-add bytes next given len t le is =
    ap (λ b. stamped b t) (take-add bytes given len le)
    ∙ stamped-append (take given bytes) (take len (drop given bytes)) t
    ∙ ap (λ b. stamped (take given bytes) t ++ stamped b t) (sym is)

drop-nil : (n : ℕ) → drop {A = ℕ} n [] ≡ []
drop-nil zero = refl
drop-nil (suc n) = refl

drop-drop-at : (bytes : List ℕ) (at len : ℕ) → drop len (drop at bytes) ≡ drop (at + len) bytes
drop-drop-at bytes zero len = ap (λ n. drop n bytes) (sym (zero-add len))
drop-drop-at [] (suc at) len = drop-nil len ∙ sym (drop-nil (suc at + len))
drop-drop-at (b ∷ bytes) (suc at) len = drop-drop-at bytes at len ∙ ap (λ n. drop n (b ∷ bytes)) (sym (suc-add-at at len))
  where
    suc-add-at : (at len : ℕ) → suc at + len ≡ suc (at + len)
    suc-add-at at len = omega arith

-- the bytes left before are the next ones and those left after
pub drop-next : (bytes next : List ℕ) (given len : ℕ) → next ≡ take len (drop given bytes) → drop given bytes ≡ next ++ drop (given + len) bytes
drop-next bytes next given len is =
    sym (take-append-drop len (drop given bytes))
    ∙ ap (λ b. b ++ drop len (drop given bytes)) (sym is)
    ∙ ap (λ b. next ++ b) (drop-drop-at bytes given len)

-- bytes go behind the last part
pub with_bytes-behind : (parts : List Part) (part : Part) (peer : List ℕ) (given : List Stamped) → with_bytes (parts ++ part ∷ []) peer given ≡ parts ++ (record part { given = part.given ++ given }) ∷ []
with_bytes-behind [] part peer given = refl
with_bytes-behind (x ∷ []) part peer given = refl
with_bytes-behind (x ∷ y ∷ parts) part peer given = ap (λ (l : List Part). x ∷ l) (with_bytes-behind (y ∷ parts) part peer given)

told-behind : (at : ℤ) (past : List MemoryPart) (part : MemoryPart) → map (part_of at) (past ++ part ∷ []) ≡ map (part_of at) past ++ part_of at part ∷ []
told-behind at [] part = refl
told-behind at (x ∷ past) part = ap (λ (l : List Part). part_of at x ∷ l) (told-behind at past part)

pub total-behind : (past : List MemoryPart) (part : MemoryPart) → total_given (past ++ part ∷ []) ≡ total_given past + part.given
total-behind [] part = omega arith
total-behind (x ∷ past) part = omega (arith, total-behind past part)

more_given : (at : ℤ) (part : MemoryPart) (len : ℕ) (next : List ℕ) → part.given ≤ length part.bytes.items → next ≡ take len (drop part.given part.bytes.items) → part_of at (more len part) ≡ record (part_of at part) { given = (part_of at part).given ++ stamped next at }
more_given at part len next within is = ap (λ (g : List Stamped). let p : Part = record { peer = part.peer; given = g } in p) (stamped-take-add part.bytes.items next part.given len at within is)

-- the present part gives the next bytes
pub gives_told : (at : ℤ) (past : List MemoryPart) (present now : Option MemoryPart) (len : ℕ) (next peer : List ℕ) → 0 < length (left_of present) → now ≡ option_map (more len) present → given_of present ≤ size_of present → next ≡ take len (left_of present) → map (part_of at) (past ++ listed now) ≡ with_bytes (map (part_of at) (past ++ listed present)) peer (stamped next at)
gives_told at past None now len next peer some goes within is = grind (arith, some)
gives_told at past (Some part) now len next peer some goes within is =
    ap (λ (p : Option MemoryPart). map (part_of at) (past ++ listed p)) goes
    ∙ told-behind at past (more len part)
    ∙ ap (λ (p : Part). map (part_of at) past ++ p ∷ []) (more_given at part len next within is)
    ∙ sym (with_bytes-behind (map (part_of at) past) (part_of at part) peer (stamped next at))
    ∙ ap (λ (l : List Part). with_bytes l peer (stamped next at)) (sym (told-behind at past part))

pub gives_left : (present now : Option MemoryPart) (len : ℕ) (next : List ℕ) → 0 < length (left_of present) → now ≡ option_map (more len) present → next ≡ take len (left_of present) → left_of present ≡ next ++ left_of now
gives_left None now len next some goes is = grind (arith, some)
gives_left (Some part) now len next some goes is = drop-next part.bytes.items next part.given len is ∙ ap (λ (p : Option MemoryPart). next ++ left_of p) (sym goes)

pub gives_given : (present now : Option MemoryPart) (len : ℕ) → 0 < length (left_of present) → now ≡ option_map (more len) present → given_of now ≡ given_of present + len
gives_given None now len some goes = grind (arith, some)
gives_given (Some part) now len some goes = ap given_of goes

pub gives_size : (present now : Option MemoryPart) (len : ℕ) → now ≡ option_map (more len) present → size_of now ≡ size_of present
gives_size None now len goes = ap size_of goes
gives_size (Some part) now len goes = ap size_of goes

pub gives_peer : (present now : Option MemoryPart) (len : ℕ) → now ≡ option_map (more len) present → peer_of now ≡ peer_of present
gives_peer None now len goes = ap peer_of goes
gives_peer (Some part) now len goes = ap peer_of goes

pub gives_some : (present now : Option MemoryPart) (len : ℕ) → now ≡ option_map (more len) present → is_some now ≡ is_some present
gives_some None now len goes = ap is_some goes
gives_some (Some part) now len goes = ap is_some goes

pub gives_total : (past : List MemoryPart) (present now : Option MemoryPart) (len : ℕ) → 0 < length (left_of present) → now ≡ option_map (more len) present → total_given (past ++ listed now) ≡ total_given (past ++ listed present) + len
gives_total past None now len some goes = grind (arith, some)
gives_total past (Some part) now len some goes = ap (λ (p : Option MemoryPart). total_given (past ++ listed p)) goes ∙ omega (arith, total-behind past (more len part), total-behind past part)

pub gives_count : (past : List MemoryPart) (present now : Option MemoryPart) (len : ℕ) → 0 < length (left_of present) → now ≡ option_map (more len) present → length (past ++ listed now) ≡ max (length (past ++ listed present)) 1
gives_count past None now len some goes = grind (arith, some)
gives_count past (Some part) now len some goes = ap (λ (p : Option MemoryPart). length (past ++ listed p)) goes ∙ omega (arith, length-append past (more len part ∷ []), length-append past (part ∷ []))

-- a part begins
pub begins_told : (at : ℤ) (before past : List MemoryPart) (present : Option MemoryPart) → past ≡ before → is_some present ≡ true → given_of present ≡ 0 → map (part_of at) (past ++ listed present) ≡ with_part (map (part_of at) before) (peer_of present)
begins_told at before past None is some none = let wrong : false ≡ true = some in cc
begins_told at before past (Some part) is some none =
    ap (λ (l : List MemoryPart). map (part_of at) (l ++ part ∷ [])) is
    ∙ told-behind at before part
    ∙ ap (λ (n : ℕ). map (part_of at) before ++ (record { peer = part.peer; given = stamped (take n part.bytes.items) at }) ∷ []) none

pub begins_total : (before past : List MemoryPart) (present : Option MemoryPart) → past ≡ before → given_of present ≡ 0 → total_given (past ++ listed present) ≡ total_given before
begins_total before past None is none = ap total_given (append-nil past ∙ is)
begins_total before past (Some part) is none = ap (λ (l : List MemoryPart). total_given (l ++ part ∷ [])) is ∙ omega (arith, total-behind before part, none)

pub begins_count : (before past : List MemoryPart) (present : Option MemoryPart) → past ≡ before → is_some present ≡ true → length (past ++ listed present) ≡ length before + 1
begins_count before past None is some = let wrong : false ≡ true = some in cc
begins_count before past (Some part) is some = ap (λ (l : List MemoryPart). length (l ++ part ∷ [])) is ∙ length-append before (part ∷ [])

-- what a file has left, where it tells it
pub left-told : (single : Bool) (before next after : List ℕ) → before ≡ next ++ after → (if single then Some before else None) ≡ option_map (λ left. next ++ left) (if single then Some after else None)
left-told true before next after is = ap (λ (l : List ℕ). Some l) is
left-told false before next after is = refl

-- a file has no second part
pub not-single : (single : Bool) (waiting : List MemoryPart) (m : ℕ) → (single ≡ true → waiting ≡ []) → length waiting ≡ m + 1 → single ≡ false
not-single false waiting m alone long = refl
not-single true waiting m alone long = let none : length waiting ≡ 0 = ap length (alone refl) in grind (arith, none, long)
