-- The list that bytes stand for is the one that the function gives.
use Rattle.std.proofs.Common.{◌≡◌, ℕ, zero, suc, ◌+◌, ◌-◌, ◌*◌, ◌≤◌, Bool, true, false, List, [], ◌∷◌, ◌++◌, length, refl, sym, ◌∙◌, ap, arith, Some, None, Option}
use Rattle.std.proofs.lemmas.Grind.{common_steps}
use Rattle.std.proofs.lemmas.List.{append-nil}
use Rattle.std.specs.Prelude.{◌==◌, ◌≢◌, slice_index, if◌then◌else◌}
use Rattle.sg_device.specs.DiskBytes.{part}
use Rattle.sg_spool.specs.Ring.{Entries, size_at, IsEntry, EntryRun, IsEnd, IsJump, IsRow, IsList}
use Rattle.sg_spool.proofs.Rings.{run_space, length_space}
use Rattle.sg_overflow.specs.Listing.{entries_from, entries_in}

not_zero : (n : ℕ) → n ≢ 0 → (n == 0) ≡ false
not_zero zero other = absurd (other refl)
not_zero (suc n) other = grind (arith, common_steps)

some_not_zero : (n m : ℕ) → n ≡ m → 1 ≤ m → (n == 0) ≡ false
some_not_zero zero m is some = absurd (omega (arith, is, some))
some_not_zero (suc n) m is some = grind (arith, common_steps)

-- where a gate is open and a length stands behind it
on_entry : {A : Type 0} (shut jumps : Bool) (none jumped next : A) → shut ≡ false → jumps ≡ false
    → (if shut then none else (if jumps then jumped else next)) ≡ next
on_entry true jumps none jumped next opened some = absurd (let differ : true ≡ false = opened in cc)
on_entry false true none jumped next opened some = absurd (let differ : true ≡ false = some in cc)
on_entry false false none jumped next opened some = refl

on_jump : {A : Type 0} (shut jumps : Bool) (none jumped next : A) → shut ≡ false → jumps ≡ true
    → (if shut then none else (if jumps then jumped else next)) ≡ jumped
on_jump true jumps none jumped next opened some = absurd (let differ : true ≡ false = opened in cc)
on_jump false true none jumped next opened some = refl
on_jump false false none jumped next opened some = absurd (let differ : false ≡ true = some in cc)

on_end : {A : Type 0} (shut : Bool) (none next : A) → shut ≡ true → (if shut then none else next) ≡ none
on_end true none next is = refl
on_end false none next is = absurd (let differ : false ≡ true = is in cc)

entry_first : (bytes : List ℕ) (gate n : ℕ) (p : List ℕ) → IsEntry bytes gate p
    → entries_from (suc n) bytes gate ≡ p ∷ entries_from n bytes (gate + 5 + length p)
entry_first bytes gate n p entry =
    on_entry (slice_index bytes gate == 0) (size_at (gate + 1) bytes == 0) [] (entries_from n bytes 64)
    (part (gate + 5) (size_at (gate + 1) bytes) bytes ∷ entries_from n bytes (gate + 5 + size_at (gate + 1) bytes))
    (not_zero (slice_index bytes gate) entry.opened) (some_not_zero (size_at (gate + 1) bytes) (length p) entry.size entry.fits.some)
    ∙ ap (λ (size : ℕ). part (gate + 5) size bytes ∷ entries_from n bytes (gate + 5 + size)) entry.size
    ∙ ap (λ (first : List ℕ). first ∷ entries_from n bytes (gate + 5 + length p)) entry.there

run_first : (bytes : List ℕ) (gate end n : ℕ) (es : Entries) → EntryRun bytes gate es end
    → entries_from (length es + n) bytes gate ≡ es ++ entries_from n bytes end
run_first bytes gate end n [] run = (let none : 0 + n ≡ n = omega arith in ap (λ (k : ℕ). entries_from k bytes gate) none) ∙ ap (entries_from n bytes) run
run_first bytes gate end n (p ∷ ps) run =
    (let more : suc (length ps) + n ≡ suc (length ps + n) = omega arith in ap (λ (k : ℕ). entries_from k bytes gate) more)
    ∙ entry_first bytes gate (length ps + n) p run.0
    ∙ ap (λ (rest : Entries). p ∷ rest) (run_first bytes (gate + 5 + length p) end n ps run.1)

jump_first : (bytes : List ℕ) (gate n : ℕ) → IsJump bytes gate → entries_from (suc n) bytes gate ≡ entries_from n bytes 64
jump_first bytes gate n jump =
    on_jump (slice_index bytes gate == 0) (size_at (gate + 1) bytes == 0) [] (entries_from n bytes 64)
    (part (gate + 5) (size_at (gate + 1) bytes) bytes ∷ entries_from n bytes (gate + 5 + size_at (gate + 1) bytes))
    (not_zero (slice_index bytes gate) jump.opened) (ap (λ (size : ℕ). size == 0) jump.jumps)

end_first : (bytes : List ℕ) (gate n : ℕ) → IsEnd bytes gate → entries_from (suc n) bytes gate ≡ []
end_first bytes gate n ends =
    on_end (slice_index bytes gate == 0) []
    (if size_at (gate + 1) bytes == 0 then entries_from n bytes 64
    else part (gate + 5) (size_at (gate + 1) bytes) bytes ∷ entries_from n bytes (gate + 5 + size_at (gate + 1) bytes))
    (ap (λ (b : ℕ). b == 0) ends.shut)

-- a run has no more entries than bytes between its ends
run_few : (bytes : List ℕ) (gate end : ℕ) (es : Entries) → EntryRun bytes gate es end → gate + length es ≤ end
run_few bytes gate end es run = omega (arith, run_space bytes gate es end run, length_space es)

row_first : (jump : Option ℕ) (bytes : List ℕ) (head end : ℕ) (es : Entries) → IsRow jump bytes head end es → IsEnd bytes end
    → entries_from (2 * length bytes + 2) bytes head ≡ es
row_first None bytes head end es row ends =
    let few = run_few bytes head end es row in
    let fuel : 2 * length bytes + 2 ≡ length es + suc (2 * length bytes + 1 - length es) = omega (arith, few, ends.inside) in
    ap (λ (n : ℕ). entries_from n bytes head) fuel
    ∙ run_first bytes head end (suc (2 * length bytes + 1 - length es)) es row
    ∙ ap (λ (rest : Entries). es ++ rest) (end_first bytes end (2 * length bytes + 1 - length es) ends)
    ∙ append-nil es
row_first (Some jump) bytes head end es row ends =
    let first = row.first in
    let second = row.second in
    let few = run_few bytes head jump first row.to_jump in
    let fewer = run_few bytes 64 end second row.from_front in
    let left = 2 * length bytes - length first - length second in
    let fuel : 2 * length bytes + 2 ≡ length first + suc (length second + suc left) = omega (arith, few, fewer, ends.inside, row.jumps.whole) in
    ap (λ (n : ℕ). entries_from n bytes head) fuel
    ∙ run_first bytes head jump (suc (length second + suc left)) first row.to_jump
    ∙ ap (λ (rest : Entries). first ++ rest)
    (jump_first bytes jump (length second + suc left) row.jumps
    ∙ run_first bytes 64 end (suc left) second row.from_front
    ∙ ap (λ (rest : Entries). second ++ rest) (end_first bytes end left ends)
    ∙ append-nil second)
    ∙ sym row.both

pub entries_are : (es : Entries) (bytes : List ℕ) → IsList es bytes → entries_in bytes ≡ es
unfolding entries_in
entries_are es bytes list =
    ap (λ (head : ℕ). entries_from (2 * length bytes + 2) bytes head) list.laid.buffer.at_head
    ∙ row_first list.jump bytes list.head list.end es list.laid.row list.laid.ends
