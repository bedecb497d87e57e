-- Entries written anew, one behind another.
use Rattle.std.proofs.Common.{◌≡◌, ℕ, ◌+◌, ◌-◌, ◌<◌, ◌≤◌, ◌^◌, List, [], ◌∷◌, ◌++◌, length, take, map, get_or, refl, sym, ◌∙◌, ap, subst, arith, append_assoc, length-append, Some, None, Option, Bool, true, false}
use Rattle.std.proofs.lemmas.List.{take_at, append-nil}
use Rattle.std.specs.Int.{to_be_bytes, w32}
use Rattle.sg_device.specs.DiskBytes.{part, Written}
use Rattle.sg_device.proofs.Parts.{part_at, part_same, part_front, part_back, torn_of_written}
use Rattle.sg_spool.specs.Copying.{Beyond}
use Rattle.sg_spool.specs.Places.{AreGatesOrdered, IsOrdered, gate_past}
use Rattle.sg_spool.specs.Rewriting.{past_end, past, written_of, HasPayload, Stand, IsShutAt, AddsSpelled, SpellsRing}
use Rattle.sg_spool.specs.Ring.{Entries, IsPayload, IsEntry, EntryRun, IsEnd, IsLaid, block_of}
use Rattle.sg_spool.specs.declared.places.Places.{Places}
use Rattle.sg_spool.proofs.Behind.{length-block}
use Rattle.sg_spool.specs.Advancing.{IsRingReady}
use Rattle.sg_spool.proofs.Copying.{beyond_refl, beyond_trans, beyond_less, beyond_torn}
use Rattle.sg_spool.proofs.Remaining.{past_other, past_jump}
use Rattle.sg_spool.proofs.Rings.{run_grows, size_same, size_of}

-- an open gate, a length and a payload
abbrev body : List ℕ → List ℕ
body p = 1 ∷ (to_be_bytes w32 (length p) ++ p)

length-body : (p : List ℕ) → length (body p) ≡ length p + 5
length-body p = omega (arith, length-append (to_be_bytes w32 (length p)) p)

block_body : (p : List ℕ) → 1 ∷ block_of p ≡ body p ++ 0 ∷ []
unfolding block_of
block_body p = refl

written_last : (p : List ℕ) → written_of true p ≡ body p ++ 0 ∷ []
written_last p = block_body p

pub written_more : (p : List ℕ) → written_of false p ≡ body p
written_more p = ap (λ (l : List ℕ). take (length p + 5) l) (block_body p) ∙ take_at (body p) (0 ∷ []) (length p + 5) (length-body p)

body_there : (at : ℕ) (p c : List ℕ) → IsPayload p → part at (length p + 5) c ≡ body p → at + (length p + 5) ≤ length c → HasPayload c at p
body_there at p c fits is inside =
    let n = length p in
    let size = to_be_bytes w32 n in
    let whole : part at (1 + (4 + n)) c ≡ (1 ∷ []) ++ (size ++ p) = ap (λ (m : ℕ). part at m c) (omega arith) ∙ is in
    let gate : get_or c at 0 ≡ 1 = ap (λ (k : ℕ). get_or c k 0) (omega arith) ∙ sym (part_at at 1 c 0 (omega arith)) ∙ ap (λ (l : List ℕ). get_or l 0 0) (part_front at 1 (4 + n) c (1 ∷ []) (size ++ p) whole refl) in
    let behind : part (at + 1) (4 + n) c ≡ size ++ p = part_back at 1 (4 + n) c (1 ∷ []) (size ++ p) whole refl (length-append size p) in
    record {
      opened = λ shut. let no : 1 ≡ 0 = sym gate ∙ shut in omega (arith, no);
      size = size_of (at + 1) n c (let limit = fits.limit in omega (arith, limit)) (part_front (at + 1) 4 n c size p behind refl);
      fits = fits;
      there = ap (λ (m : ℕ). part m n c) (omega arith) ∙ part_back (at + 1) 4 n c size p behind refl refl;
      whole = omega (arith, inside);
    }

added_there : (last : Bool) (at : ℕ) (p b c : List ℕ) → IsPayload p → at ≤ length b → Written at (written_of last p) b c → HasPayload c at p × IsShutAt last c (at + 5 + length p)
added_there false at p b c fits near put =
    let is = written_more p in
    let long : length (written_of false p) ≡ length p + 5 = ap length is ∙ length-body p in
    (body_there at p c fits (ap (λ (m : ℕ). part at m c) (sym long) ∙ put.there ∙ is) (omega (arith, put.size, long)), tt)
added_there true at p b c fits near put =
    let is = written_last p in
    let long : length (written_of true p) ≡ length p + 5 + 1 = ap length is ∙ length-append (body p) (0 ∷ []) ∙ ap (λ (m : ℕ). m + 1) (length-body p) in
    let whole : part at (length p + 5 + 1) c ≡ body p ++ 0 ∷ [] = ap (λ (m : ℕ). part at m c) (sym long) ∙ put.there ∙ is in
    let last_one : part (at + (length p + 5)) 1 c ≡ 0 ∷ [] = part_back at (length p + 5) 1 c (body p) (0 ∷ []) whole (length-body p) refl in (
      body_there at p c fits (part_front at (length p + 5) 1 c (body p) (0 ∷ []) whole (length-body p)) (omega (arith, put.size, long)),
      record {
        inside = omega (arith, put.size, long);
        shut = ap (λ (k : ℕ). get_or c k 0) (omega arith) ∙ sym (part_at (at + (length p + 5)) 1 c 0 (omega arith)) ∙ ap (λ (l : List ℕ). get_or l 0 0) last_one;
      },
    )

pub adds_by : (last : Bool) (at : ℕ) (p b c : List ℕ) → IsPayload p → Written at (written_of last p) b c → AddsSpelled at p last b c
adds_by last at p b c fits put = record {
  beyond = beyond_torn at (length (written_of last p)) b c (torn_of_written at (written_of last p) b c put);
  added = λ near. added_there last at p b c fits near put;
}

payload_same : (at : ℕ) (p c d : List ℕ) (most : ℕ) → at + 5 + length p ≤ most → HasPayload c at p → Beyond most c d → HasPayload d at p
payload_same at p c d most le has beyond =
    let some = has.fits.some in
    let whole = has.whole in
    let longer = beyond.longer in
    record {
      opened = λ shut. has.opened (sym (beyond.same at (omega (arith, le)) (omega (arith, whole))) ∙ shut);
      size = size_same (at + 1) c d (omega (arith, whole, some)) (omega (arith, whole, some, longer)) (λ j low high. beyond.same j (omega (arith, high, le, some)) (omega (arith, high, whole, some))) ∙ has.size;
      fits = has.fits;
      there = part_same (at + 5) (length p) c d (omega (arith, whole)) (omega (arith, whole, longer)) (λ j low high. beyond.same j (omega (arith, high, le)) (omega (arith, high, whole))) ∙ has.there;
      whole = omega (arith, whole, longer);
    }

stand_grows : (c : List ℕ) (k : ℕ) (es : Entries) (e : ℕ) → Stand c k es e → k ≤ e
stand_grows c k [] e stand = omega (arith, stand)
stand_grows c k (p ∷ ps) e stand = omega (arith, stand_grows c (k + 5 + length p) ps e stand.1)

stand_same : (k : ℕ) (es : Entries) (e : ℕ) (c d : List ℕ) → Stand c k es e → Beyond e c d → Stand d k es e
stand_same k [] e c d stand beyond = stand
stand_same k (p ∷ ps) e c d stand beyond = (payload_same k p c d e (stand_grows c (k + 5 + length p) ps e stand.1) stand.0 beyond, stand_same (k + 5 + length p) ps e c d stand.1 beyond)

stand_push : (k : ℕ) (es : Entries) (e : ℕ) (p c : List ℕ) → Stand c k es e → HasPayload c e p → Stand c k (es ++ p ∷ []) (e + 5 + length p)
stand_push k [] e p c stand has = let same : k ≡ e = stand in (subst (λ (j : ℕ). HasPayload c j p) (sym same) has, ap (λ (j : ℕ). j + 5 + length p) same)
stand_push k (q ∷ qs) e p c stand has = (stand.0, stand_push (k + 5 + length q) qs e p c stand.1 has)

run_of : (k : ℕ) (es : Entries) (e : ℕ) (c : List ℕ) → Stand c k es e → e < length c → EntryRun c k es e
run_of k [] e c stand inside = stand
run_of k (p ∷ ps) e c stand inside =
    let up = stand_grows c (k + 5 + length p) ps e stand.1 in
    let has = stand.0 in
    (record { opened = has.opened; size = has.size; fits = has.fits; there = has.there; next = omega (arith, up, inside) }, run_of (k + 5 + length p) ps e c stand.1 inside)

-- from this gate on these entries are left, and all of them end before the limit
abbrev pub LeftBehind : List ℕ → Option ℕ → ℕ → ℕ → Entries → ℕ → Type 0
LeftBehind c jump limit gate [] end = gate ≡ end
LeftBehind c jump limit gate (p ∷ ps) end = IsEntry c gate p × (gate + 5 + length p ≤ limit) × LeftBehind c jump limit (gate_past jump (gate + 5 + length p)) ps end

left_none : (c : List ℕ) (k : ℕ) (es : Entries) (e : ℕ) → EntryRun c k es e → LeftBehind c None e k es e
left_none c k [] e run = run
left_none c k (p ∷ ps) e run = (run.0, run_grows c (k + 5 + length p) ps e run.1, left_none c (k + 5 + length p) ps e run.1)

left_second : (c : List ℕ) (j k : ℕ) (es : Entries) (e : ℕ) → e < j → EntryRun c k es e → LeftBehind c (Some j) j k es e
left_second c j k [] e below run = run
left_second c j k (p ∷ ps) e below run =
    let up = run_grows c (k + 5 + length p) ps e run.1 in
    (run.0, omega (arith, up, below), subst (λ (i : ℕ). LeftBehind c (Some j) j i ps e) (sym (past_other j (k + 5 + length p) (omega (arith, up, below)))) (left_second c j (k + 5 + length p) ps e below run.1))

left_first : (c : List ℕ) (j k : ℕ) (es fs : Entries) (e : ℕ) → EntryRun c k es j → LeftBehind c (Some j) j 64 fs e → LeftBehind c (Some j) j (gate_past (Some j) k) (es ++ fs) e
left_first c j k [] fs e run rest = subst (λ (i : ℕ). LeftBehind c (Some j) j i fs e) (sym (past_jump j k run)) rest
left_first c j k (p ∷ ps) fs e run rest =
    let up = run_grows c (k + 5 + length p) ps j run.1 in
    subst (λ (i : ℕ). LeftBehind c (Some j) j i ((p ∷ ps) ++ fs) e) (sym (past_other j k (omega (arith, up)))) (run.0, up, left_first c j (k + 5 + length p) ps fs e run.1 rest)

-- the last place that entries may reach
abbrev pub reach : Option ℕ → ℕ → ℕ
reach None end = end
reach (Some jump) end = jump

pub reach_past : (jump : Option ℕ) (end : ℕ) → reach jump end < past_end jump end
reach_past None end = omega arith
reach_past (Some jump) end = omega arith

left_of : (jump : Option ℕ) (head end : ℕ) (es : Entries) (c : List ℕ) → IsLaid jump head end es c → LeftBehind c jump (reach jump end) (gate_past jump head) es end
left_of None head end es c laid = left_none c head es end laid.row
left_of (Some j) head end es c laid =
    let row = laid.row in
    let up = run_grows c head row.first j row.to_jump in
    let below = laid.below in
    subst (λ (l : Entries). LeftBehind c (Some j) j (gate_past (Some j) head) l end) (sym row.both) (left_first c j head row.first row.second end row.to_jump (left_second c j 64 row.second end (omega (arith, below, up)) row.from_front))

pub past_inside : (jump : Option ℕ) (head end : ℕ) (es : Entries) (c : List ℕ) → IsLaid jump head end es c → past_end jump end ≤ length c
past_inside None head end es c laid = omega (arith, laid.ends.inside)
past_inside (Some jump) head end es c laid = laid.row.jumps.whole

-- how far the writing has come, in a list of these entries
pub record SoFar (meaning : List ℕ → List ℕ) (places : Places) (left gate at : ℕ) (es : Entries) (a c : List ℕ) : Type 0 where
  pub done : Entries
  pub rest : Entries
  pub both : es ≡ done ++ rest
  pub number : left ≡ length rest
  pub remains : LeftBehind a places.jump (reach places.jump places.end) gate rest places.end
  pub stand : Stand c (past places) (map meaning done) at
  pub inside : at ≤ length c
  pub shut : left ≡ 0 → IsEnd c at

pub record Spelling (meaning : List ℕ → List ℕ) (places : Places) (count left gate at : ℕ) (old new : List ℕ) : Type 0 where
  pub beyond : Beyond (past places) old new
  pub so_far : (es : Entries) → IsLaid places.jump places.head places.end es old → count ≡ length es → SoFar meaning places left gate at es old new

pub spelling_none : (meaning : List ℕ → List ℕ) (places : Places) (count : ℕ) (a : List ℕ) → 1 ≤ count → Spelling meaning places count count (gate_past places.jump places.head) (past places) a a
spelling_none meaning places count a some = record {
  beyond = beyond_refl (past places) a;
  so_far = λ es laid long. record {
    done = [];
    rest = es;
    both = refl;
    number = long;
    remains = left_of places.jump places.head places.end es a laid;
    stand = refl;
    inside = past_inside places.jump places.head places.end es a laid;
    shut = λ none. absurd (omega (arith, none, some));
  };
}

map_push : (f : List ℕ → List ℕ) (es : Entries) (p : List ℕ) → map f (es ++ p ∷ []) ≡ map f es ++ f p ∷ []
map_push f [] p = refl
map_push f (e ∷ es) p = ap (λ (l : Entries). f e ∷ l) (map_push f es p)

entry_beyond : (gate : ℕ) (p a b : List ℕ) (most : ℕ) → IsEntry a gate p → gate + 5 + length p < most → Beyond most a b → IsEntry b gate p
entry_beyond gate p a b most entry le beyond =
    let has = payload_same gate p a b most (omega (arith, le)) (record { opened = entry.opened; size = entry.size; fits = entry.fits; there = entry.there; whole = omega (arith, entry.next) }) beyond in
    record { opened = has.opened; size = has.size; fits = has.fits; there = has.there; next = omega (arith, entry.next, beyond.longer) }

-- where a list has these entries left, the next is read
module _ (meaning : List ℕ → List ℕ) (places : Places) (count left gate at : ℕ) (payload : List ℕ) (next : ℕ) (last : Bool)
    (fits : IsPayload payload) (some : 1 ≤ left) (high : past places ≤ at)
    (last_is : left ≡ 1 → last ≡ true) (next_is : gate + 5 + length payload < 2 ^ 63 → next ≡ gate_past places.jump (gate + 5 + length payload)) where
  more : (es : Entries) (a b c : List ℕ) → length b < 2 ^ 63 → SoFar meaning places left gate at es a b → Beyond (past places) a b → ((p : List ℕ) → IsEntry b gate p → payload ≡ p) → AddsSpelled at (meaning payload) last b c → SoFar meaning places (left - 1) next (at + 5 + length (meaning payload)) es a c
  more es a b c small so beyond read adds = step so.rest so.both so.number so.remains
    where
      shut_at : (l : Bool) → l ≡ true → IsShutAt l c (at + 5 + length (meaning payload)) → IsEnd c (at + 5 + length (meaning payload))
      shut_at true is shut = shut
      shut_at false is shut = absurd (let e : false ≡ true = is in cc)

      step : (rest : Entries) → es ≡ so.done ++ rest → left ≡ length rest → LeftBehind a places.jump (reach places.jump places.end) gate rest places.end → SoFar meaning places (left - 1) next (at + 5 + length (meaning payload)) es a c
      step [] both number remains = absurd (omega (arith, some, number))
      step (p ∷ ps) both number remains =
          let below = remains.1 in
          let reaches = reach_past places.jump places.end in
          let entry = entry_beyond gate p a b (past places) remains.0 (omega (arith, below, reaches)) beyond in
          let same : payload ≡ p = read p entry in
          let long : length payload ≡ length p = ap length same in
          let inside = entry.next in
          let goes : next ≡ gate_past places.jump (gate + 5 + length p) = next_is (omega (arith, long, inside, small)) ∙ ap (λ (n : ℕ). gate_past places.jump (gate + 5 + n)) long in
          let added = adds.added so.inside in
          record {
            done = so.done ++ p ∷ [];
            rest = ps;
            both = both ∙ sym (append_assoc so.done (p ∷ []) ps);
            number = omega (arith, number);
            remains = subst (λ (k : ℕ). LeftBehind a places.jump (reach places.jump places.end) k ps places.end) (sym goes) remains.2;
            stand = subst (λ (l : Entries). Stand c (past places) l (at + 5 + length (meaning payload))) (ap (λ (l : List ℕ). map meaning so.done ++ meaning l ∷ []) same ∙ sym (map_push meaning so.done p))
                (stand_push (past places) (map meaning so.done) at (meaning payload) c (stand_same (past places) (map meaning so.done) at b c so.stand adds.beyond) added.0);
            inside = added.0.whole;
            shut = λ none. shut_at last (last_is (omega (arith, none, some))) added.1;
          }

  pub spelling_more : (a b c : List ℕ) → length b < 2 ^ 63 → Spelling meaning places count left gate at a b → ((p : List ℕ) → IsEntry b gate p → payload ≡ p) → AddsSpelled at (meaning payload) last b c → Spelling meaning places count (left - 1) next (at + 5 + length (meaning payload)) a c
  spelling_more a b c small so read adds = record {
    beyond = beyond_trans (past places) a b c so.beyond (beyond_less (past places) at b c high adds.beyond);
    so_far = λ es laid long. more es a b c small (so.so_far es laid long) so.beyond read adds;
  }

pub spelled_all : (meaning : List ℕ → List ℕ) (places : Places) (count left gate at : ℕ) (a c : List ℕ) → left ≡ 0 → Spelling meaning places count left gate at a c → SpellsRing meaning places count at a c
spelled_all meaning places count left gate at a c none so = record {
  beyond = so.beyond;
  spelled = λ es laid long. let s = so.so_far es laid long in
      (subst (λ (l : Entries). Stand c (past places) (map meaning l) at) (sym (s.both ∙ ap (λ (l : Entries). s.done ++ l) (nothing s.rest (omega (arith, s.number, none))) ∙ append-nil s.done)) s.stand, s.shut none);
}
  where
    nothing : (es : Entries) → length es ≡ 0 → es ≡ []
    nothing [] is = refl
    nothing (e ∷ es) is = absurd (omega (arith, is))

-- the new list waits for the cell's value
pub ready_spelled : (meaning : List ℕ → List ℕ) (places : Places) (count end : ℕ) (es : Entries) (a c : List ℕ) → IsOrdered places → IsLaid places.jump places.head places.end es a → count ≡ length es → past places ≤ end → SpellsRing meaning places count end a c → IsRingReady None (past places) end (map meaning es) c
ready_spelled meaning places count end es a c ordered laid long after spells =
    let both = spells.spelled es laid long in
    let inside = both.1.inside in
    let high = past_high places.jump places.head places.end ordered in
    record {
      size = omega (arith, laid.buffer.size, spells.beyond.longer);
      high = omega (arith, high);
      low = omega (arith, high, after);
      inside = omega (arith, inside, after);
      row = run_of (past places) (map meaning es) end c both.0 inside;
      ends = both.1;
      below = tt;
    }
  where
    past_high : (jump : Option ℕ) (head end : ℕ) → AreGatesOrdered jump head end → 64 < past_end jump end
    past_high None head end ordered = omega (arith, ordered.0, ordered.1)
    past_high (Some jump) head end ordered = omega (arith, ordered.0, ordered.1, ordered.2)

pub written_long : (last : Bool) (p : List ℕ) → length p + 5 ≤ length (written_of last p)
written_long true p = omega (arith, length-block p)
written_long false p = let long : length (written_of false p) ≡ length p + 5 = ap length (written_more p) ∙ length-body p in omega (arith, long)

-- without its last gate
pub without_last : (last : Bool) (bytes p : List ℕ) → last ≡ false → bytes ≡ 1 ∷ block_of p → take (length bytes - 1) bytes ≡ written_of last p
without_last true bytes p is same = absurd (let e : true ≡ false = is in cc)
without_last false bytes p is same = subst (λ (l : List ℕ). take (length l - 1) l ≡ written_of false p) (sym same) (ap (λ (n : ℕ). take n (1 ∷ block_of p)) (omega (arith, length-block p)))
