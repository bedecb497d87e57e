-- Entries that wait for a disk-buffer.
use Rattle.std.proofs.Common.{◌≡◌, ℕ, ◌+◌, ◌<◌, ◌≤◌, List, [], ◌∷◌, ◌++◌, length, take, Some, Bool, true, false, if◌then◌else◌, refl, sym, ap, ◌∙◌, arith, suc, zero, map, slice_get, subst, append_assoc}
use Rattle.std.specs.Prelude.{is_some}
use Rattle.std.proofs.lemmas.List.{append-nil}
use Rattle.sg_msg.specs.Length.{encoded_len}
use Rattle.sg_queue.specs.declared.entry.Entry.{Entry as Waiting}
use Rattle.sg_machine.specs.declared.state.DestEntry.{DestEntry}
use Rattle.sg_machine.specs.Counts.{as_kept}
use Rattle.sg_machine.specs.Effects.{spool_first, spool_some}
use Rattle.sg_machine.specs.Running.{spooled_in}
use Rattle.sg_machine.specs.Safe.{spooled_of, waiting}
use Rattle.sg_sinks.specs.Standing.{are_split, are_waiting, waiting_from, waiting_at}
use Rattle.sg_sinks.proofs.LeftLemmas.{first-waits, rest-waits}
use Rattle.sg_sinks.proofs.MoveSteps.{split-first}
use Rattle.sg_stores.specs.Stores.{length_of}
use Rattle.sg_core.proofs.SettleSteps.{split-by}
use Rattle.sg_core.proofs.Spooled.{spooled-cons, waiting-none}

waiting-cons : (b : Bool) (e : DestEntry) (es : List DestEntry) → e.spooled ≡ b → waiting (e ∷ es) ≡ (if b then waiting es else as_kept e ∷ waiting es)
waiting-cons true e es h = rw h refl
waiting-cons false e es h = rw h refl

from-cons : (b : Bool) (p : ℕ) (e : DestEntry) (es : List DestEntry) → e.spooled ≡ b → waiting_from p (e ∷ es) ≡ (if b then waiting_from p es else waiting_at p e ∷ waiting_from (p + 1) es)
from-cons true p e es h = rw h refl
from-cons false p e es h = rw h refl

first-cons : (b : Bool) (e : DestEntry) (es : List DestEntry) → e.spooled ≡ b → spool_first (e ∷ es) ≡ (if b then e ∷ spool_first es else record e { spooled = true } ∷ es)
first-cons true e es h = rw h refl
first-cons false e es h = rw h refl

in-cons : (b : Bool) (e : DestEntry) (es : List DestEntry) → e.spooled ≡ b → spooled_in (e ∷ es) ≡ (if b then suc (spooled_in es) else spooled_in es)
in-cons true e es h = rw h refl
in-cons false e es h = rw h refl

none-in : (es : List DestEntry) → are_waiting es ≡ true → spooled_in es ≡ 0
none-in [] h = refl
none-in (e ∷ es) h = in-cons false e es (first-waits e es h) ∙ none-in es (rest-waits e es h)

number-of : (e : DestEntry) (es : List DestEntry) → are_waiting (e ∷ es) ≡ true → is_some e.number ≡ true
number-of e es h = grind arith

-- the first of those that wait
pub record FirstWaits (left : List DestEntry) (p : ℕ) : Type 0 where
  pub e : DestEntry
  pub memory : e.spooled ≡ false
  pub number : is_some e.number ≡ true
  pub at : slice_get left (spooled_in left) ≡ Some e
  pub shown : waiting_from p left ≡ waiting_at p e ∷ waiting_from (p + 1) (spool_first left)
  pub kept : waiting left ≡ as_kept e ∷ waiting (spool_first left)
  pub spooled : spooled_of (spool_first left) ≡ spooled_of left ++ as_kept e ∷ []

first-by : (b : Bool) (x : DestEntry) (xs : List DestEntry) (p : ℕ) → x.spooled ≡ b → are_split (x ∷ xs) ≡ true → 0 < length (waiting_from p (x ∷ xs)) → (are_split xs ≡ true → 0 < length (waiting_from p xs) → FirstWaits xs p) → FirstWaits (x ∷ xs) p
first-by true x xs p h split some rest =
    let more : 0 < length (waiting_from p xs) = subst (λ (ws : List Waiting). 0 < length ws) (from-cons true p x xs h) some in
    let r = rest (split-by true x xs h split) more in
    let first = first-cons true x xs h in
    record {
      e = r.e;
      memory = r.memory;
      number = r.number;
      at = ap (slice_get (x ∷ xs)) (in-cons true x xs h) ∙ r.at;
      shown = from-cons true p x xs h ∙ r.shown ∙ ap (λ ws. waiting_at p r.e ∷ ws) (sym (ap (waiting_from (p + 1)) first ∙ from-cons true (p + 1) x (spool_first xs) h));
      kept = waiting-cons true x xs h ∙ r.kept ∙ ap (λ ks. as_kept r.e ∷ ks) (sym (ap waiting first ∙ waiting-cons true x (spool_first xs) h));
      spooled = ap spooled_of first ∙ spooled-cons true x (spool_first xs) h ∙ ap (λ ks. as_kept x ∷ ks) r.spooled ∙ ap (λ ks. ks ++ as_kept r.e ∷ []) (sym (spooled-cons true x xs h));
    }
first-by false x xs p h split some rest =
    let w = split-by false x xs h split in
    let y : DestEntry = record x { spooled = true } in
    let first = first-cons false x xs h in
    let none = waiting-none xs (rest-waits x xs w) in
    record {
      e = x;
      memory = h;
      number = number-of x xs w;
      at = ap (slice_get (x ∷ xs)) (in-cons false x xs h ∙ none-in xs (rest-waits x xs w));
      shown = from-cons false p x xs h ∙ ap (λ ws. waiting_at p x ∷ ws) (sym (ap (waiting_from (p + 1)) first ∙ from-cons true (p + 1) y xs refl));
      kept = waiting-cons false x xs h ∙ ap (λ ks. as_kept x ∷ ks) (sym (ap waiting first ∙ waiting-cons true y xs refl));
      spooled = ap spooled_of first ∙ spooled-cons true y xs refl ∙ ap (λ ks. as_kept x ∷ ks) none ∙ ap (λ ks. ks ++ as_kept x ∷ []) (sym (spooled-cons false x xs h ∙ none));
    }

pub first-waiting : (left : List DestEntry) (p : ℕ) → are_split left ≡ true → 0 < length (waiting_from p left) → FirstWaits left p
first-waiting [] p split some = absurd (omega (arith, some))
first-waiting (x ∷ xs) p split some = first-by x.spooled x xs p refl split some (λ s l. first-waiting xs p s l)

-- the first n of them go to the disk
pub spooled-some : (n : ℕ) (left : List DestEntry) (p : ℕ) → are_split left ≡ true → n ≤ length (waiting_from p left) → spooled_of (spool_some n left) ≡ spooled_of left ++ take n (waiting left)
spooled-some zero left p split l = sym (append-nil (spooled_of left))
spooled-some (suc n) left p split l =
    let f = first-waiting left p split (omega (arith, l)) in
    let len : length (waiting_from p left) ≡ suc (length (waiting_from (p + 1) (spool_first left))) = ap length f.shown in
    let rest = spooled-some n (spool_first left) (p + 1) (split-first left split) (omega (arith, l, len)) in
    rest ∙ ap (λ ks. ks ++ take n (waiting (spool_first left))) f.spooled ∙ append_assoc (spooled_of left) (as_kept f.e ∷ []) (take n (waiting (spool_first left)))
    ∙ ap (λ ks. spooled_of left ++ take (suc n) ks) (sym f.kept)

-- as they are kept, and as they wait
length-by : (b : Bool) (p : ℕ) (e : DestEntry) (es : List DestEntry) → e.spooled ≡ b → length (waiting es) ≡ length (waiting_from p es) → length (waiting es) ≡ length (waiting_from (p + 1) es) → length (waiting (e ∷ es)) ≡ length (waiting_from p (e ∷ es))
length-by true p e es h same more = ap length (waiting-cons true e es h) ∙ same ∙ ap length (sym (from-cons true p e es h))
length-by false p e es h same more = ap length (waiting-cons false e es h) ∙ ap suc more ∙ ap length (sym (from-cons false p e es h))

pub waits-length : (p : ℕ) (es : List DestEntry) → length (waiting es) ≡ length (waiting_from p es)
waits-length p [] = refl
waits-length p (e ∷ es) = length-by e.spooled p e es refl (waits-length p es) (waits-length (p + 1) es)

lengths-by : (b : Bool) (n p : ℕ) (e : DestEntry) (es : List DestEntry) → e.spooled ≡ b → ((k q : ℕ) → map length_of (take k (waiting es)) ≡ map (λ (x : Waiting). encoded_len x.message) (take k (waiting_from q es)))
    → map length_of (take n (waiting (e ∷ es))) ≡ map (λ (x : Waiting). encoded_len x.message) (take n (waiting_from p (e ∷ es)))
lengths-by true n p e es h rest = ap (λ ks. map length_of (take n ks)) (waiting-cons true e es h) ∙ rest n p ∙ ap (λ ws. map (λ (x : Waiting). encoded_len x.message) (take n ws)) (sym (from-cons true p e es h))
lengths-by false zero p e es h rest = refl
lengths-by false (suc n) p e es h rest =
    ap (λ ks. map length_of (take (suc n) ks)) (waiting-cons false e es h) ∙ ap (λ ns. encoded_len e.message ∷ ns) (rest n (p + 1)) ∙ ap (λ ws. map (λ (x : Waiting). encoded_len x.message) (take (suc n) ws)) (sym (from-cons false p e es h))

pub waits-lengths : (es : List DestEntry) (n p : ℕ) → map length_of (take n (waiting es)) ≡ map (λ (x : Waiting). encoded_len x.message) (take n (waiting_from p es))
waits-lengths [] zero p = refl
waits-lengths [] (suc n) p = refl
waits-lengths (e ∷ es) n p = lengths-by e.spooled n p e es refl (λ k q. waits-lengths es k q)
