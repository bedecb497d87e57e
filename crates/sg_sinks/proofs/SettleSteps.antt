-- Entries that are settled, at a destination of the core and at that of the machine.
use Rattle.std.proofs.Common.{◌≡◌, ℕ, ◌+◌, ◌-◌, ◌≤◌, List, [], ◌∷◌, ◌++◌, length, Option, Some, None, Bool, true, false, refl, sym, ap, ◌∙◌, arith, suc, zero, drop, take, if◌then◌else◌}
use Rattle.std.proofs.lemmas.List.{length-append, length-take-le}
use Rattle.sg_msg.specs.Length.{encoded_len}
use Rattle.sg_queue.specs.declared.entry.Entry.{Entry as Waiting}
use Rattle.sg_machine.specs.declared.setup.BufferSetup.{BufferSetup}
use Rattle.sg_machine.specs.declared.state.DestEntry.{DestEntry}
use Rattle.sg_machine.specs.declared.state.Dest.{Dest}
use Rattle.sg_sinks.specs.Standing.{lengths_of, waiting_from, blocks_of, are_waiting, are_split, is_split_by, IsSplit}
use Rattle.sg_sinks.specs.Laws.{Settling}
use Rattle.sg_sinks.proofs.LeftLemmas.{waiting-lengths, waiting-split, rest-waits, first-waits}

drop-nil : {A : Type 0} (n : ℕ) (xs : List A) → xs ≡ [] → drop n xs ≡ []
drop-nil zero [] e = refl
drop-nil (suc n) [] e = refl
drop-nil n (x ∷ xs) e = let wrong : x ∷ xs ≡ [] = e in cc

pub drop-waiting : (n : ℕ) (es : List DestEntry) → are_waiting es ≡ true → are_waiting (drop n es) ≡ true
drop-waiting zero es h = h
drop-waiting (suc n) [] h = refl
drop-waiting (suc n) (e ∷ es) h = drop-waiting n es (rest-waits e es h)

-- by whether the first one is spooled
split-step : (b : Bool) (n : ℕ) (e : DestEntry) (es : List DestEntry) → (are_split es ≡ true → are_split (drop n es) ≡ true) → (if b then are_split es else are_waiting (e ∷ es)) ≡ true → are_split (drop n es) ≡ true
split-step true n e es f h = f h
split-step false n e es f h = waiting-split (drop n es) (drop-waiting n es (rest-waits e es h))

pub drop-split : (n : ℕ) (es : List DestEntry) → are_split es ≡ true → are_split (drop n es) ≡ true
drop-split zero es h = h
drop-split (suc n) [] h = refl
drop-split (suc n) (e ∷ es) h = split-step e.spooled n e es (drop-split n es) h

lengths-step : (b : Bool) (x n : ℕ) (e : DestEntry) (es : List DestEntry) → (are_split es ≡ true → lengths_of (drop n es) ≡ drop n (lengths_of es)) → (if b then are_split es else are_waiting (e ∷ es)) ≡ true
    → lengths_of (drop n es) ≡ drop (suc n) (if b then x ∷ lengths_of es else lengths_of es)
lengths-step true x n e es f h = f h
lengths-step false x n e es f h =
    let w = rest-waits e es h in
    waiting-lengths (drop n es) (drop-waiting n es w) ∙ sym (drop-nil (suc n) (lengths_of es) (waiting-lengths es w))

pub lengths-drop : (n : ℕ) (es : List DestEntry) → are_split es ≡ true → lengths_of (drop n es) ≡ drop n (lengths_of es)
lengths-drop zero es h = refl
lengths-drop (suc n) [] h = refl
lengths-drop (suc n) (e ∷ es) h = lengths-step e.spooled (encoded_len e.message) n e es (lengths-drop n es) h

-- those that wait, where all do
entries-waiting : (p n : ℕ) (es : List DestEntry) → are_waiting es ≡ true → waiting_from (p + n) (drop n es) ≡ drop n (waiting_from p es)
entries-waiting p zero es h = let e : p + 0 ≡ p = omega arith in rw e refl
entries-waiting p (suc n) [] h = refl
entries-waiting p (suc n) (e ∷ es) h =
    let s = first-waits e es h in
    let q : p + suc n ≡ p + 1 + n = omega arith in
    rw (s, q) (entries-waiting (p + 1) n es (rest-waits e es h))

blocks-all : (buffer : Option BufferSetup) (n : ℕ) (es : List DestEntry) → are_waiting es ≡ true → blocks_of buffer (drop n es) ≡ drop n (blocks_of buffer es)
blocks-all buffer zero es h = refl
blocks-all buffer (suc n) [] h = refl
blocks-all buffer (suc n) (e ∷ es) h = rw (first-waits e es h) (blocks-all buffer n es (rest-waits e es h))

-- those that wait, behind the spooled ones; t entries are settled before
abbrev pub DropsEntries : ℕ → ℕ → List DestEntry → Type 0
DropsEntries t n es = waiting_from (t + n + length (lengths_of (drop n es))) (drop n es) ≡ drop (n - length (lengths_of es)) (waiting_from (t + length (lengths_of es)) es)

entries-step : (b : Bool) (t n : ℕ) (e : DestEntry) (es : List DestEntry) → e.spooled ≡ b → are_split (e ∷ es) ≡ true → (are_split es ≡ true → DropsEntries (t + 1) n es)
    → DropsEntries t (suc n) (e ∷ es)
entries-step true t n e es s h f =
    let here : are_split es ≡ true = grind (arith, s, h) in
    let i = f here in
    let a : t + suc n ≡ t + 1 + n = omega arith in
    let b : t + suc (length (lengths_of es)) ≡ t + 1 + length (lengths_of es) = omega arith in
    let c : suc n - suc (length (lengths_of es)) ≡ n - length (lengths_of es) = omega arith in
    rw (s, a, b, c) i
entries-step false t n e es s h f =
    let here : are_waiting (e ∷ es) ≡ true = grind (arith, s, h) in
    let w = rest-waits e es here in
    let l = waiting-lengths es w in
    let m = waiting-lengths (drop n es) (drop-waiting n es w) in
    let i = entries-waiting (t + 1) n es w in
    let a : t + suc n + 0 ≡ t + 1 + n = omega arith in
    let b : t + 0 ≡ t = omega arith in
    let c : suc n - 0 ≡ suc n = omega arith in
    rw (s, l, m, a, b, c) i

pub entries-drop : (t n : ℕ) (es : List DestEntry) → are_split es ≡ true → DropsEntries t n es
entries-drop t zero es h =
    let e : t + 0 ≡ t = omega arith in
    let z : 0 - length (lengths_of es) ≡ 0 = omega arith in
    rw (e, z) refl
entries-drop t (suc n) [] h = sym (drop-nil {A = Waiting} (suc n - 0) [] refl)
entries-drop t (suc n) (e ∷ es) h = entries-step e.spooled t n e es refl h (entries-drop (t + 1) n es)

abbrev pub DropsBlocks : Option BufferSetup → ℕ → List DestEntry → Type 0
DropsBlocks buffer n es = blocks_of buffer (drop n es) ≡ drop (n - length (lengths_of es)) (blocks_of buffer es)

blocks-step : (buffer : Option BufferSetup) (b : Bool) (n : ℕ) (e : DestEntry) (es : List DestEntry) → e.spooled ≡ b → are_split (e ∷ es) ≡ true → (are_split es ≡ true → DropsBlocks buffer n es)
    → DropsBlocks buffer (suc n) (e ∷ es)
blocks-step buffer true n e es s h f =
    let here : are_split es ≡ true = grind (arith, s, h) in
    let c : suc n - suc (length (lengths_of es)) ≡ n - length (lengths_of es) = omega arith in
    rw (s, c) (f here)
blocks-step buffer false n e es s h f =
    let here : are_waiting (e ∷ es) ≡ true = grind (arith, s, h) in
    let w = rest-waits e es here in
    let c : suc n - 0 ≡ suc n = omega arith in
    rw (s, waiting-lengths es w, c) (blocks-all buffer n es w)

pub blocks-drop : (buffer : Option BufferSetup) (n : ℕ) (es : List DestEntry) → are_split es ≡ true → DropsBlocks buffer n es
blocks-drop buffer zero es h = let z : 0 - length (lengths_of es) ≡ 0 = omega arith in rw z refl
blocks-drop buffer (suc n) [] h = sym (drop-nil {A = Option (List ℕ)} (suc n - 0) [] refl)
blocks-drop buffer (suc n) (e ∷ es) h = blocks-step buffer e.spooled n e es refl h (blocks-drop buffer n es)

any-split : (buffer : Option BufferSetup) (es : List DestEntry) → is_split_by buffer es ≡ true → are_split es ≡ true
any-split None es h = waiting-split es h
any-split (Some buffer) es h = h

split-drop : (buffer : Option BufferSetup) (n : ℕ) (es : List DestEntry) → is_split_by buffer es ≡ true → is_split_by buffer (drop n es) ≡ true
split-drop None n es h = drop-waiting n es h
split-drop (Some buffer) n es h = drop-split n es h

pub settling : (dest : Dest) (broken : Bool) (n : ℕ) → n ≤ length dest.left → IsSplit dest → Settling dest broken n
settling dest broken n l h =
    let s = any-split dest.setup.buffer dest.left h in
    let t : length (dest.settled ++ take n dest.left) ≡ length dest.settled + n = length-append dest.settled (take n dest.left) ∙ ap (λ k. length dest.settled + k) (length-take-le n dest.left l) in
    record {
      split = split-drop dest.setup.buffer n dest.left h;
      seen = rw (t, entries-drop (length dest.settled) n dest.left s, lengths-drop n dest.left s, blocks-drop dest.setup.buffer n dest.left s) refl;
    }
