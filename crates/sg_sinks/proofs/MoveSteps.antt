-- An entry that goes to the disk, at a destination of the core and at that of the machine.
use Rattle.std.proofs.Common.{◌≡◌, ℕ, ◌+◌, List, [], ◌∷◌, ◌++◌, length, Option, Some, None, Bool, true, false, refl, sym, ap, ◌∙◌, arith, drop, slice_get, if◌then◌else◌}
use Rattle.std.specs.Option.{option_map_or}
use Rattle.std.proofs.lemmas.List.{length_push}
use Rattle.sg_msg.specs.Length.{encoded_len}
use Rattle.sg_queue.specs.declared.entry.Entry.{Entry as Waiting}
use Rattle.sg_machine.specs.declared.setup.BufferSetup.{BufferSetup}
use Rattle.sg_machine.specs.declared.state.DestEntry.{DestEntry}
use Rattle.sg_machine.specs.declared.state.Dest.{Dest}
use Rattle.sg_machine.specs.Entries.{fits}
use Rattle.sg_machine.specs.Effects.{spool_first}
use Rattle.sg_machine.specs.Legal.{first_fits}
use Rattle.sg_sinks.specs.Fitting.{space, has_space}
use Rattle.sg_sinks.specs.Moving.{moved_first}
use Rattle.sg_sinks.specs.Standing.{lengths_of, waiting_at, waiting_from, blocks_of, sink_of, are_waiting, are_split, is_split_by, IsSplit}
use Rattle.sg_sinks.specs.Laws.{Moving}
use Rattle.sg_sinks.proofs.LeftLemmas.{used-space, waiting-lengths, waiting-split, rest-waits}

-- the first that waits
abbrev pub first_waiting : List DestEntry → Option DestEntry
first_waiting [] = None
first_waiting (e ∷ es) = if e.spooled then first_waiting es else Some e

-- it is on the disk then, where there is one
abbrev pub and_moved : List ℕ → Option DestEntry → List ℕ
and_moved lengths None = lengths
and_moved lengths (Some e) = lengths ++ encoded_len e.message ∷ []

moved-step : (x : ℕ) (first : Option DestEntry) (ns ms : List ℕ) → ns ≡ and_moved ms first → x ∷ ns ≡ and_moved (x ∷ ms) first
moved-step x None ns ms h = ap (λ l. x ∷ l) h
moved-step x (Some e) ns ms h = ap (λ l. x ∷ l) h

lengths-by : (b : Bool) (e : DestEntry) (es : List DestEntry) → e.spooled ≡ b → (are_split es ≡ true → lengths_of (spool_first es) ≡ and_moved (lengths_of es) (first_waiting es)) → are_split (e ∷ es) ≡ true
    → lengths_of (spool_first (e ∷ es)) ≡ and_moved (lengths_of (e ∷ es)) (first_waiting (e ∷ es))
lengths-by true e es s f h =
    let here : are_split es ≡ true = grind (arith, s, h) in
    rw s (moved-step (encoded_len e.message) (first_waiting es) (lengths_of (spool_first es)) (lengths_of es) (f here))
lengths-by false e es s f h =
    let here : are_waiting (e ∷ es) ≡ true = grind (arith, s, h) in
    let l = waiting-lengths es (rest-waits e es here) in
    rw (s, l) refl

pub lengths-first : (es : List DestEntry) → are_split es ≡ true → lengths_of (spool_first es) ≡ and_moved (lengths_of es) (first_waiting es)
lengths-first [] h = refl
lengths-first (e ∷ es) h = lengths-by e.spooled e es refl (lengths-first es) h

entries-by : (b : Bool) (p : ℕ) (e : DestEntry) (es : List DestEntry) → e.spooled ≡ b → waiting_from (p + 1) (spool_first es) ≡ drop 1 (waiting_from p es)
    → waiting_from (p + 1) (spool_first (e ∷ es)) ≡ drop 1 (waiting_from p (e ∷ es))
entries-by true p e es s f = rw s f
entries-by false p e es s f = rw s refl

pub entries-first : (p : ℕ) (es : List DestEntry) → waiting_from (p + 1) (spool_first es) ≡ drop 1 (waiting_from p es)
entries-first p [] = refl
entries-first p (e ∷ es) = entries-by e.spooled p e es refl (entries-first p es)

blocks-by : (buffer : Option BufferSetup) (b : Bool) (e : DestEntry) (es : List DestEntry) → e.spooled ≡ b → blocks_of buffer (spool_first es) ≡ drop 1 (blocks_of buffer es)
    → blocks_of buffer (spool_first (e ∷ es)) ≡ drop 1 (blocks_of buffer (e ∷ es))
blocks-by buffer true e es s f = rw s f
blocks-by buffer false e es s f = rw s refl

pub blocks-first : (buffer : Option BufferSetup) (es : List DestEntry) → blocks_of buffer (spool_first es) ≡ drop 1 (blocks_of buffer es)
blocks-first buffer [] = refl
blocks-first buffer (e ∷ es) = blocks-by buffer e.spooled e es refl (blocks-first buffer es)

split-by : (b : Bool) (e : DestEntry) (es : List DestEntry) → e.spooled ≡ b → (are_split es ≡ true → are_split (spool_first es) ≡ true) → are_split (e ∷ es) ≡ true → are_split (spool_first (e ∷ es)) ≡ true
split-by true e es s f h = let here : are_split es ≡ true = grind (arith, s, h) in rw s (f here)
split-by false e es s f h =
    let here : are_waiting (e ∷ es) ≡ true = grind (arith, s, h) in
    rw s (waiting-split es (rest-waits e es here))

pub split-first : (es : List DestEntry) → are_split es ≡ true → are_split (spool_first es) ≡ true
split-first [] h = refl
split-first (e ∷ es) h = split-by e.spooled e es refl (split-first es) h

-- nothing moves where none waits
none-by : (b : Bool) (e : DestEntry) (es : List DestEntry) → e.spooled ≡ b → (first_waiting es ≡ None → spool_first es ≡ es) → first_waiting (e ∷ es) ≡ None → spool_first (e ∷ es) ≡ e ∷ es
none-by true e es s f h = let here : first_waiting es ≡ None = grind (arith, s, h) in ap (λ b. if b then e ∷ spool_first es else record e { spooled = true } ∷ es) s ∙ ap (λ l. e ∷ l) (f here)
none-by false e es s f h = let wrong : Some e ≡ None = grind (arith, s, h) in cc

none-first : (es : List DestEntry) → first_waiting es ≡ None → spool_first es ≡ es
none-first [] h = refl
none-first (e ∷ es) h = none-by e.spooled e es refl (none-first es) h

-- what the core has first
abbrev pub shown : ℕ → Option DestEntry → Option Waiting
shown p None = None
shown p (Some e) = Some (waiting_at p e)

shown-by : (b : Bool) (p : ℕ) (e : DestEntry) (es : List DestEntry) → e.spooled ≡ b → slice_get (waiting_from p es) 0 ≡ shown p (first_waiting es) → slice_get (waiting_from p (e ∷ es)) 0 ≡ shown p (first_waiting (e ∷ es))
shown-by true p e es s f = rw s f
shown-by false p e es s f = rw s refl

pub shown-first : (p : ℕ) (es : List DestEntry) → slice_get (waiting_from p es) 0 ≡ shown p (first_waiting es)
shown-first p [] = refl
shown-first p (e ∷ es) = shown-by e.spooled p e es refl (shown-first p es)

abbrev pub fits_one : ℕ → List DestEntry → Option DestEntry → Bool
fits_one capacity left None = false
fits_one capacity left (Some e) = fits capacity left e.message

fits-by : (capacity : ℕ) (left : List DestEntry) (b : Bool) (e : DestEntry) (es : List DestEntry) → e.spooled ≡ b → first_fits capacity left es ≡ fits_one capacity left (first_waiting es)
    → first_fits capacity left (e ∷ es) ≡ fits_one capacity left (first_waiting (e ∷ es))
fits-by capacity left true e es s f = rw s f
fits-by capacity left false e es s f = rw s refl

pub fits-first : (capacity : ℕ) (left es : List DestEntry) → first_fits capacity left es ≡ fits_one capacity left (first_waiting es)
fits-first capacity left [] = refl
fits-first capacity left (e ∷ es) = fits-by capacity left e.spooled e es refl (fits-first capacity left es)

fits-shown : (capacity p : ℕ) (left : List DestEntry) (first : Option DestEntry)
    → fits_one capacity left first ≡ option_map_or (λ (e : Waiting). has_space capacity (space (lengths_of left)) (encoded_len e.message)) (shown p first) false
fits-shown capacity p left None = refl
fits-shown capacity p left (Some e) = rw (used-space left) refl

seen-by : (first : Option DestEntry) (dest : Dest) (broken : Bool) → first_waiting dest.left ≡ first → are_split dest.left ≡ true
    → sink_of broken (record dest { left = spool_first dest.left }) ≡ moved_first (sink_of broken dest)
seen-by None dest broken f h =
    let p : ℕ = length dest.settled + length (lengths_of dest.left) in
    let g : slice_get (waiting_from p dest.left) 0 ≡ None = shown-first p dest.left ∙ ap (shown p) f in
    rw (g, none-first dest.left f) refl
seen-by (Some e) dest broken f h =
    let p : ℕ = length dest.settled + length (lengths_of dest.left) in
    let g : slice_get (waiting_from p dest.left) 0 ≡ Some (waiting_at p e) = shown-first p dest.left ∙ ap (shown p) f in
    let l : lengths_of (spool_first dest.left) ≡ lengths_of dest.left ++ encoded_len e.message ∷ [] = lengths-first dest.left h ∙ ap (and_moved (lengths_of dest.left)) f in
    let n = length_push (lengths_of dest.left) (encoded_len e.message) in
    let q : length dest.settled + (length (lengths_of dest.left) + 1) ≡ p + 1 = omega arith in
    rw (g, l, n, q, entries-first p dest.left, blocks-first dest.setup.buffer dest.left) refl

split-some : (given : Option BufferSetup) (buffer : BufferSetup) (left : List DestEntry) → given ≡ Some buffer → is_split_by given left ≡ true → are_split left ≡ true
split-some None buffer left e h = let wrong : None ≡ Some buffer = e in cc
split-some (Some b) buffer left e h = h

some-split : (given : Option BufferSetup) (buffer : BufferSetup) (left : List DestEntry) → given ≡ Some buffer → are_split left ≡ true → is_split_by given left ≡ true
some-split None buffer left e h = let wrong : None ≡ Some buffer = e in cc
some-split (Some b) buffer left e h = h

pub moving : (dest : Dest) (buffer : BufferSetup) (broken : Bool) → dest.setup.buffer ≡ Some buffer → IsSplit dest → Moving dest buffer broken
moving dest buffer broken b h =
    let s = split-some dest.setup.buffer buffer dest.left b h in
    let p : ℕ = length dest.settled + length (lengths_of dest.left) in
    record {
      fits = fits-first buffer.capacity dest.left dest.left ∙ fits-shown buffer.capacity p dest.left (first_waiting dest.left) ∙ ap (λ o. option_map_or (λ (e : Waiting). has_space buffer.capacity (space (lengths_of dest.left)) (encoded_len e.message)) o false) (sym (shown-first p dest.left));
      split = some-split dest.setup.buffer buffer (spool_first dest.left) b (split-first dest.left s);
      seen = seen-by (first_waiting dest.left) dest broken refl s;
    }
