-- The entries left at a destination, those on the disk and those that wait.
use Rattle.std.proofs.Common.{◌≡◌, ℕ, ◌+◌, ◌==◌, List, [], ◌∷◌, ◌++◌, length, Option, Bool, true, false, not, refl, sym, ap, ◌∙◌, arith, suc, if◌then◌else◌}
use Rattle.std.specs.Prelude.{is_some}
use Rattle.std.proofs.lemmas.List.Sums.{sum_by-cons}
use Rattle.sg_msg.specs.Length.{encoded_len}
use Rattle.sg_queue.specs.declared.entry.Entry.{Entry as Waiting}
use Rattle.sg_queue.specs.Waiting.{unflowed_of}
use Rattle.sg_machine.specs.declared.setup.BufferSetup.{BufferSetup}
use Rattle.sg_machine.specs.declared.state.DestEntry.{DestEntry}
use Rattle.sg_machine.specs.Entries.{used, any_waits, unflowed}
use Rattle.sg_sinks.specs.Fitting.{space}
use Rattle.sg_sinks.specs.Blocks.{block_of}
use Rattle.sg_sinks.specs.Standing.{kept_of, lengths_of, waiting_at, waiting_from, blocks_of, are_waiting, are_split}

pub used-space : (es : List DestEntry) → used es ≡ space (lengths_of es)
used-space [] = refl
used-space (e ∷ es) = grind (arith, used-space es)

-- none is on the disk
pub waiting-lengths : (es : List DestEntry) → are_waiting es ≡ true → lengths_of es ≡ []
waiting-lengths [] h = refl
waiting-lengths (e ∷ es) h = grind (arith, waiting-lengths es)

pub waiting-all : (p : ℕ) (es : List DestEntry) → are_waiting es ≡ true → length (waiting_from p es) ≡ length es
waiting-all p [] h = refl
waiting-all p (e ∷ es) h = grind (arith, waiting-all (p + 1) es)

pub waiting-split : (es : List DestEntry) → are_waiting es ≡ true → are_split es ≡ true
waiting-split [] h = refl
waiting-split (e ∷ es) h = grind (arith)

pub waiting-any : (p : ℕ) (es : List DestEntry) → any_waits es ≡ not (length (waiting_from p es) == 0)
waiting-any p [] = refl
waiting-any p (e ∷ es) = grind (arith, waiting-any p es)

pub none-waits : (p : ℕ) (es : List DestEntry) → any_waits es ≡ false → waiting_from p es ≡ []
none-waits p [] h = refl
none-waits p (e ∷ es) h = grind (arith, none-waits p es)

pub none-blocks : (buffer : Option BufferSetup) (es : List DestEntry) → any_waits es ≡ false → blocks_of buffer es ≡ []
none-blocks buffer [] h = refl
none-blocks buffer (e ∷ es) h = grind (arith, none-blocks buffer es)

-- one more behind them
pub lengths-spooled : (es : List DestEntry) (x : DestEntry) → x.spooled ≡ true → lengths_of (es ++ x ∷ []) ≡ lengths_of es ++ encoded_len x.message ∷ []
lengths-spooled [] x s = rw s refl
lengths-spooled (e ∷ es) x s = grind (arith, lengths-spooled es x s)

pub lengths-waiting : (es : List DestEntry) (x : DestEntry) → x.spooled ≡ false → lengths_of (es ++ x ∷ []) ≡ lengths_of es
lengths-waiting [] x s = rw s refl
lengths-waiting (e ∷ es) x s = grind (arith, lengths-waiting es x s)

pub waiting-spooled : (p : ℕ) (es : List DestEntry) (x : DestEntry) → x.spooled ≡ true → waiting_from p (es ++ x ∷ []) ≡ waiting_from p es
waiting-spooled p [] x s = rw s refl
waiting-spooled p (e ∷ es) x s = grind (arith, waiting-spooled p es x s, waiting-spooled (p + 1) es x s)

push-step : (b : Bool) (p : ℕ) (y : Waiting) (short long shorts longs : List Waiting) (x : ℕ → Waiting)
    → short ≡ longs ++ x (p + length longs) ∷ [] → long ≡ shorts ++ x (p + 1 + length shorts) ∷ []
    → (if b then short else y ∷ long) ≡ (if b then longs else y ∷ shorts) ++ x (p + length (if b then longs else y ∷ shorts)) ∷ []
push-step true p y short long shorts longs x h i = h
push-step false p y short long shorts longs x h i = rw i (let e : p + 1 + length shorts ≡ p + suc (length shorts) = omega arith in rw e refl)

pub waiting-waiting : (p : ℕ) (es : List DestEntry) (x : DestEntry) → x.spooled ≡ false
    → waiting_from p (es ++ x ∷ []) ≡ waiting_from p es ++ waiting_at (p + length (waiting_from p es)) x ∷ []
waiting-waiting p [] x s = rw s (let e : p + 0 ≡ p = omega arith in rw e refl)
waiting-waiting p (e ∷ es) x s =
    push-step e.spooled p (waiting_at p e) (waiting_from p (es ++ x ∷ [])) (waiting_from (p + 1) (es ++ x ∷ [])) (waiting_from (p + 1) es) (waiting_from p es) (λ q. waiting_at q x)
    (waiting-waiting p es x s)
    (waiting-waiting (p + 1) es x s)

pub blocks-spooled : (buffer : Option BufferSetup) (es : List DestEntry) (x : DestEntry) → x.spooled ≡ true → blocks_of buffer (es ++ x ∷ []) ≡ blocks_of buffer es
blocks-spooled buffer [] x s = rw s refl
blocks-spooled buffer (e ∷ es) x s = grind (arith, blocks-spooled buffer es x s)

pub blocks-waiting : (buffer : Option BufferSetup) (es : List DestEntry) (x : DestEntry) → x.spooled ≡ false
    → blocks_of buffer (es ++ x ∷ []) ≡ blocks_of buffer es ++ block_of buffer (kept_of x) ∷ []
blocks-waiting buffer [] x s = rw s refl
blocks-waiting buffer (e ∷ es) x s = grind (arith, blocks-waiting buffer es x s)

pub are-waiting-push : (es : List DestEntry) (x : DestEntry) → are_waiting es ≡ true → x.spooled ≡ false → is_some x.number ≡ true → are_waiting (es ++ x ∷ []) ≡ true
are-waiting-push [] x h s n = rw (s, n) refl
are-waiting-push (e ∷ es) x h s n = grind (arith, are-waiting-push es x)

pub are-split-push : (es : List DestEntry) (x : DestEntry) → are_split es ≡ true → x.spooled ≡ false → is_some x.number ≡ true → are_split (es ++ x ∷ []) ≡ true
are-split-push [] x h s n = rw (s, n) refl
are-split-push (e ∷ es) x h s n = grind (arith, are-split-push es x, are-waiting-push es x)

pub are-split-spooled : (es : List DestEntry) (x : DestEntry) → any_waits es ≡ false → x.spooled ≡ true → are_split (es ++ x ∷ []) ≡ true
are-split-spooled [] x h s = rw s refl
are-split-spooled (e ∷ es) x h s = grind (arith, are-split-spooled es x)

-- those without flow-control
pub unflowed-cons : (e : DestEntry) (es : List DestEntry) → unflowed (e ∷ es) ≡ (if not e.flow then 1 else 0) + unflowed es
unflowed-cons e es = sum_by-cons (λ x. if not x.flow then 1 else 0) e es

pub unflowed_of-cons : (e : Waiting) (es : List Waiting) → unflowed_of (e ∷ es) ≡ (if not e.flow then 1 else 0) + unflowed_of es
unflowed_of-cons e es = sum_by-cons (λ x. if not x.flow then 1 else 0) e es

unflowed-step : (b : Bool) (p : ℕ) (e : DestEntry) (es : List DestEntry) → e.spooled ≡ b → b ≡ false → unflowed_of (waiting_from (p + 1) es) ≡ unflowed es → unflowed_of (waiting_from p (e ∷ es)) ≡ unflowed (e ∷ es)
unflowed-step true p e es s f h = let wrong : true ≡ false = f in cc
unflowed-step false p e es s f h = rw s (unflowed_of-cons (waiting_at p e) (waiting_from (p + 1) es) ∙ ap (λ n. (if not e.flow then 1 else 0) + n) h ∙ sym (unflowed-cons e es))

pub first-waits : (e : DestEntry) (es : List DestEntry) → are_waiting (e ∷ es) ≡ true → e.spooled ≡ false
first-waits e es h = grind arith

pub rest-waits : (e : DestEntry) (es : List DestEntry) → are_waiting (e ∷ es) ≡ true → are_waiting es ≡ true
rest-waits e es h = grind arith

pub unflowed-waiting : (p : ℕ) (es : List DestEntry) → are_waiting es ≡ true → unflowed_of (waiting_from p es) ≡ unflowed es
unflowed-waiting p [] h = refl
unflowed-waiting p (e ∷ es) h = unflowed-step e.spooled p e es refl (first-waits e es h) (unflowed-waiting (p + 1) es (rest-waits e es h))
