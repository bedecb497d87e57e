-- Entries left whose spooled ones stand first: what settling and spooling one of them changes.
use Rattle.std.proofs.Common.{◌≡◌, ℕ, ◌+◌, ◌-◌, List, [], ◌∷◌, ◌++◌, length, map, max, Some, None, Option, Bool, true, false, not, ◌&&◌, refl, sym, ap, ◌∙◌, arith, suc, zero, slice_get, count_by, if◌then◌else◌, append_assoc, inl, inr}
use Rattle.std.specs.Prelude.{nat_lt}
use Rattle.std.specs.Option.{option_map, option_map_or}
use Rattle.std.proofs.lemmas.Bool.{cases_Bool}
use Rattle.std.proofs.lemmas.List.{length_push, length-map, length-append, map-append}
use Rattle.sg_msg.specs.Length.{encoded_len}
use Rattle.sg_machine.specs.declared.setup.DestSetup.{DestSetup}
use Rattle.sg_machine.specs.declared.state.DestEntry.{DestEntry}
use Rattle.sg_machine.specs.declared.state.Dest.{Dest}
use Rattle.sg_machine.specs.declared.running.Slip.{Slip}
use Rattle.sg_machine.specs.declared.running.DestRun.{DestRun}
use Rattle.sg_machine.specs.Entries.{used, unflowed, fits, any_waits}
use Rattle.sg_machine.specs.Marks.{is_owed_to}
use Rattle.sg_machine.specs.Legal.{first_fits}
use Rattle.sg_machine.specs.Effects.{settled_some, spool_first, refilled_some}
use Rattle.sg_machine.specs.Running.{slip_of, spooled_in, dest_run, all_wait, is_split}
use Rattle.sg_machine.specs.Turns.{settled_run, moved_run, can_move}
use Rattle.sg_machine.proofs.OwedLemmas.{one_if, count_by-cons, Lessens}

-- the entry at a place behind others
pub get-behind : (xs ys : List DestEntry) (k n : ℕ) → n ≡ length xs + k → slice_get (map slip_of (xs ++ ys)) n ≡ option_map slip_of (slice_get ys k)
get-behind [] [] k n e = refl
get-behind [] (y ∷ ys) zero n e = let z : n ≡ 0 = omega arith in rw z refl
get-behind [] (y ∷ ys) (suc k) n e = let z : n ≡ suc k = omega arith in rw z (get-behind [] ys k k (omega arith))
get-behind (x ∷ xs) ys k zero e = absurd (omega arith)
get-behind (x ∷ xs) ys k (suc n) e = get-behind xs ys k n (omega arith)

pub wait-none : (es : List DestEntry) → all_wait es ≡ true → spooled_in es ≡ 0
wait-none [] h = refl
wait-none (e ∷ es) h = grind (arith, wait-none es)

wait-split-if : (e : DestEntry) (es : List DestEntry) (b : Bool) → e.spooled ≡ b → (not e.spooled && all_wait es) ≡ true → is_split (e ∷ es) ≡ true
wait-split-if e es true s h = let wrong : false ≡ true = rw s at h in cc
wait-split-if e es false s h = rw s (rw s at h)

pub wait-split : (es : List DestEntry) → all_wait es ≡ true → is_split es ≡ true
wait-split [] h = refl
wait-split (e ∷ es) h = wait-split-if e es e.spooled refl h

pub split-spooled : (e : DestEntry) (es : List DestEntry) → e.spooled ≡ true → is_split (e ∷ es) ≡ true → is_split es ≡ true
split-spooled e es s h = rw s at h

pub split-waits : (e : DestEntry) (es : List DestEntry) → e.spooled ≡ false → is_split (e ∷ es) ≡ true → all_wait es ≡ true
split-waits e es s h = rw s at h

split-tail-if : (e : DestEntry) (es : List DestEntry) (b : Bool) → e.spooled ≡ b → is_split (e ∷ es) ≡ true → is_split es ≡ true
split-tail-if e es true s h = split-spooled e es s h
split-tail-if e es false s h = wait-split es (split-waits e es s h)

pub split-tail : (e : DestEntry) (es : List DestEntry) → is_split (e ∷ es) ≡ true → is_split es ≡ true
split-tail e es h = split-tail-if e es e.spooled refl h

pub spooled-cons : (e : DestEntry) (es : List DestEntry) → e.spooled ≡ true → spooled_in (e ∷ es) ≡ suc (spooled_in es)
spooled-cons e es s = rw s refl

pub waiting-cons : (e : DestEntry) (es : List DestEntry) → e.spooled ≡ false → is_split (e ∷ es) ≡ true → spooled_in (e ∷ es) ≡ 0
waiting-cons e es s h = rw s (wait-none es (split-waits e es s h))

-- The first entry is settled.

flow-less : (e : DestEntry) (es : List DestEntry) (b : Bool) → e.flow ≡ b → unflowed es ≡ (if b then unflowed (e ∷ es) else unflowed (e ∷ es) - 1)
flow-less e es true h = let c = count_by-cons (λ x. not x.flow) e es in let z : one_if (not e.flow) ≡ 0 = rw h refl in omega arith
flow-less e es false h = let c = count_by-cons (λ x. not x.flow) e es in let z : one_if (not e.flow) ≡ 1 = rw h refl in omega arith

moved-less-if : (n s m : ℕ) (e : DestEntry) (es : List DestEntry) (b : Bool) → e.spooled ≡ b → is_split (e ∷ es) ≡ true → n + spooled_in es ≡ s → n ≡ suc m → s ≡ max (m + spooled_in (e ∷ es)) n
moved-less-if n s m e es true h split a at = let c = spooled-cons e es h in omega arith
moved-less-if n s m e es false h split a at = let c = waiting-cons e es h split in let z = wait-none es (split-waits e es h split) in omega arith

used-less-if : (n : ℕ) (e : DestEntry) (es : List DestEntry) (b : Bool) → e.spooled ≡ b → is_split (e ∷ es) ≡ true → used es ≡ (if nat_lt n (n + spooled_in (e ∷ es)) then used (e ∷ es) - (5 + encoded_len e.message) else used (e ∷ es))
used-less-if n e es true h split =
    let c = spooled-cons e es h in
    let l : nat_lt n (n + suc (spooled_in es)) ≡ true = grind arith in
    rw (c, l, h) (omega arith)
used-less-if n e es false h split =
    let c = waiting-cons e es h split in
    let l : nat_lt n (n + 0) ≡ false = grind arith in
    rw (c, l, h) (omega arith)

abbrev mk : DestSetup → List Slip → ℕ → ℕ → ℕ → ℕ → ℕ → ℕ → DestRun
mk a b c d e f g h = record { setup = a; kept = b; taken = c; moved = d; unflowed = e; used = f; dropped_full = g; dropped_disk = h }

pub same-dest : (x y : DestRun) → x.setup ≡ y.setup → x.kept ≡ y.kept → x.taken ≡ y.taken → x.moved ≡ y.moved → x.unflowed ≡ y.unflowed → x.used ≡ y.used → x.dropped_full ≡ y.dropped_full → x.dropped_disk ≡ y.dropped_disk → x ≡ y
same-dest x y a b c d e f g h =
    ap (λ u. mk u x.kept x.taken x.moved x.unflowed x.used x.dropped_full x.dropped_disk) a
    ∙ ap (λ u. mk y.setup u x.taken x.moved x.unflowed x.used x.dropped_full x.dropped_disk) b
    ∙ ap (λ u. mk y.setup y.kept u x.moved x.unflowed x.used x.dropped_full x.dropped_disk) c
    ∙ ap (λ u. mk y.setup y.kept y.taken u x.unflowed x.used x.dropped_full x.dropped_disk) d
    ∙ ap (λ u. mk y.setup y.kept y.taken y.moved u x.used x.dropped_full x.dropped_disk) e
    ∙ ap (λ u. mk y.setup y.kept y.taken y.moved y.unflowed u x.dropped_full x.dropped_disk) f
    ∙ ap (λ u. mk y.setup y.kept y.taken y.moved y.unflowed y.used u x.dropped_disk) g
    ∙ ap (λ u. mk y.setup y.kept y.taken y.moved y.unflowed y.used y.dropped_full u) h

pub dest-settled : (dest : Dest) (e : DestEntry) (es : List DestEntry) → dest.left ≡ e ∷ es → is_split dest.left ≡ true → dest_run (settled_some 1 dest) ≡ settled_run (dest_run dest)
dest-settled dest e es h split =
    let n = length dest.settled in
    let one = length_push dest.settled e in
    let at : slice_get (map slip_of (dest.settled ++ (e ∷ es))) n ≡ Some (slip_of e) = get-behind dest.settled (e ∷ es) 0 n (omega arith) in
    let kept : map slip_of ((dest.settled ++ e ∷ []) ++ es) ≡ map slip_of (dest.settled ++ (e ∷ es)) = ap (map slip_of) (append_assoc dest.settled (e ∷ []) es) in
    let parts : is_split (e ∷ es) ≡ true = rw h at split in
    let moved = moved-less-if (length (dest.settled ++ e ∷ [])) (length (dest.settled ++ e ∷ []) + spooled_in es) n e es e.spooled refl parts refl (one ∙ omega arith) in
    let flow = flow-less e es e.flow refl in
    let bytes = used-less-if n e es e.spooled refl parts in
    rw (h, at) (same-dest _ _ refl kept one (moved ∙ ap (λ k. max (n + spooled_in (e ∷ es)) k) one) flow bytes refl refl)

pub settle-lessens : (dest : Dest) (e : DestEntry) (es : List DestEntry) → dest.left ≡ e ∷ es → Lessens dest (settled_some 1 dest) e
settle-lessens dest e es h i n = rw h (count_by-cons (is_owed_to i n) e es)

-- The first entry that waits is spooled.

spool-spooled : (x : DestEntry) (xs : List DestEntry) → x.spooled ≡ true → spool_first (x ∷ xs) ≡ x ∷ spool_first xs
spool-spooled x xs h = grind arith

spool-waits : (x : DestEntry) (xs : List DestEntry) → x.spooled ≡ false → spool_first (x ∷ xs) ≡ record x { spooled = true } ∷ xs
spool-waits x xs h = grind arith

-- all that the spooling of the first entry that waits changes
pub record SpoolsEntry (left new : List DestEntry) (e : DestEntry) : Type 0 where
  pub waits : e.spooled ≡ false
  pub slips : map slip_of new ≡ map slip_of left
  pub spooled : spooled_in new ≡ suc (spooled_in left)
  pub unflowed : unflowed new ≡ unflowed left
  pub used : used new ≡ used left + (5 + encoded_len e.message)
  pub split : is_split new ≡ true
  pub owes : (i n : ℕ) → count_by (is_owed_to i n) left ≡ one_if (is_owed_to i n e) + count_by (is_owed_to i n) new

spools-here : (x : DestEntry) (xs : List DestEntry) → x.spooled ≡ false → is_split (x ∷ xs) ≡ true → SpoolsEntry (x ∷ xs) (record x { spooled = true } ∷ xs) x
spools-here x xs s split =
    let y : DestEntry = record x { spooled = true } in
    let none = wait-none xs (split-waits x xs s split) in
    record {
      waits = s;
      slips = refl;
      spooled = ap suc (none ∙ sym (waiting-cons x xs s split));
      unflowed = count_by-cons (λ e. not e.flow) y xs ∙ sym (count_by-cons (λ e. not e.flow) x xs);
      used = rw s (omega arith);
      split = wait-split xs (split-waits x xs s split);
      owes = λ i n.
          let a = count_by-cons (is_owed_to i n) x xs in
          let b = count_by-cons (is_owed_to i n) y xs in
          let z : is_owed_to i n y ≡ false = grind arith in
          let o : one_if (is_owed_to i n y) ≡ 0 = rw z refl in
          omega arith;
    }

spools-behind : (x : DestEntry) (xs ys : List DestEntry) (e : DestEntry) → x.spooled ≡ true → SpoolsEntry xs ys e → SpoolsEntry (x ∷ xs) (x ∷ ys) e
spools-behind x xs ys e s p = record {
  waits = p.waits;
  slips = ap (λ zs. slip_of x ∷ zs) p.slips;
  spooled = spooled-cons x ys s ∙ ap suc p.spooled ∙ ap suc (sym (spooled-cons x xs s));
  unflowed = count_by-cons (λ y. not y.flow) x ys ∙ ap (λ k. one_if (not x.flow) + k) p.unflowed ∙ sym (count_by-cons (λ y. not y.flow) x xs);
  used = (let u = p.used in rw s (omega arith));
  split = rw s p.split;
  owes = λ i n.
      let a = count_by-cons (is_owed_to i n) x xs in
      let b = count_by-cons (is_owed_to i n) x ys in
      let o = p.owes i n in
      omega arith;
}

pub spools-at : (left : List DestEntry) (e : DestEntry) → is_split left ≡ true → slice_get left (spooled_in left) ≡ Some e → SpoolsEntry left (spool_first left) e
spools-at [] e split h = let wrong : None ≡ Some e = h in cc
spools-at (x ∷ xs) e split h =
    elim (cases_Bool x.spooled) [
      | inl s ↦ (
          let there : slice_get xs (spooled_in xs) ≡ Some e = rw (spooled-cons x xs s) at h in
          rw (spool-spooled x xs s) (spools-behind x xs (spool_first xs) e s (spools-at xs e (split-spooled x xs s split) there)))
      | inr s ↦ (
          let same : Some x ≡ Some e = rw (waiting-cons x xs s split) at h in
          let is : x ≡ e = cc in
          rw (spool-waits x xs s, ← is) (spools-here x xs s split))
    ]

-- the first entry that waits fits
pub first-fits : (capacity : ℕ) (left rest : List DestEntry) → is_split rest ≡ true → first_fits capacity left rest ≡ option_map_or (λ (e : DestEntry). fits capacity left e.message) (slice_get rest (spooled_in rest)) false
first-fits capacity left [] split = refl
first-fits capacity left (x ∷ xs) split =
    elim (cases_Bool x.spooled) [
      | inl s ↦ rw (spooled-cons x xs s, s) (first-fits capacity left xs (split-spooled x xs s split))
      | inr s ↦ rw (waiting-cons x xs s split, s) refl
    ]

option-map-or : (o : Option DestEntry) (p : Slip → Bool) → option_map_or p (option_map slip_of o) false ≡ option_map_or (λ (e : DestEntry). p (slip_of e)) o false
option-map-or None p = refl
option-map-or (Some e) p = refl

pub can-move : (capacity : ℕ) (dest : Dest) → is_split dest.left ≡ true → can_move capacity (dest_run dest) ≡ first_fits capacity dest.left dest.left
can-move capacity dest split =
    let at = get-behind dest.settled dest.left (spooled_in dest.left) (length dest.settled + spooled_in dest.left) refl in
    rw at (option-map-or (slice_get dest.left (spooled_in dest.left)) _ ∙ sym (first-fits capacity dest.left dest.left split))

pub dest-moved : (dest : Dest) (e : DestEntry) → is_split dest.left ≡ true → slice_get dest.left (spooled_in dest.left) ≡ Some e → dest_run (refilled_some 1 dest) ≡ moved_run (dest_run dest)
dest-moved dest e split h =
    let n = length dest.settled in
    let s = spools-at dest.left e split h in
    let at = get-behind dest.settled dest.left (spooled_in dest.left) (n + spooled_in dest.left) refl in
    let kept : map slip_of (dest.settled ++ spool_first dest.left) ≡ map slip_of (dest.settled ++ dest.left) =
    map-append slip_of dest.settled (spool_first dest.left) ∙ ap (λ zs. map slip_of dest.settled ++ zs) s.slips ∙ sym (map-append slip_of dest.settled dest.left) in
    let moved : n + spooled_in (spool_first dest.left) ≡ n + spooled_in dest.left + 1 = (let m = s.spooled in omega arith) in
    rw (at, h) (same-dest _ _ refl kept refl moved s.unflowed s.used refl refl)

-- an entry waits
waits-if : (xs : List DestEntry) → is_split xs ≡ true → any_waits xs ≡ nat_lt (spooled_in xs) (length xs)
waits-if [] split = refl
waits-if (x ∷ xs) split =
    elim (cases_Bool x.spooled) [
      | inl s ↦ (
          let rest = waits-if xs (split-spooled x xs s split) in
          rw (spooled-cons x xs s, s) (rest ∙ grind arith))
      | inr s ↦ rw (waiting-cons x xs s split, s) (grind arith)
    ]

lt-shift : (n a b : ℕ) → nat_lt a b ≡ nat_lt (n + a) (n + b)
lt-shift n a b = grind arith

pub waits-same : (dest : Dest) → is_split dest.left ≡ true → any_waits dest.left ≡ nat_lt (length dest.settled + spooled_in dest.left) (length (map slip_of (dest.settled ++ dest.left)))
waits-same dest split =
    let n = length dest.settled in
    let len : length (map slip_of (dest.settled ++ dest.left)) ≡ n + length dest.left = length-map (dest.settled ++ dest.left) slip_of ∙ length-append dest.settled dest.left in
    waits-if dest.left split ∙ lt-shift n (spooled_in dest.left) (length dest.left) ∙ ap (λ k. nat_lt (n + spooled_in dest.left) k) (sym len)
