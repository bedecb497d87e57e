-- Entries that are settled or moved, in the state and in what `replay` keeps of it.
use Rattle.std.proofs.Common.{◌≡◌, ℕ, ◌+◌, ◌≤◌, List, [], ◌∷◌, ◌++◌, length, map, take, drop, Some, None, Option, Bool, true, false, ◌&&◌, refl, sym, ap, ◌∙◌, arith, suc, zero, slice_get, subst, if◌then◌else◌, append_assoc, inl, inr}
use Rattle.std.specs.Prelude.{nat_lt}
use Rattle.std.specs.Option.{option_map_or}
use Rattle.std.proofs.lemmas.Bool.{cases_Bool}
use Rattle.std.proofs.lemmas.List.{append-nil}
use Rattle.sg_list.specs.Lists.{change}
use Rattle.sg_list.proofs.ListLemmas.{some-same, slice_get-map, get-change-same}
use Rattle.sg_machine.specs.declared.state.DestEntry.{DestEntry}
use Rattle.sg_machine.specs.declared.state.Dest.{Dest}
use Rattle.sg_machine.specs.declared.state.State.{State}
use Rattle.sg_machine.specs.declared.running.Run.{Run}
use Rattle.sg_machine.specs.Legal.{first_fits, fit_in_turn}
use Rattle.sg_machine.specs.Effects.{settled_some, spool_first, refilled_some}
use Rattle.sg_machine.specs.Running.{slip_of, spooled_in, dest_run, source_runs, run_of, is_split, are_split, IsSoundReplay}
use Rattle.sg_machine.specs.Turns.{settled_run, settle_acks, settle_turn, settle_turns, moved_run, can_move, move_turn, move_turns}
use Rattle.sg_machine.proofs.RunLemmas.{both-true}
use Rattle.sg_machine.proofs.OwedLemmas.{Lessens, sources-ack, sources-spooled, admitted-less}
use Rattle.sg_machine.proofs.SplitLemmas.{get-behind, split-tail, spooled-cons, waiting-cons, dest-settled, settle-lessens, SpoolsEntry, spools-at, can-move, dest-moved, first-fits}

-- Changes of one item.

-- a change whose image is known at that item alone
pub map-change-at : {A B : Type 0} (g : A → B) (xs : List A) (k : ℕ) (f : A → A) (h : B → B) (x : A) → slice_get xs k ≡ Some x → g (f x) ≡ h (g x) → map g (change xs k f) ≡ change (map g xs) k h
map-change-at g [] k f h x e q = refl
map-change-at g (y ∷ xs) zero f h x e q = let same = some-same y x e in let here : g (f y) ≡ h (g y) = rw same q in ap (λ z. z ∷ map g xs) here
map-change-at g (y ∷ xs) (suc k) f h x e q = ap (λ zs. g y ∷ zs) (map-change-at g xs k f h x e q)

pub change-agree : {A : Type 0} (xs : List A) (k : ℕ) (f g : A → A) (x : A) → slice_get xs k ≡ Some x → f x ≡ g x → change xs k f ≡ change xs k g
change-agree [] k f g x e q = refl
change-agree (y ∷ xs) zero f g x e q = let same = some-same y x e in let here : f y ≡ g y = rw same q in ap (λ z. z ∷ xs) here
change-agree (y ∷ xs) (suc k) f g x e q = ap (λ zs. y ∷ zs) (change-agree xs k f g x e q)

pub change-twice : {A : Type 0} (xs : List A) (k : ℕ) (f g : A → A) → change (change xs k f) k g ≡ change xs k (λ x. g (f x))
change-twice [] k f g = refl
change-twice (y ∷ xs) zero f g = refl
change-twice (y ∷ xs) (suc k) f g = ap (λ zs. y ∷ zs) (change-twice xs k f g)

pub change-self : {A : Type 0} (xs : List A) (k : ℕ) (f : A → A) (x : A) → slice_get xs k ≡ Some x → f x ≡ x → change xs k f ≡ xs
change-self [] k f x e q = refl
change-self (y ∷ xs) zero f x e q = let same = some-same y x e in let here : f y ≡ y = rw same q in ap (λ z. z ∷ xs) here
change-self (y ∷ xs) (suc k) f x e q = ap (λ zs. y ∷ zs) (change-self xs k f x e q)

pub split-at : (ds : List Dest) (d : ℕ) (dest : Dest) → are_split ds ≡ true → slice_get ds d ≡ Some dest → is_split dest.left ≡ true
split-at [] d dest s h = let wrong : None ≡ Some dest = h in cc
split-at (x ∷ ds) zero dest s h =
    let p = both-true (is_split x.left) (are_split ds) s in
    subst (λ (y : Dest). is_split y.left ≡ true) (some-same x dest h) p.0
split-at (x ∷ ds) (suc d) dest s h = split-at ds d dest (both-true (is_split x.left) (are_split ds) s).1 h

pub split-change : (ds : List Dest) (d : ℕ) (f : Dest → Dest) (dest : Dest) → are_split ds ≡ true → slice_get ds d ≡ Some dest → is_split (f dest).left ≡ true → are_split (change ds d f) ≡ true
split-change [] d f dest s h q = refl
split-change (x ∷ ds) zero f dest s h q =
    let p = both-true (is_split x.left) (are_split ds) s in
    let here : is_split (f x).left ≡ true = subst (λ (y : Dest). is_split (f y).left ≡ true) (sym (some-same x dest h)) q in
    rw (here, p.1) refl
split-change (x ∷ ds) (suc d) f dest s h q =
    let p = both-true (is_split x.left) (are_split ds) s in
    let rest = split-change ds d f dest p.1 h q in
    rw (p.0, rest) refl

-- a state with other destinations
abbrev pub with_dests : List Dest → State → State
with_dests ds s = record s { dests = ds }

-- One entry is settled.

record SettlesEntries (s : State) (d : ℕ) : Type 0 where
  sound : IsSoundReplay (with_dests (change s.dests d (settled_some 1)) s)
  at : settle_turn d (run_of s) ≡ run_of (with_dests (change s.dests d (settled_some 1)) s)

lt-self : (n : ℕ) → nat_lt n (n + 0) ≡ false
lt-self n = grind arith

lt-more : (n k : ℕ) → nat_lt n (n + suc k) ≡ true
lt-more n k = grind arith

settle-sources : (s : State) (d : ℕ) (dest : Dest) (e : DestEntry) (es : List DestEntry) → IsSoundReplay s → slice_get s.dests d ≡ Some dest → dest.left ≡ e ∷ es → is_split (e ∷ es) ≡ true → (b : Bool) → e.spooled ≡ b
    → settle_acks (source_runs s.dests 0 s.inlets) (dest_run dest) ≡ source_runs (change s.dests d (settled_some 1)) 0 s.inlets
settle-sources s d dest e es sound g h split true spooled =
    let more : nat_lt (length dest.settled) (length dest.settled + spooled_in dest.left) ≡ true = rw (h, spooled-cons e es spooled) (lt-more (length dest.settled) (spooled_in es)) in
    rw more (sym (sources-spooled s d (settled_some 1) dest e g spooled (settle-lessens dest e es h)))
settle-sources s d dest e es sound g h split false spooled =
    let n = length dest.settled in
    let none : nat_lt n (n + spooled_in dest.left) ≡ false = rw (h, waiting-cons e es spooled split) (lt-self n) in
    let at : slice_get (map slip_of (dest.settled ++ dest.left)) n ≡ Some (slip_of e) = rw h (get-behind dest.settled (e ∷ es) 0 n (omega arith)) in
    rw (none, at) (sym (sources-ack s d (settled_some 1) dest e sound g spooled (settle-lessens dest e es h)))

settle-one : (s : State) (d : ℕ) (dest : Dest) (e : DestEntry) (es : List DestEntry) → IsSoundReplay s → slice_get s.dests d ≡ Some dest → dest.left ≡ e ∷ es → SettlesEntries s d
settle-one s d dest e es sound g h =
    let split = split-at s.dests d dest sound.split g in
    let parts : is_split (e ∷ es) ≡ true = rw h at split in
    let tail : is_split (settled_some 1 dest).left ≡ true = rw h (split-tail e es parts) in
    let there = slice_get-map dest_run s.dests d dest g in
    let sources = settle-sources s d dest e es sound g h parts e.spooled refl in
    let dests = map-change-at dest_run s.dests d (settled_some 1) settled_run dest g (dest-settled dest e es h split) in
    record {
      sound = record {
        admitted = admitted-less s d (settled_some 1) dest e sound g (settle-lessens dest e es h);
        split = split-change s.dests d (settled_some 1) dest sound.split g tail;
      };
      at = rw (there, sources, dests) refl;
    }

-- So many entries are settled.

pub record SettlesSomeEntries (s : State) (d n : ℕ) : Type 0 where
  pub sound : IsSoundReplay (with_dests (change s.dests d (settled_some n)) s)
  pub at : settle_turns n d (run_of s) ≡ run_of (with_dests (change s.dests d (settled_some n)) s)

pub settle-zero : (dest : Dest) → settled_some 0 dest ≡ dest
settle-zero dest = rw (append-nil dest.settled) refl

pub settle-more : (n : ℕ) (dest : Dest) (e : DestEntry) (es : List DestEntry) → dest.left ≡ e ∷ es → settled_some n (settled_some 1 dest) ≡ settled_some (suc n) dest
settle-more n dest e es h = rw h (ap (λ (xs : List DestEntry). record dest { settled = xs; left = drop n es }) (append_assoc dest.settled (e ∷ []) (take n es)))

first-of : (left : List DestEntry) (n : ℕ) → suc n ≤ length left → (e : DestEntry) × (es : List DestEntry) × (left ≡ e ∷ es)
first-of [] n h = absurd (omega arith)
first-of (e ∷ es) n h = (e, es, refl)

pub settle-some : (s : State) (d n : ℕ) (dest : Dest) → IsSoundReplay s → slice_get s.dests d ≡ Some dest → n ≤ length dest.left → SettlesSomeEntries s d n
settle-some s d zero dest sound g h =
    let same : change s.dests d (settled_some 0) ≡ s.dests = change-self s.dests d (settled_some 0) dest g (settle-zero dest) in
    record { sound = rw same sound; at = rw same refl }
settle-some s d (suc n) dest sound g h =
    let f = first-of dest.left n h in
    let one = settle-one s d dest f.0 f.1 sound g f.2 in
    let next = get-change-same s.dests d (settled_some 1) dest g in
    let len : n ≤ length (settled_some 1 dest).left = rw f.2 (let l : suc n ≤ suc (length f.1) = rw f.2 at h in omega arith) in
    let rest = settle-some (with_dests (change s.dests d (settled_some 1)) s) d n (settled_some 1 dest) one.sound next len in
    let same : change (change s.dests d (settled_some 1)) d (settled_some n) ≡ change s.dests d (settled_some (suc n)) =
    change-twice s.dests d (settled_some 1) (settled_some n) ∙ change-agree s.dests d (λ x. settled_some n (settled_some 1 x)) (settled_some (suc n)) dest g (settle-more n dest f.0 f.1 f.2) in
    record {
      sound = subst (λ ds. IsSoundReplay (with_dests ds s)) same rest.sound;
      at = ap (settle_turns n d) one.at ∙ rest.at ∙ ap (λ ds. run_of (with_dests ds s)) same;
    }

-- One entry is moved.

record MovesEntries (s : State) (d : ℕ) : Type 0 where
  sound : IsSoundReplay (with_dests (change s.dests d (refilled_some 1)) s)
  at : move_turn d (run_of s) ≡ run_of (with_dests (change s.dests d (refilled_some 1)) s)

move-lessens : (dest : Dest) (e : DestEntry) → SpoolsEntry dest.left (spool_first dest.left) e → Lessens dest (refilled_some 1 dest) e
move-lessens dest e s i n = s.owes i n

move-one : (s : State) (d : ℕ) (dest : Dest) (e : DestEntry) → IsSoundReplay s → slice_get s.dests d ≡ Some dest → slice_get dest.left (spooled_in dest.left) ≡ Some e → MovesEntries s d
move-one s d dest e sound g h =
    let split = split-at s.dests d dest sound.split g in
    let spools = spools-at dest.left e split h in
    let there = slice_get-map dest_run s.dests d dest g in
    let at = get-behind dest.settled dest.left (spooled_in dest.left) (length dest.settled + spooled_in dest.left) refl in
    let lessens = move-lessens dest e spools in
    let sources = sources-ack s d (refilled_some 1) dest e sound g spools.waits lessens in
    let dests = map-change-at dest_run s.dests d (refilled_some 1) moved_run dest g (dest-moved dest e split h) in
    record {
      sound = record {
        admitted = admitted-less s d (refilled_some 1) dest e sound g lessens;
        split = split-change s.dests d (refilled_some 1) dest sound.split g spools.split;
      };
      at = rw (there, at, h, sources, dests) refl;
    }

-- So many entries are moved, as far as they fit.

pub record MovesSome (s : State) (d n capacity : ℕ) (dest : Dest) : Type 0 where
  pub sound : fit_in_turn n capacity dest.left ≡ true → IsSoundReplay (with_dests (change s.dests d (refilled_some n)) s)
  pub at : move_turns n capacity d (run_of s) ≡ (if fit_in_turn n capacity dest.left then Some (run_of (with_dests (change s.dests d (refilled_some n)) s)) else None)

fits-some : (o : Option DestEntry) (p : DestEntry → Bool) → option_map_or p o false ≡ true → (e : DestEntry) × (o ≡ Some e)
fits-some None p h = let wrong : false ≡ true = h in cc
fits-some (Some e) p h = (e, refl)

none-moves : (b : Bool) (x y : Option Run) → b ≡ false → (if b then x else None) ≡ (if b && true then y else None)
none-moves b x y h = rw h refl

move-step : (n capacity d : ℕ) (run : Run) (b : Bool) → option_map_or (can_move capacity) (slice_get run.dests d) false ≡ b → move_turns (suc n) capacity d run ≡ (if b then move_turns n capacity d (move_turn d run) else None)
move-step n capacity d run b h = rw h refl

pub move-some : (s : State) (d n capacity : ℕ) (dest : Dest) → IsSoundReplay s → slice_get s.dests d ≡ Some dest → MovesSome s d n capacity dest
move-some s d zero capacity dest sound g =
    let same : change s.dests d (refilled_some 0) ≡ s.dests = change-self s.dests d (refilled_some 0) dest g refl in
    record { sound = λ h. rw same sound; at = rw same refl }
move-some s d (suc n) capacity dest sound g =
    let split = split-at s.dests d dest sound.split g in
    let there = slice_get-map dest_run s.dests d dest g in
    let can : option_map_or (can_move capacity) (slice_get (map dest_run s.dests) d) false ≡ first_fits capacity dest.left dest.left = rw there (can-move capacity dest split) in
    elim (cases_Bool (first_fits capacity dest.left dest.left)) [
      | inl fitting ↦ (
          let at = sym (first-fits capacity dest.left dest.left split) ∙ fitting in
          let e = fits-some (slice_get dest.left (spooled_in dest.left)) _ at in
          let one = move-one s d dest e.0 sound g e.1 in
          let next = get-change-same s.dests d (refilled_some 1) dest g in
          let rest = move-some (with_dests (change s.dests d (refilled_some 1)) s) d n capacity (refilled_some 1 dest) one.sound next in
          let same : change (change s.dests d (refilled_some 1)) d (refilled_some n) ≡ change s.dests d (refilled_some (suc n)) = change-twice s.dests d (refilled_some 1) (refilled_some n) in
          let sound_then : fit_in_turn n capacity (spool_first dest.left) ≡ true → IsSoundReplay (with_dests (change s.dests d (refilled_some (suc n))) s) = λ h. subst (λ ds. IsSoundReplay (with_dests ds s)) same (rest.sound h) in
          let done : move_turns n capacity d (move_turn d (run_of s)) ≡ (if fit_in_turn n capacity (spool_first dest.left) then Some (run_of (with_dests (change s.dests d (refilled_some (suc n))) s)) else None) =
          ap (move_turns n capacity d) one.at ∙ rest.at ∙ ap (λ ds. if fit_in_turn n capacity (spool_first dest.left) then Some (run_of (with_dests ds s)) else None) same in
          record { sound = rw fitting sound_then; at = move-step n capacity d (run_of s) true (can ∙ fitting) ∙ rw fitting done })
      | inr full ↦ record { sound = rw full (λ h. absurd (let wrong : false ≡ true = h in cc)); at = move-step n capacity d (run_of s) false (can ∙ full) ∙ rw full refl }
    ]
