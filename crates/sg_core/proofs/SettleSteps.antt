-- Entries that are settled, on a state and on what a core keeps of it.
use Rattle.std.proofs.Common.{◌≡◌, ℕ, ◌+◌, ◌-◌, ◌≤◌, List, [], ◌∷◌, length, take, drop, Some, Bool, true, false, refl, sym, ap, ◌∙◌, arith, suc, zero, slice_get, subst, if◌then◌else◌}
use Rattle.std.specs.Prelude.{is_some}
use Rattle.sg_list.specs.Lists.{change}
use Rattle.sg_list.proofs.ListLemmas.{get-change-same}
use Rattle.sg_queue.specs.declared.entry.Entry.{Entry as Waiting}
use Rattle.sg_machine.specs.declared.state.Dest.{Dest}
use Rattle.sg_machine.specs.declared.state.DestEntry.{DestEntry}
use Rattle.sg_machine.specs.declared.state.State.{State}
use Rattle.sg_machine.specs.Effects.{settled_some}
use Rattle.sg_machine.specs.Running.{IsSoundReplay as IsReplayed}
use Rattle.sg_machine.proofs.MoveLemmas.{settle-some, change-twice, change-agree, change-self, settle-more, settle-zero}
use Rattle.sg_machine.proofs.SplitLemmas.{settle-lessens}
use Rattle.sg_sinks.specs.Standing.{are_split, are_waiting, lengths_of, waiting_from, waiting_at}
use Rattle.sg_sinks.proofs.LeftLemmas.{waiting-split, waiting-lengths, rest-waits}
use Rattle.sg_standing.specs.Sources.{acks_all}
use Rattle.sg_standing.specs.Standing.{sources_from}
use Rattle.sg_standing.specs.declared.source.Source.{Source}
use Rattle.sg_core.specs.Parts.{CanAckAll}
use Rattle.sg_core.proofs.WindowSteps.{acks-one, acks-none}

-- the state with other destinations
abbrev pub with_dests : List Dest → State → State
with_dests ds s = record s { dests = ds }

pub settle-step : (ds : List Dest) (d n : ℕ) (dest : Dest) (e : DestEntry) (es : List DestEntry) → slice_get ds d ≡ Some dest → dest.left ≡ e ∷ es → change (change ds d (settled_some 1)) d (settled_some n) ≡ change ds d (settled_some (suc n))
settle-step ds d n dest e es g h =
    change-twice ds d (settled_some 1) (settled_some n) ∙ change-agree ds d (λ x. settled_some n (settled_some 1 x)) (settled_some (suc n)) dest g (settle-more n dest e es h)

number-of : (e : DestEntry) (es : List DestEntry) → are_waiting (e ∷ es) ≡ true → is_some e.number ≡ true
number-of e es h = grind arith

pub split-by : (b : Bool) (e : DestEntry) (es : List DestEntry) → e.spooled ≡ b → are_split (e ∷ es) ≡ true → (if b then are_split es else are_waiting (e ∷ es)) ≡ true
split-by b e es h s = subst (λ (c : Bool). (if c then are_split es else are_waiting (e ∷ es)) ≡ true) h s

pub spooled-rest : (b : Bool) (e : DestEntry) (es : List DestEntry) → e.spooled ≡ b → are_split (e ∷ es) ≡ true → are_split es ≡ true
spooled-rest true e es h s = split-by true e es h s
spooled-rest false e es h s = waiting-split es (rest-waits e es (split-by false e es h s))

-- the sources, once the first n are settled, of which these wait
pub record AcksAll (s : State) (ds : List Dest) (es : List Waiting) : Type 0 where
  pub can : CanAckAll (sources_from s.dests 0 s.inlets) es
  pub after : sources_from ds 0 s.inlets ≡ acks_all (sources_from s.dests 0 s.inlets) es

acks-zero : (s : State) (ds : List Dest) (n : ℕ) (es : List Waiting) → n ≡ 0 → ds ≡ s.dests → AcksAll s ds (take n es)
acks-zero s ds n es z same = rw (z, same) (record { can = tt; after = refl })

-- the first one is settled
settles-first : (b : Bool) (n : ℕ) (s : State) (d p : ℕ) (dest : Dest) (e : DestEntry) (es : List DestEntry) → IsReplayed s → slice_get s.dests d ≡ Some dest → dest.left ≡ e ∷ es → are_split (e ∷ es) ≡ true → e.spooled ≡ b
    → ((q : ℕ) → AcksAll (with_dests (change s.dests d (settled_some 1)) s) (change s.dests d (settled_some (suc n))) (take (n - length (lengths_of es)) (waiting_from q es)))
    → AcksAll s (change s.dests d (settled_some (suc n))) (take (suc n - length (lengths_of (e ∷ es))) (waiting_from p (e ∷ es)))
settles-first true n s d p dest e es sound g h split spooled rest =
    let r = rest p in
    let same = acks-none s d (settled_some 1) dest e g spooled (settle-lessens dest e es h) in
    let less : suc n - suc (length (lengths_of es)) ≡ n - length (lengths_of es) = omega arith in
    let shown : AcksAll s (change s.dests d (settled_some (suc n))) (take (n - length (lengths_of es)) (waiting_from p es)) = record {
      can = subst (λ (xs : List Source). CanAckAll xs (take (n - length (lengths_of es)) (waiting_from p es))) same r.can;
      after = r.after ∙ ap (λ xs. acks_all xs (take (n - length (lengths_of es)) (waiting_from p es))) same;
    } in
    rw (spooled, less) shown
settles-first false n s d p dest e es sound g h split waits rest =
    let w : are_waiting (e ∷ es) ≡ true = split-by false e es waits split in
    let none : lengths_of es ≡ [] = waiting-lengths es (rest-waits e es w) in
    let r = rest (p + 1) in
    let one = acks-one s d p (settled_some 1) dest e sound g (number-of e es w) waits (settle-lessens dest e es h) in
    let len : length (lengths_of es) ≡ 0 = ap length none in
    let less : n - length (lengths_of es) ≡ n = omega (arith, len) in
    let all : suc n - length (lengths_of es) ≡ suc n = omega (arith, len) in
    let ws = take n (waiting_from (p + 1) es) in
    let shown : AcksAll s (change s.dests d (settled_some (suc n))) (waiting_at p e ∷ ws) = record {
      can = (one.can, subst (λ (xs : List Source). CanAckAll xs ws) one.after (rw less at r.can));
      after = (rw less at r.after) ∙ ap (λ xs. acks_all xs ws) one.after;
    } in
    rw (waits, all) shown

settles-cons : (n : ℕ) (s : State) (d p : ℕ) (dest : Dest) (left : List DestEntry) → IsReplayed s → slice_get s.dests d ≡ Some dest → dest.left ≡ left → are_split left ≡ true → suc n ≤ length left
    → ((t : State) (q : ℕ) (x : Dest) → IsReplayed t → slice_get t.dests d ≡ Some x → are_split x.left ≡ true → n ≤ length x.left → AcksAll t (change t.dests d (settled_some n)) (take (n - length (lengths_of x.left)) (waiting_from q x.left)))
    → AcksAll s (change s.dests d (settled_some (suc n))) (take (suc n - length (lengths_of left)) (waiting_from p left))
settles-cons n s d p dest [] sound g h split l rest = absurd (omega (arith, l))
settles-cons n s d p dest (e ∷ es) sound g h split l rest =
    let t = with_dests (change s.dests d (settled_some 1)) s in
    let len : 1 ≤ length dest.left = rw h (omega arith) in
    let one = settle-some s d 1 dest sound g len in
    let there : slice_get t.dests d ≡ Some (settled_some 1 dest) = get-change-same s.dests d (settled_some 1) dest g in
    let left : (settled_some 1 dest).left ≡ es = ap (drop 1) h in
    let rest_split : are_split es ≡ true = spooled-rest e.spooled e es refl split in
    let step = settle-step s.dests d n dest e es g h in
    settles-first e.spooled n s d p dest e es sound g h split refl (λ q.
    let r = rest t q (settled_some 1 dest) one.sound there (subst (λ (xs : List DestEntry). are_split xs ≡ true) (sym left) rest_split) (subst (λ (xs : List DestEntry). n ≤ length xs) (sym left) (omega (arith, l))) in
    let P : List Dest → Type 0 = λ ds. AcksAll t ds (take (n - length (lengths_of es)) (waiting_from q es)) in
    let Q : List DestEntry → Type 0 = λ xs. AcksAll t (change t.dests d (settled_some n)) (take (n - length (lengths_of xs)) (waiting_from q xs)) in
    subst P step (subst Q left r))

pub settles-all : (n : ℕ) (s : State) (d p : ℕ) (dest : Dest) → IsReplayed s → slice_get s.dests d ≡ Some dest → are_split dest.left ≡ true → n ≤ length dest.left
    → AcksAll s (change s.dests d (settled_some n)) (take (n - length (lengths_of dest.left)) (waiting_from p dest.left))
settles-all zero s d p dest sound g split l =
    acks-zero s (change s.dests d (settled_some 0)) (0 - length (lengths_of dest.left)) (waiting_from p dest.left) (omega arith) (change-self s.dests d (settled_some 0) dest g (settle-zero dest))
settles-all (suc n) s d p dest sound g split l = settles-cons n s d p dest dest.left sound g refl split l (λ t q x sound_t there split_x len. settles-all n t d q x sound_t there split_x len)
