-- Entries that wait and go to the disk, on a state and on what a core keeps of it.
use Rattle.std.proofs.Common.{◌≡◌, ℕ, ◌+◌, ◌-◌, ◌≤◌, ◌^◌, List, [], ◌∷◌, ◌++◌, length, take, drop, Some, Option, Bool, true, false, ◌&&◌, refl, sym, ap, ◌∙◌, arith, suc, zero, map, slice_get, subst, append_assoc}
use Rattle.std.specs.Prelude.{nat_le, IsSome}
use Rattle.std.proofs.lemmas.Bool.{leb-true}
use Rattle.std.proofs.lemmas.List.{append-nil, map-append}
use Rattle.std.specs.Option.{option_map_or}
use Rattle.sg_list.specs.Lists.{change}
use Rattle.sg_list.proofs.ListLemmas.{get-change-same}
use Rattle.sg_msg.specs.Length.{encoded_len}
use Rattle.sg_codec.specs.Spelling.{spelling2}
use Rattle.sg_queue.specs.declared.entry.Entry.{Entry as Waiting}
use Rattle.sg_machine.specs.declared.setup.BufferSetup.{BufferSetup}
use Rattle.sg_machine.specs.declared.state.Dest.{Dest}
use Rattle.sg_machine.specs.declared.state.DestEntry.{DestEntry}
use Rattle.sg_machine.specs.declared.state.State.{State}
use Rattle.sg_machine.specs.Counts.{as_kept}
use Rattle.sg_machine.specs.Effects.{spool_first, refilled_some}
use Rattle.sg_machine.specs.Legal.{first_fits, fit_in_turn}
use Rattle.sg_machine.specs.Running.{IsSoundReplay as IsReplayed}
use Rattle.sg_machine.specs.Runs.{BufferedEntry}
use Rattle.sg_machine.specs.Safe.{waiting}
use Rattle.sg_machine.proofs.MoveLemmas.{split-at, change-twice, change-self, move-some}
use Rattle.sg_machine.proofs.RunLemmas.{both-true}
use Rattle.sg_machine.proofs.SplitLemmas.{spools-at}
use Rattle.sg_sinks.specs.Blocks.{is_short_entry, block_of}
use Rattle.sg_sinks.specs.Fitting.{space, has_space}
use Rattle.sg_sinks.specs.Moving.{moved_first}
use Rattle.sg_sinks.specs.Standing.{IsSplit, are_split, kept_of, blocks_of, waiting_from, waiting_at, sink_of}
use Rattle.sg_sinks.specs.States.{SinkState}
use Rattle.sg_sinks.proofs.MoveSteps.{moving, split-first}
use Rattle.sg_stores.specs.Appending.{IsNextPayload}
use Rattle.sg_stores.specs.Stores.{StoreState, HasBufferSize, length_of}
use Rattle.sg_standing.specs.Sources.{acks_all}
use Rattle.sg_standing.specs.Standing.{AreSpellable, sources_from}
use Rattle.sg_standing.specs.declared.source.Source.{Source}
use Rattle.sg_core.specs.Parts.{FitSome, CanAckAll, moved_some}
use Rattle.sg_core.specs.Steps.{AreNext}
use Rattle.sg_core.proofs.PartLemmas.{space-pushed}
use Rattle.sg_core.proofs.SettleSteps.{AcksAll, with_dests}
use Rattle.sg_core.proofs.Waits.{first-waiting}
use Rattle.sg_core.proofs.WindowSteps.{acks-one}

-- What is kept of the destination.

drop-blocks : {A : Type 0} (n : ℕ) (bs : List A) → drop n (drop 1 bs) ≡ drop (suc n) bs
drop-blocks zero [] = refl
drop-blocks (suc n) [] = refl
drop-blocks n (b ∷ bs) = refl

moved-cons : (n : ℕ) (sink : SinkState) (w : Waiting) (ws : List Waiting) → sink.entries ≡ w ∷ ws → moved_some n (moved_first sink) ≡ moved_some (suc n) sink
moved-cons n sink w ws h =
    let len : Waiting → ℕ = λ x. encoded_len x.message in
    rw h (ap (λ ns. record sink { lengths = ns; entries = drop n ws; blocks = drop n (drop 1 sink.blocks) }) (append_assoc sink.lengths (encoded_len w.message ∷ []) (map len (take n ws)))
    ∙ ap (λ bs. record sink { lengths = sink.lengths ++ (encoded_len w.message ∷ map len (take n ws)); entries = drop n ws; blocks = bs }) (drop-blocks n sink.blocks))

-- so many fit, and what is left of it then
pub record MovesSink (dest : Dest) (buffer : BufferSetup) (broken : Bool) (n : ℕ) : Type 0 where
  pub fits : fit_in_turn n buffer.capacity dest.left ≡ true
  pub split : IsSplit (refilled_some n dest)
  pub seen : sink_of broken (refilled_some n dest) ≡ moved_some n (sink_of broken dest)

moves-cons : (n : ℕ) (dest : Dest) (buffer : BufferSetup) (broken : Bool) (es : List Waiting) → (sink_of broken dest).entries ≡ es → dest.setup.buffer ≡ Some buffer → IsSplit dest → FitSome (suc n) buffer.capacity (space (sink_of broken dest).lengths) es
    → ((x : Dest) → x.setup.buffer ≡ Some buffer → IsSplit x → FitSome n buffer.capacity (space (sink_of broken x).lengths) (sink_of broken x).entries → MovesSink x buffer broken n) → MovesSink dest buffer broken (suc n)
moves-cons n dest buffer broken [] h has split f rest = absurd f
moves-cons n dest buffer broken (w ∷ ws) h has split f rest =
    let sink = sink_of broken dest in
    let one = moving dest buffer broken has split in
    let x = refilled_some 1 dest in
    let first : first_fits buffer.capacity dest.left dest.left ≡ true = one.fits ∙ ap (λ xs. option_map_or (λ (e : Waiting). has_space buffer.capacity (space sink.lengths) (encoded_len e.message)) (slice_get xs 0) false) h ∙ f.0 in
    let moved : moved_first sink ≡ record sink { lengths = sink.lengths ++ encoded_len w.message ∷ []; entries = ws; blocks = drop 1 sink.blocks } = rw h refl in
    let now = one.seen ∙ moved in
    let fit : FitSome n buffer.capacity (space (sink_of broken x).lengths) (sink_of broken x).entries =
    subst (λ (z : SinkState). FitSome n buffer.capacity (space z.lengths) z.entries) (sym now) (subst (λ (u : ℕ). FitSome n buffer.capacity u ws) (sym (space-pushed sink.lengths (encoded_len w.message))) f.1) in
    let r = rest x has one.split fit in
    record {
      fits = rw first r.fits;
      split = r.split;
      seen = r.seen ∙ ap (moved_some n) one.seen ∙ moved-cons n sink w ws h;
    }

moved-none : (sink : SinkState) → sink ≡ moved_some 0 sink
moved-none sink = ap (λ ns. record sink { lengths = ns }) (sym (append-nil sink.lengths))

pub moves-sink : (n : ℕ) (dest : Dest) (buffer : BufferSetup) (broken : Bool) → dest.setup.buffer ≡ Some buffer → IsSplit dest → FitSome n buffer.capacity (space (sink_of broken dest).lengths) (sink_of broken dest).entries → MovesSink dest buffer broken n
moves-sink zero dest buffer broken has split f = record { fits = refl; split = split; seen = moved-none (sink_of broken dest) }
moves-sink (suc n) dest buffer broken has split f = moves-cons n dest buffer broken (sink_of broken dest).entries refl has split f (λ x hx sx fx. moves-sink n x buffer broken hx sx fx)

-- The sources.

first-true : (p q : Bool) → (p && q) ≡ true → (p && true) ≡ true
first-true true q h = refl
first-true false q h = h

pub moves-acks : (n : ℕ) (s : State) (d p capacity : ℕ) (dest : Dest) → IsReplayed s → slice_get s.dests d ≡ Some dest → are_split dest.left ≡ true → fit_in_turn n capacity dest.left ≡ true → n ≤ length (waiting_from p dest.left)
    → AcksAll s (change s.dests d (refilled_some n)) (take n (waiting_from p dest.left))
moves-acks zero s d p capacity dest sound g split fits l =
    let same = change-self s.dests d (refilled_some 0) dest g refl in
    record { can = tt; after = ap (λ ds. sources_from ds 0 s.inlets) same }
moves-acks (suc n) s d p capacity dest sound g split fits l =
    let f = first-waiting dest.left p split (omega (arith, l)) in
    let parts = both-true (first_fits capacity dest.left dest.left) (fit_in_turn n capacity (spool_first dest.left)) fits in
    let one_fits : fit_in_turn 1 capacity dest.left ≡ true = first-true (first_fits capacity dest.left dest.left) (fit_in_turn n capacity (spool_first dest.left)) fits in
    let spools = spools-at dest.left f.e (split-at s.dests d dest sound.split g) f.at in
    let a = acks-one s d p (refilled_some 1) dest f.e sound g f.number f.memory (λ i k. spools.owes i k) in
    let t = with_dests (change s.dests d (refilled_some 1)) s in
    let sound_then = (move-some s d 1 capacity dest sound g).sound one_fits in
    let there : slice_get t.dests d ≡ Some (refilled_some 1 dest) = get-change-same s.dests d (refilled_some 1) dest g in
    let len : length (waiting_from p dest.left) ≡ suc (length (waiting_from (p + 1) (spool_first dest.left))) = ap length f.shown in
    let r = moves-acks n t d (p + 1) capacity (refilled_some 1 dest) sound_then there (split-first dest.left split) parts.1 (omega (arith, l, len)) in
    let step : change t.dests d (refilled_some n) ≡ change s.dests d (refilled_some (suc n)) = change-twice s.dests d (refilled_some 1) (refilled_some n) in
    let ws = take n (waiting_from (p + 1) (spool_first dest.left)) in
    let shown : AcksAll s (change s.dests d (refilled_some (suc n))) (waiting_at p f.e ∷ ws) = record {
      can = (a.can, subst (λ (xs : List Source). CanAckAll xs ws) a.after r.can);
      after = ap (λ ds. sources_from ds 0 s.inlets) (sym step) ∙ r.after ∙ ap (λ xs. acks_all xs ws) a.after;
    } in
    subst (λ (es : List Waiting). AcksAll s (change s.dests d (refilled_some (suc n))) (take (suc n) es)) (sym f.shown) shown

-- The blocks.

short-by : (capacity used n : ℕ) → capacity ≤ 2 ^ 30 → has_space capacity used n ≡ true → nat_le n (2 ^ 30 + 64) ≡ true
short-by capacity used n small h =
    let l : used + (5 + n + 1) ≤ capacity = leb-true (used + (5 + n + 1)) capacity h in
    grind (arith, l, small)

next-by : (b : Bool) (n : ℕ) (buffer : BufferSetup) (start : StoreState) (lengths : List ℕ) (tried : List BufferedEntry) (e : DestEntry) (es : List DestEntry) (p : ℕ) → e.spooled ≡ b → buffer.capacity ≤ 2 ^ 30 → HasBufferSize buffer.capacity lengths start.buffer
    → AreSpellable (Some buffer) (e ∷ es) → FitSome n buffer.capacity (space (lengths ++ map length_of tried)) (waiting_from p (e ∷ es))
    → ((m q : ℕ) (ks : List BufferedEntry) → AreSpellable (Some buffer) es → FitSome m buffer.capacity (space (lengths ++ map length_of ks)) (waiting_from q es) → AreNext start ks (blocks_of (Some buffer) es) (take m (waiting es)))
    → AreNext start tried (blocks_of (Some buffer) (e ∷ es)) (take n (waiting (e ∷ es)))
next-by true n buffer start lengths tried e es p h small sized spells f rest =
    let fit : FitSome n buffer.capacity (space (lengths ++ map length_of tried)) (waiting_from p es) = rw h at f in
    let r = rest n p tried spells.1 fit in
    rw h r
next-by false zero buffer start lengths tried e es p h small sized spells f rest = tt
next-by false (suc n) buffer start lengths tried e es p h small sized spells f rest =
    let fit : FitSome (suc n) buffer.capacity (space (lengths ++ map length_of tried)) (waiting_at p e ∷ waiting_from (p + 1) es) = rw h at f in
    let k = as_kept e in
    let short : is_short_entry e.message ≡ true = short-by buffer.capacity (space (lengths ++ map length_of tried)) (encoded_len e.message) small fit.0 in
    let block : block_of (Some buffer) (kept_of e) ≡ Some (spelling2 (kept_of e)) = rw short refl in
    let more : (lengths ++ map length_of tried) ++ encoded_len e.message ∷ [] ≡ lengths ++ map length_of (tried ++ k ∷ []) = append_assoc lengths (map length_of tried) (encoded_len e.message ∷ []) ∙ ap (λ ns. lengths ++ ns) (sym (map-append length_of tried (k ∷ []))) in
    let used : space (lengths ++ map length_of tried) + (5 + encoded_len e.message) ≡ space (lengths ++ map length_of (tried ++ k ∷ [])) = sym (space-pushed (lengths ++ map length_of tried) (encoded_len e.message)) ∙ ap space more in
    let r = rest n (p + 1) (tried ++ k ∷ []) spells.1 (subst (λ (u : ℕ). FitSome n buffer.capacity u (waiting_from (p + 1) es)) used fit.1) in
    let next : IsNextPayload start tried (spelling2 (kept_of e)) k = record {
      spelled = refl;
      has_spelling = spells.0 (subst (λ (o : Option (List ℕ)). IsSome o) (sym block) refl);
      capacity = buffer.capacity;
      lengths = lengths;
      size = sized;
      fits = fit.0;
    } in
    let all : AreNext start tried (Some (spelling2 (kept_of e)) ∷ blocks_of (Some buffer) es) (k ∷ take n (waiting es)) = (next, r) in
    let B : Option (List ℕ) → Type 0 = λ o. AreNext start tried (o ∷ blocks_of (Some buffer) es) (k ∷ take n (waiting es)) in
    let got = subst B (sym block) all in
    rw h got

-- the first n are spelled by the blocks that they wait with
pub are-next : (es : List DestEntry) (n : ℕ) (buffer : BufferSetup) (start : StoreState) (lengths : List ℕ) (tried : List BufferedEntry) (p : ℕ) → buffer.capacity ≤ 2 ^ 30 → HasBufferSize buffer.capacity lengths start.buffer → AreSpellable (Some buffer) es
    → FitSome n buffer.capacity (space (lengths ++ map length_of tried)) (waiting_from p es) → AreNext start tried (blocks_of (Some buffer) es) (take n (waiting es))
are-next [] zero buffer start lengths tried p small sized spells f = tt
are-next [] (suc n) buffer start lengths tried p small sized spells f = absurd f
are-next (e ∷ es) n buffer start lengths tried p small sized spells f =
    next-by e.spooled n buffer start lengths tried e es p refl small sized spells f (λ m q ks sp fit. are-next es m buffer start lengths ks q small sized sp fit)
