-- Destinations, one entry after another.
use Rattle.std.proofs.Common.{◌≡◌, ℕ, ◌+◌, ◌-◌, ◌<◌, ◌≤◌, List, [], ◌∷◌, ◌++◌, length, take, drop, Some, None, Option, true, refl, sym, ap, ◌∙◌, arith, suc, zero, map, slice_get, subst, set, append_assoc}
use Rattle.std.specs.Prelude.{IsSome}
use Rattle.std.specs.Option.{option_map_or}
use Rattle.sg_list.specs.Lists.{change}
use Rattle.sg_list.proofs.ListLemmas.{some-same, get-change-same, slice_get-map, slice_get-some, slice_get-below, length-change, drop-get}
use Rattle.std.proofs.lemmas.List.{length-map, append-nil, map-append}
use Rattle.sg_queue.specs.declared.entry.Entry.{Entry}
use Rattle.sg_machine.specs.declared.setup.BufferSetup.{BufferSetup}
use Rattle.sg_machine.proofs.MoveLemmas.{change-twice, change-agree}
use Rattle.sg_offers.specs.Rooms.{seen_in}
use Rattle.sg_msg.specs.Length.{encoded_len}
use Rattle.sg_sinks.specs.Fitting.{space, has_space}
use Rattle.sg_sinks.specs.Moving.{moved_first, FitsFirst}
use Rattle.sg_sinks.specs.Settling.{settled_waiting}
use Rattle.sg_sinks.specs.States.{SinkState, Sunk}
use Rattle.sg_standing.specs.Sources.{CanAck, acks, acks_all}
use Rattle.sg_standing.specs.declared.source.Source.{Source}
use Rattle.sg_core.specs.Parts.{CanAckAll, HasWaiting, CanMove, FitSome, entries_at, settled_waiting_some, moved_some}
use Rattle.sg_standing.proofs.ListSteps.{seen-write}

-- a write of one destination, by what is seen of it
pub seen-written : (sinks : List Sunk) (d : ℕ) (x y : Sunk) (g : SinkState → SinkState) → slice_get sinks d ≡ Some x → y.seen ≡ g x.seen → seen_in (set sinks d y) ≡ change (seen_in sinks) d g
seen-written sinks d x y g h e = seen-write (λ (s : Sunk). s.seen) g sinks d x y h e

pub drop-one : {A : Type 0} (k : ℕ) (xs : List A) → drop 1 (drop k xs) ≡ drop (k + 1) xs
drop-one zero xs = refl
drop-one (suc k) [] = (let e : suc k + 1 ≡ suc (k + 1) = omega arith in rw e refl)
drop-one (suc k) (x ∷ xs) = (let e : suc k + 1 ≡ suc (k + 1) = omega arith in rw e (drop-one k xs))

-- the entries that wait, one fewer
pub waiting-more : (k : ℕ) (sink : SinkState) → settled_waiting (settled_waiting_some k sink) ≡ settled_waiting_some (k + 1) sink
waiting-more k sink =
    ap (λ es. record sink { taken = sink.taken + k + 1; entries = es; blocks = drop 1 (drop k sink.blocks) }) (drop-one k sink.entries)
    ∙ ap (λ bs. record sink { taken = sink.taken + k + 1; entries = drop (k + 1) sink.entries; blocks = bs }) (drop-one k sink.blocks)
    ∙ ap (λ t. record sink { taken = t; entries = drop (k + 1) sink.entries; blocks = drop (k + 1) sink.blocks }) (omega arith)

pub waiting-zero : (sink : SinkState) → settled_waiting_some 0 sink ≡ sink
waiting-zero sink = ap (λ t. record sink { taken = t }) (omega arith)

pub acks-append : (sources : List Source) (es fs : List Entry) → acks_all sources (es ++ fs) ≡ acks_all (acks_all sources es) fs
acks-append sources [] fs = refl
acks-append sources (e ∷ es) fs = acks-append (acks sources e) es fs

pub can-ack-more : (sources : List Source) (es fs : List Entry) → CanAckAll sources (es ++ fs) → CanAckAll (acks_all sources es) fs
can-ack-more sources [] fs h = h
can-ack-more sources (e ∷ es) fs h = can-ack-more (acks sources e) es fs h.1

pub take-next : (k n : ℕ) (es : List Entry) (e : Entry) → slice_get es k ≡ Some e → k < n → take n es ≡ take k es ++ (e ∷ take (n - (k + 1)) (drop (k + 1) es))
take-next k n [] e h l = let wrong : None ≡ Some e = h in cc
take-next zero zero (x ∷ es) e h l = absurd (omega (arith, l))
take-next zero (suc n) (x ∷ es) e h l =
    let a : suc n - 1 ≡ n = omega arith in
    rw a (ap (λ y. y ∷ take n es) (some-same x e h))
take-next (suc k) zero (x ∷ es) e h l = absurd (omega (arith, l))
take-next (suc k) (suc n) (x ∷ es) e h l =
    let a : suc n - (suc k + 1) ≡ n - (k + 1) = omega arith in
    let b : suc k + 1 ≡ suc (k + 1) = omega arith in
    rw (a, b) (ap (λ ys. x ∷ ys) (take-next k n es e h (omega (arith, l))))

pub take-one-more : (k : ℕ) (es : List Entry) (e : Entry) → slice_get es k ≡ Some e → take (k + 1) es ≡ take k es ++ e ∷ []
take-one-more k [] e h = let wrong : None ≡ Some e = h in cc
take-one-more zero (x ∷ es) e h = ap (λ y. y ∷ []) (some-same x e h)
take-one-more (suc k) (x ∷ es) e h = let b : suc k + 1 ≡ suc (k + 1) = omega arith in rw b (ap (λ ys. x ∷ ys) (take-one-more k es e h))

-- A turn of a loop over the first entries that wait.

sink-of : (o : Option SinkState) (n : ℕ) → HasWaiting o n → (sink : SinkState) × (o ≡ Some sink) × (n ≤ length sink.entries)
sink-of None n h = absurd h
sink-of (Some sink) n h = (sink, refl, h)

pub record FrontTurnPart (olds sinks : List Sunk) (xs ys : List Source) (d n k : ℕ) : Type 0 where
  pub sink : SinkState
  pub there : slice_get (seen_in olds) d ≡ Some sink
  pub below : d < length sinks
  pub e : Entry
  pub next : slice_get sink.entries k ≡ Some e
  pub can : e.flow ≡ true → CanAck (slice_get ys e.inlet) e.number
  pub after : acks_all xs (entries_at (seen_in olds) d (k + 1)) ≡ acks ys e

entries-of : (sinks : List SinkState) (d n : ℕ) (sink : SinkState) → slice_get sinks d ≡ Some sink → entries_at sinks d n ≡ take n sink.entries
entries-of sinks d n sink h = rw h refl

pub turn : (olds sinks : List Sunk) (xs ys : List Source) (d n k : ℕ) (f : ℕ → SinkState → SinkState) → HasWaiting (slice_get (seen_in olds) d) n → CanAckAll xs (entries_at (seen_in olds) d n) → k < n
    → seen_in sinks ≡ change (seen_in olds) d (f k) → ys ≡ acks_all xs (entries_at (seen_in olds) d k) → FrontTurnPart olds sinks xs ys d n k
turn olds sinks xs ys d n k f waits acks_can low seen sources =
    let s = sink-of (slice_get (seen_in olds) d) n waits in
    let sink = s.0 in
    let next = slice_get-some sink.entries k (let l = s.2 in omega (arith, l, low)) in
    let all : CanAckAll xs (take k sink.entries ++ (next.0 ∷ take (n - (k + 1)) (drop (k + 1) sink.entries))) =
    subst (λ (es : List Entry). CanAckAll xs es) (entries-of (seen_in olds) d n sink s.1 ∙ take-next k n sink.entries next.0 next.1 low) acks_can in
    let rest = can-ack-more xs (take k sink.entries) (next.0 ∷ take (n - (k + 1)) (drop (k + 1) sink.entries)) all in
    let before : acks_all xs (take k sink.entries) ≡ ys = ap (acks_all xs) (sym (entries-of (seen_in olds) d k sink s.1)) ∙ sym sources in
    record {
      sink = sink;
      there = s.1;
      below =
          let b = slice_get-below (seen_in olds) d sink s.1 in
          let len : length sinks ≡ length (seen_in olds) = sym (length-map sinks (λ (x : Sunk). x.seen)) ∙ ap length seen ∙ length-change (seen_in olds) d (f k) in
          omega (arith, b, len);
      e = next.0;
      next = next.1;
      can = λ flow. subst (λ (zs : List Source). CanAck (slice_get zs (next.0).inlet) (next.0).number) before (rest.0 flow);
      after = ap (acks_all xs) (entries-of (seen_in olds) d (k + 1) sink s.1 ∙ take-one-more k sink.entries next.0 next.1) ∙ acks-append xs (take k sink.entries) (next.0 ∷ []) ∙ ap (λ zs. acks zs next.0) before;
    }

-- what is seen of the destination in that turn
pub turn-seen : (olds sinks : List Sunk) (d k : ℕ) (f : ℕ → SinkState → SinkState) (sink : SinkState) (x : Sunk) → slice_get (seen_in olds) d ≡ Some sink → seen_in sinks ≡ change (seen_in olds) d (f k) → slice_get sinks d ≡ Some x → x.seen ≡ f k sink
turn-seen olds sinks d k f sink x there seen get =
    some-same x.seen (f k sink) (sym (slice_get-map (λ (y : Sunk). y.seen) sinks d x get) ∙ ap (λ xs. slice_get xs d) seen ∙ get-change-same (seen_in olds) d (f k) sink there)

pub first-dropped : (k : ℕ) (es : List Entry) (e : Entry) → slice_get es k ≡ Some e → slice_get (drop k es) 0 ≡ Some e
first-dropped k es e h = rw (drop-get es k e h) refl

pub turn-after : (olds sinks : List Sunk) (d k : ℕ) (f : ℕ → SinkState → SinkState) (g : SinkState → SinkState) (sink : SinkState) (x y : Sunk) → slice_get (seen_in olds) d ≡ Some sink → seen_in sinks ≡ change (seen_in olds) d (f k) → slice_get sinks d ≡ Some x
    → y.seen ≡ g x.seen → g (f k sink) ≡ f (k + 1) sink → seen_in (set sinks d y) ≡ change (seen_in olds) d (f (k + 1))
turn-after olds sinks d k f g sink x y there seen get after more =
    seen-written sinks d x y g get after ∙ ap (λ ks. change ks d g) seen ∙ change-twice (seen_in olds) d (f k) g ∙ change-agree (seen_in olds) d (λ z. g (f k z)) (f (k + 1)) sink there more

pub some-is : (o : Option Entry) (e : Entry) → o ≡ Some e → IsSome o
some-is None e h = let wrong : None ≡ Some e = h in cc
some-is (Some x) e h = refl

pub sink-there : (sinks : List SinkState) (d n : ℕ) → HasWaiting (slice_get sinks d) n → (sink : SinkState) × (slice_get sinks d ≡ Some sink)
sink-there sinks d n h = let s = sink-of (slice_get sinks d) n h in (s.0, s.1)

none-of : (o : Option SinkState) (xs : List Source) → xs ≡ acks_all xs (option_map_or (λ (sink : SinkState). take 0 sink.entries) o [])
none-of None xs = refl
none-of (Some sink) xs = refl

pub none-taken : (sinks : List SinkState) (d : ℕ) (xs : List Source) → xs ≡ acks_all xs (entries_at sinks d 0)
none-taken sinks d xs = none-of (slice_get sinks d) xs

-- The same of entries that are moved.

pub moved-zero : (sink : SinkState) → moved_some 0 sink ≡ sink
moved-zero sink = ap (λ ns. record sink { lengths = ns }) (append-nil sink.lengths)

pub moved-more : (k : ℕ) (sink : SinkState) (e : Entry) → slice_get sink.entries k ≡ Some e → moved_first (moved_some k sink) ≡ moved_some (k + 1) sink
moved-more k sink e h =
    let len : Entry → ℕ = λ x. encoded_len x.message in
    let first : slice_get (drop k sink.entries) 0 ≡ Some e = first-dropped k sink.entries e h in
    let ns : (sink.lengths ++ map len (take k sink.entries)) ++ encoded_len e.message ∷ [] ≡ sink.lengths ++ map len (take (k + 1) sink.entries) =
    append_assoc sink.lengths (map len (take k sink.entries)) (encoded_len e.message ∷ [])
    ∙ ap (λ ys. sink.lengths ++ ys) (sym (map-append len (take k sink.entries) (e ∷ [])) ∙ ap (map len) (sym (take-one-more k sink.entries e h))) in
    rw first (ap (λ xs. record sink { lengths = xs; entries = drop 1 (drop k sink.entries); blocks = drop 1 (drop k sink.blocks) }) ns
    ∙ ap (λ es. record sink { lengths = sink.lengths ++ map len (take (k + 1) sink.entries); entries = es; blocks = drop 1 (drop k sink.blocks) }) (drop-one k sink.entries)
    ∙ ap (λ bs. record sink { lengths = sink.lengths ++ map len (take (k + 1) sink.entries); entries = drop (k + 1) sink.entries; blocks = bs }) (drop-one k sink.blocks))

pub space-pushed : (ns : List ℕ) (m : ℕ) → space (ns ++ m ∷ []) ≡ space ns + (5 + m)
space-pushed [] m = omega arith
space-pushed (n ∷ ns) m = let r = space-pushed ns m in omega (arith, r)

-- what the first k take
pub fit-next : (k n capacity used : ℕ) (ns : List ℕ) (es : List Entry) (e : Entry) → FitSome n capacity used es → slice_get es k ≡ Some e → k < n → used ≡ space ns
    → has_space capacity (space (ns ++ map (λ (x : Entry). encoded_len x.message) (take k es))) (encoded_len e.message) ≡ true
fit-next k n capacity used ns [] e f h l at = let wrong : None ≡ Some e = h in cc
fit-next k zero capacity used ns (x ∷ es) e f h l at = absurd (omega (arith, l))
fit-next zero (suc n) capacity used ns (x ∷ es) e f h l at =
    let same : x ≡ e = some-same x e h in
    let nil : ns ++ [] ≡ ns = append-nil ns in
    rw (nil, ← same, ← at) f.0
fit-next (suc k) (suc n) capacity used ns (x ∷ es) e f h l at =
    let m : ℕ = encoded_len x.message in
    let pushed : space (ns ++ m ∷ []) ≡ space ns + (5 + m) = space-pushed ns m in
    let r = fit-next k n capacity (used + (5 + m)) (ns ++ m ∷ []) es e f.1 h (omega (arith, l)) (sym (pushed ∙ ap (λ u. u + (5 + m)) (sym at))) in
    let parts : (ns ++ m ∷ []) ++ map (λ (y : Entry). encoded_len y.message) (take k es) ≡ ns ++ (m ∷ map (λ (y : Entry). encoded_len y.message) (take k es)) = append_assoc ns (m ∷ []) (map (λ (y : Entry). encoded_len y.message) (take k es)) in
    rw (← parts) r

-- Entries that may be moved.

fit-length : (n capacity used : ℕ) (es : List Entry) → FitSome n capacity used es → n ≤ length es
fit-length zero capacity used es f = omega arith
fit-length (suc n) capacity used [] f = absurd f
fit-length (suc n) capacity used (e ∷ es) f = let r = fit-length n capacity (used + (5 + encoded_len e.message)) es f.1 in omega (arith, r)

pub moves-wait : (buffer : BufferSetup) (o : Option SinkState) (n : ℕ) → CanMove buffer o n → HasWaiting o n
moves-wait buffer None n h = absurd h
moves-wait buffer (Some sink) n h = fit-length n buffer.capacity (space sink.lengths) sink.entries h.1

move-of : (buffer : BufferSetup) (o : Option SinkState) (n : ℕ) (sink : SinkState) → o ≡ Some sink → CanMove buffer o n → (sink.setup.buffer ≡ Some buffer) × FitSome n buffer.capacity (space sink.lengths) sink.entries
move-of buffer o n sink e h = subst (λ (x : Option SinkState). CanMove buffer x n) e h

-- what the turn may move
pub record MoveTurn (buffer : BufferSetup) (k : ℕ) (seen : SinkState) : Type 0 where
  pub has : seen.setup.buffer ≡ Some buffer
  pub fits : FitsFirst buffer.capacity seen

pub move-turn : (buffer : BufferSetup) (olds : List SinkState) (d n k : ℕ) (sink seen : SinkState) (e : Entry) → CanMove buffer (slice_get olds d) n → slice_get olds d ≡ Some sink → slice_get sink.entries k ≡ Some e → k < n → seen ≡ moved_some k sink → MoveTurn buffer k seen
move-turn buffer olds d n k sink seen e can there next low same =
    let m = move-of buffer (slice_get olds d) n sink there can in
    let fits = fit-next k n buffer.capacity (space sink.lengths) sink.lengths sink.entries e m.1 next low refl in
    record {
      has = ap (λ (z : SinkState). z.setup.buffer) same ∙ m.0;
      fits = λ x h.
          let first : slice_get seen.entries 0 ≡ Some e = ap (λ (z : SinkState). slice_get z.entries 0) same ∙ first-dropped k sink.entries e next in
          let is : e ≡ x = some-same e x (sym first ∙ h) in
          subst (λ (y : Entry). has_space buffer.capacity (space seen.lengths) (encoded_len y.message) ≡ true) is (subst (λ (z : SinkState). has_space buffer.capacity (space z.lengths) (encoded_len e.message) ≡ true) (sym same) fits);
    }
