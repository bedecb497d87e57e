-- The steps of a settle.
use Rattle.std.proofs.Common.{◌≡◌, ℕ, ◌+◌, ◌-◌, ◌<◌, ◌≤◌, List, [], ◌∷◌, length, take, drop, Some, None, Option, Bool, true, false, refl, sym, ap, ◌∙◌, arith, suc, zero, map, slice_get, subst, set, min}
use Rattle.std.specs.Prelude.{◌==◌, nat_le, option_and_then}
use Rattle.std.specs.Option.{option_map_or}
use Rattle.std.proofs.lemmas.List.{length-map}
use Rattle.sg_list.specs.Lists.{change}
use Rattle.sg_list.proofs.ListLemmas.{some-same, get-change-same, slice_get-below, length-change}
use Rattle.sg_queue.specs.declared.entry.Entry.{Entry as Waiting}
use Rattle.sg_machine.specs.declared.setup.BufferSetup.{BufferSetup}
use Rattle.sg_machine.specs.declared.state.State.{State}
use Rattle.sg_machine.specs.Safe.{spooled_of}
use Rattle.sg_machine.proofs.MoveLemmas.{change-twice, change-agree}
use Rattle.sg_machine.proofs.RunLemmas.{both-true}
use Rattle.sg_offers.specs.Rooms.{seen_in}
use Rattle.sg_sinks.specs.Fitting.{space}
use Rattle.sg_sinks.specs.Laws.{is_listed_in}
use Rattle.sg_sinks.specs.Settling.{settled_spooled, settled_first}
use Rattle.sg_sinks.specs.States.{SinkState, Sunk, with_broken}
use Rattle.sg_stores.specs.Advancing.{CanAdvance, HasFirst}
use Rattle.sg_stores.specs.Stores.{StoreState, HasBufferSize, length_of}
use Rattle.sg_standing.specs.States.{CoreState}
use Rattle.sg_standing.specs.Standing.{IsAt}
use Rattle.sg_core.specs.Answers.{can_settle, can_settle_at, broken_at, buffer_at}
use Rattle.sg_core.specs.Parts.{HasWaiting, HasLeft, CanAckAll, entries_at, settling_at, lengths_at, settled_waiting_some}
use Rattle.sg_core.specs.Steps.{CanTakeOff, TakesOff}
use Rattle.sg_core.proofs.DestSteps.{dest-of}
use Rattle.sg_core.proofs.PartLemmas.{seen-written}
use Rattle.sg_core.proofs.SettleCalls.{working, buffer-of, drop-min, take-min, settles-at}
use Rattle.sg_core.proofs.Spooled.{lengths-spooled}
use Rattle.sg_offers.proofs.ItemLemmas.{seen-there}

-- Those on the disk, then those that wait.

pub spooled-first : (sinks : List Sunk) (d k : ℕ) (x y : Sunk) → slice_get sinks d ≡ Some x → y.seen ≡ settled_spooled k x.seen → seen_in (set sinks d y) ≡ change (seen_in sinks) d (settled_spooled k)
spooled-first sinks d k x y h e = seen-written sinks d x y (settled_spooled k) h e

has-left : (o : Option SinkState) (n : ℕ) (sink : SinkState) → o ≡ Some sink → HasLeft o n → n ≤ length sink.lengths + length sink.entries
has-left None n sink e h = absurd h
has-left (Some x) n sink e h = subst (λ (z : SinkState). n ≤ length z.lengths + length z.entries) (some-same x sink e) h

has-waiting : (o : Option SinkState) (n : ℕ) (sink : SinkState) → o ≡ Some sink → n ≤ length sink.entries → HasWaiting o n
has-waiting None n sink e h = let wrong : None ≡ Some sink = e in cc
has-waiting (Some x) n sink e h = subst (λ (z : SinkState). n ≤ length z.entries) (sym (some-same x sink e)) h

rest-same : (m n : ℕ) → n - min m n ≡ n - m
rest-same m n = omega arith

pub waits-then : (sinks : List Sunk) (d n k : ℕ) (x y : Sunk) → slice_get sinks d ≡ Some x → y.seen ≡ settled_spooled k x.seen → k ≡ min (length x.seen.lengths) n → HasLeft (slice_get (seen_in sinks) d) n → HasWaiting (slice_get (seen_in (set sinks d y)) d) (n - k)
waits-then sinks d n k x y h e least left =
    let l = has-left (slice_get (seen_in sinks) d) n x.seen (seen-there sinks d x h) left in
    let now : slice_get (seen_in (set sinks d y)) d ≡ Some (settled_spooled k x.seen) = ap (λ ks. slice_get ks d) (spooled-first sinks d k x y h e) ∙ get-change-same (seen_in sinks) d (settled_spooled k) x.seen (seen-there sinks d x h) in
    has-waiting (slice_get (seen_in (set sinks d y)) d) (n - k) (settled_spooled k x.seen) now (omega (arith, l, least))

pub entries-then : (sinks : List Sunk) (d n k : ℕ) (x y : Sunk) → slice_get sinks d ≡ Some x → y.seen ≡ settled_spooled k x.seen → k ≡ min (length x.seen.lengths) n → entries_at (seen_in (set sinks d y)) d (n - k) ≡ settling_at (seen_in sinks) d n
entries-then sinks d n k x y h e least =
    let now : slice_get (seen_in (set sinks d y)) d ≡ Some (settled_spooled k x.seen) = ap (λ ks. slice_get ks d) (spooled-first sinks d k x y h e) ∙ get-change-same (seen_in sinks) d (settled_spooled k) x.seen (seen-there sinks d x h) in
    let there = seen-there sinks d x h in
    let same : n - k ≡ n - length x.seen.lengths = ap (λ j. n - j) least ∙ rest-same (length x.seen.lengths) n in
    ap (λ o. option_map_or (λ (sink : SinkState). take (n - k) sink.entries) o []) now ∙ ap (λ m. take m x.seen.entries) same
    ∙ ap (λ o. option_map_or (λ (sink : SinkState). take (n - length sink.lengths) sink.entries) o []) (sym there)

first-both : (n k : ℕ) (sink : SinkState) → k ≡ min (length sink.lengths) n → settled_waiting_some (n - k) (settled_spooled k sink) ≡ settled_first n sink
first-both n k sink least =
    let same : n - k ≡ n - length sink.lengths = ap (λ j. n - j) least ∙ rest-same (length sink.lengths) n in
    let sum : sink.taken + k + (n - k) ≡ sink.taken + n = omega (arith, least) in
    let ls : drop k sink.lengths ≡ drop n sink.lengths = ap (λ m. drop m sink.lengths) least ∙ drop-min n sink.lengths in
    ap (λ t. record sink { taken = t; lengths = drop k sink.lengths; entries = drop (n - k) sink.entries; blocks = drop (n - k) sink.blocks }) sum
    ∙ ap (λ ns. record sink { taken = sink.taken + n; lengths = ns; entries = drop (n - k) sink.entries; blocks = drop (n - k) sink.blocks }) ls
    ∙ ap (λ m. record sink { taken = sink.taken + n; lengths = drop n sink.lengths; entries = drop m sink.entries; blocks = drop m sink.blocks }) same

pub first-then : (sinks : List Sunk) (news : List SinkState) (d n k : ℕ) (x y : Sunk) → slice_get sinks d ≡ Some x → y.seen ≡ settled_spooled k x.seen → k ≡ min (length x.seen.lengths) n → news ≡ change (seen_in (set sinks d y)) d (settled_waiting_some (n - k))
    → news ≡ change (seen_in sinks) d (settled_first n)
first-then sinks news d n k x y h e least all =
    all ∙ ap (λ ks. change ks d (settled_waiting_some (n - k))) (spooled-first sinks d k x y h e) ∙ change-twice (seen_in sinks) d (settled_spooled k) (settled_waiting_some (n - k))
    ∙ change-agree (seen_in sinks) d (λ z. settled_waiting_some (n - k) (settled_spooled k z)) (settled_first n) x.seen (seen-there sinks d x h) (first-both n k x.seen least)

space-split : (k : ℕ) (ns : List ℕ) → space (take k ns) + space (drop k ns) ≡ space ns
space-split zero ns = omega arith
space-split (suc k) [] = refl
space-split (suc k) (n ∷ ns) = let r = space-split k ns in omega (arith, r)

pub size-then : (sinks : List Sunk) (d n k size : ℕ) (x y : Sunk) → slice_get sinks d ≡ Some x → y.seen ≡ settled_spooled k x.seen → k ≡ min (length x.seen.lengths) n → size + space y.seen.lengths ≡ space x.seen.lengths → size ≡ space (take n (lengths_at (seen_in sinks) d))
size-then sinks d n k size x y h e least sum =
    let ls : y.seen.lengths ≡ drop k x.seen.lengths = ap (λ (z : SinkState). z.lengths) e in
    let left = ap space ls in
    let split = space-split k x.seen.lengths in
    let taken : size ≡ space (take k x.seen.lengths) = omega (arith, sum, left, split) in
    let there : lengths_at (seen_in sinks) d ≡ x.seen.lengths = ap (λ o. option_map_or (λ (sink : SinkState). sink.lengths) o []) (seen-there sinks d x h) in
    taken ∙ ap (λ m. space (take m x.seen.lengths)) least ∙ ap space (take-min n x.seen.lengths) ∙ ap (λ ns. space (take n ns)) (sym there)

-- The call.

pub can-at : (sinks : List SinkState) (d place n : ℕ) (sink : SinkState) → slice_get sinks d ≡ Some sink → can_settle_at sinks d place n ≡ can_settle sink place n
can-at sinks d place n sink h = rw h refl

pub can-left : (sink : SinkState) (place n : ℕ) → can_settle sink place n ≡ true → n ≤ length sink.lengths + length sink.entries
can-left sink place n h = let p = (both-true (place == sink.taken) (nat_le n (length sink.lengths + length sink.entries)) h).1 in grind (arith, p)

pub left-at : (sinks : List SinkState) (d n : ℕ) (sink : SinkState) → slice_get sinks d ≡ Some sink → n ≤ length sink.lengths + length sink.entries → HasLeft (slice_get sinks d) n
left-at sinks d n sink h l = rw h l

pub settling-is : (sinks : List SinkState) (d n : ℕ) (sink : SinkState) → slice_get sinks d ≡ Some sink → settling_at sinks d n ≡ take (n - length sink.lengths) sink.entries
settling-is sinks d n sink h = rw h refl

pub lengths-is : (sinks : List SinkState) (d : ℕ) (sink : SinkState) → slice_get sinks d ≡ Some sink → lengths_at sinks d ≡ sink.lengths
lengths-is sinks d sink h = rw h refl

pub can-ack : (core : CoreState) (s : State) (d n : ℕ) (sink : SinkState) → IsAt core s → slice_get core.sinks d ≡ Some sink → n ≤ length sink.lengths + length sink.entries → CanAckAll core.sources (settling_at core.sinks d n)
can-ack core s d n sink at there l =
    subst (λ (es : List Waiting). CanAckAll core.sources es) (sym (settling-is core.sinks d n sink there)) (settles-at core core s d n sink at there l).can

can-advance : (o : Option StoreState) (was : StoreState) (k size : ℕ) → o ≡ Some was → (was.failed ≡ false → HasFirst was k size) → CanAdvance o k size
can-advance None was k size e h = let wrong : None ≡ Some was = e in cc
can-advance (Some x) was k size e h = let same = some-same x was e in rw same h

can-take-by : (core : CoreState) (s : State) (d n k size : ℕ) (sink : SinkState) (o : Option BufferSetup) (broken : Bool) → IsAt core s → slice_get core.sinks d ≡ Some sink → sink.setup.buffer ≡ o → sink.broken ≡ broken → k ≡ min (length sink.lengths) n → size ≡ space (take n sink.lengths)
    → CanTakeOff core.stores o broken k size
can-take-by core s d n k size sink None broken at there has is least sized = tt
can-take-by core s d n k size sink (Some b) broken at there has is least sized = λ fine some.
    let v = dest-of core s d sink at there in
    let had = buffer-of s v.dest sink b v.shown has in
    let store = at.buffers d v.dest b v.there had in
    let w = working core s d v.dest b sink store.store at v.there v.shown had (is ∙ fine) store.there in
    let ls : sink.lengths ≡ map length_of (spooled_of (v.dest).left) = ap (λ (z : SinkState). z.lengths) v.shown ∙ lengths-spooled (v.dest).left in
    let len : length sink.lengths ≡ length (spooled_of (v.dest).left) = ap length ls ∙ length-map (spooled_of (v.dest).left) length_of in
    can-advance (slice_get core.stores b.store) store.store k size store.there (λ f. record {
      capacity = b.capacity;
      list = spooled_of (v.dest).left;
      sized = subst (λ (ns : List ℕ). HasBufferSize b.capacity ns (store.store).buffer) (lengths-spooled (v.dest).left) w.sized;
      holds = w.holds;
      some = omega (arith, some);
      enough = omega (arith, least, len);
      spaced = sized ∙ ap space (sym (take-min n sink.lengths)) ∙ ap (λ m. space (take m sink.lengths)) (sym least) ∙ ap (λ ns. space (take k ns)) ls;
    })

pub can-take : (core : CoreState) (s : State) (d n k size : ℕ) (sink : SinkState) → IsAt core s → slice_get core.sinks d ≡ Some sink → k ≡ min (length sink.lengths) n → size ≡ space (take n sink.lengths) → CanTakeOff core.stores sink.setup.buffer sink.broken k size
can-take core s d n k size sink at there least sized = can-take-by core s d n k size sink sink.setup.buffer sink.broken at there refl refl least sized

-- Answers.

pub none-broken : (s : State) (core : CoreState) (d : ℕ) (sink : SinkState) → IsAt core s → slice_get core.sinks d ≡ Some sink → sink.setup.buffer ≡ None → sink.broken ≡ false
none-broken s core d sink at there none =
    let v = dest-of core s d sink at there in
    let had : (v.dest).setup.buffer ≡ None = ap (λ (z : SinkState). z.setup.buffer) (sym v.shown) ∙ none in
    ap (λ (z : SinkState). z.broken) v.shown ∙ ap (λ o. is_listed_in o s.failed) had

works-by : (core : CoreState) (s : State) (news : List StoreState) (d k size : ℕ) (sink : SinkState) (o : Option BufferSetup) (broken : Bool) → IsAt core s → slice_get core.sinks d ≡ Some sink → sink.setup.buffer ≡ o → sink.broken ≡ broken → TakesOff core.stores news o broken k size true → broken ≡ false
works-by core s news d k size sink None broken at there has is t = sym is ∙ none-broken s core d sink at there has
works-by core s news d k size sink (Some b) true at there has is t = t.1
works-by core s news d k size sink (Some b) false at there has is t = refl

-- where the store works at last it did so before
pub worked : (core : CoreState) (s : State) (news : List StoreState) (d k size : ℕ) (sink : SinkState) (works : Bool) → IsAt core s → slice_get core.sinks d ≡ Some sink → TakesOff core.stores news sink.setup.buffer sink.broken k size works → works ≡ true → sink.broken ≡ false
worked core s news d k size sink works at there t fine = works-by core s news d k size sink sink.setup.buffer sink.broken at there refl refl (subst (λ (w : Bool). TakesOff core.stores news sink.setup.buffer sink.broken k size w) fine t)

no-buffer : (olds news : List StoreState) (o : Option BufferSetup) (broken : Bool) (k size : ℕ) → o ≡ None → TakesOff olds news o broken k size false → ⊥
no-buffer olds news None broken k size h t = let wrong : false ≡ true = t.1 in cc
no-buffer olds news (Some b) broken k size h t = let wrong : Some b ≡ None = h in cc

pub never-fails : (olds news : List StoreState) (sinks : List SinkState) (d k size : ℕ) (sink : SinkState) (works : Bool) → slice_get sinks d ≡ Some sink → buffer_at sinks d ≡ None → TakesOff olds news sink.setup.buffer sink.broken k size works → works ≡ false → ⊥
never-fails olds news sinks d k size sink works there none t fails =
    let is : sink.setup.buffer ≡ None = ap (λ o. option_and_then (λ (x : SinkState). x.setup.buffer) o) (sym there) ∙ none in
    no-buffer olds news sink.setup.buffer sink.broken k size is (subst (λ (w : Bool). TakesOff olds news sink.setup.buffer sink.broken k size w) fails t)

pub broken-first : (sinks news : List SinkState) (d n : ℕ) (sink : SinkState) → slice_get sinks d ≡ Some sink → news ≡ change sinks d (settled_first n) → broken_at news d ≡ sink.broken
broken-first sinks news d n sink there e = ap (λ ks. broken_at ks d) e ∙ ap (λ o. option_map_or (λ (x : SinkState). x.broken) o false) (get-change-same sinks d (settled_first n) sink there)

pub broken-then : (sinks news : List SinkState) (d n : ℕ) (sink : SinkState) → slice_get sinks d ≡ Some sink → news ≡ change (change sinks d (settled_first n)) d with_broken → broken_at news d ≡ true
broken-then sinks news d n sink there e =
    ap (λ ks. broken_at ks d) e ∙ ap (λ o. option_map_or (λ (x : SinkState). x.broken) o false) (get-change-same (change sinks d (settled_first n)) d with_broken (settled_first n sink) (get-change-same sinks d (settled_first n) sink there))

pub still-there : (sinks : List SinkState) (sunk : List Sunk) (d : ℕ) (f : SinkState → SinkState) (sink : SinkState) → slice_get sinks d ≡ Some sink → seen_in sunk ≡ change sinks d f → d < length sunk
still-there sinks sunk d f sink h e =
    let b = slice_get-below sinks d sink h in
    let len : length sunk ≡ length sinks = sym (length-map sunk (λ (x : Sunk). x.seen)) ∙ ap length e ∙ length-change sinks d f in
    omega (arith, b, len)
