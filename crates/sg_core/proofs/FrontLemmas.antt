-- What a front shows.
use Rattle.std.proofs.Common.{◌≡◌, ◌≢◌, ℕ, ◌+◌, ◌-◌, ◌<◌, ◌≤◌, List, [], ◌∷◌, ◌++◌, length, take, Some, None, Option, Bool, true, false, refl, sym, ap, ◌∙◌, arith, suc, zero, map, slice_get, subst}
use Rattle.std.specs.Prelude.{◌==◌, is_some, option_and_then, Result, Ok, Err, IfOk}
use Rattle.std.specs.Option.{option_map}
use Rattle.std.proofs.lemmas.List.{length-map}
use Rattle.sg_list.proofs.ListLemmas.{some-same}
use Rattle.sg_msg.specs.Length.{encoded_len}
use Rattle.sg_msg.specs.Message.{Content}
use Rattle.sg_device.specs.Disk.{content, WhereTold}
use Rattle.sg_queue.specs.declared.entry.Entry.{Entry as Waiting}
use Rattle.sg_machine.specs.declared.setup.BufferSetup.{BufferSetup}
use Rattle.sg_machine.specs.declared.state.Dest.{Dest}
use Rattle.sg_machine.specs.declared.state.DestEntry.{DestEntry}
use Rattle.sg_machine.specs.declared.state.State.{State}
use Rattle.sg_machine.specs.Runs.{BufferedEntry}
use Rattle.sg_machine.specs.Safe.{spooled_of}
use Rattle.sg_sinks.specs.Runs.{run_of}
use Rattle.sg_sinks.specs.Standing.{are_split, are_waiting, lengths_of, waiting_from, sink_of}
use Rattle.sg_sinks.specs.States.{SinkState, with_broken}
use Rattle.sg_sinks.proofs.LeftLemmas.{waiting-lengths, first-waits, rest-waits}
use Rattle.sg_stores.specs.Stores.{StoreState, HoldsEntries}
use Rattle.sg_standing.specs.States.{CoreState}
use Rattle.sg_standing.specs.Standing.{IsAt, is_broken}
use Rattle.sg_counter.specs.declared.answers.CoreFront.{CoreFront}
use Rattle.sg_counter.specs.declared.answers.CoreFront.TheVariants.{Entries, Empty, Broken}
use Rattle.sg_core.specs.Answers.{AnswersFront, AnswersFrontAt, ShowsLeft, IsBufferTold, shown_of, buffer_at}
use Rattle.sg_core.proofs.FrontCalls.{no-lengths}
use Rattle.sg_core.proofs.SettleParts.{none-broken}
use Rattle.sg_core.proofs.DestSteps.{dest-of}
use Rattle.sg_core.proofs.Fits.{left-length}
use Rattle.sg_core.proofs.SettleCalls.{any-split, working, buffer-of}
use Rattle.sg_core.proofs.SettleSteps.{split-by, spooled-rest}
use Rattle.sg_core.proofs.Spooled.{spooled-cons}

-- one message more
pub take-message : (k : ℕ) (es : List Waiting) (m : Content) → option_map (λ (e : Waiting). e.message) (slice_get es k) ≡ Some m → map (λ (e : Waiting). e.message) (take (k + 1) es) ≡ map (λ (e : Waiting). e.message) (take k es) ++ m ∷ []
take-message k [] m h = let wrong : None ≡ Some m = h in cc
take-message zero (x ∷ es) m h = ap (λ y. y ∷ []) (some-same x.message m h)
take-message (suc k) (x ∷ es) m h = let b : suc k + 1 ≡ suc (k + 1) = omega arith in rw b (ap (λ ys. x.message ∷ ys) (take-message k es m h))

-- Those that wait.

wait-messages : (p n : ℕ) (es : List DestEntry) → are_waiting es ≡ true → map (λ (e : Waiting). e.message) (take n (waiting_from p es)) ≡ map (λ (e : DestEntry). e.message) (take n es)
wait-messages p zero es w = refl
wait-messages p (suc n) [] w = refl
wait-messages p (suc n) (e ∷ es) w =
    let no = first-waits e es w in
    let rest = wait-messages (p + 1) n es (rest-waits e es w) in
    rw no (ap (λ ms. e.message ∷ ms) rest)

cons-none : (e : DestEntry) (es : List DestEntry) → e.spooled ≡ true → lengths_of (e ∷ es) ≡ [] → ⊥
cons-none e es h none = let wrong : encoded_len e.message ∷ lengths_of es ≡ [] = rw h at none in cc

none-waits : (b : Bool) (e : DestEntry) (es : List DestEntry) → e.spooled ≡ b → are_split (e ∷ es) ≡ true → lengths_of (e ∷ es) ≡ [] → are_waiting (e ∷ es) ≡ true
none-waits true e es h split none = absurd (cons-none e es h none)
none-waits false e es h split none = split-by false e es h split

pub all-wait : (es : List DestEntry) → are_split es ≡ true → lengths_of es ≡ [] → are_waiting es ≡ true
all-wait [] split none = refl
all-wait (e ∷ es) split none = none-waits e.spooled e es refl split none

take-length : {A : Type 0} (n : ℕ) (xs : List A) → take (length (take n xs)) xs ≡ take n xs
take-length zero xs = refl
take-length (suc n) [] = refl
take-length (suc n) (x ∷ xs) = ap (λ ys. x ∷ ys) (take-length n xs)

nil-of : (es : List DestEntry) → length es ≡ 0 → es ≡ []
nil-of [] h = refl
nil-of (e ∷ es) h = absurd (omega (arith, h))

-- what waits is what is left, where none stands on a disk
pub shows-waiting : (core : CoreState) (s : State) (d most : ℕ) (sink : SinkState) (dest : Dest) (front : CoreFront) → IsAt core s → slice_get core.sinks d ≡ Some sink → slice_get s.dests d ≡ Some dest → sink.lengths ≡ [] → AnswersFront sink sink most front → ShowsLeft core.stores dest front
shows-waiting core s d most sink dest (Entries place messages) at there get none a = λ told.
    let v = dest-of core s d sink at there in
    let same : v.dest ≡ dest = some-same v.dest dest (sym v.there ∙ get) in
    let shown : sink ≡ sink_of (is_broken s.failed dest) dest = v.shown ∙ ap (λ (x : Dest). sink_of (is_broken s.failed x) x) same in
    let p : ℕ = length dest.settled + length (lengths_of dest.left) in
    let es : sink.entries ≡ waiting_from p dest.left = ap (λ (z : SinkState). z.entries) shown in
    let ls : lengths_of dest.left ≡ [] = ap (λ (z : SinkState). z.lengths) (sym shown) ∙ none in
    let w = all-wait dest.left (any-split dest.setup.buffer dest.left (at.sound.split d dest get)) ls in
    let is : messages ≡ map (λ (e : DestEntry). e.message) (take most dest.left) = a.5 none ∙ ap (λ xs. map (λ (e : Waiting). e.message) (take most xs)) es ∙ wait-messages p most dest.left w in
    let len : length messages ≡ length (take most dest.left) = ap length is ∙ length-map (take most dest.left) (λ (e : DestEntry). e.message) in
    is ∙ ap (map (λ (e : DestEntry). e.message)) (sym (take-length most dest.left) ∙ ap (λ n. take n dest.left) (sym len))
shows-waiting core s d most sink dest Empty at there get none a =
    let v = dest-of core s d sink at there in
    let same : v.dest ≡ dest = some-same v.dest dest (sym v.there ∙ get) in
    let shown : sink ≡ sink_of (is_broken s.failed dest) dest = v.shown ∙ ap (λ (x : Dest). sink_of (is_broken s.failed x) x) same in
    let p : ℕ = length dest.settled + length (lengths_of dest.left) in
    let es : length (waiting_from p dest.left) ≡ 0 = ap (λ (z : SinkState). length z.entries) (sym shown) ∙ ap length a.3 in
    let ls : length (lengths_of dest.left) ≡ 0 = ap (λ (z : SinkState). length z.lengths) (sym shown) ∙ ap length none in
    let all = left-length p dest.left in
    nil-of dest.left (omega (arith, es, ls, all))
shows-waiting core s d most sink dest Broken at there get none a = tt

-- Those on a disk.

spool-by : (b : Bool) (n : ℕ) (e : DestEntry) (es : List DestEntry) → e.spooled ≡ b → are_split (e ∷ es) ≡ true → suc n ≤ length (lengths_of (e ∷ es)) → (n ≤ length (lengths_of es) → map (λ (k : BufferedEntry). k.message) (take n (spooled_of es)) ≡ map (λ (x : DestEntry). x.message) (take n es))
    → map (λ (k : BufferedEntry). k.message) (take (suc n) (spooled_of (e ∷ es))) ≡ e.message ∷ map (λ (x : DestEntry). x.message) (take n es)
spool-by true n e es h split l rest =
    let few : suc n ≤ suc (length (lengths_of es)) = rw h at l in
    ap (λ ks. map (λ (k : BufferedEntry). k.message) (take (suc n) ks)) (spooled-cons true e es h) ∙ ap (λ ms. e.message ∷ ms) (rest (omega (arith, few)))
spool-by false n e es h split l rest =
    let none = waiting-lengths (e ∷ es) (split-by false e es h split) in
    let len : length (lengths_of (e ∷ es)) ≡ 0 = ap length none in
    absurd (omega (arith, l, len))

spool-messages : (n : ℕ) (es : List DestEntry) → are_split es ≡ true → n ≤ length (lengths_of es) → map (λ (k : BufferedEntry). k.message) (take n (spooled_of es)) ≡ map (λ (e : DestEntry). e.message) (take n es)
spool-messages zero es split l = refl
spool-messages (suc n) [] split l = refl
spool-messages (suc n) (e ∷ es) split l = spool-by e.spooled n e es refl split l (spool-messages n es (spooled-rest e.spooled e es refl split))

told-bytes : (o : Option (List ℕ)) → is_some o ≡ true → (bytes : List ℕ) × (o ≡ Some bytes)
told-bytes None h = let wrong : false ≡ true = h in cc
told-bytes (Some bytes) h = (bytes, refl)

told-of : (stores : List StoreState) (o : Option BufferSetup) (b : BufferSetup) (was : StoreState) → o ≡ Some b → slice_get stores b.store ≡ Some was → IsBufferTold stores o → is_some (content was.disk) ≡ true
told-of stores None b was e g t = let wrong : None ≡ Some b = e in cc
told-of stores (Some c) b was e g t =
    let same = some-same c b e in
    let at_b : option_map (λ (x : StoreState). is_some (content x.disk)) (slice_get stores b.store) ≡ Some true = subst (λ (z : BufferSetup). option_map (λ (x : StoreState). is_some (content x.disk)) (slice_get stores z.store) ≡ Some true) same t in
    some-same (is_some (content was.disk)) true (ap (option_map (λ (x : StoreState). is_some (content x.disk))) (sym g) ∙ at_b)

pub shows-spooled : (core : CoreState) (s : State) (d n place : ℕ) (sink : SinkState) (dest : Dest) (b : BufferSetup) (was : StoreState) (messages : List Content) → IsAt core s → slice_get core.sinks d ≡ Some sink → slice_get s.dests d ≡ Some dest → sink.setup.buffer ≡ Some b → sink.broken ≡ false
    → slice_get core.stores b.store ≡ Some was → n ≤ length sink.lengths → length messages ≡ n
    → WhereTold (content was.disk) (λ bytes. (list : List BufferedEntry) → HoldsEntries was list [] → messages ≡ map (λ (k : BufferedEntry). k.message) (take n list)) → ShowsLeft core.stores dest (Entries place messages)
shows-spooled core s d n place sink dest b was messages at there get has works store few len reads = λ told.
    let v = dest-of core s d sink at there in
    let same : v.dest ≡ dest = some-same v.dest dest (sym v.there ∙ get) in
    let shown : sink ≡ sink_of (is_broken s.failed dest) dest = v.shown ∙ ap (λ (x : Dest). sink_of (is_broken s.failed x) x) same in
    let had = buffer-of s dest sink b shown has in
    let w = working core s d dest b sink was at get shown had works store in
    let bytes = told-bytes (content was.disk) (told-of core.stores dest.setup.buffer b was had store told) in
    let ls : sink.lengths ≡ lengths_of dest.left = ap (λ (z : SinkState). z.lengths) shown in
    let l : n ≤ length (lengths_of dest.left) = subst (λ (ns : List ℕ). n ≤ length ns) ls few in
    reads bytes.0 bytes.1 (spooled_of dest.left) w.holds ∙ spool-messages n dest.left (any-split dest.setup.buffer dest.left (at.sound.split d dest get)) l
    ∙ ap (λ k. map (λ (e : DestEntry). e.message) (take k dest.left)) (sym len)

-- Answers.

pub at-both : (olds news : List SinkState) (d most : ℕ) (old new : SinkState) (front : CoreFront) → slice_get olds d ≡ Some old → slice_get news d ≡ Some new → AnswersFront old new most front → AnswersFrontAt (slice_get olds d) (slice_get news d) most front
at-both olds news d most old new front o n h = rw (o, n) h

pub run-some : (most : ℕ) (ns : List ℕ) → 0 < length ns → 0 < run_of most ns
run-some most [] h = absurd (omega (arith, h))
run-some most (n ∷ ns) h = omega arith

pub shown-run : (most : ℕ) (sink : SinkState) → 0 < length sink.lengths → shown_of most sink ≡ run_of most sink.lengths
shown-run most sink h = let q : (length sink.lengths == 0) ≡ false = grind (arith, h) in rw q refl

pub broken-same : (sink : SinkState) → sink.broken ≡ true → sink ≡ with_broken sink
broken-same sink h = rw h refl

pub nil-lengths : (ns : List ℕ) → length ns ≡ 0 → ns ≡ []
nil-lengths [] h = refl
nil-lengths (n ∷ ns) h = absurd (omega (arith, h))

pub not-nil : (ns : List ℕ) → 0 < length ns → ns ≡ [] → ⊥
not-nil [] h e = omega (arith, h)
not-nil (n ∷ ns) h e = cc

pub at-both-all : {E : Type 0} (sinks : List SinkState) (d most : ℕ) (sink : SinkState) (r : Result CoreFront E) → slice_get sinks d ≡ Some sink → IfOk r (AnswersFront sink sink most) → IfOk r (AnswersFrontAt (slice_get sinks d) (slice_get sinks d) most)
at-both-all sinks d most sink (Ok front) h a = at-both sinks sinks d most sink sink front h h a
at-both-all sinks d most sink (Err e) h a = tt

pub shows-waiting-all : {E : Type 0} (core : CoreState) (d most : ℕ) (sink : SinkState) (r : Result CoreFront E) → slice_get core.sinks d ≡ Some sink → sink.lengths ≡ [] → IfOk r (AnswersFront sink sink most)
    → IfOk r (λ front. (s : State) (dest : Dest) → IsAt core s → slice_get s.dests d ≡ Some dest → ShowsLeft core.stores dest front)
shows-waiting-all core d most sink (Ok front) there none a = λ s dest at get. shows-waiting core s d most sink dest front at there get none a
shows-waiting-all core d most sink (Err e) there none a = tt

pub not-zero : (k n : ℕ) → k ≡ n → k ≢ 0 → 0 < n
not-zero k zero e h = absurd (h e)
not-zero k (suc n) e h = omega arith

-- a queue in memory never breaks, and has nothing on a disk
pub none-broken-at : (core : CoreState) (s : State) (d : ℕ) (sink : SinkState) → IsAt core s → slice_get core.sinks d ≡ Some sink → buffer_at core.sinks d ≡ None → sink.broken ≡ true → ⊥
none-broken-at core s d sink at there none broken =
    let is : sink.setup.buffer ≡ None = ap (λ o. option_and_then (λ (x : SinkState). x.setup.buffer) o) (sym there) ∙ none in
    let wrong : true ≡ false = sym broken ∙ none-broken s core d sink at there is in
    cc

pub no-buffer-lengths : (core : CoreState) (s : State) (d k : ℕ) (sink : SinkState) → IsAt core s → slice_get core.sinks d ≡ Some sink → sink.setup.buffer ≡ None → k ≡ length sink.lengths → k ≢ 0 → ⊥
no-buffer-lengths core s d k sink at there none e h = h (e ∙ ap length (no-lengths core s d sink at there none))
