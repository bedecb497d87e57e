-- Stores that have failed, and the replies that tell it.
use Rattle.std.proofs.Common.{◌≡◌, ℕ, zero, suc, Bool, true, false, Option, Some, None, Ok, Err, List, [], ◌∷◌, refl, sym, ap, ◌∙◌, slice_get, subst}
use Rattle.std.specs.Option.{option_map, option_map_or}
use Rattle.sg_list.specs.Lists.{change}
use Rattle.sg_list.proofs.ListLemmas.{some-same, get-change-same}
use Rattle.sg_device.specs.Disk.{DiskState}
use Rattle.sg_machine.specs.declared.setup.BufferSetup.{BufferSetup}
use Rattle.sg_machine.specs.declared.setup.DestSetup.{DestSetup}
use Rattle.sg_machine.specs.declared.setup.Setup.{Setup}
use Rattle.sg_machine.specs.declared.event.Act.{Act}
use Rattle.sg_machine.specs.declared.event.Act.TheVariants.{Look}
use Rattle.sg_machine.specs.declared.state.State.{State}
use Rattle.sg_machine.specs.Effects.{after_act}
use Rattle.sg_machine.specs.Verdicts.{is_listed}
use Rattle.sg_counter.specs.Bringing.{store_in}
use Rattle.sg_counter.specs.Exchanges.{Exchange, Makes}
use Rattle.sg_counter.specs.declared.answers.CoreFront.{CoreFront}
use Rattle.sg_counter.specs.declared.answers.CoreFront.TheVariants.{Entries, Empty, Broken as FrontBroken}
use Rattle.sg_counter.specs.declared.answers.Refill.{Refill}
use Rattle.sg_counter.specs.declared.answers.Refill.TheVariants.{Moved, NoneWaits, NoRoom, Broken as RefillBroken}
use Rattle.sg_counter.specs.declared.answers.Settled.TheVariants.{Done, NotFront, DiskFailed}
use Rattle.sg_counter.specs.declared.answers.Stored.TheVariants.{Wrote, Unchanged, Broken}
use Rattle.sg_counter.specs.declared.calls.CoreCall.{CoreCall}
use Rattle.sg_counter.specs.declared.calls.CoreCall.TheVariants.{Credit, Admit, Front, Settle, Refill as RefillCall, Store}
use Rattle.sg_counter.specs.declared.calls.CoreReply.{CoreReply}
use Rattle.sg_counter.specs.declared.calls.CoreReply.TheVariants.{Credit as CreditReply, Admitted, Front as FrontReply, Settled, Refilled, Stored}
use Rattle.sg_sinks.specs.States.{SinkState}
use Rattle.sg_stores.specs.Opening.{FailsByFaults, AllFailByFaults}
use Rattle.sg_stores.specs.Stores.{StoreState, AllGo}
use Rattle.sg_stores.proofs.GetLemmas.{get-map}
use Rattle.sg_stores.proofs.OpenLemmas.{all-by-faults}
use Rattle.sg_stores.proofs.StoreLemmas.{all_go_trans}
use Rattle.sg_standing.specs.Sources.{store_at}
use Rattle.sg_standing.specs.Standing.{IsAt, DoesAct, is_broken}
use Rattle.sg_standing.specs.States.{CoreState, setup_of}
use Rattle.sg_standing.specs.declared.source.Source.{Source}
use Rattle.sg_standing.proofs.Calls.{all-go-same}
use Rattle.sg_standing.proofs.More.{placed, backed}
use Rattle.sg_core.specs.Answers.{RefillsBy, RefillsAt, AnswersFrontAt, broken_at, is_front_broken}
use Rattle.sg_core.specs.Calls.{Serves}
use Rattle.sg_core.specs.Failing.{FailsAt, TellsFaults, is_refill_broken, store_asked, told_by}
use Rattle.sg_core.specs.Opening.{IsOpen, buffer_store_in}
use Rattle.sg_core.proofs.CallLemmas.{store_in-setups}
use Rattle.sg_core.proofs.DestSteps.{dest-of, broken-listed}
use Rattle.sg_core.proofs.PositionSteps.{behind}

-- Calls.

pub serves-go : (old new : CoreState) (call : CoreCall) (reply : CoreReply) → Serves old call reply new → AllGo old.stores new.stores
serves-go old new (Credit i) (CreditReply n) s = all-go-same old.stores new.stores (ap (λ (c : CoreState). c.stores) s.same)
serves-go old new (Admit i records) (Admitted (Ok verdicts)) s = (s.does).goes
serves-go old new (Admit i records) (Admitted (Err refused)) s = (s.does).goes
serves-go old new (Front d most) (FrontReply result) s = (s.does).goes
serves-go old new (Settle d place n count) (Settled result) s = (s.does).goes
serves-go old new (RefillCall d) (Refilled result) s = (s.does).goes
serves-go old new (Store i) (Stored result) s = (s.does).goes
serves-go old new call reply s = absurd s

-- time goes on for each store over any calls
pub calls-go : (old new : CoreState) (made : List Exchange) → Makes Serves old made new → AllGo old.stores new.stores
calls-go old new [] m = all-go-same old.stores new.stores (ap (λ (c : CoreState). c.stores) m)
calls-go old new (x ∷ rest) m = all_go_trans old.stores (m.0).stores new.stores (serves-go old m.0 x.call x.reply m.1) (calls-go m.0 new rest m.2)

-- The store of a source, and of a disk-buffer.

source-with : (xs : List Source) (i u : ℕ) → store_at xs i ≡ Some u → (x : Source) × ((slice_get xs i ≡ Some x) × (x.setup.store ≡ Some u))
source-with [] i u h = absurd (let wrong : None ≡ Some u = h in cc)
source-with (x ∷ xs) zero u h = (x, (refl, h))
source-with (x ∷ xs) (suc i) u h = source-with xs i u h

store-as : (o : Option BufferSetup) (u : ℕ) → option_map_or (λ (b : BufferSetup). Some b.store) o None ≡ Some u → (b : BufferSetup) × ((o ≡ Some b) × (b.store ≡ u))
store-as None u h = absurd (let wrong : None ≡ Some u = h in cc)
store-as (Some b) u h = (b, (refl, some-same b.store u h))

buffer-with : (xs : List DestSetup) (d u : ℕ) → buffer_store_in xs d ≡ Some u → (x : DestSetup) × ((slice_get xs d ≡ Some x) × ((b : BufferSetup) × ((x.buffer ≡ Some b) × (b.store ≡ u))))
buffer-with [] d u h = absurd (let wrong : None ≡ Some u = h in cc)
buffer-with (x ∷ xs) zero u h = (x, (refl, store-as x.buffer u h))
buffer-with (x ∷ xs) (suc d) u h = buffer-with xs d u h

pub listed-position : (core : CoreState) (t : State) (i u : ℕ) (store : StoreState) → IsAt core t → store_in (setup_of core).sources i ≡ Some u → slice_get core.stores u ≡ Some store → store.failed ≡ is_listed u t.failed
listed-position core t i u store at has get =
    let s = source-with core.sources i u (sym (store_in-setups core.sources i) ∙ has) in
    let b = behind core t i s.0 at s.1.0 in
    let has' : (b.inlet).setup.store ≡ Some u = ap (λ (x : Source). x.setup.store) (sym b.shown) ∙ s.1.1 in
    (placed core t i u b.inlet store at b.there has' get).failed_is

pub listed-buffer : (core : CoreState) (t : State) (d u : ℕ) (store : StoreState) → IsAt core t → buffer_store_in (setup_of core).dests d ≡ Some u → slice_get core.stores u ≡ Some store → store.failed ≡ is_listed u t.failed
listed-buffer core t d u store at has get =
    let x = buffer-with (setup_of core).dests d u has in
    let k = get-map (λ (sink : SinkState). sink.setup) core.sinks d x.0 x.1.0 in
    let b = x.1.1.0 in
    let shown = dest-of core t d k.0 at k.1 in
    let setup : (shown.dest).setup ≡ x.0 = ap (λ (sink : SinkState). sink.setup) (sym shown.shown) ∙ sym k.2 in
    let has' : (shown.dest).setup.buffer ≡ Some b = ap (λ (s : DestSetup). s.buffer) setup ∙ x.1.1.1.0 in
    let get' : slice_get core.stores b.store ≡ Some store = ap (λ n. slice_get core.stores n) x.1.1.1.1 ∙ get in
    let back = at.buffers d shown.dest b shown.there has' in
    let same = backed core t d shown.dest b store at shown.there has' get' in
    ap (λ (s : StoreState). s.failed) (sym same) ∙ (back.is).failed_is ∙ ap (λ n. is_listed n t.failed) x.1.1.1.1

-- what is kept of a destination says of its store whether that has failed
broken-flag : (core : CoreState) (t : State) (d u : ℕ) (store : StoreState) → IsAt core t → buffer_store_in (setup_of core).dests d ≡ Some u → slice_get core.stores u ≡ Some store → broken_at core.sinks d ≡ store.failed
broken-flag core t d u store at has get =
    let x = buffer-with (setup_of core).dests d u has in
    let k = get-map (λ (sink : SinkState). sink.setup) core.sinks d x.0 x.1.0 in
    let b = x.1.1.0 in
    let shown = dest-of core t d k.0 at k.1 in
    let setup : (shown.dest).setup ≡ x.0 = ap (λ (sink : SinkState). sink.setup) (sym shown.shown) ∙ sym k.2 in
    let has' : (shown.dest).setup.buffer ≡ Some b = ap (λ (s : DestSetup). s.buffer) setup ∙ x.1.1.1.0 in
    let broken : broken_at core.sinks d ≡ is_broken t.failed shown.dest = ap (λ (o : Option SinkState). option_map_or (λ (s : SinkState). s.broken) o false) k.1 ∙ ap (λ (s : SinkState). s.broken) shown.shown in
    broken ∙ broken-listed t.failed shown.dest b has' ∙ ap (λ n. is_listed n t.failed) x.1.1.1.1 ∙ sym (listed-buffer core t d u store at has get)

-- Flags.

pub fail-by-faults : (setup : Setup) (disks : List DiskState) (first now : CoreState) → IsOpen setup disks first → AllGo first.stores now.stores → AllFailByFaults disks now.stores
fail-by-faults setup disks first now opens goes = all-by-faults opens.kinds disks opens.founds first.stores now.stores (opens.kinds_are).many opens.stores goes

flag-of : (stores : List StoreState) (s : ℕ) (store : StoreState) (failed : Bool) → slice_get stores s ≡ Some store → option_map (λ (x : StoreState). x.failed) (slice_get stores s) ≡ Some failed → store.failed ≡ failed
flag-of stores s store failed get is = some-same store.failed failed (ap (λ (o : Option StoreState). option_map (λ (x : StoreState). x.failed) o) (sym get) ∙ is)

pub fails-at : (setup : Setup) (disks : List DiskState) (first : CoreState) (stores : List StoreState) (s : ℕ) (failed : Bool) → IsOpen setup disks first → AllGo first.stores stores → option_map (λ (x : StoreState). x.failed) (slice_get stores s) ≡ Some failed
    → FailsAt disks stores s failed
fails-at setup disks first stores s failed opens goes is disk store at_disk at_store =
    subst (λ (f : Bool). FailsByFaults f disk store.disk) (flag-of stores s store failed at_store is)
    (all-by-faults opens.kinds disks opens.founds first.stores stores (opens.kinds_are).many opens.stores goes s disk store at_disk at_store)

-- Replies.

-- a destination is broken then
abbrev BrokenIn : Option SinkState → Bool → Type 0
BrokenIn o broken = option_map_or (λ (k : SinkState). k.broken) o false ≡ broken

front-told : (o p : Option SinkState) (most : ℕ) (front : CoreFront) → AnswersFrontAt o p most front → BrokenIn p (is_front_broken front)
front-told (Some old) (Some new) most (Entries place messages) h = ap (λ (k : SinkState). k.broken) h.0 ∙ h.1
front-told (Some old) (Some new) most Empty h = ap (λ (k : SinkState). k.broken) h.0 ∙ h.1
front-told (Some old) (Some new) most FrontBroken h = ap (λ (k : SinkState). k.broken) h
front-told o p most front h = absurd h

refill-told : (buffer : BufferSetup) (old new : SinkState) (answer : Refill) → RefillsBy (Some buffer) old new answer → new.broken ≡ is_refill_broken answer
refill-told buffer old new (Moved n) h = h.0
refill-told buffer old new NoneWaits h = ap (λ (k : SinkState). k.broken) h.2 ∙ h.0
refill-told buffer old new NoRoom h = ap (λ (k : SinkState). k.broken) h.3 ∙ h.0
refill-told buffer old new RefillBroken h = h

-- it has a disk-buffer
abbrev HasBufferFault : Option SinkState → Type 0
HasBufferFault None = ⊥
HasBufferFault (Some sink) = (b : BufferSetup) × (sink.setup.buffer ≡ Some b)

refill-at : (o p : Option SinkState) (answer : Refill) → HasBufferFault o → RefillsAt o p answer → BrokenIn p (is_refill_broken answer)
refill-at (Some old) (Some new) answer has h = refill-told has.0 old new answer (subst (λ (b : Option BufferSetup). RefillsBy b old new answer) has.1 h)
refill-at (Some old) None answer has h = absurd h
refill-at None p answer has h = absurd has

has-buffer : (core : CoreState) (d u : ℕ) → buffer_store_in (setup_of core).dests d ≡ Some u → HasBufferFault (slice_get core.sinks d)
has-buffer core d u has =
    let x = buffer-with (setup_of core).dests d u has in
    let k = get-map (λ (sink : SinkState). sink.setup) core.sinks d x.0 x.1.0 in
    subst HasBufferFault (sym k.1) (x.1.1.0, ap (λ (s : DestSetup). s.buffer) (sym k.2) ∙ x.1.1.1.0)

-- the store of the disk-buffer, where the call says of its destination whether it is broken
told-buffer : (old new : CoreState) (act : Act) (t : State) (d u : ℕ) (store : StoreState) (broken failed : Bool) → DoesAct old new act → IsAt old t → buffer_store_in (setup_of old).dests d ≡ Some u
    → broken_at new.sinks d ≡ broken → Some broken ≡ Some failed → slice_get new.stores u ≡ Some store → store.failed ≡ failed
told-buffer old new act t d u store broken failed does at asked is told get =
    let has : buffer_store_in (setup_of new).dests d ≡ Some u = ap (λ (x : Setup). buffer_store_in x.dests d) does.setup ∙ asked in
    sym (broken-flag new (after_act t act does.failed) d u store (does.step t at).1 has get) ∙ is ∙ some-same broken failed told

-- the store whose position was written, or not
written : (olds news : List StoreState) (s : ℕ) (was now store : StoreState) → slice_get olds s ≡ Some was → news ≡ change olds s (λ _. now) → slice_get news s ≡ Some store → now ≡ store
written olds news s was now store there others get =
    some-same now store (sym (get-change-same olds s (λ _. now) was there) ∙ ap (λ (l : List StoreState). slice_get l s) (sym others) ∙ get)

told-flag : (old new : CoreState) (t : State) (call : CoreCall) (reply : CoreReply) (s : ℕ) (failed : Bool) (store : StoreState) → IsAt old t → Serves old call reply new → store_asked old call ≡ Some s
    → told_by reply ≡ Some failed → slice_get new.stores s ≡ Some store → store.failed ≡ failed
told-flag old new t (Credit i) (CreditReply n) s failed store at serves asked told get = absurd (let wrong : None ≡ Some s = asked in cc)
told-flag old new t (Admit i records) (Admitted result) s failed store at serves asked told get = absurd (let wrong : None ≡ Some s = asked in cc)
told-flag old new t (Front d most) (FrontReply (Ok front)) s failed store at serves asked told get =
    told-buffer old new Look t d s store (is_front_broken front) failed serves.does at asked (front-told (slice_get old.sinks d) (slice_get new.sinks d) most front serves.front) told get
told-flag old new t (Front d most) (FrontReply (Err e)) s failed store at serves asked told get = absurd (let wrong : None ≡ Some failed = told in cc)
told-flag old new t (Settle d place n count) (Settled Done) s failed store at serves asked told get = told-buffer old new _ t d s store false failed serves.does at asked serves.answer.1 told get
told-flag old new t (Settle d place n count) (Settled NotFront) s failed store at serves asked told get = absurd (let wrong : None ≡ Some failed = told in cc)
told-flag old new t (Settle d place n count) (Settled DiskFailed) s failed store at serves asked told get = told-buffer old new _ t d s store true failed serves.does at asked serves.answer.1 told get
told-flag old new t (RefillCall d) (Refilled result) s failed store at serves asked told get =
    told-buffer old new _ t d s store (is_refill_broken result) failed serves.does at asked (refill-at (slice_get old.sinks d) (slice_get new.sinks d) result (has-buffer old d s asked) serves.answer) told get
told-flag old new t (Store i) (Stored (Wrote w)) s failed store at serves asked told get =
    let h = serves.writes s asked in
    let same = written old.stores new.stores s h.old h.new store h.was h.others get in
    ap (λ (x : StoreState). x.failed) (sym same) ∙ h.writes.2.works ∙ some-same false failed told
told-flag old new t (Store i) (Stored Unchanged) s failed store at serves asked told get = absurd (let wrong : None ≡ Some failed = told in cc)
told-flag old new t (Store i) (Stored Broken) s failed store at serves asked told get =
    let h = serves.writes s asked in
    let same = written old.stores new.stores s h.old h.new store h.was h.others get in
    ap (λ (x : StoreState). x.failed) (sym same) ∙ h.writes.1.fails ∙ some-same true failed told
told-flag old new t call reply s failed store at serves asked told get = absurd serves

pub tells-faults : (setup : Setup) (disks : List DiskState) (first old new : CoreState) (t : State) (call : CoreCall) (reply : CoreReply) → IsOpen setup disks first → AllGo first.stores old.stores → IsAt old t → Serves old call reply new → TellsFaults disks old call reply new
tells-faults setup disks first old new t call reply opens goes at serves s failed asked told disk store at_disk at_store =
    let all = fail-by-faults setup disks first new opens (all_go_trans first.stores old.stores new.stores goes (serves-go old new call reply serves)) in
    subst (λ (f : Bool). FailsByFaults f disk store.disk) (told-flag old new t call reply s failed store at serves asked told at_store) (all s disk store at_disk at_store)
