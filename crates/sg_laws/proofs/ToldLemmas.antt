-- A store that tells its bytes goes on telling them.
use Rattle.std.proofs.Common.{◌≡◌, ℕ, ◌-◌, List, [], length, drop, Some, None, Option, Bool, true, false, refl, sym, ap, ◌∙◌, arith, subst}
use Rattle.std.specs.Prelude.{is_some, slice_get}
use Rattle.std.specs.Option.{option_map}
use Rattle.std.proofs.Math.Seq.{drop-length}
use Rattle.sg_list.proofs.ListLemmas.{some-same, slice_get-some, slice_get-below}
use Rattle.sg_device.specs.Disk.{DiskState, DiskLog, IsLeftByCrash, IsLeftAt, Moves, bytes_after, content}
use Rattle.sg_machine.specs.declared.setup.BufferSetup.{BufferSetup}
use Rattle.sg_stores.specs.Stores.{StoreState, AllGo}
use Rattle.sg_core.specs.Answers.{IsBufferTold}

-- the bytes at first are an image at the first moment
first-left : (log : DiskLog) → IsLeftAt (Some log) 0 log.first
first-left log =
    let whole : length log.events ≡ length log.events - 0 = omega arith in
    let none : drop (length log.events - 0) log.events ≡ [] = ap (λ k. drop k log.events) (sym whole) ∙ drop-length log.events in
    subst (λ es. IsLeftByCrash log.first es log.first) (sym none) refl

told-still : (a b : Option DiskLog) → ((c : List ℕ) → IsLeftAt a 0 c → IsLeftAt b 0 c) → is_some (option_map (λ (log : DiskLog). bytes_after log.first log.events) a) ≡ true
    → is_some (option_map (λ (log : DiskLog). bytes_after log.first log.events) b) ≡ true
told-still None b kept h = absurd (let wrong : false ≡ true = h in cc)
told-still (Some log) None kept h = absurd (kept log.first (first-left log))
told-still (Some log) (Some next) kept h = refl

disk-tells : (old new : DiskState) → Moves old new → is_some (content old) ≡ true → is_some (content new) ≡ true
disk-tells old new m h = told-still old.told new.told (λ c i. m.kept 0 c (omega arith) i) h

abbrev tells : StoreState → Bool
tells store = is_some (content store.disk)

store-there : (o : Option StoreState) → option_map tells o ≡ Some true → (store : StoreState) × ((o ≡ Some store) × (tells store ≡ true))
store-there None h = absurd (let wrong : None ≡ Some true = h in cc)
store-there (Some store) h = (store, (refl, some-same (tells store) true h))

pub told-goes : (olds news : List StoreState) → AllGo olds news → (buffer : Option BufferSetup) → IsBufferTold olds buffer → IsBufferTold news buffer
told-goes olds news go None h = tt
told-goes olds news go (Some buffer) h =
    let was = store-there (slice_get olds buffer.store) h in
    let below = slice_get-below olds buffer.store was.0 was.1.0 in
    let count = go.count in
    let now = slice_get-some news buffer.store (omega (arith, below, count)) in
    let still = disk-tells was.0.disk now.0.disk (go.each buffer.store was.0 now.0 was.1.0 now.1).moves was.1.1 in
    ap (option_map tells) now.1 ∙ ap Some still
