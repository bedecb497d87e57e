-- The opening place of an inlet is where its feed began.
use Rattle.std.proofs.Common.{◌≡◌, ◌≢◌, ℕ, suc, zero, ◌+◌, ◌<◌, List, [], ◌∷◌, ◌++◌, map, Some, None, Option, Bool, true, false, refl, sym, ap, ◌∙◌, subst, arith, inl, inr, ◌⊎◌, if◌then◌else◌, slice_get}
use Rattle.std.specs.Prelude.{◌==◌, Ok, Err}
use Rattle.sg_list.proofs.ListLemmas.{some-same}
use Rattle.sg_device.specs.Inlet.{InletState}
use Rattle.sg_outside.specs.World.{Files, LeavesFile, StandsIn}
use Rattle.sg_outside.specs.declared.request.InletSpec.{InletSpec}
use Rattle.sg_outside.specs.declared.request.InletSpec.TheVariants.{File, Slot}
use Rattle.sg_machine.specs.declared.event.Act.{Act}
use Rattle.sg_machine.specs.declared.event.Event.{Event}
use Rattle.sg_machine.specs.Counts.{opening_by, opening_from}
use Rattle.sg_counter.specs.Exchanges.{Exchange}
use Rattle.sg_counter.specs.declared.answers.Refill.TheVariants.{Moved, NoneWaits, NoRoom, Broken as RefillBroken}
use Rattle.sg_counter.specs.declared.answers.Settled.TheVariants.{Done, NotFront, DiskFailed}
use Rattle.sg_counter.specs.declared.answers.Stored.TheVariants.{Wrote, Unchanged, Broken}
use Rattle.sg_counter.specs.declared.calls.CoreCall.{CoreCall}
use Rattle.sg_counter.specs.declared.calls.CoreCall.TheVariants.{Credit, Admit, Front, Settle, Refill, Store}
use Rattle.sg_counter.specs.declared.calls.CoreReply.{CoreReply}
use Rattle.sg_counter.specs.declared.calls.CoreReply.TheVariants.{Admitted, Settled as SettledReply, Refilled, Stored}
use Rattle.sg_core.specs.Calls.{acts_in, acts_of}
use Rattle.sg_serve.specs.Rewinds.{rewinds_at, rewinds_from}

-- By acts alone.

abbrev opening_in : ℕ → ℕ → List Act → ℕ
opening_in i x [] = x
opening_in i x (act ∷ acts) = opening_in i (opening_by i x act) acts

opening-acts : (i x : ℕ) (es : List Event) → opening_from i x es ≡ opening_in i x (map (λ (e : Event). e.act) es)
opening-acts i x [] = refl
opening-acts i x (e ∷ es) = opening-acts i (opening_by i x e.act) es

opening-in-append : (i x : ℕ) (xs ys : List Act) → opening_in i x (xs ++ ys) ≡ opening_in i (opening_in i x xs) ys
opening-in-append i x [] ys = refl
opening-in-append i x (a ∷ xs) ys = opening-in-append i (opening_by i x a) xs ys

pub opening-append : (i x : ℕ) (es fs : List Event) → opening_from i x (es ++ fs) ≡ opening_from i (opening_from i x es) fs
opening-append i x [] fs = refl
opening-append i x (e ∷ es) fs = opening-append i (opening_by i x e.act) es fs

-- no call begins an inlet anew
call-still : (i x : ℕ) (call : CoreCall) (reply : CoreReply) → opening_in i x (acts_in call reply) ≡ x
call-still i x (Admit j records) (Admitted (Ok verdicts)) = refl
call-still i x (Admit j records) (Admitted (Err refused)) = refl
call-still i x (Admit j records) reply = refl
call-still i x (Credit j) reply = refl
call-still i x (Front d most) reply = refl
call-still i x (Settle d place n count) (SettledReply Done) = refl
call-still i x (Settle d place n count) (SettledReply NotFront) = refl
call-still i x (Settle d place n count) (SettledReply DiskFailed) = refl
call-still i x (Settle d place n count) reply = refl
call-still i x (Refill d) (Refilled (Moved n)) = refl
call-still i x (Refill d) (Refilled NoneWaits) = refl
call-still i x (Refill d) (Refilled NoRoom) = refl
call-still i x (Refill d) (Refilled RefillBroken) = refl
call-still i x (Refill d) reply = refl
call-still i x (Store j) (Stored (Wrote w)) = refl
call-still i x (Store j) (Stored Unchanged) = refl
call-still i x (Store j) (Stored Broken) = refl
call-still i x (Store j) reply = refl

calls-still : (i x : ℕ) (made : List Exchange) → opening_in i x (acts_of made) ≡ x
calls-still i x [] = refl
calls-still i x (m ∷ made) =
    opening-in-append i x (acts_in m.call m.reply) (acts_of made)
    ∙ ap (λ (y : ℕ). opening_in i y (acts_of made)) (call-still i x m.call m.reply)
    ∙ calls-still i x made

pub later-still : (i x : ℕ) (later : List Event) (made : List Exchange) → map (λ (e : Event). e.act) later ≡ acts_of made → opening_from i x later ≡ x
later-still i x later made h = opening-acts i x later ∙ ap (opening_in i x) h ∙ calls-still i x made

-- Those that begin anew.

rewind-other : (i j x position place : ℕ) → i ≢ j → opening_from i x (rewinds_at j position place) ≡ x
rewind-other i j x zero place other = refl
rewind-other i j x (suc position) (suc place) other = refl
rewind-other i j x (suc position) zero other = let miss : (j == i) ≡ false = grind (arith, other) in rw miss refl

rewinds-other : (i x : ℕ) (positions : ℕ → ℕ) (n : ℕ) (places : List ℕ) → i < n → opening_from i x (rewinds_from positions n places) ≡ x
rewinds-other i x positions n [] l = refl
rewinds-other i x positions n (place ∷ places) l =
    opening-append i x (rewinds_at n (positions n) place) (rewinds_from positions (n + 1) places)
    ∙ ap (λ (y : ℕ). opening_from i y (rewinds_from positions (n + 1) places)) (rewind-other i n x (positions n) place (λ e. omega (arith, e, l)))
    ∙ rewinds-other i x positions (n + 1) places (omega (arith, l))

rewind-here : (i position place : ℕ) → (place ≡ position) ⊎ (place ≡ 0) → opening_from i position (rewinds_at i position place) ≡ place
rewind-here i zero place (inl e) = sym e
rewind-here i zero place (inr e) = sym e
rewind-here i (suc position) (suc place) (inl e) = sym e
rewind-here i (suc position) (suc place) (inr e) = absurd (omega (arith, e))
rewind-here i (suc position) zero h = let hit : (i == i) ≡ true = grind arith in rw hit refl

pub rewinds-here : (i x : ℕ) (positions : ℕ → ℕ) (n k : ℕ) (places : List ℕ) (place : ℕ) → i ≡ n + k → slice_get places k ≡ Some place → x ≡ positions i → (place ≡ x) ⊎ (place ≡ 0) → opening_from i x (rewinds_from positions n places) ≡ place
rewinds-here i x positions n k [] place at h q w = absurd (let wrong : None ≡ Some place = h in cc)
rewinds-here i x positions n zero (p ∷ places) place at h q w =
    let same : p ≡ place = some-same p place h in
    let here : i ≡ n = omega (arith, at) in
    let P : ℕ → Type 0 = λ m. opening_from i x (rewinds_at m (positions m) p) ≡ place in
    let Q : ℕ → Type 0 = λ y. opening_from i x (rewinds_at i y p) ≡ place in
    let R : ℕ → Type 0 = λ y. opening_from i x (rewinds_at i x y) ≡ place in
    let first : R place = rewind-here i x place w in
    let one : P n = subst P here (subst Q q (subst R (sym same) first)) in
    opening-append i x (rewinds_at n (positions n) p) (rewinds_from positions (n + 1) places)
    ∙ ap (λ (y : ℕ). opening_from i y (rewinds_from positions (n + 1) places)) one
    ∙ rewinds-other i place positions (n + 1) places (omega (arith, here))
rewinds-here i x positions n (suc k) (p ∷ places) place at h q w =
    opening-append i x (rewinds_at n (positions n) p) (rewinds_from positions (n + 1) places)
    ∙ ap (λ (y : ℕ). opening_from i y (rewinds_from positions (n + 1) places)) (rewind-other i n x (positions n) p (λ e. omega (arith, e, at)))
    ∙ rewinds-here i x positions (n + 1) k places place (omega (arith, at)) h q w

-- Where a feed began.

either-place : (b : Bool) (place from : ℕ) → place ≡ (if b then from else 0) → (place ≡ from) ⊎ (place ≡ 0)
either-place true place from h = inl h
either-place false place from h = inr h

leaves-place : (files : Option Files) (path : List ℕ) (limit from : ℕ) (feed : InletState) → LeavesFile files path limit from feed → (feed.place ≡ from) ⊎ (feed.place ≡ 0)
leaves-place None path limit from feed h = h
leaves-place (Some files) path limit from feed h = either-place _ feed.place from h.1.1.0

pub stands-place : (files : Option Files) (spec : InletSpec) (from : ℕ) (feed : InletState) → StandsIn files spec from feed → (feed.place ≡ from) ⊎ (feed.place ≡ 0)
stands-place files (File path once limit) from feed h = leaves-place files path limit from feed h.0
stands-place files (Slot ip port slot once) from feed h = inr h.0
