-- A timetable with one row more.
use Rattle.std.proofs.Common.{◌≡◌, ℕ, ◌+◌, ◌-◌, ◌≤◌, ◌<◌, List, [], ◌∷◌, ◌++◌, length, take, Some, true, false, if◌then◌else◌, refl, sym, ap, ◌∙◌, arith, suc, zero, slice_get, subst, inl, inr}
use Rattle.std.specs.Prelude.{nat_le}
use Rattle.std.specs.Option.{option_map_or}
use Rattle.std.proofs.lemmas.Bool.{cases_lt}
use Rattle.std.proofs.lemmas.List.{length-append}
use Rattle.sg_list.proofs.ListLemmas.{some-same, slice_get-some, slice_get-below}
use Rattle.sg_device.specs.Disk.{clock}
use Rattle.sg_machine.specs.declared.event.Event.{Event}
use Rattle.sg_machine.specs.declared.state.State.{State}
use Rattle.sg_stores.specs.Stores.{StoreState, AllGo}
use Rattle.sg_standing.specs.Standing.{IsTimetable, KeepsRows, PositionsBetween, ListsBetween, HavePositionsWithin, HaveListsWithin}
use Rattle.sg_standing.proofs.ListSteps.{get-front, get-last, take-front, take-whole}

-- the store was there before
pub was-store : (olds news : List StoreState) (s : ℕ) (new : StoreState) → AllGo olds news → slice_get news s ≡ Some new → (old : StoreState) × (slice_get olds s ≡ Some old)
was-store olds news s new go h =
    let below = slice_get-below news s new h in
    let count = go.count in
    slice_get-some olds s (omega (arith, below, count))

abbrev moment_in : List StoreState → ℕ → ℕ
moment_in stores s = option_map_or (λ (store : StoreState). clock store.disk) (slice_get stores s) 0

-- the rows up to n as they were, and behind them the moments of these stores
abbrev rows_then : ℕ → (ℕ → ℕ → ℕ) → List StoreState → ℕ → ℕ → ℕ
rows_then n rows stores k s = if nat_le k n then rows k s else moment_in stores s

le-true : (k n : ℕ) → k ≤ n → nat_le k n ≡ true
le-true k n l = grind (arith, l)

le-false : (k n : ℕ) → n < k → nat_le k n ≡ false
le-false k n l = grind (arith, l)

row-old : (n : ℕ) (rows : ℕ → ℕ → ℕ) (stores : List StoreState) (k s : ℕ) → k ≤ n → rows_then n rows stores k s ≡ rows k s
row-old n rows stores k s l = rw (le-true k n l) refl

row-new : (n : ℕ) (rows : ℕ → ℕ → ℕ) (stores : List StoreState) (s : ℕ) (store : StoreState) → slice_get stores s ≡ Some store → rows_then n rows stores (n + 1) s ≡ clock store.disk
row-new n rows stores s store h = rw (le-false (n + 1) n (omega arith), h) refl

-- no moment falls
row-most : (rows : ℕ → ℕ → ℕ) (n s k j : ℕ) → ((k : ℕ) → k < n → rows k s ≤ rows (k + 1) s) → j + k ≡ n → rows k s ≤ rows n s
row-most rows n s k zero up e = let same : k ≡ n = omega (arith, e) in rw same (omega arith)
row-most rows n s k (suc j) up e =
    let here = up k (omega (arith, e)) in
    let rest = row-most rows n s (k + 1) j up (omega (arith, e)) in
    omega (arith, here, rest)

length-more : (events : List Event) (e : Event) → length (events ++ e ∷ []) ≡ length events + 1
length-more events e = length-append events (e ∷ [])

-- the event is one of those before, or the last
pub which-event : (events : List Event) (e : Event) (k : ℕ) (ev : Event) → slice_get (events ++ e ∷ []) k ≡ Some ev → k < length events + 1
which-event events e k ev h =
    let below = slice_get-below (events ++ e ∷ []) k ev h in
    let len = length-more events e in
    omega (arith, below, len)

pub timetable-more : (olds news : List StoreState) (start : State) (events : List Event) (e : Event) (t : IsTimetable olds start events) → AllGo olds news → HavePositionsWithin olds news start events e → HaveListsWithin olds news start events e
    → (later : IsTimetable news start (events ++ e ∷ [])) × KeepsRows (length events) t.rows later.rows
timetable-more olds news start events e t go positions lists =
    let n = length events in
    let rows = rows_then n t.rows news in
    let later : IsTimetable news start (events ++ e ∷ []) = record {
      rows = rows;
      ascend = λ k s store h l.
          let o = was-store olds news s store go h in
          let len = length-more events e in
          elim (cases_lt k n) [
            | inl low ↦ (
                let up = t.ascend k s o.0 o.1 low in
                let a = row-old n t.rows news k s (omega (arith, low)) in
                let b = row-old n t.rows news (k + 1) s (omega (arith, low)) in
                omega (arith, up, a, b))
            | inr high ↦ (
                let same : k ≡ n = omega (arith, high, l, len) in
                let a = row-old n t.rows news n s (omega arith) in
                let b = row-new n t.rows news s store h in
                let last = t.last s o.0 o.1 in
                let later = ((go.each s o.0 store o.1 h).moves).later in
                rw same (omega (arith, a, b, last, later)))
          ];
      last = λ s store h.
          let len = length-more events e in
          rw len (row-new n t.rows news s store h);
      positions = λ k ev h.
          elim (cases_lt k n) [
            | inl low ↦ (
                let get : slice_get events k ≡ Some ev = sym (get-front events e k low) ∙ h in
                let P : List Event → Type 0 = λ es. PositionsBetween news (rows k) (rows (k + 1)) start es ev in
                subst P (sym (take-front events (e ∷ []) k (omega (arith, low)))) (λ i inlet s store moment bytes there has now since until image.
                let o = was-store olds news s store go now in
                let a = row-old n t.rows news k s (omega (arith, low)) in
                let b = row-old n t.rows news (k + 1) s (omega (arith, low)) in
                let most = row-most t.rows n s (k + 1) (n - (k + 1)) (λ j l. t.ascend j s o.0 o.1 l) (omega (arith, low)) in
                let last = t.last s o.0 o.1 in
                let past = ((go.each s o.0 store o.1 now).moves).past moment bytes (omega (arith, until, b, most, last)) image in
                t.positions k ev get i inlet s o.0 moment bytes there has o.1 (omega (arith, since, a)) (omega (arith, until, b)) past))
            | inr high ↦ (
                let below = which-event events e k ev h in
                let same : k ≡ n = omega (arith, high, below) in
                let last_event : e ≡ ev = some-same e ev (sym (get-last events e) ∙ ap (slice_get (events ++ e ∷ [])) (sym same) ∙ h) in
                let P : List Event → Type 0 = λ es. PositionsBetween news (rows k) (rows (k + 1)) start es ev in
                let whole : take k (events ++ e ∷ []) ≡ events = ap (λ m. take m (events ++ e ∷ [])) same ∙ take-whole events (e ∷ []) in
                let Q : Event → Type 0 = λ x. PositionsBetween news (rows k) (rows (k + 1)) start events x in
                subst P (sym whole) (subst Q last_event (λ i inlet s store moment bytes there has now since until image.
                let o = was-store olds news s store go now in
                let a = ap (λ m. rows m s) same ∙ row-old n t.rows news n s (omega arith) in
                let b = ap (λ m. rows (m + 1) s) same ∙ row-new n t.rows news s store now in
                let last = t.last s o.0 o.1 in
                (positions i inlet s o.0 store there has o.1 now).each moment bytes (omega (arith, since, a, last)) (omega (arith, until, b)) image)))
          ];
      lists = λ k ev h.
          elim (cases_lt k n) [
            | inl low ↦ (
                let get : slice_get events k ≡ Some ev = sym (get-front events e k low) ∙ h in
                let P : List Event → Type 0 = λ es. ListsBetween news (rows k) (rows (k + 1)) start es ev in
                subst P (sym (take-front events (e ∷ []) k (omega (arith, low)))) (λ d dest buffer store moment bytes there has now since until image.
                let s = buffer.store in
                let o = was-store olds news s store go now in
                let a = row-old n t.rows news k s (omega (arith, low)) in
                let b = row-old n t.rows news (k + 1) s (omega (arith, low)) in
                let most = row-most t.rows n s (k + 1) (n - (k + 1)) (λ j l. t.ascend j s o.0 o.1 l) (omega (arith, low)) in
                let last = t.last s o.0 o.1 in
                let past = ((go.each s o.0 store o.1 now).moves).past moment bytes (omega (arith, until, b, most, last)) image in
                t.lists k ev get d dest buffer o.0 moment bytes there has o.1 (omega (arith, since, a)) (omega (arith, until, b)) past))
            | inr high ↦ (
                let below = which-event events e k ev h in
                let same : k ≡ n = omega (arith, high, below) in
                let last_event : e ≡ ev = some-same e ev (sym (get-last events e) ∙ ap (slice_get (events ++ e ∷ [])) (sym same) ∙ h) in
                let P : List Event → Type 0 = λ es. ListsBetween news (rows k) (rows (k + 1)) start es ev in
                let whole : take k (events ++ e ∷ []) ≡ events = ap (λ m. take m (events ++ e ∷ [])) same ∙ take-whole events (e ∷ []) in
                let Q : Event → Type 0 = λ x. ListsBetween news (rows k) (rows (k + 1)) start events x in
                subst P (sym whole) (subst Q last_event (λ d dest buffer store moment bytes there has now since until image.
                let s = buffer.store in
                let o = was-store olds news s store go now in
                let a = ap (λ m. rows m s) same ∙ row-old n t.rows news n s (omega arith) in
                let b = ap (λ m. rows (m + 1) s) same ∙ row-new n t.rows news s store now in
                let last = t.last s o.0 o.1 in
                (lists d dest buffer o.0 store there has o.1 now).each moment bytes (omega (arith, since, a, last)) (omega (arith, until, b)) image)))
          ];
    } in
    (later, λ k s l. row-old n t.rows news k s l)
