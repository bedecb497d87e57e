-- A call as an event: which stores it touches.
use Rattle.std.proofs.Common.{◌≡◌, ◌≢◌, ℕ, ◌+◌, List, [], ◌∷◌, ◌++◌, length, Some, None, true, false, refl, sym, ap, ◌∙◌, arith, suc, zero, slice_get, subst, ◌⊎◌, inl, inr}
use Rattle.std.specs.Prelude.{◌==◌}
use Rattle.std.proofs.lemmas.Bool.{cases_eq}
use Rattle.sg_list.specs.Lists.{change}
use Rattle.sg_list.proofs.ListLemmas.{some-same, length-change, get-change-same, get-change-other}
use Rattle.sg_device.specs.Disk.{Within}
use Rattle.sg_device.specs.Faults.{Rose}
use Rattle.sg_machine.specs.declared.event.Act.{Act}
use Rattle.sg_machine.specs.declared.event.Event.{Event}
use Rattle.sg_machine.specs.declared.setup.BufferSetup.{BufferSetup}
use Rattle.sg_machine.specs.declared.state.Dest.{Dest}
use Rattle.sg_machine.specs.declared.state.InletRecords.{InletRecords}
use Rattle.sg_machine.specs.declared.state.State.{State}
use Rattle.sg_machine.specs.Effects.{after_act}
use Rattle.sg_machine.specs.Legal.{is_legal_act}
use Rattle.sg_machine.specs.Runs.{after_all}
use Rattle.sg_machine.specs.Safe.{failed_entries}
use Rattle.sg_machine.specs.Verdicts.{is_listed}
use Rattle.sg_counter.specs.Bringing.{store_in}
use Rattle.sg_stores.specs.Stores.{StoreState, StoreGoesOn, AllGo}
use Rattle.sg_standing.specs.States.{CoreState, setup_of}
use Rattle.sg_standing.specs.Standing.{IsAt, IsPositionOf, IsSafeStore, StandsFor, StandsOn, HavePositionsWithin, HaveListsWithin, HaveRisen, DoesAct, AreApart, setups_of, buffer_in, positions_within, failed_then}
use Rattle.sg_standing.proofs.More.{more-stands}
use Rattle.sg_standing.proofs.Still.{StaysSame, within-same, position-before, list-before}

-- it stands for the event behind those before
one-stands : (old new : CoreState) (act : Act) (failed : List ℕ) → AllGo old.stores new.stores
    → ((s : State) → IsAt old s → (is_legal_act s act failed ≡ true) × IsAt new (after_act s act failed))
    → ((start : State) (events : List Event) → StandsFor old start events → HavePositionsWithin old.stores new.stores start events (record { act = act; failed = failed }))
    → ((start : State) (events : List Event) → StandsFor old start events → HaveListsWithin old.stores new.stores start events (record { act = act; failed = failed }))
    → (start : State) (events : List Event) (h : StandsFor old start events) → StandsOn new start events (record { act = act; failed = failed } ∷ []) h.moments.rows
one-stands old new act failed goes step positions lists start events h =
    let e : Event = record { act = act; failed = failed } in
    let r = step (after_all start events) h.at in
    more-stands old new start events e h (record { legal = r.0; at = r.1; goes = goes; positions = positions start events h; lists = lists start events h })

pub does-of : (old new : CoreState) (act : Act) (failed : List ℕ) → HaveRisen old.stores new.stores failed → AllGo old.stores new.stores → new.calls ≡ old.calls + 1 → setup_of new ≡ setup_of old
    → ((s : State) → IsAt old s → (is_legal_act s act failed ≡ true) × IsAt new (after_act s act failed))
    → ((start : State) (events : List Event) → StandsFor old start events → HavePositionsWithin old.stores new.stores start events (record { act = act; failed = failed }))
    → ((start : State) (events : List Event) → StandsFor old start events → HaveListsWithin old.stores new.stores start events (record { act = act; failed = failed }))
    → DoesAct old new act
does-of old new act failed risen goes calls setup step positions lists = record {
  failed = failed;
  risen = risen;
  goes = goes;
  calls = calls;
  setup = setup;
  step = step;
  positions = positions;
  lists = lists;
  stands = λ start events h. (one-stands old new act failed goes step positions lists start events h).stands;
  keeps = λ start events h. (one-stands old new act failed goes step positions lists start events h).keeps;
}

-- Stores that stay.

pub goes-refl : (o : StoreState) → StoreGoesOn o o
goes-refl o = record {
  moves = record { later = omega arith; past = λ t c l i. i; kept = λ t c l i. i };
  later = omega arith;
  stays = λ failed. failed;
  works = λ works. refl;
  broke = λ works failed. absurd (let no : true ≡ false = sym failed ∙ works in cc);
}

pub stays-refl : (o n : StoreState) → o ≡ n → StaysSame o n
stays-refl o n e = record { told = ap (λ (x : StoreState). x.disk.told) (sym e) }

pub same-stores : (olds news : List StoreState) (v : ℕ) (o n : StoreState) → news ≡ olds → slice_get olds v ≡ Some o → slice_get news v ≡ Some n → o ≡ n
same-stores olds news v o n same g h = some-same o n (sym g ∙ ap (λ xs. slice_get xs v) (sym same) ∙ h)

pub all-go-same : (olds news : List StoreState) → news ≡ olds → AllGo olds news
all-go-same olds news same = record {
  count = ap length same;
  each = λ v o n g h. subst (λ (m : StoreState). StoreGoesOn o m) (same-stores olds news v o n same g h) (goes-refl o);
}

pub risen-none : (olds news : List StoreState) → HaveRisen olds news []
risen-none olds news v o n l g h = let wrong : false ≡ true = l in cc

-- of each inlet or destination the image is of a store that stays, or as the call says

pub positions-by : (old : CoreState) (news : List StoreState) (start : State) (events : List Event) (e : Event) → StandsFor old start events
    → ((i u : ℕ) (x : InletRecords) (o n : StoreState) → slice_get (after_all start events).inlets i ≡ Some x → x.setup.store ≡ Some u → slice_get old.stores u ≡ Some o → slice_get news u ≡ Some n
    → StaysSame o n ⊎ Within o.disk n.disk (IsPositionOf (positions_within start events e i x)))
    → HavePositionsWithin old.stores news start events e
positions-by old news start events e h by i x u o n there has g k =
    elim (by i u x o n there has g k) [
      | inl same ↦ within-same o n (IsPositionOf (positions_within start events e i x)) same (position-before old start events e i u x o h there has g)
      | inr within ↦ within
    ]

pub lists-by : (old : CoreState) (news : List StoreState) (start : State) (events : List Event) (e : Event) → StandsFor old start events
    → ((d : ℕ) (x : Dest) (buffer : BufferSetup) (o n : StoreState) → slice_get (after_all start events).dests d ≡ Some x → x.setup.buffer ≡ Some buffer → slice_get old.stores buffer.store ≡ Some o → slice_get news buffer.store ≡ Some n
    → StaysSame o n ⊎ Within o.disk n.disk (IsSafeStore x d e.act (failed_then start events e) (failed_entries start (events ++ e ∷ []) d)))
    → HaveListsWithin old.stores news start events e
lists-by old news start events e h by d x buffer o n there has g k =
    elim (by d x buffer o n there has g k) [
      | inl same ↦ within-same o n (IsSafeStore x d e.act (failed_then start events e) (failed_entries start (events ++ e ∷ []) d)) same (list-before old start events e d x buffer o h there has g)
      | inr within ↦ within
    ]

-- a call that leaves all stores
pub quiet : (old new : CoreState) (act : Act) → new.stores ≡ old.stores → new.calls ≡ old.calls + 1 → setup_of new ≡ setup_of old
    → ((s : State) → IsAt old s → (is_legal_act s act [] ≡ true) × IsAt new (after_act s act [])) → DoesAct old new act
quiet old new act stores calls setup step =
    does-of old new act [] (risen-none old.stores new.stores) (all-go-same old.stores new.stores stores) calls setup step
    (λ start events h. positions-by old new.stores start events (record { act = act; failed = [] }) h (λ i u x o n there has g k. inl (stays-refl o n (same-stores old.stores new.stores u o n stores g k))))
    (λ start events h. lists-by old new.stores start events (record { act = act; failed = [] }) h (λ d x buffer o n there has g k. inl (stays-refl o n (same-stores old.stores new.stores buffer.store o n stores g k))))

-- One store.

-- of a change of one store, this one or another
pub record IsTouched (was now o n : StoreState) : Type 0 where
  pub before : was ≡ o
  pub after : now ≡ n

pub touched-or : (olds news : List StoreState) (u v : ℕ) (was now o n : StoreState) → slice_get olds u ≡ Some was → news ≡ change olds u (λ _. now) → slice_get olds v ≡ Some o → slice_get news v ≡ Some n
    → ((v ≡ u) × IsTouched was now o n) ⊎ ((v ≢ u) × (o ≡ n))
touched-or olds news u v was now o n get others g k =
    let k2 : slice_get (change olds u (λ _. now)) v ≡ Some n = ap (λ xs. slice_get xs v) (sym others) ∙ k in
    elim (cases_eq v u) [
      | inl e ↦ inl (
        e,
        record {
          before = some-same was o (sym get ∙ ap (slice_get olds) (sym e) ∙ g);
          after = some-same now n (sym (get-change-same olds u (λ _. now) was get) ∙ ap (slice_get (change olds u (λ _. now))) (sym e) ∙ k2);
        },
      )
      | inr ne ↦ inr (ne, some-same o n (sym g ∙ sym (get-change-other olds u v (λ _. now) ne) ∙ k2))
    ]

pub all-go-touched : (olds news : List StoreState) (u : ℕ) (was now : StoreState) → slice_get olds u ≡ Some was → news ≡ change olds u (λ _. now) → StoreGoesOn was now → AllGo olds news
all-go-touched olds news u was now get others goes = record {
  count = ap length others ∙ length-change olds u (λ _. now);
  each = λ v o n g k.
      elim (touched-or olds news u v was now o n get others g k) [
        | inl t ↦ subst (λ (y : StoreState). StoreGoesOn o y) (t.1).after (subst (λ (y : StoreState). StoreGoesOn y now) (t.1).before goes)
        | inr t ↦ subst (λ (y : StoreState). StoreGoesOn o y) t.1 (goes-refl o)
      ];
}

one-listed : (u v : ℕ) → is_listed v (u ∷ []) ≡ true → v ≡ u
one-listed u v l =
    elim (cases_eq u v) [
      | inl e ↦ sym e
      | inr ne ↦ (let q : (u == v) ≡ false = grind arith in let none : is_listed v (u ∷ []) ≡ false = rw q refl in absurd (let wrong : false ≡ true = sym none ∙ l in cc))
    ]

pub risen-touched : (olds news : List StoreState) (u : ℕ) (was now : StoreState) → slice_get olds u ≡ Some was → news ≡ change olds u (λ _. now) → Rose was.disk.faults now.disk.faults → HaveRisen olds news (u ∷ [])
risen-touched olds news u was now get others rose v o n l g k =
    elim (touched-or olds news u v was now o n get others g k) [
      | inl t ↦ subst (λ (y : StoreState). Rose o.disk.faults y.disk.faults) (t.1).after (subst (λ (y : StoreState). Rose y.disk.faults now.disk.faults) (t.1).before rose)
      | inr t ↦ absurd (t.0 (one-listed u v l))
    ]

-- The stores of a state.

pub store_in-of : (inlets : List InletRecords) (j : ℕ) (x : InletRecords) → slice_get inlets j ≡ Some x → store_in (setups_of inlets) j ≡ x.setup.store
store_in-of [] j x h = let wrong : None ≡ Some x = h in cc
store_in-of (y ∷ inlets) zero x h = ap (λ (z : InletRecords). z.setup.store) (some-same y x h)
store_in-of (y ∷ inlets) (suc j) x h = store_in-of inlets j x h

pub buffer_in-of : (dests : List Dest) (d : ℕ) (x : Dest) (buffer : BufferSetup) → slice_get dests d ≡ Some x → x.setup.buffer ≡ Some buffer → buffer_in dests d ≡ Some buffer.store
buffer_in-of dests d x buffer h has = rw (h, has) refl

-- the store of an inlet isn't that of a disk-buffer
pub apart-both : (s : State) (i d u : ℕ) (x : InletRecords) (y : Dest) (buffer : BufferSetup) → AreApart s → slice_get s.inlets i ≡ Some x → x.setup.store ≡ Some u → slice_get s.dests d ≡ Some y → y.setup.buffer ≡ Some buffer → u ≢ buffer.store
apart-both s i d u x y buffer apart hx sx hy sy e = apart.both i d buffer.store (store_in-of s.inlets i x hx ∙ sx ∙ ap Some e) (buffer_in-of s.dests d y buffer hy sy)

pub apart-inlets : (s : State) (i j u v : ℕ) (x y : InletRecords) → AreApart s → slice_get s.inlets i ≡ Some x → slice_get s.inlets j ≡ Some y → x.setup.store ≡ Some u → y.setup.store ≡ Some v → j ≢ i → v ≢ u
apart-inlets s i j u v x y apart hx hy sx sy ne e =
    ne (apart.inlets j i u (store_in-of s.inlets j y hy ∙ sy ∙ ap Some e) (store_in-of s.inlets i x hx ∙ sx))

pub apart-dests : (s : State) (d e : ℕ) (x y : Dest) (b c : BufferSetup) → AreApart s → slice_get s.dests d ≡ Some x → slice_get s.dests e ≡ Some y → x.setup.buffer ≡ Some b → y.setup.buffer ≡ Some c → e ≢ d → c.store ≢ b.store
apart-dests s d e x y b c apart hx hy sx sy ne same =
    ne (apart.dests e d b.store (buffer_in-of s.dests e y c hy sy ∙ ap Some same) (buffer_in-of s.dests d x b hx sx))

touched-list : (old : CoreState) (start : State) (events : List Event) (e : Event) (d f : ℕ) (x y : Dest) (b buffer : BufferSetup) (was now o n : StoreState) → StandsFor old start events
    → slice_get (after_all start events).dests d ≡ Some y → y.setup.buffer ≡ Some buffer → slice_get (after_all start events).dests f ≡ Some x → x.setup.buffer ≡ Some b → b.store ≡ buffer.store → IsTouched was now o n
    → StaysSame was now ⊎ Within was.disk now.disk (IsSafeStore y d e.act (failed_then start events e) (failed_entries start (events ++ e ∷ []) d))
    → StaysSame o n ⊎ Within o.disk n.disk (IsSafeStore x f e.act (failed_then start events e) (failed_entries start (events ++ e ∷ []) f))
touched-list old start events e d f x y b buffer was now o n h there has hx sx same t by =
    let s = after_all start events in
    let at : f ≡ d = (h.at.sound.apart).dests f d buffer.store (buffer_in-of s.dests f x b hx sx ∙ ap Some same) (buffer_in-of s.dests d y buffer there has) in
    let is : y ≡ x = some-same y x (sym there ∙ ap (slice_get s.dests) (sym at) ∙ hx) in
    let P : ℕ → Dest → StoreState → StoreState → Type 0 = λ k z p q. StaysSame p q ⊎ Within p.disk q.disk (IsSafeStore z k e.act (failed_then start events e) (failed_entries start (events ++ e ∷ []) k)) in
    subst (λ (k : ℕ). P k x o n) (sym at) (subst (λ (z : Dest). P d z o n) is (subst (λ (q : StoreState). P d y o q) t.after (subst (λ (p : StoreState). P d y p now) t.before by)))

touched-position : (old : CoreState) (start : State) (events : List Event) (e : Event) (i j u v : ℕ) (x y : InletRecords) (was now o n : StoreState) → StandsFor old start events
    → slice_get (after_all start events).inlets i ≡ Some y → y.setup.store ≡ Some u → slice_get (after_all start events).inlets j ≡ Some x → x.setup.store ≡ Some v → v ≡ u → IsTouched was now o n
    → Within was.disk now.disk (IsPositionOf (positions_within start events e i y)) → Within o.disk n.disk (IsPositionOf (positions_within start events e j x))
touched-position old start events e i j u v x y was now o n h there has hx sx same t within =
    let s = after_all start events in
    let at : j ≡ i = (h.at.sound.apart).inlets j i u (store_in-of s.inlets j x hx ∙ sx ∙ ap Some same) (store_in-of s.inlets i y there ∙ has) in
    let is : y ≡ x = some-same y x (sym there ∙ ap (slice_get s.inlets) (sym at) ∙ hx) in
    let P : ℕ → InletRecords → StoreState → StoreState → Type 0 = λ k z p q. Within p.disk q.disk (IsPositionOf (positions_within start events e k z)) in
    subst (λ (k : ℕ). P k x o n) (sym at) (subst (λ (z : InletRecords). P i z o n) is (subst (λ (q : StoreState). P i y o q) t.after (subst (λ (p : StoreState). P i y p now) t.before within)))

-- A call that touches the store of a disk-buffer.

pub positions-buffer : (old : CoreState) (news : List StoreState) (start : State) (events : List Event) (e : Event) (d : ℕ) (y : Dest) (buffer : BufferSetup) (was now : StoreState) → StandsFor old start events
    → slice_get (after_all start events).dests d ≡ Some y → y.setup.buffer ≡ Some buffer → slice_get old.stores buffer.store ≡ Some was → news ≡ change old.stores buffer.store (λ _. now)
    → HavePositionsWithin old.stores news start events e
positions-buffer old news start events e d y buffer was now h there has get others =
    positions-by old news start events e h (λ i u x o n hx sx g k.
    elim (touched-or old.stores news buffer.store u was now o n get others g k) [
      | inl t ↦ absurd (apart-both (after_all start events) i d u x y buffer h.at.sound.apart hx sx there has t.0)
      | inr t ↦ inl (stays-refl o n t.1)
    ])

pub lists-buffer : (old : CoreState) (news : List StoreState) (start : State) (events : List Event) (e : Event) (d : ℕ) (y : Dest) (buffer : BufferSetup) (was now : StoreState) → StandsFor old start events
    → slice_get (after_all start events).dests d ≡ Some y → y.setup.buffer ≡ Some buffer → slice_get old.stores buffer.store ≡ Some was → news ≡ change old.stores buffer.store (λ _. now)
    → StaysSame was now ⊎ Within was.disk now.disk (IsSafeStore y d e.act (failed_then start events e) (failed_entries start (events ++ e ∷ []) d))
    → HaveListsWithin old.stores news start events e
lists-buffer old news start events e d y buffer was now h there has get others by =
    lists-by old news start events e h (λ f x b o n hx sx g k.
    elim (touched-or old.stores news buffer.store b.store was now o n get others g k) [
      | inl t ↦ touched-list old start events e d f x y b buffer was now o n h there has hx sx t.0 t.1 by
      | inr t ↦ inl (stays-refl o n t.1)
    ])

-- A call that touches the store of an inlet.

pub lists-inlet : (old : CoreState) (news : List StoreState) (start : State) (events : List Event) (e : Event) (i u : ℕ) (y : InletRecords) (was now : StoreState) → StandsFor old start events
    → slice_get (after_all start events).inlets i ≡ Some y → y.setup.store ≡ Some u → slice_get old.stores u ≡ Some was → news ≡ change old.stores u (λ _. now)
    → HaveListsWithin old.stores news start events e
lists-inlet old news start events e i u y was now h there has get others =
    lists-by old news start events e h (λ d x b o n hx sx g k.
    elim (touched-or old.stores news u b.store was now o n get others g k) [
      | inl t ↦ absurd (apart-both (after_all start events) i d u y x b h.at.sound.apart there has hx sx (sym t.0))
      | inr t ↦ inl (stays-refl o n t.1)
    ])

pub positions-inlet : (old : CoreState) (news : List StoreState) (start : State) (events : List Event) (e : Event) (i u : ℕ) (y : InletRecords) (was now : StoreState) → StandsFor old start events
    → slice_get (after_all start events).inlets i ≡ Some y → y.setup.store ≡ Some u → slice_get old.stores u ≡ Some was → news ≡ change old.stores u (λ _. now)
    → Within was.disk now.disk (IsPositionOf (positions_within start events e i y))
    → HavePositionsWithin old.stores news start events e
positions-inlet old news start events e i u y was now h there has get others within =
    positions-by old news start events e h (λ j v x o n hx sx g k.
    elim (touched-or old.stores news u v was now o n get others g k) [
      | inl t ↦ inr (touched-position old start events e i j u v x y was now o n h there has hx sx t.0 t.1 within)
      | inr t ↦ inl (stays-refl o n t.1)
    ])
