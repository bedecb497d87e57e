-- Where the position of an inlet's store may be: at 0, at the place at which it was opened, or at the end of a record.
use Rattle.std.proofs.Common.{◌≡◌, ℕ, ◌+◌, List, [], ◌∷◌, ◌++◌, Some, None, Option, Bool, true, false, refl, sym, ap, ◌∙◌, subst, arith, inl, inr, ◌⊎◌, if◌then◌else◌, slice_get}
use Rattle.std.specs.Prelude.{Contains, ◌==◌, option_and_then, option_to_list}
use Rattle.std.specs.Option.{option_map_or}
use Rattle.std.proofs.lemmas.Bool.{cases_eq}
use Rattle.std.proofs.lemmas.List.{append-nil}
use Rattle.std.proofs.lemmas.List.Elements.{Contains-append_left, Contains-append_right, Contains-append_cases}
use Rattle.sg_machine.specs.declared.event.Act.{Act}
use Rattle.sg_machine.specs.declared.event.Act.TheVariants.{Admit, Settle, Refill, Store, Rewind, Look}
use Rattle.sg_machine.specs.declared.event.Event.{Event}
use Rattle.sg_machine.specs.declared.state.Dest.{Dest}
use Rattle.sg_machine.specs.declared.state.InletRecords.{InletRecords}
use Rattle.sg_machine.specs.declared.state.State.{State}
use Rattle.sg_machine.specs.Verdicts.{is_listed}
use Rattle.sg_machine.specs.Marks.{is_acked, mark, mark_of}
use Rattle.sg_machine.specs.Legal.{is_nil, is_legal, is_legal_act}
use Rattle.sg_machine.specs.Effects.{after}
use Rattle.sg_machine.specs.Runs.{after_all, are_legal}
use Rattle.sg_machine.specs.Counts.{ends_by, ends_admitted, mark_by, opening_by, opening_from}
use Rattle.sg_machine.specs.Safe.{first_of, has_failed, failing_position, failed_position, running_position}
use Rattle.sg_machine.proofs.RunLemmas.{both-true}
use Rattle.sg_machine.proofs.InletLemmas.{counts-inlet, store-mark}
use Rattle.sg_laws.proofs.HasLemmas.{has-nil, has-here, has-there, has-cons}

-- of each place of an inlet
pub record InletHolds (Q : ℕ → Type 0) (inlet : InletRecords) : Type 0 where
  pub opening : Q inlet.opening
  pub stored : Q inlet.stored
  pub ends : (x : ℕ) → Contains inlet.ends x → Q x

mark-if : (Q : ℕ → Type 0) (b : Bool) (x y : ℕ) → Q x → Q y → Q (if b then x else y)
mark-if Q true x y a c = a
mark-if Q false x y a c = c

mark-in : (Q : ℕ → Type 0) (ds : List Dest) (i n from : ℕ) (es : List ℕ) → Q from → ((x : ℕ) → Contains es x → Q x) → Q (mark ds i n from es)
mark-in Q ds i n from [] q h = q
mark-in Q ds i n from (e ∷ es) q h =
    mark-if Q (is_acked ds i n) (mark ds i (n + 1) e es) from (mark-in Q ds i (n + 1) e es (h e (has-here e es)) (λ x c. h x (has-there e es x c))) q

mark-holds : (Q : ℕ → Type 0) (s : State) (i : ℕ) (inlet : InletRecords) → InletHolds Q inlet → Q (mark_of s.dests i inlet)
mark-holds Q s i inlet h = mark-in Q s.dests i 0 inlet.opening inlet.ends h.opening h.ends

same-place : (Q : ℕ → Type 0) (a b : ℕ) → a ≡ b → Q a → Q b
same-place Q a b e h = subst Q e h

opening-holds : (Q : ℕ → Type 0) (i opening : ℕ) (act : Act) → Q 0 → Q opening → Q (opening_by i opening act)
opening-holds Q i opening (Admit j records vs) z h = h
opening-holds Q i opening (Settle d n) z h = h
opening-holds Q i opening (Refill d n) z h = h
opening-holds Q i opening (Store j w) z h = h
opening-holds Q i opening (Rewind j) z h = mark-if Q (j == i) 0 opening z h
opening-holds Q i opening Look z h = h

stored-holds : (Q : ℕ → Type 0) (s : State) (i : ℕ) (inlet : InletRecords) (act : Act) → Q 0 → slice_get s.inlets i ≡ Some inlet → InletHolds Q inlet → Q (mark_by s i inlet.stored act)
stored-holds Q s i inlet (Admit j records vs) z at h = h.stored
stored-holds Q s i inlet (Settle d n) z at h = h.stored
stored-holds Q s i inlet (Refill d n) z at h = h.stored
stored-holds Q s i inlet (Store j w) z at h =
    let here : option_map_or (mark_of s.dests i) (slice_get s.inlets i) inlet.stored ≡ mark_of s.dests i inlet = ap (λ (o : Option InletRecords). option_map_or (mark_of s.dests i) o inlet.stored) at in
    mark-if Q (j == i) (option_map_or (mark_of s.dests i) (slice_get s.inlets i) inlet.stored) inlet.stored (same-place Q (mark_of s.dests i inlet) _ (sym here) (mark-holds Q s i inlet h)) h.stored
stored-holds Q s i inlet (Rewind j) z at h = mark-if Q (j == i) 0 inlet.stored z h.stored
stored-holds Q s i inlet Look z at h = h.stored

-- one event on
step-holds : (Q : ℕ → Type 0) (s : State) (e : Event) (i : ℕ) (inlet : InletRecords) → Q 0 → is_legal s e ≡ true → slice_get s.inlets i ≡ Some inlet → InletHolds Q inlet → ((x : ℕ) → Contains (ends_by i e.act) x → Q x)
    → (new : InletRecords) × ((slice_get (after s e).inlets i ≡ Some new) × InletHolds Q new)
step-holds Q s e i inlet z l at h more =
    let one : are_legal s (e ∷ []) ≡ true = rw l refl in
    let c = counts-inlet s (e ∷ []) i inlet one at in
    let ends : c.0.ends ≡ inlet.ends ++ ends_by i e.act = c.2.ends ∙ ap (λ (xs : List ℕ). inlet.ends ++ xs) (append-nil (ends_by i e.act)) in
    let P : List ℕ → Type 0 = λ xs. (x : ℕ) → Contains xs x → Q x in
    let both : P (inlet.ends ++ ends_by i e.act) = λ x m. elim (Contains-append_cases inlet.ends (ends_by i e.act) x m) [ inl a ↦ h.ends x a | inr b ↦ more x b ] in (
      c.0,
      (
        c.1,
        record {
          opening = same-place Q (opening_by i inlet.opening e.act) c.0.opening (sym c.2.opening) (opening-holds Q i inlet.opening e.act z h.opening);
          stored = same-place Q (mark_by s i inlet.stored e.act) c.0.stored (sym c.2.at_mark) (stored-holds Q s i inlet e.act z at h);
          ends = subst P (sym ends) both;
        },
      ),
    )

-- of the position that was tried, where one was
abbrev pub PlaceHolds : (ℕ → Type 0) → Option ℕ → Type 0
PlaceHolds Q None = Unit {0}
PlaceHolds Q (Some w) = Q w

first-place : (Q : ℕ → Type 0) (a b : Option ℕ) → PlaceHolds Q a → PlaceHolds Q b → PlaceHolds Q (first_of a b)
first-place Q None b x y = y
first-place Q (Some w) b x y = x

some-if-place : (Q : ℕ → Type 0) (b : Bool) (w : ℕ) → Q w → PlaceHolds Q (if b then Some w else None)
some-if-place Q true w h = h
some-if-place Q false w h = tt

failing-place : (Q : ℕ → Type 0) (s : State) (e : Event) (i : ℕ) (inlet : InletRecords) → Q 0 → InletHolds Q inlet → PlaceHolds Q (failing_position s e i inlet)
failing-place Q s e i inlet z h =
    some-if-place Q (has_failed e.failed inlet.setup.store) (if is_nil inlet.ends then 0 else mark_of s.dests i inlet) (mark-if Q (is_nil inlet.ends) 0 (mark_of s.dests i inlet) z (mark-holds Q s i inlet h))

-- what an inlet comes to, and what was tried meanwhile
pub record PlacesHold (Q : ℕ → Type 0) (s : State) (es : List Event) (i : ℕ) : Type 0 where
  pub new : InletRecords
  pub at : slice_get (after_all s es).inlets i ≡ Some new
  pub holds : InletHolds Q new
  pub tried : PlaceHolds Q (failed_position s es i)

pub places-hold : (Q : ℕ → Type 0) (s : State) (es : List Event) (i : ℕ) (inlet : InletRecords) → Q 0 → are_legal s es ≡ true → slice_get s.inlets i ≡ Some inlet → InletHolds Q inlet → ((x : ℕ) → Contains (ends_admitted i es) x → Q x)
    → PlacesHold Q s es i
places-hold Q s [] i inlet z l at h more = record { new = inlet; at = at; holds = h; tried = tt }
places-hold Q s (e ∷ es) i inlet z l at h more =
    let q = both-true (is_legal s e) (are_legal (after s e) es) l in
    let step = step-holds Q s e i inlet z q.0 at h (λ x c. more x (Contains-append_left (ends_by i e.act) (ends_admitted i es) x c)) in
    let rest = places-hold Q (after s e) es i step.0 z q.1 step.1.0 step.1.1 (λ x c. more x (Contains-append_right (ends_by i e.act) (ends_admitted i es) x c)) in
    let now : option_and_then (failing_position s e i) (slice_get s.inlets i) ≡ failing_position s e i inlet = ap (λ (o : Option InletRecords). option_and_then (failing_position s e i) o) at in
    let P : Option ℕ → Type 0 = λ o. PlaceHolds Q (first_of o (failed_position (after s e) es i)) in
    record {
      new = rest.new;
      at = rest.at;
      holds = rest.holds;
      tried = subst P (sym now) (first-place Q (failing_position s e i inlet) (failed_position (after s e) es i) (failing-place Q s e i inlet z h) rest.tried);
    }

-- the position that an act is writing
running-if : (Q : ℕ → Type 0) (b : Bool) (w : ℕ) → (b ≡ true → Q w) → PlaceHolds Q (if b then Some w else None)
running-if Q true w h = h refl
running-if Q false w h = tt

pub running-holds : (Q : ℕ → Type 0) (s : State) (act : Act) (failed : List ℕ) (i : ℕ) (inlet : InletRecords) → Q 0 → is_legal_act s act failed ≡ true → slice_get s.inlets i ≡ Some inlet → InletHolds Q inlet → PlaceHolds Q (running_position act i)
running-holds Q s (Admit j records vs) failed i inlet z l at h = tt
running-holds Q s (Settle d n) failed i inlet z l at h = tt
running-holds Q s (Refill d n) failed i inlet z l at h = tt
running-holds Q s (Store j w) failed i inlet z l at h =
    running-if Q (j == i) w
    (λ q.
    let same : j ≡ i = grind (arith, q) in
    let P : ℕ → Type 0 = λ n. is_legal_act s (Store n w) failed ≡ true in
    let stored = store-mark s i w failed inlet (subst P same l) at in
    same-place Q (mark_of s.dests i inlet) w (sym stored) (mark-holds Q s i inlet h))
running-holds Q s (Rewind j) failed i inlet z l at h = running-if Q (j == i) 0 (λ q. z)
running-holds Q s Look failed i inlet z l at h = tt

-- a position that may stand in the store
listed-holds : (Q : ℕ → Type 0) (p : ℕ) (xs : List ℕ) → ((x : ℕ) → Contains xs x → Q x) → is_listed p xs ≡ true → Q p
listed-holds Q p [] h q = let wrong : false ≡ true = q in cc
listed-holds Q p (x ∷ xs) h q =
    elim (cases_eq x p) [
      | inl e ↦ same-place Q x p e (h x (has-here x xs))
      | inr ne ↦ (
          let miss : (x == p) ≡ false = grind arith in
          let rest : is_listed p xs ≡ true = rw miss at q in
          listed-holds Q p xs (λ y c. h y (has-there x xs y c)) rest)
    ]

option-holds : (Q : ℕ → Type 0) (o : Option ℕ) → PlaceHolds Q o → (x : ℕ) → Contains (option_to_list o) x → Q x
option-holds Q None h x c = absurd (has-nil x c)
option-holds Q (Some w) h x c =
    elim (has-cons w [] x c) [
      | inl e ↦ same-place Q w x e h
      | inr t ↦ absurd (has-nil x t)
    ]

pub position-holds : (Q : ℕ → Type 0) (stored p : ℕ) (running tried : Option ℕ) → Q stored → PlaceHolds Q running → PlaceHolds Q tried → is_listed p (stored ∷ option_to_list running ++ option_to_list tried) ≡ true → Q p
position-holds Q stored p running tried s r t l =
    listed-holds Q p (stored ∷ option_to_list running ++ option_to_list tried)
    (λ x c. elim (has-cons stored (option_to_list running ++ option_to_list tried) x c) [
      | inl e ↦ same-place Q stored x e s
      | inr m ↦ elim (Contains-append_cases (option_to_list running) (option_to_list tried) x m) [
        | inl a ↦ option-holds Q running r x a
        | inr b ↦ option-holds Q tried t x b
      ]
    ]) l

opening-by-or : (i first opening : ℕ) (act : Act) → (opening ≡ first) ⊎ (opening ≡ 0) → (opening_by i opening act ≡ first) ⊎ (opening_by i opening act ≡ 0)
opening-by-or i first opening (Admit j records vs) h = h
opening-by-or i first opening (Settle d n) h = h
opening-by-or i first opening (Refill d n) h = h
opening-by-or i first opening (Store j w) h = h
opening-by-or i first opening (Rewind j) h = let Q : ℕ → Type 0 = λ n. (n ≡ first) ⊎ (n ≡ 0) in mark-if Q (j == i) 0 opening (inr refl) h
opening-by-or i first opening Look h = h

same-or-zero : (i first opening : ℕ) (es : List Event) → (opening ≡ first) ⊎ (opening ≡ 0) → (opening_from i opening es ≡ first) ⊎ (opening_from i opening es ≡ 0)
same-or-zero i first opening [] h = h
same-or-zero i first opening (e ∷ es) h = same-or-zero i first (opening_by i opening e.act) es (opening-by-or i first opening e.act h)

-- the opening place stays, or is 0
pub opening-or-zero : (i opening : ℕ) (es : List Event) → (opening_from i opening es ≡ opening) ⊎ (opening_from i opening es ≡ 0)
opening-or-zero i opening es = same-or-zero i opening opening es (inl refl)
