-- The sources that begin anew bring no record, and change no destination.
use Rattle.std.proofs.Common.{◌⊎◌, inl, inr, ◌≡◌, ℕ, ◌+◌, zero, suc, List, [], ◌∷◌, ◌++◌, length, Some, None, refl, sym, ap, ◌∙◌, append_assoc}
use Rattle.std.specs.Prelude.{slice_get, map}
use Rattle.sg_list.proofs.ListLemmas.{some-same}
use Rattle.sg_machine.specs.declared.event.Event.{Event}
use Rattle.sg_machine.specs.declared.setup.DestSetup.{DestSetup}
use Rattle.sg_machine.specs.declared.state.Dest.{Dest}
use Rattle.sg_machine.specs.declared.state.State.{State}
use Rattle.sg_machine.specs.Runs.{BufferedEntry, opened_dests, after_all}
use Rattle.sg_machine.proofs.RunLemmas.{after_all-append}
use Rattle.sg_laws.specs.Fronts.{IsDestThroughout}
use Rattle.sg_laws.specs.Texts.{admissions_by, admissions_of}
use Rattle.sg_serve.specs.Rewinds.{rewinds_at, rewinds_from, position_at, places_of}
use Rattle.sg_serve.specs.Run.{FailsLast}
use Rattle.sg_standing.specs.States.{CoreState}
use Rattle.sg_device.specs.Inlet.{InletState}
use Rattle.sg_machine.specs.declared.event.Act.TheVariants.{Look}

-- what a list's values came of
pub get-back : {A B : Type 0} (f : A → B) (xs : List A) (k : ℕ) (y : B) → slice_get (map f xs) k ≡ Some y → (x : A) × ((slice_get xs k ≡ Some x) × (f x ≡ y))
get-back f [] k y h = absurd (let wrong : None ≡ Some y = h in cc)
get-back f (x ∷ xs) zero y h = (x, (refl, some-same (f x) y h))
get-back f (x ∷ xs) (suc k) y h = get-back f xs k y h

one-dests : (i position place : ℕ) (s : State) → (after_all s (rewinds_at i position place)).dests ≡ s.dests
one-dests i zero place s = refl
one-dests i (suc position) (suc place) s = refl
one-dests i (suc position) zero s = refl

rewinds-dests : (positions : ℕ → ℕ) (i : ℕ) (places : List ℕ) (s : State) → (after_all s (rewinds_from positions i places)).dests ≡ s.dests
rewinds-dests positions i [] s = refl
rewinds-dests positions i (place ∷ places) s =
    let one = rewinds_at i (positions i) place in
    ap (λ (t : State). t.dests) (after_all-append s one (rewinds_from positions (i + 1) places))
    ∙ rewinds-dests positions (i + 1) places (after_all s one)
    ∙ one-dests i (positions i) place s

admissions-both : (j : ℕ) (xs ys : List Event) → admissions_of j (xs ++ ys) ≡ admissions_of j xs ++ admissions_of j ys
admissions-both j [] ys = refl
admissions-both j (x ∷ xs) ys = ap (λ rs. admissions_by j x.act ++ rs) (admissions-both j xs ys) ∙ sym (append_assoc (admissions_by j x.act) (admissions_of j xs) (admissions_of j ys))

none-admitted-one : (j i position place : ℕ) → admissions_of j (rewinds_at i position place) ≡ []
none-admitted-one j i zero place = refl
none-admitted-one j i (suc position) (suc place) = refl
none-admitted-one j i (suc position) zero = refl

none-admitted : (j : ℕ) (positions : ℕ → ℕ) (i : ℕ) (places : List ℕ) → admissions_of j (rewinds_from positions i places) ≡ []
none-admitted j positions i [] = refl
none-admitted j positions i (place ∷ places) =
    admissions-both j (rewinds_at i (positions i) place) (rewinds_from positions (i + 1) places)
    ∙ ap (λ rs. rs ++ admissions_of j (rewinds_from positions (i + 1) places)) (none-admitted-one j i (positions i) place)
    ∙ none-admitted j positions (i + 1) places

-- they bring no record, and change no destination
pub record AreStill (events : List Event) : Type 0 where
  pub dests : (s : State) → (after_all s events).dests ≡ s.dests
  pub admits : (j : ℕ) → admissions_of j events ≡ []

pub still-rewinds : (positions : ℕ → ℕ) (places : List ℕ) (events : List Event) → events ≡ rewinds_from positions 0 places → AreStill events
still-rewinds positions places events is = record {
  dests = λ s. ap (λ es. (after_all s es).dests) is ∙ rewinds-dests positions 0 places s;
  admits = λ j. ap (admissions_of j) is ∙ none-admitted j positions 0 places;
}

-- also where the store of the last one failed
still-fails : (first : CoreState) (feeds : List InletState) (events : List Event) → FailsLast first feeds events → AreStill events
still-fails first feeds events fails =
    let rewinds = rewinds_from (position_at first) 0 (places_of fails.front) in
    let look : Event = record { act = Look; failed = fails.failed } in
    record {
      dests = λ s.
          ap (λ es. (after_all s es).dests) fails.prelude_is
          ∙ ap (λ (t : State). t.dests) (after_all-append s rewinds (look ∷ []))
          ∙ rewinds-dests (position_at first) 0 (places_of fails.front) s;
      admits = λ j.
          ap (admissions_of j) fails.prelude_is
          ∙ admissions-both j rewinds (look ∷ [])
          ∙ ap (λ rs. rs ++ admissions_of j (look ∷ [])) (none-admitted j (position_at first) 0 (places_of fails.front));
    }

pub still-either : (first : CoreState) (feeds : List InletState) (events : List Event) → (events ≡ rewinds_from (position_at first) 0 (places_of feeds)) ⊎ FailsLast first feeds events → AreStill events
still-either first feeds events (inl is) = still-rewinds (position_at first) (places_of feeds) events is
still-either first feeds events (inr fails) = still-fails first feeds events fails

-- behind them only those bring records that come later
pub admitted-later : (j : ℕ) (prelude later : List Event) → AreStill prelude → admissions_of j (prelude ++ later) ≡ admissions_of j later
admitted-later j prelude later still = admissions-both j prelude later ∙ ap (λ xs. xs ++ admissions_of j later) (still.admits j)

-- behind them a destination is as at the start
pub dest-behind : (start : State) (prelude later : List Event) (d : ℕ) (first last : Dest) → AreStill prelude → IsDestThroughout start [] (prelude ++ later) d first last → IsDestThroughout start prelude later d first last
dest-behind start prelude later d first last still is = record { at_first = ap (λ ds. slice_get ds d) (still.dests start) ∙ is.at_first; at_last = is.at_last }

-- an opening has the destinations of its setup
pub opened-many : (setups : List DestSetup) (entries : List (List BufferedEntry)) → length (opened_dests setups entries) ≡ length setups
opened-many [] entries = refl
opened-many (s ∷ ss) [] = ap suc (opened-many ss [])
opened-many (s ∷ ss) (es ∷ rest) = ap suc (opened-many ss rest)
