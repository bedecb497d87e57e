-- Runs that each ended clean, from fresh stores on.
use Rattle.std.proofs.Common.{◌≡◌, ℕ, ◌<◌, ◌≤◌, List, [], ◌∷◌, ◌++◌, length, map, Some, None, Option, Bool, true, false, refl, sym, ap, ◌∙◌, subst, arith, inl, inr, ◌⊎◌, if◌then◌else◌, append_assoc, slice_get}
use Rattle.std.specs.Prelude.{Contains, ◌==◌, nat_lt, filter, is_some}
use Rattle.std.specs.Option.{option_map_or}
use Rattle.std.proofs.lemmas.List.{append-nil}
use Rattle.std.proofs.lemmas.List.Elements.{Contains-append_right}
use Rattle.sg_list.proofs.ListLemmas.{slice_get-some, slice_get-none, slice_get-below, some-same}
use Rattle.sg_machine.specs.declared.event.Event.{Event}
use Rattle.sg_machine.specs.declared.setup.BufferSetup.{BufferSetup}
use Rattle.sg_machine.specs.declared.setup.DestSetup.{DestSetup}
use Rattle.sg_machine.specs.declared.setup.Setup.{Setup}
use Rattle.sg_machine.specs.declared.state.Dest.{Dest}
use Rattle.sg_machine.specs.declared.state.DestEntry.{DestEntry}
use Rattle.sg_machine.specs.Counts.{as_kept, kept_of, kept_of_inlet, ends_admitted}
use Rattle.sg_machine.specs.Runs.{BufferedEntry, opened_dest, are_legal}
use Rattle.sg_machine.specs.Safe.{Images, rises, settled_by, nothing}
use Rattle.sg_machine.proofs.RunLemmas.{are_legal-parts, length-inlets, length-opened_inlets}
use Rattle.sg_machine.proofs.CountLemmas.{keeps-order}
use Rattle.sg_laws.specs.Pieces.{Piece, Rise, behind}
use Rattle.sg_laws.specs.Covered.{Pass, Delivery, Offers, IsFile, list_at, Covered}
use Rattle.sg_laws.specs.Passes.{AreAdmitted, pieces_of, Stopped, state_at, taken_in, IsStoppedRun}
use Rattle.sg_laws.specs.Adding.{Follow, all_taken, all_passes, AreFresh}
use Rattle.sg_laws.specs.Once.{EndsWhole, AllEndWhole, settled_in, all_settled, Given, AreGiven, owed_to, dropped_in, all_dropped, less, AreEntriesUnflowed, TakesOnce, TakesEach, ExactlyOnce}
use Rattle.sg_laws.proofs.HasLemmas.{has-nil, has-here, has-there, has-mapped}
use Rattle.sg_laws.proofs.PieceLemmas.{ends, behind-in, behind-rises, rises-above, rises-apart, behind-rest, above-zero, rising}
use Rattle.sg_laws.proofs.BoundEventLemmas.{dests-all}
use Rattle.sg_laws.proofs.PassLemmas.{admitted-split, admitted-ends, pieces-append}
use Rattle.sg_laws.proofs.BeginLemmas.{opens-dest, length-opened, list-here}
use Rattle.sg_laws.proofs.CoverLemmas.{start_of, file-at, place-by, covers-run}
use Rattle.sg_laws.proofs.StopLemmas.{files_behind, files-last, images-last, covers-all, fresh-covered}
use Rattle.sg_laws.proofs.TakeLemmas.{takes-none, takes-append, takes-same, events-take, given-append, owed-append, events-nowhere}

-- Records.

-- all items so far end at or below the positions
abbrev ReadSo : Setup → Images → (ℕ → List Piece) → Type 0
ReadSo setup images read = (i position : ℕ) (x : Piece) → IsFile setup i → slice_get images.positions i ≡ Some position → Contains (read i) x → x.end ≤ position

-- an end that a position is at, or that it is past
abbrev IsOnceReached : ℕ → List Piece → ℕ → Type 0
IsOnceReached place pieces x = (x ≤ place) ⊎ Contains (ends pieces) x

none-later : (place position : ℕ) (pieces later : List Piece) → rises place (ends (pieces ++ later)) ≡ true → ((y : Piece) → Contains later y → y.end ≤ position) → IsOnceReached place pieces position → later ≡ []
none-later place position pieces [] r low q = refl
none-later place position pieces (y ∷ ys) r low q =
    let here = has-here y ys in
    let end = low y here in
    elim q [
      | inl z ↦ (let above = rises-above place (pieces ++ y ∷ ys) y r (Contains-append_right pieces (y ∷ ys) y here) in absurd (omega (arith, above, end, z)))
      | inr m ↦ (
          let x = has-mapped (λ (p : Piece). p.end) pieces position m in
          let above = rises-apart place pieces (y ∷ ys) x.0 y r x.1.0 here in
          let same = x.1.1 in
          absurd (omega (arith, above, end, same)))
    ]

-- what came in of a file are all items behind the position at which it was opened
came-all : (setup : Setup) (offers : Offers) (before : Images) (run : Stopped) (place : ℕ) → IsStoppedRun setup offers before run → EndsWhole setup run → (i : ℕ) → IsFile setup i → slice_get before.positions i ≡ Some place → behind place (run.files i) ≡ pieces_of i run.passes
came-all setup offers before run place h w i file was =
    let f = file-at setup offers before run i h file in
    let came = pieces_of i run.passes in
    let opening : f.inlet.opening ≡ place = some-same f.inlet.opening place (sym (w.resumed i f.inlet file f.at) ∙ h.begins.places i place file was) in
    let r = h.reads i f.inlet file f.at in
    let are : behind place (run.files i) ≡ came ++ r.0 = ap (λ (n : ℕ). behind n (run.files i)) (sym opening) ∙ r.1 in
    let P : List Piece → Type 0 = λ xs. rises place (ends xs) ≡ true in
    let rise = subst P are (behind-rises place 0 (run.files i) (rising 0 (run.files i) (h.rising i))) in
    let many = h.safe.images_at.every_position in
    let long = length-inlets (start_of setup run) run.events in
    let wide = length-opened_inlets setup.sources run.opening.places in
    let below = slice_get-below setup.sources i file.source file.at in
    let p = slice_get-some run.images.positions i (omega (arith, many, long, wide, below)) in
    let Q : ℕ → Type 0 = IsOnceReached place came in
    let same : (n : ℕ) → slice_get before.positions i ≡ Some n → Q n = λ n at. (let e = some-same n place (sym at ∙ was) in inl (omega (arith, e))) in
    let ended : (x : ℕ) → Contains (ends_admitted i (run.events ++ run.event ∷ [])) x → Q x =
    λ x m. (let A : List ℕ → Type 0 = λ xs. Contains xs x in inr (subst A (sym (admitted-ends offers i (run.events ++ run.event ∷ []) run.passes h.admits)) m)) in
    let zero_is : Q 0 = inl (omega arith) in
    let reached = place-by Q setup offers before run i p.0 h file p.1 zero_is same ended in
    let B : Piece → List Piece → Type 0 = λ y xs. Contains xs y in
    let none = none-later place p.0 came r.0 rise
    (λ y c. w.clean.positions i p.0 y file p.1 (behind-in place (run.files i) y (subst (B y) (sym are) (Contains-append_right came r.0 y c)))) reached in
    are ∙ ap (λ (xs : List Piece). came ++ xs) none ∙ append-nil came

-- of a file of which these items were read before, they are the others
came-in : (setup : Setup) (offers : Offers) (read : ℕ → List Piece) (taken : List Delivery) (passes : List Pass) (old : ℕ → ℕ) (before : Images) (run : Stopped) (more : List Piece) → Covered setup offers read taken passes old before → ReadSo setup before read
    → IsStoppedRun setup offers before run → EndsWhole setup run → (i : ℕ) → IsFile setup i → run.files i ≡ read i ++ more → pieces_of i run.passes ≡ more
came-in setup offers read taken passes old before run more covered so h w i file grow =
    let many = h.begins.every_position in
    let below = slice_get-below setup.sources i file.source file.at in
    let p = slice_get-some before.positions i (omega (arith, many, below)) in
    let whole = came-all setup offers before run p.0 h w i file p.1 in
    let F : List Piece → Type 0 = λ xs. Rise 0 xs in
    let risen = rising 0 (read i ++ more) (subst F grow (h.rising i)) in
    let high : (y : Piece) → Contains more y → p.0 < y.end =
    λ y c. elim (covered.positions i p.0 file p.1) [
      | inl z ↦ (let above = above-zero (read i ++ more) y risen (Contains-append_right (read i) more y c) in omega (arith, z, above))
      | inr x ↦ (let above = rises-apart 0 (read i) more x.0 y risen x.1.0 c in let end = x.1.1 in omega (arith, end, above))
    ] in
    sym whole ∙ ap (behind p.0) grow ∙ behind-rest p.0 (read i) more (λ x c. so i p.0 x file p.1 c) high

all-read : (setup : Setup) (offers : Offers) (read : ℕ → List Piece) (taken : List Delivery) (passes : List Pass) (old : ℕ → ℕ) (before : Images) (runs : List Stopped) → Covered setup offers read taken passes old before → ReadSo setup before read
    → Follow setup offers read before runs → AllEndWhole setup runs → (i : ℕ) → IsFile setup i → read i ++ pieces_of i (all_passes runs) ≡ files_behind read runs i
all-read setup offers read taken passes old before [] covered so f w i file = append-nil (read i)
all-read setup offers read taken passes old before (run ∷ runs) covered so f w i file =
    let g = f.0 i in
    let came = came-in setup offers read taken passes old before run g.0 covered so f.1 w.0 i file g.1 in
    let rest = pieces_of i (all_passes runs) in
    let one = covers-run setup offers read taken passes old before run covered f.0 f.1 in
    let clean = w.0.clean in
    ap (λ (xs : List Piece). read i ++ xs) (pieces-append i run.passes (all_passes runs) ∙ ap (λ (xs : List Piece). xs ++ rest) came)
    ∙ sym (append_assoc (read i) g.0 rest)
    ∙ ap (λ (xs : List Piece). xs ++ rest) (sym g.1)
    ∙ all-read setup offers run.files (taken ++ taken_in setup run) (passes ++ run.passes) old run.images runs one clean.positions f.2 w.1 i file

-- Destinations.

-- the list that a run opens a destination with has no entry
opens-none : (setup : Setup) (offers : Offers) (before : Images) (run : Stopped) → IsStoppedRun setup offers before run → ((d : ℕ) → list_at setup before d ≡ []) → (d : ℕ) (s : DestSetup) (list : List BufferedEntry) (buffer : Option BufferSetup) → s.buffer ≡ buffer
    → slice_get setup.dests d ≡ Some s → slice_get run.opening.entries d ≡ Some list → list ≡ []
opens-none setup offers before run h none d s list None q here at = h.begins.bare d s list here q at
opens-none setup offers before run h none d s list (Some b) q here at =
    let long = h.begins.every_list in
    let below = slice_get-below setup.dests d s here in
    let l = slice_get-some before.lists d (omega (arith, long, below)) in
    let some : is_some s.buffer ≡ true = rw q refl in
    let same : list ≡ l.0 = some-same list l.0 (sym at ∙ h.begins.lists d s l.0 here some l.1) in
    let shown : list_at setup before d ≡ l.0 = list-here setup before d s l.0 here l.1 ∙ rw some refl in
    same ∙ sym shown ∙ none d

settles-nothing : (i d : ℕ) (o : Option Dest) (event : Event) → event ≡ nothing
    → option_map_or (λ (x : Dest). filter (λ (k : BufferedEntry). k.inlet == i) (map as_kept (settled_by event.act d x))) o [] ≡ option_map_or (λ (x : Dest). filter (λ (k : BufferedEntry). k.inlet == i) (map as_kept x.settled)) o []
settles-nothing i d o event h = ap (λ (e : Event). option_map_or (λ (x : Dest). filter (λ (k : BufferedEntry). k.inlet == i) (map as_kept (settled_by e.act d x))) o []) h

-- what was settled are the offers of the events
settled-some : (setup : Setup) (offers : Offers) (before : Images) (run : Stopped) → IsStoppedRun setup offers before run → EndsWhole setup run → ((d : ℕ) → list_at setup before d ≡ []) → are_legal (start_of setup run) run.events ≡ true
    → (i d : ℕ) (s : DestSetup) → slice_get setup.dests d ≡ Some s → kept_of_inlet i d run.events ≡ settled_in setup i d run
settled-some setup offers before run h w none legal i d s here =
    let o = opens-dest setup.dests run.opening.entries d s here in
    let bare : o.list ≡ [] = elim o.from [ inl e ↦ e | inr g ↦ opens-none setup offers before run h none d s o.list s.buffer refl here g ] in
    let opened_so : slice_get (start_of setup run).dests d ≡ Some (opened_dest s []) = o.at ∙ ap (λ (ks : List BufferedEntry). Some (opened_dest s ks)) bare in
    let r = keeps-order (start_of setup run) run.events d (opened_dest s []) legal opened_so in
    let new = r.0 in
    let F : List BufferedEntry → List BufferedEntry = λ ks. filter (λ (k : BufferedEntry). k.inlet == i) ks in
    let left : new.left ≡ [] = w.settled d new r.1 in
    let kept : kept_of new ≡ map as_kept new.settled = ap (λ (es : List DestEntry). map as_kept (new.settled ++ es)) left ∙ ap (map as_kept) (append-nil new.settled) in
    let shown : option_map_or (λ (x : Dest). F (map as_kept x.settled)) (slice_get (state_at setup run).dests d) [] ≡ F (map as_kept new.settled) = ap (λ (x : Option Dest). option_map_or (λ (y : Dest). F (map as_kept y.settled)) x []) r.1 in
    sym (r.2.in_order i) ∙ ap F (sym r.2.behind) ∙ ap F kept ∙ sym shown ∙ sym (settles-nothing i d (slice_get (state_at setup run).dests d) run.event w.none)

settled-nowhere : (setup : Setup) (run : Stopped) → are_legal (start_of setup run) run.events ≡ true → (i d : ℕ) → length setup.dests ≤ d → kept_of_inlet i d run.events ≡ settled_in setup i d run
settled-nowhere setup run legal i d low =
    let long = length-opened setup.dests run.opening.entries in
    let same = dests-all run.events (start_of setup run) in
    let gone : slice_get (state_at setup run).dests d ≡ None = slice_get-none (state_at setup run).dests d (omega (arith, long, same, low)) in
    let shown : settled_in setup i d run ≡ [] = ap (λ (x : Option Dest). option_map_or (λ (y : Dest). filter (λ (k : BufferedEntry). k.inlet == i) (map as_kept (settled_by run.event.act d y))) x []) gone in
    events-nowhere (start_of setup run) run.events i d legal (omega (arith, long, low)) ∙ sym shown

settled-if : (setup : Setup) (offers : Offers) (before : Images) (run : Stopped) → IsStoppedRun setup offers before run → EndsWhole setup run → ((d : ℕ) → list_at setup before d ≡ []) → are_legal (start_of setup run) run.events ≡ true → (i d : ℕ) (b : Bool)
    → nat_lt d (length setup.dests) ≡ b → kept_of_inlet i d run.events ≡ settled_in setup i d run
settled-if setup offers before run h w none legal i d true q = let s = slice_get-some setup.dests d (grind (arith, q)) in settled-some setup offers before run h w none legal i d s.0 s.1
settled-if setup offers before run h w none legal i d false q = settled-nowhere setup run legal i d (grind (arith, q))

-- the passes of a run have offers, of which this was taken
record RunTakes (setup : Setup) (offers : Offers) (run : Stopped) : Type 0 where
  given : List Given
  gives : AreGiven offers run.passes given
  takes : (i d : ℕ) → TakesOnce (dropped_in i d run.events) (owed_to i d given) (settled_in setup i d run)

-- no record comes in where nothing is under way
nothing-came : (offers : Offers) (event : Event) (ps : List Pass) → event ≡ nothing → AreAdmitted offers (event ∷ []) ps → ps ≡ []
nothing-came offers event ps e h =
    let A : Event → Type 0 = λ x. AreAdmitted offers (x ∷ []) ps in
    let k : AreAdmitted offers (nothing ∷ []) ps = subst A e h in
    k.1.1.0 ∙ ap (λ (qs : List Pass). qs ++ k.1.0) k.1.1.1 ∙ k.1.1.2

run-takes : (setup : Setup) (offers : Offers) (before : Images) (run : Stopped) → IsStoppedRun setup offers before run → EndsWhole setup run → ((d : ℕ) → list_at setup before d ≡ []) → RunTakes setup offers run
run-takes setup offers before run h w none =
    let start = start_of setup run in
    let legal = (are_legal-parts start run.events (run.event ∷ []) h.legal).0 in
    let a = admitted-split offers run.events (run.event ∷ []) run.passes h.admits in
    let last = nothing-came offers run.event a.1.0 w.none a.1.1.2 in
    let all : a.0 ≡ run.passes = sym (append-nil a.0) ∙ ap (λ (ps : List Pass). a.0 ++ ps) (sym last) ∙ sym a.1.1.0 in
    let t = events-take offers start run.events a.0 legal a.1.1.1 in
    let G : List Pass → Type 0 = λ ps. AreGiven offers ps t.given in
    record {
      given = t.given;
      gives = subst G all t.gives;
      takes = λ i d. takes-same (dropped_in i d run.events) (owed_to i d t.given) (owed_to i d t.given) (kept_of_inlet i d run.events) (settled_in setup i d run) refl
          (settled-if setup offers before run h w none legal i d (nat_lt d (length setup.dests)) refl) (t.takes i d);
    }

record AllTake (setup : Setup) (offers : Offers) (runs : List Stopped) : Type 0 where
  given : List Given
  gives : AreGiven offers (all_passes runs) given
  takes : (i d : ℕ) → TakesOnce (all_dropped i d runs) (owed_to i d given) (all_settled setup i d runs)

all-take : (setup : Setup) (offers : Offers) (files : ℕ → List Piece) (before : Images) (runs : List Stopped) → ((d : ℕ) → list_at setup before d ≡ []) → Follow setup offers files before runs → AllEndWhole setup runs → AllTake setup offers runs
all-take setup offers files before [] none f w = record { given = []; gives = tt; takes = λ i d. takes-none }
all-take setup offers files before (run ∷ runs) none f w =
    let a = run-takes setup offers before run f.1 w.0 none in
    let b = all-take setup offers run.files run.images runs (w.0.clean).lists f.2 w.1 in
    let all = run ∷ runs in
    record {
      given = a.given ++ b.given;
      gives = given-append offers run.passes (all_passes runs) a.given b.given a.gives b.gives;
      takes = λ i d. takes-same (all_dropped i d all) (owed_to i d a.given ++ owed_to i d b.given) (owed_to i d (a.given ++ b.given)) (all_settled setup i d all) (all_settled setup i d all) (sym (owed-append i d a.given b.given)) refl
          (takes-append (dropped_in i d run.events) (all_dropped i d runs) (owed_to i d a.given) (owed_to i d b.given) (settled_in setup i d run) (all_settled setup i d runs) (a.takes i d) (b.takes i d));
    }

-- Each offer.

abbrev with_flow : List BufferedEntry → List BufferedEntry
with_flow ks = filter (λ (k : BufferedEntry). k.flow) ks

filter-here : {A : Type 0} (p : A → Bool) (x : A) (xs : List A) → p x ≡ true → filter p (x ∷ xs) ≡ x ∷ filter p xs
filter-here p x xs q = rw q refl

filter-gone : {A : Type 0} (p : A → Bool) (x : A) (xs : List A) → p x ≡ false → filter p (x ∷ xs) ≡ filter p xs
filter-gone p x xs q = rw q refl

flowed-less-if : (m b : Bool) (k : BufferedEntry) (xs ys : List BufferedEntry) → k.flow ≡ b → (m ≡ true → k.flow ≡ false) → with_flow xs ≡ with_flow ys → with_flow (if m then xs else k ∷ xs) ≡ with_flow (k ∷ ys)
flowed-less-if true true k xs ys q u e = let wrong : true ≡ false = sym q ∙ u refl in cc
flowed-less-if true false k xs ys q u e = e ∙ sym (filter-gone (λ (x : BufferedEntry). x.flow) k ys q)
flowed-less-if false true k xs ys q u e = filter-here (λ (x : BufferedEntry). x.flow) k xs q ∙ ap (λ (ks : List BufferedEntry). k ∷ ks) e ∙ sym (filter-here (λ (x : BufferedEntry). x.flow) k ys q)
flowed-less-if false false k xs ys q u e = filter-gone (λ (x : BufferedEntry). x.flow) k xs q ∙ e ∙ sym (filter-gone (λ (x : BufferedEntry). x.flow) k ys q)

flowed-less : (ms : List Bool) (ks : List BufferedEntry) → AreEntriesUnflowed ms ks → with_flow (less ms ks) ≡ with_flow ks
flowed-less [] ks u = refl
flowed-less (m ∷ ms) [] u = refl
flowed-less (m ∷ ms) (k ∷ ks) u = flowed-less-if m k.flow k (less ms ks) ks refl u.0 (flowed-less ms ks u.1)

whole-less : (ms : List Bool) (ks : List BufferedEntry) → (Contains ms true → ⊥) → less ms ks ≡ ks
whole-less [] ks h = refl
whole-less (m ∷ ms) [] h = refl
whole-less (true ∷ ms) (k ∷ ks) h = absurd (h (has-here true ms))
whole-less (false ∷ ms) (k ∷ ks) h = ap (λ (xs : List BufferedEntry). k ∷ xs) (whole-less ms ks (λ c. h (has-there false ms true c)))

takes-each : (dropped : List Bool) (owed taken : List BufferedEntry) → TakesOnce dropped owed taken → TakesEach dropped owed taken
takes-each dropped owed taken t = record { flowed = ap with_flow t.all ∙ flowed-less dropped owed t.unflowed; whole = λ h. t.all ∙ whole-less dropped owed h }

-- The whole.

abbrev no_files : ℕ → List Piece
no_files i = []

-- at first no file was read
follow-unread : (setup : Setup) (offers : Offers) (files : ℕ → List Piece) (before : Images) (runs : List Stopped) → Follow setup offers files before runs → Follow setup offers no_files before runs
follow-unread setup offers files before [] f = tt
follow-unread setup offers files before (run ∷ runs) f = (λ i. (run.files i, refl), f.1, f.2)

unread-covered : (setup : Setup) (offers : Offers) (images : Images) → AreFresh setup images → Covered setup offers no_files [] [] (λ i. 0) images
unread-covered setup offers images fresh = fresh-covered setup offers no_files (λ i. 0) images (λ i. tt) fresh

pub take-once : (setup : Setup) (offers : Offers) (files : ℕ → List Piece) (before : Images) (runs : List Stopped) (last : Stopped) → AreFresh setup before → Follow setup offers files before (runs ++ last ∷ []) → AllEndWhole setup (runs ++ last ∷ [])
    → ExactlyOnce setup offers (runs ++ last ∷ []) last.files
take-once setup offers files before runs last fresh follow whole =
    let all = runs ++ last ∷ [] in
    let unread = follow-unread setup offers files before all follow in
    let a = all-take setup offers files before all fresh.lists follow whole in
    record {
      records = λ i file. all-read setup offers no_files [] [] (λ j. 0) before all (unread-covered setup offers before fresh) (λ j position x is at c. absurd (has-nil x c)) unread whole i file
          ∙ ap (λ (held : ℕ → List Piece). held i) (files-last no_files runs last);
      given = a.given;
      gives = a.gives;
      takes = a.takes;
      each = λ i d. takes-each (all_dropped i d all) (owed_to i d a.given) (all_settled setup i d all) (a.takes i d);
    }

-- Any runs from fresh stores on.

pub fresh-runs : (setup : Setup) (offers : Offers) (files : ℕ → List Piece) (before : Images) (runs : List Stopped) (last : Stopped) → AreFresh setup before → Follow setup offers files before (runs ++ last ∷ [])
    → Covered setup offers last.files (all_taken setup (runs ++ last ∷ [])) (all_passes (runs ++ last ∷ [])) (λ i. 0) last.images
fresh-runs setup offers files before runs last fresh follow =
    let all = runs ++ last ∷ [] in
    let none : List Delivery = [] in
    let end = covers-all setup offers no_files none [] (λ i. 0) before all (unread-covered setup offers before fresh) (follow-unread setup offers files before all follow) in
    let P : Images → Type 0 = λ images. Covered setup offers (files_behind no_files all) (all_taken setup all) (all_passes all) (λ i. 0) images in
    let Q : (ℕ → List Piece) → Type 0 = λ held. Covered setup offers held (all_taken setup all) (all_passes all) (λ i. 0) last.images in
    subst Q (files-last no_files runs last) (subst P (images-last before runs last) end)
