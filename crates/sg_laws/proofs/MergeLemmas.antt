-- The passes of what came in, in the order of the events, from those of each inlet.
use Rattle.std.proofs.Common.{◌≡◌, ◌≢◌, ℕ, List, [], ◌∷◌, ◌++◌, map, Some, Bool, true, false, refl, sym, ap, ◌∙◌, subst, arith, inl, inr, if◌then◌else◌, slice_get}
use Rattle.std.specs.Prelude.{◌==◌, filter}
use Rattle.std.proofs.lemmas.Bool.{cases_eq}
use Rattle.std.proofs.lemmas.List.Elements.{filter-append}
use Rattle.sg_msg.specs.declared.offer.Offer.{Offer}
use Rattle.sg_frame.specs.Records.{Record}
use Rattle.sg_route.specs.Offers.{record_at}
use Rattle.sg_machine.specs.declared.event.Act.{Act}
use Rattle.sg_machine.specs.declared.event.Act.TheVariants.{Admit, Settle, Refill, Store, Rewind, Look}
use Rattle.sg_machine.specs.declared.event.Admission.{Admission}
use Rattle.sg_machine.specs.declared.event.Event.{Event}
use Rattle.sg_machine.specs.declared.event.Verdict.{Verdict}
use Rattle.sg_actor.specs.Sources.{end_of, AreOf}
use Rattle.sg_actor.specs.declared.settings.SourceSpec.{SourceSpec}
use Rattle.sg_laws.specs.Texts.{admissions_by, admissions_of}
use Rattle.sg_laws.specs.Pieces.{Piece}
use Rattle.sg_laws.specs.Covered.{Pass, Offers}
use Rattle.sg_laws.specs.Passes.{AreRecordsRead, ReadsByAct, AreAdmitted, pass_piece, pieces_of}
use Rattle.sg_laws.specs.Adding.{offers_in}

-- Of one inlet.

-- a record of inlet i, as a pass
abbrev pub pass_of : ℕ → Bool → Record → Pass
pass_of i stored r = record { inlet = i; end = end_of stored r; text = r.item.text; at = r.item.at; peer = r.peer }

pub read-of : {R : Type 0} (offers : R → ℕ → Record → List Offer → Type 0) (routers : List R) (router : R) (spec : SourceSpec) (i : ℕ) → spec.inlet ≡ i → slice_get routers i ≡ Some router → (rs : List Record) (as' : List Admission)
    → AreOf (offers router) spec rs as' → AreRecordsRead (offers_in offers routers) i as' (map (pass_of i spec.stored) rs)
read-of offers routers router spec i number at [] [] h = tt
read-of offers routers router spec i number at [] (a ∷ as') h = absurd h
read-of offers routers router spec i number at (r ∷ rs) [] h = absurd h
read-of offers routers router spec i number at (r ∷ rs) (a ∷ as') h =
    let P : ℕ → Type 0 = λ j. offers router j (record_at r.peer r.item.text r.item.at) a.offers in
    (refl, sym h.0.ends, (router, (at, subst P number h.0.offered)), read-of offers routers router spec i number at rs as' h.1)

pub read-none : (offers : Offers) (i : ℕ) (ps : List Pass) → AreRecordsRead offers i [] ps → ps ≡ []
read-none offers i [] h = refl
read-none offers i (p ∷ ps) h = absurd h

record SplitMerge (offers : Offers) (i : ℕ) (xs ys : List Admission) (ps : List Pass) : Type 0 where
  a : List Pass
  b : List Pass
  are : ps ≡ a ++ b
  first : AreRecordsRead offers i xs a
  rest : AreRecordsRead offers i ys b

read-split : (offers : Offers) (i : ℕ) (xs ys : List Admission) (ps : List Pass) → AreRecordsRead offers i (xs ++ ys) ps → SplitMerge offers i xs ys ps
read-split offers i [] ys ps h = record { a = []; b = ps; are = refl; first = tt; rest = h }
read-split offers i (x ∷ xs) ys [] h = absurd h
read-split offers i (x ∷ xs) ys (p ∷ ps) h =
    let r = read-split offers i xs ys ps h.3 in
    record { a = p ∷ r.a; b = r.b; are = ap (λ (qs : List Pass). p ∷ qs) r.are; first = (h.0, h.1, h.2, r.first); rest = r.rest }

abbrev pub is_of : ℕ → Pass → Bool
is_of i p = p.inlet == i

read-all : (offers : Offers) (i : ℕ) (xs : List Admission) (ps : List Pass) → AreRecordsRead offers i xs ps → filter (is_of i) ps ≡ ps
read-all offers i [] [] h = refl
read-all offers i [] (p ∷ ps) h = absurd h
read-all offers i (x ∷ xs) [] h = absurd h
read-all offers i (x ∷ xs) (p ∷ ps) h =
    let same = h.0 in
    let hit : (p.inlet == i) ≡ true = grind (arith, same) in
    let here : filter (is_of i) (p ∷ ps) ≡ p ∷ filter (is_of i) ps = rw hit refl in
    here ∙ ap (λ (qs : List Pass). p ∷ qs) (read-all offers i xs ps h.3)

read-other : (offers : Offers) (i j : ℕ) → i ≢ j → (xs : List Admission) (ps : List Pass) → AreRecordsRead offers j xs ps → filter (is_of i) ps ≡ []
read-other offers i j other [] [] h = refl
read-other offers i j other [] (p ∷ ps) h = absurd h
read-other offers i j other (x ∷ xs) [] h = absurd h
read-other offers i j other (x ∷ xs) (p ∷ ps) h =
    let same = h.0 in
    let miss : (p.inlet == i) ≡ false = grind (arith, same, other) in
    let here : filter (is_of i) (p ∷ ps) ≡ filter (is_of i) ps = rw miss refl in
    here ∙ read-other offers i j other xs ps h.3

-- Of all inlets.

pub record Merged (offers : Offers) (es : List Event) (own : ℕ → List Pass) : Type 0 where
  pub now : List Pass
  pub admitted : AreAdmitted offers es now
  pub each : (i : ℕ) → filter (is_of i) now ≡ own i

-- an event that brings none
merge-none : (offers : Offers) (act : Act) (failed : List ℕ) (es : List Event) (own : ℕ → List Pass) → ((ps : List Pass) → ps ≡ [] → ReadsByAct offers act ps) → Merged offers es own → Merged offers (record { act = act; failed = failed } ∷ es) own
merge-none offers act failed es own reads m = record { now = m.now; admitted = ([], (m.now, (refl, reads [] refl, m.admitted))); each = m.each }

abbrev own-later : ℕ → List Pass → (ℕ → List Pass) → ℕ → List Pass
own-later j later own i = if i == j then later else own i

later-here : (j : ℕ) (later : List Pass) (own : ℕ → List Pass) → own-later j later own j ≡ later
later-here j later own = let hit : (j == j) ≡ true = grind arith in rw hit refl

later-other : (j i : ℕ) (later : List Pass) (own : ℕ → List Pass) → i ≢ j → own-later j later own i ≡ own i
later-other j i later own other = let miss : (i == j) ≡ false = grind (arith, other) in rw miss refl

admits-here : (j : ℕ) (rs : List Admission) (vs : List Verdict) → admissions_by j (Admit j rs vs) ≡ rs
admits-here j rs vs = let hit : (j == j) ≡ true = grind arith in rw hit refl

admits-other : (i j : ℕ) (rs : List Admission) (vs : List Verdict) → i ≢ j → admissions_by i (Admit j rs vs) ≡ []
admits-other i j rs vs other = let miss : (j == i) ≡ false = grind (arith, other) in rw miss refl

merge-admit : (offers : Offers) (j : ℕ) (rs : List Admission) (vs : List Verdict) (failed : List ℕ) (es : List Event) (own : ℕ → List Pass)
    → ((i : ℕ) → AreRecordsRead offers i (admissions_of i (record { act = Admit j rs vs; failed = failed } ∷ es)) (own i)) → ((next : ℕ → List Pass) → ((i : ℕ) → AreRecordsRead offers i (admissions_of i es) (next i)) → Merged offers es next)
    → Merged offers (record { act = Admit j rs vs; failed = failed } ∷ es) own
merge-admit offers j rs vs failed es own reads rest =
    let P : List Admission → Type 0 = λ xs. AreRecordsRead offers j (xs ++ admissions_of j es) (own j) in
    let s = read-split offers j rs (admissions_of j es) (own j) (subst P (admits-here j rs vs) (reads j)) in
    let next = own-later j s.b own in
    let nexts : (i : ℕ) → AreRecordsRead offers i (admissions_of i es) (next i) =
    λ i. elim (cases_eq i j) [
      | inl e ↦ (
          let Q : ℕ → Type 0 = λ k. AreRecordsRead offers k (admissions_of k es) (next k) in
          let S : List Pass → Type 0 = λ ps. AreRecordsRead offers j (admissions_of j es) ps in
          subst Q (sym e) (subst S (sym (later-here j s.b own)) s.rest))
      | inr ne ↦ (
          let Q : List Admission → Type 0 = λ xs. AreRecordsRead offers i (xs ++ admissions_of i es) (own i) in
          let S : List Pass → Type 0 = λ ps. AreRecordsRead offers i (admissions_of i es) ps in
          subst S (sym (later-other j i s.b own ne)) (subst Q (admits-other i j rs vs ne) (reads i)))
    ] in
    let m = rest next nexts in
    record {
      now = s.a ++ m.now;
      admitted = (s.a, (m.now, (refl, s.first, m.admitted)));
      each = λ i. filter-append (is_of i) s.a m.now ∙ elim (cases_eq i j) [
        | inl e ↦ (
            let Q : ℕ → Type 0 = λ k. filter (is_of k) s.a ++ filter (is_of k) m.now ≡ own k in
            let here : Q j =
            ap (λ (ps : List Pass). ps ++ filter (is_of j) m.now) (read-all offers j rs s.a s.first)
            ∙ ap (λ (ps : List Pass). s.a ++ ps) (m.each j ∙ later-here j s.b own)
            ∙ sym s.are in
            subst Q (sym e) here)
        | inr ne ↦ (ap (λ (ps : List Pass). ps ++ filter (is_of i) m.now) (read-other offers i j ne rs s.a s.first) ∙ m.each i ∙ later-other j i s.b own ne)
      ];
    }

merge-by : (offers : Offers) (act : Act) (failed : List ℕ) (es : List Event) (own : ℕ → List Pass) → ((i : ℕ) → AreRecordsRead offers i (admissions_of i (record { act = act; failed = failed } ∷ es)) (own i))
    → ((next : ℕ → List Pass) → ((i : ℕ) → AreRecordsRead offers i (admissions_of i es) (next i)) → Merged offers es next) → Merged offers (record { act = act; failed = failed } ∷ es) own
merge-by offers (Admit j rs vs) failed es own reads rest = merge-admit offers j rs vs failed es own reads rest
merge-by offers (Settle d n) failed es own reads rest = merge-none offers (Settle d n) failed es own (λ ps h. h) (rest own reads)
merge-by offers (Refill d n) failed es own reads rest = merge-none offers (Refill d n) failed es own (λ ps h. h) (rest own reads)
merge-by offers (Store j w) failed es own reads rest = merge-none offers (Store j w) failed es own (λ ps h. h) (rest own reads)
merge-by offers (Rewind j) failed es own reads rest = merge-none offers (Rewind j) failed es own (λ ps h. h) (rest own reads)
merge-by offers Look failed es own reads rest = merge-none offers Look failed es own (λ ps h. h) (rest own reads)

pub merge : (offers : Offers) (es : List Event) (own : ℕ → List Pass) → ((i : ℕ) → AreRecordsRead offers i (admissions_of i es) (own i)) → Merged offers es own
merge offers [] own reads = record { now = []; admitted = refl; each = λ i. sym (read-none offers i (own i) (reads i)) }
merge offers (e ∷ es) own reads = merge-by offers e.act e.failed es own reads (λ next h. merge offers es next h)

-- As items.

abbrev pub record_piece : Record → Piece
record_piece r = record { text = r.item.text; end = r.item.end }

stored-pieces : (i : ℕ) (rs : List Record) → map pass_piece (map (pass_of i true) rs) ≡ map record_piece rs
stored-pieces i [] = refl
stored-pieces i (r ∷ rs) = ap (λ (xs : List Piece). record_piece r ∷ xs) (stored-pieces i rs)

-- those of the passes of an inlet with a position store
pub pieces-are : (i : ℕ) (now : List Pass) (stored : Bool) (rs : List Record) → stored ≡ true → filter (is_of i) now ≡ map (pass_of i stored) rs → pieces_of i now ≡ map record_piece rs
pieces-are i now stored rs q h =
    ap (map pass_piece) h ∙ ap (λ (b : Bool). map pass_piece (map (pass_of i b) rs)) q ∙ stored-pieces i rs

-- behind all events nothing comes in
pub admitted-nothing : (offers : Offers) (es : List Event) (now : List Pass) (failed : List ℕ) → AreAdmitted offers es now → AreAdmitted offers (es ++ record { act = Look; failed = failed } ∷ []) now
admitted-nothing offers [] now failed h = ([], ([], (h, refl, refl)))
admitted-nothing offers (e ∷ es) now failed h = (h.0, (h.1.0, (h.1.1.0, h.1.1.1, admitted-nothing offers es h.1.0 failed h.1.1.2)))
