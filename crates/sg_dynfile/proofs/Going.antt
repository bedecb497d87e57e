-- How far a send has come, and where it ends.
use Rattle.std.proofs.Common.{◌≡◌, ◌≢◌, ◌<◌, ℕ, suc, List, [], ◌∷◌, ◌++◌, length, refl, sym, ap, ◌∙◌, arith, subst, append_assoc, length-append}
use Rattle.std.specs.Prelude.{map, true, false, ◌==◌, Result, Ok, Err, OnOk, IfOk, IfErr}
use Rattle.std.proofs.lemmas.List.{append-nil, map-append}
use Rattle.std.proofs.lemmas.Bool.Decides.{nat_tests}
use Rattle.sg_device.specs.Outlet.{OutletState, Sends}
use Rattle.sg_device.specs.Paths.{PathsState, PathText}
use Rattle.sg_device.specs.declared.fault.SendRefusal.{SendRefusal}
use Rattle.sg_device.specs.declared.fault.SendRefusal.TheVariants.{NoMemory}
use Rattle.sg_by_path.specs.Each.{SendsEach, under_places}
use Rattle.sg_by_path.proofs.EachLemmas.{length-places, last-places, inside-last}
use Rattle.sg_dynfile.specs.Texts.{parted, frame_for, outlet_over, AreWhole, AreParted}
use Rattle.sg_dynfile.specs.Tracks.{OnlyOpens, MakesOpen, StandsAt}
use Rattle.sg_dynfile.specs.Sending.{TakesAll, IsUnderWay, AreReady, AreNone, SendsFrames, Follows, Finds}
use Rattle.sg_dynfile.proofs.Composed.{all-none, all-two, sends-all, all-sends, sends-early, all-starved}
use Rattle.sg_dynfile.proofs.Opened.{opens-over, opens-parted}
use Rattle.sg_dynfile.proofs.Over.{AreOf, as-many, sends-over, parted-over, refuses-sends, refuses-over}

pub some-of : {A : Type 0} (xs : List A) → xs ≢ [] → 0 < length xs
some-of [] filled = absurd (filled refl)
some-of (x ∷ xs) filled = omega arith

pub filled : {A : Type 0} (xs : List A) → 0 < length xs → xs ≢ []
filled {A} xs some none = let n : length xs ≡ 0 = ap (λ (l : List A). length l) none in omega (arith, n, some)

-- at the begin nothing waits
pub begins : (s : PathsState) → IsUnderWay s s [] [] []
begins s = record { done = []; waiting = []; all = refl; waits = refl; whole = refl; takes = all-none (outlet_over s); parted = (λ p. p) }

pub none-ready : (s : PathsState) → AreReady s [] []
none-ready s = record { many = refl; placed = λ k d near. absurd (omega (arith, near)) }

waits-of : (first now : PathsState) (frames : List (List ℕ)) (places : List ℕ) (texts : List (List ℕ)) → (h : IsUnderWay first now frames places texts) → AreOf (under_places now.opened places texts) h.waiting
waits-of first now frames places texts h = record { parts = h.waits; whole = h.whole }

waits-many : (first now : PathsState) (frames : List (List ℕ)) (places : List ℕ) (texts : List (List ℕ)) → AreReady now places texts → (h : IsUnderWay first now frames places texts) → length h.waiting ≡ length texts
waits-many first now frames places texts ready h =
    as-many (under_places now.opened places texts) h.waiting (waits-of first now frames places texts h)
    ∙ length-places now.opened places texts ready.many

-- all that waited was taken
pub goes-on : (first now new : PathsState) (frames : List (List ℕ)) (places : List ℕ) (texts : List (List ℕ)) (done : Unit) → 0 < length texts → AreReady now places texts → SendsEach places texts now new (Ok done) → IsUnderWay first now frames places texts → IsUnderWay first new frames [] []
goes-on first now new frames places texts done some ready sent h =
    let of = waits-of first now frames places texts h in
    let many = waits-many first now frames places texts ready h in
    let sends : Sends (outlet_over now) (outlet_over new) h.waiting (Ok done) = sends-over places texts h.waiting now new (Ok done) of many sent in
    let more : 0 < length h.waiting = omega (arith, some, many) in
    let two : TakesAll (h.done ++ h.waiting) (outlet_over first) (outlet_over new) =
    all-two h.done h.waiting (outlet_over first) (outlet_over now) (outlet_over new) h.takes (sends-all h.waiting (outlet_over now) (outlet_over new) done more sends sent.well) in
    record {
      done = frames;
      waiting = [];
      all = sym (append-nil frames);
      waits = refl;
      whole = refl;
      takes = subst (λ (l : List (List ℕ)). TakesAll l (outlet_over first) (outlet_over new)) (sym h.all) two;
      parted = (λ p. parted-over places texts h.waiting now new (Ok done) of sent (h.parted p));
    }

-- the send of what waited is the end
pub ends : (first now new : PathsState) (frames : List (List ℕ)) (places : List ℕ) (texts : List (List ℕ)) (answer : Result Unit SendRefusal) → AreReady now places texts → SendsEach places texts now new answer → IsUnderWay first now frames places texts → SendsFrames first new frames answer
ends first now new frames places texts answer ready sent h =
    let of = waits-of first now frames places texts h in
    let many = waits-many first now frames places texts ready h in
    record {
      sends =
          subst (λ (l : List (List ℕ)). Sends (outlet_over first) (outlet_over new) l answer) (sym h.all)
          (all-sends h.done h.waiting (outlet_over first) (outlet_over now) (outlet_over new) answer h.takes (sends-over places texts h.waiting now new answer of many sent));
      parted = (λ p. parted-over places texts h.waiting now new answer of sent (h.parted p));
    }

-- where nothing waits, files may be opened and closed
opens-none-waiting : (first now new : PathsState) (frames : List (List ℕ)) → OnlyOpens now new → IsUnderWay first now frames [] [] → IsUnderWay first new frames [] []
opens-none-waiting first now new frames is h = record {
  done = h.done;
  waiting = h.waiting;
  all = h.all;
  waits = h.waits;
  whole = h.whole;
  takes = subst (λ (o : OutletState). TakesAll h.done (outlet_over first) o) (sym (opens-over now new is)) h.takes;
  parted = (λ p. opens-parted now new is (h.parted p));
}

-- where nothing waits, all was taken
takes-all : (first now : PathsState) (frames : List (List ℕ)) → IsUnderWay first now frames [] [] → TakesAll frames (outlet_over first) (outlet_over now)
takes-all first now frames h =
    let none : h.waiting ≡ [] = no-parts h.waiting h.waits in
    subst (λ (l : List (List ℕ)). TakesAll l (outlet_over first) (outlet_over now)) (sym (h.all ∙ ap (λ (l : List (List ℕ)). h.done ++ l) none ∙ append-nil h.done)) h.takes
  where
    no-parts : (waiting : List (List ℕ)) → map parted waiting ≡ [] → waiting ≡ []
    no-parts [] is = refl
    no-parts (w ∷ ws) is = let long : suc (length (map parted ws)) ≡ 0 = ap (λ (l : List PathText). length l) is in absurd (omega (arith, long))

-- the place of a path whose file is opened where nothing waits, or its refusal
pub opens-behind : (first now new : PathsState) (frames : List (List ℕ)) (frame path : List ℕ) (places : List ℕ) (texts : List (List ℕ)) (answer : Result ℕ SendRefusal) → AreNone places texts → MakesOpen now new path answer → IsUnderWay first now frames places texts → Finds first new frames frame path places texts answer
opens-behind first now new frames frame path places texts answer none made h = by-answer answer made
  where
    here : IsUnderWay first now frames [] []
    here = subst (λ (l : List (List ℕ)). IsUnderWay first now frames [] l) none.1 (subst (λ (l : List ℕ). IsUnderWay first now frames l texts) none.0 h)

    back : IsUnderWay first new frames [] [] → IsUnderWay first new frames places texts
    back w = subst (λ (l : List ℕ). IsUnderWay first new frames l texts) (sym none.0) (subst (λ (l : List (List ℕ)). IsUnderWay first new frames [] l) (sym none.1) w)

    by-answer : (answer : Result ℕ SendRefusal) → MakesOpen now new path answer → Finds first new frames frame path places texts answer
    by-answer (Ok place) m = (back (opens-none-waiting first now new frames m.0 here), m.1)
    by-answer (Err refusal) m =
        let one : 0 < length (frame ∷ []) = omega arith in
        let refused : Sends (outlet_over now) (outlet_over new) (frame ∷ []) (Err refusal) = refuses-sends (frame ∷ []) (outlet_over now) (outlet_over new) refusal one (refuses-over now new refusal m.0 m.1) in
        record {
          sends = all-sends frames (frame ∷ []) (outlet_over first) (outlet_over now) (outlet_over new) (Err refusal) (takes-all first now frames here) refused;
          parted = (λ p. subst AreParted (sym m.0) (here.parted p));
        }

pub stands-behind : (now new : PathsState) (path : List ℕ) (answer : Result ℕ SendRefusal) → MakesOpen now new path answer → IfOk answer (StandsAt path new.opened)
stands-behind now new path (Ok place) made = made.1
stands-behind now new path (Err refusal) made = tt

-- then all that wait, which is none, are ready
pub ready-behind : (new : PathsState) (places : List ℕ) (texts : List (List ℕ)) (answer : Result ℕ SendRefusal) → AreNone places texts → OnOk answer (AreReady new places texts)
ready-behind new places texts (Err refusal) none = tt
ready-behind new places texts (Ok place) none =
    subst (λ (l : List (List ℕ)). AreReady new places l) (sym none.1) (subst (λ (l : List ℕ). AreReady new l []) (sym none.0) (none-ready new))

-- a refusal of the first frames
pub ends-early : (first new : PathsState) (frames more : List (List ℕ)) (refusal : SendRefusal) → SendsFrames first new frames (Err refusal) → SendsFrames first new (frames ++ more) (Err refusal)
ends-early first new frames more refusal h = record {
  sends = sends-early frames more (outlet_over first) (outlet_over new) refusal h.sends;
  parted = h.parted;
}

-- a text more waits
pub adds : (first now : PathsState) (frames : List (List ℕ)) (path text frame : List ℕ) (places : List ℕ) (place : ℕ) (texts : List (List ℕ)) → parted frame ≡ record { path = path; text = text } → AreWhole (frame ∷ [])
    → AreReady now places texts → StandsAt path now.opened place → IsUnderWay first now frames places texts → IsUnderWay first now (frames ++ frame ∷ []) (places ++ place ∷ []) (texts ++ text ∷ [])
adds first now frames path text frame places place texts parts whole ready stands h = record {
  done = h.done;
  waiting = h.waiting ++ frame ∷ [];
  all = ap (λ (l : List (List ℕ)). l ++ frame ∷ []) h.all ∙ append_assoc h.done h.waiting (frame ∷ []);
  waits =
      map-append parted h.waiting (frame ∷ [])
      ∙ ap (λ (l : List PathText). l ++ parted frame ∷ []) h.waits
      ∙ ap (λ (t : PathText). under_places now.opened places texts ++ t ∷ []) (parts ∙ ap (λ (p : List ℕ). record { path = p; text = text }) (sym stands.1))
      ∙ sym (last-places now.opened places place texts text ready.many);
  whole =
      ap (λ (l : List PathText). map frame_for l) (map-append parted h.waiting (frame ∷ []))
      ∙ map-append frame_for (map parted h.waiting) (parted frame ∷ [])
      ∙ ap (λ (l : List (List ℕ)). l ++ frame_for (parted frame) ∷ []) h.whole
      ∙ ap (λ (l : List (List ℕ)). h.waiting ++ l) whole;
  takes = h.takes;
  parted = h.parted;
}

adds-ready : (now : PathsState) (path text : List ℕ) (places : List ℕ) (place : ℕ) (texts : List (List ℕ)) → AreReady now places texts → StandsAt path now.opened place → AreReady now (places ++ place ∷ []) (texts ++ text ∷ [])
adds-ready now path text places place texts ready stands = record {
  many = omega (arith, ready.many, length-append places (place ∷ []), length-append texts (text ∷ []));
  placed = inside-last (length now.opened) places place ready.placed stands.0;
}

longer : (xs : List (List ℕ)) (x : List ℕ) → 0 < length (xs ++ x ∷ [])
longer xs x = omega (arith, length-append xs (x ∷ []))

-- memory ran out for a text more
pub starves : (first now : PathsState) (frames : List (List ℕ)) (frame : List ℕ) (places : List ℕ) (texts : List (List ℕ)) → IsUnderWay first now frames places texts → SendsFrames first now (frames ++ frame ∷ []) (Err NoMemory)
starves first now frames frame places texts h =
    let more : 0 < length (h.waiting ++ frame ∷ []) = longer h.waiting frame in
    let all : h.done ++ (h.waiting ++ frame ∷ []) ≡ frames ++ frame ∷ [] = sym (append_assoc h.done h.waiting (frame ∷ [])) ∙ ap (λ (l : List (List ℕ)). l ++ frame ∷ []) (sym h.all) in
    record {
      sends =
          subst (λ (l : List (List ℕ)). Sends (outlet_over first) (outlet_over now) l (Err NoMemory)) all
          (all-starved h.done (h.waiting ++ frame ∷ []) (outlet_over first) (outlet_over now) h.takes more);
      parted = h.parted;
    }

-- what a push of a text comes to
pub record Pushed (places : List ℕ) (place : ℕ) (texts : List (List ℕ)) (text : List ℕ) (places' : List ℕ) (texts' : List (List ℕ)) (answer : Result Unit SendRefusal) : Type 0 where
  pub places_are : OnOk answer (places' ≡ places ++ place ∷ [])
  pub texts_are : OnOk answer (texts' ≡ texts ++ text ∷ [])
  pub starved : IfErr answer (λ refusal. refusal ≡ NoMemory)

-- a text more waits, or memory ran out for it
pub pushes : (first now : PathsState) (frames : List (List ℕ)) (path text frame : List ℕ) (places : List ℕ) (place : ℕ) (texts : List (List ℕ)) (places' : List ℕ) (texts' : List (List ℕ)) (answer : Result Unit SendRefusal) → parted frame ≡ record { path = path; text = text } → AreWhole (frame ∷ [])
    → Pushed places place texts text places' texts' answer → AreReady now places texts → Finds first now frames frame path places texts (Ok place) → Follows first now (frames ++ frame ∷ []) places' texts' answer
pushes first now frames path text frame places place texts places' texts' (Ok done) parts whole pushed ready h =
    subst (λ (l : List ℕ). IsUnderWay first now (frames ++ frame ∷ []) l texts') (sym pushed.places_are)
    (subst (λ (l : List (List ℕ)). IsUnderWay first now (frames ++ frame ∷ []) (places ++ place ∷ []) l) (sym pushed.texts_are)
    (adds first now frames path text frame places place texts parts whole ready h.1 h.0))
pushes first now frames path text frame places place texts places' texts' (Err refusal) parts whole pushed ready h =
    subst (λ (r : SendRefusal). SendsFrames first now (frames ++ frame ∷ []) (Err r)) (sym pushed.starved) (starves first now frames frame places texts h.0)

pub pushes-ready : (now : PathsState) (path text : List ℕ) (places : List ℕ) (place : ℕ) (texts : List (List ℕ)) (places' : List ℕ) (texts' : List (List ℕ)) (answer : Result Unit SendRefusal)
    → Pushed places place texts text places' texts' answer → AreReady now places texts → StandsAt path now.opened place → OnOk answer (AreReady now places' texts')
pushes-ready now path text places place texts places' texts' (Err refusal) pushed ready stands = tt
pushes-ready now path text places place texts places' texts' (Ok done) pushed ready stands =
    subst (λ (l : List ℕ). AreReady now l texts') (sym pushed.places_are)
    (subst (λ (l : List (List ℕ)). AreReady now (places ++ place ∷ []) l) (sym pushed.texts_are) (adds-ready now path text places place texts ready stands))

-- then some wait
pub some-pushed : (texts texts' : List (List ℕ)) (text : List ℕ) (answer : Result Unit SendRefusal) → OnOk answer (texts' ≡ texts ++ text ∷ []) → OnOk answer (texts' ≢ [])
some-pushed texts texts' text (Ok done) ok = let long : 0 < length texts' = omega (arith, ap (λ (l : List (List ℕ)). length l) ok, longer texts text) in filled texts' long
some-pushed texts texts' text (Err refusal) ok = tt

-- an empty list, and one that isn't
pub none-of : (texts : List (List ℕ)) → (length texts == 0) ≡ true → texts ≡ []
none-of [] h = refl
none-of (t ∷ ts) h = absurd (grind (arith, nat_tests))

pub some-there : (texts : List (List ℕ)) → (length texts == 0) ≡ false → 0 < length texts
some-there texts h = grind (arith, nat_tests)

-- each text has a place
pub none-places : (places : List ℕ) (texts : List (List ℕ)) → length places ≡ length texts → texts ≡ [] → places ≡ []
none-places [] texts many none = refl
none-places (p ∷ places) texts many none =
    let long : length texts ≡ 0 = ap (λ (l : List (List ℕ)). length l) none in
    absurd (omega (arith, many, long))
