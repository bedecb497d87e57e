-- What destinations keep and settle of the records of an inlet, over legal events.
use Rattle.std.proofs.Common.{◌≡◌, ℕ, ◌-◌, List, [], ◌∷◌, ◌++◌, length, Bool, true, false, refl, sym, ap, ◌∙◌, arith, map, drop, subst, if◌then◌else◌, zero, suc}
use Rattle.std.specs.Prelude.{◌==◌, filter}
use Rattle.std.specs.Option.{option_map_or}
use Rattle.std.proofs.lemmas.List.{map-append, drop-map, length-map}
use Rattle.std.proofs.lemmas.List.Elements.{filter-append}
use Rattle.std.proofs.Math.Seq.{drop-append_seam}
use Rattle.sg_list.specs.Lists.{passes_at}
use Rattle.sg_msg.specs.Message.{Content}
use Rattle.sg_msg.specs.declared.offer.Offer.{Offer}
use Rattle.sg_frame.specs.Records.{Record}
use Rattle.sg_machine.specs.declared.event.Act.{Act}
use Rattle.sg_machine.specs.declared.event.Act.TheVariants.{Admit, Settle, Refill, Store, Rewind, Look}
use Rattle.sg_machine.specs.declared.event.Admission.{Admission}
use Rattle.sg_machine.specs.declared.event.Event.{Event}
use Rattle.sg_machine.specs.declared.state.Dest.{Dest}
use Rattle.sg_machine.specs.declared.state.DestEntry.{DestEntry}
use Rattle.sg_machine.specs.declared.state.State.{State}
use Rattle.sg_machine.specs.Verdicts.{claims_of, judged}
use Rattle.sg_machine.specs.Legal.{is_same_list, may_admit, is_legal, is_legal_act}
use Rattle.sg_machine.specs.Effects.{next_of, after}
use Rattle.sg_machine.specs.Runs.{BufferedEntry, are_legal}
use Rattle.sg_machine.specs.Counts.{kept_offers, keeps_of, kept_of_inlet, as_kept, kept_of, flow_drops_of, KeepsOrder, WithinWindows}
use Rattle.sg_machine.proofs.CountLemmas.{keeps-order}
use Rattle.sg_machine.proofs.FlowLemmas.{mapped-some, flow_drops-none}
use Rattle.sg_machine.proofs.RunLemmas.{both-true, are_legal-parts}
use Rattle.sg_machine.proofs.WindowLaws.{within-opened, within-after_all}
use Rattle.sg_machine.specs.declared.setup.Setup.{Setup}
use Rattle.sg_machine.specs.Runs.{Opening, opened}
use Rattle.sg_laws.specs.Texts.{admissions_by, admissions_of, dropped_of, dropped_by, dropped_from, settled_behind, taken_from}
use Rattle.sg_laws.specs.Laws.{TextsAreTaken, StayWithin}
use Rattle.sg_laws.proofs.TextLemmas.{texts_in, texts-append, texts-claims, judged-lengths, TookTexts, took-none, took-claims, took-then, gives-texts}

-- One event.

took-if : (b : Bool) (frame : ℕ → Content → List ℕ) (d : ℕ) (ks : List BufferedEntry) (ms : List Bool) (records : List Admission) → TookTexts frame d ks ms (texts_in frame d records)
    → TookTexts frame d (if b then ks else []) (if b then ms else []) (texts_in frame d (if b then records else []))
took-if true frame d ks ms records t = t
took-if false frame d ks ms records t = took-none frame d

legal-one : (s : State) (e : Event) → is_legal s e ≡ true → are_legal s (e ∷ []) ≡ true
legal-one s e l = rw l refl

took-act : (frame : ℕ → Content → List ℕ) (i d : ℕ) (s : State) (act : Act) (failed : List ℕ) → is_legal_act s act failed ≡ true → TookTexts frame d (keeps_of i d act) (dropped_by i d act) (texts_in frame d (admissions_by i act))
took-act frame i d s (Admit j records vs) failed l =
    let cs = claims_of records in
    let answer = judged j (next_of s j) failed s.dests s.failed cs vs in
    let right = (both-true (passes_at s.inlets j (may_admit s j records)) (option_map_or (is_same_list (s.failed ++ failed)) answer false) l).1 in
    let x = mapped-some answer (is_same_list (s.failed ++ failed)) right in
    let all = judged-lengths j (next_of s j) failed s.dests s.failed cs vs x.0 x.1 in
    let one : Event = record { act = Admit j records vs; failed = failed } in
    let none = flow_drops-none s (one ∷ []) (legal-one s one l) in
    let flow : flow_drops_of cs vs ≡ 0 = omega (arith, none) in
    let t = took-claims frame d j cs vs all flow in
    took-if (j == i) frame d (kept_offers d j cs vs) (dropped_of d cs vs) records (subst (TookTexts frame d (kept_offers d j cs vs) (dropped_of d cs vs)) (texts-claims frame d 0 records) t)
took-act frame i d s (Settle e n) failed l = took-none frame d
took-act frame i d s (Refill e n) failed l = took-none frame d
took-act frame i d s (Store j w) failed l = took-none frame d
took-act frame i d s (Rewind j) failed l = took-none frame d
took-act frame i d s Look failed l = took-none frame d

-- All events.

took-events : (frame : ℕ → Content → List ℕ) (i d : ℕ) (s : State) (es : List Event) → are_legal s es ≡ true → TookTexts frame d (kept_of_inlet i d es) (dropped_from i d es) (texts_in frame d (admissions_of i es))
took-events frame i d s [] l = took-none frame d
took-events frame i d s (e ∷ es) l =
    let p = both-true (is_legal s e) (are_legal (after s e) es) l in
    let first = took-act frame i d s e.act e.failed p.0 in
    let rest = took-events frame i d (after s e) es p.1 in
    let both = took-then frame d (keeps_of i d e.act) (kept_of_inlet i d es) (dropped_by i d e.act) (dropped_from i d es) (texts_in frame d (admissions_by i e.act)) (texts_in frame d (admissions_of i es)) first rest in
    subst (TookTexts frame d (kept_of_inlet i d (e ∷ es)) (dropped_from i d (e ∷ es))) (sym (texts-append frame d (admissions_by i e.act) (admissions_of i es))) both

-- The entries that are settled behind those at first.

-- entries behind n of two lists, one behind the other
drop-two : (n : ℕ) (xs ys : List DestEntry) → drop n (xs ++ ys) ≡ drop n xs ++ drop (n - length xs) ys
drop-two zero xs ys = ap (λ k. xs ++ drop k ys) (let e : 0 ≡ 0 - length xs = omega arith in e)
drop-two (suc n) [] ys = ap (λ k. drop k ys) (let e : suc n ≡ suc n - 0 = omega arith in e)
drop-two (suc n) (x ∷ xs) ys = drop-two n xs ys ∙ ap (λ k. drop n xs ++ drop k ys) (let e : n - length xs ≡ suc n - suc (length xs) = omega arith in e)

filter-one : (i : ℕ) (b : Bool) (e : DestEntry) (es : List DestEntry) → (e.inlet == i) ≡ b → filter (λ (k : BufferedEntry). k.inlet == i) (map as_kept es) ≡ map as_kept (filter (λ (x : DestEntry). x.inlet == i) es)
    → filter (λ (k : BufferedEntry). k.inlet == i) (as_kept e ∷ map as_kept es) ≡ map as_kept (filter (λ (x : DestEntry). x.inlet == i) (e ∷ es))
filter-one i true e es h r = rw h (ap (λ ks. as_kept e ∷ ks) r)
filter-one i false e es h r = rw h r

filter-kept : (i : ℕ) (es : List DestEntry) → filter (λ (k : BufferedEntry). k.inlet == i) (map as_kept es) ≡ map as_kept (filter (λ (x : DestEntry). x.inlet == i) es)
filter-kept i [] = refl
filter-kept i (e ∷ es) = filter-one i (e.inlet == i) e es refl (filter-kept i es)

frames-kept : (frame : ℕ → Content → List ℕ) (d : ℕ) (es : List DestEntry) → map (λ (k : BufferedEntry). frame d k.message) (map as_kept es) ≡ map (λ (e : DestEntry). frame d e.message) es
frames-kept frame d [] = refl
frames-kept frame d (e ∷ es) = ap (λ fs. frame d e.message ∷ fs) (frames-kept frame d es)

-- what is left behind them
abbrev left_behind : Dest → Dest → List DestEntry
left_behind old new = drop (length (old.settled ++ old.left) - length new.settled) new.left

kept-behind : (old new : Dest) (later : List BufferedEntry) → kept_of new ≡ kept_of old ++ later → map as_kept (settled_behind old new) ++ map as_kept (left_behind old new) ≡ later
kept-behind old new later h =
    let n = length (old.settled ++ old.left) in
    let count : length (kept_of old) ≡ n = length-map (old.settled ++ old.left) as_kept in
    sym (map-append as_kept (settled_behind old new) (left_behind old new))
    ∙ ap (map as_kept) (sym (drop-two n new.settled new.left))
    ∙ sym (drop-map as_kept n (new.settled ++ new.left))
    ∙ ap (drop n) h
    ∙ ap (λ k. drop k (kept_of old ++ later)) (sym count)
    ∙ drop-append_seam (kept_of old) later

drop-none : (n : ℕ) → (let none : List DestEntry = [] in drop n none ≡ none)
drop-none zero = refl
drop-none (suc n) = refl

taken-rest : (frame : ℕ → Content → List ℕ) (i d : ℕ) (old new : Dest) (es : List Event) → KeepsOrder old new d es
    → (rest : List (List ℕ)) × (map (λ (k : BufferedEntry). frame d k.message) (kept_of_inlet i d es) ≡ taken_from frame i d old new ++ rest) × (new.left ≡ [] → rest ≡ [])
taken-rest frame i d old new es order =
    let f : BufferedEntry → List ℕ = λ k. frame d k.message in
    let p : BufferedEntry → Bool = λ k. k.inlet == i in
    let q : DestEntry → Bool = λ e. e.inlet == i in
    let xs = settled_behind old new in
    let ys = left_behind old new in (
      map f (filter p (map as_kept ys)),
      ap (map f) (sym (order.in_order i))
          ∙ ap (λ ks. map f (filter p ks)) (sym (kept-behind old new order.later order.behind))
          ∙ ap (map f) (filter-append p (map as_kept xs) (map as_kept ys))
          ∙ map-append f (filter p (map as_kept xs)) (filter p (map as_kept ys))
          ∙ ap (λ fs. fs ++ map f (filter p (map as_kept ys))) (ap (map f) (filter-kept i xs) ∙ frames-kept frame d (filter q xs)),
      λ none. ap (λ es. map f (filter p (map as_kept (drop (length (old.settled ++ old.left) - length new.settled) es)))) none ∙ ap (λ es. map f (filter p (map as_kept es))) (drop-none (length (old.settled ++ old.left) - length new.settled)),
    )

pub takes-texts : (offers : ℕ → Record → List Offer → Type 0) → TextsAreTaken offers
takes-texts offers frame start events spec done d old l are h =
    let order = keeps-order start events d old l h in
    let new = order.0 in
    let t = took-events frame spec.inlet d start events l in
    let taken = taken-rest frame spec.inlet d old new events order.2 in (
      new,
      (
        order.1,
        record {
          texts = texts_in frame d (admissions_of spec.inlet events);
          given = gives-texts offers frame spec d done (admissions_of spec.inlet events) are;
          takes = record { dropped = dropped_from spec.inlet d events; rest = taken.0; each = t.each; unflowed = t.unflowed; first = sym t.frames ∙ taken.1 };
          verdicts = refl;
          all = taken.2;
        },
      ),
    )

-- Windows.

pub stay-within : (start : State) (events : List Event) → WithinWindows start → are_legal start events ≡ true → StayWithin start events
stay-within start events w l before later e =
    let parts = are_legal-parts start before later (ap (are_legal start) (sym e) ∙ l) in
    within-after_all start before w parts.0

pub opened-within : (setup : Setup) (opening : Opening) (events : List Event) → are_legal (opened setup opening) events ≡ true → StayWithin (opened setup opening) events
opened-within setup opening events l = stay-within (opened setup opening) events (within-opened setup opening) l
