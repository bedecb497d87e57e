-- What is left of held frames at the end of a run has its cause.
use Rattle.std.proofs.Common.{◌≡◌, ◌⊎◌, inl, inr, ◌≤◌, ◌<◌, ℕ, zero, suc, ◌+◌, Bool, true, false, List, [], ◌∷◌, ◌++◌, Option, Some, None, map, length, take, slice_get, refl, sym, ap, ◌∙◌, subst, arith}
use Rattle.std.proofs.lemmas.Grind.{common_steps}
use Rattle.std.proofs.lemmas.List.{length-map}
use Rattle.std.specs.Prelude.{◌==◌, ◌||◌, ◌&&◌, if◌then◌else◌}
use Rattle.sg_list.proofs.ListLemmas.{some-same, slice_get-below}
use Rattle.sg_device.specs.Disk.{DiskState}
use Rattle.sg_overflow.specs.Buffered.{HeldState}
use Rattle.sg_device.specs.Inlet.{InletState}
use Rattle.sg_device.specs.Outlet.{OutletState}
use Rattle.sg_outside.specs.World.{WorldState, Files}
use Rattle.sg_msg.specs.declared.offer.Offer.{Offer}
use Rattle.sg_frame.specs.Records.{Record}
use Rattle.sg_actor.specs.declared.dest.DestActor.{DestActor}
use Rattle.sg_turns.specs.declared.ended.Ended.{Ended}
use Rattle.sg_laws.proofs.FailingLemmas.{marked}
use Rattle.sg_serve.specs.Counts.{gave_up_outlet, numbers_from, first_fault}
use Rattle.sg_serve.specs.declared.counts.Fault.TheVariants.{Sink, Disk, Inlet as InletFault}
use Rattle.sg_serve.specs.Exits.{Out, present}
use Rattle.sg_serve.specs.Overflows.{IsFinishedOut, AreFinishedOuts, AreHeldAsked, AreRests, held_at, held_from, failed_from, is_among, sinks_from}
use Rattle.sg_serve.specs.Run.{CoreRun, Reached, RoseAt, PlanRunHolds, RunsWith}
use Rattle.sg_serve.specs.declared.counts.Counts.{Counts}
use Rattle.sg_serve.specs.declared.ending.PlanEnded.TheVariants.{Ran}
use Rattle.sg_run_plan.specs.declared.outlet.OutletPlan.{OutletPlan}
use Rattle.sg_run_plan.specs.declared.plan.RunPlan.{RunPlan}
use Rattle.sg_run.specs.Causes.{FailsThrice, IsHeldFor, HasFailedBehind, RestsAreDue}

no-item : {A : Type 0} (a : A) → None ≡ Some a → ⊥
no-item a is = let wrong : None ≡ Some a = is in cc

-- a number that is among others
same-number : (n m : ℕ) → (n == m) ≡ true → n ≡ m
same-number n m is = grind (arith, common_steps, is)

among-either : (n m : ℕ) (first : Bool) (ms : List ℕ) → (n == m) ≡ first → (first || is_among n ms) ≡ true → (n ≡ m) ⊎ (is_among n ms ≡ true)
among-either n m true ms same is = inl (same-number n m same)
among-either n m false ms same is = inr is

among-at : (n : ℕ) (ms : List ℕ) → is_among n ms ≡ true → (k : ℕ) × (slice_get ms k ≡ Some n)
among-at n [] is = absurd (let wrong : false ≡ true = is in cc)
among-at n (m ∷ ms) is = elim (among-either n m (n == m) ms refl is) [
  | inl same ↦ (0, ap Some (sym same))
  | inr rest ↦ (let r = among-at n ms rest in (suc r.0, r.1))
]

-- where a destination is told: it was given up, or with an end of the run its outlet refused what was held
data SinkCause (gone : List ℕ) (once : Bool) (refused : Bool) (d : ℕ) : Type 0 where
  Gone : (k : ℕ) → slice_get gone k ≡ Some d → SinkCause gone once refused d
  Refused : once ≡ true → refused ≡ true → SinkCause gone once refused d

sink-cause : (gone : List ℕ) (once refused : Bool) (d : ℕ) (among : Bool) → is_among d gone ≡ among → (among || (once && refused)) ≡ true → SinkCause gone once refused d
sink-cause gone once refused d true same is = let r = among-at d gone same in Gone r.0 r.1
sink-cause gone true true d false same is = Refused refl refl
sink-cause gone true false d false same is = absurd (let wrong : false ≡ true = is in cc)
sink-cause gone false refused d false same is = absurd (let wrong : false ≡ true = is in cc)

abbrev SinkAt : ℕ → List ℕ → Bool → List Bool → ℕ → Type 0
SinkAt n gone once refused d = (j : ℕ) × (r : Bool) × (d ≡ n + j) × (slice_get refused j ≡ Some r) × SinkCause gone once r d

sinks-later : (n : ℕ) (gone : List ℕ) (once r : Bool) (rs : List Bool) (d : ℕ) → SinkAt (n + 1) gone once rs d → SinkAt n gone once (r ∷ rs) d
sinks-later n gone once r rs d x = (suc x.0, x.1, omega (arith, x.2), x.3, x.4)

sinks-step : (n : ℕ) (gone : List ℕ) (once r : Bool) (rs : List Bool) (k d : ℕ) (marked : Bool) → (is_among n gone || (once && r)) ≡ marked
    → ((i : ℕ) → slice_get (sinks_from (n + 1) gone once rs) i ≡ Some d → SinkAt (n + 1) gone once rs d)
    → slice_get (if marked then n ∷ sinks_from (n + 1) gone once rs else sinks_from (n + 1) gone once rs) k ≡ Some d → SinkAt n gone once (r ∷ rs) d
sinks-step n gone once r rs zero d true is later h =
    let same : n ≡ d = some-same n d h in
    (0, r, omega (arith, same), refl, subst (λ (m : ℕ). SinkCause gone once r m) same (sink-cause gone once r n (is_among n gone) refl is))
sinks-step n gone once r rs (suc k) d true is later h = sinks-later n gone once r rs d (later k h)
sinks-step n gone once r rs k d false is later h = sinks-later n gone once r rs d (later k h)

sinks-at : (n : ℕ) (gone : List ℕ) (once : Bool) (refused : List Bool) (k d : ℕ) → slice_get (sinks_from n gone once refused) k ≡ Some d → SinkAt n gone once refused d
sinks-at n gone once [] k d h = absurd (no-item d h)
sinks-at n gone once (r ∷ rs) k d h = sinks-step n gone once r rs k d (is_among n gone || (once && r)) refl (λ i at. sinks-at (n + 1) gone once rs i d at) h

-- what is told of one
finished-at : (outs : List Out) (refused : List Bool) (j : ℕ) (r : Bool) → AreFinishedOuts outs refused → slice_get refused j ≡ Some r → (out : Out) × (slice_get outs j ≡ Some out) × IsFinishedOut out out.held r
finished-at [] [] j r f at = absurd (no-item r at)
finished-at [] (q ∷ qs) j r f at = absurd f
finished-at (o ∷ os) [] j r f at = absurd f
finished-at (o ∷ os) (q ∷ qs) zero r f at = (o, refl, subst (λ (x : Bool). IsFinishedOut o o.held x) (some-same q r at) f.0)
finished-at (o ∷ os) (q ∷ qs) (suc j) r f at = finished-at os qs j r f.1 at

-- its row, and one behind another one
held-row-behind : (n : ℕ) (first : Option HeldState) (os : List Out) (j : ℕ) {count : ℕ} → (k : ℕ) × (slice_get (held_from (n + 1) (map (λ (o : Out). o.held) os)) k ≡ Some (n + 1 + j, count))
    → (k : ℕ) × (slice_get (held_at n first ++ held_from (n + 1) (map (λ (o : Out). o.held) os)) k ≡ Some (n + suc j, count))
held-row-behind n None os j {count} (k, at) = (let same : n + 1 + j ≡ n + suc j = omega arith in (k, at ∙ ap (λ (m : ℕ). Some (m, count)) same))
held-row-behind n (Some held) os j {count} (k, at) = (let same : n + 1 + j ≡ n + suc j = omega arith in (suc k, at ∙ ap (λ (m : ℕ). Some (m, count)) same))

held-row : (n : ℕ) (outs : List Out) (j : ℕ) (out : Out) (held : HeldState) → slice_get outs j ≡ Some out → out.held ≡ Some held → (k : ℕ) × (slice_get (held_from n (map (λ (o : Out). o.held) outs)) k ≡ Some (n + j, held.count))
held-row n [] j out held at has = absurd (no-item out at)
held-row n (o ∷ os) zero out held at has =
    let here : o.held ≡ Some held = ap (λ (x : Out). x.held) (some-same o out at) ∙ has in
    let first : n ≡ n + 0 = omega arith in
    (0, ap (λ (h : Option HeldState). slice_get (held_at n h ++ held_from (n + 1) (map (λ (x : Out). x.held) os)) 0) here ∙ ap (λ (m : ℕ). Some (m, held.count)) first)
held-row n (o ∷ os) (suc j) out held at has = held-row-behind n o.held os j (held-row (n + 1) os j out held at has)

-- an item of two lists
of-two : (xs ys : List ℕ) (k s : ℕ) → slice_get (xs ++ ys) k ≡ Some s → (slice_get xs k ≡ Some s) ⊎ ((j : ℕ) × (slice_get ys j ≡ Some s))
of-two [] ys k s at = inr (k, at)
of-two (x ∷ xs) ys zero s at = inl at
of-two (x ∷ xs) ys (suc k) s at = of-two xs ys k s at

-- a store that failed
abbrev FailedAt : ℕ → List Out → ℕ → Type 0
FailedAt n outs s = (j : ℕ) × (out : Out) × (held : HeldState) × (slice_get outs j ≡ Some out) × (out.held ≡ Some held) × (held.failed ≡ true)
    × (s ≡ n + length (present (map (λ (o : Out). o.held) (take j outs))))

failed-more : (n : ℕ) (o : Out) (os : List Out) (held : HeldState) (s : ℕ) → o.held ≡ Some held → FailedAt (n + 1) os s → FailedAt n (o ∷ os) s
failed-more n o os held s is r =
    let count : length (present (o.held ∷ map (λ (x : Out). x.held) (take r.0 os))) ≡ suc (length (present (map (λ (x : Out). x.held) (take r.0 os)))) =
    ap (λ (x : Option HeldState). length (present (x ∷ map (λ (y : Out). y.held) (take r.0 os)))) is in
    (suc r.0, r.1, r.2, r.3, r.4, r.5, omega (arith, r.6, count))

failed-one : (n : ℕ) (o : Out) (os : List Out) (k s : ℕ) (held : HeldState) (failed : Bool) → o.held ≡ Some held → held.failed ≡ failed
    → ((i : ℕ) → slice_get (failed_from (n + 1) (map (λ (x : Out). x.held) os)) i ≡ Some s → FailedAt (n + 1) os s)
    → slice_get (if failed then n ∷ failed_from (n + 1) (map (λ (x : Out). x.held) os) else failed_from (n + 1) (map (λ (x : Out). x.held) os)) k ≡ Some s → FailedAt n (o ∷ os) s
failed-one n o os zero s held true is mark later h = (let same : n ≡ s = some-same n s h in (0, o, held, refl, is, mark, omega (arith, same)))
failed-one n o os (suc k) s held true is mark later h = failed-more n o os held s is (later k h)
failed-one n o os k s held false is mark later h = failed-more n o os held s is (later k h)

failed-step : (n : ℕ) (o : Out) (os : List Out) (k s : ℕ) (held : Option HeldState) → o.held ≡ held → ((m i : ℕ) → slice_get (failed_from m (map (λ (x : Out). x.held) os)) i ≡ Some s → FailedAt m os s)
    → slice_get (failed_from n (held ∷ map (λ (x : Out). x.held) os)) k ≡ Some s → FailedAt n (o ∷ os) s
failed-step n o os k s None is later h =
    let r = later n k h in
    (suc r.0, r.1, r.2, r.3, r.4, r.5, r.6 ∙ ap (λ (x : Option HeldState). n + length (present (x ∷ map (λ (y : Out). y.held) (take r.0 os)))) (sym is))
failed-step n o os k s (Some held) is later h = failed-one n o os k s held held.failed is refl (λ i at. later (n + 1) i at) h

failed-at : (n : ℕ) (outs : List Out) (k s : ℕ) → slice_get (failed_from n (map (λ (o : Out). o.held) outs)) k ≡ Some s → FailedAt n outs s
failed-at n [] k s h = absurd (no-item s h)
failed-at n (o ∷ os) k s h = failed-step n o os k s o.held refl (λ m i at. failed-at m os i s at) h

-- all has its cause
module _ (plan : RunPlan) (reached : Reached) (counts : Counts) (rests : AreRests plan.once (length plan.stores.items) plan.outlets.items reached.outs_closed counts)
    (sinks : (k d : ℕ) → slice_get counts.sinks k ≡ Some d → FailsThrice plan reached.outlets reached.outlets_closed d) (stores : (k s : ℕ) → slice_get counts.stores k ≡ Some s → RoseAt reached.stores reached.stores_closed s) where
  held-for : (d : ℕ) (out : Out) (held : Option HeldState) → out.held ≡ held → slice_get reached.outs_closed d ≡ Some out → plan.once ≡ true → IsFinishedOut out held true → IsHeldFor plan reached counts.rests.held d
  held-for d out None has at once f = absurd (let wrong : true ≡ false = f in cc)
  held-for d out (Some held) has at once f =
      let some = f.some refl in
      let row = held-row 0 reached.outs_closed d out held at has in
      let number : 0 + d ≡ d = omega arith in
      record {
        once = once;
        frames = held.count;
        some = some.0;
        place = row.0;
        there = ap (λ (hs : List (ℕ × ℕ)). slice_get hs row.0) rests.held ∙ row.1 ∙ ap (λ (m : ℕ). Some (m, held.count)) number;
        out = out;
        is = at;
        held = held;
        has = has;
        refused = some.2;
      }

  sink-by : (d : ℕ) (r : Bool) (out : Out) → slice_get reached.outs_closed d ≡ Some out → IsFinishedOut out out.held r → SinkCause counts.sinks plan.once r d
      → FailsThrice plan reached.outlets reached.outlets_closed d ⊎ IsHeldFor plan reached counts.rests.held d
  sink-by d r out at f (Gone k h) = inl (sinks k d h)
  sink-by d r out at f (Refused once is) = inr (held-for d out out.held refl at once (subst (λ (x : Bool). IsFinishedOut out out.held x) is f))

  pub rests-due : RestsAreDue plan reached counts.rests
  rests-due = record {
    sinks = λ k d h. (
        let x = sinks-at 0 counts.sinks plan.once rests.refused k d (ap (λ (ss : List ℕ). slice_get ss k) (sym rests.sinks) ∙ h) in
        let same : d ≡ x.0 = omega (arith, x.2) in
        let o = finished-at reached.outs_closed rests.refused x.0 x.1 rests.finished x.3 in
        sink-by d x.1 o.0 (ap (λ (m : ℕ). slice_get reached.outs_closed m) same ∙ o.1) o.2 x.4);
    stores = λ k s h. store-by k s (of-two counts.stores (failed_from (length plan.stores.items) (map (λ (o : Out). o.held) reached.outs_closed)) k s (ap (λ (ss : List ℕ). slice_get ss k) (sym rests.stores) ∙ h));
  }
    where
      behind-by : (s : ℕ) (out : Out) (held : HeldState) (r : Bool) (d : ℕ) → slice_get reached.outs_closed d ≡ Some out → IsFinishedOut out (Some held) r → held.failed ≡ true
          → s ≡ length plan.stores.items + length (present (map (λ (o : Out). o.held) (take d reached.outs_closed))) → HasFailedBehind plan reached s
      behind-by s out held r d at f failed number =
          let b = f.blamed failed in
          record { d = d; number = number; out = out; is = at; store = b.0; has = b.1; failed = b.2 }

      of-out : (outs : List Out) (refused : List Bool) (j : ℕ) (out : Out) → AreFinishedOuts outs refused → slice_get outs j ≡ Some out → (r : Bool) × IsFinishedOut out out.held r
      of-out [] refused j out f at = absurd (no-item out at)
      of-out (o ∷ os) [] j out f at = absurd f
      of-out (o ∷ os) (q ∷ qs) zero out f at = (q, subst (λ (x : Out). IsFinishedOut x x.held q) (some-same o out at) f.0)
      of-out (o ∷ os) (q ∷ qs) (suc j) out f at = of-out os qs j out f.1 at

      store-by : (k s : ℕ) → (slice_get counts.stores k ≡ Some s) ⊎ ((j : ℕ) × (slice_get (failed_from (length plan.stores.items) (map (λ (o : Out). o.held) reached.outs_closed)) j ≡ Some s))
          → RoseAt reached.stores reached.stores_closed s ⊎ HasFailedBehind plan reached s
      store-by k s (inl core) = inl (stores k s core)
      store-by k s (inr (j, h)) =
          let x = failed-at (length plan.stores.items) reached.outs_closed j s h in
          let f = of-out reached.outs_closed rests.refused x.0 x.1 rests.finished x.3 in
          inr (behind-by s x.1 x.2 f.0 x.0 x.3 (subst (λ (o : Option HeldState). IsFinishedOut x.1 o f.0) x.4 f.1) x.5 x.6)

-- Where nothing is told to have failed, nothing of the core's is.

no-fault : (sinks stores inlets : List ℕ) → first_fault sinks stores inlets ≡ None → (sinks ≡ []) × (stores ≡ []) × (inlets ≡ [])
no-fault [] [] [] none = (refl, refl, refl)
no-fault (d ∷ ds) stores inlets none = absurd (let wrong : Some (Sink d) ≡ None = none in cc)
no-fault [] (s ∷ ss) inlets none = absurd (let wrong : Some (Disk s) ≡ None = none in cc)
no-fault [] [] (i ∷ is) none = absurd (let wrong : Some (InletFault i) ≡ None = none in cc)

left-false : (a b : Bool) → (a || b) ≡ false → a ≡ false
left-false true b is = is
left-false false b is = refl

gone-step : (n : ℕ) (gone : List ℕ) (once r : Bool) (rs : List Bool) (marked : Bool) → (is_among n gone || (once && r)) ≡ marked
    → (if marked then n ∷ sinks_from (n + 1) gone once rs else sinks_from (n + 1) gone once rs) ≡ [] → (is_among n gone ≡ false) × (sinks_from (n + 1) gone once rs ≡ [])
gone-step n gone once r rs true is none = absurd (let wrong : (n ∷ sinks_from (n + 1) gone once rs) ≡ [] = none in cc)
gone-step n gone once r rs false is none = (left-false (is_among n gone) (once && r) is, none)

gone-none : (n : ℕ) (gone : List ℕ) (once : Bool) (refused : List Bool) (j : ℕ) → sinks_from n gone once refused ≡ [] → j < length refused → is_among (n + j) gone ≡ false
gone-none n gone once [] j none less = absurd (omega (arith, less))
gone-none n gone once (r ∷ rs) zero none less =
    let x = gone-step n gone once r rs (is_among n gone || (once && r)) refl none in
    let same : n + 0 ≡ n = omega arith in
    ap (λ (m : ℕ). is_among m gone) same ∙ x.0
gone-none n gone once (r ∷ rs) (suc j) none less =
    let x = gone-step n gone once r rs (is_among n gone || (once && r)) refl none in
    let same : n + suc j ≡ n + 1 + j = omega arith in
    ap (λ (m : ℕ). is_among m gone) same ∙ gone-none (n + 1) gone once rs j x.1 (omega (arith, less))

same-self : (n : ℕ) → (n == n) ≡ true
same-self n = grind (arith, common_steps)

among-first : (n : ℕ) (ns : List ℕ) → is_among n (n ∷ ns) ≡ true
among-first n ns = ap (λ (b : Bool). b || is_among n ns) (same-self n)

finished-many : (outs : List Out) (refused : List Bool) → AreFinishedOuts outs refused → length refused ≡ length outs
finished-many [] [] f = refl
finished-many [] (r ∷ rs) f = absurd f
finished-many (o ∷ os) [] f = absurd f
finished-many (o ∷ os) (r ∷ rs) f = ap suc (finished-many os rs f.1)

asked-many : (plans : List OutletPlan) (outs : List Out) → AreHeldAsked plans outs → length outs ≡ length plans
asked-many [] [] a = refl
asked-many [] (o ∷ os) a = absurd a
asked-many (p ∷ ps) [] a = absurd a
asked-many (p ∷ ps) (o ∷ os) a = ap suc (asked-many ps os a.1)

-- destinations that were given up are told
none-gone : (gone : List ℕ) (marks : List Bool) (once : Bool) (refused : List Bool) → gone ≡ numbers_from 0 marks → length marks ≡ length refused → sinks_from 0 gone once refused ≡ [] → gone ≡ []
none-gone [] marks once refused are many none = refl
none-gone (g ∷ gs) marks once refused are many none =
    let m = marked 0 0 g marks (ap (λ (ns : List ℕ). slice_get ns 0) (sym are)) in
    let low = slice_get-below marks m.0 true m.1.0 in
    let there = gone-none 0 (g ∷ gs) once refused m.0 none (omega (arith, low, many)) in
    let same : 0 + m.0 ≡ g = (let at = m.1.1 in omega (arith, at)) in
    absurd (let wrong : true ≡ false = sym (among-first g gs) ∙ (ap (λ (n : ℕ). is_among n (g ∷ gs)) (sym same) ∙ there) in cc)

front-none : (xs ys : List ℕ) → xs ++ ys ≡ [] → xs ≡ []
front-none [] ys none = refl
front-none (x ∷ xs) ys none = absurd (let wrong : (x ∷ (xs ++ ys)) ≡ [] = none in cc)

module _ {R I O : Type 0} (feed : I → InletState) (drain : O → OutletState) (offers : R → ℕ → Record → List Offer → Type 0) (inlets dests : R → ℕ) (files : Option Files) (plan : RunPlan) (routers : List R) (rounds : ℕ) (reached : Reached)
    (ended : Ended) (counts : Counts) where
  core-clean-of : (core : Option CoreRun) → PlanRunHolds feed drain offers inlets dests files plan routers rounds reached core (Ran ended (Some counts)) → first_fault counts.rests.sinks counts.rests.stores counts.inlets ≡ None
      → first_fault counts.sinks counts.stores counts.inlets ≡ None
  core-clean-of None holds none = absurd holds
  core-clean-of (Some run) (holds, served) none =
      let no = no-fault counts.rests.sinks counts.rests.stores counts.inlets none in
      let rests = served.rests in
      let runs = served.runs in
      let marks = map (λ (a : DestActor O). gave_up_outlet a.outage.given_up) runs.dests_then in
      let took = (runs.serves).took in
      let first : length runs.dests_first ≡ length plan.outlets.items = sym (length-map runs.dests_first (λ (x : DestActor O). drain x.outlet)) ∙ (ap (λ os. length os) runs.outlets_opened ∙ served.all_outlets) in
      let many : length marks ≡ length rests.refused =
      length-map runs.dests_then (λ (a : DestActor O). gave_up_outlet a.outage.given_up)
      ∙ (let n = took.all_dests in let a = finished-many reached.outs_closed rests.refused rests.finished in let b = asked-many plan.outlets.items reached.outs_closed rests.asked in omega (arith, n, a, b, first)) in
      let sinks = none-gone counts.sinks marks plan.once rests.refused ((runs.counted).sinks) many (sym rests.sinks ∙ no.0) in
      let stores = front-none counts.stores (failed_from (length plan.stores.items) (map (λ (o : Out). o.held) reached.outs_closed)) (sym rests.stores ∙ no.1) in
      ap (λ (ss : List ℕ). first_fault ss counts.stores counts.inlets) sinks ∙ ap (λ (ss : List ℕ). first_fault [] ss counts.inlets) stores ∙ ap (λ (is : List ℕ). first_fault [] [] is) no.2

pub core-clean : {R I O : Type 0} (feed : I → InletState) (drain : O → OutletState) (offers : R → ℕ → Record → List Offer → Type 0) (inlets dests : R → ℕ) (old new : WorldState) (plan : RunPlan) (routers : List R) (rounds : ℕ) (reached : Reached)
    (ended : Ended) (counts : Counts) → RunsWith feed drain offers inlets dests old new plan routers rounds (Ran ended (Some counts)) reached → first_fault counts.rests.sinks counts.rests.stores counts.inlets ≡ None
    → first_fault counts.sinks counts.stores counts.inlets ≡ None
core-clean feed drain offers inlets dests old new plan routers rounds reached ended counts runs none =
    core-clean-of feed drain offers inlets dests old.files plan routers rounds reached ended counts reached.core runs.holds none
