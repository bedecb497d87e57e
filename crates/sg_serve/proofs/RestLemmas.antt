-- What is left of the ways out, from what their finish answers.
use Rattle.std.proofs.Common.{◌≡◌, ℕ, ◌+◌, ◌-◌, ◌^◌, min, Bool, true, false, List, [], ◌∷◌, ◌++◌, length, map, Some, None, Option, refl, sym, ap, ◌∙◌, arith}
use Rattle.std.specs.Prelude.{IfSome, is_some}
use Rattle.sg_device.specs.Disk.{DiskState, EachNow}
use Rattle.sg_device.specs.Outlet.{OutletState}
use Rattle.sg_device.specs.Paths.{PathsState}
use Rattle.sg_overflow.specs.Buffered.{HeldState, held_state, FinishesAs, IsToldBy}
use Rattle.sg_overflow.specs.Finishing.{Finishes}
use Rattle.sg_overflow.specs.Line.{AreStored}
use Rattle.sg_overflow.specs.View.{OverflowView, held_of, held_count, IsHeldTold}
use Rattle.sg_overflow.specs.declared.answers.Finished.{Finished}
use Rattle.sg_overflow.specs.declared.answers.Finished.TheVariants.{Empty, Outlet, Store}
use Rattle.sg_overflow.specs.declared.buffered.Buffered.{Buffered}
use Rattle.sg_overflow.specs.declared.buffered.Buffered.TheVariants.{Direct, Overflow}
use Rattle.sg_run_plan.specs.declared.outlet.OutletPlan.{OutletPlan}
use Rattle.sg_run_plan.specs.declared.overflow.OverflowPlan.{OverflowPlan}
use Rattle.sg_serve.specs.Exits.{Out, exit_of, out_of}
use Rattle.sg_serve.specs.Overflows.{IsHeldAsked, AreHeldAsked, IsHeldFinished, IsFinishedOut, AreFinishedOuts, is_refused, AllFinish, AreFinished, AreRests, held_from, failed_from}
use Rattle.sg_serve.specs.declared.counts.Counts.{Counts}
use Rattle.sg_serve.specs.declared.exit.Exit.{Exit}

each-some : {A : Type 0} (o : Option A) (P : A → Type 0) → ((a : A) → o ≡ Some a → P a) → IfSome o P
each-some None P each = tt
each-some (Some a) P each = each a refl

number-some : (o : Option (List (List ℕ))) (n : ℕ) → IfSome o (λ frames. length frames ≡ n) → IfSome o (λ frames. min (length frames) (2 ^ 64 - 1) ≡ min n (2 ^ 64 - 1))
number-some None n is = tt
number-some (Some frames) n is = ap (λ (k : ℕ). min k (2 ^ 64 - 1)) is

module _ {D P S : Type 0} (drain : D → OutletState) (paths : P → PathsState) (disk : S → DiskState) where
  -- one that holds frames back
  finished-view : (old new : OverflowView (Exit D P) S) (f : Finished) → Finishes (exit_of drain paths) disk old new f → IsHeldTold disk new.held
      → IsHeldFinished (out_of drain paths disk (Overflow new)) (record { frames = held_of disk new.held; count = min (held_count new.held) (2 ^ 64 - 1); failed = new.held.store.closed }) (is_refused f)
  finished-view old new Empty (none, memory, saved) told = record {
    number = number-some (held_of disk new.held) (held_count new.held) told.count;
    saved = λ works. each-some (held_of disk new.held) (λ frames. EachNow (disk new.held.store.disk) (AreStored frames)) (saved works);
    empty = λ not works. (let size : length new.held.memory ≡ 0 = ap length memory in omega (arith, none, size));
    some = λ is. absurd (let no : false ≡ true = is in cc);
    blamed = λ is. (disk new.held.store.disk, refl, told.blamed is);
  }
  finished-view old new Outlet (stored, memory, works, saved, refused) told = record {
    number = number-some (held_of disk new.held) (held_count new.held) told.count;
    saved = λ is. each-some (held_of disk new.held) (λ frames. EachNow (disk new.held.store.disk) (AreStored frames)) saved;
    empty = λ is. absurd (let no : true ≡ false = is in cc);
    some = λ is. (omega (arith, stored), works, omega (arith, refused.number, refused.failed, refused.waited));
    blamed = λ is. (disk new.held.store.disk, refl, told.blamed is);
  }
  finished-view old new Store (closed, cause, some) told = record {
    number = number-some (held_of disk new.held) (held_count new.held) told.count;
    saved = λ works. absurd (let no : true ≡ false = sym closed ∙ works in cc);
    empty = λ is works. absurd (let no : true ≡ false = sym closed ∙ works in cc);
    some = λ is. absurd (let no : false ≡ true = is in cc);
    blamed = λ is. (disk new.held.store.disk, refl, told.blamed is);
  }

  finished-way : (old new : Buffered (Exit D P) S) (f : Finished) → FinishesAs (exit_of drain paths) disk old new f → IsToldBy disk new → IsFinishedOut (out_of drain paths disk new) (held_state disk new) (is_refused f)
  finished-way (Direct old) (Direct new) f (same, empty) told = ap is_refused empty
  finished-way (Direct old) (Overflow new) f h told = absurd h
  finished-way (Overflow old) (Direct new) f h told = absurd h
  finished-way (Overflow old) (Overflow new) f h told = finished-view old new f h told

  finished-ways : (olds news : List (Buffered (Exit D P) S)) (finished : List Finished) → AllFinish (exit_of drain paths) disk olds news finished → AreFinishedOuts (map (out_of drain paths disk) news) (map is_refused finished)
  finished-ways [] [] [] h = tt
  finished-ways [] [] (f ∷ fs) h = absurd h
  finished-ways [] (n ∷ ns) fs h = absurd h
  finished-ways (o ∷ os) [] fs h = absurd h
  finished-ways (o ∷ os) (n ∷ ns) [] h = absurd h
  finished-ways (o ∷ os) (n ∷ ns) (f ∷ fs) (h, told, hs) = (finished-way o n f h told, finished-ways os ns fs hs)

  asked-one : (overflow : Option OverflowPlan) (held : Option HeldState) → is_some overflow ≡ is_some held → IsHeldAsked overflow held
  asked-one None None same = tt
  asked-one None (Some held) same = absurd (let no : false ≡ true = same in cc)
  asked-one (Some plan) None same = absurd (let no : true ≡ false = same in cc)
  asked-one (Some plan) (Some held) same = tt

  head-same : {A : Type 0} (a b : A) (as' bs : List A) → a ∷ as' ≡ b ∷ bs → (a ≡ b) × (as' ≡ bs)
  head-same a b as' bs is =
      let both : (a ∷ as') ≡ (b ∷ bs) = is in
      let first : a ≡ b = cc in
      let rest : as' ≡ bs = cc in
      (first, rest)

  asked-ways : (plans : List OutletPlan) (ways : List (Buffered (Exit D P) S)) → map (λ (plan : OutletPlan). is_some plan.overflow) plans ≡ map (λ (way : Buffered (Exit D P) S). is_some (held_state disk way)) ways
      → AreHeldAsked plans (map (out_of drain paths disk) ways)
  asked-ways [] [] same = tt
  asked-ways [] (w ∷ ws) same = absurd (let no : [] ≡ (is_some (held_state disk w) ∷ map (λ (way : Buffered (Exit D P) S). is_some (held_state disk way)) ws) = same in cc)
  asked-ways (p ∷ ps) [] same = absurd (let no : (is_some p.overflow ∷ map (λ (plan : OutletPlan). is_some plan.overflow) ps) ≡ [] = same in cc)
  asked-ways (p ∷ ps) (w ∷ ws) same =
      let both = head-same (is_some p.overflow) (is_some (held_state disk w)) (map (λ (plan : OutletPlan). is_some plan.overflow) ps) (map (λ (way : Buffered (Exit D P) S). is_some (held_state disk way)) ws) same in
      (asked-one p.overflow (held_state disk w) both.0, asked-ways ps ws both.1)

  held-map : (ways : List (Buffered (Exit D P) S)) → map (λ (out : Out). out.held) (map (out_of drain paths disk) ways) ≡ map (held_state disk) ways
  held-map [] = refl
  held-map (w ∷ ws) = ap (λ (hs : List (Option HeldState)). held_state disk w ∷ hs) (held-map ws)

  pub rests-ways : (once : Bool) (first : ℕ) (plans : List OutletPlan) (olds news : List (Buffered (Exit D P) S)) (asked : List Bool) (counts : Counts) → asked ≡ map (λ (plan : OutletPlan). is_some plan.overflow) plans
      → AreFinished (exit_of drain paths) disk olds news asked counts.sinks counts.stores first once counts.rests → AreRests once first plans (map (out_of drain paths disk) news) counts
  rests-ways once first plans olds news asked counts are f = record {
    refused = map is_refused f.finished;
    asked = asked-ways plans news (sym are ∙ f.asked_are);
    finished = finished-ways olds news f.finished f.finish;
    held = f.held ∙ ap (λ (hs : List (Option HeldState)). held_from 0 hs) (sym (held-map news));
    sinks = f.sinks;
    stores = f.stores ∙ ap (λ (hs : List (Option HeldState)). counts.stores ++ failed_from first hs) (sym (held-map news));
  }
