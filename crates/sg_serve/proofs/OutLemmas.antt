-- Lemmas on lists of ways out: none, closings, and what is left of them.
use Rattle.std.proofs.Common.{◌≡◌, ◌≤◌, ◌+◌, ℕ, Bool, List, [], ◌∷◌, ◌++◌, map, Some, None, Option, append_assoc, refl, sym, ap, ◌∙◌, arith, subst}
use Rattle.std.specs.Prelude.{IfSome, option_map}
use Rattle.std.proofs.lemmas.List.{map-append}
use Rattle.sg_device.specs.Disk.{DiskState, EachNow}
use Rattle.sg_device.specs.Outlet.{OutletState}
use Rattle.sg_device.specs.Paths.{PathsState}
use Rattle.sg_dynfile.specs.View.{outlet_of, LieUnderPaths}
use Rattle.sg_outside.specs.World.{WorldState, with_closed, ClosesStore}
use Rattle.sg_outside.specs.declared.request.OutletSpec.{OutletSpec}
use Rattle.sg_outside.specs.declared.request.StoreSpec.{StoreSpec}
use Rattle.sg_serve.specs.Devices.{with_all_opened, with_all_closed, OpensOuts, ClosesOutlets}
use Rattle.sg_serve.specs.Exits.{Out, OnlyFails, exit_of, opener_in, parts_out, inners_in, openers_in, stores_in, outlets_in, singles, present, LeavesOpener, IsLeft, ClosesExit, AreLeft, AllLie}
use Rattle.sg_overflow.specs.Buffered.{HeldState}
use Rattle.sg_overflow.specs.Line.{AreStored}
use Rattle.sg_run_plan.specs.declared.outlet.OutletPlan.{OutletPlan}
use Rattle.sg_serve.specs.Overflows.{WayAddsUp, IsWayWhole, AreWaysWhole, IsHeldAsked, AreHeldAsked, IsHeldFinished, IsFinishedOut, AreFinishedOuts, held_from, failed_from, AreRests}
use Rattle.sg_serve.specs.declared.counts.Counts.{Counts}
use Rattle.sg_serve.specs.declared.exit.Exit.{Exit}
use Rattle.sg_serve.specs.declared.exit.Exit.TheVariants.{One, ByPath}
use Rattle.sg_serve.specs.declared.way.Parts.{Parts}
use Rattle.sg_serve.proofs.DeviceLemmas.{opened-none, closed-none, closed-join}

-- None.

-- nothing was opened, and only counts of faults changed
pub outs-kept : (old new : WorldState) (specs : List OutletSpec) (stores : List (Option StoreSpec)) → OnlyFails old new → OpensOuts old new specs stores []
outs-kept old new specs stores h =
    let count : new.store_faults ≡ old.store_faults = ap (λ (w : WorldState). w.store_faults) h.0 in
    let names : new.store_names ≡ old.store_names = ap (λ (w : WorldState). w.store_names) h.0 in
    record {
      count = omega arith;
      asked = tt;
      stores_asked = tt;
      fresh = tt;
      state = h.0
          ∙ ap (λ n. record old { outlet_faults = new.outlet_faults; paths_faults = new.paths_faults; store_faults = n }) (sym count)
          ∙ ap (λ s. record old { outlet_faults = new.outlet_faults; paths_faults = new.paths_faults; store_faults = new.store_faults; store_names = s }) (sym names)
          ∙ ap (λ l. record old { outlet_faults = new.outlet_faults; paths_faults = new.paths_faults; store_faults = new.store_faults; store_names = new.store_names; outlets = l }) (sym (opened-none old.outlets))
          ∙ ap (λ l. record old { outlet_faults = new.outlet_faults; paths_faults = new.paths_faults; store_faults = new.store_faults; store_names = new.store_names; outlets = with_all_opened old.outlets []; paths = l }) (sym (opened-none old.paths))
          ∙ ap (λ l. record old { outlet_faults = new.outlet_faults; paths_faults = new.paths_faults; store_faults = new.store_faults; store_names = new.store_names; outlets = with_all_opened old.outlets []; paths = with_all_opened old.paths []; stores = l }) (sym (opened-none old.stores));
      named = names;
      faults = h.1;
      paths_faults = h.2;
      store_faults = omega (arith, count);
    }

pub outs-none : (w : WorldState) (specs : List OutletSpec) (stores : List (Option StoreSpec)) → OpensOuts w w specs stores []
outs-none w specs stores = outs-kept w w specs stores (refl, omega arith, omega arith)

-- Closing.

pub closes-no-out : (w : WorldState) → ClosesOutlets w w []
closes-no-out w = (
  [],
  tt,
  ap (λ l. record w { outlets = l }) (sym (closed-none w.outlets))
      ∙ ap (λ l. record w { outlets = with_all_closed w.outlets []; paths = l }) (sym (closed-none w.paths))
      ∙ ap (λ l. record w { outlets = with_all_closed w.outlets []; paths = with_all_closed w.paths []; stores = l }) (sym (closed-none w.stores)),
)

single-first : (i : OutletState) (is : List OutletState) (o : Option PathsState) (os : List (Option PathsState)) → singles (i ∷ is) (o ∷ os) ≡ singles (i ∷ []) (o ∷ []) ++ singles is os
single-first i is None os = refl
single-first i is (Some opener) os = refl

singles-both : (outs more : List Out) → singles (inners_in (outs ++ more)) (openers_in (outs ++ more)) ≡ singles (inners_in outs) (openers_in outs) ++ singles (inners_in more) (openers_in more)
singles-both [] more = refl
singles-both (out ∷ outs) more =
    let one = singles (out.inner ∷ []) (out.opener ∷ []) in
    single-first out.inner (inners_in (outs ++ more)) out.opener (openers_in (outs ++ more))
    ∙ ap (λ (l : List OutletState). one ++ l) (singles-both outs more)
    ∙ sym (append_assoc one (singles (inners_in outs) (openers_in outs)) (singles (inners_in more) (openers_in more)))
    ∙ ap (λ (l : List OutletState). l ++ singles (inners_in more) (openers_in more)) (sym (single-first out.inner (inners_in outs) out.opener (openers_in outs)))

present-both : {A : Type 0} (options more : List (Option A)) → present (options ++ more) ≡ present options ++ present more
present-both [] more = refl
present-both {A} (None ∷ options) more = present-both options more
present-both {A} (Some a ∷ options) more = ap (λ (l : List A). a ∷ l) (present-both options more)

openers-both : (outs more : List Out) → present (openers_in (outs ++ more)) ≡ present (openers_in outs) ++ present (openers_in more)
openers-both outs more =
    ap (λ (os : List (Option PathsState)). present os) (map-append (λ (out : Out). out.opener) outs more) ∙ present-both (openers_in outs) (openers_in more)

pub stores-both : (outs more : List Out) → stores_in (outs ++ more) ≡ stores_in outs ++ stores_in more
stores-both outs more =
    ap (λ (os : List (Option DiskState)). present os) (map-append (λ (out : Out). out.store) outs more)
    ∙ present-both (map (λ (out : Out). out.store) outs) (map (λ (out : Out). out.store) more)

left-both : (outs more closed closed' : List Out) → AreLeft outs closed → AreLeft more closed' → AreLeft (outs ++ more) (closed ++ closed')
left-both [] more [] closed' a b = b
left-both [] more (c ∷ cs) closed' a b = absurd a
left-both (o ∷ os) more [] closed' a b = absurd a
left-both (o ∷ os) more (c ∷ cs) closed' a b = (a.0, left-both os more cs closed' a.1 b)

-- these, and then those
pub closes-two : (old mid new : WorldState) (outs more : List Out) → ClosesOutlets old mid outs → ClosesOutlets mid new more → ClosesOutlets old new (outs ++ more)
closes-two old mid new outs more (closed, left, closes) (closed', left', closes') =
    let first = singles (inners_in closed) (openers_in closed) in
    let second = singles (inners_in closed') (openers_in closed') in
    let opener = present (openers_in closed) in
    let opener' = present (openers_in closed') in
    let all = singles (inners_in (closed ++ closed')) (openers_in (closed ++ closed')) in
    let all_openers = present (openers_in (closed ++ closed')) in (
      closed ++ closed',
      left-both outs more closed closed' left left',
      closes'
          ∙ ap (λ (m : WorldState). record m { outlets = with_all_closed m.outlets second; paths = with_all_closed m.paths opener'; stores = with_all_closed m.stores (stores_in closed') }) closes
          ∙ ap (λ l. record old { outlets = l; paths = with_all_closed (with_all_closed old.paths opener) opener'; stores = with_all_closed (with_all_closed old.stores (stores_in closed)) (stores_in closed') }) (closed-join old.outlets first second ∙ ap (λ os. with_all_closed old.outlets os) (sym (singles-both closed closed')))
          ∙ ap (λ l. record old { outlets = with_all_closed old.outlets all; paths = l; stores = with_all_closed (with_all_closed old.stores (stores_in closed)) (stores_in closed') }) (closed-join old.paths opener opener' ∙ ap (λ os. with_all_closed old.paths os) (sym (openers-both closed closed')))
          ∙ ap (λ l. record old { outlets = with_all_closed old.outlets all; paths = with_all_closed old.paths all_openers; stores = l }) (closed-join old.stores (stores_in closed) (stores_in closed') ∙ ap (λ ds. with_all_closed old.stores ds) (sym (stores-both closed closed'))),
    )

-- a way out is closed as what it is made of
pub closes-way : (old new : WorldState) (out part : Out) → part.inner ≡ out.inner → part.opener ≡ out.opener → part.store ≡ out.store → ClosesOutlets old new (part ∷ []) → ClosesOutlets old new (out ∷ [])
closes-way old new out part inner opener store ([], left, closes) = absurd left
closes-way old new out part inner opener store (c ∷ [], left, closes) = (
  (record { outlet = out.outlet; inner = c.inner; opener = c.opener; store = c.store; held = out.held }) ∷ [],
  (
    record {
      outlet = refl;
      inner = (left.0).inner ∙ inner;
      store = (left.0).store ∙ store;
      held = refl;
      opener = subst (λ (o : Option PathsState). LeavesOpener o c.opener out.inner) opener (subst (λ (i : OutletState). LeavesOpener part.opener c.opener i) inner (left.0).opener);
    },
    tt,
  ),
  closes,
)
closes-way old new out part inner opener store (c ∷ d ∷ cs, left, closes) = absurd left.1

-- What is left.

pub left-none : (closed : List Out) → AreLeft [] closed → closed ≡ []
left-none [] left = refl
left-none (c ∷ cs) left = absurd left

lies-one : (before after : Option PathsState) (inner : OutletState) → LeavesOpener before after inner → IfSome after (λ (opener : PathsState). LieUnderPaths inner.taken opener.taken)
lies-one None None inner h = tt
lies-one None (Some after) inner h = absurd h
lies-one (Some before) None inner h = tt
lies-one (Some before) (Some after) inner h = h.1

-- under each path stand the texts of the frames with that path
pub left-lie : (outs closed : List Out) → AreLeft outs closed → AllLie closed
left-lie [] [] left = tt
left-lie [] (c ∷ cs) left = absurd left
left-lie (o ∷ os) [] left = tt
left-lie (o ∷ os) (c ∷ cs) left = (
  subst (λ (inner : OutletState). IfSome c.opener (λ (opener : PathsState). LieUnderPaths inner.taken opener.taken)) (sym (left.0).inner) (lies-one o.opener c.opener o.inner (left.0).opener),
  left-lie os cs left.1,
)

-- the outlets stay as they were
pub left-outlets : (outs closed : List Out) → AreLeft outs closed → outlets_in closed ≡ outlets_in outs
left-outlets [] [] left = refl
left-outlets [] (c ∷ cs) left = absurd left
left-outlets (o ∷ os) [] left = absurd left
left-outlets (o ∷ os) (c ∷ cs) left = ap (λ (l : List OutletState). c.outlet ∷ l) (left-outlets os cs left.1) ∙ ap (λ (s : OutletState). s ∷ outlets_in os) (left.0).outlet

whole-one : (out closed : Out) → IsLeft out closed → IsWayWhole out → IsWayWhole closed
whole-one out closed left whole = record {
  direct = λ none. left.inner ∙ whole.direct (sym left.held ∙ none) ∙ sym left.outlet;
  adds_up = subst (λ (h : Option HeldState). IfSome h (WayAddsUp closed.outlet closed.inner)) (sym left.held)
      (subst (λ (s : OutletState). IfSome out.held (WayAddsUp s closed.inner)) (sym left.outlet)
      (subst (λ (i : OutletState). IfSome out.held (WayAddsUp out.outlet i)) (sym left.inner) whole.adds_up));
}

-- and what is held adds up
pub left-whole : (outs closed : List Out) → AreLeft outs closed → AreWaysWhole outs → AreWaysWhole closed
left-whole outs [] left whole = tt
left-whole [] (c ∷ cs) left whole = absurd left
left-whole (o ∷ os) (c ∷ cs) left whole = (whole-one o c left.0 whole.0, left-whole os cs left.1 whole.1)

-- What is told of held frames.

pub left-held : (outs closed : List Out) → AreLeft outs closed → map (λ (out : Out). out.held) closed ≡ map (λ (out : Out). out.held) outs
left-held [] [] left = refl
left-held [] (c ∷ cs) left = absurd left
left-held (o ∷ os) [] left = absurd left
left-held (o ∷ os) (c ∷ cs) left =
    ap (λ (hs : List (Option HeldState)). c.held ∷ hs) (left-held os cs left.1) ∙ ap (λ (h : Option HeldState). h ∷ map (λ (out : Out). out.held) os) (left.0).held

left-asked : (plans : List OutletPlan) (outs closed : List Out) → AreLeft outs closed → AreHeldAsked plans outs → AreHeldAsked plans closed
left-asked [] [] [] left asked = tt
left-asked [] [] (c ∷ cs) left asked = absurd left
left-asked [] (o ∷ os) closed left asked = absurd asked
left-asked (p ∷ ps) [] closed left asked = absurd asked
left-asked (p ∷ ps) (o ∷ os) [] left asked = absurd left
left-asked (p ∷ ps) (o ∷ os) (c ∷ cs) left asked = (
  subst (λ (h : Option HeldState). IsHeldAsked p.overflow h) (sym (left.0).held) asked.0,
  left-asked ps os cs left.1 asked.1,
)

finished-held : (out closed : Out) (held : HeldState) (refused : Bool) → IsLeft out closed → IsHeldFinished out held refused → IsHeldFinished closed held refused
finished-held out closed held refused left f = record {
  number = f.number;
  saved = λ works. subst (λ (s : Option DiskState). IfSome held.frames (λ frames. IfSome s (λ store. EachNow store (AreStored frames)))) (sym left.store) (f.saved works);
  empty = f.empty;
  some = λ is. (let s = f.some is in (s.0, s.1, subst (λ (i : OutletState). 3 ≤ i.faults + i.laters) (sym left.inner) s.2));
  blamed = λ is. (let b = f.blamed is in (b.0, left.store ∙ b.1, b.2));
}

finished-one : (out closed : Out) (held : Option HeldState) (refused : Bool) → IsLeft out closed → IsFinishedOut out held refused → IsFinishedOut closed held refused
finished-one out closed None refused left f = f
finished-one out closed (Some held) refused left f = finished-held out closed held refused left f

left-finished : (outs closed : List Out) (refused : List Bool) → AreLeft outs closed → AreFinishedOuts outs refused → AreFinishedOuts closed refused
left-finished [] [] [] left f = tt
left-finished [] [] (r ∷ rs) left f = absurd f
left-finished [] (c ∷ cs) refused left f = absurd left
left-finished (o ∷ os) [] refused left f = absurd left
left-finished (o ∷ os) (c ∷ cs) [] left f = absurd f
left-finished (o ∷ os) (c ∷ cs) (r ∷ rs) left f = (
  subst (λ (h : Option HeldState). IsFinishedOut c h r) (sym (left.0).held) (finished-one o c o.held r left.0 f.0),
  left-finished os cs rs left.1 f.1,
)

pub left-rests : (once : Bool) (first : ℕ) (plans : List OutletPlan) (outs closed : List Out) (counts : Counts) → AreLeft outs closed → AreRests once first plans outs counts → AreRests once first plans closed counts
left-rests once first plans outs closed counts left r = record {
  refused = r.refused;
  asked = left-asked plans outs closed left r.asked;
  finished = left-finished outs closed r.refused left r.finished;
  held = r.held ∙ ap (λ (hs : List (Option HeldState)). held_from 0 hs) (sym (left-held outs closed left));
  sinks = r.sinks;
  stores = r.stores ∙ ap (λ (hs : List (Option HeldState)). counts.stores ++ failed_from first hs) (sym (left-held outs closed left));
}

pub left-counts : (once : Bool) (first : ℕ) (plans : List OutletPlan) (outs closed : List Out) (counts : Option Counts) → AreLeft outs closed → IfSome counts (AreRests once first plans outs) → IfSome counts (AreRests once first plans closed)
left-counts once first plans outs closed None left r = tt
left-counts once first plans outs closed (Some counts) left r = left-rests once first plans outs closed counts left r

-- One, of what it is made of.

closes-exit : {D P : Type 0} (drain : D → OutletState) (paths : P → PathsState) (old new : WorldState) (exit : Exit D P) → ClosesExit drain paths old new exit
    → ClosesOutlets old new ((record { outlet = exit_of drain paths exit; inner = exit_of drain paths exit; opener = opener_in paths exit; store = None; held = None }) ∷ [])
closes-exit drain paths old new (One d) h = (
  (record { outlet = drain d; inner = drain d; opener = None; store = None; held = None }) ∷ [],
  (record { outlet = refl; inner = refl; store = refl; held = refl; opener = tt }, tt),
  h
      ∙ ap (λ l. record old { outlets = with_closed old.outlets (drain d); paths = l }) (sym (closed-none old.paths))
      ∙ ap (λ l. record old { outlets = with_closed old.outlets (drain d); paths = with_all_closed old.paths []; stores = l }) (sym (closed-none old.stores)),
)
closes-exit drain paths old new (ByPath files) (closed, (is, lie, h)) = (
  (record { outlet = outlet_of paths files; inner = outlet_of paths files; opener = Some closed; store = None; held = None }) ∷ [],
  (record { outlet = refl; inner = refl; store = refl; held = refl; opener = (is, lie) }, tt),
  h
      ∙ ap (λ l. record old { outlets = l; paths = with_closed old.paths closed }) (sym (closed-none old.outlets))
      ∙ ap (λ l. record old { outlets = with_all_closed old.outlets []; paths = with_closed old.paths closed; stores = l }) (sym (closed-none old.stores)),
)

-- and its store behind it
closes-store : (old mid new : WorldState) (outlet inner : OutletState) (opener : Option PathsState) (disk : DiskState)
    → ClosesOutlets old mid ((record { outlet = outlet; inner = inner; opener = opener; store = None; held = None }) ∷ []) → ClosesStore mid new disk
    → ClosesOutlets old new ((record { outlet = outlet; inner = inner; opener = opener; store = Some disk; held = None }) ∷ [])
closes-store old mid new outlet inner opener disk ([], left, closes) h = absurd left
closes-store old mid new outlet inner opener disk (c ∷ [], left, closes) h =
    let drains = singles (c.inner ∷ []) (c.opener ∷ []) in
    let openers = present (c.opener ∷ []) in (
      (record { outlet = c.outlet; inner = c.inner; opener = c.opener; store = Some disk; held = None }) ∷ [],
      (record { outlet = (left.0).outlet; inner = (left.0).inner; store = refl; held = refl; opener = (left.0).opener }, tt),
      h
          ∙ ap (λ (m : WorldState). record m { stores = with_closed m.stores disk }) closes
          ∙ ap (λ (s : Option DiskState). record old { outlets = with_all_closed old.outlets drains; paths = with_all_closed old.paths openers; stores = with_closed (with_all_closed old.stores (present (s ∷ []))) disk }) (left.0).store
          ∙ ap (λ l. record old { outlets = with_all_closed old.outlets drains; paths = with_all_closed old.paths openers; stores = l }) (closed-join old.stores [] (disk ∷ [])),
    )
closes-store old mid new outlet inner opener disk (c ∷ d ∷ cs, left, closes) h = absurd left.1

pub closes-unstored : {D P S : Type 0} (drain : D → OutletState) (paths : P → PathsState) (disk : S → DiskState) (old new : WorldState) (parts : Parts D P S) → parts.store ≡ None → ClosesExit drain paths old new parts.exit
    → ClosesOutlets old new (parts_out drain paths disk parts ∷ [])
closes-unstored {D} {P} {S} drain paths disk old new parts none h =
    let exit = exit_of drain paths parts.exit in
    subst (λ (s : Option S). ClosesOutlets old new ((record { outlet = exit; inner = exit; opener = opener_in paths parts.exit; store = option_map disk s; held = None }) ∷ [])) (sym none) (closes-exit drain paths old new parts.exit h)

pub closes-stored : {D P S : Type 0} (drain : D → OutletState) (paths : P → PathsState) (disk : S → DiskState) (old mid new : WorldState) (parts : Parts D P S) (store : S) → parts.store ≡ Some store → ClosesExit drain paths old mid parts.exit
    → ClosesStore mid new (disk store) → ClosesOutlets old new (parts_out drain paths disk parts ∷ [])
closes-stored {D} {P} {S} drain paths disk old mid new parts store some h s =
    let exit = exit_of drain paths parts.exit in
    subst (λ (o : Option S). ClosesOutlets old new ((record { outlet = exit; inner = exit; opener = opener_in paths parts.exit; store = option_map disk o; held = None }) ∷ [])) (sym some)
    (closes-store old mid new exit exit (opener_in paths parts.exit) (disk store) (closes-exit drain paths old mid parts.exit h) s)
