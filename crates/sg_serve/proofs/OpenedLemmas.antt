-- Destinations whose ways out are opened one after another.
use Rattle.std.proofs.Common.{◌≡◌, ◌≤◌, ℕ, zero, suc, ◌+◌, Bool, List, [], ◌∷◌, ◌++◌, length, map, take, slice_get, Some, None, Option, refl, sym, ap, ◌∙◌, arith, subst}
use Rattle.std.specs.Prelude.{option_map, option_to_list}
use Rattle.std.proofs.lemmas.List.{append-nil, length-append, length-map, map-append, take_all}
use Rattle.sg_list.proofs.ListLemmas.{slice_get-map, some-same}
use Rattle.sg_device.specs.Disk.{DiskState}
use Rattle.sg_device.specs.Outlet.{OutletState}
use Rattle.sg_device.specs.Paths.{PathsState}
use Rattle.sg_outside.specs.World.{WorldState}
use Rattle.sg_outside.specs.declared.request.OutletSpec.{OutletSpec}
use Rattle.sg_outside.specs.declared.request.StoreSpec.{StoreSpec}
use Rattle.sg_overflow.specs.Buffered.{HeldState, held_state}
use Rattle.sg_overflow.specs.declared.buffered.Buffered.{Buffered}
use Rattle.sg_overflow.specs.declared.buffered.Buffered.TheVariants.{Direct, Overflow}
use Rattle.sg_run_plan.specs.declared.outlet.OutletPlan.{OutletPlan}
use Rattle.sg_run_plan.specs.declared.overflow.OverflowPlan.{OverflowPlan}
use Rattle.sg_actor.specs.declared.dest.DestActor.{DestActor}
use Rattle.sg_serve.specs.Actors.{DestView, dest_view, IsDestFor, AreDestsFor}
use Rattle.sg_serve.specs.Devices.{with_all_opened, opened_for, opened_stores, AreStoresNamed, outlet_asked, outlets_asked, OpensOuts}
use Rattle.sg_serve.specs.Exits.{Out, OnlyFails, IsReadied, AreReadied, way_of, out_of, parts_out, outlets_in, inners_in, openers_in, stores_in, singles, by_paths, present}
use Rattle.sg_serve.specs.Opened.{MissesNext, DestsOpen, OpensDests}
use Rattle.sg_serve.specs.Overflows.{store_in, overflow_specs, stores_asked, IsOverflowWithin, AreOverflowsWithin, IsHeldAsked, AreHeldAsked, OpensWay, Misses, MissesWay, WaysFail}
use Rattle.sg_serve.specs.declared.ending.Early.{Early}
use Rattle.sg_serve.specs.declared.ending.Early.TheVariants.{OpenFault, Damage, DiskFault, NoMemory}
use Rattle.sg_serve.specs.declared.exit.Exit.{Exit}
use Rattle.sg_serve.specs.declared.outlets.OpenDests.{OpenDests}
use Rattle.sg_serve.specs.declared.way.Parts.{Parts}
use Rattle.sg_serve.proofs.ActorLemmas.{dests-more}
use Rattle.sg_serve.proofs.FailLemmas.{readied-join, held-join, readied-many, readied-stores, fails-with, fails-without}
use Rattle.sg_serve.proofs.JoinLemmas.{outs-more}
use Rattle.sg_serve.proofs.OutLemmas.{stores-both, outs-none}

-- Lists.

take-suc : {A : Type 0} (xs : List A) (k : ℕ) (x : A) → slice_get xs k ≡ Some x → take (suc k) xs ≡ take k xs ++ x ∷ []
take-suc [] k x at = absurd (let wrong : None ≡ Some x = at in cc)
take-suc {A} (y ∷ ys) zero x at = ap (λ (z : A). z ∷ []) (some-same y x at)
take-suc {A} (y ∷ ys) (suc k) x at = ap (λ (l : List A). y ∷ l) (take-suc ys k x at)

pub take-next : {A : Type 0} (xs : List A) (k : ℕ) (x : A) → slice_get xs k ≡ Some x → take (k + 1) xs ≡ take k xs ++ x ∷ []
take-next {A} xs k x at = (let more : k + 1 ≡ suc k = omega arith in ap (λ (n : ℕ). take n xs) more) ∙ take-suc xs k x at

map-end : {A B : Type 0} (f : A → B) (xs : List A) (x : A) → map f (xs ++ x ∷ []) ≡ map f xs ++ f x ∷ []
map-end f xs x = map-append f xs (x ∷ [])

-- Plans.

pub within-at : (plans : List OutletPlan) (n : ℕ) (plan : OutletPlan) → AreOverflowsWithin plans → slice_get plans n ≡ Some plan → IsOverflowWithin plan
within-at [] n plan all at = absurd (let wrong : None ≡ Some plan = at in cc)
within-at (p ∷ ps) zero plan all at = subst (λ (q : OutletPlan). IsOverflowWithin q) (some-same p plan at) all.0
within-at (p ∷ ps) (suc n) plan all at = within-at ps n plan all.1 at

pub asked-few : (overflow : Option OverflowPlan) → stores_asked overflow ≤ 1
asked-few None = omega arith
asked-few (Some plan) = omega arith

-- Ways out as handed over, and once made ready.

readied-one : (opened now : Out) (os ns : List OutletState) → IsReadied opened now → ns ≡ os → now.outlet ∷ ns ≡ opened.outlet ∷ os
readied-one opened now os ns r same = λ i. r.outlet i ∷ same i

pub readied-outlets : (opened now : List Out) → AreReadied opened now → outlets_in now ≡ outlets_in opened
readied-outlets [] [] a = refl
readied-outlets [] (m ∷ ms) a = absurd a
readied-outlets (p ∷ ps) [] a = absurd a
readied-outlets (p ∷ ps) (m ∷ ms) a = readied-one p m (outlets_in ps) (outlets_in ms) a.0 (readied-outlets ps ms a.1)

pub readied-held : (plans : List OutletPlan) (opened now : List Out) → AreReadied opened now → AreHeldAsked plans now → AreHeldAsked plans opened
readied-held plans [] [] a h = h
readied-held plans [] (m ∷ ms) a h = absurd a
readied-held plans (p ∷ ps) [] a h = absurd a
readied-held [] (p ∷ ps) (m ∷ ms) a h = absurd h
readied-held (q ∷ qs) (p ∷ ps) (m ∷ ms) a h = (subst (λ (s : Option HeldState). IsHeldAsked q.overflow s) (a.0).held h.0, readied-held qs ps ms a.1 h.1)

pub held-many : (plans : List OutletPlan) (outs : List Out) → AreHeldAsked plans outs → length outs ≡ length plans
held-many [] [] h = refl
held-many [] (o ∷ os) h = absurd h
held-many (p ∷ ps) [] h = absurd h
held-many (p ∷ ps) (o ∷ os) h = ap suc (held-many ps os h.1)

present-few : {A : Type 0} (xs : List (Option A)) → length (present xs) ≤ length xs
present-few [] = omega arith
present-few (None ∷ xs) = omega (arith, present-few xs)
present-few (Some x ∷ xs) = omega (arith, present-few xs)

pub few-stores : (outs : List Out) → length (stores_in outs) ≤ length outs
few-stores outs =
    let few = present-few (map (λ (out : Out). out.store) outs) in
    let many = length-map outs (λ (out : Out). out.store) in
    omega (arith, few, many)

-- more failed behind it
pub outs-wider : (old mid new : WorldState) (specs : List OutletSpec) (stores : List (Option StoreSpec)) (outs : List Out) → OpensOuts old mid specs stores outs → OnlyFails mid new → OpensOuts old new specs stores outs
outs-wider old mid new specs stores outs a h =
    let count : new.store_faults ≡ mid.store_faults = ap (λ (w : WorldState). w.store_faults) h.0 in
    let names : new.store_names ≡ mid.store_names = ap (λ (w : WorldState). w.store_names) h.0 in
    record {
      count = a.count;
      asked = a.asked;
      stores_asked = a.stores_asked;
      fresh = a.fresh;
      state = h.0
          ∙ ap (λ (w : WorldState). record w { outlet_faults = new.outlet_faults; paths_faults = new.paths_faults }) a.state
          ∙ (λ i. record old {
            outlet_faults = new.outlet_faults;
            paths_faults = new.paths_faults;
            store_faults = sym count i;
            store_names = sym names i;
            outlets = with_all_opened old.outlets (opened_for (singles specs (openers_in outs)) (singles (inners_in outs) (openers_in outs)));
            paths = with_all_opened old.paths (opened_for (by_paths specs (openers_in outs)) (present (openers_in outs)));
            stores = with_all_opened old.stores (opened_stores stores outs);
          });
      named = subst (λ (n : Option (List (List ℕ))). AreStoresNamed old.store_names (opened_stores stores outs) n) (sym names) a.named;
      faults = (let f = a.faults in let g = h.1 in omega (arith, f, g));
      paths_faults = (let f = a.paths_faults in let g = h.2 in omega (arith, f, g));
      store_faults = (let f = a.store_faults in omega (arith, f, count));
    }

-- Why not all could be opened.

-- what was opened, and why no more
pub record WaysMiss (old new : WorldState) (once : Bool) (plans : List OutletPlan) (stores : ℕ) (closed : List Out) (early : Early) : Type 0 where
  pub opened : List Out
  pub opens : OpensOuts old new (outlets_asked once plans) (overflow_specs plans) opened
  pub same : outlets_in closed ≡ outlets_in opened
  pub cause : WaysFail old new stores opened closed early

miss-early : (old new : WorldState) (once : Bool) (plans : List OutletPlan) (stores : ℕ) (opened outs : List Out) → OpensOuts old new (outlets_asked once plans) (overflow_specs plans) opened → AreReadied opened outs → WaysMiss old new once plans stores (outs ++ []) NoMemory
miss-early old new once plans stores opened outs opens readied = record {
  opened = opened;
  opens = opens;
  same = ap (λ (l : List Out). outlets_in l) (append-nil outs) ∙ readied-outlets opened outs readied;
  cause = tt;
}

miss-without : (old between new : WorldState) (once : Bool) (plans : List OutletPlan) (stores number : ℕ) (opened outs : List Out) (early : Early) → OpensOuts old between (outlets_asked once plans) (overflow_specs plans) opened → AreReadied opened outs
    → MissesNext between new once plans (length outs) number None early → WaysMiss old new once plans stores (outs ++ []) early
miss-without old between new once plans stores number opened outs early opens readied m = record {
  opened = opened;
  opens = outs-wider old between new (outlets_asked once plans) (overflow_specs plans) opened opens (m.misses).0;
  same = ap (λ (l : List Out). outlets_in l) (append-nil outs) ∙ readied-outlets opened outs readied;
  cause = subst (λ (l : List Out). WaysFail old new stores opened l early) (sym (append-nil outs)) (fails-without old between new stores opened outs early opens.faults opens.paths_faults readied (m.misses).1);
}

-- the request at a place
asked-at : (once : Bool) (plans : List OutletPlan) (n m : ℕ) (plan : OutletPlan) → n ≡ m → slice_get plans m ≡ Some plan → slice_get (outlets_asked once plans) n ≡ Some (outlet_asked once plan.spec)
asked-at once plans n m plan same at = ap (λ (k : ℕ). slice_get (outlets_asked once plans) k) same ∙ slice_get-map (λ (p : OutletPlan). outlet_asked once p.spec) plans m plan at

stored-at : (plans : List OutletPlan) (n m : ℕ) (plan : OutletPlan) → n ≡ m → slice_get plans m ≡ Some plan → slice_get (overflow_specs plans) n ≡ Some (store_in plan.overflow)
stored-at plans n m plan same at = ap (λ (k : ℕ). slice_get (overflow_specs plans) k) same ∙ slice_get-map (λ (p : OutletPlan). store_in p.overflow) plans m plan at

miss-with : (old between new : WorldState) (once : Bool) (plans : List OutletPlan) (stores : ℕ) (opened outs : List Out) (out : Out) (early : Early) → OpensOuts old between (outlets_asked once plans) (overflow_specs plans) opened → AreReadied opened outs
    → MissesNext between new once plans (length outs) (stores + length (stores_in opened)) (Some out) early → WaysMiss old new once plans stores (outs ++ out ∷ []) early
miss-with old between new once plans stores opened outs out early opens readied m =
    let w : Misses between new (outlet_asked once (m.plan).spec) (m.plan).overflow (stores + length (stores_in opened)) out early = m.misses in
    let many = sym (readied-many opened outs readied) in
    record {
      opened = opened ++ w.opened ∷ [];
      opens = outs-more old between new (outlets_asked once plans) (overflow_specs plans) opened (outlet_asked once (m.plan).spec) (store_in (m.plan).overflow) w.opened opens
          (asked-at once plans (length opened) (length outs) m.plan many m.there) (stored-at plans (length opened) (length outs) m.plan many m.there) w.opens;
      same = map-end (λ (o : Out). o.outlet) outs out ∙ (λ i. readied-outlets opened outs readied i ++ w.outlet i ∷ []) ∙ sym (map-end (λ (o : Out). o.outlet) opened w.opened);
      cause = fails-with old between new (outlet_asked once (m.plan).spec) (m.plan).overflow stores (stores + length (stores_in opened)) opened outs out early opens.store_faults readied refl w;
    }

pub ways-miss : (old between new : WorldState) (once : Bool) (plans : List OutletPlan) (stores : ℕ) (opened outs : List Out) (last : Option Out) (early : Early) → OpensOuts old between (outlets_asked once plans) (overflow_specs plans) opened → AreReadied opened outs
    → DestsOpen between new once plans stores opened outs last (Some early) → WaysMiss old new once plans stores (outs ++ option_to_list last) early
ways-miss old between new once plans stores opened outs None NoMemory opens readied m =
    miss-early old new once plans stores opened outs (subst (λ (w : WorldState). OpensOuts old w (outlets_asked once plans) (overflow_specs plans) opened) (sym m) opens) readied
ways-miss old between new once plans stores opened outs None (OpenFault device) opens readied m = miss-without old between new once plans stores (stores + length (stores_in opened)) opened outs (OpenFault device) opens readied m
ways-miss old between new once plans stores opened outs None (Damage s at) opens readied m = miss-without old between new once plans stores (stores + length (stores_in opened)) opened outs (Damage s at) opens readied m
ways-miss old between new once plans stores opened outs None (DiskFault s) opens readied m = miss-without old between new once plans stores (stores + length (stores_in opened)) opened outs (DiskFault s) opens readied m
ways-miss old between new once plans stores opened outs (Some out) early opens readied m = miss-with old between new once plans stores opened outs out early opens readied m

-- The first destinations are there.

module _ {D P S : Type 0} (drain : D → OutletState) (paths : P → PathsState) (disk : S → DiskState) where
  abbrev pub outs_at : List (DestActor (Buffered (Exit D P) S)) → List Out
  outs_at dests = map (λ (a : DestActor (Buffered (Exit D P) S)). out_of drain paths disk a.outlet) dests

  abbrev pub views_at : List (DestActor (Buffered (Exit D P) S)) → List DestView
  views_at dests = map (λ (a : DestActor (Buffered (Exit D P) S)). dest_view a.spec a.outage (way_of drain paths disk a.outlet)) dests

  -- these are open, and the next store has this number
  pub record OpenedFirst (old now : WorldState) (once : Bool) (plans : List OutletPlan) (stores : ℕ) (dests : List (DestActor (Buffered (Exit D P) S))) (store : ℕ) : Type 0 where
    pub opened : List Out
    pub opens : OpensOuts old now (outlets_asked once plans) (overflow_specs plans) opened
    pub readied : AreReadied opened (outs_at dests)
    pub asked : AreHeldAsked (take (length dests) plans) (outs_at dests)
    pub new : AreDestsFor once plans (views_at dests)
    pub number : store ≡ stores + length (stores_in opened)

  pub opened-few : (old now : WorldState) (once : Bool) (plans : List OutletPlan) (stores : ℕ) (dests : List (DestActor (Buffered (Exit D P) S))) (store : ℕ) → OpenedFirst old now once plans stores dests store → store ≤ stores + length dests
  opened-few old now once plans stores dests store h =
      let few = few-stores h.opened in
      let many = readied-many h.opened (outs_at dests) h.readied in
      let all = length-map dests (λ (a : DestActor (Buffered (Exit D P) S)). out_of drain paths disk a.outlet) in
      let number = h.number in
      omega (arith, few, many, all, number)

  no-plans : (plans : List OutletPlan) → take 0 plans ≡ []
  no-plans [] = refl
  no-plans (p ∷ ps) = refl

  pub opened-none : (w : WorldState) (once : Bool) (plans : List OutletPlan) (stores : ℕ) → AreDestsFor once plans [] → OpenedFirst w w once plans stores [] stores
  opened-none w once plans stores none = record {
    opened = [];
    opens = outs-none w (outlets_asked once plans) (overflow_specs plans);
    readied = tt;
    asked = subst (λ (ps : List OutletPlan). AreHeldAsked ps []) (sym (no-plans plans)) tt;
    new = none;
    number = omega arith;
  }

  -- a way out has a store where frames are held back, and nowhere else
  stores-of : (way : Buffered (Exit D P) S) (overflow : Option OverflowPlan) → IsHeldAsked overflow (held_state disk way) → length (stores_in (out_of drain paths disk way ∷ [])) ≡ stores_asked overflow
  stores-of (Direct exit) None asked = refl
  stores-of (Direct exit) (Some plan) asked = absurd asked
  stores-of (Overflow view) None asked = absurd asked
  stores-of (Overflow view) (Some plan) asked = refl

  pub opened-more : (old mid new : WorldState) (once : Bool) (plans : List OutletPlan) (stores : ℕ) (dests : List (DestActor (Buffered (Exit D P) S))) (store : ℕ) (plan : OutletPlan) (dest : DestActor (Buffered (Exit D P) S)) (d : ℕ)
      → OpenedFirst old mid once plans stores dests store → slice_get plans (length dests) ≡ Some plan → d ≡ length dests → OpensWay mid new (outlet_asked once plan.spec) plan.overflow (out_of drain paths disk dest.outlet)
      → IsDestFor once d plan (dest_view dest.spec dest.outage (way_of drain paths disk dest.outlet)) → OpenedFirst old new once plans stores (dests ++ dest ∷ []) (store + stores_asked plan.overflow)
  opened-more old mid new once plans stores dests store plan dest d h there same w is =
      let f = λ (a : DestActor (Buffered (Exit D P) S)). out_of drain paths disk a.outlet in
      let v = λ (a : DestActor (Buffered (Exit D P) S)). dest_view a.spec a.outage (way_of drain paths disk a.outlet) in
      let outs = outs_at dests in
      let many : length h.opened ≡ length dests = sym (readied-many h.opened outs h.readied) ∙ length-map dests f in
      let views : length (views_at dests) ≡ length dests = length-map dests v in
      let long : length (dests ++ dest ∷ []) ≡ length dests + 1 = length-append dests (dest ∷ []) in
      let plans_are : take (length (dests ++ dest ∷ [])) plans ≡ take (length dests) plans ++ plan ∷ [] = ap (λ (k : ℕ). take k plans) long ∙ take-next plans (length dests) plan there in
      let outs_are : outs_at (dests ++ dest ∷ []) ≡ outs ++ f dest ∷ [] = map-end f dests dest in
      let views_are : views_at (dests ++ dest ∷ []) ≡ views_at dests ++ v dest ∷ [] = map-end v dests dest in
      record {
        opened = h.opened ++ w.opened ∷ [];
        opens = outs-more old mid new (outlets_asked once plans) (overflow_specs plans) h.opened (outlet_asked once plan.spec) (store_in plan.overflow) w.opened h.opens
            (asked-at once plans (length h.opened) (length dests) plan many there) (stored-at plans (length h.opened) (length dests) plan many there) w.opens;
        readied = subst (λ (os : List Out). AreReadied (h.opened ++ w.opened ∷ []) os) (sym outs_are) (readied-join h.opened outs w.opened (f dest) h.readied w.readied);
        asked = subst (λ (ps : List OutletPlan). AreHeldAsked ps (outs_at (dests ++ dest ∷ []))) (sym plans_are)
            (subst (λ (os : List Out). AreHeldAsked (take (length dests) plans ++ plan ∷ []) os) (sym outs_are) (held-join (take (length dests) plans) outs plan (f dest) h.asked w.asked));
        new = subst (λ (vs : List DestView). AreDestsFor once plans vs) (sym views_are)
            (dests-more once plans (views_at dests) plan (v dest) h.new (ap (slice_get plans) views ∙ there) (subst (λ (k : ℕ). IsDestFor once k plan (v dest)) (same ∙ sym views) is));
        number = (
            let n = h.number in
            let both = ap length (stores-both h.opened (w.opened ∷ [])) ∙ length-append (stores_in h.opened) (stores_in (w.opened ∷ [])) in
            let one = readied-stores (w.opened ∷ []) (f dest ∷ []) (w.readied, tt) in
            let has = stores-of dest.outlet plan.overflow w.asked in
            omega (arith, n, both, one, has)
            );
      }

  pub opened-all : (old now : WorldState) (once : Bool) (plans : List OutletPlan) (stores : ℕ) (dests : List (DestActor (Buffered (Exit D P) S))) (store : ℕ) → (h : OpenedFirst old now once plans stores dests store) → length plans ≤ length dests
      → DestsOpen now now once plans stores h.opened (outs_at dests) None None
  opened-all old now once plans stores dests store h all =
      (subst (λ (ps : List OutletPlan). AreHeldAsked ps (outs_at dests)) (take_all (length dests) plans all) h.asked, refl, refl)

  -- the next one isn't; where memory ran out in front of it, nothing was opened, and only counts of failures may have risen
  pub record MissedAt (old now : WorldState) (once : Bool) (plans : List OutletPlan) (stores : ℕ) (dests : List (DestActor (Buffered (Exit D P) S))) (last : Option Out) (early : Early) : Type 0 where
    pub between : WorldState
    pub opened : List Out
    pub opens : OpensOuts old between (outlets_asked once plans) (overflow_specs plans) opened
    pub readied : AreReadied opened (outs_at dests)
    pub new : AreDestsFor once plans (views_at dests)
    pub all : DestsOpen between now once plans stores opened (outs_at dests) last (Some early)

  missed-by : (old mid now : WorldState) (once : Bool) (plans : List OutletPlan) (stores : ℕ) (dests : List (DestActor (Buffered (Exit D P) S))) (store : ℕ) (last : Option Out) (early : Early) → (h : OpenedFirst old mid once plans stores dests store)
      → DestsOpen mid now once plans stores h.opened (outs_at dests) last (Some early) → MissedAt old now once plans stores dests last early
  missed-by old mid now once plans stores dests store last early h all = record { between = mid; opened = h.opened; opens = h.opens; readied = h.readied; new = h.new; all = all }

  next-misses : (old mid now : WorldState) (once : Bool) (plans : List OutletPlan) (stores : ℕ) (dests : List (DestActor (Buffered (Exit D P) S))) (store : ℕ) (plan : OutletPlan) (d : ℕ) (last : Option Out) (early : Early) → (h : OpenedFirst old mid once plans stores dests store)
      → slice_get plans (length dests) ≡ Some plan → d ≡ length dests → MissesWay mid now (outlet_asked once plan.spec) plan.overflow d store last early → MissesNext mid now once plans (length (outs_at dests)) (stores + length (stores_in h.opened)) last early
  next-misses old mid now once plans stores dests store plan d last early h there same m =
      let f = λ (a : DestActor (Buffered (Exit D P) S)). out_of drain paths disk a.outlet in
      let many : length (outs_at dests) ≡ length dests = length-map dests f in
      record {
        plan = plan;
        there = ap (slice_get plans) many ∙ there;
        misses = subst (λ (k : ℕ). MissesWay mid now (outlet_asked once plan.spec) plan.overflow k (stores + length (stores_in h.opened)) last early) (same ∙ sym many)
            (subst (λ (n : ℕ). MissesWay mid now (outlet_asked once plan.spec) plan.overflow d n last early) h.number m);
      }

  pub missed-at : (old mid now : WorldState) (once : Bool) (plans : List OutletPlan) (stores : ℕ) (dests : List (DestActor (Buffered (Exit D P) S))) (store : ℕ) (plan : OutletPlan) (d : ℕ) (last : Option Out) (early : Early) → OpenedFirst old mid once plans stores dests store
      → slice_get plans (length dests) ≡ Some plan → d ≡ length dests → MissesWay mid now (outlet_asked once plan.spec) plan.overflow d store last early → MissedAt old now once plans stores dests last early
  missed-at old mid now once plans stores dests store plan d None NoMemory h there same m =
      record { between = now; opened = h.opened; opens = outs-wider old mid now (outlets_asked once plans) (overflow_specs plans) h.opened h.opens m.0; readied = h.readied; new = h.new; all = refl }
  missed-at old mid now once plans stores dests store plan d None (OpenFault device) h there same m =
      missed-by old mid now once plans stores dests store None (OpenFault device) h (next-misses old mid now once plans stores dests store plan d None (OpenFault device) h there same m)
  missed-at old mid now once plans stores dests store plan d None (Damage s at) h there same m =
      missed-by old mid now once plans stores dests store None (Damage s at) h (next-misses old mid now once plans stores dests store plan d None (Damage s at) h there same m)
  missed-at old mid now once plans stores dests store plan d None (DiskFault s) h there same m =
      missed-by old mid now once plans stores dests store None (DiskFault s) h (next-misses old mid now once plans stores dests store plan d None (DiskFault s) h there same m)
  missed-at old mid now once plans stores dests store plan d (Some out) early h there same m =
      missed-by old mid now once plans stores dests store (Some out) early h (next-misses old mid now once plans stores dests store plan d (Some out) early h there same m)

  -- What is told of them.

  pub early-missed : (w : WorldState) (once : Bool) (plans : List OutletPlan) (stores : ℕ) → AreDestsFor once plans [] → MissedAt w w once plans stores [] None NoMemory
  early-missed w once plans stores none = record { between = w; opened = []; opens = outs-none w (outlets_asked once plans) (overflow_specs plans); readied = tt; new = none; all = refl }

  pub opens-missed : (old now : WorldState) (once : Bool) (plans : List OutletPlan) (stores : ℕ) (early : Early) (result : OpenDests D P S) → MissedAt old now once plans stores result.dests.items (option_map (parts_out drain paths disk) result.last) early
      → result.early ≡ Some early → OpensDests drain paths disk old now once plans stores result
  opens-missed old now once plans stores early result m is = record {
    between = m.between;
    opened = m.opened;
    opens = m.opens;
    readied = m.readied;
    dests = m.new;
    all = subst (λ (e : Option Early). DestsOpen m.between now once plans stores m.opened (outs_at result.dests.items) (option_map (parts_out drain paths disk) result.last) e) (sym is) m.all;
  }

  all-open : (now : WorldState) (once : Bool) (plans : List OutletPlan) (stores : ℕ) (opened outs : List Out) (last : Option (Parts D P S)) (early : Option Early) → last ≡ None → early ≡ None → DestsOpen now now once plans stores opened outs None None
      → DestsOpen now now once plans stores opened outs (option_map (parts_out drain paths disk) last) early
  all-open now once plans stores opened outs last early none well h =
      subst (λ (e : Option Early). DestsOpen now now once plans stores opened outs (option_map (parts_out drain paths disk) last) e) (sym well)
      (subst (λ (l : Option (Parts D P S)). DestsOpen now now once plans stores opened outs (option_map (parts_out drain paths disk) l) None) (sym none) h)

  pub opens-all : (old now : WorldState) (once : Bool) (plans : List OutletPlan) (stores store : ℕ) (result : OpenDests D P S) → OpenedFirst old now once plans stores result.dests.items store → length plans ≤ length result.dests.items → result.last ≡ None → result.early ≡ None
      → OpensDests drain paths disk old now once plans stores result
  opens-all old now once plans stores store result h all none well = record {
    between = now;
    opened = h.opened;
    opens = h.opens;
    readied = h.readied;
    dests = h.new;
    all = all-open now once plans stores h.opened (outs_at result.dests.items) result.last result.early none well (opened-all old now once plans stores result.dests.items store h all);
  }
