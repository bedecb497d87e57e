-- Lemmas on a plan's sources and destinations, and on why they aren't opened.
use Rattle.std.proofs.Common.{◌≡◌, ◌≤◌, ℕ, ◌+◌, Bool, List, [], ◌∷◌, ◌++◌, length, Some, None, Option, refl, sym, ap, ◌∙◌, arith, slice_get, subst, inl, inr, true, false, zero, suc}
use Rattle.std.specs.Prelude.{option_to_list}
use Rattle.std.proofs.lemmas.List.{append-nil, length-map}
use Rattle.sg_outside.specs.World.{WorldState, InletRefused}
use Rattle.sg_run_plan.specs.declared.outlet.OutletPlan.{OutletPlan}
use Rattle.sg_list.proofs.ListLemmas.{some-same}
use Rattle.sg_device.specs.Inlet.{InletState}
use Rattle.sg_device.specs.declared.fault.OpenRefusal.{OpenRefusal}
use Rattle.sg_device.specs.declared.fault.OpenRefusal.TheVariants.{Failed as OpenFailed, NoMemory as OpenNoMemory}
use Rattle.sg_outside.specs.World.{Files}
use Rattle.sg_outside.specs.declared.request.InletSpec.{InletSpec}
use Rattle.sg_machine.specs.declared.setup.Setup.{Setup}
use Rattle.sg_machine.specs.declared.setup.SourceSetup.{SourceSetup}
use Rattle.sg_machine.specs.Runs.{Opening, opened}
use Rattle.sg_counter.specs.Bringing.{store_in}
use Rattle.sg_standing.specs.Sources.{store_at}
use Rattle.sg_standing.specs.States.{CoreState, setup_of}
use Rattle.sg_standing.specs.Standing.{StandsFor}
use Rattle.sg_run_plan.specs.declared.inlet.InletPlan.{InletPlan}
use Rattle.sg_serve.specs.Actors.{DestView, IsDestFor, AreDestsFor, SourceView, IsSourceFor, AreSourcesFor, BeginsAt, AllBeginAt, OpensAt}
use Rattle.sg_serve.specs.Devices.{IsFetching, AreFetching}
use Rattle.sg_serve.specs.Early.{OutletsFail, InletsFail, SourceFailsToOpen, SourcesFail}
use Rattle.sg_serve.specs.Exits.{OneRose}
use Rattle.sg_serve.specs.Rewinds.{AreApartIn, BeginsSource, HasBegun, AwaitsFrom, FailsBehind, position_at, places_of, rewinds_from}
use Rattle.sg_serve.specs.declared.ending.Device.TheVariants.{Store, Inlet, Dest}
use Rattle.sg_serve.specs.declared.ending.Early.{Early}
use Rattle.sg_serve.specs.declared.ending.Early.TheVariants.{OpenFault, Damage, DiskFault, NoMemory}
use Rattle.sg_serve.proofs.DeviceLemmas.{get-push, inlets-none, inlets-kept, inlets-more, rose-wider, map-push}
use Rattle.sg_serve.proofs.RewindLemmas.{StepsRewind, step, fails-by, store-of}

pub no-dests : (once : Bool) (plans : List OutletPlan) → AreDestsFor once plans []
no-dests once plans d plan view p h = let wrong : None ≡ Some view = h in cc

pub dests-more : (once : Bool) (plans : List OutletPlan) (views : List DestView) (plan : OutletPlan) (view : DestView) → AreDestsFor once plans views → slice_get plans (length views) ≡ Some plan
    → IsDestFor once (length views) plan view → AreDestsFor once plans (views ++ view ∷ [])
dests-more once plans views plan view are at is d plan' view' p v = elim (get-push views view d view' v) [
  | inl h ↦ are d plan' view' p h
  | inr h ↦ (let same : plan ≡ plan' = some-same plan plan' (sym at ∙ ap (slice_get plans) (sym h.0) ∙ p) in
      subst (λ n. IsDestFor once n plan' view') (sym h.0) (subst (λ q. IsDestFor once (length views) q view') same (subst (λ w. IsDestFor once (length views) plan w) (sym h.1) is)))
]

-- the count of one kind rose, seen from farther
pub one-wider : (a b c d : WorldState) → a.outlet_faults ≤ b.outlet_faults → a.paths_faults ≤ b.paths_faults → c.outlet_faults ≤ d.outlet_faults → c.paths_faults ≤ d.paths_faults → OneRose b c → OneRose a d
one-wider a b c d h p k q (inl rose) = inl (rose-wider a.outlet_faults b.outlet_faults c.outlet_faults d.outlet_faults h rose k)
one-wider a b c d h p k q (inr rose) = inr (rose-wider a.paths_faults b.paths_faults c.paths_faults d.paths_faults p rose q)

-- Sources.

pub fetching-at : (plans : List InletPlan) (i : ℕ) (plan : InletPlan) → AreFetching plans → slice_get plans i ≡ Some plan → IsFetching plan
fetching-at [] i plan a h = let wrong : None ≡ Some plan = h in cc
fetching-at (p ∷ ps) zero plan a h = subst IsFetching (some-same p plan h) a.0
fetching-at (p ∷ ps) (suc i) plan a h = fetching-at ps i plan a.1 h

pub store-by-setup : (core : CoreState) (setups : List SourceSetup) (i : ℕ) (setup : SourceSetup) → (setup_of core).sources ≡ setups → slice_get setups i ≡ Some setup → store_at core.sources i ≡ setup.store
store-by-setup core setups i setup is there =
    let at : store_in setups i ≡ setup.store = rw there refl in
    store-of core i ∙ ap (λ xs. store_in xs i) is ∙ at

pub no-sources : (plans : List InletPlan) (setups : List SourceSetup) → AreSourcesFor plans setups []
no-sources plans setups i plan setup view p s h = let wrong : None ≡ Some view = h in cc

pub sources-more : (plans : List InletPlan) (setups : List SourceSetup) (views : List SourceView) (plan : InletPlan) (setup : SourceSetup) (view : SourceView) → AreSourcesFor plans setups views
    → slice_get plans (length views) ≡ Some plan → slice_get setups (length views) ≡ Some setup → IsSourceFor (length views) plan setup.store view → AreSourcesFor plans setups (views ++ view ∷ [])
sources-more plans setups views plan setup view are at on is i plan' setup' view' p s v = elim (get-push views view i view' v) [
  | inl h ↦ are i plan' setup' view' p s h
  | inr h ↦ (let same : plan ≡ plan' = some-same plan plan' (sym at ∙ ap (slice_get plans) (sym h.0) ∙ p) in
      let twin : setup ≡ setup' = some-same setup setup' (sym on ∙ ap (slice_get setups) (sym h.0) ∙ s) in
      subst (λ n. IsSourceFor n plan' setup'.store view') (sym h.0)
      (subst (λ q. IsSourceFor (length views) q setup'.store view') same
      (subst (λ (t : SourceSetup). IsSourceFor (length views) plan t.store view') twin (subst (λ w. IsSourceFor (length views) plan setup.store w) (sym h.1) is))))
]

none-begin : (files : Option Files) (positions : ℕ → ℕ) (specs : List InletSpec) → AllBeginAt files positions specs []
none-begin files positions specs i spec feed p h = let wrong : None ≡ Some feed = h in cc

begin-more : (files : Option Files) (positions : ℕ → ℕ) (specs : List InletSpec) (feeds : List InletState) (spec : InletSpec) (feed : InletState) → AllBeginAt files positions specs feeds
    → slice_get specs (length feeds) ≡ Some spec → BeginsAt files spec (positions (length feeds)) feed → AllBeginAt files positions specs (feeds ++ feed ∷ [])
begin-more files positions specs feeds spec feed are at is i spec' feed' p f = elim (get-push feeds feed i feed' f) [
  | inl h ↦ are i spec' feed' p h
  | inr h ↦ (let same : spec ≡ spec' = some-same spec spec' (sym at ∙ ap (slice_get specs) (sym h.0) ∙ p) in
      subst (λ n. BeginsAt files spec' (positions n) feed') (sym h.0)
      (subst (λ q. BeginsAt files q (positions (length feeds)) feed') same (subst (λ w. BeginsAt files spec (positions (length feeds)) w) (sym h.1) is)))
]

begin-last : (files : Option Files) (positions : ℕ → ℕ) (specs : List InletSpec) (feeds : List InletState) (spec : InletSpec) (last : Option InletState) (position : ℕ) → AllBeginAt files positions specs feeds
    → slice_get specs (length feeds) ≡ Some spec → position ≡ positions (length feeds) → AllBeginAt files (λ k. position) (spec ∷ []) (option_to_list last) → AllBeginAt files positions specs (feeds ++ option_to_list last)
begin-last files positions specs feeds spec None position are at same one = subst (λ fs. AllBeginAt files positions specs fs) (sym (append-nil feeds)) are
begin-last files positions specs feeds spec (Some feed) position are at same one =
    begin-more files positions specs feeds spec feed are at (subst (λ p. BeginsAt files spec p feed) same (one 0 spec feed refl refl))

pub opened-at-none : (world : WorldState) (positions : ℕ → ℕ) (specs : List InletSpec) → OpensAt world world specs positions []
opened-at-none world positions specs = record { opens = inlets-none world specs; begin = none-begin world.files positions specs }

pub opened-at-refused : (old new : WorldState) (positions : ℕ → ℕ) (specs : List InletSpec) (refusal : OpenRefusal) → InletRefused old new refusal → OpensAt old new specs positions []
opened-at-refused old new positions specs OpenFailed h = record { opens = inlets-kept old new specs h.0 h.1; begin = none-begin old.files positions specs }
opened-at-refused old new positions specs OpenNoMemory h = record { opens = inlets-kept old new specs h.0 h.1; begin = none-begin old.files positions specs }

-- one inlet more, where one was opened
pub opened-at-more : (old mid new : WorldState) (specs : List InletSpec) (positions : ℕ → ℕ) (feeds : List InletState) (spec : InletSpec) (last : Option InletState) (position : ℕ) → OpensAt old mid specs positions feeds
    → slice_get specs (length feeds) ≡ Some spec → position ≡ positions (length feeds) → OpensAt mid new (spec ∷ []) (λ k. position) (option_to_list last) → OpensAt old new specs positions (feeds ++ option_to_list last)
opened-at-more old mid new specs positions feeds spec last position front at same one =
    let files = ap (λ (w : WorldState). w.files) (front.opens).state in
    record {
      opens = inlets-more old mid new specs feeds spec (option_to_list last) front.opens at one.opens;
      begin = begin-last old.files positions specs feeds spec last position front.begin at same (subst (λ fs. AllBeginAt fs (λ k. position) (spec ∷ []) (option_to_list last)) files one.begin);
    }

pub inlets-fail : (old mid new : WorldState) (n m : ℕ) (early : Early) → old.inlet_faults ≤ mid.inlet_faults → n ≡ m → InletsFail mid new n early → InletsFail old new m early
inlets-fail old mid new n m (OpenFault (Store k)) later same h = h
inlets-fail old mid new n m (OpenFault (Inlet k)) later same h = (h.0 ∙ same, rose-wider old.inlet_faults mid.inlet_faults new.inlet_faults new.inlet_faults later h.1 (omega arith))
inlets-fail old mid new n m (OpenFault (Dest k)) later same h = h
inlets-fail old mid new n m (Damage s at) later same h = h
inlets-fail old mid new n m (DiskFault s) later same h = h
inlets-fail old mid new n m NoMemory later same h = h

pub places-push : (feeds : List InletState) (feed : InletState) → places_of (feeds ++ feed ∷ []) ≡ places_of feeds ++ feed.place ∷ []
places-push feeds feed = map-push (λ (f : InletState). f.place) feeds feed

pub long-places : (feeds : List InletState) → length (places_of feeds) ≡ length feeds
long-places feeds = length-map feeds (λ (f : InletState). f.place)

-- one source more has begun
pub begun-next : (first mid new : CoreState) (opening : Opening) (setup : Setup) (feeds : List InletState) (feed : InletState) (n : ℕ) → n ≡ length feeds → AreApartIn (setup_of mid).sources → StandsFor first (opened setup opening) []
    → HasBegun first mid (rewinds_from (position_at first) 0 (places_of feeds)) → AwaitsFrom first mid n → BeginsSource mid new n (position_at mid n) feed.place true
    → StepsRewind first new (rewinds_from (position_at first) 0 (places_of (feeds ++ feed ∷ []))) (n + 1)
begun-next first mid new opening setup feeds feed n is apart stands begun awaits h =
    let long : n ≡ length (places_of feeds) = is ∙ sym (long-places feeds) in
    let awaits' = subst (AwaitsFrom first mid) long awaits in
    let h' = subst (λ k. BeginsSource mid new k (position_at mid k) feed.place true) long h in
    let next = step first mid new setup opening (places_of feeds) feed.place apart stands begun awaits' h' in
    subst (λ k. StepsRewind first new (rewinds_from (position_at first) 0 (places_of (feeds ++ feed ∷ []))) (k + 1)) (sym long)
    (subst (λ ps. StepsRewind first new (rewinds_from (position_at first) 0 ps) (length (places_of feeds) + 1)) (sym (places-push feeds feed)) next)

pub sources-fail : (old mid new : WorldState) (first core core' : CoreState) (opening : Opening) (setup : Setup) (setups : List SourceSetup) (feeds : List InletState) (n : ℕ) (store : Option ℕ) (last : Option InletState) (early : Early)
    → n ≡ length feeds → old.inlet_faults ≤ mid.inlet_faults → AreApartIn (setup_of core).sources → StandsFor first (opened setup opening) [] → store_in setups n ≡ store → store_at core.sources n ≡ store
    → HasBegun first core (rewinds_from (position_at first) 0 (places_of feeds)) → AwaitsFrom first core n → SourceFailsToOpen mid new core core' n store last early → SourcesFail old new first core' setups feeds last early
sources-fail old mid new first core core' opening setup setups feeds n store None early is later apart stands has at begun awaits h =
    (subst (λ c. HasBegun first c (rewinds_from (position_at first) 0 (places_of feeds))) (sym h.0) begun, inlets-fail old mid new n (length feeds) early later is h.1)
sources-fail old mid new first core core' opening setup setups feeds n store (Some feed) NoMemory is later apart stands has at begun awaits h = (begun-next first core core' opening setup feeds feed n is apart stands begun awaits h).begun
sources-fail old mid new first core core' opening setup setups feeds n store (Some feed) (DiskFault s) is later apart stands has at begun awaits h =
    let long : n ≡ length (places_of feeds) = is ∙ sym (long-places feeds) in
    let awaits' = subst (AwaitsFrom first core) long awaits in
    let h' = subst (λ k. BeginsSource core core' k (position_at core k) feed.place false) long h.1 in
    let f = fails-by first core core' (places_of feeds) (position_at core (length (places_of feeds))) feed.place begun awaits' h' in
    let same : f.0 ≡ s = some-same f.0 s (sym f.1 ∙ ap (store_at core.sources) (sym long) ∙ at ∙ h.0) in
    (subst (FailsBehind first core' (places_of feeds)) same f.2, ap (store_in setups) (sym is) ∙ has ∙ h.0)
sources-fail old mid new first core core' opening setup setups feeds n store (Some feed) (OpenFault device) is later apart stands has at begun awaits h = absurd h
sources-fail old mid new first core core' opening setup setups feeds n store (Some feed) (Damage s place) is later apart stands has at begun awaits h = absurd h
