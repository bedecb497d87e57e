-- What is known of drivers where nothing is wrong.
use Rattle.std.proofs.Common.{◌≡◌, ℕ, ◌+◌, ◌≤◌, min, nat_lt, Bool, true, false, ◌&&◌, ◌==◌, if◌then◌else◌, List, [], ◌∷◌, ◌++◌, codes, Option, Some, None, is_some, unwrap_or, refl, ◌∙◌, ap, sym, subst, arith}
use Rattle.std.specs.List.{fold, AllByRecursion}
use Rattle.std.proofs.lemmas.Option.{none-some}
use Rattle.std.proofs.lemmas.Bool.{eqb-true}
use Rattle.sg_parse_base.specs.declared.spot.Spot.{Spot}
use Rattle.sg_parse_base.specs.Tokens.{dashed, same_keyword}
use Rattle.sg_parse_expr.specs.declared.tree.Call.{Call}
use Rattle.sg_parse_expr.specs.Classes.{is_one_of}
use Rattle.sg_parse_expr.specs.Forms.{row_of}
use Rattle.sg_parse_obj.specs.declared.driver.Side.{Side}
use Rattle.sg_parse_obj.specs.declared.driver.Side.TheVariants as side
use Rattle.sg_parse_text.specs.declared.statement.Statement.{Statement}
use Rattle.sg_fault.specs.declared.placed.Placed.{Placed}
use Rattle.sg_fault.specs.Faults.{earlier, least, first_of}
use Rattle.sg_values.specs.Texts.{values_faults}
use Rattle.sg_options.specs.declared.check.Check.{Check}
use Rattle.sg_options.specs.declared.check.Check.TheVariants.{Within}
use Rattle.sg_options.specs.Numbers.{number_in}
use Rattle.sg_options.specs.Settings.{word_of, value_of, is_called, later, last_option, value_behind, last_value}
use Rattle.sg_options.specs.Checks.{bad_value, value_faults, faults_by, option_faults, bad_values}
use Rattle.sg_options.specs.Values.{number_or}
use Rattle.sg_outfmt.specs.declared.shape.DriverKind.{DriverKind}
use Rattle.sg_outfmt.specs.declared.shape.DriverKind.TheVariants.{File, Network, Syslog}
use Rattle.sg_driver.specs.declared.defaults.Defaults.{Defaults}
use Rattle.sg_driver.specs.Limits.{connections, ports}
use Rattle.sg_driver.specs.Driver.{driver_kind, options_of, missing_unless, long_names}
use Rattle.sg_source.specs.declared.inlet.SourceDriver.{SourceDriver}
use Rattle.sg_source.specs.Sources.{listener_checks, source_checks, port_words, connection_words, store_of_source, listening_faults, listener_faults, source_faults, connection_count, count_by, inlet_count}
use Rattle.sg_source.specs.Inlets.{slots_of, place_by, slots_at, IsSourceDriver}
use Rattle.sg_resolve.specs.declared.templates.TemplateTexts.{TemplateTexts}
use Rattle.sg_resolve.specs.declared.driver.DriverCounts.{DriverCounts}
use Rattle.sg_resolve.specs.Templates.{templates_of}
use Rattle.sg_resolve.specs.Drivers.{no_drivers, own_faults, store_of, more_inlets, more_destinations, limit_faults, repeats, with_driver}
use Rattle.sg_resolve.specs.Ends.{drivers_of, counted}
use Rattle.sg_resolve.specs.Globals.{globals_faults}
use Rattle.sg_resolve.specs.Places.{places_faults}
use Rattle.sg_resolve.specs.First.{IsFirstFault}
use Rattle.sg_plan.proofs.Ranges.{number-or-within}
use Rattle.sg_list.proofs.ListLemmas.{some-same}

earlier-none : (a b : Option Placed) → earlier a b ≡ None → (a ≡ None) × (b ≡ None)
earlier-none None b e = (refl, e)
earlier-none (Some p) None e = absurd (none-some p (sym e))
earlier-none (Some p) (Some q) e = absurd (none-some (first_of p q) (sym e))

least-none : (faults : List Placed) → least faults ≡ None → faults ≡ []
least-none [] e = refl
least-none (p ∷ ps) e = absurd (none-some p (sym (earlier-none (Some p) (least ps) e).0))

no-fault-if : (b : Bool) (fault : Placed) → least (if b then fault ∷ [] else []) ≡ None → b ≡ false
no-fault-if true fault e = absurd (none-some fault (sym e))
no-fault-if false fault e = refl

cons-nil : {A : Type 0} (x : A) (xs : List A) → x ∷ xs ≡ [] → ⊥
cons-nil x xs e = cc

no-faults : {A : Type 0} (xs ys : List A) → xs ++ ys ≡ [] → (xs ≡ []) × (ys ≡ [])
no-faults [] ys e = (refl, e)
no-faults (x ∷ xs) ys e = absurd (cons-nil x (xs ++ ys) e)

-- ---- how many there are

abbrev pub inlets_by : Side → Call → ℕ
inlets_by side.Source call = inlet_count call
inlets_by side.Destination call = 0

abbrev pub outlets_by : Side → ℕ
outlets_by side.Source = 0
outlets_by side.Destination = 1

abbrev pub inlets_in : List (Side × Call) → ℕ
inlets_in [] = 0
inlets_in (d ∷ ds) = inlets_by d.0 d.1 + inlets_in ds

abbrev pub outlets_in : List (Side × Call) → ℕ
outlets_in [] = 0
outlets_in (d ∷ ds) = outlets_by d.0 + outlets_in ds

pub record AreClean (texts : TemplateTexts) (inlets outlets : ℕ) (ds : List (Side × Call)) : Type 0 where
  pub inlets_few : inlets + inlets_in ds ≤ 128
  pub outlets_few : outlets + outlets_in ds ≤ 64
  pub own : AllByRecursion (λ d. own_faults texts d.0 d.1 ≡ []) ds

-- a driver more, without a fault
record IsPlanCounted (texts : TemplateTexts) (count : DriverCounts) (d : Side × Call) : Type 0 where
  before : count.first ≡ None
  own : own_faults texts d.0 d.1 ≡ []
  limits : least (limit_faults (more_inlets count.inlets d.0 d.1) (more_destinations count.destinations d.0) d.0 d.1) ≡ None

counted-none : (texts : TemplateTexts) (count : DriverCounts) (d : Side × Call) → (with_driver texts count d).first ≡ None → IsPlanCounted texts count d
unfolding with_driver
counted-none texts count d e =
    let own = least (own_faults texts d.0 d.1) in
    let limits = least (limit_faults (more_inlets count.inlets d.0 d.1) (more_destinations count.destinations d.0) d.0 d.1) in
    let repeat = least (repeats count.stores (store_of d.0 d.1) d.1) in
    let p = earlier-none count.first (earlier own (earlier limits repeat)) e in
    let q = earlier-none own (earlier limits repeat) p.1 in
    record { before = p.0; own = least-none (own_faults texts d.0 d.1) q.0; limits = (earlier-none limits repeat q.1).0 }

first-kept : (texts : TemplateTexts) (count : DriverCounts) (ds : List (Side × Call)) → (fold (with_driver texts) count ds).first ≡ None → count.first ≡ None
first-kept texts count [] e = e
first-kept texts count (d ∷ ds) e = (counted-none texts count d (first-kept texts (with_driver texts count d) ds e)).before

at-most : (n m : ℕ) → nat_lt n m ≡ false → m ≤ n
at-most n m e = grind arith

inlets-more : (inlets outlets : ℕ) (side : Side) (call : Call) → inlets ≤ 128 → least (limit_faults (more_inlets inlets side call) (more_destinations outlets side) side call) ≡ None
    → (more_inlets inlets side call ≡ inlets + inlets_by side call) × (more_inlets inlets side call ≤ 128)
inlets-more inlets outlets side.Source call few e =
    let p = at-most 128 (min 129 (inlets + inlet_count call)) (no-fault-if (nat_lt 128 (min 129 (inlets + inlet_count call))) _ e) in
    (omega arith, p)
inlets-more inlets outlets side.Destination call few e = (omega arith, few)

outlets-more : (inlets outlets : ℕ) (side : Side) (call : Call) → outlets ≤ 64 → least (limit_faults (more_inlets inlets side call) (more_destinations outlets side) side call) ≡ None
    → (more_destinations outlets side ≡ outlets + outlets_by side) × (more_destinations outlets side ≤ 64)
outlets-more inlets outlets side.Source call few e = (omega arith, few)
outlets-more inlets outlets side.Destination call few e =
    let p = at-most 64 (min 65 (outlets + 1)) (no-fault-if (nat_lt 64 (min 65 (outlets + 1))) _ e) in
    (omega arith, p)

inlets-with : (texts : TemplateTexts) (count : DriverCounts) (d : Side × Call) → (with_driver texts count d).inlets ≡ more_inlets count.inlets d.0 d.1
unfolding with_driver
inlets-with texts count d = refl

outlets-with : (texts : TemplateTexts) (count : DriverCounts) (d : Side × Call) → (with_driver texts count d).destinations ≡ more_destinations count.destinations d.0
unfolding with_driver
outlets-with texts count d = refl

clean : (texts : TemplateTexts) (count : DriverCounts) (ds : List (Side × Call)) → count.inlets ≤ 128 → count.destinations ≤ 64
    → (fold (with_driver texts) count ds).first ≡ None → AreClean texts count.inlets count.destinations ds
clean texts count [] few some e = record { inlets_few = omega arith; outlets_few = omega arith; own = tt }
clean texts count (d ∷ ds) few some e =
    let next = with_driver texts count d in
    let here = counted-none texts count d (first-kept texts next ds e) in
    let i = inlets-more count.inlets count.destinations d.0 d.1 few here.limits in
    let o = outlets-more count.inlets count.destinations d.0 d.1 some here.limits in
    let ni = inlets-with texts count d in
    let no' = outlets-with texts count d in
    let rest = clean texts next ds (subst (λ k. k ≤ 128) (sym ni) i.1) (subst (λ k. k ≤ 64) (sym no') o.1) e in
    let ri = subst (λ k. k + inlets_in ds ≤ 128) (ni ∙ i.0) rest.inlets_few in
    let ro = subst (λ k. k + outlets_in ds ≤ 64) (no' ∙ o.0) rest.outlets_few in
    record { inlets_few = omega arith; outlets_few = omega arith; own = (here.own, rest.own) }

no-drivers-fault : (statements : List Statement) → IsFirstFault statements None → (counted (templates_of statements) statements).first ≡ None
no-drivers-fault statements h =
    let names = h.0 in
    let values = earlier (least (values_faults statements)) (least (globals_faults statements)) in
    let drivers = (counted (templates_of statements) statements).first in
    let places = least (places_faults statements) in
    let p = earlier-none names (earlier values (earlier drivers places)) (sym h.2) in
    let q = earlier-none values (earlier drivers places) p.1 in
    (earlier-none drivers places q.1).0

clean-count : (texts : TemplateTexts) (statements : List Statement) → (counted texts statements).first ≡ None → AreClean texts 0 0 (drivers_of statements)
unfolding counted
clean-count texts statements e = clean texts no_drivers (drivers_of statements) (omega arith) (omega arith) e

pub drivers-are-clean : (statements : List Statement) → IsFirstFault statements None → AreClean (templates_of statements) 0 0 (drivers_of statements)
drivers-are-clean statements h = clean-count (templates_of statements) statements (no-drivers-fault statements h)

-- ---- the inlets of a source

-- the option that counts is called so, and has no fault
abbrev IsCleanOption : List (List ℕ × Check) → List (List ℕ) → Call → Type 0
IsCleanOption rows words call = (is_called words call ≡ true) × (option_faults rows call ≡ [])

clean-here : (rows : List (List ℕ × Check)) (words : List (List ℕ)) (c call : Call) (b : Bool) → is_called words c ≡ b → (if b then Some c else None) ≡ Some call → option_faults rows c ≡ []
    → IsCleanOption rows words call
clean-here rows words c call true is e clean = subst (λ d. IsCleanOption rows words d) (some-same c call e) (is, clean)
clean-here rows words c call false is e clean = absurd (none-some call e)

clean-found : (rows : List (List ℕ × Check)) (words : List (List ℕ)) (c call : Call) (found : Option Call) → (found ≡ Some call → IsCleanOption rows words call)
    → later found (if is_called words c then Some c else None) ≡ Some call → option_faults rows c ≡ [] → IsCleanOption rows words call
clean-found rows words c call None rest e clean = clean-here rows words c call (is_called words c) refl e clean
clean-found rows words c call (Some d) rest e clean = rest e

last-clean : (rows : List (List ℕ × Check)) (words : List (List ℕ)) (calls : List Call) (call : Call) → bad_values rows calls ≡ [] → last_option words calls ≡ Some call → IsCleanOption rows words call
last-clean rows words [] call clean e = absurd (none-some call e)
last-clean rows words (c ∷ cs) call clean e =
    let parts = no-faults (option_faults rows c) (bad_values rows cs) clean in
    clean-found rows words c call (last_option words cs) (λ f. last-clean rows words cs call parts.1 f) e parts.0

first-true : (a b : Bool) → (a && b) ≡ true → a ≡ true
first-true true b e = refl
first-true false b e = e

other-word : (text : List ℕ) (c d : ℕ) (v w : List ℕ) → (c == d) ≡ false → same_keyword text (c ∷ v) ≡ true → same_keyword text (d ∷ w) ≡ false
other-word [] c d v w apart e = refl
other-word (b ∷ text) c d v w apart e =
    ap (λ x. (x == d) && same_keyword text w) (eqb-true (dashed b) c (first-true (dashed b == c) (same_keyword text v) e)) ∙ ap (λ x. x && same_keyword text w) apart

chosen : (b : Bool) → (if b then true else false) ≡ true → b ≡ true
chosen true e = refl
chosen false e = e

word-row : (text : List ℕ) → is_one_of text connection_words ≡ true → row_of listener_checks text ≡ Some (Within connections)
unfolding listener_checks
word-row text e =
    let same = chosen (same_keyword text (codes "max-connections")) e in
    let port = other-word text 109 112 (codes "ax-connections") (codes "ort") refl same in
    let localport = other-word text 109 108 (codes "ax-connections") (codes "ocalport") refl same in
    (λ i. if port i then Some (Within ports) else (if localport i then Some (Within ports) else (if same i then Some (Within connections) else None)))

counted-if : (number : Option ℕ) (fault : Placed) → (if is_some number then [] else fault ∷ []) ≡ [] → unwrap_or number 10 ≡ unwrap_or number 0
counted-if None fault e = absurd (cons-nil fault [] e)
counted-if (Some n) fault e = refl

same-count : (value : Option Spot) → value_faults (Within connections) value ≡ [] → number_or value connections 10 ≡ connection_count value
same-count None e = refl
same-count (Some spot) e = counted-if (number_in connections spot.token.text) (bad_value spot) e

value-clean : (option : Call) → IsCleanOption listener_checks connection_words option → value_faults (Within connections) (value_of option) ≡ []
value-clean option h = subst (λ row. faults_by row (value_of option) ≡ []) (word-row (word_of option).token.text h.0) h.1

option-count : (option : Option Call) → ((call : Call) → option ≡ Some call → value_faults (Within connections) (value_of call) ≡ [])
    → number_or (value_behind option) connections 10 ≡ connection_count (value_behind option)
option-count None h = refl
option-count (Some call) h = same-count (value_of call) (h call refl)

listener-slots : (call : Call) → listening_faults call ≡ [] → slots_of call ≡ connection_count (last_value connection_words (options_of call))
listener-slots call clean =
    let bad = (no-faults (missing_unless (last_option port_words (options_of call)) call) (bad_values listener_checks (options_of call)) clean).1 in
    option-count (last_option connection_words (options_of call)) (λ option e. value-clean option (last-clean listener_checks connection_words (options_of call) option bad e))

slots-by : (kind : DriverKind) (call : Call) → listener_faults kind call ≡ [] → slots_at (place_by kind call) ≡ count_by kind call
slots-by File call clean = refl
slots-by Network call clean = listener-slots call clean
slots-by Syslog call clean = listener-slots call clean

pub source-slots : (defaults : Defaults) (call : Call) (source : SourceDriver) → IsSourceDriver defaults call source → source_faults call ≡ [] → slots_at source.place ≡ inlet_count call
source-slots defaults call source is clean =
    ap slots_at is.place
    ∙ slots-by (driver_kind call) call (no-faults (listener_faults (driver_kind call) call) (bad_values source_checks (options_of call) ++ long_names call (store_of_source call)) clean).0

slots-some : (kind : DriverKind) (call : Call) → 1 ≤ slots_at (place_by kind call)
slots-some File call = omega arith
slots-some Network call = (number-or-within connections (last_value connection_words (options_of call)) 10 (omega arith, omega arith)).0
slots-some Syslog call = (number-or-within connections (last_value connection_words (options_of call)) 10 (omega arith, omega arith)).0

pub source-has-slots : (defaults : Defaults) (call : Call) (source : SourceDriver) → IsSourceDriver defaults call source → 1 ≤ slots_at source.place
source-has-slots defaults call source is = subst (λ p. 1 ≤ slots_at p) (sym is.place) (slots-some (driver_kind call) call)
