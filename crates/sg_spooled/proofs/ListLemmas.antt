-- The whole of a listing.
use Rattle.std.proofs.Common.{◌≡◌, ◌⊎◌, inl, inr, ℕ, ◌≤◌, false, true, List, [], ◌∷◌, ◌++◌, Option, Some, None, Result, Ok, Err, refl, sym, ◌∙◌, ap, subst, arith}
use Rattle.std.specs.Option.{option_map}
use Rattle.sg_device.specs.Disk.{DiskState, Preserves, Rests}
use Rattle.sg_device.specs.Faults.{Rose}
use Rattle.sg_device.proofs.Disks.{preserves_trans, told_before}
use Rattle.sg_device.proofs.DiskCalls.{tells_same, unchanged}
use Rattle.sg_outside.specs.World.{WorldState, Ledger, StandsNamed, StoreOpens, ClosesStore, with_opened, with_closed}
use Rattle.sg_outside.specs.declared.request.StoreSpec.{StoreSpec}
use Rattle.sg_outside.specs.declared.request.StoreSpec.{StoreSpec}
use Rattle.sg_report.specs.Entry.{entries_line}
use Rattle.sg_spool.specs.Opening.{HasRingReason}
use Rattle.sg_spool.specs.Ring.{IsList}
use Rattle.sg_spool.specs.View.{View}
use Rattle.sg_spool.proofs.Damages.{no_damage}
use Rattle.sg_spool.proofs.Unique.{list_unique}
use Rattle.sg_stable.specs.declared.fault.StoreRefusal.{StoreRefusal}
use Rattle.sg_stable.specs.declared.fault.StoreRefusal.TheVariants.{Damage as StoreDamage, DiskFault as StoreFault, NoMemory as StoreNoMemory}
use Rattle.sg_spooled.specs.Entries.{SpooledRow, AreRowsStored, payloads_of, row_lines, IsListBegun}
use Rattle.sg_output.specs.Saying.{OnlySays, SaidText, SaidSome}
use Rattle.sg_spooled.specs.Walking.{UnlessUnsaid, WalkEnds, WalksBy, Walks, end_text, answer_of, EndsListing}
use Rattle.sg_spooled.specs.Listing.{StoreUse, spec_of, IfOpened, IsStoreFileThere, IsListingKept, IsListDamaged, HasListingCause, SaysList, IsDiskSpelled, ListsUntroubled, WasListed, unlisted_for, ListsBy, ListsStore, Spools}
use Rattle.sg_spooled.specs.declared.unlisted.Unlisted.{Unlisted}
use Rattle.sg_spooled.specs.declared.unlisted.Unlisted.TheVariants.{NotOpened, Damage, DiskFault, SayFault, NoMemory}
use Rattle.sg_spooled.proofs.EntryLemmas.{stored-among}
use Rattle.sg_output.proofs.Sayings.{rose-later, rose-on, only-says-then, all-said}

-- over an open store

kept-all : (result : Result Unit Unlisted) (opened closed : DiskState) → Preserves opened closed → IsListingKept result opened closed
kept-all (Ok done) opened closed p = p
kept-all (Err e) opened closed p = tells_same opened closed p

abbrev use_of : DiskState → DiskState → StoreUse
use_of opened closed = record { opened = opened; closed = closed }

caused : {D : Type 0} (state : D → DiskState) (old new : View D) (a b c : WorldState) (opened : DiskState) (rows : List SpooledRow) (walked : Result ℕ Unlisted)
    → Preserves opened (state old.disk) → opened.faults ≤ (state old.disk).faults → OnlySays b c → WalkEnds state old new a b rows walked
    → HasListingCause a c (Some (use_of opened (state new.disk))) rows (answer_of walked)
caused state old new a b c opened rows (Ok count) same later says ends = told_before opened (state old.disk) (IsList (payloads_of rows)) same ends.1
caused state old new a b c opened rows (Err NotOpened) same later says ends = absurd ends
caused state old new a b c opened rows (Err (Damage at)) same later says ends =
    told_before opened (state old.disk) (IsListDamaged at rows) same (λ bytes told. inr (ends bytes told))
caused state old new a b c opened rows (Err DiskFault) same later says ends =
    (rose-later opened.faults (state old.disk).faults (state new.disk).faults later ends.0, told_before opened (state old.disk) (IsListBegun rows) same ends.1)
caused state old new a b c opened rows (Err SayFault) same later says ends = rose-on a.say_faults b.say_faults c.say_faults ends says.later
caused state old new a b c opened rows (Err NoMemory) same later says ends = tt

said-list : {D : Type 0} (state : D → DiskState) (old new : View D) (a b c : WorldState) (text : List ℕ) (rows : List SpooledRow) (walked : Result ℕ Unlisted)
    → WalkEnds state old new a b rows walked → UnlessUnsaid walked (SaidSome a b (row_lines 0 rows) text) → UnlessUnsaid walked (SaidText b c (text ++ end_text walked)) → SaysList a c rows (answer_of walked)
said-list state old new a b c text rows (Ok count) ends some rest =
    subst (λ (n : ℕ). SaidText a c (row_lines 0 rows ++ entries_line n)) ends.0 (all-said a b c (row_lines 0 rows) text (entries_line count) some rest)
said-list state old new a b c text rows (Err NotOpened) ends some rest = absurd ends
said-list state old new a b c text rows (Err (Damage at)) ends some rest = all-said a b c (row_lines 0 rows) text (end_text (Err (Damage at))) some rest
said-list state old new a b c text rows (Err DiskFault) ends some rest = all-said a b c (row_lines 0 rows) text (end_text (Err DiskFault)) some rest
said-list state old new a b c text rows (Err SayFault) ends some rest = tt
said-list state old new a b c text rows (Err NoMemory) ends some rest = tt

listed-by : {D : Type 0} (state : D → DiskState) (old new : View D) (a b c : WorldState) (opened : DiskState) (text : List ℕ) (rows : List SpooledRow) (walked : Result ℕ Unlisted) (result : Result Unit Unlisted)
    → Preserves opened (state old.disk) → opened.faults ≤ (state old.disk).faults → WalksBy state old new a b text walked rows → OnlySays b c
    → ((result ≡ answer_of walked) × UnlessUnsaid walked (SaidText b c (text ++ end_text walked))) ⊎ (((result ≡ Err SayFault) × Rose b.say_faults c.say_faults) ⊎ (result ≡ Err NoMemory))
    → HasListingCause a c (Some (use_of opened (state new.disk))) rows result × SaysList a c rows result
listed-by state old new a b c opened text rows walked result same later w says (inl (is, rest)) =
    subst (λ (r : Result Unit Unlisted). HasListingCause a c (Some (use_of opened (state new.disk))) rows r × SaysList a c rows r) (sym is)
    (caused state old new a b c opened rows walked same later says w.ends, said-list state old new a b c text rows walked w.ends w.said rest)
listed-by state old new a b c opened text rows walked result same later w says (inr (inl (is, rose))) =
    subst (λ (r : Result Unit Unlisted). HasListingCause a c (Some (use_of opened (state new.disk))) rows r × SaysList a c rows r) (sym is)
    (rose-later a.say_faults b.say_faults c.say_faults w.says.later rose, tt)
listed-by state old new a b c opened text rows walked result same later w says (inr (inr is)) =
    subst (λ (r : Result Unit Unlisted). HasListingCause a c (Some (use_of opened (state new.disk))) rows r × SaysList a c rows r) (sym is) (tt, tt)

-- the entries of an open store were listed
pub lists-walked : {D : Type 0} (state : D → DiskState) (old new : View D) (a b c : WorldState) (opened : DiskState) (text : List ℕ) (walked : Result ℕ Unlisted) (result : Result Unit Unlisted)
    → Preserves opened (state old.disk) → opened.faults ≤ (state old.disk).faults → Walks state old new a b text walked → EndsListing b c text walked result
    → ListsStore a c opened (state new.disk) result
lists-walked state old new a b c opened text walked result same later (rows, w) e =
    let (cause, said) = listed-by state old new a b c opened text rows walked result same later w e.says e.ends in (
      rows,
      record {
        says = only-says-then a b c w.says e.says;
        kept = kept-all result opened (state new.disk) (preserves_trans same (unchanged (state old.disk) (state new.disk) w.told));
        later = (let k = w.later in omega (arith, later, k));
        stored = w.stored;
        cause = cause;
        said = said;
      },
    )

refused-cause : (a c : WorldState) (opened closed : DiskState) (refusal : StoreRefusal) → HasRingReason opened closed refusal → HasListingCause a c (Some (use_of opened closed)) [] (Err (unlisted_for refusal))
refused-cause a c opened closed (StoreDamage at) reason = λ bytes told. inl (refl, reason bytes told)
refused-cause a c opened closed StoreFault reason = (reason, λ bytes told. inl refl)
refused-cause a c opened closed StoreNoMemory reason = tt

refused-said : (a c : WorldState) (refusal : StoreRefusal) → UnlessUnsaid {T = ℕ} (Err (unlisted_for refusal)) (SaidText a c ([] ++ end_text (Err (unlisted_for refusal)))) → SaysList a c [] (Err (unlisted_for refusal))
refused-said a c (StoreDamage at) said = said
refused-said a c StoreFault said = said
refused-said a c StoreNoMemory said = tt

refused-by : (a c : WorldState) (opened closed : DiskState) (refusal : StoreRefusal) (result : Result Unit Unlisted) → Rests opened closed → opened.faults ≤ closed.faults → HasRingReason opened closed refusal → OnlySays a c
    → ((result ≡ Err (unlisted_for refusal)) × UnlessUnsaid {T = ℕ} (Err (unlisted_for refusal)) (SaidText a c ([] ++ end_text (Err (unlisted_for refusal))))) ⊎ (((result ≡ Err SayFault) × Rose a.say_faults c.say_faults) ⊎ (result ≡ Err NoMemory))
    → ListsBy a c opened closed result []
refused-by a c opened closed refusal result rests later reason says (inl (is, said)) =
    subst (λ (r : Result Unit Unlisted). ListsBy a c opened closed r []) (sym is)
    (record { says = says; kept = rests; later = later; stored = tt; cause = refused-cause a c opened closed refusal reason; said = refused-said a c refusal said })
refused-by a c opened closed refusal result rests later reason says (inr (inl (is, rose))) =
    subst (λ (r : Result Unit Unlisted). ListsBy a c opened closed r []) (sym is)
    (record { says = says; kept = rests; later = later; stored = tt; cause = rose; said = tt })
refused-by a c opened closed refusal result rests later reason says (inr (inr is)) =
    subst (λ (r : Result Unit Unlisted). ListsBy a c opened closed r []) (sym is)
    (record { says = says; kept = rests; later = later; stored = tt; cause = tt; said = tt })

-- it isn't a disk-buffer's
pub lists-refused : (a c : WorldState) (opened closed : DiskState) (refusal : StoreRefusal) (walked : Result ℕ Unlisted) (text : List ℕ) (result : Result Unit Unlisted) → Rests opened closed → opened.faults ≤ closed.faults → HasRingReason opened closed refusal
    → walked ≡ Err (unlisted_for refusal) → text ≡ [] → EndsListing a c text walked result → ListsStore a c opened closed result
lists-refused a c opened closed refusal walked text result rests later reason is none e =
    let at : EndsListing a c [] (Err (unlisted_for refusal)) result = subst (λ (t : List ℕ). EndsListing a c t (Err (unlisted_for refusal)) result) none (subst (λ (w : Result ℕ Unlisted). EndsListing a c text w result) is e) in
    ([], refused-by a c opened closed refusal result rests later reason at.says at.ends)

-- the whole

damage-none : (at : ℕ) (rows others : List SpooledRow) (bytes : List ℕ) → IsList (payloads_of others) bytes → AreRowsStored others → IsListDamaged at rows bytes → ⊥
damage-none at rows others bytes list stored (inl (none, damaged)) = no_damage (payloads_of others) at bytes list damaged
damage-none at rows others bytes list stored (inr first) =
    stored-among rows others first.payload first.rest stored
    (list_unique (payloads_of others) (payloads_of rows ++ first.payload ∷ first.rest) bytes list (record { jump = first.jump; head = first.head; end = first.end; laid = first.laid })) first.bad

pub complete-of : (old new : WorldState) (store_use : Option StoreUse) (rows : List SpooledRow) (result : Result Unit Unlisted) → HasListingCause old new store_use rows result → ListsUntroubled old new store_use → IfOpened store_use (λ s. IsDiskSpelled s.opened) → WasListed result
complete-of old new store_use rows (Ok done) cause well spelled = tt
complete-of old new store_use rows (Err NoMemory) cause well spelled = tt
complete-of old new store_use rows (Err NotOpened) cause well spelled = well.open' cause.2
complete-of old new store_use rows (Err SayFault) cause well spelled = well.say cause
complete-of old new None rows (Err (Damage at)) cause well spelled = cause
complete-of old new (Some s) rows (Err (Damage at)) cause well spelled = damage-none at rows spelled.rows spelled.bytes spelled.list spelled.stored (cause spelled.bytes spelled.told)
complete-of old new None rows (Err DiskFault) cause well spelled = cause
complete-of old new (Some s) rows (Err DiskFault) cause well spelled = well.disk cause.0

names-stay : (before after : Option (List (List ℕ))) (file : List ℕ) (disk : DiskState) → StandsNamed before (spec_of file) disk after → (after ≡ before) × IsStoreFileThere before file
names-stay None after file disk h = (h, tt)
names-stay (Some names) None file disk h = absurd h
names-stay (Some names) (Some after) file disk (inl (there, same)) = (ap (λ (ns : List (List ℕ)). Some ns) same, there)
names-stay (Some names) (Some after) file disk (inr (made, told, rest)) = (let wrong : false ≡ true = made in absurd cc)

cause-wider : (a b c d : WorldState) (opened closed : DiskState) (rows : List SpooledRow) (result : Result Unit Unlisted) → a.say_faults ≡ b.say_faults → d.say_faults ≡ c.say_faults
    → HasListingCause b c (Some (use_of opened closed)) rows result → HasListingCause a d (Some (use_of opened closed)) rows result
cause-wider a b c d opened closed rows (Ok done) e f cause = cause
cause-wider a b c d opened closed rows (Err NotOpened) e f cause = (let wrong : Some (use_of opened closed) ≡ None = cause.0 in absurd cc)
cause-wider a b c d opened closed rows (Err (Damage at)) e f cause = cause
cause-wider a b c d opened closed rows (Err DiskFault) e f cause = cause
cause-wider a b c d opened closed rows (Err SayFault) e f cause = subst (λ (n : ℕ). Rose n d.say_faults) (sym e) (subst (λ (n : ℕ). Rose b.say_faults n) (sym f) cause)
cause-wider a b c d opened closed rows (Err NoMemory) e f cause = cause

text-wider : (a b c d : WorldState) (text : List ℕ) → a.said ≡ b.said → d.said ≡ c.said → SaidText b c text → SaidText a d text
text-wider a b c d text e f said = f ∙ (said ∙ ap (λ (s : Option (List ℕ)). option_map (λ said. said ++ text) s) (sym e))

said-wider : (a b c d : WorldState) (rows : List SpooledRow) (result : Result Unit Unlisted) → a.said ≡ b.said → d.said ≡ c.said → SaysList b c rows result → SaysList a d rows result
said-wider a b c d rows (Ok done) e f said = text-wider a b c d _ e f said
said-wider a b c d rows (Err NotOpened) e f said = text-wider a b c d _ e f said
said-wider a b c d rows (Err (Damage at)) e f said = text-wider a b c d _ e f said
said-wider a b c d rows (Err DiskFault) e f said = text-wider a b c d _ e f said
said-wider a b c d rows (Err SayFault) e f said = tt
said-wider a b c d rows (Err NoMemory) e f said = tt

state-with-use : (old a b new : WorldState) (file : List ℕ) (opened closed : DiskState) → a ≡ record old { store_faults = a.store_faults; store_names = a.store_names; stores = with_opened old.stores (spec_of file) opened } → a.store_names ≡ old.store_names
    → b ≡ record a { say_faults = b.say_faults; said = b.said } → new ≡ record b { stores = with_closed b.stores closed }
    → new ≡ record old { stores = with_closed (with_opened old.stores (spec_of file) opened) closed; store_faults = new.store_faults; say_faults = new.say_faults; said = new.said }
state-with-use old a b new file opened closed e s f g =
    let stores : Ledger StoreSpec DiskState = with_closed (with_opened old.stores (spec_of file) opened) closed in
    let store' : a.store_faults ≡ new.store_faults = sym (ap (λ (w : WorldState). w.store_faults) f) ∙ sym (ap (λ (w : WorldState). w.store_faults) g) in
    let say' : b.say_faults ≡ new.say_faults = sym (ap (λ (w : WorldState). w.say_faults) g) in
    let said' : b.said ≡ new.said = sym (ap (λ (w : WorldState). w.said) g) in
    let wide : new ≡ record old { stores = stores; store_faults = a.store_faults; say_faults = b.say_faults; said = b.said; store_names = a.store_names } =
    g ∙ (ap (λ (w : WorldState). record w { stores = with_closed w.stores closed }) f
    ∙ ap (λ (w : WorldState). record w { stores = with_closed w.stores closed; say_faults = b.say_faults; said = b.said }) e) in
    wide ∙ (ap (λ (n : ℕ). record old { stores = stores; store_faults = n; say_faults = b.say_faults; said = b.said; store_names = a.store_names }) store'
    ∙ (ap (λ (n : ℕ). record old { stores = stores; store_faults = new.store_faults; say_faults = n; said = b.said; store_names = a.store_names }) say'
    ∙ (ap (λ (t : Option (List ℕ)). record old { stores = stores; store_faults = new.store_faults; say_faults = new.say_faults; said = t; store_names = a.store_names }) said'
    ∙ ap (λ (h : Option (List (List ℕ))). record old { stores = stores; store_faults = new.store_faults; say_faults = new.say_faults; said = new.said; store_names = h }) s)))

-- the store was opened, and closed behind its listing
pub spools-opened : (old a b new : WorldState) (file : List ℕ) (opened closed : DiskState) (result : Result Unit Unlisted) → StoreOpens old a (spec_of file) opened → ListsStore a b opened closed result → ClosesStore b new closed → Spools old new file result
spools-opened old a b new file opened closed result (is, later, stands) (rows, l) closes =
    let (same, there) = names-stay old.store_names a.store_names file opened stands in
    let faults : a.say_faults ≡ old.say_faults = ap (λ (w : WorldState). w.say_faults) is in
    let told : a.said ≡ old.said = ap (λ (w : WorldState). w.said) is in
    let faults' : new.say_faults ≡ b.say_faults = ap (λ (w : WorldState). w.say_faults) closes in
    let told' : new.said ≡ b.said = ap (λ (w : WorldState). w.said) closes in
    let stores' : new.store_faults ≡ a.store_faults = ap (λ (w : WorldState). w.store_faults) closes ∙ ap (λ (w : WorldState). w.store_faults) l.says.same in
    let cause = cause-wider old a b new opened closed rows result (sym faults) faults' l.cause in (
      Some (use_of opened closed),
      (
        rows,
        record {
          state = state-with-use old a b new file opened closed is same l.says.same closes;
          store_later = subst (λ (n : ℕ). old.store_faults ≤ n) (sym stores') later;
          say_later = (let k = l.says.later in omega (arith, faults, faults', k));
          there = there;
          kept = (l.kept, l.later);
          stored = l.stored;
          cause = cause;
          said = said-wider old a b new rows result (sym told) told' l.said;
          complete = complete-of old new (Some (use_of opened closed)) rows result cause;
        },
      ),
    )

unopened-by : (old new : WorldState) (file : List ℕ) (result : Result Unit Unlisted) → new ≡ record old { store_faults = new.store_faults; say_faults = new.say_faults; said = new.said } → old.store_faults ≤ new.store_faults → old.say_faults ≤ new.say_faults
    → HasListingCause old new None [] result → SaysList old new [] result → Spools old new file result
unopened-by old new file result is store say cause said = (
  None,
  (
    [],
    record {
      state = is;
      store_later = store;
      say_later = say;
      there = tt;
      kept = tt;
      stored = tt;
      cause = cause;
      said = said;
      complete = complete-of old new None [] result cause;
    },
  ),
)

state-says : (old a new : WorldState) → a ≡ record old { store_faults = a.store_faults } → new ≡ record a { say_faults = new.say_faults; said = new.said } → new ≡ record old { store_faults = new.store_faults; say_faults = new.say_faults; said = new.said }
state-says old a new e f =
    let store' : a.store_faults ≡ new.store_faults = sym (ap (λ (w : WorldState). w.store_faults) f) in
    f ∙ (ap (λ (w : WorldState). record w { say_faults = new.say_faults; said = new.said }) e
    ∙ ap (λ (n : ℕ). record old { store_faults = n; say_faults = new.say_faults; said = new.said }) store')

unopened-ends : (old a new : WorldState) (text : List ℕ) (result : Result Unit Unlisted) → a.say_faults ≡ old.say_faults → a.said ≡ old.said → new.store_faults ≡ a.store_faults → Rose old.store_faults a.store_faults → text ≡ []
    → ((result ≡ Err NotOpened) × SaidText a new (text ++ end_text (Err NotOpened))) ⊎ (((result ≡ Err SayFault) × Rose a.say_faults new.say_faults) ⊎ (result ≡ Err NoMemory)) → HasListingCause old new None [] result × SaysList old new [] result
unopened-ends old a new text result faults told stores rose none (inl (is, said)) =
    let all : SaidText a new (end_text (Err NotOpened)) = subst (λ (t : List ℕ). SaidText a new (t ++ end_text (Err NotOpened))) none said in
    subst (λ (r : Result Unit Unlisted). HasListingCause old new None [] r × SaysList old new [] r) (sym is)
    ((refl, refl, subst (λ (n : ℕ). Rose old.store_faults n) (sym stores) rose), text-wider old a new new (end_text (Err NotOpened)) (sym told) refl all)
unopened-ends old a new text result faults told stores rose none (inr (inl (is, rose'))) =
    subst (λ (r : Result Unit Unlisted). HasListingCause old new None [] r × SaysList old new [] r) (sym is) (subst (λ (n : ℕ). Rose n new.say_faults) faults rose', tt)
unopened-ends old a new text result faults told stores rose none (inr (inr is)) =
    subst (λ (r : Result Unit Unlisted). HasListingCause old new None [] r × SaysList old new [] r) (sym is) (tt, tt)

-- it couldn't be opened
pub spools-unopened : (old a new : WorldState) (file : List ℕ) (text : List ℕ) (result : Result Unit Unlisted) → a ≡ record old { store_faults = a.store_faults } → old.store_faults ≤ a.store_faults → Rose old.store_faults a.store_faults → text ≡ [] → EndsListing a new text (Err NotOpened) result
    → Spools old new file result
spools-unopened old a new file text result is later rose none e =
    let faults : a.say_faults ≡ old.say_faults = ap (λ (w : WorldState). w.say_faults) is in
    let told : a.said ≡ old.said = ap (λ (w : WorldState). w.said) is in
    let stores : new.store_faults ≡ a.store_faults = ap (λ (w : WorldState). w.store_faults) e.says.same in
    let (cause, said) = unopened-ends old a new text result faults told stores rose none e.ends in
    unopened-by old new file result (state-says old a new is e.says.same) (subst (λ (n : ℕ). old.store_faults ≤ n) (sym stores) later) (let k = e.says.later in omega (arith, faults, k)) cause said

-- memory ran out
pub spools-empty : (old new : WorldState) (file : List ℕ) → new ≡ record old { store_faults = new.store_faults } → old.store_faults ≤ new.store_faults → Spools old new file (Err NoMemory)
spools-empty old new file is later =
    let faults : new.say_faults ≡ old.say_faults = ap (λ (w : WorldState). w.say_faults) is in
    unopened-by old new file (Err NoMemory) (state-says old new new is refl) later (omega (arith, faults)) tt tt

-- the same of a store whose name is that of FILE
pub spools-named : (old a b new : WorldState) (file name : List ℕ) (opened closed : DiskState) (result : Result Unit Unlisted) → name ≡ file → StoreOpens old a (record { name = name; create = false; size = 0 }) opened → ListsStore a b opened closed result → ClosesStore b new closed → Spools old new file result
spools-named old a b new file name opened closed result same opens lists closes =
    spools-opened old a b new file opened closed result (subst (λ (n : List ℕ). StoreOpens old a (record { name = n; create = false; size = 0 }) opened) same opens) lists closes
