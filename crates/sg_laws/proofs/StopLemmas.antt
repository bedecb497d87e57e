-- Runs one after another.
use Rattle.std.proofs.Common.{◌≡◌, ℕ, List, [], ◌∷◌, ◌++◌, refl, sym, ap, ◌∙◌, subst, arith, inl, inr, ◌⊎◌, append_assoc}
use Rattle.std.specs.Prelude.{Contains}
use Rattle.std.proofs.lemmas.List.{append-nil}
use Rattle.std.proofs.lemmas.List.Elements.{Contains-append_left, Contains-append_right}
use Rattle.sg_list.proofs.ListLemmas.{slice_get-some, slice_get-below}
use Rattle.sg_msg.specs.declared.offer.Offer.{Offer}
use Rattle.sg_machine.specs.declared.setup.Setup.{Setup}
use Rattle.sg_machine.specs.Runs.{BufferedEntry}
use Rattle.sg_machine.specs.Safe.{Images}
use Rattle.sg_machine.proofs.RunLemmas.{length-inlets, length-opened_inlets}
use Rattle.sg_laws.specs.Pieces.{Piece, Rise}
use Rattle.sg_laws.specs.Covered.{Pass, Delivery, Offers, IsFile, as_given, as_stored, entry_of, taking_of, list_at, IsOfferHeld, IsKeptSafe, IsPassed, IsOfferOf, Covered}
use Rattle.sg_laws.specs.Passes.{Stopped, taken_in, IsStoppedRun}
use Rattle.sg_laws.specs.Adding.{Follow, all_taken, all_passes, position_in, EndsClean, IsTaken, IsTakingOf, IsEntryIn, TakeOffers, AddUp, AreFresh}
use Rattle.sg_laws.proofs.HasLemmas.{has-nil}
use Rattle.sg_laws.proofs.PieceLemmas.{above-zero, rising}
use Rattle.sg_laws.proofs.OfferLemmas.{offer-more, IsOfferGiven, events-given, events-weaken}
use Rattle.sg_laws.proofs.CoverLemmas.{start_of, run-holds, covers-run}

abbrev pub images_behind : Images → List Stopped → Images
images_behind images [] = images
images_behind images (run ∷ runs) = images_behind run.images runs

abbrev pub files_behind : (ℕ → List Piece) → List Stopped → ℕ → List Piece
files_behind files [] = files
files_behind files (run ∷ runs) = files_behind run.files runs

pub images-last : (images : Images) (runs : List Stopped) (last : Stopped) → images_behind images (runs ++ last ∷ []) ≡ last.images
images-last images [] last = refl
images-last images (run ∷ runs) last = images-last run.images runs last

pub files-last : (files : ℕ → List Piece) (runs : List Stopped) (last : Stopped) → files_behind files (runs ++ last ∷ []) ≡ last.files
files-last files [] last = refl
files-last files (run ∷ runs) last = files-last run.files runs last

pub covers-all : (setup : Setup) (offers : Offers) (files : ℕ → List Piece) (taken : List Delivery) (passes : List Pass) (old : ℕ → ℕ) (before : Images) (runs : List Stopped) → Covered setup offers files taken passes old before → Follow setup offers files before runs
    → Covered setup offers (files_behind files runs) (taken ++ all_taken setup runs) (passes ++ all_passes runs) old (images_behind before runs)
covers-all setup offers files taken passes old before [] c f =
    let P : List Delivery → Type 0 = λ ts. Covered setup offers files ts passes old before in
    let Q : List Pass → Type 0 = λ ps. Covered setup offers files (taken ++ []) ps old before in
    subst Q (sym (append-nil passes)) (subst P (sym (append-nil taken)) c)
covers-all setup offers files taken passes old before (run ∷ runs) c f =
    let one = covers-run setup offers files taken passes old before run c f.0 f.1 in
    let all = covers-all setup offers run.files (taken ++ taken_in setup run) (passes ++ run.passes) old run.images runs one f.2 in
    let P : List Delivery → Type 0 = λ ts. Covered setup offers (files_behind run.files runs) ts ((passes ++ run.passes) ++ all_passes runs) old (images_behind run.images runs) in
    let Q : List Pass → Type 0 = λ ps. Covered setup offers (files_behind run.files runs) (taken ++ (taken_in setup run ++ all_taken setup runs)) ps old (images_behind run.images runs) in
    subst Q (append_assoc passes run.passes (all_passes runs)) (subst P (append_assoc taken (taken_in setup run) (all_taken setup runs)) all)

-- the last one, which began with some images
follow-last : (setup : Setup) (offers : Offers) (files : ℕ → List Piece) (before : Images) (runs : List Stopped) (last : Stopped) → Follow setup offers files before (runs ++ last ∷ []) → (images : Images) × IsStoppedRun setup offers images last
follow-last setup offers files before [] last f = (before, f.1)
follow-last setup offers files before (run ∷ runs) last f = follow-last setup offers run.files run.images runs last f.2

none-held : (setup : Setup) (taken : List Delivery) (images : Images) (p : Pass) (o : Offer) → list_at setup images o.dest ≡ [] → IsOfferHeld setup taken images p o → Contains taken (taking_of o)
none-held setup taken images p o none (inl t) = t
none-held setup taken images p o none (inr m) = let P : List BufferedEntry → Type 0 = λ ks. Contains ks (entry_of p o) in absurd (has-nil (entry_of p o) (subst P none m))

is-taken : (setup : Setup) (taken : List Delivery) (images : Images) (old : ℕ) (p : Pass) (o : Offer) → list_at setup images o.dest ≡ [] → IsKeptSafe setup taken images old p o → IsTaken taken old p o
is-taken setup taken images old p o none (inl a) = inl (none-held setup taken images p o none a)
is-taken setup taken images old p o none (inr b) = inr (b.0, none-held setup taken images p (as_stored o) none b.1)

every-record : (setup : Setup) (offers : Offers) (taken : List Delivery) (passes : List Pass) (old : ℕ → ℕ) (images : Images) (last : Stopped) → Covered setup offers last.files taken passes old last.images → EndsClean setup last.files last.images → IsStoppedRun setup offers images last
    → (i : ℕ) (x : Piece) → IsFile setup i → Contains (last.files i) x → IsPassed offers (IsTaken taken (old i)) passes i x
every-record setup offers taken passes old images last covered clean h i x file c =
    let many = h.safe.images_at.every_position in
    let long = length-inlets (start_of setup last) last.events in
    let wide = length-opened_inlets setup.sources last.opening.places in
    let below = slice_get-below setup.sources i file.source file.at in
    let p = slice_get-some last.images.positions i (omega (arith, many, long, wide, below)) in
    let r = covered.items i p.0 x file p.1 c (clean.positions i p.0 x file p.1 c) in
    record { pass = r.pass; had = r.had; is = r.is; given = r.given; gives = r.gives; each = λ o m f. is-taken setup taken last.images (old i) r.pass o (clean.lists o.dest) (r.each o m f) }

-- Nothing else is taken.

-- an entry is an offer of one of these passes, or stood in the stores at the start, in stored form
abbrev IsStopDue : Setup → Offers → Images → List Pass → List Pass → ℕ → BufferedEntry → Type 0
IsStopDue setup offers started first passes d k = IsOfferOf as_given offers passes d k ⊎ (IsOfferOf as_stored offers first d k × Contains (list_at setup started d) k)

due-more : (setup : Setup) (offers : Offers) (started : Images) (first a b : List Pass) (d : ℕ) (k : BufferedEntry) → ((p : Pass) → Contains a p → Contains b p) → IsStopDue setup offers started first a d k → IsStopDue setup offers started first b d k
due-more setup offers started first a b d k more (inl o) = inl (offer-more as_given offers a b d k more o)
due-more setup offers started first a b d k more (inr o) = inr o

taking-is : (form : Offer → Offer) (offers : Offers) (passes : List Pass) (t : Delivery) (k : BufferedEntry) → ((o : Offer) → (form o).dest ≡ o.dest) → t ≡ record { dest = t.dest; message = k.message } → IsOfferOf form offers passes t.dest k → IsTakingOf form offers passes t
taking-is form offers passes t k same is o =
    record {
      pass = o.pass;
      had = o.had;
      given = o.given;
      gives = o.gives;
      offer = o.offer;
      among = o.among;
      taking = is
          ∙ ap (λ (x : BufferedEntry). let y : Delivery = record { dest = t.dest; message = x.message } in y) o.entry
          ∙ ap (λ (n : ℕ). let y : Delivery = record { dest = n; message = (form o.offer).message } in y) (sym o.dest ∙ sym (same o.offer));
    }

taking-due : (setup : Setup) (offers : Offers) (started : Images) (first passes : List Pass) (t : Delivery) (k : BufferedEntry) → t ≡ record { dest = t.dest; message = k.message } → IsStopDue setup offers started first passes t.dest k
    → IsTakingOf as_given offers passes t ⊎ (IsTakingOf as_stored offers first t × IsEntryIn setup started t)
taking-due setup offers started first passes t k is (inl o) = inl (taking-is as_given offers passes t k (λ x. refl) is o)
taking-due setup offers started first passes t k is (inr o) = inr (taking-is as_stored offers first t k (λ x. refl) is o.0, (k, (o.1, is)))

no-other : (setup : Setup) (offers : Offers) (files : ℕ → List Piece) (started : Images) (first passes : List Pass) (before : Images) (runs : List Stopped) → ((d : ℕ) (k : BufferedEntry) → Contains (list_at setup before d) k → IsStopDue setup offers started first passes d k)
    → Follow setup offers files before runs → TakeOffers setup offers started first passes runs
no-other setup offers files started first passes before [] due f = tt
no-other setup offers files started first passes before (run ∷ runs) due f =
    let all = passes ++ run.passes in
    let P : ℕ → BufferedEntry → Type 0 = IsStopDue setup offers started first all in
    let given = events-given offers _ all run.passes (λ p c. Contains-append_right passes run.passes p c) f.1.admits in
    let events = events-weaken (IsOfferGiven offers all) P _ (λ d k o. inl o) given in
    let r = run-holds P setup offers before run f.1 (λ d k c. due-more setup offers started first passes all d k (λ p m. Contains-append_left passes run.passes p m) (due d k c)) events in (
      λ t c. (let k = r.taken t c in taking-due setup offers started first all t k.0 k.1.1 k.1.0),
      no-other setup offers run.files started first all run.images runs r.lists f.2,
    )

started-due : (setup : Setup) (offers : Offers) (files : ℕ → List Piece) (taken : List Delivery) (passes : List Pass) (old : ℕ → ℕ) (before : Images) → Covered setup offers files taken passes old before → (d : ℕ) (k : BufferedEntry) → Contains (list_at setup before d) k
    → IsStopDue setup offers before passes passes d k
started-due setup offers files taken passes old before c d k m = elim (c.entries d k m) [ inl o ↦ inl o | inr o ↦ inr (o, m) ]

-- The whole.

pub add-up : (setup : Setup) (offers : Offers) (files : ℕ → List Piece) (taken : List Delivery) (passes : List Pass) (before : Images) (runs : List Stopped) (last : Stopped) → Covered setup offers files taken passes (position_in before) before
    → Follow setup offers files before (runs ++ last ∷ []) → EndsClean setup last.files last.images → AddUp setup offers taken passes before runs last
add-up setup offers files taken passes before runs last covered follow clean =
    let all = runs ++ last ∷ [] in
    let old = position_in before in
    let end = covers-all setup offers files taken passes old before all covered follow in
    let P : Images → Type 0 = λ images. Covered setup offers (files_behind files all) (taken ++ all_taken setup all) (passes ++ all_passes all) old images in
    let Q : (ℕ → List Piece) → Type 0 = λ held. Covered setup offers held (taken ++ all_taken setup all) (passes ++ all_passes all) old last.images in
    let at_last = subst Q (files-last files runs last) (subst P (images-last before runs last) end) in
    let stopped = follow-last setup offers files before runs last follow in
    record {
      every = every-record setup offers (taken ++ all_taken setup all) (passes ++ all_passes all) old stopped.0 last at_last clean stopped.1;
      no_other = no-other setup offers files before passes passes before all (started-due setup offers files taken passes old before covered) follow;
    }

pub fresh-covered : (setup : Setup) (offers : Offers) (files : ℕ → List Piece) (old : ℕ → ℕ) (images : Images) → ((i : ℕ) → Rise 0 (files i)) → AreFresh setup images → Covered setup offers files [] [] old images
fresh-covered setup offers files old images rises fresh = record {
  positions = λ i position file at. inl (fresh.positions i position at);
  items = λ i position x file at c low. (let none = fresh.positions i position at in let above = above-zero (files i) x (rising 0 (files i) (rises i)) c in absurd (omega (arith, none, above, low)));
  entries = λ d k c. (let P : List BufferedEntry → Type 0 = λ ks. Contains ks k in absurd (has-nil k (subst P (fresh.lists d) c)));
}
