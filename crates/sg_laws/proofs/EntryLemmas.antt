-- What holds of each entry at first and of each offer that came in holds of each entry that is kept, and of each that a stop may leave.
use Rattle.std.proofs.Common.{◌≡◌, ℕ, List, [], ◌∷◌, ◌++◌, map, take, drop, Some, None, Option, Bool, true, false, not, ◌&&◌, refl, sym, ◌∙◌, subst, arith, inl, inr, if◌then◌else◌, slice_get}
use Rattle.std.specs.Prelude.{Contains, ◌==◌, filter, option_and_then}
use Rattle.std.specs.Option.{option_map_or}
use Rattle.std.proofs.lemmas.List.{map-append}
use Rattle.std.proofs.lemmas.List.Elements.{Contains-append_right, Contains-append_cases}
use Rattle.sg_list.proofs.ListLemmas.{slice_get-some, slice_get-below, some-same}
use Rattle.sg_machine.specs.declared.event.Act.{Act}
use Rattle.sg_machine.specs.declared.event.Act.TheVariants.{Admit, Settle, Refill, Store, Rewind, Look}
use Rattle.sg_machine.specs.declared.event.Event.{Event}
use Rattle.sg_machine.specs.declared.event.Verdict.{Verdict}
use Rattle.sg_machine.specs.declared.event.Verdict.TheVariants.{Spooled}
use Rattle.sg_machine.specs.declared.setup.BufferSetup.{BufferSetup}
use Rattle.sg_machine.specs.declared.state.Dest.{Dest}
use Rattle.sg_machine.specs.declared.state.DestEntry.{DestEntry}
use Rattle.sg_machine.specs.declared.state.State.{State}
use Rattle.sg_machine.specs.Verdicts.{Claim, claims_of, origin_of, disk_verdict, same_verdict, take_offer}
use Rattle.sg_machine.specs.Legal.{store_of, is_legal}
use Rattle.sg_machine.specs.Effects.{next_of, after}
use Rattle.sg_machine.specs.Runs.{BufferedEntry, after_all, are_legal}
use Rattle.sg_machine.specs.Counts.{as_kept, is_spooled, kept_of, is_kept_at, kept_offers, keeps, kept_entries}
use Rattle.sg_machine.specs.Safe.{first_of, has_failed, spooled_of, kept_from, spooled_offers, waiting, appends, would_spool, tried_by, failing_entries, failed_append, failed_entries, IsSafeList}
use Rattle.sg_machine.proofs.RunLemmas.{both-true}
use Rattle.sg_machine.proofs.CountLemmas.{counts-dest}
use Rattle.sg_laws.proofs.HasLemmas.{has-nil, has-here, has-there, has-cons, has-map, has-mapped, has-filtered, has-take, has-drop}
use Rattle.sg_laws.proofs.BoundEventLemmas.{dests-all}

-- of each offer that came in
abbrev pub ClaimsHold : (ℕ → BufferedEntry → Type 0) → ℕ → List Claim → Type 0
ClaimsHold P i cs = (c : Claim) → Contains cs c → P c.offer.dest (kept_from i c)

abbrev pub ActHolds : (ℕ → BufferedEntry → Type 0) → Act → Type 0
ActHolds P (Admit i records vs) = ClaimsHold P i (claims_of records)
ActHolds P _ = Unit {0}

abbrev pub EventsHold : (ℕ → BufferedEntry → Type 0) → List Event → Type 0
EventsHold P [] = Unit {0}
EventsHold P (e ∷ es) = ActHolds P e.act × EventsHold P es

-- of each of these
abbrev pub ListHolds : (ℕ → BufferedEntry → Type 0) → ℕ → List BufferedEntry → Type 0
ListHolds P d ks = (k : BufferedEntry) → Contains ks k → P d k

holds-none : (P : ℕ → BufferedEntry → Type 0) (d : ℕ) → ListHolds P d []
holds-none P d k h = absurd (has-nil k h)

holds-append : (P : ℕ → BufferedEntry → Type 0) (d : ℕ) (xs ys : List BufferedEntry) → ListHolds P d xs → ListHolds P d ys → ListHolds P d (xs ++ ys)
holds-append P d xs ys a b k h = elim (Contains-append_cases xs ys k h) [ inl x ↦ a k x | inr y ↦ b k y ]

holds-cons-if : (P : ℕ → BufferedEntry → Type 0) (d : ℕ) (x : BufferedEntry) (ks : List BufferedEntry) (b : Bool) → (b ≡ true → P d x) → ListHolds P d ks → ListHolds P d (if b then x ∷ ks else ks)
holds-cons-if P d x ks true first rest k h =
    elim (has-cons x ks k h) [
      | inl e ↦ (let Q : BufferedEntry → Type 0 = λ y. P d y in subst Q e (first refl))
      | inr t ↦ rest k t
    ]
holds-cons-if P d x ks false first rest k h = rest k h

holds-same : (P : ℕ → BufferedEntry → Type 0) (d : ℕ) (xs ys : List BufferedEntry) → xs ≡ ys → ListHolds P d xs → ListHolds P d ys
holds-same P d xs ys e h = let Q : List BufferedEntry → Type 0 = λ zs. ListHolds P d zs in subst Q e h

first-claim : (P : ℕ → BufferedEntry → Type 0) (i : ℕ) (c : Claim) (cs : List Claim) (d : ℕ) → ClaimsHold P i (c ∷ cs) → (c.offer.dest == d) ≡ true → P d (kept_from i c)
first-claim P i c cs d h q =
    let same : c.offer.dest ≡ d = grind (arith, q) in
    let Q : ℕ → Type 0 = λ n. P n (kept_from i c) in
    subst Q same (h c (has-here c cs))

rest-claims : (P : ℕ → BufferedEntry → Type 0) (i : ℕ) (c : Claim) (cs : List Claim) → ClaimsHold P i (c ∷ cs) → ClaimsHold P i cs
rest-claims P i c cs h a m = h a (has-there c cs a m)

-- kept, spooled, or tried
kept-hold : (P : ℕ → BufferedEntry → Type 0) (d i : ℕ) (cs : List Claim) (vs : List Verdict) → ClaimsHold P i cs → ListHolds P d (kept_offers d i cs vs)
kept-hold P d i [] vs h = holds-none P d
kept-hold P d i (c ∷ cs) [] h = holds-none P d
kept-hold P d i (c ∷ cs) (v ∷ vs) h =
    holds-cons-if P d (kept_from i c) (kept_offers d i cs vs) (is_kept_at d c.offer v)
    (λ q. first-claim P i c cs d h ((both-true (c.offer.dest == d) _ q).0)) (kept-hold P d i cs vs (rest-claims P i c cs h))

spooled-hold : (P : ℕ → BufferedEntry → Type 0) (d i : ℕ) (cs : List Claim) (vs : List Verdict) → ClaimsHold P i cs → ListHolds P d (spooled_offers d i cs vs)
spooled-hold P d i [] vs h = holds-none P d
spooled-hold P d i (c ∷ cs) [] h = holds-none P d
spooled-hold P d i (c ∷ cs) (v ∷ vs) h =
    holds-cons-if P d (kept_from i c) (spooled_offers d i cs vs) (c.offer.dest == d && same_verdict Spooled v)
    (λ q. first-claim P i c cs d h ((both-true (c.offer.dest == d) (same_verdict Spooled v) q).0)) (spooled-hold P d i cs vs (rest-claims P i c cs h))

would-hold-if : (P : ℕ → BufferedEntry → Type 0) (d : ℕ) (x : BufferedEntry) (inner outer : List BufferedEntry) (b spooled : Bool) → (b ≡ true → P d x) → ListHolds P d inner → ListHolds P d outer
    → ListHolds P d (if b then (if spooled then x ∷ inner else inner) else outer)
would-hold-if P d x inner outer true spooled first a o = holds-cons-if P d x inner spooled (λ q. first refl) a
would-hold-if P d x inner outer false spooled first a o = o

would-hold : (P : ℕ → BufferedEntry → Type 0) (d i next : ℕ) (buffer : BufferSetup) (dest : Dest) (cs : List Claim) → ClaimsHold P i cs → ListHolds P d (would_spool d i next buffer dest cs)
would-hold P d i next buffer dest [] h = holds-none P d
would-hold P d i next buffer dest (c ∷ cs) h =
    let v = disk_verdict buffer dest.left false c.offer in
    let later = rest-claims P i c cs h in
    would-hold-if P d (kept_from i c) (would_spool d i next buffer (take_offer (origin_of i next c) c.offer v dest) cs) (would_spool d i next buffer dest cs) (c.offer.dest == d) (same_verdict Spooled v)
    (λ q. first-claim P i c cs d h q) (would-hold P d i next buffer (take_offer (origin_of i next c) c.offer v dest) cs later) (would-hold P d i next buffer dest cs later)

keeps-hold : (P : ℕ → BufferedEntry → Type 0) (d : ℕ) (act : Act) → ActHolds P act → ListHolds P d (keeps d act)
keeps-hold P d (Admit i records vs) h = kept-hold P d i (claims_of records) vs h
keeps-hold P d (Settle e n) h = holds-none P d
keeps-hold P d (Refill e n) h = holds-none P d
keeps-hold P d (Store i w) h = holds-none P d
keeps-hold P d (Rewind i) h = holds-none P d
keeps-hold P d Look h = holds-none P d

entries-hold : (P : ℕ → BufferedEntry → Type 0) (d : ℕ) (es : List Event) → EventsHold P es → ListHolds P d (kept_entries d es)
entries-hold P d [] h = holds-none P d
entries-hold P d (e ∷ es) h = holds-append P d (keeps d e.act) (kept_entries d es) (keeps-hold P d e.act h.0) (entries-hold P d es h.1)

-- States.

abbrev pub StateHolds : (ℕ → BufferedEntry → Type 0) → State → Type 0
StateHolds P s = (d : ℕ) (dest : Dest) → slice_get s.dests d ≡ Some dest → ListHolds P d (kept_of dest)

-- what a destination keeps after events
pub state-holds : (P : ℕ → BufferedEntry → Type 0) (s : State) (es : List Event) → are_legal s es ≡ true → EventsHold P es → StateHolds P s → StateHolds P (after_all s es)
state-holds P s es l h begins d dest at =
    let long = dests-all es s in
    let below = slice_get-below (after_all s es).dests d dest at in
    let first = slice_get-some s.dests d (omega (arith, long, below)) in
    let c = counts-dest s es d first.0 l first.1 in
    let same : c.0 ≡ dest = some-same c.0 dest (sym c.1 ∙ at) in
    let Q : Dest → Type 0 = λ x. ListHolds P d (kept_of x) in
    subst Q same (holds-same P d (kept_of first.0 ++ kept_entries d es) (kept_of c.0) (sym c.2.kept)
    (holds-append P d (kept_of first.0) (kept_entries d es) (begins d first.0 first.1) (entries-hold P d es h)))

-- those of some of a destination's entries
sub-holds : (P : ℕ → BufferedEntry → Type 0) (d : ℕ) (p : DestEntry → Bool) (es : List DestEntry) → ListHolds P d (map as_kept es) → ListHolds P d (map as_kept (filter p es))
sub-holds P d p es h k c =
    let m = has-mapped as_kept (filter p es) k c in
    let e = (has-filtered p es m.0 m.1.0).0 in
    let Q : BufferedEntry → Type 0 = λ x. Contains (map as_kept es) x in
    h k (subst Q m.1.1 (has-map as_kept es m.0 e))

left-holds : (P : ℕ → BufferedEntry → Type 0) (d : ℕ) (dest : Dest) → ListHolds P d (kept_of dest) → ListHolds P d (map as_kept dest.left)
left-holds P d dest h k c =
    let Q : List BufferedEntry → Type 0 = λ xs. Contains xs k in
    h k (subst Q (sym (map-append as_kept dest.settled dest.left)) (Contains-append_right (map as_kept dest.settled) (map as_kept dest.left) k c))

waiting-holds : (P : ℕ → BufferedEntry → Type 0) (d : ℕ) (dest : Dest) → ListHolds P d (kept_of dest) → ListHolds P d (waiting dest.left)
waiting-holds P d dest h = sub-holds P d (λ e. not e.spooled) dest.left (left-holds P d dest h)

-- Appends.

take-if-holds : (P : ℕ → BufferedEntry → Type 0) (d n : ℕ) (b : Bool) (ks : List BufferedEntry) → ListHolds P d ks → ListHolds P d (if b then take n ks else [])
take-if-holds P d n true ks h = λ k c. h k (has-take n ks k c)
take-if-holds P d n false ks h = holds-none P d

appends-hold : (P : ℕ → BufferedEntry → Type 0) (d : ℕ) (act : Act) (dest : Dest) → ActHolds P act → ListHolds P d (kept_of dest) → ListHolds P d (appends act d dest)
appends-hold P d (Admit i records vs) dest h b = spooled-hold P d i (claims_of records) vs h
appends-hold P d (Settle e n) dest h b = holds-none P d
appends-hold P d (Refill e n) dest h b = take-if-holds P d n (e == d) (waiting dest.left) (waiting-holds P d dest b)
appends-hold P d (Store i w) dest h b = holds-none P d
appends-hold P d (Rewind i) dest h b = holds-none P d
appends-hold P d Look dest h b = holds-none P d

would-hold-at : (P : ℕ → BufferedEntry → Type 0) (d i next : ℕ) (o : Option BufferSetup) (dest : Dest) (cs : List Claim) → ClaimsHold P i cs → ListHolds P d (option_map_or (λ (buffer : BufferSetup). would_spool d i next buffer dest cs) o [])
would-hold-at P d i next None dest cs h = holds-none P d
would-hold-at P d i next (Some buffer) dest cs h = would-hold P d i next buffer dest cs h

tried-holds : (P : ℕ → BufferedEntry → Type 0) (s : State) (act : Act) (d : ℕ) (dest : Dest) → ActHolds P act → ListHolds P d (kept_of dest) → ListHolds P d (tried_by s act d dest)
tried-holds P s (Admit i records vs) d dest h b = would-hold-at P d i (next_of s i) dest.setup.buffer dest (claims_of records) h
tried-holds P s (Settle e n) d dest h b = holds-none P d
tried-holds P s (Refill e n) d dest h b = holds-none P d
tried-holds P s (Store i w) d dest h b = holds-none P d
tried-holds P s (Rewind i) d dest h b = holds-none P d
tried-holds P s Look d dest h b = waiting-holds P d dest b

abbrev OptionHolds : (ℕ → BufferedEntry → Type 0) → ℕ → Option (List BufferedEntry) → Type 0
OptionHolds P d None = Unit {0}
OptionHolds P d (Some ks) = ListHolds P d ks

first-holds : (P : ℕ → BufferedEntry → Type 0) (d : ℕ) (a b : Option (List BufferedEntry)) → OptionHolds P d a → OptionHolds P d b → OptionHolds P d (first_of a b)
first-holds P d None b x y = y
first-holds P d (Some ks) b x y = x

some-if-holds : (P : ℕ → BufferedEntry → Type 0) (d : ℕ) (b : Bool) (ks : List BufferedEntry) → ListHolds P d ks → OptionHolds P d (if b then Some ks else None)
some-if-holds P d true ks h = h
some-if-holds P d false ks h = tt

failing-holds : (P : ℕ → BufferedEntry → Type 0) (s : State) (e : Event) (d : ℕ) (o : Option Dest) → ActHolds P e.act → ((dest : Dest) → o ≡ Some dest → ListHolds P d (kept_of dest)) → OptionHolds P d (option_and_then (failing_entries s e d) o)
failing-holds P s e d None h b = tt
failing-holds P s e d (Some dest) h b = some-if-holds P d (has_failed e.failed (store_of dest)) (tried_by s e.act d dest) (tried-holds P s e.act d dest h (b dest refl))

append-holds : (P : ℕ → BufferedEntry → Type 0) (s : State) (es : List Event) (d : ℕ) → are_legal s es ≡ true → EventsHold P es → StateHolds P s → OptionHolds P d (failed_append s es d)
append-holds P s [] d l h b = tt
append-holds P s (e ∷ es) d l h b =
    let q = both-true (is_legal s e) (are_legal (after s e) es) l in
    let one : are_legal s (e ∷ []) ≡ true = (let first = q.0 in rw first refl) in
    first-holds P d (option_and_then (failing_entries s e d) (slice_get s.dests d)) (failed_append (after s e) es d)
    (failing-holds P s e d (slice_get s.dests d) h.0 (λ dest at. b d dest at))
    (append-holds P (after s e) es d q.1 h.1 (state-holds P s (e ∷ []) one (h.0, tt) b))

taken-out : (P : ℕ → BufferedEntry → Type 0) (d : ℕ) (o : Option (List BufferedEntry)) → OptionHolds P d o → ListHolds P d (option_map_or (λ ks. ks) o [])
taken-out P d None h = holds-none P d
taken-out P d (Some ks) h = h

-- what a failed append tried
pub failed-hold : (P : ℕ → BufferedEntry → Type 0) (s : State) (es : List Event) (d : ℕ) → are_legal s es ≡ true → EventsHold P es → StateHolds P s → ListHolds P d (failed_entries s es d)
failed-hold P s es d l h b = taken-out P d (failed_append s es d) (append-holds P s es d l h b)

-- Lists.

either-holds : (P : ℕ → BufferedEntry → Type 0) (d : ℕ) (b : Bool) (xs ys : List BufferedEntry) → ListHolds P d xs → ListHolds P d ys → ListHolds P d (if b then xs else ys)
either-holds P d true xs ys a c = a
either-holds P d false xs ys a c = c

-- a safe list
pub safe-holds : (P : ℕ → BufferedEntry → Type 0) (dest : Dest) (d : ℕ) (act : Act) (failed : List ℕ) (tried list : List BufferedEntry) → ActHolds P act → ListHolds P d (kept_of dest) → ListHolds P d tried → IsSafeList dest d act failed tried list → ListHolds P d list
safe-holds P dest d act failed tried list h b t safe =
    let spooled = spooled_of (dest.settled ++ dest.left) in
    let more = if has_failed failed (store_of dest) then tried else appends act d dest in
    let first : ListHolds P d spooled = sub-holds P d is_spooled (dest.settled ++ dest.left) b in
    let second : ListHolds P d more = either-holds P d (has_failed failed (store_of dest)) tried (appends act d dest) t (appends-hold P d act dest h b) in
    holds-same P d (drop safe.gone spooled ++ take safe.added more) list (sym safe.parts)
    (holds-append P d (drop safe.gone spooled) (take safe.added more) (λ k c. first k (has-drop safe.gone spooled k c)) (λ k c. second k (has-take safe.added more k c)))
