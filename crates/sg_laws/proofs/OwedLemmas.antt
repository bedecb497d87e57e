-- The entries that records of an inlet wait for, and how their number falls and rises.
use Rattle.std.proofs.Common.{◌≡◌, ℕ, ◌+◌, ◌≤◌, List, [], ◌∷◌, ◌++◌, length, Bool, true, false, not, ◌&&◌, refl, ap, ◌∙◌, arith, suc, zero, take, drop, ◌⊎◌, inl, inr, if◌then◌else◌, length-append}
use Rattle.std.specs.Prelude.{◌==◌}
use Rattle.std.specs.Option.{option_map_or}
use Rattle.sg_msg.specs.declared.offer.Offer.{Offer}
use Rattle.sg_list.specs.Lists.{change}
use Rattle.sg_machine.specs.declared.event.Admission.{Admission}
use Rattle.sg_machine.specs.declared.event.Verdict.{Verdict}
use Rattle.sg_machine.specs.declared.event.Verdict.TheVariants.{Queued, Spooled, Waits, DroppedFull, DroppedDisk}
use Rattle.sg_machine.specs.declared.state.Dest.{Dest}
use Rattle.sg_machine.specs.declared.state.DestEntry.{DestEntry}
use Rattle.sg_machine.specs.declared.state.Origin.{Origin}
use Rattle.sg_machine.specs.Effects.{settled_some, spool_first, spool_some, refilled_some}
use Rattle.sg_machine.specs.Marks.{is_owed_to, is_acked}
use Rattle.sg_machine.specs.Verdicts.{Claim, claims_in, claims_from, claims_of, origin_of, entry_from, take_offer, take_claim, take_claims}
use Rattle.sg_machine.proofs.RunLemmas.{both-true}
use Rattle.sg_machine.proofs.RecordLemmas.{length-claims}
use Rattle.sg_machine.proofs.WindowLaws.{is_clear, clear-head, clear-tail, clear-join, and-not-true, both-join}
use Rattle.sg_actor.specs.Reading.{one_if}
use Rattle.sg_laws.specs.Counts.{offers_of}
use Rattle.sg_turns.proofs.BoundLemmas.{one-most}

-- Entries.

-- an entry of a record of the inlet that isn't in a disk-buffer
abbrev pub owes : ℕ → DestEntry → Bool
owes i e = e.inlet == i && not e.spooled

abbrev pub owed : ℕ → List DestEntry → ℕ
owed i [] = 0
owed i (e ∷ es) = one_if (owes i e) + owed i es

not-owed-if : (a b flow spooled : Bool) → (a && not spooled) ≡ false → (a && b && flow && not spooled) ≡ false
not-owed-if true true true spooled h = h
not-owed-if true true false spooled h = refl
not-owed-if true false flow spooled h = refl
not-owed-if false b flow spooled h = refl

not-owed : (i n : ℕ) (e : DestEntry) → owes i e ≡ false → is_owed_to i n e ≡ false
not-owed i n e h = not-owed-if (e.inlet == i) (option_map_or (λ m. m == n) e.number false) e.flow e.spooled h

-- no more are waited for, and fewer, or each record that is acknowledged now was before
pub record Falls (i : ℕ) (old new : List DestEntry) : Type 0 where
  pub fewer : owed i new ≤ owed i old
  pub clears : (owed i new + 1 ≤ owed i old) ⊎ ((k : ℕ) → is_clear i k new ≡ true → is_clear i k old ≡ true)

pub falls-same : (i : ℕ) (es : List DestEntry) → Falls i es es
falls-same i es = record { fewer = omega arith; clears = inr (λ k c. c) }

falls-both : (i : ℕ) (a b c : List DestEntry) → Falls i a b → Falls i b c → Falls i a c
falls-both i a b c h k = record {
  fewer = (let x = h.fewer in let y = k.fewer in omega (arith, x, y));
  clears = elim h.clears [
    | inl l ↦ inl (let y = k.fewer in omega (arith, l, y))
    | inr f ↦ elim k.clears [ inl l ↦ inl (let x = h.fewer in omega (arith, l, x)) | inr g ↦ inr (λ n q. f n (g n q)) ]
  ];
}

-- with one entry before them
falls-cons : (i : ℕ) (e : DestEntry) (old new : List DestEntry) → Falls i old new → Falls i (e ∷ old) (e ∷ new)
falls-cons i e old new h = record {
  fewer = (let x = h.fewer in omega (arith, x));
  clears = elim h.clears [
    | inl l ↦ inl (omega (arith, l))
    | inr f ↦ inr (λ n q. clear-join i n e old (clear-head i n e new q) (f n (clear-tail i n e new q)))
  ];
}

falls-gone : (i : ℕ) (e : DestEntry) (old new : List DestEntry) (b : Bool) → owes i e ≡ b → Falls i old new → Falls i (e ∷ old) new
falls-gone i e old new true is h =
    let x = h.fewer in
    let one : one_if (owes i e) ≡ 1 = ap one_if is in
    record { fewer = omega (arith, x); clears = inl (omega (arith, x, one)) }
falls-gone i e old new false is h = record {
  fewer = (let x = h.fewer in omega (arith, x));
  clears = elim h.clears [
    | inl l ↦ inl (omega (arith, l))
    | inr f ↦ inr (λ n q. clear-join i n e old (not-owed i n e is) (f n q))
  ];
}

pub falls-drop : (i n : ℕ) (es : List DestEntry) → Falls i es (drop n es)
falls-drop i zero es = falls-same i es
falls-drop i (suc n) [] = falls-same i []
falls-drop i (suc n) (e ∷ es) = falls-gone i e es (drop n es) (owes i e) refl (falls-drop i n es)

falls-spooled : (i : ℕ) (e : DestEntry) (es : List DestEntry) (b : Bool) → owes i e ≡ b → Falls i (e ∷ es) (record e { spooled = true } ∷ es)
falls-spooled i e es b is =
    let none : owes i (record e { spooled = true }) ≡ false = and-not-true (e.inlet == i) in
    let gone = falls-gone i e es es b is (falls-same i es) in
    let zero-is : one_if (owes i (record e { spooled = true })) ≡ 0 = ap one_if none in
    record {
      fewer = (let x = gone.fewer in omega (arith, x, zero-is));
      clears = elim gone.clears [
        | inl l ↦ inl (omega (arith, l, zero-is))
        | inr f ↦ inr (λ n q. f n (clear-tail i n (record e { spooled = true }) es q))
      ];
    }

falls-first-if : (i : ℕ) (e : DestEntry) (es rest : List DestEntry) (b : Bool) → Falls i es rest → Falls i (e ∷ es) (if b then e ∷ rest else record e { spooled = true } ∷ es)
falls-first-if i e es rest true h = falls-cons i e es rest h
falls-first-if i e es rest false h = falls-spooled i e es (owes i e) refl

falls-first : (i : ℕ) (es : List DestEntry) → Falls i es (spool_first es)
falls-first i [] = falls-same i []
falls-first i (e ∷ es) = falls-first-if i e es (spool_first es) e.spooled (falls-first i es)

pub falls-spool : (i n : ℕ) (es : List DestEntry) → Falls i es (spool_some n es)
falls-spool i zero es = falls-same i es
falls-spool i (suc n) es = falls-both i es (spool_first es) (spool_some n (spool_first es)) (falls-first i es) (falls-spool i n (spool_first es))

-- an entry more
owed-push : (i : ℕ) (es : List DestEntry) (e : DestEntry) → owed i (es ++ e ∷ []) ≡ owed i es + one_if (owes i e)
owed-push i [] e = omega arith
owed-push i (x ∷ es) e = let h = owed-push i es e in omega (arith, h)

clear-front : (i n : ℕ) (es : List DestEntry) (e : DestEntry) → is_clear i n (es ++ e ∷ []) ≡ true → is_clear i n es ≡ true
clear-front i n [] e h = refl
clear-front i n (x ∷ es) e h = clear-join i n x es (clear-head i n x (es ++ e ∷ []) h) (clear-front i n es e (clear-tail i n x (es ++ e ∷ []) h))

falls-push : (i : ℕ) (es : List DestEntry) (e : DestEntry) → owes i e ≡ false → Falls i es (es ++ e ∷ [])
falls-push i es e none =
    let more = owed-push i es e in
    let zero-is : one_if (owes i e) ≡ 0 = ap one_if none in
    record { fewer = omega (arith, more, zero-is); clears = inr (λ n q. clear-front i n es e q) }

and-false : (a b : Bool) → a ≡ false → (a && b) ≡ false
and-false a b h = rw h refl

-- an offer of another inlet
falls-offer : (i : ℕ) (origin : Origin) (o : Offer) (v : Verdict) (x : Dest) → (origin.inlet == i) ≡ false → Falls i x.left (take_offer origin o v x).left
falls-offer i origin o Queued x miss = falls-push i x.left (entry_from origin o false) (and-false (origin.inlet == i) true miss)
falls-offer i origin o Spooled x miss = falls-push i x.left (entry_from origin o true) (and-false (origin.inlet == i) false miss)
falls-offer i origin o Waits x miss = falls-push i x.left (entry_from origin o false) (and-false (origin.inlet == i) true miss)
falls-offer i origin o DroppedFull x miss = falls-same i x.left
falls-offer i origin o DroppedDisk x miss = falls-same i x.left

push-more : (i : ℕ) (es : List DestEntry) (e : DestEntry) → owed i (es ++ e ∷ []) ≤ owed i es + 1
push-more i es e = let more = owed-push i es e in let few = one-most (owes i e) in omega (arith, more, few)

offer-more : (i : ℕ) (origin : Origin) (o : Offer) (v : Verdict) (x : Dest) → owed i (take_offer origin o v x).left ≤ owed i x.left + 1
offer-more i origin o Queued x = push-more i x.left (entry_from origin o false)
offer-more i origin o Spooled x = push-more i x.left (entry_from origin o true)
offer-more i origin o Waits x = push-more i x.left (entry_from origin o false)
offer-more i origin o DroppedFull x = omega arith
offer-more i origin o DroppedDisk x = omega arith

-- Destinations.

abbrev pub owed_in : ℕ → List Dest → ℕ
owed_in i [] = 0
owed_in i (x ∷ ds) = owed i x.left + owed_in i ds

pub record AllFall (i : ℕ) (old new : List Dest) : Type 0 where
  pub fewer : owed_in i new ≤ owed_in i old
  pub clears : (owed_in i new + 1 ≤ owed_in i old) ⊎ ((k : ℕ) → is_acked new i k ≡ true → is_acked old i k ≡ true)

pub all-same : (i : ℕ) (ds : List Dest) → AllFall i ds ds
all-same i ds = record { fewer = omega arith; clears = inr (λ k c. c) }

all-both : (i : ℕ) (a b c : List Dest) → AllFall i a b → AllFall i b c → AllFall i a c
all-both i a b c h k = record {
  fewer = (let x = h.fewer in let y = k.fewer in omega (arith, x, y));
  clears = elim h.clears [
    | inl l ↦ inl (let y = k.fewer in omega (arith, l, y))
    | inr f ↦ elim k.clears [ inl l ↦ inl (let x = h.fewer in omega (arith, l, x)) | inr g ↦ inr (λ n q. f n (g n q)) ]
  ];
}

all-change : (i : ℕ) (ds : List Dest) (d : ℕ) (f : Dest → Dest) → ((x : Dest) → Falls i x.left (f x).left) → AllFall i ds (change ds d f)
all-change i [] d f falls = all-same i []
all-change i (x ∷ ds) zero f falls =
    let h = falls x in record {
      fewer = (let y = h.fewer in omega (arith, y));
      clears = elim h.clears [
        | inl l ↦ inl (omega (arith, l))
        | inr g ↦ inr (λ k a.
            let p = both-true (is_clear i k (f x).left) (is_acked ds i k) a in
            both-join (is_clear i k x.left) (is_acked ds i k) (g k p.0) p.1)
      ];
    }
all-change i (x ∷ ds) (suc d) f falls =
    let h = all-change i ds d f falls in record {
      fewer = (let y = h.fewer in omega (arith, y));
      clears = elim h.clears [
        | inl l ↦ inl (omega (arith, l))
        | inr g ↦ inr (λ k a.
            let p = both-true (is_clear i k x.left) (is_acked (change ds d f) i k) a in
            both-join (is_clear i k x.left) (is_acked ds i k) p.0 (g k p.1))
      ];
    }

pub all-settle : (i : ℕ) (ds : List Dest) (d n : ℕ) → AllFall i ds (change ds d (settled_some n))
all-settle i ds d n = all-change i ds d (settled_some n) (λ x. falls-drop i n x.left)

pub all-refill : (i : ℕ) (ds : List Dest) (d n : ℕ) → AllFall i ds (change ds d (refilled_some n))
all-refill i ds d n = all-change i ds d (refilled_some n) (λ x. falls-spool i n x.left)

-- the records of another inlet
pub all-claims : (i j next : ℕ) (ds : List Dest) (cs : List Claim) (vs : List Verdict) → (j == i) ≡ false → AllFall i ds (take_claims j next ds cs vs)
all-claims i j next ds [] vs miss = all-same i ds
all-claims i j next ds (c ∷ cs) [] miss = all-same i ds
all-claims i j next ds (c ∷ cs) (v ∷ vs) miss =
    all-both i ds (take_claim j next ds c v) (take_claims j next (take_claim j next ds c v) cs vs)
    (all-change i ds c.offer.dest (take_offer (origin_of j next c) c.offer v) (λ x. falls-offer i (origin_of j next c) c.offer v x miss))
    (all-claims i j next (take_claim j next ds c v) cs vs miss)

-- the records of any
change-more : (i : ℕ) (ds : List Dest) (d : ℕ) (f : Dest → Dest) → ((x : Dest) → owed i (f x).left ≤ owed i x.left + 1) → owed_in i (change ds d f) ≤ owed_in i ds + 1
change-more i [] d f more = omega arith
change-more i (x ∷ ds) zero f more = let h = more x in omega (arith, h)
change-more i (x ∷ ds) (suc d) f more = let h = change-more i ds d f more in omega (arith, h)

pub claims-more : (i j next : ℕ) (ds : List Dest) (cs : List Claim) (vs : List Verdict) → owed_in i (take_claims j next ds cs vs) ≤ owed_in i ds + length cs
claims-more i j next ds [] vs = omega arith
claims-more i j next ds (c ∷ cs) [] = omega arith
claims-more i j next ds (c ∷ cs) (v ∷ vs) =
    let one = change-more i ds c.offer.dest (take_offer (origin_of j next c) c.offer v) (λ x. offer-more i (origin_of j next c) c.offer v x) in
    let rest = claims-more i j next (take_claim j next ds c v) cs vs in
    omega (arith, one, rest)

-- as many claims as offers
claims-from-length : (place : ℕ) (rs : List Admission) → length (claims_from place rs) ≡ offers_of rs
claims-from-length place [] = refl
claims-from-length place (r ∷ rs) =
    let both = length-append (claims_in place r.end r.offers) (claims_from (place + 1) rs) in
    let one = length-claims place r.end r.offers in
    let rest = claims-from-length (place + 1) rs in
    omega (arith, both, one, rest)

pub claims-length : (rs : List Admission) → length (claims_of rs) ≡ offers_of rs
claims-length rs = claims-from-length 0 rs

-- The entries that were kept.

abbrev pub size : Dest → ℕ
size x = length x.settled + length x.left

abbrev pub kept_in : List Dest → ℕ
kept_in [] = 0
kept_in (x ∷ ds) = size x + kept_in ds

kept-change : (ds : List Dest) (d n : ℕ) (f : Dest → Dest) → ((x : Dest) → size (f x) ≤ size x + n) → kept_in (change ds d f) ≤ kept_in ds + n
kept-change [] d n f more = omega arith
kept-change (x ∷ ds) zero n f more = let h = more x in omega (arith, h)
kept-change (x ∷ ds) (suc d) n f more = let h = kept-change ds d n f more in omega (arith, h)

cut-size : (n : ℕ) (es : List DestEntry) → length (take n es) + length (drop n es) ≤ length es
cut-size zero es = omega arith
cut-size (suc n) [] = omega arith
cut-size (suc n) (e ∷ es) = let h = cut-size n es in omega (arith, h)

pub kept-settle : (ds : List Dest) (d n : ℕ) → kept_in (change ds d (settled_some n)) ≤ kept_in ds
kept-settle ds d n =
    let h = kept-change ds d 0 (settled_some n) (λ x.
    let both = length-append x.settled (take n x.left) in
    let cut = cut-size n x.left in
    omega (arith, both, cut)) in
    omega (arith, h)

first-size-if : (e : DestEntry) (es rest : List DestEntry) (b : Bool) → length rest ≡ length es → length (if b then e ∷ rest else record e { spooled = true } ∷ es) ≡ suc (length es)
first-size-if e es rest true h = ap suc h
first-size-if e es rest false h = refl

first-size : (es : List DestEntry) → length (spool_first es) ≡ length es
first-size [] = refl
first-size (e ∷ es) = first-size-if e es (spool_first es) e.spooled (first-size es)

spool-size : (n : ℕ) (es : List DestEntry) → length (spool_some n es) ≡ length es
spool-size zero es = refl
spool-size (suc n) es = spool-size n (spool_first es) ∙ first-size es

pub kept-refill : (ds : List Dest) (d n : ℕ) → kept_in (change ds d (refilled_some n)) ≤ kept_in ds
kept-refill ds d n = let h = kept-change ds d 0 (refilled_some n) (λ x. let same = spool-size n x.left in omega (arith, same)) in omega (arith, h)

push-size : (es : List DestEntry) (e : DestEntry) → length (es ++ e ∷ []) ≡ length es + 1
push-size es e = length-append es (e ∷ [])

offer-size : (origin : Origin) (o : Offer) (v : Verdict) (x : Dest) → size (take_offer origin o v x) ≤ size x + 1
offer-size origin o Queued x = let h = push-size x.left (entry_from origin o false) in omega (arith, h)
offer-size origin o Spooled x = let h = push-size x.left (entry_from origin o true) in omega (arith, h)
offer-size origin o Waits x = let h = push-size x.left (entry_from origin o false) in omega (arith, h)
offer-size origin o DroppedFull x = omega arith
offer-size origin o DroppedDisk x = omega arith

pub kept-claims : (j next : ℕ) (ds : List Dest) (cs : List Claim) (vs : List Verdict) → kept_in (take_claims j next ds cs vs) ≤ kept_in ds + length cs
kept-claims j next ds [] vs = omega arith
kept-claims j next ds (c ∷ cs) [] = omega arith
kept-claims j next ds (c ∷ cs) (v ∷ vs) =
    let one = kept-change ds c.offer.dest 1 (take_offer (origin_of j next c) c.offer v) (λ x. offer-size (origin_of j next c) c.offer v x) in
    let rest = kept-claims j next (take_claim j next ds c v) cs vs in
    omega (arith, one, rest)
