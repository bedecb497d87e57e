-- Lists that are safe.
use Rattle.std.proofs.Common.{◌≡◌, ℕ, ◌+◌, ◌≤◌, List, [], ◌∷◌, ◌++◌, length, Some, None, Option, Bool, true, false, if◌then◌else◌, refl, sym, ap, ◌∙◌, arith, suc, zero, map, filter, take, drop, slice_get, subst, ◌⊎◌, inl, inr}
use Rattle.std.specs.Prelude.{◌==◌, option_and_then}
use Rattle.std.specs.Option.{option_map_or}
use Rattle.std.proofs.lemmas.List.{append-nil, map-append, length-append}
use Rattle.std.proofs.lemmas.List.Elements.{filter-append}
use Rattle.sg_machine.specs.declared.event.Act.{Act}
use Rattle.sg_machine.specs.declared.event.Act.TheVariants.{Admit, Settle, Refill, Store, Rewind, Look}
use Rattle.sg_machine.specs.declared.event.Event.{Event}
use Rattle.sg_machine.specs.declared.state.Dest.{Dest}
use Rattle.sg_machine.specs.declared.state.DestEntry.{DestEntry}
use Rattle.sg_machine.specs.declared.state.State.{State}
use Rattle.sg_machine.specs.Counts.{as_kept, is_spooled}
use Rattle.sg_machine.specs.Effects.{after}
use Rattle.sg_machine.specs.Legal.{store_of}
use Rattle.sg_machine.specs.Runs.{BufferedEntry, after_all}
use Rattle.sg_machine.specs.Safe.{IsSafeList, spooled_of, settled_by, appends, has_failed, first_of, failing_entries, failed_append, failed_entries}
use Rattle.sg_list.proofs.ListLemmas.{drop-front}

pub spooled-append : (xs ys : List DestEntry) → spooled_of (xs ++ ys) ≡ spooled_of xs ++ spooled_of ys
spooled-append xs ys = ap (map as_kept) (filter-append is_spooled xs ys) ∙ map-append as_kept (filter is_spooled xs) (filter is_spooled ys)

most-if : (b : Bool) (xs ys : List DestEntry) → length (spooled_of xs) ≤ length (spooled_of (if b then xs ++ ys else xs))
most-if true xs ys =
    let e : length (spooled_of (xs ++ ys)) ≡ length (spooled_of xs) + length (spooled_of ys) = ap length (spooled-append xs ys) ∙ length-append (spooled_of xs) (spooled_of ys) in
    omega (arith, e)
most-if false xs ys = omega arith

-- what is settled stays so
pub settled-most : (act : Act) (d : ℕ) (x : Dest) → length (spooled_of x.settled) ≤ length (spooled_of (settled_by act d x))
settled-most (Admit i records vs) d x = omega arith
settled-most (Settle e n) d x = most-if (e == d) x.settled (take n x.left)
settled-most (Refill e n) d x = omega arith
settled-most (Store i w) d x = omega arith
settled-most (Rewind i) d x = omega arith
settled-most Look d x = omega arith

-- all but the settled ones
pub spooled-left : (x : Dest) → drop (length (spooled_of x.settled)) (spooled_of (x.settled ++ x.left)) ≡ spooled_of x.left
spooled-left x = ap (drop (length (spooled_of x.settled))) (spooled-append x.settled x.left) ∙ drop-front (spooled_of x.settled) (spooled_of x.left)

-- the spooled ones that are left are safe within each act
pub safe-same : (x : Dest) (d : ℕ) (act : Act) (failed : List ℕ) (tried : List BufferedEntry) → IsSafeList x d act failed tried (spooled_of x.left)
safe-same x d act failed tried = record {
  gone = length (spooled_of x.settled);
  added = 0;
  parts = sym (append-nil (spooled_of x.left)) ∙ ap (λ ks. ks ++ []) (sym (spooled-left x));
  settled = settled-most act d x;
  all_settled = λ f s. refl;
}

take-none : (n : ℕ) → take n (let none : List BufferedEntry = [] in none) ≡ []
take-none zero = refl
take-none (suc n) = refl

-- a list of a store that has failed before stays safe, whatever is said to be tried
pub safe-later : (x : Dest) (d : ℕ) (act : Act) (failed later : List ℕ) (tried now : List BufferedEntry) (list : List BufferedEntry) → has_failed failed (store_of x) ≡ true → has_failed later (store_of x) ≡ true → (now ≡ tried) ⊎ (tried ≡ [])
    → IsSafeList x d Look failed tried list → IsSafeList x d act later now list
safe-later x d act failed later tried now list broken still (inl same) h = record {
  gone = h.gone;
  added = h.added;
  parts =
      let P : Bool → Type 0 = λ b. list ≡ drop h.gone (spooled_of (x.settled ++ x.left)) ++ take h.added (if b then tried else []) in
      let Q : Bool → Type 0 = λ b. list ≡ drop h.gone (spooled_of (x.settled ++ x.left)) ++ take h.added (if b then now else appends act d x) in
      let R : List BufferedEntry → Type 0 = λ ks. list ≡ drop h.gone (spooled_of (x.settled ++ x.left)) ++ take h.added ks in
      subst Q (sym still) (subst R (sym same) (subst P broken h.parts));
  settled = (let m = settled-most act d x in let s = h.settled in omega (arith, m, s));
  all_settled = λ f s. let wrong : true ≡ false = sym still ∙ f in cc;
}
safe-later x d act failed later tried now list broken still (inr none) h = record {
  gone = h.gone;
  added = 0;
  parts =
      let P : Bool → Type 0 = λ b. list ≡ drop h.gone (spooled_of (x.settled ++ x.left)) ++ take h.added (if b then tried else []) in
      let R : List BufferedEntry → Type 0 = λ ks. list ≡ drop h.gone (spooled_of (x.settled ++ x.left)) ++ take h.added ks in
      let S : List BufferedEntry → Type 0 = λ ks. list ≡ drop h.gone (spooled_of (x.settled ++ x.left)) ++ ks in
      subst S (take-none h.added) (subst R none (subst P broken h.parts));
  settled = (let m = settled-most act d x in let s = h.settled in omega (arith, m, s));
  all_settled = λ f s. let wrong : true ≡ false = sym still ∙ f in cc;
}

-- What the append that failed tried.

assoc : (a b c : Option (List BufferedEntry)) → first_of a (first_of b c) ≡ first_of (first_of a b) c
assoc None b c = refl
assoc (Some x) b c = refl

none-first : (a : Option (List BufferedEntry)) → first_of a None ≡ a
none-first None = refl
none-first (Some x) = refl

pub failed_append-push : (s : State) (es : List Event) (e : Event) (d : ℕ)
    → failed_append s (es ++ e ∷ []) d ≡ first_of (failed_append s es d) (option_and_then (failing_entries (after_all s es) e d) (slice_get (after_all s es).dests d))
failed_append-push s [] e d = none-first (option_and_then (failing_entries s e d) (slice_get s.dests d))
failed_append-push s (x ∷ es) e d =
    let now = option_and_then (failing_entries s x d) (slice_get s.dests d) in
    ap (first_of now) (failed_append-push (after s x) es e d) ∙ assoc now (failed_append (after s x) es d) (option_and_then (failing_entries (after_all (after s x) es) e d) (slice_get (after_all (after s x) es).dests d))

entries-by : (a b : Option (List BufferedEntry)) → (option_map_or (λ ks. ks) (first_of a b) [] ≡ option_map_or (λ ks. ks) a []) ⊎ (option_map_or (λ (ks : List BufferedEntry). ks) a [] ≡ [])
entries-by None b = inr refl
entries-by (Some ks) b = inl refl

-- one event more leaves it, or nothing was tried before
pub entries-later : (s : State) (es : List Event) (e : Event) (d : ℕ) → (failed_entries s (es ++ e ∷ []) d ≡ failed_entries s es d) ⊎ (failed_entries s es d ≡ [])
entries-later s es e d =
    let b = option_and_then (failing_entries (after_all s es) e d) (slice_get (after_all s es).dests d) in
    let P : Option (List BufferedEntry) → Type 0 = λ o. (option_map_or (λ ks. ks) o [] ≡ failed_entries s es d) ⊎ (failed_entries s es d ≡ []) in
    subst P (sym (failed_append-push s es e d)) (entries-by (failed_append s es d) b)
