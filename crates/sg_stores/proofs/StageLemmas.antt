-- Entries that are staged one after another.
use Rattle.std.proofs.Common.{◌≡◌, ⊎_elim, ℕ, ◌+◌, ◌^◌, ◌≤◌, ◌<◌, min, List, [], ◌∷◌, ◌++◌, length, map, take, drop, Some, None, Option, refl, sym, ap, ◌∙◌, arith, subst, true, false, Bool}
use Rattle.std.proofs.lemmas.Bool.{leb-true}
use Rattle.std.proofs.lemmas.List.{append-nil, append_assoc, length_push, take-append-drop, take-append-le, drop-append-le, take_min, drop_min, take_at, drop_at}
use Rattle.sg_device.specs.Disk.{DiskState, Within}
use Rattle.sg_device.proofs.Disks.{started, within_as}
use Rattle.sg_codec.proofs.WriteLemmas.{length-spelling}
use Rattle.sg_spool.specs.Ring.{Entries, IsList}
use Rattle.sg_spool.specs.Lists.{IsEitherList}
use Rattle.sg_spool.specs.Places.{live}
use Rattle.sg_spool.specs.Calls.{SpoolLasts, LeavesImages}
use Rattle.sg_spool.specs.Answers.{Stages as SpoolStages}
use Rattle.sg_spool.specs.View.{View, HoldsAt}
use Rattle.sg_spool.specs.declared.answers.Appended.TheVariants.{Done, NoRoom, DiskFailed}
use Rattle.sg_buffer.specs.Entries.{AreKept, IsListOf, spelled}
use Rattle.sg_machine.specs.Runs.{BufferedEntry}
use Rattle.sg_sinks.specs.Fitting.{space}
use Rattle.sg_stores.specs.Stores.{StoreState, BufferState, HoldsEntries, HasBufferSize, IsAheadBy, HasAhead, coded, length_of, buffer_state}
use Rattle.sg_stores.specs.Appending.{IsListWithSome, HoldsSome, IsAppending, IsNextPayload, StagesStore}
use Rattle.sg_stores.proofs.StoreLemmas.{within_then, goes_refl, goes_trans, goes_open, goes_closed, spelled-append, kept-append, kept-front, list-of, each-held, space-length, lengths-append}
use Rattle.sg_sinks.proofs.SpaceLemmas.{space_push}

-- the place in a longer list behind as many of its items
abbrev clip : ℕ → List BufferedEntry → ℕ
clip k tried = min k (length tried)

take-clip : (k : ℕ) (tried more : List BufferedEntry) → take (clip k tried) (tried ++ more) ≡ take k tried
take-clip k tried more = take-append-le (clip k tried) tried more (omega arith) ∙ take_min k tried

drop-clip : (k : ℕ) (tried more : List BufferedEntry) → drop (clip k tried) (tried ++ more) ≡ drop k tried ++ more
drop-clip k tried more = drop-append-le (clip k tried) tried more (omega arith) ∙ ap (λ r. r ++ more) (drop_min k tried)

-- all that a call tried, in whatever part it is staged
pub parted : (list tried : List BufferedEntry) (k : ℕ) → (list ++ take k tried) ++ drop k tried ≡ list ++ tried
parted list tried k = append_assoc list (take k tried) (drop k tried) ∙ ap (λ r. list ++ r) (take-append-drop k tried)

-- one more is tried
pub some-more : (list tried more : List BufferedEntry) (bytes : List ℕ) → IsListWithSome list tried bytes → IsListWithSome list (tried ++ more) bytes
some-more list tried more bytes some = record {
  taken = clip some.taken tried;
  entries = subst (λ r. IsListOf (map coded (list ++ r)) bytes) (sym (take-clip some.taken tried more)) some.entries;
}

-- the list is among those of a call
pub list-some : (list tried all : List BufferedEntry) (k : ℕ) (bytes : List ℕ) → list ++ take k tried ≡ all → AreKept (map coded all) → IsList (spelled (map coded all)) bytes → IsListWithSome list tried bytes
list-some list tried all k bytes same kept is = record { taken = k; entries = subst (λ r. IsListOf (map coded r) bytes) (sym same) (list-of all bytes kept is) }

begins-sized : (capacity : ℕ) (lengths : List ℕ) (buffer : Option BufferState) → HasBufferSize capacity lengths buffer → HasAhead capacity lengths buffer
begins-sized capacity lengths None size = size
begins-sized capacity lengths (Some buffer) size = record { limit = size.limit; count = omega (arith, size.count, size.unstaged); ahead = size.ahead }

-- nothing is staged yet
pub begins : (start : StoreState) → start.failed ≡ false → IsAppending start start []
begins start works = record {
  position = refl;
  worked = works;
  cause = λ failed. absurd (let no : false ≡ true = sym works ∙ failed in cc);
  goes = goes_refl start;
  within = λ list held. started start.disk (IsListWithSome list []) (λ c left. record { taken = 0; entries = subst (λ (l : List BufferedEntry). IsListOf (map coded l) c) (sym (append-nil list)) (each-held start list [] held c left) });
  holds = λ f list held. record { taken = 0; entries = subst (λ (l : List BufferedEntry). HoldsEntries start l []) (sym (append-nil list)) held };
  sized = λ f capacity lengths size. subst (λ (l : List ℕ). HasAhead capacity l start.buffer) (sym (append-nil lengths)) (begins-sized capacity lengths start.buffer size);
}

-- a store that has failed stays as it is
pub failed-stages : (store : StoreState) (payload : List ℕ) → store.failed ≡ true → StagesStore store store payload
failed-stages store payload failed = record {
  goes = goes_refl store;
  before = λ f. refl;
  none = λ n. refl;
  stages = λ start tried kept next app. record {
    position = app.position;
    worked = app.worked;
    cause = app.cause;
    goes = app.goes;
    within = λ list held. within_as start.disk store.disk (IsListWithSome list tried) (IsListWithSome list (tried ++ kept ∷ [])) (app.within list held) (λ c some. some-more list tried (kept ∷ []) c some);
    holds = λ works. absurd (let no : true ≡ false = sym failed ∙ works in cc);
    sized = λ works. absurd (let no : true ≡ false = sym failed ∙ works in cc);
  };
}

-- a store that isn't a disk-buffer has nothing of a call
no-buffer : (start store : StoreState) (tried : List BufferedEntry) (payload : List ℕ) (kept : BufferedEntry) → store.buffer ≡ None → store.failed ≡ false → IsNextPayload start tried payload kept → IsAppending start store tried → ⊥
no-buffer start store tried payload kept none works next app =
    subst (λ b. HasAhead next.capacity (next.lengths ++ map length_of tried) b) none (app.sized works next.capacity next.lengths next.size)

pub none-stages : (store : StoreState) (payload : List ℕ) (failed : Bool) → store.failed ≡ failed → store.buffer ≡ None → StagesStore store store payload
none-stages store payload true is none = failed-stages store payload is
none-stages store payload false is none = record {
  goes = goes_refl store;
  before = λ f. refl;
  none = λ n. refl;
  stages = λ start tried kept next app. absurd (no-buffer start store tried payload kept none is next app);
}

module _ {D : Type 0} (state : D → DiskState) (old new : View D) (payload : List ℕ) (small : old.capacity < 2 ^ 64) where
  -- the entry fits
  fits-behind : (f : Bool) → f ≡ false → (start : StoreState) (tried : List BufferedEntry) (kept : BufferedEntry) → IsNextPayload start tried payload kept → IsAppending start (buffer_state state f old) tried
      → (live old.rows.ahead + length payload + 6 ≤ old.capacity) × (length payload ≡ length_of kept) × (old.rows.count + old.rows.staged + 2 < 2 ^ 64)
  fits-behind f works start tried kept next app =
      let ahead = app.sized works next.capacity next.lengths next.size in
      let fits = leb-true (space (next.lengths ++ map length_of tried) + (5 + length_of kept + 1)) next.capacity next.fits in
      let long : length payload ≡ length_of kept = ap length next.spelled ∙ length-spelling (coded kept) in
      let many = space-length (next.lengths ++ map length_of tried) in
      (omega (arith, ahead.limit, ahead.ahead, fits, long), long, omega (arith, ahead.limit, ahead.ahead, ahead.count, fits, many, small))

  -- it doesn't
  pub no-room-stages : (f : Bool) → f ≡ false → SpoolStages state old new payload NoRoom → StagesStore (buffer_state state f old) (buffer_state state f new) payload
  no-room-stages f works refuses = subst (λ (v : View D). StagesStore (buffer_state state f old) (buffer_state state f v) payload) (sym refuses.2) (record {
    goes = goes_refl (buffer_state state f old);
    before = λ g. refl;
    none = λ n. refl;
    stages = λ start tried kept next app. absurd (refuses.1 (fits-behind f works start tried kept next app).0);
  })

  module _ (lasts : SpoolLasts state old new) (leaves : LeavesImages state old new (λ list staged. list ++ staged)) where
    -- within the call
    staged-within : (f : Bool) → f ≡ false → (start : StoreState) (tried : List BufferedEntry) (kept : BufferedEntry) → IsAppending start (buffer_state state f old) tried
        → (list : List BufferedEntry) → HoldsEntries start list [] → Within start.disk (state new.disk) (IsListWithSome list (tried ++ kept ∷ []))
    staged-within f works start tried kept app list held =
        let some = app.holds works list held in
        let k = some.taken in
        let all = parted list tried k in
        let whole : AreKept (map coded (list ++ tried)) = subst (λ (l : List BufferedEntry). AreKept (map coded l)) all some.entries.kept in
        within_then start.disk (state old.disk) (state new.disk) (IsListWithSome list tried) (IsEitherList (spelled (map coded (list ++ take k tried))) (spelled (map coded (list ++ take k tried)) ++ spelled (map coded (drop k tried)))) (IsListWithSome list (tried ++ kept ∷ []))
        (app.within list held)
        (leaves.within (spelled (map coded (list ++ take k tried))) (spelled (map coded (drop k tried))) some.entries.holds)
        (λ c one. some-more list tried (kept ∷ []) c one)
        (λ c is. ⊎_elim
        (λ one. list-some list (tried ++ kept ∷ []) (list ++ take k tried) (clip k tried) c (ap (λ r. list ++ r) (take-clip k tried (kept ∷ []))) (kept-front (list ++ take k tried) (drop k tried) some.entries.kept) one)
        (λ two. list-some list (tried ++ kept ∷ []) (list ++ tried) (length tried) c (ap (λ r. list ++ r) (take_at tried (kept ∷ []) (length tried) refl)) whole
        (subst (λ (e : Entries). IsList e c) (sym (spelled-append (list ++ take k tried) (drop k tried)) ∙ ap (λ l. spelled (map coded l)) all) two)) is)

    -- the disk failed
    pub failed-now : (f : Bool) → f ≡ false → old.closed ≡ false → SpoolStages state old new payload DiskFailed → StagesStore (buffer_state state f old) (buffer_state state true new) payload
    failed-now f works open_ drops = record {
      goes = goes_closed state f old new lasts open_ drops.1;
      before = λ failed. absurd (let no : false ≡ true = sym works ∙ failed in cc);
      none = λ n. absurd (let no = n in cc);
      stages = λ start tried kept next app. record {
        position = app.position;
        worked = app.worked;
        cause = λ g. lasts.blames start.disk.faults app.goes.later (λ closed. absurd (let no : false ≡ true = sym open_ ∙ closed in cc)) drops.1;
        goes = goes_trans start (buffer_state state f old) (buffer_state state true new) app.goes (goes_closed state f old new lasts open_ drops.1);
        within = λ list held. staged-within f works start tried kept app list held;
        holds = λ no. absurd (let wrong : true ≡ false = no in cc);
        sized = λ no. absurd (let wrong : true ≡ false = no in cc);
      };
    }

    -- the entry is staged
    staged-holds : (f : Bool) → f ≡ false → SpoolStages state old new payload Done → (start : StoreState) (tried : List BufferedEntry) (kept : BufferedEntry) → IsNextPayload start tried payload kept → IsAppending start (buffer_state state f old) tried
        → (list : List BufferedEntry) → HoldsEntries start list [] → HoldsSome (buffer_state state f new) list (tried ++ kept ∷ [])
    staged-holds f works done start tried kept next app list held =
        let some = app.holds works list held in
        let k = some.taken in
        let all = parted list tried k in
        let whole : AreKept (map coded ((list ++ tried) ++ kept ∷ [])) = kept-append (list ++ tried) (kept ∷ []) (subst (λ (l : List BufferedEntry). AreKept (map coded l)) all some.entries.kept) (next.has_spelling, tt) in
        let every : (n : ℕ) → AreKept (map coded ((list ++ take n (tried ++ kept ∷ [])) ++ drop n (tried ++ kept ∷ []))) =
        λ n. subst (λ (l : List BufferedEntry). AreKept (map coded l)) (append_assoc list tried (kept ∷ []) ∙ sym (parted list (tried ++ kept ∷ []) n)) whole in
        ⊎_elim
        (λ one. record {
          taken = clip k tried;
          entries = record {
            holds = subst (λ (e : Entries). HoldsAt (state new.disk) new.rows (spelled (map coded (list ++ take (clip k tried) (tried ++ kept ∷ [])))) e)
                (ap (λ p. spelled (map coded (drop k tried)) ++ p ∷ []) next.spelled ∙ sym (spelled-append (drop k tried) (kept ∷ [])) ∙ ap (λ l. spelled (map coded l)) (sym (drop-clip k tried (kept ∷ []))))
                (subst (λ (l : List BufferedEntry). HoldsAt (state new.disk) new.rows (spelled (map coded (list ++ l))) (spelled (map coded (drop k tried)) ++ payload ∷ [])) (sym (take-clip k tried (kept ∷ []))) one.0);
            kept = every (clip k tried);
          };
        })
        (λ two. record {
          taken = length tried;
          entries = record {
            holds = subst (λ (l : List BufferedEntry). HoldsAt (state new.disk) new.rows (spelled (map coded (list ++ take (length tried) (tried ++ kept ∷ [])))) (spelled (map coded l))) (sym (drop_at tried (kept ∷ []) (length tried) refl))
                (subst (λ (p : List ℕ). HoldsAt (state new.disk) new.rows (spelled (map coded (list ++ take (length tried) (tried ++ kept ∷ [])))) (p ∷ [])) next.spelled
                (subst (λ (e : Entries). HoldsAt (state new.disk) new.rows e (payload ∷ []))
                (sym (spelled-append (list ++ take k tried) (drop k tried)) ∙ ap (λ l. spelled (map coded l)) (all ∙ ap (λ r. list ++ r) (sym (take_at tried (kept ∷ []) (length tried) refl)))) two.0));
            kept = every (length tried);
          };
        })
        (done.5 (spelled (map coded (list ++ take k tried))) (spelled (map coded (drop k tried))) some.entries.holds)

    staged-sized : (f : Bool) → f ≡ false → SpoolStages state old new payload Done → (start : StoreState) (tried : List BufferedEntry) (kept : BufferedEntry) → IsNextPayload start tried payload kept → IsAppending start (buffer_state state f old) tried
        → (capacity : ℕ) (lengths : List ℕ) → HasBufferSize capacity lengths start.buffer → IsAheadBy capacity (lengths ++ map length_of (tried ++ kept ∷ [])) (record { capacity = new.capacity; rows = new.rows })
    staged-sized f works done start tried kept next app capacity lengths size =
        let ahead = app.sized works capacity lengths size in
        let fits = fits-behind f works start tried kept next app in
        let same : lengths ++ map length_of (tried ++ kept ∷ []) ≡ (lengths ++ map length_of tried) ++ length_of kept ∷ [] = lengths-append lengths tried (kept ∷ []) in
        let long : length (lengths ++ map length_of (tried ++ kept ∷ [])) ≡ length (lengths ++ map length_of tried) + 1 = ap length same ∙ length_push (lengths ++ map length_of tried) (length_of kept) in
        let wide : space (lengths ++ map length_of (tried ++ kept ∷ [])) ≡ space (lengths ++ map length_of tried) + (5 + length_of kept) = ap space same ∙ space_push (lengths ++ map length_of tried) (length_of kept) in
        let more = done.3 in
        let number = done.4 in
        record {
          limit = lasts.capacity ∙ ahead.limit;
          count = omega (arith, number, ahead.count, long, fits.2);
          ahead = omega (arith, more, ahead.ahead, wide, fits.1);
        }

    pub done-stages : (f : Bool) → f ≡ false → SpoolStages state old new payload Done → StagesStore (buffer_state state f old) (buffer_state state f new) payload
    done-stages f works done = record {
      goes = goes_open state f old new lasts done.2;
      before = λ failed. absurd (let no : false ≡ true = sym works ∙ failed in cc);
      none = λ n. absurd (let no = n in cc);
      stages = λ start tried kept next app. record {
        position = app.position;
        worked = app.worked;
        cause = λ failed. absurd (let no : false ≡ true = sym works ∙ failed in cc);
        goes = goes_trans start (buffer_state state f old) (buffer_state state f new) app.goes (goes_open state f old new lasts done.2);
        within = λ list held. staged-within f works start tried kept app list held;
        holds = λ w list held. staged-holds f works done start tried kept next app list held;
        sized = λ w capacity lengths size. staged-sized f works done start tried kept next app capacity lengths size;
      };
    }
