-- What was staged is committed.
use Rattle.std.proofs.Common.{◌≡◌, ⊎_elim, ◌^◌, ◌<◌, List, [], ◌++◌, length, map, take, drop, None, refl, sym, ap, ◌∙◌, arith, subst, true, false, Bool}
use Rattle.std.specs.Prelude.{Ok, Err}
use Rattle.std.proofs.lemmas.List.{append-nil, take_all}
use Rattle.sg_device.specs.Disk.{DiskState, Within}
use Rattle.sg_device.specs.declared.fault.DiskFault.{DiskFault}
use Rattle.sg_spool.specs.Ring.{Entries, IsList}
use Rattle.sg_spool.specs.Lists.{IsEitherList}
use Rattle.sg_spool.specs.Places.{live}
use Rattle.sg_spool.specs.Calls.{SpoolLasts, LeavesImages}
use Rattle.sg_spool.specs.Answers.{Commits as SpoolCommits}
use Rattle.sg_spool.specs.View.{View, HoldsAt}
use Rattle.sg_spool.specs.declared.rows.Rows.{Rows}
use Rattle.sg_buffer.specs.Entries.{AreKept, spelled}
use Rattle.sg_machine.specs.Runs.{BufferedEntry}
use Rattle.sg_stores.specs.Stores.{StoreState, HoldsIn, HoldsEntries, IsBufferSized, HasAhead, coded, length_of, buffer_state}
use Rattle.sg_stores.specs.Appending.{IsListWithSome, IsAppending, CommitsStore}
use Rattle.sg_stores.proofs.StoreLemmas.{within_then, goes_refl, goes_trans, goes_open, goes_closed, spelled-append, kept-front, space-length}
use Rattle.sg_stores.proofs.StageLemmas.{parted, list-some}

-- a store that has failed stays as it is
pub failed-commits : (store : StoreState) → store.failed ≡ true → CommitsStore store store
failed-commits store failed = record {
  goes = goes_refl store;
  before = λ f. refl;
  none = λ n. refl;
  commits = λ start tried app. record {
    position = app.position;
    worked = app.worked;
    cause = app.cause;
    goes = app.goes;
    within = app.within;
    holds = λ works. absurd (let no : true ≡ false = sym failed ∙ works in cc);
    sized = λ works. absurd (let no : true ≡ false = sym failed ∙ works in cc);
  };
}

-- one that isn't a disk-buffer has nothing of a call
pub none-commits : (store : StoreState) → store.buffer ≡ None → CommitsStore store store
none-commits store none = record {
  goes = goes_refl store;
  before = λ f. refl;
  none = λ n. refl;
  commits = λ start tried app. record {
    position = app.position;
    worked = app.worked;
    cause = app.cause;
    goes = app.goes;
    within = app.within;
    holds = λ works list held.
        let some = app.holds works list held in
        absurd (subst (λ b. HoldsIn b store.disk (list ++ take some.taken tried) (drop some.taken tried)) none some.entries.holds);
    sized = λ works capacity lengths size. absurd (subst (λ b. HasAhead capacity (lengths ++ map length_of tried) b) none (app.sized works capacity lengths size));
  };
}

module _ {D : Type 0} (state : D → DiskState) (old new : View D) (lasts : SpoolLasts state old new) (leaves : LeavesImages state old new (λ list staged. list ++ staged)) (f : Bool) (works : f ≡ false) where
  module _ (start : StoreState) (tried : List BufferedEntry) (app : IsAppending start (buffer_state state f old) tried) (list : List BufferedEntry) (held : HoldsEntries start list []) where
    -- within the call
    commit-within : Within start.disk (state new.disk) (IsListWithSome list tried)
    commit-within =
        let some = app.holds works list held in
        let k = some.taken in
        let all = parted list tried k in
        within_then start.disk (state old.disk) (state new.disk) (IsListWithSome list tried) (IsEitherList (spelled (map coded (list ++ take k tried))) (spelled (map coded (list ++ take k tried)) ++ spelled (map coded (drop k tried)))) (IsListWithSome list tried)
        (app.within list held)
        (leaves.within (spelled (map coded (list ++ take k tried))) (spelled (map coded (drop k tried))) some.entries.holds)
        (λ c one. one)
        (λ c is. ⊎_elim
        (λ one. list-some list tried (list ++ take k tried) k c refl (kept-front (list ++ take k tried) (drop k tried) some.entries.kept) one)
        (λ two. list-some list tried (list ++ tried) (length tried) c (ap (λ r. list ++ r) (take_all (length tried) tried (omega arith))) (subst (λ (l : List BufferedEntry). AreKept (map coded l)) all some.entries.kept)
        (subst (λ (e : Entries). IsList e c) (sym (spelled-append (list ++ take k tried) (drop k tried)) ∙ ap (λ l. spelled (map coded l)) all) two)) is)

    commit-holds : (done : Unit) → SpoolCommits state old new (Ok done) → HoldsEntries (buffer_state state f new) (list ++ tried) []
    commit-holds done commits =
        let some = app.holds works list held in
        let k = some.taken in
        let all = parted list tried k in
        record {
          holds = subst (λ (e : Entries). HoldsAt (state new.disk) new.rows e []) (sym (spelled-append (list ++ take k tried) (drop k tried)) ∙ ap (λ l. spelled (map coded l)) all)
              (commits.3 (spelled (map coded (list ++ take k tried))) (spelled (map coded (drop k tried))) some.entries.holds);
          kept = subst (λ (l : List BufferedEntry). AreKept (map coded l)) (all ∙ sym (append-nil (list ++ tried))) some.entries.kept;
        }

  -- it is in the list
  pub done-commits : (done : Unit) → SpoolCommits state old new (Ok done) → live old.rows.ahead < 2 ^ 63 → CommitsStore (buffer_state state f old) (buffer_state state f new)
  done-commits done commits small = record {
    goes = goes_open state f old new lasts commits.1;
    before = λ failed. absurd (let no : false ≡ true = sym works ∙ failed in cc);
    none = λ n. absurd (let no = n in cc);
    commits = λ start tried app. record {
      position = app.position;
      worked = app.worked;
      cause = λ failed. absurd (let no : false ≡ true = sym works ∙ failed in cc);
      goes = goes_trans start (buffer_state state f old) (buffer_state state f new) app.goes (goes_open state f old new lasts commits.1);
      within = λ list held. commit-within start tried app list held;
      holds = λ w list held. commit-holds start tried app list held done commits;
      sized = λ w capacity lengths size.
          let ahead = app.sized works capacity lengths size in
          let many = space-length (lengths ++ map length_of tried) in
          subst (λ (r : Rows). IsBufferSized capacity (lengths ++ map length_of tried) (record { capacity = new.capacity; rows = r })) (sym commits.2) (record {
            limit = lasts.capacity ∙ ahead.limit;
            count = omega (arith, ahead.count, ahead.ahead, many, small);
            listed = ahead.ahead;
            ahead = ahead.ahead;
            unstaged = refl;
          });
    };
  }

  -- the disk failed
  pub failed-commit : (e : DiskFault) → old.closed ≡ false → SpoolCommits state old new (Err e) → CommitsStore (buffer_state state f old) (buffer_state state true new)
  failed-commit e open_ commits = record {
    goes = goes_closed state f old new lasts open_ commits.1;
    before = λ failed. absurd (let no : false ≡ true = sym works ∙ failed in cc);
    none = λ n. absurd (let no = n in cc);
    commits = λ start tried app. record {
      position = app.position;
      worked = app.worked;
      cause = λ g. lasts.blames start.disk.faults app.goes.later (λ closed. absurd (let no : false ≡ true = sym open_ ∙ closed in cc)) commits.1;
      goes = goes_trans start (buffer_state state f old) (buffer_state state true new) app.goes (goes_closed state f old new lasts open_ commits.1);
      within = λ list held. commit-within start tried app list held;
      holds = λ no. absurd (let wrong : true ≡ false = no in cc);
      sized = λ no. absurd (let wrong : true ≡ false = no in cc);
    };
  }
