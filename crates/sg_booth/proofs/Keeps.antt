-- Each step keeps the rule of the table.
use Rattle.std.proofs.Common.{◌≡◌, ◌≢◌, ℕ, zero, suc, ◌+◌, ◌^◌, ◌%◌, ◌≤◌, ◌<◌, List, [], ◌∷◌, ◌++◌, length, set, get_or, sym, refl, ap, ◌∙◌, subst, ⊎_elim, inl, inr, arith, length-append, append_assoc, append-nil, Option, Some, None}
use mathlib.Core.Option.{some, none, some-injective, some-ne-none}
use mathlib.Core.Option as maybe
use mathlib.Core.Logic.{dite}
use native.Mathlib.Decide.{ℕ_discrete}
use lib.ListN.{get_elem?}
use lib.Seq.{set-get_or}
use Rattle.std.specs.Option.{unwrap_or}
use Rattle.atomic_table.specs.Table.{State, step as step_of, Act, keeps, takes, gives, stepped, carried_after, Valid, Allows, Splits, Joins, opening, Final, Seen}
use Rattle.atomic_table.proofs.Lists.{at_set, set_again, at_snoc}
use Rattle.std.specs.declared.snapshot.Snapshot.{Snapshot}
use Rattle.sg_booth.specs.declared.office.OfficeExchange.{OfficeExchange}
use Rattle.sg_booth.specs.declared.table.Notes.{Notes}
use Rattle.sg_booth.specs.declared.table.ServedOffice.{ServedOffice}
use Rattle.sg_booth.specs.Lists.{total, times, joined_up, CountsOnce, CountsSome, StartsWith}
use Rattle.sg_booth.specs.Rule.{MakesOfficeCalls, places_of, first_notes, spent_notes, MadeIs, FitsNotes, IsHistoryGiven, IsHome, IsTableKept, drawn, drew, passed_notes, exchange_of, passed, returned, learned, TakesStep, looked, cut_left, cut_right, callless_notes, receipt_notes, both_notes, LiesAsGiven}
use Rattle.sg_booth.proofs.Sums.{total_set, total_same, total_append, total_at, total_two, total_find, total_else, times-append, times-one, times-none, joined_up-append, counts_same, counts_more, counts_less, counts_some, starts_more}

-- what holds of one view and of the others holds of all after a change of one
all_set : {A : Type 0} (F : A → Type 0) (vs : List A) (me : ℕ) (w : A) → F w → ((j : ℕ) (u : A) → j ≢ me → get_elem? vs j ≡ some u → F u) → (j : ℕ) (u : A) → get_elem? (set vs me w) j ≡ some u → F u
all_set F vs me w mine others j u e = ⊎_elim (λ (t : (j ≡ me) × (w ≡ u)). subst F t.1 mine) (λ (t : (j ≢ me) × (get_elem? vs j ≡ some u)). others j u t.0 t.1) (at_set vs me j w u e)

small : (n : ℕ) → n < 2 ^ 54 → (n + 1) % 2 ^ 64 ≡ n + 1
small n h = omega arith

module _ {V C R : Type 0} (step : V → C → R → V → Type 0) (may : V → C → Type 0) (room : V → ℕ) (made : V) (turns : ℕ) where
  abbrev N : Type 0
  N = Notes V C R

  abbrev S : Type 0
  S = Option (ServedOffice V C R)

  abbrev St : Type 0
  St = State S N

  abbrev BoothRule : St → Type 0
  BoothRule = IsTableKept step may room made turns

  abbrev lefts : List N → ℕ
  lefts vs = total (λ (v : N). v.left) vs

  abbrev outs : List N → ℕ
  outs vs = total (λ (v : N). v.out) vs

  abbrev tickets_at : List N → ℕ → ℕ
  tickets_at vs x = total (λ (v : N). times x v.ticket) vs

  abbrev places_at : List N → ℕ → ℕ
  places_at vs x = total (λ (v : N). times x (places_of v)) vs

  abbrev counts : List N → ℕ
  counts vs = total (λ (v : N). length (places_of v)) vs

  home_same : (log : List (OfficeExchange C R)) (n m : ℕ) (homes : List (maybe.Option S)) → m ≡ n → IsHome step may room made log n homes → IsHome step may room made log m homes
  home_same log n m homes e h = subst (λ k. IsHome step may room made log k homes) (sym e) h

  word_0 : (s : St) (k : BoothRule s) → get_or s.words 0 0 ≡ k.next
  word_0 s k = ap (λ ws. get_or ws 0 0) k.words

  word_1 : (s : St) (k : BoothRule s) → get_or s.words 1 0 ≡ length k.log
  word_1 s k = ap (λ ws. get_or ws 1 0) k.words

  -- a view with the ticket that is served is the only one
  pub alone : (s : St) (k : BoothRule s) (i j : ℕ) (v u : N) → get_elem? s.views i ≡ some v → get_elem? s.views j ≡ some u → v.ticket ≡ length k.log ∷ [] → 0 < u.sure → j ≡ i
  alone s k i j v u at at' ticket sure = dite (ℕ_discrete j i) (λ e. e) (λ other.
      let f : N → ℕ = λ v. times (length k.log) v.ticket in
      let two : f v + f u ≤ total f s.views = total_two f s.views i j v u (λ e. other (sym e)) at at' in
      let mine : f v ≡ 1 = ap (times (length k.log)) ticket ∙ times-one (length k.log) (length k.log) refl in
      let theirs : f u ≡ 1 = ap (times (length k.log)) ((k.fits j u at').sure sure).1 ∙ times-one (length k.log) (length k.log) refl in
      let c = k.tickets (length k.log) in
      let most : total f s.views ≤ 1 = dite (ℕ_discrete (k.next) (length k.log)) (λ e. let z = c.2 (omega arith) in omega arith) (λ n. let le = k.served in let z = c.1 (omega arith) (omega arith) in omega arith) in
      absurd (omega arith))

  -- while a seat with the served ticket has no slot, the office is at home
  pub at_home : (s : St) (k : BoothRule s) (i : ℕ) (v : N) → get_elem? s.views i ≡ some v → v.ticket ≡ length k.log ∷ [] → v.out ≡ 0
      → (outs s.views ≡ 0) × ((held : ServedOffice V C R) × (s.homes ≡ some (Some held) ∷ []) × IsHistoryGiven step may room made k.log held.office)
  at_home s k i v at ticket none_out = ⊎_elim (λ h. h) (λ h.
      let found = total_find (λ (v : N). v.out) s.views (let e = h.0 in omega arith) in
      let le = (k.fits found.0 found.1 found.2).out in
      let more = found.3 in
      let same : found.0 ≡ i = alone s k i found.0 v found.1 at found.2 ticket (omega arith) in
      let is : found.1 ≡ v = some-injective found.1 v (sym found.2 ∙ (ap (get_elem? s.views) same ∙ at)) in
      let e = ap (λ (u : N). u.out) is in absurd (omega arith)) k.home

  pub draws : (slots id : ℕ) (v : N) (c : List (ℕ × S)) → 0 < v.left → v.ticket ≡ [] → v.sure ≡ 0
      → Allows BoothRule slots id (v, c) 0 (λ n. (n + 1) % 2 ^ 64) (drew (step_of slots 0 1 0 none) (v, c))
  draws slots id v c some_left no_ticket unsure s k deep at bound =
      let n : ℕ = get_or s.words 0 0 in
      let w : N = drawn v n in
      let is : n ≡ k.next = word_0 s k in
      let l = total_at (λ (v : N). v.left) s.views id v at in
      let all = k.turns_are in
      let few = k.few in
      let next : (n + 1) % 2 ^ 64 ≡ k.next + 1 = small n (omega arith) ∙ ap (λ m. m + 1) is in
      let vs : List N = set s.views id w in
      let fit = k.fits id v at in (
        w,
        keeps,
        tt,
        record {
          log = k.log;
          next = k.next + 1;
          words = ap (λ ws. set ws 0 ((n + 1) % 2 ^ 64)) k.words ∙ ap (λ m. m ∷ length k.log ∷ []) next;
          served = (let le = k.served in omega arith);
          turns_are = (let p = total_set (λ (v : N). v.left) s.views id v w at in omega arith);
          few = few;
          roomy = k.roomy;
          tickets = counts_more (length k.log) k.next (tickets_at s.views) (tickets_at vs) k.tickets k.served (λ x.
              let p = total_set (λ (v : N). times x v.ticket) s.views id v w at in
              let none_mine : times x v.ticket ≡ 0 = ap (times x) no_ticket in
              let mine : times x (n ∷ []) ≡ times x (k.next ∷ []) = ap (λ m. times x (m ∷ [])) is in
              omega arith);
          places = counts_same 0 (length k.log) (places_at s.views) (places_at vs) k.places (λ x. total_same (λ (v : N). times x (places_of v)) s.views id v w at refl);
          counted = total_same (λ (v : N). length (places_of v)) s.views id v w at refl ∙ k.counted;
          fits = all_set (FitsNotes made k.log) s.views id w (record { made_is = fit.made_is; seen = fit.seen; told = fit.told; sure = λ h. absurd (omega arith); out = fit.out }) (λ j u _ e. k.fits j u e);
          home = home_same k.log (outs s.views) (outs vs) s.homes (total_same (λ (v : N). v.out) s.views id v w at refl) k.home;
        },
        (refl, refl),
      )

  -- a step that changes no word
  loads : (s : St) (i : ℕ) (homes : List (maybe.Option S)) (vs : List N) → BoothRule record { words = s.words; homes = homes; views = vs } → BoothRule record { words = set s.words i (get_or s.words i 0); homes = homes; views = vs }
  loads s i homes vs k = subst (λ (ws : List ℕ). BoothRule record { words = ws; homes = homes; views = vs }) (sym (set-get_or s.words i 0)) k

  -- the seat with the served ticket takes the slot
  takes_slot : (s : St) (k : BoothRule s) (id : ℕ) (v w : N) (held : ServedOffice V C R) → get_elem? s.views id ≡ some v → v.ticket ≡ length k.log ∷ [] → v.out ≡ 0 → s.homes ≡ some (Some held) ∷ []
      → w ≡ record v { seen = k.log; sure = 1; out = 1 } → outs s.views ≡ 0 → BoothRule record { words = s.words; homes = set s.homes 0 none; views = set s.views id w }
  takes_slot s k id v w held at ticket none_out homes is zero_out =
      let vs : List N = set s.views id w in
      let fit = k.fits id v at in
      let left_is : w.left ≡ v.left = ap (λ (u : N). u.left) is in
      let ticket_is : w.ticket ≡ v.ticket = ap (λ (u : N). u.ticket) is in
      let places_are : places_of w ≡ places_of v = ap places_of is in
      let out_is : w.out ≡ 1 = ap (λ (u : N). u.out) is in
      let seen_is : w.seen ≡ k.log = ap (λ (u : N). u.seen) is in
      record {
        log = k.log;
        next = k.next;
        words = k.words;
        served = k.served;
        turns_are = ap (λ m. m + k.next) (total_same (λ (v : N). v.left) s.views id v w at left_is) ∙ k.turns_are;
        few = k.few;
        roomy = k.roomy;
        tickets = counts_same (length k.log) k.next (tickets_at s.views) (tickets_at vs) k.tickets (λ x. total_same (λ (v : N). times x v.ticket) s.views id v w at (ap (times x) ticket_is));
        places = counts_same 0 (length k.log) (places_at s.views) (places_at vs) k.places (λ x. total_same (λ (v : N). times x (places_of v)) s.views id v w at (ap (times x) places_are));
        counted = total_same (λ (v : N). length (places_of v)) s.views id v w at (ap length places_are) ∙ k.counted;
        fits = all_set (FitsNotes made k.log) s.views id w (record {
          made_is = subst (MadeIs made) (sym (ap (λ (u : N). u.made) is)) fit.made_is;
          seen = ([], sym (append-nil w.seen ∙ seen_is));
          told = subst (StartsWith k.log) (sym (ap (λ (u : N). u.told) is)) fit.told;
          sure = λ _. (seen_is, ticket_is ∙ ticket);
          out = (let e = ap (λ (u : N). u.sure) is in omega arith);
        }) (λ j u _ e. k.fits j u e);
        home = inr ((let p = total_set (λ (v : N). v.out) s.views id v w at in omega arith), ap (λ hs. set hs 0 none) homes);
      }

  sees : (s : St) (k : BoothRule s) (id : ℕ) (v : N) (c : List (ℕ × S)) (t : ℕ) → get_elem? s.views id ≡ some v → v.ticket ≡ t ∷ [] → v.sure ≡ 0 → v.out ≡ 0 → get_or s.words 1 0 ≡ t
      → (w : N) × (a : Act S) × Valid s.homes c a × BoothRule (stepped s 1 (get_or s.words 1 0) id c w a) × TakesStep step may room (v, c) (w, carried_after c a)
  sees s k id v c t at ticket unsure kept found =
      let here : t ≡ length k.log = sym found ∙ word_1 s k in
      let ticket' : v.ticket ≡ length k.log ∷ [] = ticket ∙ ap (λ m. m ∷ []) here in
      let home = at_home s k id v at ticket' kept in
      let held : ServedOffice V C R = home.1.0 in
      let homes : s.homes ≡ some (Some held) ∷ [] = home.1.1 in
      let given : IsHistoryGiven step may room made k.log held.office = home.1.2 in
      let fit = k.fits id v at in
      let more : List (OfficeExchange C R) = fit.seen.0 in
      let whole : k.log ≡ v.seen ++ more = fit.seen.1 in
      let w : N = record v { seen = v.seen ++ more; sure = 1; out = 1 } in
      let is : w ≡ record v { seen = k.log; sure = 1; out = 1 } = ap (λ l. record v { seen = l; sure = 1; out = 1 }) (sym whole) in
      let f : N → ℕ = λ v. times (length k.log) v.ticket in
      let some_ticket : f v ≡ 1 = ap (times (length k.log)) ticket' ∙ times-one (length k.log) (length k.log) refl in
      let at_least = total_at f s.views id v at in
      let served = k.served in
      let before : length k.log < k.next = dite (ℕ_discrete k.next (length k.log)) (λ e. absurd (let z = (k.tickets (length k.log)).2 (omega arith) in omega arith)) (λ n. omega arith) in
      let all = k.turns_are in
      let roomy = k.roomy in
      let left = given.room_left in (
        w,
        takes 0 (Some held),
        ap (λ hs. get_elem? hs 0) homes,
        loads s 1 (set s.homes 0 none) (set s.views id w) (takes_slot s k id v w held at ticket' kept homes is home.0),
        (
          held,
          more,
          refl,
          refl,
          (λ made' e. let same : made' ≡ made = subst (MadeIs made) e fit.made_is in subst (λ (z : V × List (OfficeExchange C R)). IsHistoryGiven step may room z.0 z.1 held.office) (λ i. (sym same i, whole i)) given),
          omega arith,
        ),
      )

  pub looks : (slots id : ℕ) (v : N) (c : List (ℕ × S)) (t : ℕ) → v.ticket ≡ t ∷ [] → v.sure ≡ 0 → v.out ≡ 0
      → Allows BoothRule slots id (v, c) 1 (λ n. n) (looked step may room (step_of slots 1 0 0 none) (v, c))
  looks slots id v c t ticket unsure kept s k deep at bound =
      let n : ℕ = get_or s.words 1 0 in
      let this : (t' : ℕ) → v.ticket ≡ t' ∷ [] → t' ≡ t = λ t' e. ap (λ ts. get_or ts 0 0) (sym e ∙ ticket) in
      dite (ℕ_discrete n t)
      (λ found. let r = sees s k id v c t at ticket unsure kept found in
      (r.0, r.1, r.2, r.3, λ t' e _. ((λ _. r.4), (λ other. absurd (other (found ∙ sym (this t' e)))))))
      (λ other. (
        v,
        keeps,
        tt,
        loads s 1 s.homes (set s.views id v) (subst (λ (vs : List N). BoothRule record { words = s.words; homes = s.homes; views = vs }) (sym (set_again s.views id v at)) k),
        λ t' e _. ((λ found. absurd (other (found ∙ this t' e))), (λ _. refl)),
      ))

  -- the seat that is served gives the slot back, with the office that its history and one call more give
  passes_slot : (s : St) (k : BoothRule s) (id : ℕ) (v w : N) (held : ServedOffice V C R) (e : OfficeExchange C R) (n : ℕ) → get_elem? s.views id ≡ some v → 0 < v.sure → v.out ≡ 1 → w ≡ passed_notes v e
      → IsHistoryGiven step may room made (v.seen ++ e ∷ []) held.office → n ≡ length k.log → BoothRule record { words = set s.words 1 ((n + 1) % 2 ^ 64); homes = set s.homes 0 (some (Some held)); views = set s.views id w }
  passes_slot s k id v w held e n at sure out is given found =
      let vs : List N = set s.views id w in
      let fit = k.fits id v at in
      let seen : v.seen ≡ k.log = (fit.sure sure).0 in
      let ticket : v.ticket ≡ length k.log ∷ [] = (fit.sure sure).1 in
      let log : List (OfficeExchange C R) = k.log ++ e ∷ [] in
      let longer : length log ≡ length k.log + 1 = length-append k.log (e ∷ []) in
      let mine : times (length k.log) v.ticket ≡ 1 = ap (times (length k.log)) ticket ∙ times-one (length k.log) (length k.log) refl in
      let at_least = total_at (λ (v : N). times (length k.log) v.ticket) s.views id v at in
      let served = k.served in
      let before : length k.log < k.next = dite (ℕ_discrete k.next (length k.log)) (λ e. absurd (let z = (k.tickets (length k.log)).2 (omega arith) in omega arith)) (λ n. omega arith) in
      let all = k.turns_are in
      let few = k.few in
      let next : (n + 1) % 2 ^ 64 ≡ length log = small n (omega arith) ∙ (ap (λ m. m + 1) found ∙ sym longer) in
      let left_is : w.left ≡ v.left = ap (λ (u : N). u.left) is in
      let ticket_is : w.ticket ≡ [] = ap (λ (u : N). u.ticket) is in
      let own_is : w.own ≡ v.own ++ length k.log ∷ [] = ap (λ (u : N). u.own) is ∙ ap (λ l. v.own ++ length l ∷ []) seen in
      let joined_is : w.joined ≡ v.joined = ap (λ (u : N). u.joined) is in
      let out_is : w.out ≡ 0 = ap (λ (u : N). u.out) is in
      let sure_is : w.sure ≡ 0 = ap (λ (u : N). u.sure) is in
      let seen_is : w.seen ≡ log = ap (λ (u : N). u.seen) is ∙ ap (λ l. l ++ e ∷ []) seen in
      let o = total_at (λ (v : N). v.out) s.views id v at in
      let out_once : (outs s.views ≡ 1) × (s.homes ≡ none ∷ []) = ⊎_elim (λ h. absurd (let z = h.0 in omega arith)) (λ h. h) k.home in
      let places_is : places_of w ≡ v.own ++ length k.log ∷ joined_up v.joined = (λ i. own_is i ++ joined_up (joined_is i)) ∙ append_assoc v.own (length k.log ∷ []) (joined_up v.joined) in
      record {
        log = log;
        next = k.next;
        words = ap (λ ws. set ws 1 ((n + 1) % 2 ^ 64)) k.words ∙ ap (λ m. k.next ∷ m ∷ []) next;
        served = omega arith;
        turns_are = ap (λ m. m + k.next) (total_same (λ (v : N). v.left) s.views id v w at left_is) ∙ all;
        few = few;
        roomy = k.roomy;
        tickets = subst (λ m. CountsOnce m k.next (tickets_at vs)) (sym longer) (counts_less (length k.log) k.next (tickets_at s.views) (tickets_at vs) k.tickets before (λ x.
            let p = total_set (λ (v : N). times x v.ticket) s.views id v w at in
            let a : times x v.ticket ≡ times x (length k.log ∷ []) = ap (times x) ticket in
            let b : times x w.ticket ≡ 0 = ap (times x) ticket_is in
            omega arith));
        places = subst (λ m. CountsOnce 0 m (places_at vs)) (sym longer) (counts_more 0 (length k.log) (places_at s.views) (places_at vs) k.places (omega arith) (λ x.
            let p = total_set (λ (v : N). times x (places_of v)) s.views id v w at in
            let a : times x (places_of w) ≡ times x (v.own ++ length k.log ∷ joined_up v.joined) = ap (times x) places_is in
            let b = times-append x v.own (length k.log ∷ joined_up v.joined) in
            let c = times-append x v.own (joined_up v.joined) in
            let d = times-append x (length k.log ∷ []) (joined_up v.joined) in
            omega arith));
        counted = (
            let p = total_set (λ (v : N). length (places_of v)) s.views id v w at in
            let a : length (places_of w) ≡ length (v.own ++ length k.log ∷ joined_up v.joined) = ap length places_is in
            let b = length-append v.own (length k.log ∷ joined_up v.joined) in
            let c = length-append v.own (joined_up v.joined) in
            let d = k.counted in
            omega arith);
        fits = all_set (FitsNotes made log) s.views id w (record {
          made_is = subst (MadeIs made) (sym (ap (λ (u : N). u.made) is)) fit.made_is;
          seen = ([], sym (append-nil w.seen ∙ seen_is));
          told = subst (StartsWith log) (sym (ap (λ (u : N). u.told) is)) (starts_more k.log v.told e fit.told);
          sure = λ h. absurd (omega arith);
          out = omega arith;
        }) (λ j u other at'. let f = k.fits j u at' in record {
          made_is = f.made_is;
          seen = starts_more k.log u.seen e f.seen;
          told = starts_more k.log u.told e f.told;
          sure = λ h. absurd (other (alone s k id j v u at at' ticket h));
          out = f.out;
        });
        home = inl (
          (let p = total_set (λ (v : N). v.out) s.views id v w at in let q = out_once.0 in omega arith),
          (held, ap (λ hs. set hs 0 (some (Some held))) out_once.1, subst (λ l. IsHistoryGiven step may room made (l ++ e ∷ []) held.office) seen given),
        );
      }

  passes_at : (slots id : ℕ) (v : N) (held : ServedOffice V C R) (x : Snapshot C × Snapshot R) → 0 < v.sure → v.out ≡ 1 → held.said ≡ Some x → IsHistoryGiven step may room made (v.seen ++ exchange_of x ∷ []) held.office
      → Allows BoothRule slots id (v, (0, Some held) ∷ []) 1 (λ n. (n + 1) % 2 ^ 64) (passed (step_of slots 1 1 0 none) (v, (0, Some held) ∷ []))
  passes_at slots id v held x sure out said given s k deep at bound =
      let e : OfficeExchange C R = exchange_of x in
      let w : N = passed_notes v e in (
        w,
        gives,
        tt,
        passes_slot s k id v w held e (get_or s.words 1 0) at sure out refl given (word_1 s k),
        λ x' said'. (refl, ap (λ y. passed_notes v (exchange_of (unwrap_or y x))) (sym said ∙ said')),
      )

  pub passes : (slots id : ℕ) (v : N) (c : List (ℕ × S)) (held : ServedOffice V C R) (x : Snapshot C × Snapshot R) → c ≡ (0, Some held) ∷ [] → 0 < v.sure → v.out ≡ 1 → held.said ≡ Some x → IsHistoryGiven step may room made (v.seen ++ exchange_of x ∷ []) held.office
      → Allows BoothRule slots id (v, c) 1 (λ n. (n + 1) % 2 ^ 64) (passed (step_of slots 1 1 0 none) (v, c))
  passes slots id v c held x is sure out said given = subst (λ cs. Allows BoothRule slots id (v, cs) 1 (λ n. (n + 1) % 2 ^ 64) (passed (step_of slots 1 1 0 none) (v, cs))) (sym is) (passes_at slots id v held x sure out said given)

  -- a view that a seat without office may come to, where its tickets, its turns and its places stay as they are
  moves : (s : St) (k : BoothRule s) (id : ℕ) (v w : N) (homes : List (maybe.Option S)) → get_elem? s.views id ≡ some v → w.left ≡ v.left → w.ticket ≡ v.ticket → w.own ≡ v.own → w.joined ≡ v.joined
      → FitsNotes made k.log w → IsHome step may room made k.log (outs (set s.views id w)) homes → BoothRule record { words = s.words; homes = homes; views = set s.views id w }
  moves s k id v w homes at left_is ticket_is own_is joined_is fit home =
      let vs : List N = set s.views id w in
      let places_are : places_of w ≡ places_of v = λ i. own_is i ++ joined_up (joined_is i) in
      record {
        log = k.log;
        next = k.next;
        words = k.words;
        served = k.served;
        turns_are = ap (λ m. m + k.next) (total_same (λ (v : N). v.left) s.views id v w at left_is) ∙ k.turns_are;
        few = k.few;
        roomy = k.roomy;
        tickets = counts_same (length k.log) k.next (tickets_at s.views) (tickets_at vs) k.tickets (λ x. total_same (λ (v : N). times x v.ticket) s.views id v w at (ap (times x) ticket_is));
        places = counts_same 0 (length k.log) (places_at s.views) (places_at vs) k.places (λ x. total_same (λ (v : N). times x (places_of v)) s.views id v w at (ap (times x) places_are));
        counted = total_same (λ (v : N). length (places_of v)) s.views id v w at (ap length places_are) ∙ k.counted;
        fits = all_set (FitsNotes made k.log) s.views id w fit (λ j u _ e. k.fits j u e);
        home = home;
      }

  returns_at : (slots id : ℕ) (v : N) (held : ServedOffice V C R) → 0 < v.sure → v.out ≡ 1 → IsHistoryGiven step may room made v.seen held.office
      → Allows BoothRule slots id (v, (0, Some held) ∷ []) 1 (λ n. n) (returned (step_of slots 1 0 0 none) (v, (0, Some held) ∷ []))
  returns_at slots id v held sure out given s k deep at bound =
      let w : N = record v { out = 0 } in
      let fit = k.fits id v at in
      let o = total_at (λ (v : N). v.out) s.views id v at in
      let out_once : (outs s.views ≡ 1) × (s.homes ≡ none ∷ []) = ⊎_elim (λ h. absurd (let z = h.0 in omega arith)) (λ h. h) k.home in (
        w,
        gives,
        tt,
        loads s 1 (set s.homes 0 (some (Some held))) (set s.views id w) (moves s k id v w (set s.homes 0 (some (Some held))) at refl refl refl refl
            (record { made_is = fit.made_is; seen = fit.seen; told = fit.told; sure = fit.sure; out = omega arith })
            (inl (
              (let p = total_set (λ (v : N). v.out) s.views id v w at in let q = out_once.0 in omega arith),
              (held, ap (λ hs. set hs 0 (some (Some held))) out_once.1, subst (λ l. IsHistoryGiven step may room made l held.office) (fit.sure sure).0 given),
            ))),
        (refl, refl),
      )

  pub returns : (slots id : ℕ) (v : N) (c : List (ℕ × S)) (held : ServedOffice V C R) → c ≡ (0, Some held) ∷ [] → 0 < v.sure → v.out ≡ 1 → IsHistoryGiven step may room made v.seen held.office
      → Allows BoothRule slots id (v, c) 1 (λ n. n) (returned (step_of slots 1 0 0 none) (v, c))
  returns slots id v c held is sure out given = subst (λ cs. Allows BoothRule slots id (v, cs) 1 (λ n. n) (returned (step_of slots 1 0 0 none) (v, cs))) (sym is) (returns_at slots id v held sure out given)

  -- all is seen
  pub learns : (slots id : ℕ) (v : N) (c : List (ℕ × S)) → v.sure ≡ 0 → v.out ≡ 0 → Allows BoothRule slots id (v, c) 0 (λ n. n) (learned (step_of slots 0 0 0 none) (v, c))
  learns slots id v c unsure none_out s k deep at bound =
      let fit = k.fits id v at in
      let more : List (OfficeExchange C R) = fit.seen.0 in
      let whole : k.log ≡ v.seen ++ more = fit.seen.1 in
      let w : N = record v { seen = v.seen ++ more; told = [] } in (
        w,
        keeps,
        tt,
        loads s 0 s.homes (set s.views id w) (moves s k id v w s.homes at refl refl refl refl
            (record { made_is = fit.made_is; seen = ([], whole ∙ sym (append-nil (v.seen ++ more))); told = (k.log, refl); sure = λ h. absurd (omega arith); out = fit.out })
            (home_same k.log (outs s.views) (outs (set s.views id w)) s.homes (total_same (λ (v : N). v.out) s.views id v w at refl) k.home)),
        (refl, (more, refl, subst (λ l. StartsWith l v.told) whole fit.told), (let a = total_at (λ (v : N). v.left) s.views id v at in let b = k.turns_are in let c = k.few in omega arith)),
      )

  -- a seat that holds no ticket gives turns to a new one
  pub cuts : (n id : ℕ) (v : N) → n ≤ v.left → Splits BoothRule id v (cut_left n v) (cut_right n v)
  cuts n id v le s k at =
      let l : N = cut_left n v in
      let r : N = cut_right n v in
      let vs : List N = set s.views id l ++ r ∷ [] in
      let fit = k.fits id v at in
      let fits_l : FitsNotes made k.log l = record { made_is = fit.made_is; seen = fit.seen; told = fit.told; sure = fit.sure; out = fit.out } in
      let fits_r : FitsNotes made k.log r = record { made_is = fit.made_is; seen = fit.seen; told = (k.log, refl); sure = λ h. absurd (omega arith); out = omega arith } in
      let parts : (f : N → ℕ) → f l ≡ f v → f r ≡ 0 → total f vs ≡ total f s.views = λ f e z. let p = total_same f s.views id v l at e in let q = total_append f (set s.views id l) (r ∷ []) in omega arith in
      record {
        log = k.log;
        next = k.next;
        words = k.words;
        served = k.served;
        turns_are = (let p = total_set (λ (v : N). v.left) s.views id v l at in let q = total_append (λ (v : N). v.left) (set s.views id l) (r ∷ []) in let z = k.turns_are in omega arith);
        few = k.few;
        roomy = k.roomy;
        tickets = counts_same (length k.log) k.next (tickets_at s.views) (tickets_at vs) k.tickets (λ x. parts (λ (v : N). times x v.ticket) refl refl);
        places = counts_same 0 (length k.log) (places_at s.views) (places_at vs) k.places (λ x. parts (λ (v : N). times x (places_of v)) refl refl);
        counted = parts (λ (v : N). length (places_of v)) refl refl ∙ k.counted;
        fits = λ j u e. ⊎_elim (λ h. all_set (FitsNotes made k.log) s.views id l fits_l (λ j u _ e. k.fits j u e) j u h) (λ is. subst (FitsNotes made k.log) is fits_r) (at_snoc (set s.views id l) r u j e);
        home = home_same k.log (outs s.views) (outs vs) s.homes (parts (λ (v : N). v.out) refl refl) k.home;
      }

  -- a seat gives its calls to a new one
  pub hands : (id : ℕ) (v : N) → Splits BoothRule id v (callless_notes v) (receipt_notes v)
  hands id v s k at =
      let l : N = callless_notes v in
      let r : N = receipt_notes v in
      let vs : List N = set s.views id l ++ r ∷ [] in
      let fit = k.fits id v at in
      let fits_l : FitsNotes made k.log l = record { made_is = fit.made_is; seen = fit.seen; told = fit.told; sure = fit.sure; out = fit.out } in
      let fits_r : FitsNotes made k.log r = record { made_is = fit.made_is; seen = fit.seen; told = (k.log, refl); sure = λ h. absurd (omega arith); out = omega arith } in
      let parts : (f : N → ℕ) → f l + f r ≡ f v → total f vs ≡ total f s.views = λ f e. let p = total_set f s.views id v l at in let q = total_append f (set s.views id l) (r ∷ []) in omega arith in
      let plain : (n : ℕ) → n + 0 ≡ n = λ n. omega arith in
      let bare : (n : ℕ) → 0 + n ≡ n = λ n. omega arith in
      record {
        log = k.log;
        next = k.next;
        words = k.words;
        served = k.served;
        turns_are = ap (λ m. m + k.next) (parts (λ (v : N). v.left) (plain v.left)) ∙ k.turns_are;
        few = k.few;
        roomy = k.roomy;
        tickets = counts_same (length k.log) k.next (tickets_at s.views) (tickets_at vs) k.tickets (λ x. parts (λ (v : N). times x v.ticket) (plain (times x v.ticket)));
        places = counts_same 0 (length k.log) (places_at s.views) (places_at vs) k.places (λ x. parts (λ (v : N). times x (places_of v)) (bare (times x (places_of v))));
        counted = parts (λ (v : N). length (places_of v)) (bare (length (places_of v))) ∙ k.counted;
        fits = λ j u e. ⊎_elim (λ h. all_set (FitsNotes made k.log) s.views id l fits_l (λ j u _ e. k.fits j u e) j u h) (λ is. subst (FitsNotes made k.log) is fits_r) (at_snoc (set s.views id l) r u j e);
        home = home_same k.log (outs s.views) (outs vs) s.homes (parts (λ (v : N). v.out) (plain v.out)) k.home;
      }

  -- a seat takes in another, which holds no ticket
  pub joins : (id : ℕ) (v : N) (other : ℕ) (w : N) → w.ticket ≡ [] → w.out ≡ 0 → Joins BoothRule id v other w (both_notes v w) spent_notes
  joins id v other w no_ticket none_out s k at apart at' =
      let b : N = both_notes v w in
      let z : N = spent_notes in
      let one : List N = set s.views id b in
      let vs : List N = set one other z in
      let was : get_elem? s.views other ≡ some w = ⊎_elim (λ x. absurd (apart x.0)) (λ x. x.1) (at_set s.views id other b w at') in
      let fit = k.fits id v at in
      let fit' = k.fits other w was in
      let fits_b : FitsNotes made k.log b = record { made_is = fit.made_is; seen = fit.seen; told = fit'.seen; sure = fit.sure; out = fit.out } in
      let fits_z : FitsNotes made k.log z = record { made_is = tt; seen = (k.log, refl); told = (k.log, refl); sure = λ h. absurd (omega arith); out = omega arith } in
      let parts : (f : N → ℕ) → f b ≡ f v + f w → f z ≡ 0 → total f vs ≡ total f s.views = λ f e n. let p = total_set f s.views id v b at in let q = total_set f one other w z at' in omega arith in
      record {
        log = k.log;
        next = k.next;
        words = k.words;
        served = k.served;
        turns_are = ap (λ m. m + k.next) (parts (λ (v : N). v.left) refl refl) ∙ k.turns_are;
        few = k.few;
        roomy = k.roomy;
        tickets = counts_same (length k.log) k.next (tickets_at s.views) (tickets_at vs) k.tickets (λ x. parts (λ (v : N). times x v.ticket) (let e : times x w.ticket ≡ 0 = ap (times x) no_ticket in omega arith) refl);
        places = counts_same 0 (length k.log) (places_at s.views) (places_at vs) k.places (λ x. parts (λ (v : N). times x (places_of v)) (
            let a = times-append x v.own (joined_up (v.joined ++ w.own ∷ w.joined)) in
            let b : times x (joined_up (v.joined ++ w.own ∷ w.joined)) ≡ times x (joined_up v.joined ++ (w.own ++ joined_up w.joined)) = ap (times x) (joined_up-append v.joined (w.own ∷ w.joined)) in
            let c = times-append x (joined_up v.joined) (w.own ++ joined_up w.joined) in
            let d = times-append x v.own (joined_up v.joined) in
            omega arith) refl);
        counted = parts (λ (v : N). length (places_of v)) (
            let a = length-append v.own (joined_up (v.joined ++ w.own ∷ w.joined)) in
            let b : length (joined_up (v.joined ++ w.own ∷ w.joined)) ≡ length (joined_up v.joined ++ (w.own ++ joined_up w.joined)) = ap length (joined_up-append v.joined (w.own ∷ w.joined)) in
            let c = length-append (joined_up v.joined) (w.own ++ joined_up w.joined) in
            let d = length-append v.own (joined_up v.joined) in
            omega arith) refl ∙ k.counted;
        fits = all_set (FitsNotes made k.log) one other z fits_z (λ j u _ e. all_set (FitsNotes made k.log) s.views id b fits_b (λ j u _ e. k.fits j u e) j u e);
        home = home_same k.log (outs s.views) (outs vs) s.homes (parts (λ (v : N). v.out) (let e = none_out in omega arith) refl) k.home;
      }

  -- the table as it is made
  pub opens : (held : ServedOffice V C R) → held.office ≡ made → turns ≤ 2 ^ 54 → turns ≤ room made → BoothRule (opening (0 ∷ 0 ∷ []) (Some held ∷ []) (first_notes made turns))
  opens held is few roomy = record {
    log = [];
    next = 0;
    words = refl;
    served = omega arith;
    turns_are = omega arith;
    few = few;
    roomy = roomy;
    tickets = λ x. ((λ h. refl), (λ h h'. absurd (omega arith)), (λ h. refl));
    places = λ x. ((λ h. refl), (λ h h'. absurd (omega arith)), (λ h. refl));
    counted = refl;
    fits = first;
    home = inl (refl, (held, refl, record { makes = is; may_still = λ c m. subst (λ (o : V). may o c) (sym is) m; room_left = (let e = ap room is in omega arith) }));
  }
    where
      first : (j : ℕ) (v : N) → get_elem? (first_notes made turns ∷ []) j ≡ some v → FitsNotes made [] v
      first zero v e = subst (FitsNotes made []) (some-injective (first_notes made turns) v e) (record { made_is = refl; seen = ([], refl); told = ([], refl); sure = λ h. absurd (omega arith); out = omega arith })
      first (suc j) v e = absurd (some-ne-none v (sym e))

  -- The table as it ends, where a seat that was served gave the slot back: the slot has what the history gives, and the seat has seen
  -- the history. Where the seat's places and turns are all that the booth was made with, the history has no other places.
  pub ends : (id : ℕ) (v : N) (ws : List ℕ) (xs : List S) → 0 < v.sure → v.out ≡ 0 → Final (Seen BoothRule id v) ws xs
      → (held : ServedOffice V C R) × (get_elem? xs 0 ≡ some (Some held)) × IsHistoryGiven step may room made v.seen held.office
      × (length (places_of v) + (v.left + 1) ≡ turns → CountsOnce 0 (length v.seen) (λ x. times x (places_of v)))
      × (length v.seen + (v.left + 1) ≤ turns) × CountsSome (length v.seen) (λ x. times x (places_of v))
  ends id v ws xs sure none_out f =
      let s : St = f.0 in
      let k : BoothRule s = f.1.0 in
      let at : get_elem? s.views id ≡ some v = f.1.1 in
      let fit = k.fits id v at in
      let seen : v.seen ≡ k.log = (fit.sure sure).0 in
      let ticket : v.ticket ≡ length k.log ∷ [] = (fit.sure sure).1 in
      let home = at_home s k id v at ticket none_out in
      let held : ServedOffice V C R = home.1.0 in
      let mine : times (length k.log) v.ticket ≡ 1 = ap (times (length k.log)) ticket ∙ times-one (length k.log) (length k.log) refl in
      let at_least = total_at (λ (v : N). times (length k.log) v.ticket) s.views id v at in
      let served = k.served in
      let before : length k.log < k.next = dite (ℕ_discrete k.next (length k.log)) (λ e. absurd (let z = (k.tickets (length k.log)).2 (omega arith) in omega arith)) (λ n. omega arith) in
      let l = total_at (λ (v : N). v.left) s.views id v at in
      let p = total_at (λ (v : N). length (places_of v)) s.views id v at in
      let all = k.turns_are in
      let counted = k.counted in (
        held,
        f.4 0 (Some held) (ap (λ hs. get_elem? hs 0) home.1.1),
        subst (λ l. IsHistoryGiven step may room made l held.office) (sym seen) home.1.2,
        λ mine_all.
            let whole : total (λ (v : N). length (places_of v)) s.views ≡ length (places_of v) = omega arith in
            subst (λ l. CountsOnce 0 l (λ x. times x (places_of v))) (ap length (sym seen))
            (counts_same 0 (length k.log) (places_at s.views) (λ x. times x (places_of v)) k.places (λ x. sym (total_else (λ (v : N). times x (places_of v)) (λ (v : N). length (places_of v)) s.views id v at (λ u e. times-none x (places_of u) e) whole))),
        (let long = ap length seen in omega arith),
        λ x.
            let one = total_at (λ (v : N). times x (places_of v)) s.views id v at in
            let long = ap length seen in
            counts_some 0 (length k.log) (length v.seen) x (places_at s.views x) (times x (places_of v)) (k.places x) one long,
      )

abbrev first_of : {S : Type 0} → List (maybe.Option S) → maybe.Option S
first_of [] = none
first_of (x ∷ xs) = x

abbrev office_at : {V C R : Type 0} → V → List (maybe.Option (Option (ServedOffice V C R))) → V
office_at d [] = d
office_at d (none ∷ xs) = d
office_at d (some None ∷ xs) = d
office_at d (some (Some held) ∷ xs) = held.office

pub lies : {V C R : Type 0} (step : V → C → R → V → Type 0) (may : V → C → Type 0) (room : V → ℕ) → LiesAsGiven step may room
lies step may room made turns s held k is = (
  k.log,
  ap (λ ws. get_or ws 1 0) k.words,
  ⊎_elim
      (λ h. subst (λ o. MakesOfficeCalls step made k.log o) (let e : s.homes ≡ some (Some h.1.0) ∷ [] = h.1.1 in ap (office_at held.office) (sym e ∙ is)) h.1.2.makes)
      (λ h. let e : s.homes ≡ none ∷ [] = h.1 in absurd (some-ne-none (Some held) (ap first_of (sym is ∙ e)))) k.home,
)
