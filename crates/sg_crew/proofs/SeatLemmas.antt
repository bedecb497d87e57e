-- Seats of a phase, and the first seat, into which they are joined.
use Rattle.std.proofs.Common.{arith, ◌≡◌, ◌≤◌, ◌<◌, ◌+◌, ◌-◌, ℕ, suc, List, [], ◌∷◌, ◌++◌, length, map, refl, ap, sym, ◌∙◌, subst, slice_get, Some, inl, inr, append_assoc, length-append}
use Rattle.std.proofs.lemmas.List.{append-nil, map-append}
use Rattle.std.specs.Prelude.{◌*◌}
use Rattle.sg_list.proofs.ListLemmas.{slice_get-some, slice_get-below, slice_get-map, some-same}
use Rattle.sg_booth.specs.Lists.{total, times, joined_up, Rises, StartsWith, entries_at}
use Rattle.sg_booth.specs.Desks.{IsDeskOf, ArePlacesOrdered, fresh_desk, HasJoined, places}
use Rattle.sg_booth.proofs.Sums.{times-append, joined_up-append, rises_to}
use Rattle.sg_booth.proofs.Calls.{entries-more}
use Rattle.sg_counter.specs.Exchanges.{Exchange, Makes, Caller, OfSource, OfDest, calls_by}
use Rattle.sg_actor.specs.Bringing.{AllBy}
use Rattle.sg_turns.specs.Serving.{IsActor}
use Rattle.sg_hub.specs.Histories.{ToldCall, exchange_of, exchanges_of}
use Rattle.sg_hub.specs.Laws.{SeatGoesOn}
use Rattle.sg_hub.specs.Seats.{HubState, SeatState, SeatStep}
use Rattle.sg_hub.proofs.Seated.{goes-on}
use Rattle.sg_crew.specs.Crews.{AllSeen, HasGathered}
use Rattle.sg_crew.proofs.ListLemmas.{get-push, unmapped}
use Rattle.sg_crew.proofs.PlaceLemmas.{times-high, all-high, all-low}
use Rattle.sg_crew.proofs.CallerLemmas.{IsOwner, ByCaller, calls-at}

-- The places of a seat's calls lie behind what it had seen.
pub behind : (hub : HubState) (old new : SeatState) (made : List Exchange) → Makes (SeatStep hub) old made new
    → (more : List ℕ) × ((new.own ≡ old.own ++ more) × (Rises (length old.seen) more (length new.seen) × (length more ≡ length made)))
behind hub old new [] m =
    let long : length new.seen ≡ length old.seen = ap (λ (d : SeatState). length d.seen) m in
    ([], (ap (λ (d : SeatState). d.own) m ∙ sym (append-nil old.own), (omega (arith, long), refl)))
behind hub old new (x ∷ made) m =
    let mid : SeatState = m.0 in
    let t = m.1 in
    let rest = behind hub mid new made m.2 in
    let e : ToldCall = record { call = x.call; reply = x.reply } in
    let own : mid.own ≡ old.own ++ length (old.seen ++ t.between) ∷ [] = ap (λ (d : SeatState). d.own) t.desk in
    let seen : mid.seen ≡ (old.seen ++ t.between) ++ e ∷ [] = ap (λ (d : SeatState). d.seen) t.desk in
    let long : length mid.seen ≡ length (old.seen ++ t.between) + 1 = ap length seen ∙ length-append (old.seen ++ t.between) (e ∷ []) in
    let sum = length-append old.seen t.between in
    let low : length old.seen ≤ length (old.seen ++ t.between) = omega (arith, sum) in (
      length (old.seen ++ t.between) ∷ rest.0,
      (
        rest.1.0 ∙ (ap (λ l. l ++ rest.0) own ∙ append_assoc old.own (length (old.seen ++ t.between) ∷ []) rest.0),
        ((low, subst (λ k. Rises k rest.0 (length new.seen)) long rest.1.1.0), ap suc rest.1.1.1),
      ),
    )

-- A seat behind the turns of a phase, which is this caller's and made these calls.
pub record IsSeatSpent (hub : HubState) (first : SeatState) (who : Caller) (made : List Exchange) (seat : SeatState) : Type 0 where
  pub rises : Rises (length first.seen) seat.own (length seat.seen)
  pub calls : exchanges_of (entries_at seat.seen seat.own) ≡ made
  pub by : AllBy who made
  pub joined : seat.joined ≡ []
  pub sum : length seat.own + seat.left ≡ 1024
  pub of_hub : IsDeskOf hub first → IsDeskOf hub seat

pub is-spent : (hub : HubState) (first old new : SeatState) (who : Caller) (made : List Exchange) → old ≡ fresh_desk first 1024 → Makes (SeatStep hub) old made new → AllBy who made → length made ≤ 1024
    → IsSeatSpent hub first who made new
is-spent hub first old new who made dealt makes by few =
    let from : Makes (SeatStep hub) (fresh_desk first 1024) made new = subst (λ d. Makes (SeatStep hub) d made new) dealt makes in
    let on : SeatGoesOn hub (fresh_desk first 1024) made new = goes-on hub (fresh_desk first 1024) new made from in
    let b = behind hub (fresh_desk first 1024) new made from in
    let own : new.own ≡ b.0 = b.1.0 in
    let long : length new.own ≡ length made = ap length own ∙ b.1.1.1 in
    let left : new.left ≡ 1024 - length made = on.left in
    record {
      rises = subst (λ l. Rises (length first.seen) l (length new.seen)) (sym own) b.1.1.0;
      calls = on.calls;
      by = by;
      joined = on.joined;
      sum = omega (arith, long, left, few);
      of_hub = λ h. on.of_hub h;
    }

-- Seats that are joined into the first one.

starts-trans : {E : Type 0} (a b c : List E) → StartsWith a b → StartsWith b c → StartsWith a c
starts-trans a b c h k = (k.0 ++ h.0, h.1 ∙ (ap (λ l. l ++ h.0) k.1 ∙ append_assoc c k.0 h.0))

total-append : (xs ys : List SeatState) → total (λ (seat : SeatState). seat.left) (xs ++ ys) ≡ total (λ (seat : SeatState). seat.left) xs + total (λ (seat : SeatState). seat.left) ys
total-append [] ys = omega arith
total-append (x ∷ xs) ys = let rest = total-append xs ys in omega (arith, rest)

pub gathered-none : (first : SeatState) → HasGathered first [] first
gathered-none first = record {
  booth = refl;
  made = refl;
  own = refl;
  left = omega arith;
  seen = ([], sym (append-nil first.seen));
  told = λ j seat e. absurd (let below = slice_get-below {A = SeatState} [] j seat e in omega (arith, below));
  joined = sym (append-nil first.joined);
}

pub gathered-more : (old mid new : SeatState) (seats : List SeatState) (seat : SeatState) → HasGathered old seats mid → HasJoined mid seat new → seat.joined ≡ [] → HasGathered old (seats ++ seat ∷ []) new
gathered-more old mid new seats seat h k alone =
    let seen : new.seen ≡ mid.seen ++ k.more = ap (λ (d : SeatState). d.seen) k.desk in
    let left : new.left ≡ mid.left + seat.left = ap (λ (d : SeatState). d.left) k.desk in
    let sum = total-append seats (seat ∷ []) in
    let before = h.left in
    let joined : new.joined ≡ mid.joined ++ seat.own ∷ seat.joined = ap (λ (d : SeatState). d.joined) k.desk in
    let own-of : SeatState → List ℕ = (λ (s : SeatState). s.own) in
    record {
      booth = ap (λ (d : SeatState). d.booth) k.desk ∙ h.booth;
      made = ap (λ (d : SeatState). d.made) k.desk ∙ h.made;
      own = ap (λ (d : SeatState). d.own) k.desk ∙ h.own;
      left = omega (arith, left, sum, before);
      seen = starts-trans new.seen mid.seen old.seen (k.more, seen) h.seen;
      told = (λ j s e. elim (get-push seats seat j s e) [
        | inl there ↦ starts-trans new.seen mid.seen s.seen (k.more, seen) (h.told j s there)
        | inr is ↦ subst (λ (u : SeatState). StartsWith new.seen u.seen) (sym is) k.told
      ]);
      joined = joined ∙ (ap (λ l. mid.joined ++ seat.own ∷ l) alone ∙ (ap (λ l. l ++ seat.own ∷ []) h.joined
          ∙ (append_assoc old.joined (map own-of seats) (seat.own ∷ []) ∙ ap (λ l. old.joined ++ l) (sym (map-append own-of seats (seat ∷ []))))));
    }

-- The seats of a round, those of sources and those of destinations.

each-by : (who : Caller) (made : List Exchange) → AllBy who made → ByCaller who made
each-by who [] h = tt
each-by who (x ∷ made) h = (h.0, each-by who made h.1)

sums : (seats : List SeatState) → ((j : ℕ) (seat : SeatState) → slice_get seats j ≡ Some seat → length seat.own + seat.left ≡ 1024)
    → length (joined_up (map (λ (seat : SeatState). seat.own) seats)) + total (λ (seat : SeatState). seat.left) seats ≡ 1024 * length seats
sums [] h = omega arith
sums (s ∷ seats) h =
    let one = h 0 s refl in
    let rest = sums seats (λ j seat e. h (suc j) seat e) in
    let long = length-append s.own (joined_up (map (λ (seat : SeatState). seat.own) seats)) in
    omega (arith, one, rest, long)

module _ (hub : HubState) (f0 f1 f2 f3 : SeatState) (ss ds : List SeatState) (made : Caller → List Exchange) (more : List ToldCall)
    (seen1 : f1.seen ≡ f0.seen) (own1 : f1.own ≡ f0.own) (joined1 : f1.joined ≡ f0.joined)
    (sources : (j : ℕ) (seat : SeatState) → slice_get ss j ≡ Some seat → IsSeatSpent hub f0 (OfSource j) (made (OfSource j)) seat)
    (dests : (j : ℕ) (seat : SeatState) → slice_get ds j ≡ Some seat → IsSeatSpent hub f0 (OfDest j) (made (OfDest j)) seat)
    (g : HasGathered f1 ss f2) (h : HasGathered f2 ds f3) (seen : f3.seen ≡ f0.seen ++ more) where
  -- a seat of the round, in the history that the first seat has seen behind it
  record IsInPhase (who : Caller) (own : List ℕ) : Type 0 where
    pub rises : Rises (length f0.seen) own (length (f0.seen ++ more))
    pub calls : map exchange_of (entries_at (f0.seen ++ more) own) ≡ made who
    pub by : ByCaller who (map exchange_of (entries_at (f0.seen ++ more) own))

  is-in : (who : Caller) (seat : SeatState) → IsSeatSpent hub f0 who (made who) seat → StartsWith f3.seen seat.seen → IsInPhase who seat.own
  is-in who seat s starts =
      let whole : f0.seen ++ more ≡ seat.seen ++ starts.0 = sym seen ∙ starts.1 in
      let long : length (f0.seen ++ more) ≡ length seat.seen + length starts.0 = ap length whole ∙ length-append seat.seen starts.0 in
      let calls : map exchange_of (entries_at (f0.seen ++ more) seat.own) ≡ made who =
      ap (λ w. map exchange_of (entries_at w seat.own)) whole ∙ (ap (map exchange_of) (entries-more seat.seen starts.0 (length f0.seen) seat.own s.rises) ∙ s.calls) in
      record {
        rises = rises_to (length f0.seen) seat.own (length seat.seen) (length (f0.seen ++ more)) s.rises (omega (arith, long));
        calls = calls;
        by = subst (ByCaller who) (sym calls) (each-by who (made who) s.by);
      }

  owner-in : (who : Caller) (own : List ℕ) → IsOwner (map (λ (seat : SeatState). seat.own) ss) (map (λ (seat : SeatState). seat.own) ds) who own → IsInPhase who own
  owner-in (OfSource j) own e =
      let s = unmapped (λ (seat : SeatState). seat.own) ss j own e in
      subst (IsInPhase (OfSource j)) s.1.1 (is-in (OfSource j) s.0 (sources j s.0 s.1.0) (starts-trans f3.seen f2.seen s.0.seen h.seen (g.told j s.0 s.1.0)))
  owner-in (OfDest j) own e =
      let s = unmapped (λ (seat : SeatState). seat.own) ds j own e in
      subst (IsInPhase (OfDest j)) s.1.1 (is-in (OfDest j) s.0 (dests j s.0 s.1.0) (h.told j s.0 s.1.0))

  joined-up : joined_up f3.joined ≡ joined_up f0.joined ++ (joined_up (map (λ (seat : SeatState). seat.own) ss) ++ joined_up (map (λ (seat : SeatState). seat.own) ds))
  joined-up =
      ap joined_up (h.joined ∙ ap (λ l. l ++ map (λ (seat : SeatState). seat.own) ds) (g.joined ∙ ap (λ l. l ++ map (λ (seat : SeatState). seat.own) ss) joined1))
      ∙ (joined_up-append (f0.joined ++ map (λ (seat : SeatState). seat.own) ss) (map (λ (seat : SeatState). seat.own) ds)
      ∙ (ap (λ l. l ++ joined_up (map (λ (seat : SeatState). seat.own) ds)) (joined_up-append f0.joined (map (λ (seat : SeatState). seat.own) ss))
      ∙ append_assoc (joined_up f0.joined) (joined_up (map (λ (seat : SeatState). seat.own) ss)) (joined_up (map (λ (seat : SeatState). seat.own) ds))))

  places-are : places f3 ≡ places f0 ++ (joined_up (map (λ (seat : SeatState). seat.own) ss) ++ joined_up (map (λ (seat : SeatState). seat.own) ds))
  places-are =
      ap (λ l. l ++ joined_up f3.joined) (h.own ∙ (g.own ∙ own1))
      ∙ (ap (λ l. f0.own ++ l) joined-up
      ∙ sym (append_assoc f0.own (joined_up f0.joined) (joined_up (map (λ (seat : SeatState). seat.own) ss) ++ joined_up (map (λ (seat : SeatState). seat.own) ds))))

  times-are : (x : ℕ) → times x (places f3) ≡ times x (places f0) + (times x (joined_up (map (λ (seat : SeatState). seat.own) ss)) + times x (joined_up (map (λ (seat : SeatState). seat.own) ds)))
  times-are x =
      let all : times x (places f3) ≡ times x (places f0 ++ (joined_up (map (λ (seat : SeatState). seat.own) ss) ++ joined_up (map (λ (seat : SeatState). seat.own) ds))) = ap (times x) places-are in
      let one = times-append x (places f0) (joined_up (map (λ (seat : SeatState). seat.own) ss) ++ joined_up (map (λ (seat : SeatState). seat.own) ds)) in
      let two = times-append x (joined_up (map (λ (seat : SeatState). seat.own) ss)) (joined_up (map (λ (seat : SeatState). seat.own) ds)) in
      omega (arith, all, one, two)

  long : length f3.seen ≡ length f0.seen + length more
  long = ap length seen ∙ length-append f0.seen more

  -- the calls of the round lie behind those of the earlier ones
  pub seen-before : AllSeen f3 → AllSeen f0
  seen-before all x below =
      let some = all x (omega (arith, long, below)) in
      let are = times-are x in
      let s = all-low (map (λ (seat : SeatState). seat.own) ss) (length f0.seen) (length (f0.seen ++ more)) x (λ j own e. (owner-in (OfSource j) own e).rises) below in
      let d = all-low (map (λ (seat : SeatState). seat.own) ds) (length f0.seen) (length (f0.seen ++ more)) x (λ j own e. (owner-in (OfDest j) own e).rises) below in
      omega (arith, some, are, s, d)

  covers : ArePlacesOrdered f0 → AllSeen f3 → (x : ℕ) → length f0.seen ≤ x → x < length (f0.seen ++ more)
      → 0 < times x (joined_up (map (λ (seat : SeatState). seat.own) ss)) + times x (joined_up (map (λ (seat : SeatState). seat.own) ds))
  covers ordered all x above below =
      let same = ap length seen in
      let some = all x (omega (arith, same, below)) in
      let are = times-are x in
      let old = times-append x f0.own (joined_up f0.joined) in
      let own = times-high 0 f0.own (length f0.seen) x ordered.0 above in
      let joined = all-high f0.joined (length f0.seen) x ordered.1 above in
      omega (arith, some, are, old, own, joined)

  calls-of-round : ArePlacesOrdered f0 → AllSeen f3 → (c : Caller) (own : List ℕ) → Rises (length f0.seen) own (length (f0.seen ++ more))
      → ByCaller c (map exchange_of (entries_at (f0.seen ++ more) own)) → ((other : List ℕ) → IsOwner (map (λ (seat : SeatState). seat.own) ss) (map (λ (seat : SeatState). seat.own) ds) c other → other ≡ own)
      → calls_by c (map exchange_of more) ≡ map exchange_of (entries_at (f0.seen ++ more) own)
  calls-of-round ordered all c own rises mine one =
      calls-at exchange_of f0.seen more (map (λ (seat : SeatState). seat.own) ss) (map (λ (seat : SeatState). seat.own) ds) (λ who o is. (owner-in who o is).by) (covers ordered all) c own rises mine one

  -- each actor's calls are those of its turn
  pub calls-are : ArePlacesOrdered f0 → AllSeen f3 → (who : Caller) → IsActor (length ss) (length ds) who → calls_by who (exchanges_of more) ≡ made who
  calls-are ordered all (OfSource j) below =
      let s = slice_get-some ss j below in
      let there : slice_get (map (λ (seat : SeatState). seat.own) ss) j ≡ Some s.0.own = slice_get-map (λ (seat : SeatState). seat.own) ss j s.0 s.1 in
      let o = owner-in (OfSource j) s.0.own there in
      calls-of-round ordered all (OfSource j) s.0.own o.rises o.by (λ other e. some-same other s.0.own (sym e ∙ there)) ∙ o.calls
  calls-are ordered all (OfDest j) below =
      let s = slice_get-some ds j below in
      let there : slice_get (map (λ (seat : SeatState). seat.own) ds) j ≡ Some s.0.own = slice_get-map (λ (seat : SeatState). seat.own) ds j s.0 s.1 in
      let o = owner-in (OfDest j) s.0.own there in
      calls-of-round ordered all (OfDest j) s.0.own o.rises o.by (λ other e. some-same other s.0.own (sym e ∙ there)) ∙ o.calls

  none-owns : (who : Caller) → (IsActor (length ss) (length ds) who → ⊥) → (other : List ℕ) → IsOwner (map (λ (seat : SeatState). seat.own) ss) (map (λ (seat : SeatState). seat.own) ds) who other → ⊥
  none-owns (OfSource j) not-there other e = (let s = unmapped (λ (seat : SeatState). seat.own) ss j other e in not-there (slice_get-below ss j s.0 s.1.0))
  none-owns (OfDest j) not-there other e = (let s = unmapped (λ (seat : SeatState). seat.own) ds j other e in not-there (slice_get-below ds j s.0 s.1.0))

  -- and there are no others
  pub no-others : ArePlacesOrdered f0 → AllSeen f3 → (who : Caller) → (IsActor (length ss) (length ds) who → ⊥) → calls_by who (exchanges_of more) ≡ []
  no-others ordered all who not-there =
      let longer = length-append f0.seen more in
      calls-of-round ordered all who [] (omega (arith, longer)) tt (λ other e. absurd (none-owns who not-there other e))

  -- no turn is lost
  pub turns-stay : f1.left + (1024 * length ss + 1024 * length ds) ≡ f0.left → length (places f3) + f3.left ≡ length (places f0) + f0.left
  turns-stay left1 =
      let all : length (places f3) ≡ length (places f0 ++ (joined_up (map (λ (seat : SeatState). seat.own) ss) ++ joined_up (map (λ (seat : SeatState). seat.own) ds))) = ap length places-are in
      let one = length-append (places f0) (joined_up (map (λ (seat : SeatState). seat.own) ss) ++ joined_up (map (λ (seat : SeatState). seat.own) ds)) in
      let two = length-append (joined_up (map (λ (seat : SeatState). seat.own) ss)) (joined_up (map (λ (seat : SeatState). seat.own) ds)) in
      let s = sums ss (λ j seat e. (sources j seat e).sum) in
      let d = sums ds (λ j seat e. (dests j seat e).sum) in
      let left2 = g.left in
      let left3 = h.left in
      omega (arith, left1, all, one, two, s, d, left2, left3)

-- A seat with other turns.

pub with-left : (seat : SeatState) (n : ℕ) → n ≡ seat.left → record seat { left = n } ≡ seat
with-left seat n e = ap (λ (k : ℕ). record seat { left = k }) e

pub less-left : (first mid new : SeatState) (i : ℕ) → mid ≡ record first { left = first.left - 1024 * i } → new ≡ record mid { left = mid.left - 1024 }
    → new ≡ record first { left = first.left - 1024 * (i + 1) }
less-left first mid new i h k =
    let e : (first.left - 1024 * i) - 1024 ≡ first.left - 1024 * (i + 1) = omega arith in
    k ∙ (ap (λ (s : SeatState). record s { left = s.left - 1024 }) h ∙ ap (λ (n : ℕ). record first { left = n }) e)
