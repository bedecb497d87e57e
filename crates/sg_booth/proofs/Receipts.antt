-- A receipt has the calls of its desk.
use Rattle.std.proofs.Common.{◌≡◌, ℕ, ◌+◌, List, [], ◌∷◌, ◌++◌, ap, ◌∙◌, arith, append_assoc}
use Rattle.sg_booth.specs.declared.office.OfficeExchange.{OfficeExchange}
use Rattle.sg_booth.specs.Lists.{times, joined_up, StartsWith, entries_at}
use Rattle.sg_booth.specs.Desks.{BoothState, DeskState, places, ArePlacesOrdered, HasTurned, receipt_of, HasJoined, HasClosed, HasTakenSlot, HasCalls, ReceiptsStand}
use Rattle.sg_booth.proofs.Sums.{times-append, joined_up-append}
use Rattle.sg_booth.proofs.Calls.{entries-placed}

starts-then : {A : Type 0} (xs ys zs : List A) → StartsWith zs ys → StartsWith ys xs → StartsWith zs xs
starts-then xs ys zs s t = (t.0 ++ s.0, s.1 ∙ ap (λ w. w ++ s.0) t.1 ∙ append_assoc xs t.0 s.0)

-- places behind those that were joined
joined-behind : (x : ℕ) (ks : List (List ℕ)) (own : List ℕ) (js : List (List ℕ))
    → times x (joined_up (ks ++ own ∷ js)) ≡ times x (joined_up ks) + times x (own ++ joined_up js)
joined-behind x ks own js = ap (times x) (joined_up-append ks (own ∷ js)) ∙ times-append x (joined_up ks) (own ++ joined_up js)

module _ {V C R : Type 0} where
  -- what a desk sees at a join, and the places that came by it
  joined-seen : (old other new : DeskState V C R) → HasJoined old other new → StartsWith new.seen old.seen
  joined-seen old other new h = (h.more, ap (λ (d : DeskState V C R). d.seen) h.desk)

  joined-are : (x : ℕ) (old other new : DeskState V C R) → HasJoined old other new → times x (joined_up new.joined) ≡ times x (joined_up old.joined) + times x (places other)
  joined-are x old other new h = ap (λ (d : DeskState V C R). times x (joined_up d.joined)) h.desk ∙ joined-behind x old.joined other.own other.joined

  takes : (desk old new : DeskState V C R) → HasJoined old (receipt_of desk) new → HasTakenSlot new desk
  takes desk old new h = record {
    seen = h.told;
    calls = λ x. let e = joined-are x old (receipt_of desk) new h in omega (arith, e);
  }

  keeps-taken : (desk old other new : DeskState V C R) → HasTakenSlot old desk → HasJoined old other new → HasTakenSlot new desk
  keeps-taken desk old other new t h = record {
    seen = starts-then desk.seen old.seen new.seen (joined-seen old other new h) t.seen;
    calls = λ x. let e = joined-are x old other new h in let le = t.calls x in omega (arith, e, le);
  }

  hands-taken : (desk old other new : DeskState V C R) → HasTakenSlot other desk → HasJoined old other new → HasTakenSlot new desk
  hands-taken desk old other new t h = record {
    seen = starts-then desk.seen other.seen new.seen h.told t.seen;
    calls = λ x.
        let e = joined-are x old other new h in
        let a = times-append x other.own (joined_up other.joined) in
        let le = t.calls x in
        omega (arith, e, a, le);
  }

  module _ (step : V → C → R → V → Type 0) where
    turns-taken : (desk old new : DeskState V C R) (made : V) (call : C) (reply : R) → HasTakenSlot old desk → HasTurned step made old call reply new → HasTakenSlot new desk
    turns-taken desk old new made call reply t h =
        let e : OfficeExchange C R = record { call = call; reply = reply } in
        let seen : new.seen ≡ old.seen ++ (h.between ++ e ∷ []) = ap (λ (d : DeskState V C R). d.seen) h.desk ∙ append_assoc old.seen h.between (e ∷ []) in
        record {
          seen = starts-then desk.seen old.seen new.seen (h.between ++ e ∷ [], seen) t.seen;
          calls = λ x. let same : times x (joined_up new.joined) ≡ times x (joined_up old.joined) = ap (λ (d : DeskState V C R). times x (joined_up d.joined)) h.desk in let le = t.calls x in omega (arith, same, le);
        }

    closes-taken : (desk closing : DeskState V C R) (booth : BoothState V) (office : V) → ArePlacesOrdered desk → HasTakenSlot closing desk → (closed : HasClosed step booth closing office) → HasCalls closed.history closing desk
    closes-taken desk closing booth office ordered t closed =
        let s : StartsWith closed.history desk.seen = starts-then desk.seen closing.seen closed.history closed.seen t.seen in
        record {
          seen = s;
          calls = ap (λ (h : List (OfficeExchange C R)). entries_at h (places desk)) s.1 ∙ entries-placed desk.seen s.0 desk.own desk.joined ordered.0 ordered.1;
          apart = λ x.
              let most = (closed.mine x).0 in
              let a = times-append x closing.own (joined_up closing.joined) in
              let le = t.calls x in
              omega (arith, most, a, le);
        }

    pub receipts : ReceiptsStand step
    receipts = record { joins = takes; turns = turns-taken; keeps = keeps-taken; hands = hands-taken; closes = closes-taken }
