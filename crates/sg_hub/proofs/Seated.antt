-- Calls at a seat, one after another.
use Rattle.std.proofs.Common.{◌≡◌, ◌+◌, ◌-◌, ◌++◌, List, [], ◌∷◌, refl, sym, ap, ◌∙◌, subst, arith, Bor}
use Rattle.std.proofs.lemmas.List.{append-nil, append_assoc, map-append}
use Rattle.sg_booth.specs.Lists.{entries_at}
use Rattle.sg_counter.specs.Exchanges.{Exchange, Makes}
use Rattle.sg_counter.specs.declared.calls.CoreCall.{CoreCall}
use Rattle.sg_counter.specs.declared.calls.CoreReply.{CoreReply}
use Rattle.sg_hub.specs.Histories.{ToldCall, exchange_of, exchanges_of}
use Rattle.sg_hub.specs.Laws.{SeatGoesOn}
use Rattle.sg_hub.specs.Seats.{HubState, SeatState, SeatStep}

stays : (hub : HubState) (seat : SeatState) → SeatGoesOn hub seat [] seat
stays hub seat = record {
  of_hub = λ h. h;
  left = omega arith;
  seen = ([], sym (append-nil seat.seen));
  calls = sym (append-nil (exchanges_of (entries_at seat.seen seat.own)));
  joined = refl;
}

goes-one : (hub : HubState) (old mid new : SeatState) (call : CoreCall) (reply : CoreReply) (made : List Exchange) → SeatStep hub old call reply mid → SeatGoesOn hub mid made new
    → SeatGoesOn hub old (record { call = call; reply = reply } ∷ made) new
goes-one hub old mid new call reply made t g =
    let e : ToldCall = record { call = call; reply = reply } in
    let x : Exchange = record { call = call; reply = reply } in
    let seen : mid.seen ≡ (old.seen ++ t.between) ++ e ∷ [] = ap (λ (d : SeatState). d.seen) t.desk in
    let left : mid.left ≡ old.left - 1 = ap (λ (d : SeatState). d.left) t.desk in
    let one : exchanges_of (entries_at mid.seen mid.own) ≡ exchanges_of (entries_at old.seen old.own) ++ x ∷ [] =
    ap exchanges_of t.calls ∙ map-append exchange_of (entries_at old.seen old.own) (e ∷ []) in
    record {
      of_hub = λ h. g.of_hub (ap (λ (d : SeatState). d.booth) t.desk ∙ h.0, ap (λ (d : SeatState). d.made) t.desk ∙ h.1);
      left = omega (arith, g.left, left);
      seen = (
        t.between ++ e ∷ g.seen.0,
        g.seen.1 ∙ (ap (λ (s : List ToldCall). s ++ g.seen.0) seen ∙ (append_assoc (old.seen ++ t.between) (e ∷ []) g.seen.0 ∙ append_assoc old.seen t.between (e ∷ g.seen.0))),
      );
      calls = g.calls ∙ (ap (λ (xs : List Exchange). xs ++ made) one ∙ append_assoc (exchanges_of (entries_at old.seen old.own)) (x ∷ []) made);
      joined = g.joined ∙ ap (λ (d : SeatState). d.joined) t.desk;
    }

pub goes-on : (hub : HubState) (old new : SeatState) (made : List Exchange) → Makes (SeatStep hub) old made new → SeatGoesOn hub old made new
goes-on hub old new [] m = subst (SeatGoesOn hub old []) (sym m) (stays hub old)
goes-on hub old new (x ∷ made) m = goes-one hub old m.0 new x.call x.reply made m.1 (goes-on hub m.0 new made m.2)

-- calls at a seat that is lent leave what is lent, with what counts at it, of that hub
pub same-seat : {S N P : Type 0} (name : S → N) (passed : S → P) (hub : S → Bor HubState) (seat : S → SeatState) (noted : S → CoreCall → CoreReply → S → Type 0) (old new : S) (made : List Exchange)
    → Makes (λ (a : S) call reply (b : S). (name b ≡ name a) × (passed b ≡ passed a) × (hub b ≡ hub a) × SeatStep (hub a).now (seat a) call reply (seat b) × noted a call reply b) old made new
    → ((name new ≡ name old) × (passed new ≡ passed old)) × ((hub new ≡ hub old) × Makes (SeatStep (hub old).now) (seat old) made (seat new))
same-seat name passed hub seat noted old new [] m = ((ap name m, ap passed m), (ap hub m, ap seat m))
same-seat {S} name passed hub seat noted old new (x ∷ made) m =
    let rest = same-seat name passed hub seat noted m.0 new made m.2 in (
      (rest.0.0 ∙ m.1.0, rest.0.1 ∙ m.1.1),
      (rest.1.0 ∙ m.1.2, (seat m.0, m.1.3, subst (λ (h : Bor HubState). Makes (SeatStep h.now) (seat m.0) made (seat new)) m.1.2 rest.1.1)),
    )
