-- Turns of workers that threads share.
use Rattle.std.proofs.Common.{arith, ◌≡◌, ◌<◌, ℕ, zero, suc, true, List, slice_get, Option, Some, None, refl, sym, ◌∙◌, subst}
use Rattle.std.specs.Prelude.{is_some, false}
use Rattle.sg_device.specs.Inlet.{InletState}
use Rattle.sg_device.specs.Outlet.{OutletState}
use Rattle.sg_msg.specs.declared.offer.Offer.{Offer}
use Rattle.sg_frame.specs.Records.{Record}
use Rattle.sg_list.proofs.ListLemmas.{some-same}
use Rattle.sg_actor.specs.declared.dest.DestActor.{DestActor}
use Rattle.sg_actor.specs.declared.source.SourceActor.{SourceActor}
use Rattle.sg_actor.specs.declared.turned.Turned.{Turned}
use Rattle.sg_hub.specs.Seats.{HubState}
use Rattle.sg_crew.specs.Crews.{AllChanged, Every}
use Rattle.sg_crew.specs.Pools.{MayGoOn, KeepsReads, KeepsSends}
use Rattle.sg_crew.specs.Workers.{MayRead, MaySend, BeginsPhase, ReadsOnce, SendsOnce, HasReadPhase, HasSent}
use Rattle.sg_crew.specs.declared.worker.Worker.{Worker}
use Rattle.sg_crew.proofs.KindLemmas.{read-first, read-more, may-read-more, send-first, send-more, may-send-more}

some-there : (a : Option Turned) → is_some a ≡ true → (turned : Turned) × (a ≡ Some turned)
some-there None h = absurd (let wrong : false ≡ true = h in cc)
some-there (Some turned) h = (turned, refl)

module _ {R I D : Type 0} (state : I → InletState) (offers : R → ℕ → Record → List Offer → Type 0) (inlets dests : R → ℕ) (hub : HubState) where
  abbrev pub MayStartRead : Worker (SourceActor R I) D → Type 0
  MayStartRead w = MayRead state inlets dests hub w × BeginsPhase w

  -- the source that was in this place of the list, behind turns, if there were any
  pub record ReadSoFar (olds : List (Worker (SourceActor R I) D)) (j : ℕ) (v : Worker (SourceActor R I) D) : Type 0 where
    pub old : Worker (SourceActor R I) D
    pub there : slice_get olds j ≡ Some old
    pub fresh : v.turns ≡ 0 → v ≡ old
    pub has_read : 0 < v.turns → HasReadPhase state offers inlets dests hub old v

  module _ (xs : List (Worker (SourceActor R I) D)) (may : Every MayStartRead xs) where
    may-read-on : (j : ℕ) (w : Worker (SourceActor R I) D) → ReadSoFar xs j w → MayGoOn w → (n : ℕ) → w.turns ≡ n → MayRead state inlets dests hub w
    may-read-on j w k g zero e = subst (MayRead state inlets dests hub) (sym (k.fresh e)) (may j k.old k.there).0
    may-read-on j w k g (suc n) e = let m = may j k.old k.there in may-read-more state offers inlets dests hub k.old w m.0 m.1 (k.has_read (omega (arith, e))) g.0

    reads-again : (j : ℕ) (w v : Worker (SourceActor R I) D) → ReadSoFar xs j w → MayGoOn w → ReadsOnce state offers inlets dests hub w v → (n : ℕ) → w.turns ≡ n
        → (old : Worker (SourceActor R I) D) × ((slice_get xs j ≡ Some old) × HasReadPhase state offers inlets dests hub old v)
    reads-again j w v k g r zero e =
        (k.old, (k.there, read-first state offers inlets dests hub k.old v (may j k.old k.there).1 (subst (λ x. ReadsOnce state offers inlets dests hub x v) (k.fresh e) r)))
    reads-again j w v k g r (suc n) e =
        let some : 0 < w.turns = omega (arith, e) in
        let t = some-there w.turn (g.1 some) in
        (k.old, (k.there, read-more state offers inlets dests hub k.old w v t.0 (k.has_read some) t.1 g.0 r))

    pub keeps-reads : KeepsReads state offers inlets dests hub xs (ReadSoFar xs)
    keeps-reads = record {
      begins = λ j w e.
          let none = (may j w e).1.0 in
          record { old = w; there = e; fresh = λ zero. refl; has_read = λ some. absurd (omega (arith, none, some)) };
      goes_on = record {
        may = λ j w k g. may-read-on j w k g w.turns refl;
        again = λ j w v k g r.
            let s = reads-again j w v k g r w.turns refl in
            let one = r.counted.turns in
            record { old = s.0; there = s.1.0; fresh = λ none. absurd (omega (arith, none, one)); has_read = λ some. s.1.1 };
      };
      tells = λ j w v e k some. subst (λ x. HasReadPhase state offers inlets dests hub x v) (some-same k.old w (sym k.there ∙ e)) (k.has_read some);
    }

    pub reads-once : (ys : List (Worker (SourceActor R I) D)) → AllChanged (ReadsOnce state offers inlets dests hub) xs ys → AllChanged (HasReadPhase state offers inlets dests hub) xs ys
    reads-once ys h = record { all = h.all; each = λ j x y before after. read-first state offers inlets dests hub x y (may j x before).1 (h.each j x y before after) }

module _ {O D : Type 0} (state : O → OutletState) (hub : HubState) where
  abbrev pub MayStartSend : Worker (DestActor O) D → Type 0
  MayStartSend w = MaySend state hub w × BeginsPhase w

  -- the destination that was in this place of the list, behind turns, if there were any
  pub record SentSoFar (olds : List (Worker (DestActor O) D)) (j : ℕ) (v : Worker (DestActor O) D) : Type 0 where
    pub old : Worker (DestActor O) D
    pub there : slice_get olds j ≡ Some old
    pub fresh : v.turns ≡ 0 → v ≡ old
    pub has_sent : 0 < v.turns → HasSent state hub old v

  module _ (xs : List (Worker (DestActor O) D)) (may : Every MayStartSend xs) where
    may-send-on : (j : ℕ) (w : Worker (DestActor O) D) → SentSoFar xs j w → MayGoOn w → (n : ℕ) → w.turns ≡ n → MaySend state hub w
    may-send-on j w k g zero e = subst (MaySend state hub) (sym (k.fresh e)) (may j k.old k.there).0
    may-send-on j w k g (suc n) e = let m = may j k.old k.there in may-send-more state hub k.old w m.0 m.1 (k.has_sent (omega (arith, e))) g.0

    sends-again : (j : ℕ) (w v : Worker (DestActor O) D) → SentSoFar xs j w → MayGoOn w → SendsOnce state hub w v → (n : ℕ) → w.turns ≡ n
        → (old : Worker (DestActor O) D) × ((slice_get xs j ≡ Some old) × HasSent state hub old v)
    sends-again j w v k g r zero e = (k.old, (k.there, send-first state hub k.old v (may j k.old k.there).1 (subst (λ x. SendsOnce state hub x v) (k.fresh e) r)))
    sends-again j w v k g r (suc n) e =
        let some : 0 < w.turns = omega (arith, e) in
        let t = some-there w.turn (g.1 some) in
        (k.old, (k.there, send-more state hub k.old w v t.0 (k.has_sent some) t.1 g.0 r))

    pub keeps-sends : KeepsSends state hub xs (SentSoFar xs)
    keeps-sends = record {
      begins = λ j w e.
          let none = (may j w e).1.0 in
          record { old = w; there = e; fresh = λ zero. refl; has_sent = λ some. absurd (omega (arith, none, some)) };
      goes_on = record {
        may = λ j w k g. may-send-on j w k g w.turns refl;
        again = λ j w v k g r.
            let s = sends-again j w v k g r w.turns refl in
            let one = r.counted.turns in
            record { old = s.0; there = s.1.0; fresh = λ none. absurd (omega (arith, none, one)); has_sent = λ some. s.1.1 };
      };
      tells = λ j w v e k some. subst (λ x. HasSent state hub x v) (some-same k.old w (sym k.there ∙ e)) (k.has_sent some);
    }

    pub sends-once : (ys : List (Worker (DestActor O) D)) → AllChanged (SendsOnce state hub) xs ys → AllChanged (HasSent state hub) xs ys
    sends-once ys h = record { all = h.all; each = λ j x y before after. send-first state hub x y (may j x before).1 (h.each j x y before after) }
