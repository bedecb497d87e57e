-- The stores of two sources and two destinations.
use Rattle.std.proofs.Common.{arith, ◌≡◌, List, [], ◌∷◌, ◌++◌, length, slice_get, ◌<◌, ℕ, ap, zero, suc, sym, ◌∙◌, subst, Some, None}
use Rattle.sg_device.specs.Inlet.{InletState}
use Rattle.sg_device.specs.Outlet.{OutletState}
use Rattle.sg_counter.specs.Bringing.{store_in}
use Rattle.sg_actor.specs.declared.dest.DestActor.{DestActor}
use Rattle.sg_actor.specs.declared.source.SourceActor.{SourceActor}
use Rattle.sg_turns.specs.Actors.{IsSource, AreSources, IsDest, AreDests}
use Rattle.sg_machine.specs.declared.setup.Setup.{Setup}
use Rattle.sg_list.proofs.ListLemmas.{some-same}
use Rattle.sg_core.specs.Opening.{NumberStores, buffer_store_in}
use Rattle.test_flow.specs.Runs.{two_files}

no-buffer : (d s : ℕ) → buffer_store_in two_files.dests d ≡ Some s → ⊥
no-buffer zero s e = let wrong : None ≡ Some s = e in cc
no-buffer (suc zero) s e = let wrong : None ≡ Some s = e in cc
no-buffer (suc (suc d)) s e = let wrong : None ≡ Some s = e in cc

-- each source has the store of its number
own-store : (i s : ℕ) → store_in two_files.sources i ≡ Some s → (i ≡ s) × (s < 2)
own-store zero s e = let is = some-same 0 s e in (is, omega (arith, is))
own-store (suc zero) s e = let is = some-same 1 s e in (is, omega (arith, is))
own-store (suc (suc i)) s e = absurd (let wrong : None ≡ Some s = e in cc)

numbers-two : NumberStores two_files 2
numbers-two = record {
  positions = λ i s e. (own-store i s e).1;
  buffers = λ d s e. absurd (no-buffer d s e);
  inlets_apart = λ i j s e q. (own-store i s e).0 ∙ sym (own-store j s q).0;
  dests_apart = λ d e s h k. absurd (no-buffer d s h);
  apart = λ i d s e q. no-buffer d s q;
}

pub numbers : (setup : Setup) (count : ℕ) → setup ≡ two_files → count ≡ 2 → NumberStores setup count
numbers setup count is two = subst (λ s. NumberStores s count) (sym is) (subst (λ n. NumberStores two_files n) (sym two) numbers-two)

-- Lists of two.

-- a list to which two were put, one behind the other
pub two-put : {A : Type 0} (held mid none : List A) (a b : A) → none ≡ [] → mid ≡ none ++ a ∷ [] → held ≡ mid ++ b ∷ [] → held ≡ a ∷ b ∷ []
two-put held mid none a b empty e f = f ∙ ap (λ l. l ++ b ∷ []) (e ∙ ap (λ l. l ++ a ∷ []) empty)

pub two-dests : {O : Type 0} (state : O → OutletState) (setup : Setup) (held : List (DestActor O)) (a b : DestActor O)
    → IsDest state 0 a → IsDest state 1 b → held ≡ a ∷ b ∷ [] → length setup.dests ≡ 2 → AreDests state setup held
two-dests {O} state setup held a b is second e count = subst (AreDests state setup) (sym e) (record { all = sym count; each = each })
  where
    each : (d : ℕ) (x : DestActor O) → slice_get (a ∷ b ∷ []) d ≡ Some x → IsDest state d x
    each zero x there = subst (IsDest state 0) (some-same a x there) is
    each (suc zero) x there = subst (IsDest state 1) (some-same b x there) second
    each (suc (suc d)) x there = absurd (let wrong : None ≡ Some x = there in cc)

pub two-sources : {R I : Type 0} (state : I → InletState) (inlets dests : R → ℕ) (setup : Setup) (held : List (SourceActor R I)) (a b : SourceActor R I)
    → IsSource state inlets dests setup 0 a → IsSource state inlets dests setup 1 b → held ≡ a ∷ b ∷ [] → length setup.sources ≡ 2 → AreSources state inlets dests setup held
two-sources {R} {I} state inlets dests setup held a b is second e count = subst (AreSources state inlets dests setup) (sym e) (record { all = sym count; each = each })
  where
    each : (i : ℕ) (x : SourceActor R I) → slice_get (a ∷ b ∷ []) i ≡ Some x → IsSource state inlets dests setup i x
    each zero x there = subst (IsSource state inlets dests setup 0) (some-same a x there) is
    each (suc zero) x there = subst (IsSource state inlets dests setup 1) (some-same b x there) second
    each (suc (suc i)) x there = absurd (let wrong : None ≡ Some x = there in cc)
