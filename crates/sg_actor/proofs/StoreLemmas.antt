-- Positions that are stored.
use Rattle.std.proofs.Common.{arith, ◌≡◌, ℕ, Bool, true, false, [], ◌∷◌, refl, ap}
use Rattle.std.specs.Prelude.{◌||◌}
use Rattle.sg_counter.specs.declared.calls.CoreCall.{CoreCall}
use Rattle.sg_counter.specs.declared.calls.CoreCall.TheVariants.{Store}
use Rattle.sg_counter.specs.declared.calls.CoreReply.{CoreReply}
use Rattle.sg_counter.specs.declared.calls.CoreReply.TheVariants.{Stored as StoredReply}
use Rattle.sg_counter.specs.declared.answers.Stored.{Stored}
use Rattle.sg_actor.specs.Bringing.{exchange}
use Rattle.sg_actor.specs.Positions.{is_due, is_news, is_failure, StoresPosition}
use Rattle.sg_actor.specs.declared.position.Position.{Position}
use Rattle.sg_actor.specs.declared.settings.SourceSpec.{SourceSpec}

pub or-none : (b : Bool) → b ≡ (b || false)
or-none true = refl
or-none false = refl

pub or-some : (b : Bool) → true ≡ (b || true)
or-some true = refl
or-some false = refl

pub stores-one : {S : Type 0} (spec : SourceSpec) (step : S → CoreCall → CoreReply → S → Type 0) (counter counter' : S) (rests : Bool) (end : ℕ) (old : Position) (broken news : Bool) (answer : Stored)
    → spec.stored ≡ true → is_due old rests end ≡ true → step counter (Store spec.inlet) (StoredReply answer) counter' → broken ≡ (old.broken || is_failure answer) → news ≡ (is_news answer || false)
    → StoresPosition spec step counter counter' rests end old (record old { asked = end; broken = broken }) news
stores-one spec step counter counter' rests end old broken news answer stored due made is tells = record {
  made = exchange (Store spec.inlet) (StoredReply answer) ∷ [];
  few = omega arith;
  makes = (counter', made, refl);
  own = (refl, tt);
  admits = refl;
  carries = refl;
  asks = rw (stored, due) refl;
  position = ap (λ b. record old { asked = end; broken = b }) is;
  tells = tells;
}
