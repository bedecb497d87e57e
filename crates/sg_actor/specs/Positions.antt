-- When a source stores its position, and what it knows then.
use Rattle.std.specs.Prelude.{◌≡◌, ◌≤◌, ℕ, ◌-◌, ◌==◌, ◌||◌, ◌&&◌, not, nat_le, Bool, true, false, Option, Some, None, List, [], ◌∷◌, length}
use Rattle.sg_counter.specs.Exchanges.{Exchange, Makes, OfSource}
use Rattle.sg_counter.specs.declared.calls.CoreCall.{CoreCall}
use Rattle.sg_counter.specs.declared.calls.CoreReply.{CoreReply}
use Rattle.sg_counter.specs.declared.answers.Stored.{Stored}
use Rattle.sg_counter.specs.declared.answers.Stored.TheVariants.{Wrote, Unchanged, Broken}
use Rattle.sg_actor.specs.Reading.{one_if}
use Rattle.sg_actor.specs.Bringing.{AllBy, admitted_in, carried_in, stores_in}
use Rattle.sg_actor.specs.declared.position.Position.{Position}
use Rattle.sg_actor.specs.declared.settings.SourceSpec.{SourceSpec}

-- the credit is that of the turn before
abbrev pub is_same_credit : Option ℕ → ℕ → Bool
is_same_credit None credit = false
is_same_credit (Some before) credit = before == credit

-- The position is stored in a turn that did nothing else, and where the end of the last record is 262,144 bytes or more above where it
-- was when the core was asked last; never again after a failure.
abbrev pub is_due : Position → Bool → ℕ → Bool
is_due position rests end = not position.broken && (rests || nat_le 262144 (end - position.asked))

-- it was written, or its store failed
abbrev pub is_news : Stored → Bool
is_news (Wrote w) = true
is_news Unchanged = false
is_news Broken = true

abbrev pub is_failure : Stored → Bool
is_failure (Wrote w) = false
is_failure Unchanged = false
is_failure Broken = true

abbrev pub has_news : List Stored → Bool
has_news [] = false
has_news (s ∷ ss) = is_news s || has_news ss

-- what is known after these answers, the core having been asked at this end
abbrev pub after_stores : ℕ → List Stored → Position → Position
after_stores end [] position = position
after_stores end (s ∷ ss) position = after_stores end ss
    (record position { asked = end; broken = position.broken || is_failure s })

-- the position was stored where that was due, and else nothing was asked
pub record StoresPosition {S : Type 0} (spec : SourceSpec)
    (step : S → CoreCall → CoreReply → S → Type 0) (counter counter' : S) (rests : Bool) (end : ℕ)
    (old new : Position) (news : Bool) : Type 0 where
  pub made : List Exchange
  pub few : length made ≤ 1
  pub makes : Makes step counter made counter'
  pub own : AllBy (OfSource spec.inlet) made
  pub admits : admitted_in made ≡ []
  pub carries : carried_in made ≡ []
  pub asks : length (stores_in made) ≡ one_if (spec.stored && is_due old rests end)
  pub position : new ≡ after_stores end (stores_in made) old
  pub tells : news ≡ has_news (stores_in made)
