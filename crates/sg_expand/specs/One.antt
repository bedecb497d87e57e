-- Where the machine tells its files, a text comes to one outcome, but for readings that fail.
use Rattle.std.specs.Prelude.{◌≡◌}
use Rattle.sg_expand.specs.Expansion.{ExpansionOutcome, Goes, Stops, Faulty, Unread}

-- the same tokens from the same files, or the same fault in them; or a file wasn't read
abbrev pub AreAlikeOutcomes : ExpansionOutcome → ExpansionOutcome → Type 0
AreAlikeOutcomes (Goes one world) (Goes other world') = other ≡ one
AreAlikeOutcomes (Goes one world) (Stops (Faulty fault) names world') = ⊥
AreAlikeOutcomes (Goes one world) (Stops (Unread name) names world') = Unit {0}
AreAlikeOutcomes (Stops (Faulty fault) names world) (Goes other world') = ⊥
AreAlikeOutcomes (Stops (Faulty fault) names world) (Stops (Faulty fault') names' world') =
    (fault' ≡ fault) × (names' ≡ names)
AreAlikeOutcomes (Stops (Faulty fault) names world) (Stops (Unread name) names' world') = Unit {0}
AreAlikeOutcomes (Stops (Unread name) names world) other = Unit {0}
