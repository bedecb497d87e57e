-- Entries, and the payloads that spell them.
use Rattle.std.specs.Prelude.{◌⊎◌, ◌≤◌, ◌^◌, ◌+◌, ℕ, List, [], ◌∷◌, length, map}
use Rattle.sg_msg.specs.Length.{encoded_len}
use Rattle.sg_codec.specs.declared.kept.Kept.{Kept}
use Rattle.sg_codec.specs.Spelling.{spelling2, IsSpellable, Spells1, Spells2}
use Rattle.sg_spool.specs.Ring.{Entries, IsList}

-- a payload of a store is an entry in format 2, or in format 1 with at most 2^30 bytes
abbrev pub IsStoredAs : Kept → List ℕ → Type 0
IsStoredAs kept payload = Spells2 kept payload ⊎ (Spells1 kept payload × (length payload ≤ 2 ^ 30))

abbrev pub AreStoredAs : List Kept → Entries → Type 0
AreStoredAs [] [] = Unit {0}
AreStoredAs [] (payload ∷ payloads) = ⊥
AreStoredAs (kept ∷ entries) [] = ⊥
AreStoredAs (kept ∷ entries) (payload ∷ payloads) = IsStoredAs kept payload
    × AreStoredAs entries payloads

-- the entries that a store's bytes stand for
pub record IsListOf (entries : List Kept) (bytes : List ℕ) : Type 0 where
  pub payloads : Entries
  pub list : IsList payloads bytes
  pub stored : AreStoredAs entries payloads

-- their payloads in format 2
abbrev pub spelled : List Kept → Entries
spelled entries = map spelling2 entries

-- each has a spelling
abbrev pub AreKept : List Kept → Type 0
AreKept [] = Unit {0}
AreKept (kept ∷ entries) = IsSpellable kept × AreKept entries

-- what they take in format 2: 5 bytes and its length for each
abbrev pub size_of : List Kept → ℕ
size_of [] = 0
size_of (kept ∷ entries) = 5 + encoded_len kept.message + size_of entries
