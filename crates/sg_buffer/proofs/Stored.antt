-- Entries and their payloads, one more and one by one.
use Rattle.std.proofs.Common.{◌≡◌, inl, inr, ⊎_elim, ℕ, suc, ◌+◌, ◌≤◌, true, false, List, [], ◌∷◌, ◌++◌, length, refl, sym, ◌∙◌, ap, arith, Ok}
use Rattle.sg_msg.specs.Length.{encoded_len}
use Rattle.sg_codec.proofs.WriteLemmas.{length-spelling}
use Rattle.sg_codec.specs.declared.kept.Kept.{Kept}
use Rattle.sg_codec.specs.Reading.{reading}
use Rattle.sg_codec.specs.Spelling.{spelling2, IsSpellable, Spells}
use Rattle.sg_spool.specs.Ring.{Entries, space}
use Rattle.sg_buffer.specs.Entries.{IsStoredAs, AreStoredAs, AreKept, spelled, size_of}
use Rattle.sg_buffer.specs.Formats.{is_format1}
use Rattle.sg_buffer.proofs.Upgrades.{entry-len, spells1-first}

pub spells_of : (kept : Kept) (payload : List ℕ) → IsStoredAs kept payload → Spells kept payload
spells_of kept payload is = ⊎_elim (λ two. inl two) (λ one. inr one.0) is

pub kept_of : (kept : Kept) (payload : List ℕ) → IsStoredAs kept payload → IsSpellable kept
kept_of kept payload is = ⊎_elim (λ two. two.fits) (λ one. one.0.fits) is

-- in format 2
pub new_stored : (kept : Kept) → IsSpellable kept → IsStoredAs kept (spelling2 kept)
new_stored kept fits = inl (record { fits = fits; spelled = refl })

pub news_stored : (entries : List Kept) → AreKept entries → AreStoredAs entries (spelled entries)
news_stored [] fits = tt
news_stored (kept ∷ entries) fits = (new_stored kept fits.0, news_stored entries fits.1)

-- a payload that isn't of format 1
pub is_new : (kept : Kept) (payload : List ℕ) → IsStoredAs kept payload → is_format1 payload ≡ false → payload ≡ spelling2 kept
is_new kept payload is other = ⊎_elim (λ two. two.spelled) (λ one. absurd (let no : true ≡ false = sym (spells1-first kept payload one.0) ∙ other in cc)) is

-- one more

pub stored_more : (entries : List Kept) (payloads : Entries) (kept : Kept) (payload : List ℕ) → AreStoredAs entries payloads → IsStoredAs kept payload → AreStoredAs (entries ++ kept ∷ []) (payloads ++ payload ∷ [])
stored_more [] [] kept payload are is = (is, tt)
stored_more [] (p ∷ ps) kept payload are is = absurd are
stored_more (k ∷ ks) [] kept payload are is = absurd are
stored_more (k ∷ ks) (p ∷ ps) kept payload are is = (are.0, stored_more ks ps kept payload are.1 is)

pub stored_length : (entries : List Kept) (payloads : Entries) → AreStoredAs entries payloads → length payloads ≡ length entries
stored_length [] [] are = refl
stored_length [] (p ∷ ps) are = absurd are
stored_length (k ∷ ks) [] are = absurd are
stored_length (k ∷ ks) (p ∷ ps) are = ap suc (stored_length ks ps are.1)

pub kept_more : (entries : List Kept) (kept : Kept) → AreKept entries → IsSpellable kept → AreKept (entries ++ kept ∷ [])
kept_more [] kept are is = (is, tt)
kept_more (k ∷ ks) kept are is = (are.0, kept_more ks kept are.1 is)

pub size_more : (entries : List Kept) (kept : Kept) → size_of (entries ++ kept ∷ []) ≡ size_of entries + (5 + encoded_len kept.message)
size_more [] kept = omega arith
size_more (k ∷ ks) kept = omega (arith, size_more ks kept)

pub spelled_more : (entries : List Kept) (kept : Kept) → spelled (entries ++ kept ∷ []) ≡ spelled entries ++ spelling2 kept ∷ []
spelled_more [] kept = refl
spelled_more (k ∷ ks) kept = ap (λ (l : Entries). spelling2 k ∷ l) (spelled_more ks kept)

-- what they take
pub space_spelled : (entries : List Kept) → space (spelled entries) ≡ size_of entries
space_spelled [] = refl
space_spelled (kept ∷ entries) = omega (arith, length-spelling kept, space_spelled entries)

-- one payload spells one entry
pub stored_one : ((x y : Kept) (p : List ℕ) → Spells x p → Spells y p → x ≡ y) → (a b : List Kept) (payloads : Entries) → AreStoredAs a payloads → AreStoredAs b payloads → a ≡ b
stored_one one [] [] payloads first second = refl
stored_one one [] (y ∷ ys) [] first second = absurd second
stored_one one [] (y ∷ ys) (p ∷ ps) first second = absurd first
stored_one one (x ∷ xs) [] [] first second = absurd first
stored_one one (x ∷ xs) [] (p ∷ ps) first second = absurd second
stored_one one (x ∷ xs) (y ∷ ys) [] first second = absurd first
stored_one one (x ∷ xs) (y ∷ ys) (p ∷ ps) first second =
    ap (λ (k : Kept). k ∷ xs) (one x y p (spells_of x p first.0) (spells_of y p second.0)) ∙ ap (λ (l : List Kept). y ∷ l) (stored_one one xs ys ps first.1 second.1)

-- the length of an entry in format 2 is at most 14 more than that of its payload
pub stored_short : (kept : Kept) (payload : List ℕ) → Spells kept payload → reading payload ≡ Ok kept → encoded_len kept.message ≤ length payload + 14
stored_short kept payload spells read = ⊎_elim
    (λ two. let long : length payload ≡ length (spelling2 kept) = ap length two.spelled in omega (arith, long, length-spelling kept))
    (λ one. entry-len payload kept (spells1-first kept payload one) read) spells
