-- The entries of a disk-buffer in format 2.
use Rattle.std.specs.Prelude.{◌≡◌, refl, ℕ, zero, suc, ◌+◌, ◌^◌, Bool, true, false, ◌&&◌, if◌then◌else◌, nat_le, List, [], ◌∷◌, length, Result, Ok, Err}
use Rattle.std.proofs.lemmas.Bool.{leb-true, and_parts}
use Rattle.sg_codec.specs.Spelling.{spelling2}
use Rattle.sg_codec.specs.Reading.{reading}
use Rattle.sg_spool.specs.Ring.{IsPayload}
use Rattle.sg_codec.specs.declared.kept.Kept.{Kept}

-- the first byte tells the format
abbrev pub is_format1 : List ℕ → Bool
is_format1 [] = false
is_format1 (zero ∷ rest) = false
is_format1 (suc zero ∷ rest) = true
is_format1 (suc (suc other) ∷ rest) = false

-- an entry of format 1 has at most 2 ^ 30 bytes
abbrev pub is_older : List ℕ → Bool
is_older bytes = is_format1 bytes && nat_le (length bytes) (2 ^ 30)

-- the entry that was read, in format 2; bytes that are no entry stay
abbrev pub renewed : List ℕ → Result Kept ℕ → List ℕ
renewed bytes (Ok kept) = spelling2 kept
renewed bytes (Err place) = bytes

-- a payload has 1 to 2 ^ 30 + 64 bytes
abbrev pub is_payload : List ℕ → Bool
is_payload bytes = nat_le 1 (length bytes) && nat_le (length bytes) (2 ^ 30 + 64)

-- the new bytes where they are a payload, as those of every entry of format 1 are; else the old ones
abbrev pub payload_or : List ℕ → List ℕ → List ℕ
payload_or old new = if is_payload new then new else old

-- an entry of format 1 in format 2; all other bytes stay
unfoldable pub upgraded : List ℕ → List ℕ
upgraded bytes = payload_or bytes (if is_older bytes then renewed bytes (reading bytes) else bytes)

chosen-fits : (old new : List ℕ) (fits : Bool) → is_payload new ≡ fits → IsPayload old
    → IsPayload (if fits then new else old)
chosen-fits old new true e is = record {
  some = leb-true 1 (length new)
      (and_parts (nat_le 1 (length new)) (nat_le (length new) (2 ^ 30 + 64)) e).0;
  limit = leb-true (length new) (2 ^ 30 + 64)
      (and_parts (nat_le 1 (length new)) (nat_le (length new) (2 ^ 30 + 64)) e).1;
}
chosen-fits old new false e is = is

-- what becomes of a payload is a payload
pub upgraded-fits : (bytes : List ℕ) → IsPayload bytes → IsPayload (upgraded bytes)
unfolding upgraded
upgraded-fits bytes is =
    let new : List ℕ = if is_older bytes then renewed bytes (reading bytes) else bytes in
    chosen-fits bytes new (is_payload new) refl is
