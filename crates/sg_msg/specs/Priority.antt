-- The PRI at the front of a record.
use Rattle.std.specs.Prelude.{ℕ, ◌+◌, ◌-◌, ◌*◌, ◌==◌, Bool, false, ◌&&◌, nat_le, if◌then◌else◌, List, [], ◌∷◌, drop, slice_get, slice_range, Option, None, Some, option_map}
use Rattle.std.specs.List.{prefix_len}

abbrev pub is_digit : ℕ → Bool
is_digit b = nat_le 48 b && nat_le b 57

abbrev pub is_byte : ℕ → Option ℕ → Bool
is_byte byte None = false
is_byte byte (Some found) = found == byte

-- the byte stands at this place
abbrev pub has_at : List ℕ → ℕ → ℕ → Bool
has_at text place byte = is_byte byte (slice_get text place)

abbrev pub at_most : ℕ → ℕ → Option ℕ
at_most most n = if nat_le n most then Some n else None

-- a PRI's value: one to three digits that come to at most 191
abbrev pub priority_value : List ℕ → Option ℕ
priority_value (a ∷ []) = at_most 191 (a - 48)
priority_value (a ∷ b ∷ []) = at_most 191 ((a - 48) * 10 + (b - 48))
priority_value (a ∷ b ∷ c ∷ []) = at_most 191 ((a - 48) * 100 + (b - 48) * 10 + (c - 48))
priority_value _ = None

-- the PRI: its value, and how much it takes, which is its digits in angle brackets (RFC 3164, section 4.1.1; RFC 5424, section 6.2.1)
abbrev pub priority : List ℕ → Option (ℕ × ℕ)
priority text =
    let digits = prefix_len is_digit (drop 1 text) in
    if has_at text 0 60 && has_at text (digits + 1) 62
    then option_map (λ value. (value, digits + 2))
    (priority_value (slice_range text 1 (digits + 1)))
    else None
