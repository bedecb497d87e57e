-- Sets of bytes that several forms of records share.
use Rattle.std.specs.Prelude.{ℕ, Bool, ◌==◌, ◌&&◌, ◌||◌, not, nat_le}

-- a printing ASCII character that is no space (RFC 5424, section 6: PRINTUSASCII)
abbrev pub is_print : ℕ → Bool
is_print b = nat_le 33 b && nat_le b 126

-- a byte of a name of structured data: a printing one but for =, ] and " (section 6: SD-NAME)
abbrev pub is_sd_byte : ℕ → Bool
is_sd_byte b = is_print b && not (b == 61) && not (b == 93) && not (b == 34)

-- a byte that stands behind a backslash in a parameter's value: a quote, a backslash or a closing bracket (section 6.3.3)
abbrev pub is_escaped : ℕ → Bool
is_escaped b = b == 34 || (b == 92 || b == 93)
