-- How many bytes the entry of a message has in a disk-buffer of format 2.
use Rattle.std.specs.Prelude.{ℕ, ◌+◌, List, [], ◌∷◌, length}
use Rattle.sg_msg.specs.Message.{Content, NameValue}

abbrev pub tag_lengths : List (List ℕ) → ℕ
tag_lengths [] = 0
tag_lengths (tag ∷ tags) = 4 + length tag + tag_lengths tags

abbrev pub pair_lengths : List NameValue → ℕ
pair_lengths [] = 0
pair_lengths (pair ∷ pairs) = 8 + length pair.name + length pair.value + pair_lengths pairs

-- 43, for each tag 4 and its bytes, and for each pair 8 and the bytes of name and value
abbrev pub encoded_len : Content → ℕ
encoded_len message = 43 + tag_lengths message.tags + pair_lengths message.pairs
