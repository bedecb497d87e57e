-- What kv-parser() makes of a text (syslog-ng's administration guide, "Options of key=value parsers").
use Rattle.std.specs.Prelude.{ℕ, zero, suc, ◌+◌, ◌-◌, ◌==◌, ◌&&◌, nat_lt, Bool, if◌then◌else◌, List, [], ◌∷◌, ◌++◌, take, drop}
use Rattle.sg_msg.specs.Message.{NameValue, Content, with_all}
use Rattle.sg_msg.specs.Priority.{has_at}
use Rattle.sg_parsers.specs.declared.kv.Kv.{Kv}
use Rattle.sg_parsers.specs.Names.{may_name}
use Rattle.sg_parsers.specs.Values.{key_len, quoted_len, front_value, value_len}

-- the text begins with a key and the value separator
abbrev pub begins_pair : Kv → List ℕ → Bool
begins_pair kv text = nat_lt 0 (key_len text) && has_at text (key_len text) kv.value_separator

-- what follows them
abbrev pub behind_key : List ℕ → List ℕ
behind_key text = drop (key_len text + 1) text

-- a key that a pair can't be called is passed over
abbrev pub named : List ℕ → List ℕ → List NameValue
named name value = if may_name name then (record { name = name; value = value }) ∷ [] else []

-- what the front of a text gives
abbrev pub front_pairs : Kv → List ℕ → List NameValue
front_pairs kv text =
    if begins_pair kv text
    then (let written = behind_key text in
    named (kv.prefix ++ take (key_len text) text)
    (front_value kv.pair_separator (quoted_len written) written))
    else []

-- and how much of it that takes: a key with its value, or a run of key bytes without one, or one byte
abbrev pub front_len : Kv → List ℕ → ℕ
front_len kv text =
    if begins_pair kv text
    then (let written = behind_key text in
    key_len text + 1 + value_len kv.pair_separator (quoted_len written) written)
    else (if key_len text == 0 then 1 else key_len text)

-- what the text gives behind its first bytes
abbrev pub pairs_from : Kv → ℕ → List ℕ → List NameValue
pairs_from kv skipped [] = []
pairs_from kv (suc skipped) (b ∷ text) = pairs_from kv skipped text
pairs_from kv zero (b ∷ text) =
    front_pairs kv (b ∷ text) ++ pairs_from kv (front_len kv (b ∷ text) - 1) text

abbrev pub kv_pairs : Kv → List ℕ → List NameValue
kv_pairs kv text = pairs_from kv 0 text

-- the message that it gives: of several pairs of one name the last one counts
abbrev pub kv_parsed : Kv → List ℕ → Content → Content
kv_parsed kv text content = record content { pairs = with_all (kv_pairs kv text) content.pairs }
