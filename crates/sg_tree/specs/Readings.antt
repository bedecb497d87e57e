-- The message of a record, as its inlet reads it.
use Rattle.std.specs.Prelude.{◌≡◌, ◌==◌, ◌||◌, ◌⊎◌, ℕ, ℤ, Bool, true, false, if◌then◌else◌, List, [], ◌∷◌, map, codes, Option, None, Some}
use Rattle.std.specs.List.{list_any}
use Rattle.sg_msg.specs.Message.{Content, value_of, with_pair, with_tag}
use Rattle.sg_r3164.specs.declared.opts.ReadOpts.{ReadOpts}
use Rattle.sg_r3164.specs.Read3164.{Read3164}
use Rattle.sg_r5424.specs.Is5424.{Is5424, refusal}
use Rattle.sg_tree.specs.declared.forest.InletRule.{InletRule}

-- how the records of an inlet are read
pub record InletReading : Type 0 where
  pub opts : ReadOpts
  pub rfc5424 : Bool
  pub empty_lines : Bool
  pub one_line : Bool
  pub tags : List (List ℕ)

abbrev pub inlet_of : InletRule → InletReading
inlet_of rule = record {
  opts = rule.opts;
  rfc5424 = rule.rfc5424;
  empty_lines = rule.empty_lines;
  one_line = rule.one_line;
  tags = rule.tags.items;
}

-- LF, CR and NUL, at which a reader of lines may end one
abbrev pub ends_line : ℕ → Bool
ends_line b = b == 10 || b == 13 || b == 0

-- a space in the place of each (syslog-ng's administration guide, the flag no-multi-line)
abbrev pub without_lines : List ℕ → List ℕ
without_lines text = map (λ b. if ends_line b then 32 else b) text

-- that value of MESSAGE in one line, where there is one
abbrev pub with_line : Option (List ℕ) → Content → Content
with_line None content = content
with_line (Some text) content =
    if list_any ends_line text
    then record content { pairs = with_pair (codes "MESSAGE") (without_lines text) content.pairs }
    else content

-- with the flag MESSAGE is one line, and without it what was read stays
abbrev pub in_lines : Bool → Content → Content
in_lines true content = with_line (value_of (codes "MESSAGE") content.pairs) content
in_lines false content = content

-- no byte of a value that is one line ends a line
abbrev pub IsLine : Bool → Option (List ℕ) → Type 0
IsLine true None = Unit {0}
IsLine true (Some text) = list_any ends_line text ≡ false
IsLine false value = Unit {0}

-- the tags set, one after another
abbrev pub with_tags : List (List ℕ) → Content → Content
with_tags [] content = content
with_tags (tag ∷ tags) content = with_tags tags
    (record content { tags = with_tag tag content.tags })

-- a record of RFC 5424 has its message, and one that isn't so the message that says that
abbrev pub Reads5424 : List ℕ → ℤ → List ℕ → ReadOpts → Content → Type 0
Reads5424 item at peer opts content =
    Is5424 item at peer opts content ⊎
    (((other : Content) → ¬ Is5424 item at peer opts other) × (content ≡ refusal item at peer opts))

abbrev pub ReadsByFormat : Bool → List ℕ → ℤ → List ℕ → ReadOpts → Content → Type 0
ReadsByFormat true item at peer opts content = Reads5424 item at peer opts content
ReadsByFormat false item at peer opts content = Read3164 item at peer opts content

-- what is read has its MESSAGE as the inlet's flag says, and the inlet's tags
abbrev pub IsRecordReading : InletReading → List ℕ → ℤ → List ℕ → Content → Type 0
IsRecordReading inlet item at peer content =
    (plain : Content)
    × (ReadsByFormat inlet.rfc5424 item at peer inlet.opts plain
    × (content ≡ with_tags inlet.tags (in_lines inlet.one_line plain)))
