-- The line that a message is written as (RFC 5424, 6).
use Rattle.std.specs.Prelude.{ℕ, ◌≤◌, ◌==◌, if◌then◌else◌, List, [], ◌++◌, length, take, map, codes, decimal}
use Rattle.sg_time.specs.Local.{local_time}
use Rattle.sg_time.specs.Text.{iso_stamp_text}
use Rattle.sg_msg.specs.Message.{Content, NameValue}
use Rattle.sg_msg.specs.Sets.{is_print}
use Rattle.sg_template.specs.declared.env.Env.{Env}
use Rattle.sg_template.specs.Texts.{text_of}
use Rattle.sg_template.specs.Elements.{sdata_text}
use Rattle.sg_template.specs.Zone.{shown_stamp}

-- a byte of PRINTUSASCII, or `_` in place of another
abbrev pub printed : ℕ → ℕ
printed b = if is_print b then b else 95

-- a field of at most so many bytes; `-` stands for none
abbrev pub field_text : ℕ → List ℕ → List ℕ
field_text most value = if length value == 0 then codes "-" else map printed (take most value)

abbrev pub message_text : List ℕ → List ℕ
message_text text = if length text == 0 then [] else codes " " ++ text

abbrev pub pri_text : ℕ → List ℕ
pri_text pri = codes "<" ++ decimal pri ++ codes ">1 "

-- HOSTNAME, APP-NAME, PROCID and MSGID
abbrev pub fields_text : List NameValue → List ℕ
fields_text pairs =
    codes " " ++ field_text 255 (text_of (codes "HOST") pairs)
    ++ codes " " ++ field_text 48 (text_of (codes "PROGRAM") pairs)
    ++ codes " " ++ field_text 128 (text_of (codes "PID") pairs)
    ++ codes " " ++ field_text 32 (text_of (codes "MSGID") pairs)

unfoldable pub line_text : Content → Env → List ℕ
line_text content env =
    pri_text content.pri
    ++ iso_stamp_text (shown_stamp env.zone content.sent) env.digits
    ++ fields_text content.pairs
    ++ codes " " ++ sdata_text content.pairs
    ++ message_text (text_of (codes "MESSAGE") content.pairs)

-- the year of the line's stamp is 0001 to 9998, as a reader has it
abbrev pub HasYear : Content → Env → Type 0
HasYear content env =
    let local = local_time (shown_stamp env.zone content.sent) in
    (1 ≤ local.year) × (local.year ≤ 9998)
