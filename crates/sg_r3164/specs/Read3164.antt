-- The message of a record as RFC 3164 describes it (sections 4 and 5), and as syslog-ng's guide has it for records that aren't so.
use Rattle.std.specs.Prelude.{◌≡◌, ℕ, ℤ, ◌==◌, ◌||◌, ◌⊎◌, Bool, true, false, if◌then◌else◌, List, [], ◌∷◌, ◌++◌, length, take, drop, codes, Option, None, Some, option_map, is_some}
use Rattle.sg_time.specs.declared.stamp.Stamp.{Stamp}
use Rattle.sg_time.specs.Local.{local_time}
use Rattle.sg_time.specs.Reading.{IsBsd, IsIso}
use Rattle.sg_msg.specs.Message.{NameValue, Content, with_all}
use Rattle.sg_msg.specs.Build.{some_pair}
use Rattle.sg_msg.specs.Priority.{priority, has_at}
use Rattle.sg_r3164.specs.declared.opts.ReadOpts.{ReadOpts}
use Rattle.sg_r3164.specs.Options.{received_at, sent_of, host_of}
use Rattle.sg_r3164.specs.Parts.{past, host_len, tag, program_of, pid_of, behind_tag}

-- the text ends at this place, or a space stands there
abbrev pub is_end : List ℕ → ℕ → Bool
is_end text place = place == length text || has_at text place 32

-- a stamp of so many bytes at the front, which the text's end or a space follows: of RFC 3164's form, or of ISO 8601's
abbrev pub HasBsd : List ℕ → Stamp → Stamp → ℕ → Type 0
HasBsd text received stamp len = IsBsd text (local_time received) received.offset stamp len
    × (is_end text len ≡ true)

abbrev pub HasIso : List ℕ → Stamp → ℕ → Type 0
HasIso text stamp len = IsIso text stamp len × (is_end text len ≡ true)

abbrev pub HasStamp : List ℕ → Stamp → Stamp → ℕ → Type 0
HasStamp text received stamp len = HasBsd text received stamp len ⊎ HasIso text stamp len

-- a stamp that the text has, or none where it has none
abbrev pub FindsStamp : List ℕ → Stamp → Option (Stamp × ℕ) → Type 0
FindsStamp text received None = (stamp : Stamp) (len : ℕ) → ¬ HasStamp text received stamp len
FindsStamp text received (Some found) = HasStamp text received found.0 found.1

-- The first step: the PRI, where there is one, and else the source's
abbrev pub pri_of : Option (ℕ × ℕ) → ℕ → ℕ
pri_of None default = default
pri_of (Some found) default = found.0

abbrev pub behind_pri : Option (ℕ × ℕ) → List ℕ → List ℕ
behind_pri None text = text
behind_pri (Some found) text = drop found.1 text

-- The second step: the stamp and the space behind it
abbrev pub behind_stamp : Option (Stamp × ℕ) → List ℕ → List ℕ
behind_stamp None text = text
behind_stamp (Some found) text = drop (past text found.1 32) text

-- The third step: the host, only behind a stamp, and the space behind it
abbrev pub host_behind : Bool → List ℕ → Option ℕ
host_behind stamped text = if stamped then host_len text else None

abbrev pub behind_host : Option ℕ → List ℕ → List ℕ
behind_host None text = text
behind_host (Some len) text = drop 1 (drop len text)

-- the pairs that a reading gives, in the order of their names
abbrev pub parts : List ℕ → Option (List ℕ) → Option (List ℕ) → List ℕ → List NameValue
parts host program pid text =
    (record { name = codes "HOST"; value = host })
    ∷ (record { name = codes "MESSAGE"; value = text }) ∷ []
    ++ some_pair (codes "PID") pid ++ some_pair (codes "PROGRAM") program

-- the same, set on others
abbrev pub with_parts : List ℕ → Option (List ℕ) → Option (List ℕ) → List ℕ → List NameValue
    → List NameValue
with_parts host program pid text pairs = with_all (parts host program pid text) pairs

-- the message of an item that isn't parsed
abbrev pub unparsed : ReadOpts → Stamp → List ℕ → List ℕ → Content
unparsed opts received peer item = record {
  pri = opts.pri;
  sent = received;
  received = received;
  pairs = with_parts peer None None item [];
  tags = [];
}

-- The fourth and fifth steps: the tag, and what is left is MESSAGE
abbrev pub parts_of : List ℕ → List ℕ → List NameValue
parts_of host text = parts host (program_of (tag text) text) (pid_of (tag text) text)
    (behind_tag (tag text) text)

abbrev pub pairs_behind_stamp : ReadOpts → List ℕ → Bool → List ℕ → List NameValue
pairs_behind_stamp opts peer stamped text =
    let host = host_behind stamped text in
    parts_of (host_of opts (option_map (λ len. take len text) host) peer) (behind_host host text)

-- the message of an item in whose text behind the PRI this stamp was found, or none
abbrev pub parsed : ReadOpts → Stamp → List ℕ → List ℕ → Option (Stamp × ℕ) → Content
parsed opts received peer item found = record {
  pri = pri_of (priority item) opts.pri;
  sent = sent_of opts (option_map (λ stamp. stamp.0) found) received;
  received = received;
  pairs = with_all (pairs_behind_stamp opts peer (is_some found)
      (behind_stamp found (behind_pri (priority item) item))) [];
  tags = [];
}

-- the message that an item is read as, parsed or not
abbrev pub ReadsAs : Bool → ReadOpts → Stamp → List ℕ → List ℕ → Content → Type 0
ReadsAs true opts received peer item content =
    (found : Option (Stamp × ℕ)) × (FindsStamp (behind_pri (priority item) item) received found
    × (content ≡ parsed opts received peer item found))
ReadsAs false opts received peer item content = content ≡ unparsed opts received peer item

-- the item, its moment, its peer and the source's options give this message
abbrev pub Read3164 : List ℕ → ℤ → List ℕ → ReadOpts → Content → Type 0
Read3164 item at peer opts content = ReadsAs opts.parse opts (received_at at opts) peer item content
