-- The syntax of a record's header and message (RFC 5424, section 6), each part as what the front of a text says and what follows.
use Rattle.std.specs.Prelude.{◌≡◌, ℕ, ◌≤◌, nat_eq, if◌then◌else◌, List, [], ◌∷◌, ◌++◌, length, drop, codes, bytes_eq, Option, None, Some}
use Rattle.std.specs.List.{AllPass, starts_with}
use Rattle.sg_time.specs.declared.stamp.Stamp.{Stamp}
use Rattle.sg_time.specs.Reading.{IsIso}
use Rattle.sg_msg.specs.Priority.{priority}
use Rattle.sg_msg.specs.Sets.{is_print}
use Rattle.sg_r5424.specs.declared.header.HeaderFront.{HeaderFront}

-- PRI and VERSION, which is 1, and a space (sections 6.2.1 and 6.2.2)
pub record IsStart (text : List ℕ) (pri : ℕ) (rest : List ℕ) : Type 0 where
  pub len : ℕ
  pub is_pri : priority text ≡ Some (pri, len)
  pub is_version : drop len text ≡ codes "1 " ++ rest

-- TIMESTAMP and a space: nil, or of ISO 8601's form (section 6.2.3)
abbrev pub IsStamp : List ℕ → Option Stamp → List ℕ → Type 0
IsStamp text None rest = text ≡ codes "- " ++ rest
IsStamp text (Some stamp) rest = (len : ℕ) × (IsIso text stamp len × (drop len text ≡ 32 ∷ rest))

pub record IsHeaderFront (text : List ℕ) (front : HeaderFront) (rest : List ℕ) : Type 0 where
  pub behind : List ℕ
  pub start : IsStart text front.pri behind
  pub stamp : IsStamp behind front.stamp rest

-- one to so many printing characters, and a space (sections 6.2.4 to 6.2.7)
pub record IsField (limit : ℕ) (text field rest : List ℕ) : Type 0 where
  pub is_text : text ≡ field ++ 32 ∷ rest
  pub some : 1 ≤ length field
  pub most : length field ≤ limit
  pub print : AllPass is_print field

-- HOSTNAME, APP-NAME, PROCID and MSGID as they are written
pub record HeaderNames : Type 0 where
  pub host : List ℕ
  pub program : List ℕ
  pub pid : List ℕ
  pub msgid : List ℕ

-- they stand at the front, each with the space behind it
pub record IsNames (text : List ℕ) (names : HeaderNames) (rest : List ℕ) : Type 0 where
  pub behind_host : List ℕ
  pub behind_program : List ℕ
  pub behind_pid : List ℕ
  pub host : IsField 255 text names.host behind_host
  pub program : IsField 48 behind_host names.program behind_program
  pub pid : IsField 128 behind_program names.pid behind_pid
  pub msgid : IsField 32 behind_pid names.msgid rest

-- a field that is nil says nothing (section 6: NILVALUE)
abbrev pub unless_nil : List ℕ → Option (List ℕ)
unless_nil field = if bytes_eq field (codes "-") then None else Some field

-- a byte order mark at the front of MSG isn't part of it (section 6.4: BOM)
abbrev pub without_bom : List ℕ → List ℕ
without_bom text = if starts_with nat_eq text (239 ∷ 187 ∷ 191 ∷ []) then drop 3 text else text

-- what follows the structured data: nothing, or a space and MSG
abbrev pub IsMsgPart : List ℕ → List ℕ → Type 0
IsMsgPart [] message = message ≡ []
IsMsgPart (b ∷ text) message = (b ≡ 32) × (message ≡ without_bom text)
