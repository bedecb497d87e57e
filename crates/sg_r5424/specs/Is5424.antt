-- The message of a record of RFC 5424.
use Rattle.std.specs.Prelude.{◌≡◌, ◌≤◌, ◌==◌, ◌||◌, ◌-◌, ℕ, ℤ, Bool, List, [], ◌∷◌, ◌++◌, length, take, codes, Option, MatchOption, Result, MatchResult, IfOk}
use Rattle.sg_time.specs.declared.stamp.Stamp.{Stamp}
use Rattle.std.specs.List.{suffix_len}
use Rattle.sg_msg.specs.Message.{NameValue, Content, with_all}
use Rattle.sg_msg.specs.Build.{Build, some_pair, built}
use Rattle.sg_r3164.specs.declared.opts.ReadOpts.{ReadOpts}
use Rattle.sg_r3164.specs.Options.{received_at, sent_of, host_of}
use Rattle.sg_r5424.specs.declared.header.HeaderFront.{HeaderFront}
use Rattle.std.specs.declared.alloc.AllocError.{AllocError}
use Rattle.sg_r5424.specs.declared.refusal.R5424Refusal.{R5424Refusal}
use Rattle.sg_r5424.specs.declared.refusal.R5424Refusal.TheVariants.{Syntax, NoMemory}
use Rattle.sg_r5424.specs.Grammar.{HeaderNames, IsHeaderFront, IsNames, IsMsgPart, unless_nil}
use Rattle.sg_r5424.specs.Data.{IsData}

-- the pairs of the names, each where it isn't nil
abbrev pub name_pairs : ReadOpts → List ℕ → HeaderNames → List NameValue
name_pairs opts peer names =
    (record { name = codes "HOST"; value = host_of opts (unless_nil names.host) peer }) ∷ []
    ++ some_pair (codes "PROGRAM") (unless_nil names.program)
    ++ some_pair (codes "PID") (unless_nil names.pid)
    ++ some_pair (codes "MSGID") (unless_nil names.msgid)

-- what a record says, before its structured data
abbrev pub header_build : Stamp → List ℕ → ReadOpts → HeaderFront → HeaderNames → Build
header_build received peer opts front names = record {
  pri = front.pri;
  sent = sent_of opts front.stamp received;
  received = received;
  item = [];
  put = name_pairs opts peer names;
  tags = [];
}

-- MESSAGE
abbrev pub message_pair : List ℕ → NameValue
message_pair message = record { name = codes "MESSAGE"; value = message }

-- the same with pairs of structured data put, in their order, and with MESSAGE
abbrev pub whole_build : Build → List NameValue → List ℕ → Build
whole_build build pairs message =
    record build { put = build.put ++ pairs ++ message_pair message ∷ [] }

abbrev pub whole_content : Build → List NameValue → List ℕ → Content
whole_content build pairs message = built (whole_build build pairs message)

-- pairs with those of the names and MESSAGE behind them, in the order of their names
abbrev pub put_in_order : ReadOpts → List ℕ → HeaderNames → List ℕ → List NameValue → List NameValue
put_in_order opts peer names message pairs = pairs
    ++ (record { name = codes "HOST"; value = host_of opts (unless_nil names.host) peer }) ∷ []
    ++ message_pair message ∷ []
    ++ some_pair (codes "MSGID") (unless_nil names.msgid)
    ++ some_pair (codes "PID") (unless_nil names.pid)
    ++ some_pair (codes "PROGRAM") (unless_nil names.program)

-- what stands behind the header: structured data and MSG
pub record Behind (build : Build) (text : List ℕ) (whole : Content) : Type 0 where
  pub pairs : List NameValue
  pub message : List ℕ
  pub rest : List ℕ
  pub is_data : IsData text pairs rest
  pub is_message : IsMsgPart rest message
  pub is_content : whole ≡ whole_content build pairs message

-- SYSLOG-MSG (RFC 5424, section 6): the item is related to a message, its received stamp being this one
pub record ReadsSyslogMsg (received : Stamp) (peer : List ℕ) (opts : ReadOpts) (item : List ℕ)
    (content : Content) : Type 0 where
  pub front : HeaderFront
  pub names : HeaderNames
  pub behind_front : List ℕ
  pub behind_names : List ℕ
  pub is_front : IsHeaderFront item front behind_front
  pub are_names : IsNames behind_front names behind_names
  pub behind : Behind (header_build received peer opts front names) behind_names content

-- the LF and NUL bytes at the end of a record belong to no field
abbrev pub is_end_byte : ℕ → Bool
is_end_byte b = b == 10 || b == 0

abbrev pub without_end : List ℕ → List ℕ
without_end text = take (length text - suffix_len is_end_byte text) text

-- the item, its moment, its peer and the source's options are related to this message
abbrev pub Is5424 : List ℕ → ℤ → List ℕ → ReadOpts → Content → Type 0
Is5424 item at peer opts content =
    ReadsSyslogMsg (received_at at opts) peer opts (without_end item) content

-- why an item has no message: nothing is related to it, and the place is at most its length; or memory lacks
abbrev pub Is5424Refusal : List ℕ → ℤ → List ℕ → ReadOpts → R5424Refusal → Type 0
Is5424Refusal item at peer opts (Syntax place) = (place ≤ length item)
    × ((content : Content) → ¬ Is5424 item at peer opts content)
Is5424Refusal item at peer opts NoMemory = Unit {0}

abbrev pub Answers5424 : List ℕ → ℤ → List ℕ → ReadOpts → Result Content R5424Refusal → Type 0
Answers5424 item at peer opts result = MatchResult result
    (λ content. Is5424 item at peer opts content)
    (λ refusal. Is5424Refusal item at peer opts refusal)

-- a text is related to the message found, or to none, and what is left of it is no longer
abbrev pub TryReads : (Content → Type 0) → List ℕ → List ℕ → Result (Option Content) AllocError
    → Type 0
TryReads Is old new result =
    IfOk result (λ found. MatchOption found
    (((content : Content) → ¬ Is content) × (length new ≤ length old)) (λ content. Is content))

-- what a record that isn't so becomes
abbrev pub refusal_pairs : List ℕ → List ℕ → List NameValue
refusal_pairs item peer =
    (record { name = codes "HOST"; value = peer })
    ∷ (record { name = codes "PROGRAM"; value = codes "syslog-ng" })
    ∷ message_pair (codes "Error processing log message: " ++ item) ∷ []

abbrev pub refusal : List ℕ → ℤ → List ℕ → ReadOpts → Content
refusal item at peer opts = record {
  pri = 43;
  sent = received_at at opts;
  received = received_at at opts;
  pairs = with_all (refusal_pairs item peer) [];
  tags = [];
}
