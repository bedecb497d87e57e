-- A message that is made of many pairs at once.
use Rattle.std.specs.Prelude.{ℕ, List, [], ◌∷◌, Option, None, Some, codes}
use Rattle.sg_time.specs.declared.stamp.Stamp.{Stamp}
use Rattle.sg_msg.specs.Message.{NameValue, Content, with_all, IsPairName}
use Rattle.sg_msg.specs.declared.builder.PairName.{PairName}
use Rattle.sg_msg.specs.declared.builder.PairName.TheVariants.{Host, Program, Pid, MessageId, Message, Other}

-- what a pair is called
abbrev pub name_of : PairName → List ℕ
name_of Host = codes "HOST"
name_of Program = codes "PROGRAM"
name_of Pid = codes "PID"
name_of MessageId = codes "MSGID"
name_of Message = codes "MESSAGE"
name_of (Other name) = name

-- a name that a pair may have
abbrev pub MayName : PairName → Type 0
MayName Host = Unit {0}
MayName Program = Unit {0}
MayName Pid = Unit {0}
MayName MessageId = Unit {0}
MayName Message = Unit {0}
MayName (Other name) = IsPairName name

-- a pair that may be missing
abbrev pub some_pair : List ℕ → Option (List ℕ) → List NameValue
some_pair name None = []
some_pair name (Some value) = (record { name = name; value = value }) ∷ []

-- a message that is being made
pub record Build : Type 0 where
  pub pri : ℕ
  pub sent : Stamp
  pub received : Stamp
  -- the record of which values may be parts
  pub item : List ℕ
  -- in the order in which they were put
  pub put : List NameValue
  -- distinct, in the order set
  pub tags : List (List ℕ)

-- the message that setting the pairs one after another gives
abbrev pub built : Build → Content
built build = record {
  pri = build.pri;
  sent = build.sent;
  received = build.received;
  pairs = with_all build.put [];
  tags = build.tags;
}
