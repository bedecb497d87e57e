-- What a call answers, by what the bytes say.
use Rattle.std.specs.Prelude.{◌≡◌, ℕ, Result, Ok, Err}
use Rattle.sg_msg.specs.Build.{Build}
use Rattle.sg_msg.specs.Message.{Content}
use Rattle.sg_codec.specs.declared.kept.Kept.{Kept}
use Rattle.sg_codec.specs.declared.refusal.CodecRefusal.{CodecRefusal}
use Rattle.sg_codec.specs.declared.refusal.CodecRefusal.TheVariants as refusals
use Rattle.sg_codec.specs.declared.refusal.DecodeStop.{DecodeStop}
use Rattle.sg_codec.specs.declared.refusal.DecodeStop.TheVariants as stops

-- A field's reader gives what the field says, seen by view, unless memory runs out.
abbrev pub StopsDecoding : {Y : Type 0} → DecodeStop → Result Y ℕ → Type 0
StopsDecoding (stops.Damaged left) field = field ≡ Err left
StopsDecoding stops.NoMemory field = Unit {0}

abbrev pub GivesField : {X Y : Type 0} → (X → Y) → Result X DecodeStop → Result Y ℕ → Type 0
GivesField view (Ok x) field = field ≡ Ok (view x)
GivesField view (Err stop) field = StopsDecoding stop field

-- The entry that is read, or the place of the damage, unless memory runs out.
abbrev pub RefusesEntry : CodecRefusal → Result Kept ℕ → Type 0
RefusesEntry (refusals.Damage place) entry = entry ≡ Err place
RefusesEntry refusals.NoMemory entry = Unit {0}

abbrev pub Decodes : Result Kept CodecRefusal → Result Kept ℕ → Type 0
Decodes (Ok kept) entry = entry ≡ Ok kept
Decodes (Err refusal) entry = RefusesEntry refusal entry

-- the message of what was put, as it stands
abbrev pub content_of : Build → Content
content_of build = record {
  pri = build.pri;
  sent = build.sent;
  received = build.received;
  pairs = build.put;
  tags = build.tags;
}
