-- What becomes of the first entries when they are read, and why they weren't.
use Rattle.std.specs.Prelude.{◌≡◌, ℕ, pos, Bool, true, false, List, [], ◌∷◌, ◌++◌, codes, map, take, Result, Ok, Err}
use Rattle.sg_device.specs.Disk.{DiskState, WhereTold, content}
use Rattle.sg_device.specs.Faults.{Rose}
use Rattle.sg_time.specs.declared.stamp.Stamp.{Stamp}
use Rattle.sg_msg.specs.Message.{Content, NameValue, with_all}
use Rattle.sg_codec.specs.Reading.{reading}
use Rattle.sg_codec.specs.declared.kept.Kept.{Kept}
use Rattle.sg_spool.specs.Ring.{Entries, IsList}
use Rattle.sg_spool.specs.declared.answers.RewriteRefusal.{RewriteRefusal}
use Rattle.sg_spool.specs.declared.answers.RewriteRefusal.TheVariants.{DiskFault, NoMemory}
use Rattle.sg_buffer.specs.Entries.{AreKept, spelled}

-- the disk failed, and the buffer is closed; lack of memory is free, and the buffer stays open
abbrev pub ReadReason : DiskState → DiskState → Bool → RewriteRefusal → Type 0
ReadReason old new closed DiskFault = Rose old.faults new.faults × (closed ≡ true)
ReadReason old new closed NoMemory = closed ≡ false

-- 1970-01-01T00:00:00Z
abbrev pub long_ago : Stamp
long_ago = record { at = pos 0; offset = pos 0 }

-- what syslog-ng makes of a record that it can't read
abbrev pub unread_pairs : List ℕ → List NameValue
unread_pairs payload = (record { name = codes "PROGRAM"; value = codes "syslog-ng" })
    ∷ (record { name = codes "MESSAGE"; value = codes "Error processing log message: " ++ payload })
    ∷ []

abbrev pub unread_content : List ℕ → Content
unread_content payload = record {
  pri = 43;
  sent = long_ago;
  received = long_ago;
  pairs = with_all (unread_pairs payload) [];
  tags = [];
}

-- the message of the entry that was read, or what becomes of a payload that spells none
abbrev pub content_by : List ℕ → Result Kept ℕ → Content
content_by payload (Ok kept) = kept.message
content_by payload (Err place) = unread_content payload

-- the message that a payload becomes
abbrev pub content_in : List ℕ → Content
content_in payload = content_by payload (reading payload)

-- Each message is that of a payload; where the disk tells its bytes, and they are a list, the payloads are the first n of it as
-- they stand there, whether they spell an entry or not.
pub record AreFirstMessages (disk : DiskState) (n : ℕ) (messages : List Content) : Type 0 where
  pub payloads : Entries
  pub each : messages ≡ map content_in payloads
  pub first : WhereTold (content disk) (λ bytes. (entries : Entries) → IsList entries bytes
      → payloads ≡ take n entries)

-- where the payloads spell entries, they are those of the first n entries
abbrev pub AreFirstKept : DiskState → ℕ → List Content → Type 0
AreFirstKept disk n messages = WhereTold (content disk) (λ bytes. (entries : List Kept)
    → AreKept entries → IsList (spelled entries) bytes
    → messages ≡ map (λ kept. kept.message) (take n entries))
