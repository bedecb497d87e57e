-- The payloads of entries.
use Rattle.std.specs.Prelude.{ℕ, ◌+◌, ◌^◌, nat_le, Bool, if◌then◌else◌, Option, Some, None, List}
use Rattle.sg_msg.specs.Message.{Content}
use Rattle.sg_msg.specs.Length.{encoded_len}
use Rattle.sg_msg.specs.declared.offer.Offer.{Offer}
use Rattle.sg_codec.specs.Spelling.{spelling2}
use Rattle.sg_codec.specs.declared.kept.Kept.{Kept}
use Rattle.sg_machine.specs.declared.setup.BufferSetup.{BufferSetup}

-- its entry isn't longer than one may be
abbrev pub is_short_entry : Content → Bool
is_short_entry message = nat_le (encoded_len message) (2 ^ 30 + 64)

-- where there is a disk-buffer, and the entry isn't longer
abbrev pub block_of : Option BufferSetup → Kept → Option (List ℕ)
block_of None kept = None
block_of (Some buffer) kept = if is_short_entry kept.message then Some (spelling2 kept) else None

-- the entry of an offer of the record of that inlet with that end
abbrev pub kept_of_offer : ℕ → ℕ → Offer → Kept
kept_of_offer inlet end offer =
    record { source = inlet; end = end; flow = offer.flow; message = offer.message }

abbrev pub block_of_offer : Option BufferSetup → ℕ → ℕ → Offer → Option (List ℕ)
block_of_offer buffer inlet end offer = block_of buffer (kept_of_offer inlet end offer)
