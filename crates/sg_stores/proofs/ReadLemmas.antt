-- Entries that are read.
use Rattle.std.proofs.Common.{◌≡◌, ℕ, zero, suc, List, [], ◌∷◌, map, take, Option, Some, refl, ap, ◌∙◌, subst, Bool, true, false}
use Rattle.std.proofs.lemmas.List.{append-nil}
use Rattle.sg_msg.specs.Message.{Content}
use Rattle.sg_device.specs.Disk.{DiskState, content, WhereTold}
use Rattle.sg_device.proofs.DiskCalls.{reads_as_image}
use Rattle.sg_codec.specs.declared.kept.Kept.{Kept as Coded}
use Rattle.sg_spool.specs.Calls.{OnlyReadsSpool as SpoolReads}
use Rattle.sg_spool.specs.View.{View}
use Rattle.sg_spool.specs.declared.answers.RewriteRefusal.{RewriteRefusal}
use Rattle.sg_spool.specs.declared.answers.RewriteRefusal.TheVariants.{DiskFault, NoMemory}
use Rattle.sg_spool.specs.declared.rows.Rows.{Rows}
use Rattle.sg_buffer.specs.Entries.{AreKept}
use Rattle.sg_buffer.specs.First.{AreFirstMessages, AreFirstKept, ReadReason}
use Rattle.sg_machine.specs.Runs.{BufferedEntry}
use Rattle.sg_stores.specs.Reading.{StoreStays}
use Rattle.sg_stores.specs.Stores.{BufferState, HoldsEntries, coded, buffer_state}
use Rattle.sg_stores.proofs.StoreLemmas.{goes_open, goes_closed}

messages-coded : (n : ℕ) (list : List BufferedEntry) → map (λ (k : Coded). k.message) (take n (map coded list)) ≡ map (λ (k : BufferedEntry). k.message) (take n list)
messages-coded zero list = refl
messages-coded (suc n) [] = refl
messages-coded (suc n) (k ∷ list) = ap (λ (l : List Content). k.message ∷ l) (messages-coded n list)

abbrev pub FirstMessagesAreKept : Type 0
FirstMessagesAreKept = (disk : DiskState) (n : ℕ) (messages : List Content) → AreFirstMessages disk n messages → AreFirstKept disk n messages

-- they are those of the list
pub messages-first : FirstMessagesAreKept → {D : Type 0} (state : D → DiskState) (f : Bool) (view : View D) (n : ℕ) (messages : List Content)
    → AreFirstMessages (state view.disk) n messages
    → WhereTold (content (state view.disk)) (λ bytes. (list : List BufferedEntry) → HoldsEntries (buffer_state state f view) list [] → messages ≡ map (λ (k : BufferedEntry). k.message) (take n list))
messages-first kept state f view n messages reads bytes told list held =
    kept (state view.disk) n messages reads bytes told (map coded list) (subst (λ (l : List BufferedEntry). AreKept (map coded l)) (append-nil list) held.kept) (held.holds.images bytes (reads_as_image (state view.disk) bytes told)) ∙ messages-coded n list

abbrev buffer_of : ℕ → Rows → Option BufferState
buffer_of capacity rows = Some (record { capacity = capacity; rows = rows })

buffer-stays : {D : Type 0} (state : D → DiskState) (old new : View D) → SpoolReads state old new → buffer_of new.capacity new.rows ≡ buffer_of old.capacity old.rows
buffer-stays state old new reads = ap (λ (n : ℕ). buffer_of n new.rows) reads.lasts.capacity ∙ ap (buffer_of old.capacity) reads.rows

-- a read that leaves the spool open
pub stays-open : {D : Type 0} (state : D → DiskState) (f : Bool) (old new : View D) → SpoolReads state old new → new.closed ≡ false → StoreStays (buffer_state state f old) (buffer_state state f new)
stays-open state f old new reads open_ = record {
  position = refl;
  buffer = buffer-stays state old new reads;
  told = reads.told;
  goes = goes_open state f old new reads.lasts open_;
}

-- one that closes it
pub stays-closed : {D : Type 0} (state : D → DiskState) (f : Bool) (old new : View D) → SpoolReads state old new → old.closed ≡ false → new.closed ≡ true → StoreStays (buffer_state state f old) (buffer_state state true new)
stays-closed state f old new reads open_ closed = record {
  position = refl;
  buffer = buffer-stays state old new reads;
  told = reads.told;
  goes = goes_closed state f old new reads.lasts open_ closed;
}

pub fault-closed : (old new : DiskState) (closed : Bool) (e : RewriteRefusal) → e ≡ DiskFault → ReadReason old new closed e → closed ≡ true
fault-closed old new closed e is reason = (subst (ReadReason old new closed) is reason).1

pub memory-open : (old new : DiskState) (closed : Bool) (e : RewriteRefusal) → e ≡ NoMemory → ReadReason old new closed e → closed ≡ false
memory-open old new closed e is reason = subst (ReadReason old new closed) is reason
