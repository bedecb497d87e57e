-- The first entries, read one by one.
use Rattle.std.proofs.Common.{◌≡◌, ◌∙◌, ◌≤◌, ◌<◌, ◌∷◌, ◌++◌, [], ℕ, zero, suc, List, length, map, take, drop, ap, subst, sym, refl, arith, Some, length-drop}
use Rattle.std.proofs.lemmas.List.{map-append}
use Rattle.std.specs.Prelude.{Ok, Err}
use Rattle.sg_device.specs.Disk.{DiskState, content}
use Rattle.sg_device.proofs.DiskCalls.{content_same}
use Rattle.sg_msg.specs.Message.{Content}
use Rattle.sg_codec.specs.declared.kept.Kept.{Kept}
use Rattle.sg_codec.specs.Reading.{reading}
use Rattle.sg_codec.specs.Spelling.{spelling2, IsSpellable}
use Rattle.sg_spool.specs.Places.{Remains}
use Rattle.sg_spool.specs.Ring.{Entries}
use Rattle.sg_spool.specs.declared.rows.Rows.{Rows}
use Rattle.sg_buffer.specs.Entries.{AreKept, spelled}
use Rattle.sg_buffer.specs.First.{AreFirstMessages, AreFirstKept, content_by, content_in, unread_content}

-- what a payload becomes, by what its reading says
pub content_read : (payload : List ℕ) (kept : Kept) → reading payload ≡ Ok kept → kept.message ≡ content_in payload
content_read payload kept is = sym (ap (content_by payload) is)

pub content_unread : (payload : List ℕ) (place : ℕ) (message : Content) → reading payload ≡ Err place → message ≡ unread_content payload → message ≡ content_in payload
content_unread payload place message is said = said ∙ sym (ap (content_by payload) is)

pub texts_more : (messages : List Content) (payloads : Entries) (message : Content) (payload : List ℕ) → messages ≡ map content_in payloads → message ≡ content_in payload
    → messages ++ message ∷ [] ≡ map content_in (payloads ++ payload ∷ [])
texts_more messages payloads message payload are is = ap (λ ms. ms ++ message ∷ []) are ∙ ap (λ m. map content_in payloads ++ m ∷ []) is ∙ sym (map-append content_in payloads (payload ∷ []))

-- one payload more
pub take_next : (k : ℕ) (entries : Entries) (payload : List ℕ) (rest : Entries) → drop k entries ≡ payload ∷ rest → (take k entries ++ payload ∷ [] ≡ take (suc k) entries) × (drop (suc k) entries ≡ rest)
take_next zero [] payload rest is = absurd (let no : [] ≡ (payload ∷ rest) = is in cc)
take_next (suc k) [] payload rest is = absurd (let no : [] ≡ (payload ∷ rest) = is in cc)
take_next zero (e ∷ es) payload rest is =
    let both : (e ∷ es) ≡ (payload ∷ rest) = is in
    let first : payload ≡ e = cc in
    let others : es ≡ rest = cc in
    (ap (λ (p : List ℕ). p ∷ []) first, others)
take_next (suc k) (e ∷ es) payload rest is =
    let more = take_next k es payload rest is in
    (ap (λ (ps : Entries). e ∷ ps) more.0, more.1)

-- an entry is left before the last of those that are read
pub none_left : (turn n count : ℕ) (entries : Entries) → turn < n → n ≤ count → count ≡ length entries → drop turn entries ≡ [] → ⊥
none_left turn n count entries low enough counted none =
    let left = length-drop turn entries in
    let no : length (drop turn entries) ≡ 0 = ap length none in
    omega (arith, low, enough, counted, left, no)

-- none is left at the end of the list, by what the disk tells
pub ended : (d0 d1 : DiskState) (r0 r1 : Rows) (gate : ℕ) (b : List ℕ) (left : Entries) → d1.told ≡ d0.told → r1 ≡ r0 → content d0 ≡ Some b → Remains b r0.list.jump gate left r0.list.end
    → ((b : List ℕ) → content d1 ≡ Some b → (es : Entries) → Remains b r1.list.jump gate es r1.list.end → es ≡ []) → left ≡ []
ended d0 d1 r0 r1 gate b left told rows is remains none =
    none b (content_same d0 d1 told ∙ is) left (subst (λ (r : Rows). Remains b r.list.jump gate left r.list.end) (sym rows) remains)

-- an entry is read from its spelling
abbrev pub SpellingsAreRead : Type 0
SpellingsAreRead = (kept : Kept) → IsSpellable kept → reading (spelling2 kept) ≡ Ok kept

contents_kept : SpellingsAreRead → (n : ℕ) (entries : List Kept) → AreKept entries → map content_in (take n (spelled entries)) ≡ map (λ kept. kept.message) (take n entries)
contents_kept again zero entries fits = refl
contents_kept again (suc n) [] fits = refl
contents_kept again (suc n) (kept ∷ entries) fits =
    ap (λ (m : Content). m ∷ map content_in (take n (spelled entries))) (sym (content_read (spelling2 kept) kept (again kept fits.0))) ∙ ap (λ (l : List Content). kept.message ∷ l) (contents_kept again n entries fits.1)

-- where the payloads spell entries the messages are those of the first of these
pub first_kept : SpellingsAreRead → (disk : DiskState) (n : ℕ) (messages : List Content) → AreFirstMessages disk n messages → AreFirstKept disk n messages
first_kept again disk n messages are bytes told entries fits list =
    are.each ∙ ap (λ (ps : Entries). map content_in ps) (are.first bytes told (spelled entries) list) ∙ contents_kept again n entries fits
