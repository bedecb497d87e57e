-- Walks over the entries of a store.
use Rattle.std.proofs.Common.{◌≡◌, ◌∙◌, ◌≤◌, ◌<◌, ◌∷◌, ◌++◌, [], ℕ, zero, suc, List, length, take, drop, ap, subst, sym, arith, Some, length-drop}
use Rattle.sg_device.specs.Disk.{DiskState, WhereTold, content}
use Rattle.sg_device.specs.Frames.{joined}
use Rattle.sg_device.proofs.DiskCalls.{content_same}
use Rattle.sg_spool.specs.Places.{Remains}
use Rattle.sg_spool.specs.Ring.{Entries}
use Rattle.sg_spool.specs.declared.places.Places.{Places}
use Rattle.sg_spool.specs.declared.rows.Rows.{Rows}
use Rattle.sg_overflow.specs.Payload.{untagged, frames_in}

abbrev pub Texts : Type 0
Texts = List (List ℕ)

-- from this gate on a payload is left, and the others from the next gate on
abbrev pub GoesOn : DiskState → Places → ℕ → List ℕ → ℕ → Type 0
GoesOn disk places gate payload next = WhereTold (content disk) (λ b. (left : Entries) → Remains b places.jump gate left places.end → (rest : Entries) × (left ≡ payload ∷ rest) × Remains b places.jump next rest places.end)

-- the same of a disk that was only read since
pub goes_before : (d0 d1 : DiskState) (r0 r1 : Rows) (gate : ℕ) (payload : List ℕ) (next : ℕ) → d1.told ≡ d0.told → r1 ≡ r0 → GoesOn d1 r1.list gate payload next → GoesOn d0 r0.list gate payload next
goes_before d0 d1 r0 r1 gate payload next told rows goes = subst (λ (r : Rows). GoesOn d0 r.list gate payload next) rows (λ b is. goes b (content_same d0 d1 told ∙ is))

-- one payload more
pub take_next : (k : ℕ) (entries : Entries) (payload : List ℕ) (rest : Entries) → drop k entries ≡ payload ∷ rest → (take k entries ++ payload ∷ [] ≡ take (suc k) entries) × (drop (suc k) entries ≡ rest)
take_next zero [] payload rest is = absurd (let no : [] ≡ (payload ∷ rest) = is in cc)
take_next (suc k) [] payload rest is = absurd (let no : [] ≡ (payload ∷ rest) = is in cc)
take_next zero (e ∷ es) payload rest is =
    let both : (e ∷ es) ≡ (payload ∷ rest) = is in
    let first : payload ≡ e = cc in
    let others : es ≡ rest = cc in
    (ap (λ (p : List ℕ). p ∷ []) first, others)
take_next (suc k) (e ∷ es) payload rest is =
    let more = take_next k es payload rest is in
    (ap (λ (ps : Entries). e ∷ ps) more.0, more.1)

-- the frame of one payload more
pub frame_next : (k : ℕ) (entries : Entries) (payload : List ℕ) (rest : Entries) → drop k entries ≡ payload ∷ rest → take k (frames_in entries) ++ untagged payload ∷ [] ≡ take (suc k) (frames_in entries)
frame_next zero [] payload rest is = absurd (let no : [] ≡ (payload ∷ rest) = is in cc)
frame_next (suc k) [] payload rest is = absurd (let no : [] ≡ (payload ∷ rest) = is in cc)
frame_next zero (e ∷ es) payload rest is =
    let both : (e ∷ es) ≡ (payload ∷ rest) = is in
    let first : payload ≡ e = cc in
    ap (λ (p : List ℕ). untagged p ∷ []) first
frame_next (suc k) (e ∷ es) payload rest is = ap (λ (fs : Texts). untagged e ∷ fs) (frame_next k es payload rest is)

-- an entry is left before the last of those that are read
pub none_left : (turn n count : ℕ) (entries : Entries) → turn < n → n ≤ count → count ≡ length entries → drop turn entries ≡ [] → ⊥
none_left turn n count entries low enough counted none =
    let left = length-drop turn entries in
    let no : length (drop turn entries) ≡ 0 = ap length none in
    omega (arith, low, enough, counted, left, no)

-- none is left at the end of the list, by what the disk tells
pub ended : (d0 d1 : DiskState) (r0 r1 : Rows) (gate : ℕ) (b : List ℕ) (left : Entries) → d1.told ≡ d0.told → r1 ≡ r0 → content d0 ≡ Some b → Remains b r0.list.jump gate left r0.list.end
    → ((b : List ℕ) → content d1 ≡ Some b → (es : Entries) → Remains b r1.list.jump gate es r1.list.end → es ≡ []) → left ≡ []
ended d0 d1 r0 r1 gate b left told rows is remains none =
    none b (content_same d0 d1 told ∙ is) left (subst (λ (r : Rows). Remains b r.list.jump gate left r.list.end) (sym rows) remains)

-- frames with bytes are some
pub some_bytes : (frames : Texts) → 1 ≤ length (joined frames) → 1 ≤ length frames
some_bytes [] some = absurd (omega (arith, some))
some_bytes (f ∷ fs) some = omega arith
