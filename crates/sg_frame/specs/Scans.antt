-- What stands at the front of the bytes kept, as a scan finds it.
use Rattle.std.specs.Prelude.{◌≡◌, ℕ, pos, ◌+◌, ◌<◌, ◌≤◌, List, [], ◌∷◌, ◌++◌, length, drop, map, slice_index_or, slice_range}
use Rattle.sg_device.specs.Inlet.{Stamped}
use Rattle.sg_frame.specs.declared.kind.FrameKind.{FrameKind}
use Rattle.sg_frame.specs.declared.kind.FrameKind.TheVariants.{Counted}
use Rattle.sg_frame.specs.declared.scan.ItemSpan.{ItemSpan}
use Rattle.sg_frame.specs.declared.scan.Seen.{Seen}
use Rattle.sg_frame.specs.declared.scan.Seen.TheVariants.{Whole, Open, Bad}
use Rattle.sg_frame.specs.declared.scan.Count.{Count}
use Rattle.sg_frame.specs.declared.scan.Count.TheVariants.{Read, Open as CountOpen, Bad as CountBad}
use Rattle.sg_frame.specs.Kept.{IsScanned}
use Rattle.sg_frame.specs.Items.{Item, Form, Body, Bad as BadForm, IsSoundForm, beginning, items, open_after}

abbrev pub plain : List Stamped → List ℕ
plain bytes = map (λ b. b.0) bytes

-- the items and the open form of `held` are those of what follows its first bytes, behind this form
pub record Continues (kind : FrameKind) (limit place : ℕ) (held : List Stamped) (first : List Item)
    (next : ℕ) (form : Form) (rest : List Stamped) : Type 0 where
  pub items : items limit place (beginning kind) held ≡ first ++ items limit next form rest
  pub still_open : open_after limit place (beginning kind) held ≡ open_after limit next form rest

-- whatever their moments and place, so many of these bytes are no item, and leave this form open
abbrev pub ReachesForm : FrameKind → (limit : ℕ) → List ℕ → (count : ℕ) → Form → Type 0
ReachesForm kind limit bytes count form =
    (place : ℕ) (held : List Stamped) → plain held ≡ bytes
    → Continues kind limit place held [] (place + count) form (drop count held)

-- a span of these bytes is their first item
pub record IsItem (kind : FrameKind) (limit : ℕ) (bytes : List ℕ) (span : ItemSpan) : Type 0 where
  pub from : span.from ≤ span.to
  pub to : span.to ≤ span.taken
  pub last : span.last < length bytes
  pub some : 0 < span.taken
  pub taken : (span.last ≤ span.taken) × (span.taken ≤ length bytes)
  pub first : (place : ℕ) (held : List Stamped) → plain held ≡ bytes
      → Continues kind limit place held
      ((record {
        text = slice_range bytes span.from span.to;
        at =
            (slice_index_or held span.last (0, pos 0)).1;
        end = place + span.taken;
      })
      ∷ [])
      (place + span.taken) (beginning kind) (drop span.taken held)

-- whatever their moments and place, these bytes have no whole item, and no bad byte
abbrev pub HasNone : FrameKind → (limit : ℕ) → List ℕ → Type 0
HasNone kind limit bytes =
    (place : ℕ) (held : List Stamped) → plain held ≡ bytes
    → (items limit place (beginning kind) held ≡ [])
    × IsSoundForm (open_after limit place (beginning kind) held)

-- they have no whole item, and the byte so far ahead is bad
abbrev pub HasBad : FrameKind → (limit : ℕ) → List ℕ → ℕ → Type 0
HasBad kind limit bytes ahead =
    (ahead < length bytes) × ((place : ℕ) (held : List Stamped) → plain held ≡ bytes
    → (items limit place (beginning kind) held ≡ [])
    × (open_after limit place (beginning kind) held ≡ BadForm (place + ahead)))

abbrev pub Sees : FrameKind → (limit : ℕ) → List ℕ → Seen → Type 0
Sees kind limit bytes (Whole span) = IsItem kind limit bytes span
Sees kind limit bytes (Open scanned) = HasNone kind limit bytes × IsScanned limit bytes scanned
Sees kind limit bytes (Bad ahead) = HasBad kind limit bytes ahead

-- a count of at least 1 was read, and the text begins behind its space
pub record HasCount (limit : ℕ) (bytes : List ℕ) (count from : ℕ) : Type 0 where
  pub some : 0 < count
  pub most : count ≤ limit
  pub within : from ≤ length bytes
  pub reaches : ReachesForm Counted limit bytes from (Body count [])

abbrev pub ReadsCount : (limit : ℕ) → List ℕ → Count → Type 0
ReadsCount limit bytes (Read count from) = HasCount limit bytes count from
ReadsCount limit bytes CountOpen = HasNone Counted limit bytes
ReadsCount limit bytes (CountBad ahead) = HasBad Counted limit bytes ahead
