-- A put, call by call.
use Rattle.std.proofs.Common.{◌≡◌, inl, ℕ, ◌+◌, ◌<◌, ◌≤◌, ◌^◌, List, [], ◌∷◌, length, ◌∙◌, arith, Option}
use Rattle.std.specs.Int.{to_be_bytes, w64}
use Rattle.sg_device.specs.DiskBytes.{Torn, Written}
use Rattle.sg_device.specs.Disk.{DiskState, content, IsImage, Changes, Elapses, Durable, Within, EachNow}
use Rattle.sg_device.proofs.Disks.{started, goes_on, durable_now, told_on}
use Rattle.sg_device.proofs.DiskCalls.{reads_as_image}
use Rattle.sg_device.proofs.Parts.{torn_of_written}
use Rattle.sg_stable.specs.Cell.{word, slot, HasCell, SameOutside, PutsValue}
use Rattle.sg_stable.proofs.Cells.{slot_torn, slot_written, selector_torn, selector_written, slot_keeps, selector_keeps, outside_refl, outside_trans, value_of}

-- the selector s and the value v stand in the cell; t and w are put
module _ (s t v w : ℕ) (other : slot t + slot s ≡ 48) (fits : w < 2 ^ 64) (d0 : DiskState) (start : EachNow d0 (HasCell s v)) where
  abbrev P : List ℕ → Type 0
  P c = PutsValue (IsImage d0) v w c

  -- while the slot is written
  pub record Writing (c : List ℕ) : Type 0 where
    pub was : List ℕ
    pub before : IsImage d0 was
    pub outside : SameOutside was c
    pub cell : HasCell s v c

  -- when it is stable
  pub record StagedPut (c : List ℕ) : Type 0 where
    pub first : Writing c
    pub staged : word (slot t) c ≡ w

  at_start : (c : List ℕ) → IsImage d0 c → Writing c
  at_start c left = record { was = c; before = left; outside = outside_refl c; cell = start c left }

  writing_puts : (c : List ℕ) → Writing c → P c
  writing_puts c first = record { before = first.was; was = first.before; outside = first.outside; value = inl (value_of s v c first.cell) }

  goes_writing : (d c : List ℕ) → Writing d → Torn (slot t) 8 d c → Writing c
  goes_writing d c first torn =
      let step = slot_torn s t v w other d c first.cell torn in
      record { was = first.was; before = first.before; outside = outside_trans first.was d c first.outside step.1; cell = step.0 }

  goes_staged : (a b : List ℕ) → Writing a → Written (slot t) (to_be_bytes w64 w) a b → StagedPut b
  goes_staged a b first put =
      let step = slot_written s t v w other a b fits first.cell put in
      record { first = record { was = first.was; before = first.before; outside = outside_trans first.was a b first.outside step.0.1; cell = step.0.0 }; staged = step.1 }

  module _ (d1 : DiskState) (images1 : Elapses (Torn (slot t) 8) d0 d1) where
    pub within1 : Within d0 d1 P
    within1 = goes_on d0 d0 d1 P Writing (started d0 P (λ c left. writing_puts c (at_start c left))) images1 at_start (λ d c first torn. writing_puts c (goes_writing d c first torn))

    module _ (written1 : Changes (Written (slot t) (to_be_bytes w64 w)) (content d0) (content d1)) (durable1 : Durable d1) where
      now1 : EachNow d1 StagedPut
      now1 = durable_now d1 StagedPut durable1 (told_on Writing StagedPut written1 (λ b told. at_start b (reads_as_image d0 b told)) goes_staged)

      module _ (d2 : DiskState) (images2 : Elapses (Torn 0 1) d1 d2) where
        pub within2 : Within d0 d2 P
        within2 = goes_on d0 d1 d2 P StagedPut within1 images2 now1 (λ d c at_d torn.
            let step = selector_torn s t v w other d c at_d.first.cell at_d.staged torn in
            record { before = at_d.first.was; was = at_d.first.before; outside = outside_trans at_d.first.was d c at_d.first.outside step.0; value = step.1 })

        pub now2 : Changes (Written 0 (t ∷ [])) (content d1) (content d2) → Durable d2 → EachNow d2 (HasCell t w)
        now2 written2 durable2 = durable_now d2 (HasCell t w) durable2 (told_on StagedPut (HasCell t w) written2 (λ b told. now1 b (reads_as_image d1 b told)) (λ a b at_a put. (selector_written s t v w other a b at_a.first.cell at_a.staged put).0))

  -- what is told keeps all bytes outside the cell
  pub outside2 : {mid new : Option (List ℕ)} → Changes (Written (slot t) (to_be_bytes w64 w)) (content d0) mid → Changes (Written 0 (t ∷ [])) mid new → Changes SameOutside (content d0) new
  outside2 first second = record {
    back = λ c is.
        let b = second.back c is in
        let a = first.back b.0 b.1 in
        let long : 40 ≤ length a.0 = (start a.0 (reads_as_image d0 a.0 a.1)).size in
        let one = slot_keeps t a.0 b.0 long (torn_of_written (slot t) (to_be_bytes w64 w) a.0 b.0 a.2) in
        (a.0, a.1, outside_trans a.0 b.0 c one (selector_keeps b.0 c (omega (arith, long, one.size)) (torn_of_written 0 (t ∷ []) b.0 c b.2)));
    tells = second.tells ∙ first.tells;
  }
