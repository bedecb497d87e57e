-- What is held at an opening, and with one frame more.
use Rattle.std.proofs.Common.{◌≡◌, ◌≤◌, ℕ, ◌+◌, ◌^◌, List, [], ◌∷◌, ◌++◌, length, refl, sym, ◌∙◌, ap, subst, arith, Bool, true, false, Ok, Err}
use Rattle.std.specs.Prelude.{Result, OnOk, OnErr}
use Rattle.sg_device.specs.Disk.{DiskState, content, WhereTold}
use Rattle.sg_spool.specs.View.{View as Store}
use Rattle.sg_overflow.specs.Held.{HasHeldRoom}
use Rattle.sg_overflow.specs.Listing.{entries_in}
use Rattle.sg_overflow.specs.Memory.{size_of}
use Rattle.sg_overflow.specs.View.{Held, IsHeldSound, IsStored}
use Rattle.sg_overflow.specs.declared.answers.Limits.{Limits}
use Rattle.sg_overflow.proofs.Listings.{entries_are}
use Rattle.sg_overflow.proofs.Sizes.{size_append}
use Rattle.sg_overflow.proofs.Works.{list_now}

pub new_sound : {D : Type 0} (disk : D → DiskState) (spool : Store D) (limits : Limits) (memory : List (List ℕ)) (n : ℕ) → spool.closed ≡ false → spool.rows.staged ≡ 0 → spool.capacity ≡ limits.capacity → limits.capacity ≤ 2 ^ 30
    → WhereTold (content (disk spool.disk)) (λ bytes. IsStored disk spool spool.rows.count) → memory ≡ [] → n ≡ spool.rows.count
    → IsHeldSound disk false (record { store = spool; memory = memory; limits = limits; stored = n; behind = false })
new_sound disk spool limits memory n opened unstaged limit small list none number = record {
  closed = opened;
  unstaged = unstaged;
  counted = λ works. sym number;
  front = λ works. refl;
  stored = λ works b told. subst (λ (k : ℕ). IsStored disk spool k) (sym number) (list b told);
  enough = λ b told. (
      let s = list b told in
      let same : length (entries_in b) ≡ length s.list = ap length (entries_are s.list b (list_now disk spool spool.rows.count s b told)) in
      omega (arith, same, s.number, number));
  blamed = λ is. absurd (let no : false ≡ true = is in cc);
  limit = limit;
  small = small;
  fits = let size : size_of memory ≡ 0 = ap size_of none in omega (arith, size);
}

pub push_sound : {D T E : Type 0} (disk : D → DiskState) (failed : Bool) (held : Held D) (frame : List ℕ) (new : List (List ℕ)) (result : Result T E) → IsHeldSound disk failed held → HasHeldRoom held (length frame + 6)
    → OnOk result (new ≡ held.memory ++ frame ∷ []) → OnErr result (new ≡ held.memory) → IsHeldSound disk failed (record held { memory = new })
push_sound disk failed held frame new (Ok done) sound room ok err = record {
  closed = sound.closed;
  unstaged = sound.unstaged;
  counted = sound.counted;
  front = sound.front;
  stored = sound.stored;
  enough = sound.enough;
  blamed = sound.blamed;
  limit = sound.limit;
  small = sound.small;
  fits = let size = ap size_of ok ∙ size_append held.memory (frame ∷ []) in omega (arith, size, room);
}
push_sound disk failed held frame new (Err e) sound room ok err = subst (λ (m : List (List ℕ)). IsHeldSound disk failed (record held { memory = m })) (sym err) sound
