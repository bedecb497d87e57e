-- The first of the frames that are held are shown.
use Rattle.std.proofs.Common.{◌≡◌, ◌≤◌, ℕ, min, length, take, sym, ◌∙◌, ap, arith, false}
use Rattle.std.proofs.lemmas.List.{length-take, take_min, take-append-le}
use Rattle.sg_device.specs.Disk.{DiskState}
use Rattle.sg_spool.specs.View.{View as Store}
use Rattle.sg_overflow.specs.Held.{AreFirst, Shows}
use Rattle.sg_overflow.specs.Payload.{frames_in}
use Rattle.sg_overflow.specs.View.{Held, IsHeldSound}
use Rattle.sg_overflow.proofs.Drops.{memory_all}
use Rattle.sg_overflow.proofs.Works.{Texts, working, count_of, list_now}

-- the first of a list are as many of it as they are
first_is : (n : ℕ) (xs : Texts) → take n xs ≡ take (length (take n xs)) xs
first_is n xs = sym (ap (λ (k : ℕ). take k xs) (length-take n xs) ∙ take_min n xs)

-- of memory, where the store has none
pub shows_memory : {D : Type 0} (disk : D → DiskState) (held : Held D) (most : ℕ) (frames : Texts) → held.stored ≡ 0 → 1 ≤ most → frames ≡ take most held.memory
    → Shows disk held held frames
shows_memory disk held most frames none some is =
    let long : length frames ≡ min most (length held.memory) = ap length is ∙ length-take most held.memory in
    record {
      first = λ all told.
          is ∙ first_is most held.memory ∙ ap (λ (l : Texts). take (length l) held.memory) (sym is)
          ∙ ap (take (length frames)) (sym (memory_all disk held all none told));
      within = omega (arith, long);
      stored = λ any. absurd (omega (arith, any, none));
      some = λ any. omega (arith, any, none, long, some);
      works = λ any. absurd (omega (arith, any, none));
    }

-- of the store, while it works
pub shows_store : {D : Type 0} (disk : D → DiskState) (held : Held D) (new : Store D) (most : ℕ) (frames : Texts) → IsHeldSound disk false held → most ≡ min held.stored 100 → 1 ≤ held.stored
    → AreFirst (disk held.store.disk) frames → length frames ≤ most → (1 ≤ most → 1 ≤ length frames) → new.closed ≡ false
    → Shows disk held (record held { store = new }) frames
shows_store disk held new most frames sound limit any first few one works = record {
  first = λ all told. (
      let w = working disk held all sound told in
      let list = list_now disk held.store held.stored w.stored w.bytes w.told in
      let inside : length frames ≤ length (frames_in w.stored.list) = omega (arith, few, limit, w.stored.number, count_of w.stored.list) in
      first w.bytes w.told w.stored.list list
      ∙ sym (take-append-le (length frames) (frames_in w.stored.list) held.memory inside)
      ∙ ap (take (length frames)) (sym w.is));
  within = omega (arith, few, limit);
  stored = λ some. omega (arith, few, limit);
  some = λ some. one (omega (arith, limit, any));
  works = λ some. works;
}
