-- What a disk tells, before and behind calls.
use Rattle.std.proofs.Common.{◌≡◌, ◌≤◌, ℕ, List, refl, sym, arith, Option, Some, None}
use Rattle.std.specs.Prelude.{is_some}
use Rattle.std.specs.Option.{option_map}
use Rattle.sg_device.specs.Disk.{DiskState, content, clock, Moves, Within}
use Rattle.sg_device.proofs.Disks.{moves_refl, within_now}
use Rattle.sg_device.proofs.DiskCalls.{reads_as_image}
use Rattle.sg_spool.proofs.Whole.{told_at}
use Rattle.sg_overflow.proofs.Sizes.{some_is, none_some}

pub told_later : (d0 d1 : DiskState) → Moves d0 d1 → (b : List ℕ) → content d0 ≡ Some b → (c : List ℕ) × (content d1 ≡ Some c)
told_later d0 d1 moves b is =
    let now : clock d0 ≤ clock d0 = omega arith in
    told_at d1 d1 (moves_refl d1) (clock d0) b (moves.kept (clock d0) b now (reads_as_image d0 b is))

pub told_earlier : (d0 d1 : DiskState) → Moves d0 d1 → (c : List ℕ) → content d1 ≡ Some c → (b : List ℕ) × (content d0 ≡ Some b)
told_earlier d0 d1 moves c is = told_at d0 d1 moves (clock d1) c (reads_as_image d1 c is)

-- what a read gives at the end is an image
pub read_within : (d0 d1 : DiskState) (P : List ℕ → Type 0) → Within d0 d1 P → (c : List ℕ) → content d1 ≡ Some c → P c
read_within d0 d1 P within c is = within_now d0 d1 P within c (reads_as_image d1 c is)

some_both : {A : Type 0} (a b : Option A) → ((x : A) → a ≡ Some x → (y : A) × (b ≡ Some y)) → ((y : A) → b ≡ Some y → (x : A) × (a ≡ Some x)) → is_some b ≡ is_some a
some_both None None on back = refl
some_both None (Some y) on back = absurd (let x = back y refl in none_some x.0 x.1)
some_both (Some x) None on back = absurd (let y = on x refl in none_some y.0 y.1)
some_both (Some x) (Some y) on back = refl

pub tells_on : (d0 d1 : DiskState) → Moves d0 d1 → is_some (content d1) ≡ is_some (content d0)
tells_on d0 d1 moves = some_both (content d0) (content d1) (told_later d0 d1 moves) (told_earlier d0 d1 moves)

pub map_some : {A B : Type 0} (f : A → B) (o : Option A) → is_some (option_map f o) ≡ is_some o
map_some f None = refl
map_some f (Some a) = refl

-- a value that a function gives of what is told
pub mapped : {A B : Type 0} (f : A → B) (o : Option A) (b : B) → option_map f o ≡ Some b → (a : A) × (o ≡ Some a) × (b ≡ f a)
mapped f None b is = absurd (none_some b is)
mapped f (Some a) b is = (a, refl, sym (some_is (f a) b is))
