-- What is framed of bytes that were pulled has the moment of a pull.
use Rattle.sg_frame.specs.Timely.{AreTimely, IsTimely}
use Rattle.std.proofs.Common.{List, ◌∷◌, ◌++◌, [], ℕ, drop, suc, zero, Bool, false, true, if◌then◌else◌, length, ◌+◌, subst}
use Rattle.sg_device.specs.Inlet.{Stamped, stamped}
use Rattle.std.specs.Prelude.{ℤ, ◌==◌}
use Rattle.sg_frame.specs.Items.{Item, Bad, Body, Count, Form, Text, item_at, item_of, trimmed, items, open_at, beginning}
use Rattle.sg_frame.specs.Framing.{Framing, GivesItem}

pub timely-append : (xs ys : List Stamped) → AreTimely xs → AreTimely ys → AreTimely (xs ++ ys)
timely-append [] ys h k = k
timely-append (x ∷ xs) ys h k = (h.0, timely-append xs ys h.1 k)

pub timely-stamped : (xs : List ℕ) (at : ℤ) → IsTimely at → AreTimely (stamped xs at)
timely-stamped [] at h = tt
timely-stamped (x ∷ xs) at h = (h, timely-stamped xs at h)

pub timely-drop : (n : ℕ) (xs : List Stamped) → AreTimely xs → AreTimely (drop n xs)
timely-drop zero xs h = h
timely-drop (suc n) [] h = tt
timely-drop (suc n) (x ∷ xs) h = timely-drop n xs h.1

abbrev pub AllTimely : List Item → Type 0
AllTimely [] = Unit {0}
AllTimely (i ∷ is) = IsTimely i.at × AllTimely is

pub all-append : (xs ys : List Item) → AllTimely xs → AllTimely ys → AllTimely (xs ++ ys)
all-append [] ys h k = k
all-append (x ∷ xs) ys h k = (h.0, all-append xs ys h.1 k)

pub all-if : (c : Bool) (xs ys : List Item) → AllTimely xs → AllTimely ys → AllTimely (if c then xs else ys)
all-if true xs ys h k = h
all-if false xs ys h k = k

pub all-at : (limit place : ℕ) (form : Form) (b : Stamped) → IsTimely b.1 → AllTimely (item_at limit place form b)
all-at limit place (Text line) b h =
    all-if (b.0 == 10) (item_of (trimmed line) b.1 (place + 1)) (if length line == limit then item_of (trimmed line) b.1 place else []) (h, tt)
    (all-if (length line == limit) (item_of (trimmed line) b.1 place) [] (h, tt) tt)
all-at limit place (Count value) b h = tt
all-at limit place (Body missing text) b h = all-if (missing == 1) (item_of (text ++ b.0 ∷ []) b.1 (place + 1)) [] (h, tt) tt
all-at limit place (Bad bad) b h = tt

pub all-items : (limit place : ℕ) (form : Form) (bytes : List Stamped) → AreTimely bytes → AllTimely (items limit place form bytes)
all-items limit place form [] h = tt
all-items limit place form (b ∷ bytes) h =
    all-append (item_at limit place form b) (items limit (place + 1) (open_at limit place form b.0) bytes) (all-at limit place form b h.0)
    (all-items limit (place + 1) (open_at limit place form b.0) bytes h.1)

-- an item that was made whole by a pull has its moment
pub gives-timely : (f f' : Framing) (item : Item) → AreTimely f.held → GivesItem f f' item → IsTimely item.at
gives-timely f f' item h gives =
    let all = subst AllTimely gives.first (all-items f.limit f.place (beginning f.kind) f.held h) in
    all.0
