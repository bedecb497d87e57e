-- The frames of a send.
use Rattle.std.proofs.Common.{arith, zero, suc, ◌≡◌, ◌≤◌, ◌<◌, ◌+◌, ◌-◌, ℕ, Bool, true, false, List, [], ◌∷◌, ◌++◌, length, take, drop, get_or, refl, ap, sym, ◌∙◌, append_assoc, length-append}
use Rattle.std.proofs.lemmas.List.{length-map, length-take}
use Rattle.std.proofs.lemmas.Bool.Decides.{nat_tests}
use Rattle.std.specs.Prelude.{nat_le, if◌then◌else◌}
use Rattle.sg_device.specs.Frames.{cut, total}
use Rattle.sg_device.proofs.FrameLemmas.{cut-append, total-append}
use Rattle.sg_msg.specs.Message.{Content}
use Rattle.sg_actor.specs.Rendering.{frame_by, frames_by, most_bytes, most_entries, until, sent_of}
use Rattle.sg_actor.specs.declared.rendering.DestSpec.{DestSpec}

next-of : (xs : List Content) (i : ℕ) (m : Content) → i < length xs → m ≡ get_or xs i m → drop i xs ≡ m ∷ drop (i + 1) xs
next-of [] i m below is = absurd (omega arith)
next-of (x ∷ xs) zero m below is = ap (λ y. y ∷ xs) (sym is)
next-of (x ∷ xs) (suc i) m below is =
    let same : suc i + 1 ≡ suc (i + 1) = omega arith in
    next-of xs i m (omega arith) is ∙ ap (λ n. m ∷ drop n (x ∷ xs)) (sym same)

le-yes : (a b : ℕ) → a ≤ b → nat_le a b ≡ true
le-yes a b h = grind (arith, nat_tests)

le-no : (a b : ℕ) → b < a → nat_le a b ≡ false
le-no a b h = grind (arith, nat_tests)

until-stop : (left : ℕ) (f : List ℕ) (fs : List (List ℕ)) → left ≤ length f → until left (f ∷ fs) ≡ f ∷ []
until-stop left f fs h = rw (le-yes left (length f) h) refl

until-on : (left : ℕ) (f : List ℕ) (fs : List (List ℕ)) → length f < left → until left (f ∷ fs) ≡ f ∷ until (left - length f) fs
until-on left f fs h = rw (le-no left (length f) h) refl

-- One frame more.

pub whole-more : (sizes sizes' bytes bytes' frame : List ℕ) → total sizes ≡ length bytes → bytes' ≡ bytes ++ frame → sizes' ≡ sizes ++ length frame ∷ [] → total sizes' ≡ length bytes'
whole-more sizes sizes' bytes bytes' frame whole b s =
    let t : total sizes' ≡ total sizes + length frame = ap total s ∙ total-append sizes (length frame) in
    let n : length bytes' ≡ length bytes + length frame = ap length b ∙ length-append bytes frame in
    omega arith

cut-more : (sizes sizes' bytes bytes' frame : List ℕ) → total sizes ≡ length bytes → bytes' ≡ bytes ++ frame → sizes' ≡ sizes ++ length frame ∷ [] → cut sizes' bytes' ≡ cut sizes bytes ++ frame ∷ []
cut-more sizes sizes' bytes bytes' frame whole b s = ap (λ z. cut z bytes') s ∙ ap (λ z. cut (sizes ++ length frame ∷ []) z) b ∙ cut-append sizes bytes frame whole

pub stops : (spec : DestSpec) (messages : List Content) (i most : ℕ) (m : Content) (sizes sizes' bytes bytes' : List ℕ) (all : List (List ℕ)) → i < length messages → m ≡ get_or messages i m → total sizes ≡ length bytes
    → length bytes < most → most ≤ length bytes' → bytes' ≡ bytes ++ frame_by spec m → sizes' ≡ sizes ++ length (frame_by spec m) ∷ []
    → all ≡ cut sizes bytes ++ until (most - length bytes) (frames_by spec (drop i messages)) → cut sizes' bytes' ≡ all
stops spec messages i most m sizes sizes' bytes bytes' all below is whole under enough b s so =
    let f : List ℕ = frame_by spec m in
    let n : length bytes' ≡ length bytes + length f = ap length b ∙ length-append bytes f in
    cut-more sizes sizes' bytes bytes' f whole b s
    ∙ ap (λ z. cut sizes bytes ++ z) (sym (until-stop (most - length bytes) f (frames_by spec (drop (i + 1) messages)) (omega arith)))
    ∙ ap (λ ms. cut sizes bytes ++ until (most - length bytes) (frames_by spec ms)) (sym (next-of messages i m below is))
    ∙ sym so

pub goes-on : (spec : DestSpec) (messages : List Content) (i most : ℕ) (m : Content) (sizes sizes' bytes bytes' : List ℕ) (all : List (List ℕ)) → i < length messages → m ≡ get_or messages i m → total sizes ≡ length bytes
    → length bytes' < most → bytes' ≡ bytes ++ frame_by spec m → sizes' ≡ sizes ++ length (frame_by spec m) ∷ []
    → all ≡ cut sizes bytes ++ until (most - length bytes) (frames_by spec (drop i messages)) → all ≡ cut sizes' bytes' ++ until (most - length bytes') (frames_by spec (drop (i + 1) messages))
goes-on spec messages i most m sizes sizes' bytes bytes' all below is whole under b s so =
    let f : List ℕ = frame_by spec m in
    let rest : List (List ℕ) = frames_by spec (drop (i + 1) messages) in
    let n : length bytes' ≡ length bytes + length f = ap length b ∙ length-append bytes f in
    let left : most - length bytes - length f ≡ most - length bytes' = omega arith in
    so ∙ ap (λ ms. cut sizes bytes ++ until (most - length bytes) (frames_by spec ms)) (next-of messages i m below is)
    ∙ ap (λ z. cut sizes bytes ++ z) (until-on (most - length bytes) f rest (omega arith))
    ∙ ap (λ k. cut sizes bytes ++ (f ∷ until k rest)) left
    ∙ sym (append_assoc (cut sizes bytes) (f ∷ []) (until (most - length bytes') rest))
    ∙ ap (λ z. z ++ until (most - length bytes') rest) (sym (cut-more sizes sizes' bytes bytes' f whole b s))

-- How many frames are sent.

few-by : (b : Bool) (f : List ℕ) (rest fs : List (List ℕ)) → length rest ≤ length fs → length (f ∷ (if b then [] else rest)) ≤ length (f ∷ fs)
few-by true f rest fs h = omega arith
few-by false f rest fs h = omega arith

pub until-few : (left : ℕ) (fs : List (List ℕ)) → length (until left fs) ≤ length fs
until-few left [] = omega arith
until-few left (f ∷ fs) = few-by (nat_le left (length f)) f (until (left - length f) fs) fs (until-few (left - length f) fs)

pub sent-few : (spec : DestSpec) (messages : List Content) → length (sent_of spec messages) ≤ most_entries
sent-few spec messages = omega (arith, until-few most_bytes (frames_by spec (take most_entries messages)), length-map (take most_entries messages) (frame_by spec), length-take most_entries messages)

absurd-cons : {x : List ℕ} {xs : List (List ℕ)} → x ∷ xs ≡ [] → ⊥
absurd-cons h = cc h

pub sent-some : (spec : DestSpec) (messages : List Content) → (messages ≡ [] → ⊥) → sent_of spec messages ≡ [] → ⊥
sent-some spec [] some none = some refl
sent-some spec (m ∷ ms) some none = absurd-cons none

-- The first of them are those of the first messages.

first-by : (b : Bool) (k : ℕ) (rest fs : List (List ℕ)) → (k ≤ length rest → take k rest ≡ take k fs) → k ≤ length (if b then [] else rest) → take k (if b then [] else rest) ≡ take k fs
first-by true zero rest fs h few = refl
first-by true (suc k) rest fs h few = absurd (omega arith)
first-by false k rest fs h few = h few

until-first : (left k : ℕ) (fs : List (List ℕ)) → k ≤ length (until left fs) → take k (until left fs) ≡ take k fs
until-first left k [] few = refl
until-first left zero (f ∷ fs) few = refl
until-first left (suc k) (f ∷ fs) few =
    ap (λ r. f ∷ r) (first-by (nat_le left (length f)) k (until (left - length f) fs) fs (until-first (left - length f) k fs) (omega arith))

map-first : (spec : DestSpec) (k n : ℕ) (messages : List Content) → k ≤ n → take k (frames_by spec (take n messages)) ≡ take k (frames_by spec messages)
map-first spec zero n messages few = refl
map-first spec (suc k) zero messages few = absurd (omega arith)
map-first spec (suc k) (suc n) [] few = refl
map-first spec (suc k) (suc n) (m ∷ ms) few = ap (λ r. frame_by spec m ∷ r) (map-first spec k n ms (omega arith))

pub sent-first : (spec : DestSpec) (k : ℕ) (messages : List Content) → k ≤ length (sent_of spec messages) → take k (sent_of spec messages) ≡ take k (frames_by spec messages)
sent-first spec k messages few =
    until-first most_bytes k (frames_by spec (take most_entries messages)) few ∙ map-first spec k most_entries messages (omega (arith, sent-few spec messages))
