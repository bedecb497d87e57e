-- What the inlet of a file that is told gave, stands in that file from where reading began on.
use Rattle.std.proofs.Common.{◌≡◌, ℕ, ◌≤◌, List, [], ◌∷◌, ◌++◌, length, drop, Some, None, Option, Bool, true, false, refl, sym, ap, ◌∙◌, subst, arith}
use Rattle.std.specs.Prelude.{max, is_some, IfSome}
use Rattle.std.specs.Option.{option_map}
use Rattle.std.proofs.lemmas.List.{append-nil}
use Rattle.sg_list.proofs.ListLemmas.{some-same}
use Rattle.sg_device.specs.Inlet.{InletState, Part, IsFresh, ArePartsCounted, Advances, bytes_of, empty_parts}
use Rattle.sg_outside.specs.World.{Files, LeavesFile, StandsIn}
use Rattle.sg_outside.specs.declared.request.InletSpec.{InletSpec}
use Rattle.sg_outside.specs.declared.request.InletSpec.TheVariants.{File, Slot}
use Rattle.sg_frame.specs.Scans.{plain}
use Rattle.sg_serve.specs.Devices.{inlet_asked}
use Rattle.sg_laws.specs.Happened.{IsOfFile, AreBytesOf}

-- all that the inlet gave is one part, which the file of these bytes has from the inlet's place on; the others are left
pub record Gave (bytes : List ℕ) (closed : InletState) : Type 0 where
  pub part : Part
  pub told : closed.told ≡ Some (part ∷ [])
  pub left : List ℕ
  pub left_is : closed.left ≡ Some left
  pub are : plain part.given ++ left ≡ drop closed.from bytes

some-told : (o : Option (List Part)) → is_some o ≡ true → (parts : List Part) × (o ≡ Some parts)
some-told None h = absurd (let wrong : false ≡ true = h in cc)
some-told (Some parts) h = (parts, refl)

-- what was told at first is one part of nothing
fresh-parts : (feed : InletState) (parts : List Part) → IsFresh feed → feed.parts ≡ 1 → feed.told ≡ Some parts → parts ≡ (record { peer = feed.peer; given = [] }) ∷ []
fresh-parts feed parts fresh one told =
    let P : Option (List Part) → Type 0 = λ o. IfSome o (λ ps. ps ≡ empty_parts feed.parts feed.peer) in
    let are : parts ≡ empty_parts feed.parts feed.peer = subst P told fresh.told in
    are ∙ ap (λ (n : ℕ). empty_parts n feed.peer) one

fresh-counted : (feed : InletState) (parts : List Part) → IsFresh feed → feed.parts ≡ 1 → feed.told ≡ Some parts → ArePartsCounted feed
fresh-counted feed parts fresh one told =
    let P : Option (List Part) → Type 0 = λ o. IfSome o (λ ps. length ps ≡ feed.parts) in
    let count : length parts ≡ feed.parts = ap length (fresh-parts feed parts fresh one told) ∙ sym one in
    subst P (sym told) count

-- the bytes told since
since-told : (feed closed : InletState) (parts : List Part) (given : List ℕ) (o : Option (List Part)) → feed.told ≡ Some parts → closed.told ≡ o → option_map bytes_of closed.told ≡ option_map (λ ps. bytes_of ps ++ given) feed.told
    → (now : List Part) × ((closed.told ≡ Some now) × (bytes_of now ≡ bytes_of parts ++ given))
since-told feed closed parts given None told q h =
    let F : Option (List Part) → Option (List ℕ) = λ x. option_map (λ ps. bytes_of ps ++ given) x in
    let G : Option (List Part) → Option (List ℕ) = λ x. option_map bytes_of x in
    absurd (let wrong : None ≡ Some (bytes_of parts ++ given) = sym (ap G q) ∙ h ∙ ap F told in cc)
since-told feed closed parts given (Some now) told q h =
    let F : Option (List Part) → Option (List ℕ) = λ x. option_map (λ ps. bytes_of ps ++ given) x in
    let G : Option (List Part) → Option (List ℕ) = λ x. option_map bytes_of x in
    (now, (q, some-same (bytes_of now) (bytes_of parts ++ given) (sym (ap G q) ∙ h ∙ ap F told)))

one-part : (parts : List Part) → length parts ≡ 1 → (part : Part) × (parts ≡ part ∷ [])
one-part [] h = absurd (omega (arith, h))
one-part (p ∷ []) h = (p, refl)
one-part (p ∷ q ∷ ps) h = absurd (omega (arith, h))

-- the bytes left
since-left : (left given : List ℕ) (o : Option (List ℕ)) → Some left ≡ option_map (λ rest. given ++ rest) o → (rest : List ℕ) × ((o ≡ Some rest) × (given ++ rest ≡ left))
since-left left given None h = absurd (let wrong : Some left ≡ None = h in cc)
since-left left given (Some rest) h = (rest, (refl, sym (some-same left (given ++ rest) h)))

-- where the inlet was opened, its file had these bytes from there on
leaves-bytes : (files : Files) (path : List ℕ) (end : Bool) (limit from : ℕ) (feed : InletState) (bytes : List ℕ) → LeavesFile (Some files) path limit from feed → AreBytesOf files (File path end limit) bytes → feed.left ≡ Some (drop feed.place bytes)
leaves-bytes files path end limit from feed bytes h are =
    let P : Option (List ℕ) → Type 0 = λ o. IfSome o (λ held. held ≡ bytes) in
    let same : h.0 ≡ bytes = subst P h.1.0 are in
    h.1.1.1
    ∙ ap (λ (n : ℕ). Some (drop n h.0)) (sym h.1.1.0)
    ∙ ap (λ (b : List ℕ). Some (drop feed.place b)) same

-- one part that goes on
gave-on : (feed closed : InletState) (bytes : List ℕ) → IsFresh feed → feed.parts ≡ 1 → feed.single ≡ true → is_some feed.told ≡ true → feed.left ≡ Some (drop feed.place bytes) → Advances feed closed → Gave bytes closed
gave-on feed closed bytes fresh one single tells left a =
    let t = some-told feed.told tells in
    let first = fresh-parts feed t.0 fresh one t.1 in
    let now = since-told feed closed t.0 a.given closed.told t.1 refl a.bytes_told in
    let P : Option (List Part) → Type 0 = λ o. IfSome o (λ ps. length ps ≡ closed.parts) in
    let count : length now.0 ≡ closed.parts = subst P now.1.0 (a.parts_told (fresh-counted feed t.0 fresh one t.1)) in
    let M : ℕ → Type 0 = λ n. closed.parts ≤ max n 1 in
    let most : closed.parts ≤ 1 = subst M one (a.one single) in
    let least = a.parts in
    let part = one-part now.0 (omega (arith, count, most, least, one)) in
    let given : plain (part.0).given ≡ a.given =
    sym (append-nil (plain (part.0).given))
    ∙ ap bytes_of (sym part.1)
    ∙ now.1.1
    ∙ ap (λ (ps : List Part). bytes_of ps ++ a.given) first in
    let rest = since-left (drop feed.place bytes) a.given closed.left (sym left ∙ a.left) in
    let from : closed.from ≡ feed.place = a.from ∙ sym fresh.at_from in
    record {
      part = part.0;
      told = now.1.0 ∙ ap (λ (ps : List Part). Some ps) part.1;
      left = rest.0;
      left_is = rest.1.0;
      are = ap (λ (xs : List ℕ). xs ++ rest.0) given ∙ rest.1.1 ∙ ap (λ (n : ℕ). drop n bytes) (sym from);
    }

gave-spec : (files : Files) (once : Bool) (spec : InletSpec) (position : ℕ) (feed closed : InletState) (bytes : List ℕ) → IsOfFile spec → AreBytesOf files spec bytes → StandsIn (Some files) (inlet_asked once spec) position feed → IsFresh feed
    → is_some feed.told ≡ true → Advances feed closed → Gave bytes closed
gave-spec files once (File path end limit) position feed closed bytes is are stands fresh tells a =
    gave-on feed closed bytes fresh stands.1 stands.2 tells (leaves-bytes files path end limit position feed bytes stands.0 are) a
gave-spec files once (Slot ip port slot end) position feed closed bytes is are stands fresh tells a = absurd is

pub gave-file : (told : Option Files) (files : Files) (once : Bool) (spec : InletSpec) (position : ℕ) (feed closed : InletState) (bytes : List ℕ) → told ≡ Some files → IsOfFile spec → AreBytesOf files spec bytes
    → StandsIn told (inlet_asked once spec) position feed → IsFresh feed → is_some feed.told ≡ true → Advances feed closed → Gave bytes closed
gave-file told files once spec position feed closed bytes q is are stands fresh tells a =
    let P : Option Files → Type 0 = λ o. StandsIn o (inlet_asked once spec) position feed in
    gave-spec files once spec position feed closed bytes is are (subst P q stands) fresh tells a
