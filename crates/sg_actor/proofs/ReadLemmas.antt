-- What was read, where the inlet tells what it gave.
use Rattle.std.proofs.Common.{arith, ◌≡◌, ◌≤◌, ◌+◌, ℕ, Bool, true, false, List, [], ◌∷◌, ◌++◌, map, ap, sym, ◌∙◌, subst, append_assoc, Option, Some, None}
use Rattle.std.proofs.lemmas.List.{append-nil, map-append}
use Rattle.std.specs.Prelude.{IfSome}
use Rattle.std.specs.Option.{option_map}
use Rattle.sg_device.specs.Inlet.{Stamped, Part, with_bytes, with_part, empty_parts}
use Rattle.sg_frame.specs.declared.kind.FrameKind.{FrameKind}
use Rattle.sg_frame.specs.Items.{Item, items_of, open_of}
use Rattle.sg_frame.specs.Records.{Record, record_of, records}
use Rattle.sg_actor.specs.Reading.{earlier, last_given, HasPeer, one_if, bad_forms, bad_parts, AreItemsRead}
use Rattle.sg_actor.proofs.PartLemmas.{records-last, bad-last, earlier-with_bytes, last-with_bytes, peer-with_bytes, earlier-with_part, last-with_part, peer-with_part, empty-last, empty-earlier, empty-peer}

-- an item was taken
pub read-taken : (kind : FrameKind) (limit from : ℕ) (peer : List ℕ) (told : Option (List Part)) (up : Bool) (done : List Record) (ups : ℕ) (bytes : List Stamped) (given : List Item) (item : Item)
    → AreItemsRead kind limit from peer told up done ups bytes given → AreItemsRead kind limit from peer told up (done ++ record_of from peer item ∷ []) ups bytes (given ++ item ∷ [])
read-taken kind limit from peer None up done ups bytes given item read = tt
read-taken kind limit from peer (Some parts) up done ups bytes given item read = record {
  given = read.given;
  has_peer = read.has_peer;
  taken = ap (λ d. d ++ record_of from peer item ∷ []) read.taken
      ∙ append_assoc (records kind limit from (earlier parts)) (map (record_of from peer) given) (record_of from peer item ∷ [])
      ∙ ap (λ r. records kind limit from (earlier parts) ++ r) (sym (map-append (record_of from peer) given (item ∷ [])));
  given_up = read.given_up;
}

-- bytes were pulled
pub read-pulled : (kind : FrameKind) (limit from : ℕ) (peer : List ℕ) (told told' : Option (List Part)) (up : Bool) (done : List Record) (ups : ℕ) (bytes xs : List Stamped) (given : List Item)
    → AreItemsRead kind limit from peer told up done ups bytes given → told' ≡ option_map (λ parts. with_bytes parts peer xs) told
    → AreItemsRead kind limit from peer told' up done ups (bytes ++ xs) given
read-pulled kind limit from peer None told' up done ups bytes xs given read told-is = rw told-is tt
read-pulled kind limit from peer (Some parts) told' up done ups bytes xs given read told-is =
    rw told-is (record {
      given = ap (λ b. b ++ xs) read.given ∙ sym (last-with_bytes parts peer xs);
      has_peer = peer-with_bytes parts peer xs read.has_peer;
      taken = read.taken ∙ ap (λ p. records kind limit from p ++ map (record_of from peer) given) (sym (earlier-with_bytes parts peer xs));
      given_up = read.given_up ∙ ap (λ p. bad_parts kind limit p + one_if up) (sym (earlier-with_bytes parts peer xs));
    })

-- a part began: all items of those before it were taken, and where a bad count follows them the last one was given up
pub read-part : (kind : FrameKind) (limit from : ℕ) (peer peer' : List ℕ) (told told' : Option (List Part)) (up : Bool) (done : List Record) (ups : ℕ) (bytes : List Stamped) (given : List Item)
    → AreItemsRead kind limit from peer told up done ups bytes given → items_of kind limit bytes ≡ given → bad_forms (open_of kind limit bytes) ≡ one_if up
    → told' ≡ option_map (λ parts. with_part parts peer') told → AreItemsRead kind limit from peer' told' false done ups [] []
read-part kind limit from peer peer' None told' up done ups bytes given read are bad told-is = rw told-is tt
read-part kind limit from peer peer' (Some parts) told' up done ups bytes given read are bad told-is =
    let all : done ≡ records kind limit from parts =
    read.taken ∙ ap (λ i. records kind limit from (earlier parts) ++ map (record_of from peer) i) (sym are)
    ∙ ap (λ b. records kind limit from (earlier parts) ++ map (record_of from peer) (items_of kind limit b)) read.given
    ∙ sym (records-last kind limit from peer parts read.has_peer) in
    let last : bad_forms (open_of kind limit (last_given parts)) ≡ one_if up = ap (λ b. bad_forms (open_of kind limit b)) (sym read.given) ∙ bad in
    let each : bad_parts kind limit parts ≡ bad_parts kind limit (earlier parts) + bad_forms (open_of kind limit (last_given parts)) = bad-last kind limit parts in
    let ups-is : ups ≡ bad_parts kind limit (earlier parts) + one_if up = read.given_up in
    let same : bad_parts kind limit (earlier (with_part parts peer')) ≡ bad_parts kind limit parts = ap (λ p. bad_parts kind limit p) (earlier-with_part parts peer') in
    rw told-is (record {
      given = sym (last-with_part parts peer');
      has_peer = peer-with_part parts peer';
      taken = all ∙ ap (λ p. records kind limit from p) (sym (earlier-with_part parts peer')) ∙ sym (append-nil (records kind limit from (earlier (with_part parts peer'))));
      given_up = omega arith;
    })

-- the present part is given up
pub read-up : (kind : FrameKind) (limit from : ℕ) (peer : List ℕ) (told : Option (List Part)) (done : List Record) (ups : ℕ) (bytes : List Stamped) (given : List Item)
    → AreItemsRead kind limit from peer told false done ups bytes given → AreItemsRead kind limit from peer told true done (ups + 1) bytes given
read-up kind limit from peer None done ups bytes given read = tt
read-up kind limit from peer (Some parts) done ups bytes given read =
    let before : ups ≡ bad_parts kind limit (earlier parts) + 0 = read.given_up in record {
      given = read.given;
      has_peer = read.has_peer;
      taken = read.taken;
      given_up = omega arith;
    }

pub read-fresh : (kind : FrameKind) (limit from count : ℕ) (peer : List ℕ) (told : Option (List Part)) → count ≤ 1 → IfSome told (λ parts. parts ≡ empty_parts count peer)
    → AreItemsRead kind limit from peer told false [] 0 [] []
read-fresh kind limit from count peer None few empty = tt
read-fresh kind limit from count peer (Some parts) few empty =
    let P : List Part → Type 0 = λ p. HasPeer peer p in
    let none : earlier parts ≡ [] = ap earlier empty ∙ empty-earlier count peer few in
    record {
      given = sym (ap last_given empty ∙ empty-last count peer few);
      has_peer = subst P (sym empty) (empty-peer count peer few);
      taken = sym (ap (λ p. records kind limit from p ++ []) none);
      given_up = (let zero' : bad_parts kind limit (earlier parts) ≡ 0 = ap (λ p. bad_parts kind limit p) none in omega arith);
    }
