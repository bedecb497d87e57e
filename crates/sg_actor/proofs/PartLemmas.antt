-- Lemmas on the parts that an inlet gave.
use Rattle.std.proofs.Common.{arith, ◌≡◌, ◌≤◌, ◌+◌, ℕ, zero, suc, List, [], ◌∷◌, ◌++◌, map, refl, ap, sym, ◌∙◌, append_assoc}
use Rattle.std.proofs.lemmas.List.{append-nil}
use Rattle.sg_device.specs.Inlet.{Stamped, Part, with_bytes, with_part, empty_parts}
use Rattle.sg_frame.specs.declared.kind.FrameKind.{FrameKind}
use Rattle.sg_frame.specs.declared.kind.FrameKind.TheVariants.{Lines, Counted}
use Rattle.sg_frame.specs.Items.{items_of, open_of}
use Rattle.sg_frame.specs.Records.{record_of, records_of, records}
use Rattle.sg_actor.specs.Reading.{earlier, last_given, HasPeer, bad_forms, bad_parts}

pub records-last : (kind : FrameKind) (limit from : ℕ) (peer : List ℕ) (parts : List Part) → HasPeer peer parts
    → records kind limit from parts ≡ records kind limit from (earlier parts) ++ map (record_of from peer) (items_of kind limit (last_given parts))
records-last kind limit from peer [] h = refl
records-last kind limit from peer (part ∷ []) h =
    append-nil (records_of kind limit from part) ∙ ap (λ p. map (record_of from p) (items_of kind limit part.given)) h
records-last kind limit from peer (part ∷ next ∷ parts) h =
    ap (λ r. records_of kind limit from part ++ r) (records-last kind limit from peer (next ∷ parts) h)
    ∙ sym (append_assoc (records_of kind limit from part) (records kind limit from (earlier (next ∷ parts))) (map (record_of from peer) (items_of kind limit (last_given (next ∷ parts)))))

bad-none : (kind : FrameKind) (limit : ℕ) → bad_forms (open_of kind limit []) ≡ 0
bad-none Lines limit = refl
bad-none Counted limit = refl

pub bad-last : (kind : FrameKind) (limit : ℕ) (parts : List Part)
    → bad_parts kind limit parts ≡ bad_parts kind limit (earlier parts) + bad_forms (open_of kind limit (last_given parts))
bad-last kind limit [] = let none = bad-none kind limit in omega arith
bad-last kind limit (part ∷ []) = omega arith
bad-last kind limit (part ∷ next ∷ parts) = omega (arith, bad-last kind limit (next ∷ parts))

pub earlier-with_bytes : (parts : List Part) (peer : List ℕ) (given : List Stamped) → earlier (with_bytes parts peer given) ≡ earlier parts
earlier-with_bytes [] peer given = refl
earlier-with_bytes (part ∷ []) peer given = refl
earlier-with_bytes (part ∷ next ∷ []) peer given = refl
earlier-with_bytes (part ∷ next ∷ third ∷ parts) peer given = ap (λ r. part ∷ r) (earlier-with_bytes (next ∷ third ∷ parts) peer given)

pub last-with_bytes : (parts : List Part) (peer : List ℕ) (given : List Stamped) → last_given (with_bytes parts peer given) ≡ last_given parts ++ given
last-with_bytes [] peer given = refl
last-with_bytes (part ∷ []) peer given = refl
last-with_bytes (part ∷ next ∷ []) peer given = refl
last-with_bytes (part ∷ next ∷ third ∷ parts) peer given = last-with_bytes (next ∷ third ∷ parts) peer given

pub peer-with_bytes : (parts : List Part) (peer : List ℕ) (given : List Stamped) → HasPeer peer parts → HasPeer peer (with_bytes parts peer given)
peer-with_bytes [] peer given h = refl
peer-with_bytes (part ∷ []) peer given h = h
peer-with_bytes (part ∷ next ∷ []) peer given h = h
peer-with_bytes (part ∷ next ∷ third ∷ parts) peer given h = peer-with_bytes (next ∷ third ∷ parts) peer given h

pub earlier-with_part : (parts : List Part) (peer : List ℕ) → earlier (with_part parts peer) ≡ parts
earlier-with_part [] peer = refl
earlier-with_part (part ∷ []) peer = refl
earlier-with_part (part ∷ next ∷ parts) peer = ap (λ r. part ∷ r) (earlier-with_part (next ∷ parts) peer)

pub last-with_part : (parts : List Part) (peer : List ℕ) → last_given (with_part parts peer) ≡ []
last-with_part [] peer = refl
last-with_part (part ∷ []) peer = refl
last-with_part (part ∷ next ∷ parts) peer = last-with_part (next ∷ parts) peer

pub peer-with_part : (parts : List Part) (peer : List ℕ) → HasPeer peer (with_part parts peer)
peer-with_part [] peer = refl
peer-with_part (part ∷ []) peer = refl
peer-with_part (part ∷ next ∷ parts) peer = peer-with_part (next ∷ parts) peer

pub empty-last : (count : ℕ) (peer : List ℕ) → count ≤ 1 → last_given (empty_parts count peer) ≡ []
empty-last zero peer few = refl
empty-last (suc zero) peer few = refl
empty-last (suc (suc count)) peer few = absurd (omega arith)

pub empty-earlier : (count : ℕ) (peer : List ℕ) → count ≤ 1 → earlier (empty_parts count peer) ≡ []
empty-earlier zero peer few = refl
empty-earlier (suc zero) peer few = refl
empty-earlier (suc (suc count)) peer few = absurd (omega arith)

pub empty-peer : (count : ℕ) (peer : List ℕ) → count ≤ 1 → HasPeer peer (empty_parts count peer)
empty-peer zero peer few = tt
empty-peer (suc zero) peer few = refl
empty-peer (suc (suc count)) peer few = absurd (omega arith)
