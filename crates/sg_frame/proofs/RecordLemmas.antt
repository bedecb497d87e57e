-- Lemmas on records, as bytes and parts come.
use Rattle.std.proofs.Common.{◌≡◌, ℕ, ◌+◌, List, [], ◌∷◌, ◌++◌, length, refl, ap, sym, ◌∙◌, arith, append_assoc}
use Rattle.std.specs.Prelude.{map}
use Rattle.std.proofs.lemmas.List.{append-nil, map-append}
use Rattle.sg_device.specs.Inlet.{Stamped, Part, with_bytes, with_part}
use Rattle.sg_frame.specs.declared.kind.FrameKind.{FrameKind}
use Rattle.sg_frame.specs.Items.{beginning, items, items_of, open_of, open_after}
use Rattle.sg_frame.specs.Records.{Record, record_of, records_of, records, open_at_end}
use Rattle.sg_frame.proofs.ItemLemmas.{items-append, open_after-append}

-- the peer of the last part, where there is one
abbrev pub last_peer : List ℕ → List Part → List ℕ
last_peer peer [] = peer
last_peer peer (part ∷ []) = part.peer
last_peer peer (part ∷ next ∷ parts) = last_peer peer (next ∷ parts)

-- what the last part gave
abbrev pub last_given : List Part → List Stamped
last_given [] = []
last_given (part ∷ []) = part.given
last_given (part ∷ next ∷ parts) = last_given (next ∷ parts)

-- the records that bytes make whole behind these parts
abbrev pub records_next : FrameKind → (limit from : ℕ) → List Part → List ℕ → List Stamped → List Record
records_next kind limit from parts peer given =
    map (record_of from (last_peer peer parts)) (items limit (length (last_given parts)) (open_at_end kind limit parts) given)

items-more : (kind : FrameKind) (limit : ℕ) (xs ys : List Stamped) → items_of kind limit (xs ++ ys) ≡ items_of kind limit xs ++ items limit (length xs) (open_of kind limit xs) ys
items-more kind limit xs ys =
    let place : 0 + length xs ≡ length xs = omega arith in
    items-append limit 0 (beginning kind) xs ys ∙ ap (λ n. items_of kind limit xs ++ items limit n (open_of kind limit xs) ys) place

open-more : (kind : FrameKind) (limit : ℕ) (xs ys : List Stamped) → open_of kind limit (xs ++ ys) ≡ open_after limit (length xs) (open_of kind limit xs) ys
open-more kind limit xs ys =
    let place : 0 + length xs ≡ length xs = omega arith in
    open_after-append limit 0 (beginning kind) xs ys ∙ ap (λ n. open_after limit n (open_of kind limit xs) ys) place

pub records-with_bytes : (kind : FrameKind) (limit from : ℕ) (parts : List Part) (peer : List ℕ) (given : List Stamped)
    → records kind limit from (with_bytes parts peer given) ≡ records kind limit from parts ++ records_next kind limit from parts peer given
records-with_bytes kind limit from [] peer given = append-nil (map (record_of from peer) (items_of kind limit given))
records-with_bytes kind limit from (part ∷ []) peer given =
    append-nil (map (record_of from part.peer) (items_of kind limit (part.given ++ given)))
    ∙ ap (map (record_of from part.peer)) (items-more kind limit part.given given)
    ∙ map-append (record_of from part.peer) (items_of kind limit part.given) (items limit (length part.given) (open_of kind limit part.given) given)
    ∙ ap (λ r. r ++ records_next kind limit from (part ∷ []) peer given) (sym (append-nil (records_of kind limit from part)))
records-with_bytes kind limit from (part ∷ next ∷ parts) peer given =
    ap (λ r. records_of kind limit from part ++ r) (records-with_bytes kind limit from (next ∷ parts) peer given)
    ∙ sym (append_assoc (records_of kind limit from part) (records kind limit from (next ∷ parts)) (records_next kind limit from (next ∷ parts) peer given))

pub open_at_end-with_bytes : (kind : FrameKind) (limit : ℕ) (parts : List Part) (peer : List ℕ) (given : List Stamped)
    → open_at_end kind limit (with_bytes parts peer given) ≡ open_after limit (length (last_given parts)) (open_at_end kind limit parts) given
open_at_end-with_bytes kind limit [] peer given = refl
open_at_end-with_bytes kind limit (part ∷ []) peer given = open-more kind limit part.given given
open_at_end-with_bytes kind limit (part ∷ next ∷ []) peer given = open_at_end-with_bytes kind limit (next ∷ []) peer given
open_at_end-with_bytes kind limit (part ∷ next ∷ third ∷ parts) peer given = open_at_end-with_bytes kind limit (next ∷ third ∷ parts) peer given

-- a part that gave nothing yet has no records
pub records-with_part : (kind : FrameKind) (limit from : ℕ) (parts : List Part) (peer : List ℕ) → records kind limit from (with_part parts peer) ≡ records kind limit from parts
records-with_part kind limit from [] peer = refl
records-with_part kind limit from (part ∷ parts) peer = ap (λ r. records_of kind limit from part ++ r) (records-with_part kind limit from parts peer)

pub open_at_end-with_part : (kind : FrameKind) (limit : ℕ) (parts : List Part) (peer : List ℕ) → open_at_end kind limit (with_part parts peer) ≡ beginning kind
open_at_end-with_part kind limit [] peer = refl
open_at_end-with_part kind limit (part ∷ []) peer = refl
open_at_end-with_part kind limit (part ∷ next ∷ parts) peer = open_at_end-with_part kind limit (next ∷ parts) peer
