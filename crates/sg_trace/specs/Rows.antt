-- What is said of the items of a file.
use Rattle.std.specs.Prelude.{ℕ, ◌+◌, Bool, true, false, List, [], ◌∷◌, ◌++◌, length, map, codes, slice_get, Option, Some, None}
use Rattle.std.specs.Fmt.{decimal}
use Rattle.sg_frame.specs.Items.{Item}
use Rattle.sg_frame.specs.Records.{Record}
use Rattle.sg_msg.specs.declared.offer.Offer.{Offer}
use Rattle.sg_outfmt.specs.Frame.{frame_of}
use Rattle.sg_outfmt.specs.Packed.{unpacked}
use Rattle.sg_outfmt.specs.declared.shape.Shape.{Shape}
use Rattle.sg_outfmt.specs.declared.shape.Shape.TheVariants.{Text, Counted5424, ByPath}
use Rattle.sg_route.specs.Offers.{record_at}
use Rattle.sg_trace.specs.declared.target.SentForm.{SentForm}

-- an item, and the offers of its record
pub record TracedRow : Type 0 where
  pub item : Item
  pub offers : List Offer

abbrev pub flow_text : Bool → List ℕ
flow_text true = codes "yes"
flow_text false = codes "no"

-- the path of the file that a text goes to, where messages name it
abbrev pub path_text : Option (List ℕ) → List ℕ
path_text None = []
path_text (Some path) = codes " path " ++ path

-- an offer: the number of its record, its destination, its flow, its path, and the length of what is sent for it
abbrev pub offer_line : (number dest : ℕ) → Bool → Option (List ℕ) → ℕ → List ℕ
offer_line number dest flow path length =
    codes "record " ++ (decimal number
    ++ (codes " destination " ++ (decimal dest
    ++ (codes " flow " ++ (flow_text flow
    ++ (path_text path ++ (codes " length " ++ (decimal length ++ codes "\n"))))))))

-- what a destination sends for the message, where there is one
abbrev pub frame_by : Option SentForm → Offer → List ℕ
frame_by None offer = []
frame_by (Some target) offer = frame_of target.shape offer.message target.env

-- the path of a frame, where its shape has one, and its text
abbrev pub sent_by : Shape → List ℕ → (Option (List ℕ) × List ℕ)
sent_by (Text template) frame = (None, frame)
sent_by Counted5424 frame = (None, frame)
sent_by (ByPath path text) frame = (Some (unpacked frame).0, (unpacked frame).1)

abbrev pub sent_to : Option SentForm → List ℕ → (Option (List ℕ) × List ℕ)
sent_to None frame = (None, frame)
sent_to (Some target) frame = sent_by target.shape frame

-- the line, what is sent, and LF
abbrev pub sent_text : ℕ → Offer → Option (List ℕ) → List ℕ → List ℕ
sent_text number offer path sent =
    offer_line number offer.dest offer.flow path (length sent) ++ (sent ++ codes "\n")

abbrev pub offer_text : List SentForm → ℕ → Offer → List ℕ
offer_text targets number offer =
    let target = slice_get targets offer.dest in
    let sent = sent_to target (frame_by target offer) in
    sent_text number offer sent.0 sent.1

abbrev pub offers_text : List SentForm → ℕ → List Offer → List ℕ
offers_text targets number [] = []
offers_text targets number (offer ∷ offers) = offer_text targets number offer
    ++ offers_text targets number offers

-- the items of a file, the first with this number
abbrev pub rows_text : List SentForm → ℕ → List TracedRow → List ℕ
rows_text targets number [] = []
rows_text targets number (row ∷ rows) = offers_text targets number row.offers
    ++ rows_text targets (number + 1) rows

-- which offers a record may have
abbrev pub Offering : Type 1
Offering = Record → List Offer → Type 0

-- each row's offers are those of its record, which came from this peer
abbrev pub AreOffered : Offering → List ℕ → List TracedRow → Type 0
AreOffered offering peer [] = Unit {0}
AreOffered offering peer (row ∷ rows) =
    offering (record_at peer row.item.text row.item.at) row.offers × AreOffered offering peer rows

abbrev pub items_in : List TracedRow → List Item
items_in rows = map (λ row. row.item) rows
