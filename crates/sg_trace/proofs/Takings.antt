-- Rows that are taken one after another.
use Rattle.std.proofs.Common.{◌≡◌, ◌<◌, ◌+◌, ℕ, Bool, zero, suc, List, [], ◌∷◌, ◌++◌, length, get_or, refl, sym, ap, ap₂, ◌∙◌, subst, arith, length-append}
use Rattle.std.proofs.lemmas.List.{append_assoc, append-nil}
use Rattle.sg_device.specs.Inlet.{Stamped}
use Rattle.sg_frame.specs.Framing.{Framing, HasFramed, GoesOnFraming, GivesItem}
use Rattle.sg_frame.specs.Items.{Item}
use Rattle.sg_frame.specs.Records.{Record}
use Rattle.sg_msg.specs.declared.offer.Offer.{Offer}
use Rattle.sg_route.specs.Offers.{record_at}
use Rattle.sg_trace.specs.declared.target.SentForm.{SentForm}
use Rattle.sg_trace.specs.declared.tracer.Tracer.{Tracer}
use Rattle.sg_trace.specs.Rows.{TracedRow, Offering, AreOffered, items_in, offer_text, offers_text, rows_text}
use Rattle.sg_trace.specs.Taking.{PassesItems, TakesBy, TakesItems, TakesAllItems}
use Rattle.sg_trace.proofs.Times.{gives-left}
use Rattle.sg_frame.specs.Timely.{AreTimely}
use Rattle.sg_msg.specs.Offers.{AllWithin}

-- offers
pub within-at : (n : ℕ) (offers : List Offer) (i : ℕ) (d : Offer) → AllWithin n offers → i < length offers → (get_or offers i d).dest < n
within-at n [] i d h k = absurd (omega arith)
within-at n (o ∷ offers) zero d h k = h.0
within-at n (o ∷ offers) (suc i) d h k = within-at n offers i d h.1 (omega arith)

pub offers-last : (targets : List SentForm) (number : ℕ) (offers : List Offer) (offer : Offer) → offers_text targets number (offers ++ offer ∷ []) ≡ offers_text targets number offers ++ offer_text targets number offer
offers-last targets number [] offer = append-nil (offer_text targets number offer)
offers-last targets number (o ∷ offers) offer =
    ap (λ (x : List ℕ). offer_text targets number o ++ x) (offers-last targets number offers offer)
    ∙ sym (append_assoc (offer_text targets number o) (offers_text targets number offers) (offer_text targets number offer))

-- rows
rows-last : (targets : List SentForm) (number : ℕ) (rows : List TracedRow) (row : TracedRow) → rows_text targets number (rows ++ row ∷ []) ≡ rows_text targets number rows ++ offers_text targets (number + length rows) row.offers
rows-last targets number [] row =
    let same : number ≡ number + 0 = omega arith in
    append-nil (offers_text targets number row.offers) ∙ ap (λ n. offers_text targets n row.offers) same
rows-last targets number (r ∷ rows) row =
    let same : number + 1 + length rows ≡ number + suc (length rows) = omega arith in
    ap (λ (x : List ℕ). offers_text targets number r.offers ++ x) (rows-last targets (number + 1) rows row ∙ ap (λ n. rows_text targets (number + 1) rows ++ offers_text targets n row.offers) same)
    ∙ sym (append_assoc (offers_text targets number r.offers) (rows_text targets (number + 1) rows) (offers_text targets (number + suc (length rows)) row.offers))

pub rows-append : (targets : List SentForm) (number : ℕ) (rows more : List TracedRow) → rows_text targets number (rows ++ more) ≡ rows_text targets number rows ++ rows_text targets (number + length rows) more
rows-append targets number [] more = let same : number ≡ number + 0 = omega arith in ap (λ n. rows_text targets n more) same
rows-append targets number (r ∷ rows) more =
    let same : number + 1 + length rows ≡ number + suc (length rows) = omega arith in
    ap (λ (x : List ℕ). offers_text targets number r.offers ++ x) (rows-append targets (number + 1) rows more ∙ ap (λ n. rows_text targets (number + 1) rows ++ rows_text targets n more) same)
    ∙ sym (append_assoc (offers_text targets number r.offers) (rows_text targets (number + 1) rows) (rows_text targets (number + suc (length rows)) more))

pub items-append : (rows more : List TracedRow) → items_in (rows ++ more) ≡ items_in rows ++ items_in more
items-append [] more = refl
items-append (r ∷ rows) more = ap (λ (x : List Item). r.item ∷ x) (items-append rows more)

pub items-count : (rows : List TracedRow) → length (items_in rows) ≡ length rows
items-count [] = refl
items-count (r ∷ rows) = ap suc (items-count rows)

pub offered-append : (offering : Offering) (peer : List ℕ) (rows more : List TracedRow) → AreOffered offering peer rows → AreOffered offering peer more → AreOffered offering peer (rows ++ more)
offered-append offering peer [] more h k = k
offered-append offering peer (r ∷ rows) more h k = (h.0, offered-append offering peer rows more h.1 k)

offered-back : (offering other : Offering) (peer : List ℕ) (rows : List TracedRow) → ((of_record : Record) (found : List Offer) → other of_record found → offering of_record found) → AreOffered other peer rows → AreOffered offering peer rows
offered-back offering other peer [] back h = tt
offered-back offering other peer (r ∷ rows) back h = (back (record_at peer r.item.text r.item.at) r.offers h.0, offered-back offering other peer rows back h.1)

pub takes-back : (offering other : Offering) (targets : List SentForm) (peer : List ℕ) (old new : Tracer) (bad : Bool) → ((of_record : Record) (found : List Offer) → other of_record found → offering of_record found)
    → TakesAllItems other targets peer old new bad → TakesAllItems offering targets peer old new bad
takes-back offering other targets peer old new bad back takes =
    let (rows, by) = takes.0 in
    let done : TakesBy offering targets peer old new rows = record { passes = by.passes; offered = offered-back offering other peer rows back by.offered; said = by.said; count = by.count } in
    ((rows, done), takes.1)

-- framers
pub goes-then : (a b c : Framing) (xs ys : List Item) → GoesOnFraming a b [] xs → GoesOnFraming b c [] ys → GoesOnFraming a c [] (xs ++ ys)
goes-then a b c xs ys g h = λ bytes given framed.
    let whole : HasFramed ((bytes ++ []) ++ []) ((given ++ xs) ++ ys) c = h (bytes ++ []) (given ++ xs) (g bytes given framed) in
    subst (λ (i : List Item). HasFramed (bytes ++ []) i c) (append_assoc given xs ys) (subst (λ (b : List Stamped). HasFramed b ((given ++ xs) ++ ys) c) (append-nil (bytes ++ [])) whole)

goes-none : (f : Framing) → GoesOnFraming f f [] []
goes-none f = λ bytes given framed.
    subst (λ (i : List Item). HasFramed (bytes ++ []) i f) (sym (append-nil given)) (subst (λ (b : List Stamped). HasFramed b given f) (sym (append-nil bytes)) framed)

pub passes-none : (f : Framing) → PassesItems f f []
passes-none f = record { history = goes-none f; same_kind = refl; same_limit = refl; same_fed = refl; later = omega arith; timely = λ h. h }

pub passes-one : (old mid new : Framing) (items : List Item) (item : Item) → PassesItems old mid items → AreTimely old.held → GivesItem mid new item → PassesItems old new (items ++ item ∷ [])
passes-one old mid new items item p timely gives =
    let place : new.place ≡ item.end = ap (λ (x : Framing). x.place) gives.rest in
    record {
      history = goes-then old mid new items (item ∷ []) p.history gives.history;
      same_kind = ap (λ (x : Framing). x.kind) gives.rest ∙ p.same_kind;
      same_limit = ap (λ (x : Framing). x.limit) gives.rest ∙ p.same_limit;
      same_fed = gives.all_fed ∙ p.same_fed;
      later = omega (arith, p.later, gives.later, place, length-append items (item ∷ []));
      timely = λ h. gives-left mid new item (p.timely h) gives;
    }

-- tracers
pub takes-none : (offering : Offering) (targets : List SentForm) (peer : List ℕ) (tracer : Tracer) → TakesItems offering targets peer tracer tracer
takes-none offering targets peer tracer =
    let by : TakesBy offering targets peer tracer tracer [] = record {
      passes = passes-none tracer.framer;
      offered = tt;
      said = sym (append-nil tracer.text.items);
      count = omega arith;
    } in
    ([], by)

pub takes-one : (offering : Offering) (targets : List SentForm) (peer : List ℕ) (old mid new : Tracer) (item : Item) (offers : List Offer)
    → TakesItems offering targets peer old mid → AreTimely old.framer.held → GivesItem mid.framer new.framer item → offering (record_at peer item.text item.at) offers
    → new.text.items ≡ mid.text.items ++ offers_text targets mid.number offers → new.number ≡ mid.number + 1 → TakesItems offering targets peer old new
takes-one offering targets peer old mid new item offers (rows, by) timely gives offered said number =
    let row : TracedRow = record { item = item; offers = offers } in
    let all = rows ++ row ∷ [] in
    let done : TakesBy offering targets peer old new all = record {
      passes = subst (PassesItems old.framer new.framer) (sym (items-append rows (row ∷ []))) (passes-one old.framer mid.framer new.framer (items_in rows) item by.passes timely gives);
      offered = offered-append offering peer rows (row ∷ []) by.offered (offered, tt);
      said = said ∙ ap₂ (λ (x : List ℕ) (n : ℕ). x ++ offers_text targets n offers) by.said by.count
          ∙ append_assoc old.text.items (rows_text targets old.number rows) (offers_text targets (old.number + length rows) offers)
          ∙ ap (λ (x : List ℕ). old.text.items ++ x) (sym (rows-last targets old.number rows row));
      count = omega (arith, number, by.count, length-append rows (row ∷ []));
    } in
    (all, done)
