-- Lemmas on what a framer keeps.
use Rattle.std.proofs.Common.{◌≡◌, ℕ, suc, zero, ◌+◌, ◌-◌, ◌<◌, ◌≤◌, ◌^◌, List, [], ◌∷◌, ◌++◌, length, drop, get_or, refl, ap, sym, ◌∙◌, arith, append_assoc, replicate, length-append}
use Rattle.std.specs.Prelude.{ℤ, pos}
use Rattle.std.specs.List.{zip}
use Rattle.std.proofs.lemmas.List.{append-nil, length-map, get_or_append_left, length-drop}
use Rattle.std.proofs.lemmas.Slice.Zip.{firsts-zip, length-zip}
use Rattle.sg_device.specs.Inlet.{Stamped, stamped}
use Rattle.sg_frame.specs.declared.kind.FrameKind.{FrameKind}
use Rattle.sg_frame.specs.declared.moments.TimedRun.{TimedRun}
use Rattle.sg_frame.specs.Items.{Item, beginning, items, open_after, items_of, open_of}
use Rattle.sg_frame.specs.Framing.{Framing, items_left, open_left, fed, with_bytes, behind, GoesOnFraming, GivesItem}
use Rattle.sg_frame.specs.Kept.{moments, runs_end, AreRunsKept, Cuts}
use Rattle.sg_frame.specs.declared.scan.ItemSpan.{ItemSpan}
use Rattle.sg_frame.specs.Scans.{plain, IsItem}
use Rattle.sg_frame.proofs.ItemLemmas.{items-append, open_after-append}
use Rattle.sg_frame.proofs.MomentLemmas.{length-moments, moments-push, runs_end-push}

-- what a framer with these fields is seen as
abbrev pub framing_of : FrameKind → (limit place : ℕ) → List ℕ → List TimedRun → Framing
framing_of kind limit place bytes runs = record { kind = kind; limit = limit; place = place; held = zip bytes (moments place runs) }

zip-append : (xs ys : List ℕ) (ms ns : List ℤ) → length xs ≡ length ms → zip (xs ++ ys) (ms ++ ns) ≡ zip xs ms ++ zip ys ns
zip-append [] ys [] ns e = refl
zip-append [] ys (m ∷ ms) ns e = absurd (omega arith)
zip-append (x ∷ xs) ys [] ns e = absurd (omega arith)
zip-append (x ∷ xs) ys (m ∷ ms) ns e = ap (λ r. (x, m) ∷ r) (zip-append xs ys ms ns (omega arith))

zip-stamped : (piece : List ℕ) (at : ℤ) → zip piece (replicate (length piece) at) ≡ stamped piece at
zip-stamped [] at = refl
zip-stamped (b ∷ piece) at = ap (λ r. (b, at) ∷ r) (zip-stamped piece at)

zip-drop : (bytes : List ℕ) (ms : List ℤ) (n : ℕ) → length bytes ≡ length ms → drop n (zip bytes ms) ≡ zip (drop n bytes) (drop n ms)
zip-drop bytes ms zero e = refl
zip-drop [] [] (suc n) e = refl
zip-drop [] (m ∷ ms) (suc n) e = absurd (omega arith)
zip-drop (b ∷ bytes) [] (suc n) e = absurd (omega arith)
zip-drop (b ∷ bytes) (m ∷ ms) (suc n) e = zip-drop bytes ms n (omega arith)

pub moments-cover : (place : ℕ) (bytes : List ℕ) (runs : List TimedRun) → runs_end place runs ≡ place + length bytes → length (moments place runs) ≡ length bytes
moments-cover place bytes runs covers = omega (arith, length-moments place runs)

pub length-held : (place : ℕ) (bytes : List ℕ) (runs : List TimedRun) → runs_end place runs ≡ place + length bytes → length (zip bytes (moments place runs)) ≡ length bytes
length-held place bytes runs covers = omega (arith, length-zip bytes (moments place runs), moments-cover place bytes runs covers)

pub plain-held : (place : ℕ) (bytes : List ℕ) (runs : List TimedRun) → runs_end place runs ≡ place + length bytes → plain (zip bytes (moments place runs)) ≡ bytes
plain-held place bytes runs covers = firsts-zip bytes (moments place runs) (moments-cover place bytes runs covers)

-- bytes fed stand behind the others, with their moment
pub held-feed : (place : ℕ) (bytes : List ℕ) (runs : List TimedRun) (piece : List ℕ) (end : ℕ) (at : ℤ) → runs_end place runs ≡ place + length bytes
    → end ≡ place + (length bytes + length piece)
    → zip (bytes ++ piece) (moments place (runs ++ (record { end = end; at = at }) ∷ [])) ≡ zip bytes (moments place runs) ++ stamped piece at
held-feed place bytes runs piece end at covers is =
    let many : end - runs_end place runs ≡ length piece = omega arith in
    ap (λ ms. zip (bytes ++ piece) ms) (moments-push place runs (record { end = end; at = at }))
    ∙ ap (λ n. zip (bytes ++ piece) (moments place runs ++ replicate n at)) many
    ∙ zip-append bytes piece (moments place runs) (replicate (length piece) at) (sym (moments-cover place bytes runs covers))
    ∙ ap (λ r. zip bytes (moments place runs) ++ r) (zip-stamped piece at)

pub kept-feed : (limit place scanned : ℕ) (bytes : List ℕ) (runs : List TimedRun) (piece : List ℕ) (end : ℕ) (at : ℤ) → AreRunsKept limit place scanned bytes runs
    → end ≡ place + (length bytes + length piece) → end < 2 ^ 63
    → AreRunsKept limit place scanned (bytes ++ piece) (runs ++ (record { end = end; at = at }) ∷ [])
kept-feed limit place scanned bytes runs piece end at kept is range =
    let covers : runs_end place runs ≡ place + length bytes = kept.covers in
    let within : scanned ≤ length bytes = kept.scan.within in
    let both = length-append bytes piece in
    record {
      some = kept.some;
      covers = omega (arith, runs_end-push place runs (record { end = end; at = at }), both);
      in_range = omega (arith, both);
      scan = record {
        within = omega (arith, both);
        below = kept.scan.below;
        no_feed = λ k h is. kept.scan.no_feed k h (sym (get_or_append_left bytes piece 0 k (omega arith)) ∙ is);
      };
    }

pub goes-feed : (old : Framing) (more : List Stamped) → GoesOnFraming old (with_bytes old more) more []
goes-feed old more bytes given so =
    let place : 0 + length bytes ≡ fed old = omega (arith, so.fed) in
    record {
      items = items-append old.limit 0 (beginning old.kind) bytes more
          ∙ ap (λ n. items_of old.kind old.limit bytes ++ items old.limit n (open_of old.kind old.limit bytes) more) place
          ∙ ap (λ r. r ++ items old.limit (fed old) (open_of old.kind old.limit bytes) more) so.items
          ∙ ap (λ f. (given ++ items_left old) ++ items old.limit (fed old) f more) so.still_open
          ∙ append_assoc given (items_left old) (items old.limit (fed old) (open_left old) more)
          ∙ ap (λ r. given ++ r) (sym (items-append old.limit old.place (beginning old.kind) old.held more))
          ∙ ap (λ r. r ++ items_left (with_bytes old more)) (sym (append-nil given));
      still_open = open_after-append old.limit 0 (beginning old.kind) bytes more
          ∙ ap (λ n. open_after old.limit n (open_of old.kind old.limit bytes) more) place
          ∙ ap (λ f. open_after old.limit (fed old) f more) so.still_open
          ∙ sym (open_after-append old.limit old.place (beginning old.kind) old.held more);
      fed = omega (arith, length-append bytes more, length-append old.held more, so.fed);
    }

pub goes-item : (old new : Framing) (item : Item) → new ≡ behind old item.end → items_left old ≡ item ∷ items_left new → open_left old ≡ open_left new
    → old.place ≤ item.end → item.end ≤ fed old → GoesOnFraming old new [] (item ∷ [])
goes-item old new item rest first still_open from to bytes given so =
    let kind : new.kind ≡ old.kind = ap (λ f. f.kind) rest in
    let limit : new.limit ≡ old.limit = ap (λ f. f.limit) rest in
    let place : new.place ≡ item.end = ap (λ f. f.place) rest in
    let held : length new.held ≡ length (drop (item.end - old.place) old.held) = ap (λ f. length f.held) rest in
    let all : bytes ++ [] ≡ bytes = append-nil bytes in
    record {
      items = ap (λ bs. items_of new.kind new.limit bs) all ∙ ap (λ k. items_of k new.limit bytes) kind ∙ ap (λ l. items_of old.kind l bytes) limit
          ∙ so.items ∙ ap (λ r. given ++ r) first ∙ sym (append_assoc given (item ∷ []) (items_left new));
      still_open = ap (λ bs. open_of new.kind new.limit bs) all ∙ ap (λ k. open_of k new.limit bytes) kind ∙ ap (λ l. open_of old.kind l bytes) limit
          ∙ so.still_open ∙ still_open;
      fed = omega (arith, ap length all, held, place, so.fed, length-drop (item.end - old.place) old.held);
    }

moment-held : (bytes : List ℕ) (ms : List ℤ) (i : ℕ) → length bytes ≡ length ms → (get_or (zip bytes ms) i (0, pos 0)).1 ≡ get_or ms i (pos 0)
moment-held [] [] i e = refl
moment-held [] (m ∷ ms) i e = absurd (omega arith)
moment-held (b ∷ bytes) [] i e = absurd (omega arith)
moment-held (b ∷ bytes) (m ∷ ms) zero e = refl
moment-held (b ∷ bytes) (m ∷ ms) (suc i) e = moment-held bytes ms i (omega arith)

-- an item cut off the front is the first one left, and the others stay
pub gives_item : (kind : FrameKind) (limit place : ℕ) (bytes rest : List ℕ) (runs left : List TimedRun) (span : ItemSpan) (text : List ℕ) (at : ℤ)
    → runs_end place runs ≡ place + length bytes → IsItem kind limit bytes span → Cuts place span bytes rest runs left text at
    → GivesItem (framing_of kind limit place bytes runs) (framing_of kind limit (place + span.taken) rest left) (record { text = text; at = at; end = place + span.taken })
gives_item kind limit place bytes rest runs left span text at covers item cuts =
    let old = framing_of kind limit place bytes runs in
    let new = framing_of kind limit (place + span.taken) rest left in
    let lengths : length bytes ≡ length (moments place runs) = sym (moments-cover place bytes runs covers) in
    let kept : zip rest (moments (place + span.taken) left) ≡ drop span.taken (zip bytes (moments place runs)) =
    ap (λ bs. zip bs (moments (place + span.taken) left)) cuts.rest ∙ ap (λ ms. zip (drop span.taken bytes) ms) cuts.kept ∙ sym (zip-drop bytes (moments place runs) span.taken lengths) in
    let taken : span.taken ≡ place + span.taken - place = omega arith in
    let some = item.some in
    let inside = item.taken in
    let many = length-held place bytes runs covers in
    let fewer : length (zip rest (moments (place + span.taken) left)) ≡ length bytes - span.taken =
    ap length kept ∙ length-drop span.taken (zip bytes (moments place runs)) ∙ ap (λ n. n - span.taken) many in
    let so = item.first place (zip bytes (moments place runs)) (plain-held place bytes runs covers) in
    let moment : (get_or (zip bytes (moments place runs)) span.last (0, pos 0)).1 ≡ at = moment-held bytes (moments place runs) span.last lengths ∙ sym cuts.moment in
    let behind_it : new ≡ behind old (place + span.taken) =
    ap (λ held. record new { held = held }) (kept ∙ ap (λ n. drop n (zip bytes (moments place runs))) taken) in
    let first : items_left old ≡ (record { text = text; at = at; end = place + span.taken }) ∷ items_left new =
    so.items
    ∙ ap (λ t. (record { text = t; at = (get_or (zip bytes (moments place runs)) span.last (0, pos 0)).1; end = place + span.taken }) ∷ items limit (place + span.taken) (beginning kind) (drop span.taken (zip bytes (moments place runs)))) (sym cuts.text)
    ∙ ap (λ m. (record { text = text; at = m; end = place + span.taken }) ∷ items limit (place + span.taken) (beginning kind) (drop span.taken (zip bytes (moments place runs)))) moment
    ∙ ap (λ held. (record { text = text; at = at; end = place + span.taken }) ∷ items limit (place + span.taken) (beginning kind) held) (sym kept) in
    let opens : open_left old ≡ open_left new = so.still_open ∙ ap (λ held. open_after limit (place + span.taken) (beginning kind) held) (sym kept) in
    record {
      rest = behind_it;
      first = first;
      still_open = opens;
      later = omega arith;
      shorter = omega arith;
      all_fed = omega arith;
      history = goes-item old new (record { text = text; at = at; end = place + span.taken }) behind_it first opens (omega arith) (omega arith);
    }

pub fed-with_bytes : (f : Framing) (bytes : List ℕ) (at : ℤ) → fed (with_bytes f (stamped bytes at)) ≡ fed f + length bytes
fed-with_bytes f bytes at = omega (arith, length-append f.held (stamped bytes at), length-map bytes (λ (b : ℕ). let s : Stamped = (b, at) in s))
