-- What a pull does to what was read.
use Rattle.std.proofs.Common.{◌≡◌, ◌≤◌, ◌<◌, ◌+◌, ℕ, zero, suc, List, [], ◌∷◌, ◌++◌, length, take, Option, Some, None, Ok, true, false, refl, sym, ap, ◌∙◌, subst, arith, length-append}
use Rattle.std.proofs.lemmas.List.{append-nil}
use Rattle.std.specs.Prelude.{ℤ, IfSome}
use Rattle.std.specs.Option.{option_map}
use Rattle.sg_device.specs.Inlet.{Stamped, Part, InletState, IsFresh, stamped, with_bytes, empty_parts, PullIsWhole, PullTells, PullMoves, PullCounts}
use Rattle.sg_device.specs.declared.inlet.Pull.TheVariants.{Bytes}
use Rattle.sg_frame.specs.declared.kind.FrameKind.{FrameKind}
use Rattle.sg_frame.specs.Items.{Item, items_of, open_of}
use Rattle.sg_frame.specs.Framing.{Framing, HasFramed, GoesOnFraming, fresh, items_left, open_left}
use Rattle.sg_frame.specs.Framing.{with_bytes as with_fed}
use Rattle.sg_trace.specs.Pulling.{PullsTo}
use Rattle.sg_trace.specs.Reading.{ReadsSo, ReadsTraced}
use Rattle.sg_frame.specs.Timely.{IsTimely, AreTimely}
use Rattle.sg_frame.proofs.TimelyLemmas.{timely-append, timely-stamped}

given-more : (told told' : Option (List Part)) (peer peer' : List ℕ) (bytes xs : List Stamped) → IfSome told (λ parts. parts ≡ (record { peer = peer; given = bytes }) ∷ [])
    → told' ≡ option_map (λ parts. with_bytes parts peer' xs) told → IfSome told' (λ parts. parts ≡ (record { peer = peer; given = bytes ++ xs }) ∷ [])
given-more None told' peer peer' bytes xs h e = subst (λ (t : Option (List Part)). IfSome t (λ parts. parts ≡ (record { peer = peer; given = bytes ++ xs }) ∷ [])) (sym e) tt
given-more (Some parts) told' peer peer' bytes xs h e =
    subst (λ (t : Option (List Part)). IfSome t (λ ps. ps ≡ (record { peer = peer; given = bytes ++ xs }) ∷ [])) (sym e) (ap (λ (ps : List Part). with_bytes ps peer' xs) h)

stamped-len : (into : List ℕ) (len : ℕ) (moment : ℤ) → len ≤ length into → length (stamped (take len into) moment) ≡ len
stamped-len into zero moment h = refl
stamped-len [] (suc len) moment h = absurd (omega arith)
stamped-len (b ∷ into) (suc len) moment h = ap suc (stamped-len into len moment (omega arith))

pub reads-pulled : (kind : FrameKind) (limit : ℕ) (first feed feed' : InletState) (f f' : Framing) (items : List Item) (into : List ℕ) (room len : ℕ) (at moment : ℤ)
    → ReadsTraced kind limit first feed f items → PullIsWhole room (Ok (Bytes len at)) → len ≤ length into → moment ≡ at
    → PullTells feed feed' into (Ok (Bytes len at)) → PullMoves feed feed' (Ok (Bytes len at)) → PullCounts feed feed' (Ok (Bytes len at)) → feed.faults ≤ feed'.faults
    → f' ≡ with_fed f (stamped (take len into) moment) → GoesOnFraming f f' (stamped (take len into) moment) [] → PullsTo kind limit first feed feed' f f' items (Ok false)
reads-pulled kind limit first feed feed' f f' items into room len at moment (bytes, h) whole fits is tells moves counts later f-is goes =
    let xs = stamped (take len into) moment in
    let told : feed'.told ≡ option_map (λ parts. with_bytes parts feed'.peer xs) feed.told = rw is tells.0 in
    let count : length xs ≡ len = stamped-len into len moment fits in
    let timely : IsTimely moment = rw is (whole.2, whole.3) in
    let held : length f'.held ≡ length f.held + length xs = ap (λ (x : Framing). length x.held) f-is ∙ length-append f.held xs in
    let place : f'.place ≡ f.place = ap (λ (x : Framing). x.place) f-is in
    let moved : feed'.place ≡ feed.place + len = moves.1 in
    let some : 0 < len = whole.0 in
    let more : feed.bytes + feed.parts + feed.idles + 1 ≤ feed'.bytes + feed'.parts + feed'.idles = omega (arith, counts.1, counts.2, counts.3, some) in
    let so : ReadsSo kind limit first feed' f' items (bytes ++ xs) = record {
      framed = subst (λ (i : List Item). HasFramed (bytes ++ xs) i f') (append-nil items) (goes bytes items h.framed);
      same_kind = ap (λ (x : Framing). x.kind) f-is ∙ h.same_kind;
      same_limit = ap (λ (x : Framing). x.limit) f-is ∙ h.same_limit;
      given = given-more feed.told feed'.told first.peer feed'.peer bytes xs h.given told;
      peer = tells.1 ∙ h.peer;
      place = omega (arith, moved, h.place, held, place, count);
      range = moves.2;
      single = counts.8 ∙ h.single;
      timely = subst (λ (x : Framing). AreTimely x.held) (sym f-is) (timely-append f.held xs h.timely (timely-stamped (take len into) moment timely));
      later = omega (arith, h.later, later);
      fewer = omega (arith, h.fewer, place);
    } in
    ((bytes ++ xs, so), counts.5, (counts.0, more))

-- a file of which nothing was read
pub reads-begun : (kind : FrameKind) (limit : ℕ) (feed : InletState) (f : Framing) → IsFresh feed → feed.from ≡ 0 → feed.parts ≡ 1 → feed.single ≡ true → f ≡ fresh kind limit → ReadsTraced kind limit feed feed f []
reads-begun kind limit feed f new from one single f-is =
    let place : feed.place ≡ 0 = new.at_from ∙ from in
    let none : f.held ≡ [] = ap (λ (x : Framing). x.held) f-is in
    let start : f.place ≡ 0 = ap (λ (x : Framing). x.place) f-is in
    let count : length f.held ≡ 0 = ap (λ (x : List Stamped). length x) none in
    let so : ReadsSo kind limit feed feed f [] [] = record {
      framed = subst (λ (x : Framing). HasFramed [] [] x) (sym f-is) (record { items = refl; still_open = refl; fed = refl });
      same_kind = ap (λ (x : Framing). x.kind) f-is;
      same_limit = ap (λ (x : Framing). x.limit) f-is;
      given = subst (λ (n : ℕ). IfSome feed.told (λ parts. parts ≡ empty_parts n feed.peer)) one new.told;
      peer = refl;
      place = omega (arith, place, start, count);
      range = omega (arith, place);
      single = single;
      timely = subst AreTimely (sym none) tt;
      later = omega arith;
      fewer = omega arith;
    } in
    ([], so)

-- all items that are whole were taken, and so are those of the file
pub whole-items : (kind : FrameKind) (limit : ℕ) (first feed : InletState) (f : Framing) (items : List Item) (bytes : List Stamped) → ReadsSo kind limit first feed f items bytes → items_left f ≡ [] → items_of kind limit bytes ≡ items
whole-items kind limit first feed f items bytes h none =
    sym (ap (λ (k : FrameKind). items_of k limit bytes) h.same_kind) ∙ sym (ap (λ (l : ℕ). items_of f.kind l bytes) h.same_limit) ∙ h.framed.items
    ∙ ap (λ (x : List Item). items ++ x) none ∙ append-nil items

pub open-form : (kind : FrameKind) (limit : ℕ) (first feed : InletState) (f : Framing) (items : List Item) (bytes : List Stamped) → ReadsSo kind limit first feed f items bytes → open_of kind limit bytes ≡ open_left f
open-form kind limit first feed f items bytes h =
    sym (ap (λ (k : FrameKind). open_of k limit bytes) h.same_kind) ∙ sym (ap (λ (l : ℕ). open_of f.kind l bytes) h.same_limit) ∙ h.framed.still_open
