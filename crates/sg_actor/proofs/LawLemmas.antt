-- What holds of what a source has read.
use Rattle.std.proofs.Common.{arith, ◌≡◌, ◌+◌, ℕ, Bool, true, false, List, [], ◌∷◌, ◌++◌, length, map, refl, ap, sym, ◌∙◌, subst, append_assoc, Option, Some}
use Rattle.std.proofs.lemmas.List.{append-nil, map-append}
use Rattle.std.specs.Prelude.{if◌then◌else◌, ◌==◌}
use Rattle.sg_device.specs.Inlet.{Stamped, Part}
use Rattle.sg_msg.specs.declared.offer.Offer.{Offer}
use Rattle.sg_machine.specs.declared.event.Admission.{Admission}
use Rattle.sg_frame.specs.declared.kind.FrameKind.{FrameKind}
use Rattle.sg_frame.specs.declared.kind.FrameKind.TheVariants.{Lines}
use Rattle.sg_frame.specs.declared.framer.Framed.{Framed}
use Rattle.sg_frame.specs.declared.framer.Framed.TheVariants.{Item as Given, More, BadFrame}
use Rattle.sg_frame.specs.Items.{Item, Form, Text, Count, Body, Bad, items, items_of, open_of, open_at, open_after, beginning}
use Rattle.sg_frame.specs.Framing.{Framing, items_left, open_left}
use Rattle.sg_frame.specs.Records.{Record, record_of, records}
use Rattle.sg_frame.proofs.ItemLemmas.{items-append}
use Rattle.sg_actor.specs.Reading.{earlier, last_given, one_if, bad_forms, bad_parts, IsPartRead, AreItemsRead, items_ahead, bytes_pulled}
use Rattle.sg_actor.specs.Sources.{SourceState, AreOf, IsFramedAhead, IsBadFrame}
use Rattle.sg_actor.specs.Laws.{ReadsFirst, ReadsAll, StaysWhole}
use Rattle.sg_actor.specs.declared.settings.SourceSpec.{SourceSpec}
use Rattle.sg_actor.proofs.PartLemmas.{records-last, bad-last}
use Rattle.sg_actor.proofs.FeedLemmas.{fed-none}
use Rattle.sg_actor.proofs.PullLemmas.{dealt-items, dealt-forms}

-- The records of what was told.

is-read : (kind : FrameKind) (limit from : ℕ) (peer : List ℕ) (told : Option (List Part)) (parts : List Part) (up : Bool) (all : List Record) (ups : ℕ) (bytes : List Stamped) (given : List Item)
    → told ≡ Some parts → AreItemsRead kind limit from peer told up all ups bytes given → IsPartRead kind limit from peer parts up all ups bytes given
is-read kind limit from peer told parts up all ups bytes given is read = subst (λ t. AreItemsRead kind limit from peer t up all ups bytes given) is read

read-first : (kind : FrameKind) (limit from : ℕ) (peer : List ℕ) (parts : List Part) (up : Bool) (all : List Record) (ups : ℕ) (bytes : List Stamped) (given more : List Item)
    → IsPartRead kind limit from peer parts up all ups bytes given → items_of kind limit bytes ≡ given ++ more → records kind limit from parts ≡ all ++ map (record_of from peer) more
read-first kind limit from peer parts up all ups bytes given more read are =
    records-last kind limit from peer parts read.has_peer
    ∙ ap (λ b. records kind limit from (earlier parts) ++ map (record_of from peer) (items_of kind limit b)) (sym read.given)
    ∙ ap (λ i. records kind limit from (earlier parts) ++ map (record_of from peer) i) are
    ∙ ap (λ r. records kind limit from (earlier parts) ++ r) (map-append (record_of from peer) given more)
    ∙ sym (append_assoc (records kind limit from (earlier parts)) (map (record_of from peer) given) (map (record_of from peer) more))
    ∙ ap (λ r. r ++ map (record_of from peer) more) (sym read.taken)

records-as : (k k' : FrameKind) (l l' f f' : ℕ) (parts : List Part) → k ≡ k' → l ≡ l' → f ≡ f' → records k l f parts ≡ records k' l' f' parts
records-as k k' l l' f f' parts a b c = ap (λ x. records x l f parts) a ∙ ap (λ x. records k' x f parts) b ∙ ap (λ x. records k' l' x parts) c

pub reads-first : (offers : ℕ → Record → List Offer → Type 0) (dests : ℕ) (spec : SourceSpec) (s : SourceState) → ReadsFirst offers dests spec s
reads-first offers dests spec s done ups parts ready (behind, (are, (bytes, (given, h)))) told =
    let f = s.reader.framer in
    let pulled : List Stamped = bytes_pulled s.reader.pulled s.buffer in
    let more : List Item = (items_ahead s.reader.ahead ++ items_left f) ++ items f.limit (0 + length bytes) (open_of f.kind f.limit bytes) pulled in
    let all : items_of f.kind f.limit (bytes ++ pulled) ≡ given ++ more =
    items-append f.limit 0 (beginning f.kind) bytes pulled
    ∙ ap (λ i. i ++ items f.limit (0 + length bytes) (open_of f.kind f.limit bytes) pulled) (h.framed.items ∙ append_assoc given (items_ahead s.reader.ahead) (items_left f))
    ∙ append_assoc given (items_ahead s.reader.ahead ++ items_left f) (items f.limit (0 + length bytes) (open_of f.kind f.limit bytes) pulled) in
    let read = is-read f.kind f.limit s.feed.from s.feed.peer s.feed.told parts s.reader.given_up (done ++ behind) ups (bytes ++ pulled) given told h.read in
    let first = read-first f.kind f.limit s.feed.from s.feed.peer parts s.reader.given_up (done ++ behind) ups (bytes ++ pulled) given more read all in (
      behind ++ map (record_of s.feed.from s.feed.peer) more,
      sym (records-as f.kind spec.kind f.limit spec.limit s.feed.from spec.from parts ready.kind ready.limit ready.from) ∙ first
          ∙ append_assoc done behind (map (record_of s.feed.from s.feed.peer) more),
    )

none-of : (offers : ℕ → Record → List Offer → Type 0) (spec : SourceSpec) (rs : List Record) (held : List Admission) → held ≡ [] → AreOf offers spec rs held → rs ≡ []
none-of offers spec [] held is are = refl
none-of offers spec (r ∷ rs) held is are = absurd (subst (λ as'. AreOf offers spec (r ∷ rs) as') is are)

parts-as : (k k' : FrameKind) (l l' : ℕ) (parts : List Part) → k ≡ k' → l ≡ l' → bad_parts k l parts ≡ bad_parts k' l' parts
parts-as k k' l l' parts a b = ap (λ x. bad_parts x l parts) a ∙ ap (λ x. bad_parts k' x parts) b

pub reads-all : (offers : ℕ → Record → List Offer → Type 0) (dests : ℕ) (spec : SourceSpec) (s : SourceState) → ReadsAll offers dests spec s
reads-all offers dests spec s done ups parts ready (behind, (are, (bytes, (given, h)))) over told =
    let f = s.reader.framer in
    let pulled : List Stamped = bytes_pulled s.reader.pulled s.buffer in
    let fed : bytes ++ pulled ≡ bytes = ap (λ b. bytes ++ b) (fed-none s.reader.pulled s.buffer over.spent.fed) ∙ append-nil bytes in
    let empty = dealt-items f s.reader.given_up s.reader.ahead over.spent.ahead ready.ahead in
    let bad = dealt-forms f s.reader.given_up s.reader.ahead (s.reader.held ≡ []) over.spent.ahead ready.ahead ready.bad in
    let all : items_of f.kind f.limit (bytes ++ pulled) ≡ given ++ [] =
    ap (λ b. items_of f.kind f.limit b) fed ∙ h.framed.items ∙ ap (λ i. (given ++ items_ahead s.reader.ahead) ++ i) empty.1 ∙ append-nil (given ++ items_ahead s.reader.ahead)
    ∙ ap (λ i. given ++ i) empty.0 in
    let none : done ++ behind ≡ done = ap (λ rs. done ++ rs) (none-of offers spec behind s.reader.held over.spent.held are) ∙ append-nil done in
    let read = is-read f.kind f.limit s.feed.from s.feed.peer s.feed.told parts s.reader.given_up (done ++ behind) ups (bytes ++ pulled) given told h.read in
    let whole = read-first f.kind f.limit s.feed.from s.feed.peer parts s.reader.given_up (done ++ behind) ups (bytes ++ pulled) given [] read all in
    let last : bad_forms (open_of f.kind f.limit (last_given parts)) ≡ one_if s.reader.given_up =
    ap (λ b. bad_forms (open_of f.kind f.limit b)) (sym read.given ∙ fed) ∙ ap bad_forms h.framed.still_open ∙ bad in
    let count : bad_parts f.kind f.limit parts ≡ bad_parts f.kind f.limit (earlier parts) + bad_forms (open_of f.kind f.limit (last_given parts)) = bad-last f.kind f.limit parts in
    let given_up : ups ≡ bad_parts f.kind f.limit (earlier parts) + one_if s.reader.given_up = read.given_up in
    let same : bad_parts f.kind f.limit parts ≡ bad_parts spec.kind spec.limit parts = parts-as f.kind spec.kind f.limit spec.limit parts ready.kind ready.limit in (
      sym none ∙ sym (append-nil (done ++ behind)) ∙ sym whole ∙ records-as f.kind spec.kind f.limit spec.limit s.feed.from spec.from parts ready.kind ready.limit ready.from,
      omega arith,
    )

-- Lines.

abbrev IsText : Form → Type 0
IsText (Text line) = Unit {0}
IsText form = ⊥

text-if : (b : Bool) (form form' : Form) → IsText form → IsText form' → IsText (if b then form else form')
text-if true form form' h k = h
text-if false form form' h k = k

text-at : (limit place : ℕ) (form : Form) (b : ℕ) → IsText form → IsText (open_at limit place form b)
text-at limit place (Text line) b h =
    text-if (b == 10) (Text []) (if length line == limit then Text (b ∷ []) else Text (line ++ b ∷ [])) tt (text-if (length line == limit) (Text (b ∷ [])) (Text (line ++ b ∷ [])) tt tt)
text-at limit place (Count value) b h = absurd h
text-at limit place (Body missing text) b h = absurd h
text-at limit place (Bad bad) b h = absurd h

text-after : (limit place : ℕ) (form : Form) (bytes : List Stamped) → IsText form → IsText (open_after limit place form bytes)
text-after limit place form [] h = h
text-after limit place form (b ∷ bytes) h = text-after limit (place + 1) (open_at limit place form b.0) bytes (text-at limit place form b.0 h)

text-left : (f : Framing) → f.kind ≡ Lines → IsText (open_left f)
text-left f is = text-after f.limit f.place (beginning f.kind) f.held (subst (λ k. IsText (beginning k)) (sym is) tt)

never-bad : (f : Framing) (ahead : Framed) → f.kind ≡ Lines → IsFramedAhead f ahead → IsBadFrame ahead → ⊥
never-bad f (Given text end at) is h bad = bad
never-bad f More is h bad = bad
never-bad f (BadFrame place) is h bad = subst IsText h.1 (text-left f is)

up-by : (up : Bool) (A : Type 0) → (up ≡ true → A) → (A → ⊥) → up ≡ false
up-by true A h k = absurd (k (h refl))
up-by false A h k = refl

pub stays-whole : (dests : ℕ) (spec : SourceSpec) (s : SourceState) → StaysWhole dests spec s
stays-whole dests spec s ready lines =
    let kind = ready.kind ∙ lines in
    let going = up-by s.reader.given_up (IsBadFrame s.reader.ahead) (λ e. (ready.bad e).0) (λ bad. never-bad s.reader.framer s.reader.ahead kind ready.ahead bad) in
    (going, (λ e. (ready.over e).1 going))
