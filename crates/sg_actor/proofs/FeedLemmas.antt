-- What the steps that bring nothing to the core leave of what was read.
use Rattle.std.proofs.Common.{arith, ◌≡◌, ◌≤◌, ◌+◌, ℕ, Bool, true, false, List, [], ◌∷◌, ◌++◌, length, take, refl, ap, sym, ◌∙◌, subst, length-append}
use Rattle.std.proofs.lemmas.List.{append-nil, length-map, length-take-le}
use Rattle.std.specs.Prelude.{ℤ, Ok}
use Rattle.std.specs.Option.{option_map}
use Rattle.sg_device.specs.Inlet.{Stamped, InletState, with_bytes, with_part, stamped, PullTells}
use Rattle.sg_device.specs.declared.inlet.Pull.{Pull}
use Rattle.sg_device.specs.declared.inlet.Pull.TheVariants.{Bytes, Next, Idle, End}
use Rattle.sg_frame.specs.declared.framer.Framed.{Framed}
use Rattle.sg_frame.specs.declared.framer.Framed.TheVariants.{Item as Given, More, BadFrame}
use Rattle.sg_frame.specs.Items.{Item, items_of, open_of}
use Rattle.sg_frame.specs.Framing.{Framing, HasFramed, GoesOnFraming, GivesItem, NextTells, items_left, open_left, fresh, fed, with_bytes as with_fed}
use Rattle.sg_frame.specs.Records.{Record}
use Rattle.sg_actor.specs.Reading.{one_if, bad_forms, AreItemsRead, items_ahead, bytes_pulled}
use Rattle.sg_actor.specs.Sources.{source, ReadsRecords}
use Rattle.sg_actor.specs.Steps.{IsFed, HasFed, HasAsked}
use Rattle.sg_actor.specs.declared.reader.Reader.{Reader}
use Rattle.sg_actor.proofs.ReadLemmas.{read-pulled, read-part, read-up}

pub fed-none : (pull : Pull) (buffer : List ℕ) → IsFed pull → bytes_pulled pull buffer ≡ []
fed-none (Bytes len at) buffer h = absurd h
fed-none Next buffer h = refl
fed-none Idle buffer h = refl
fed-none End buffer h = refl

pub stamped-len : (into : List ℕ) (len : ℕ) (at : ℤ) → len ≤ length into → length (stamped (take len into) at) ≡ len
stamped-len into len at fits = length-map (take len into) (λ b. (b, at)) ∙ length-take-le len into fits

-- what was pulled is fed
fed-explicit : (feed : InletState) (buffer : List ℕ) (old : Reader) (f : Framing) → GoesOnFraming old.framer (with_fed old.framer (bytes_pulled old.pulled buffer)) (bytes_pulled old.pulled buffer) []
    → f ≡ with_fed old.framer (bytes_pulled old.pulled buffer) → (done : List Record) (ups : ℕ) → ReadsRecords (source feed old buffer) done ups
    → ReadsRecords (source feed (record old { framer = with_fed old.framer (bytes_pulled old.pulled buffer); pulled = Idle }) buffer) done ups
fed-explicit feed buffer old f goes f-is done ups (bytes, (items, h)) =
    let xs : List Stamped = bytes_pulled old.pulled buffer in (
      bytes ++ xs,
      (
        items,
        record {
          framed = subst (λ i. HasFramed (bytes ++ xs) i (with_fed old.framer xs)) (append-nil (items ++ items_ahead old.ahead)) (goes bytes (items ++ items_ahead old.ahead) h.framed);
          read = subst (λ b. AreItemsRead old.framer.kind old.framer.limit feed.from feed.peer feed.told old.given_up done ups b items) (sym (append-nil (bytes ++ xs))) h.read;
          fewer = (let before : length done + length (items_ahead old.ahead) + length old.framer.held + length xs ≤ feed.bytes = h.fewer in
              let more : length (old.framer.held ++ xs) ≡ length old.framer.held + length xs = length-append old.framer.held xs in
              omega arith);
        },
      ),
    )

pub reads-fed : (feed : InletState) (buffer : List ℕ) (old new : Reader) → HasFed buffer old new → (done : List Record) (ups : ℕ)
    → ReadsRecords (source feed old buffer) done ups → ReadsRecords (source feed new buffer) done ups
reads-fed feed buffer old new fed done ups h =
    let goes = subst (λ f. GoesOnFraming old.framer f (bytes_pulled old.pulled buffer) []) fed.framer fed.goes in
    subst (λ r. ReadsRecords (source feed r buffer) done ups) (sym (fed.rest ∙ ap (λ f. record old { framer = f; pulled = Idle }) fed.framer))
    (fed-explicit feed buffer old new.framer goes fed.framer done ups h)

-- an item was found whole
asked-item : (feed : InletState) (buffer : List ℕ) (old : Reader) (f : Framing) (text : List ℕ) (end : ℕ) (at : ℤ) → old.ahead ≡ More
    → GivesItem old.framer f (record { text = text; at = at; end = end })
    → (done : List Record) (ups : ℕ) → ReadsRecords (source feed old buffer) done ups → ReadsRecords (source feed (record old { framer = f; ahead = Given text end at }) buffer) done ups
asked-item feed buffer old f text end at none gives done ups (bytes, (items, h)) =
    let item : Item = record { text = text; at = at; end = end } in
    let framed : HasFramed bytes (items ++ []) old.framer = subst (λ a. HasFramed bytes (items ++ items_ahead a) old.framer) none h.framed in
    let framed' = subst (λ i. HasFramed bytes i old.framer) (append-nil items) framed in
    let next = gives.history bytes items framed' in (
      bytes,
      (
        items,
        record {
          framed = subst (λ b. HasFramed b (items ++ item ∷ []) f) (append-nil bytes) next;
          read = subst (λ g. AreItemsRead g.kind g.limit feed.from feed.peer feed.told old.given_up done ups (bytes ++ bytes_pulled old.pulled buffer) items) (sym gives.rest) h.read;
          fewer = (let before : length done + length (items_ahead old.ahead) + length old.framer.held + length (bytes_pulled old.pulled buffer) ≤ feed.bytes = h.fewer in
              omega (arith, gives.shorter));
        },
      ),
    )

asked-none : (feed : InletState) (buffer : List ℕ) (old : Reader) (ahead : Framed) → old.ahead ≡ More → items_ahead ahead ≡ []
    → (done : List Record) (ups : ℕ) → ReadsRecords (source feed old buffer) done ups → ReadsRecords (source feed (record old { ahead = ahead }) buffer) done ups
asked-none feed buffer old ahead none empty done ups (bytes, (items, h)) =
    let same : items_ahead old.ahead ≡ items_ahead ahead = ap items_ahead none ∙ sym empty in (
      bytes,
      (
        items,
        record {
          framed = subst (λ a. HasFramed bytes (items ++ a) old.framer) same h.framed;
          read = h.read;
          fewer = subst (λ a. length done + length a + length old.framer.held + length (bytes_pulled old.pulled buffer) ≤ feed.bytes) same h.fewer;
        },
      ),
    )

asked-by : (feed : InletState) (buffer : List ℕ) (old : Reader) (f : Framing) (ahead : Framed) → old.ahead ≡ More → NextTells old.framer f (Ok ahead)
    → (done : List Record) (ups : ℕ) → ReadsRecords (source feed old buffer) done ups → ReadsRecords (source feed (record old { framer = f; ahead = ahead }) buffer) done ups
asked-by feed buffer old f (Given text end at) none told done ups h = asked-item feed buffer old f text end at none told done ups h
asked-by feed buffer old f More none told done ups h =
    subst (λ g. ReadsRecords (source feed (record old { framer = g; ahead = More }) buffer) done ups) (sym told.0) (asked-none feed buffer old More none refl done ups h)
asked-by feed buffer old f (BadFrame place) none told done ups h =
    subst (λ g. ReadsRecords (source feed (record old { framer = g; ahead = BadFrame place }) buffer) done ups) (sym told.0) (asked-none feed buffer old (BadFrame place) none refl done ups h)

pub reads-asked : (feed : InletState) (buffer : List ℕ) (old new : Reader) → old.ahead ≡ More → HasAsked old new → (done : List Record) (ups : ℕ)
    → ReadsRecords (source feed old buffer) done ups → ReadsRecords (source feed new buffer) done ups
reads-asked feed buffer old new none asked done ups h =
    subst (λ r. ReadsRecords (source feed r buffer) done ups) (sym asked.rest) (asked-by feed buffer old new.framer new.ahead none asked.told done ups h)

-- bytes were pulled
pub reads-pulled : (feed feed' : InletState) (buffer buffer' : List ℕ) (reader : Reader) (len : ℕ) (at : ℤ) → IsFed reader.pulled → len ≤ length buffer'
    → PullTells feed feed' buffer' (Ok (Bytes len at)) → feed'.from ≡ feed.from → feed'.bytes ≡ feed.bytes + len
    → (done : List Record) (ups : ℕ) → ReadsRecords (source feed reader buffer) done ups → ReadsRecords (source feed' (record reader { pulled = Bytes len at }) buffer') done ups
reads-pulled feed feed' buffer buffer' reader len at fed fits tells from count done ups (bytes, (items, h)) =
    let none : bytes_pulled reader.pulled buffer ≡ [] = fed-none reader.pulled buffer fed in
    let xs : List Stamped = stamped (take len buffer') at in
    let told-is : feed'.told ≡ option_map (λ parts. with_bytes parts feed.peer xs) feed.told =
    tells.0 ∙ ap (λ p. option_map (λ parts. with_bytes parts p xs) feed.told) tells.1 in
    let before : AreItemsRead reader.framer.kind reader.framer.limit feed.from feed.peer feed.told reader.given_up done ups bytes items =
    subst (λ b. AreItemsRead reader.framer.kind reader.framer.limit feed.from feed.peer feed.told reader.given_up done ups b items) (ap (λ b. bytes ++ b) none ∙ append-nil bytes) h.read in (
      bytes,
      (
        items,
        record {
          framed = h.framed;
          read = rw (from, tells.1) (read-pulled reader.framer.kind reader.framer.limit feed.from feed.peer feed.told feed'.told reader.given_up done ups bytes xs items before told-is);
          fewer = (let old : length done + length (items_ahead reader.ahead) + length reader.framer.held + length (bytes_pulled reader.pulled buffer) ≤ feed.bytes = h.fewer in
              let gone : length (bytes_pulled reader.pulled buffer) ≡ 0 = ap length none in
              let more : length xs ≡ len = stamped-len buffer' len at fits in
              omega arith);
        },
      ),
    )

-- a part began
pub reads-part : (feed feed' : InletState) (buffer buffer' : List ℕ) (reader : Reader) → IsFed reader.pulled → items_ahead reader.ahead ≡ [] → items_left reader.framer ≡ []
    → bad_forms (open_left reader.framer) ≡ one_if reader.given_up
    → feed'.told ≡ option_map (λ parts. with_part parts feed'.peer) feed.told → feed'.from ≡ feed.from → feed'.bytes ≡ feed.bytes
    → (done : List Record) (ups : ℕ) → ReadsRecords (source feed reader buffer) done ups
    → ReadsRecords (source feed' (record reader { framer = fresh reader.framer.kind reader.framer.limit; ahead = More; given_up = false }) buffer') done ups
reads-part feed feed' buffer buffer' reader fed none spent bad told from count done ups (bytes, (items, h)) =
    let kind = reader.framer.kind in
    let limit = reader.framer.limit in
    let unfed : bytes_pulled reader.pulled buffer ≡ [] = fed-none reader.pulled buffer fed in
    let unfed' : bytes_pulled reader.pulled buffer' ≡ [] = fed-none reader.pulled buffer' fed in
    let before : AreItemsRead kind limit feed.from feed.peer feed.told reader.given_up done ups bytes items =
    subst (λ b. AreItemsRead kind limit feed.from feed.peer feed.told reader.given_up done ups b items) (ap (λ b. bytes ++ b) unfed ∙ append-nil bytes) h.read in
    let are : items_of kind limit bytes ≡ items =
    h.framed.items ∙ ap (λ i. (items ++ items_ahead reader.ahead) ++ i) spent ∙ append-nil (items ++ items_ahead reader.ahead) ∙ ap (λ i. items ++ i) none ∙ append-nil items in
    let bad' : bad_forms (open_of kind limit bytes) ≡ one_if reader.given_up = ap bad_forms h.framed.still_open ∙ bad in (
      [],
      (
        [],
        record {
          framed = record { items = refl; still_open = refl; fed = refl };
          read = rw (from, unfed') (read-part kind limit feed.from feed.peer feed'.peer feed.told feed'.told reader.given_up done ups bytes items before are bad' told);
          fewer = (let old : length done + length (items_ahead reader.ahead) + length reader.framer.held + length (bytes_pulled reader.pulled buffer) ≤ feed.bytes = h.fewer in
              let gone : length (bytes_pulled reader.pulled buffer') ≡ 0 = ap length unfed' in
              omega arith);
        },
      ),
    )

-- nothing was given
pub reads-same : (feed feed' : InletState) (buffer buffer' : List ℕ) (reader : Reader) (ended failed : Bool) → IsFed reader.pulled
    → feed'.told ≡ feed.told → feed'.peer ≡ feed.peer → feed'.from ≡ feed.from → feed'.bytes ≡ feed.bytes
    → (done : List Record) (ups : ℕ) → ReadsRecords (source feed reader buffer) done ups
    → ReadsRecords (source feed' (record reader { ended = ended; failed = failed }) buffer') done ups
reads-same feed feed' buffer buffer' reader ended failed fed told peer from count done ups (bytes, (items, h)) =
    let same : bytes_pulled reader.pulled buffer' ≡ bytes_pulled reader.pulled buffer = fed-none reader.pulled buffer' fed ∙ sym (fed-none reader.pulled buffer fed) in (
      bytes,
      (
        items,
        record {
          framed = h.framed;
          read = rw (told, peer, from, same) h.read;
          fewer = rw (count, same) h.fewer;
        },
      ),
    )

-- the present part is given up
pub reads-up : (feed : InletState) (buffer : List ℕ) (reader : Reader) (hung : Bool) → reader.given_up ≡ false
    → (done : List Record) (ups : ℕ) → ReadsRecords (source feed reader buffer) done ups → ReadsRecords (source (record feed { hung = hung }) (record reader { given_up = true }) buffer) done (ups + 1)
reads-up feed buffer reader hung going done ups (bytes, (items, h)) =
    let before : AreItemsRead reader.framer.kind reader.framer.limit feed.from feed.peer feed.told false done ups (bytes ++ bytes_pulled reader.pulled buffer) items =
    subst (λ up. AreItemsRead reader.framer.kind reader.framer.limit feed.from feed.peer feed.told up done ups (bytes ++ bytes_pulled reader.pulled buffer) items) going h.read in (
      bytes,
      (
        items,
        record {
          framed = h.framed;
          read = read-up reader.framer.kind reader.framer.limit feed.from feed.peer feed.told done ups (bytes ++ bytes_pulled reader.pulled buffer) items before;
          fewer = h.fewer;
        },
      ),
    )
