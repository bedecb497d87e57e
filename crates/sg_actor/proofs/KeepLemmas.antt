-- Steps one after another, and what each leaves.
use Rattle.std.proofs.Common.{arith, ◌≡◌, ◌≤◌, ◌<◌, ◌+◌, ◌^◌, ℕ, Bool, true, false, List, [], ◌∷◌, ◌++◌, length, refl, ap, sym, ◌∙◌, subst, append_assoc, length-append, max}
use Rattle.std.proofs.lemmas.List.{append-nil}
use Rattle.std.specs.Prelude.{ℤ, Ok}
use Rattle.sg_device.specs.Inlet.{InletState}
use Rattle.sg_device.specs.declared.inlet.Pull.{Pull}
use Rattle.sg_device.specs.declared.inlet.Pull.TheVariants.{Bytes, Next, Idle, End}
use Rattle.sg_device.proofs.Inlets.{advances_refl, advances_trans}
use Rattle.sg_msg.specs.declared.offer.Offer.{Offer}
use Rattle.sg_machine.specs.declared.event.Admission.{Admission}
use Rattle.sg_frame.specs.declared.framer.Framed.{Framed}
use Rattle.sg_frame.specs.declared.framer.Framed.TheVariants.{Item as Given, More, BadFrame}
use Rattle.sg_frame.specs.Items.{Item}
use Rattle.sg_frame.specs.Framing.{Framing, HasFramed, NextTells, fed}
use Rattle.sg_frame.specs.Records.{Record, record_of}
use Rattle.sg_route.specs.Offers.{record_at, SameOffers}
use Rattle.sg_counter.specs.Bringing.{MayEnter}
use Rattle.sg_actor.specs.Reading.{items_ahead, bytes_pulled, AreItemsRead}
use Rattle.sg_actor.specs.Sources.{SourceState, source, ReadsRecords, end_of, IsOf, AreOf, HasRead, IsFramedAhead, IsBadFrame, IsReady}
use Rattle.sg_actor.specs.Steps.{FedBy, LooksBy, IsFed, SourceRestsStill, KeepsRecords, KeepsAll, IsLookedAhead, HasTakenRecords, TakesOne, IsAsBefore, end_at}
use Rattle.sg_actor.specs.declared.reader.Reader.{Reader}
use Rattle.sg_actor.specs.declared.settings.SourceSpec.{SourceSpec}
use Rattle.sg_actor.proofs.ReadLemmas.{read-taken}
use Rattle.sg_actor.proofs.FeedLemmas.{reads-fed, reads-asked}
use Rattle.sg_actor.proofs.ReadyLemmas.{ready-fed, ready-asked, ready-taken}
use Rattle.sg_msg.specs.Offers.{AllWithin}

-- Records of a router, and of one that says the same.

pub are-as : (old new : ℕ → Record → List Offer → Type 0) (spec : SourceSpec) → ((i : ℕ) (r : Record) (offers : List Offer) → old i r offers → new i r offers)
    → (rs : List Record) (held : List Admission) → AreOf old spec rs held → AreOf new spec rs held
are-as old new spec forth [] [] h = tt
are-as old new spec forth [] (a ∷ held) h = absurd h
are-as old new spec forth (r ∷ rs) [] h = absurd h
are-as old new spec forth (r ∷ rs) (a ∷ held) h = (
  record { ends = h.0.ends; offered = forth spec.inlet (record_at r.peer r.item.text r.item.at) a.offers h.0.offered },
  are-as old new spec forth rs held h.1,
)

pub read-as : (old new : ℕ → Record → List Offer → Type 0) (spec : SourceSpec) → ((i : ℕ) (r : Record) (offers : List Offer) → old i r offers → new i r offers)
    → (s : SourceState) (done : List Record) (ups : ℕ) → HasRead old spec s done ups → HasRead new spec s done ups
read-as old new spec forth s done ups (behind, h) = (behind, (are-as old new spec forth behind s.reader.held h.0, h.1))

pub are-append : (offers : ℕ → Record → List Offer → Type 0) (spec : SourceSpec) (rs qs : List Record) (held more : List Admission)
    → AreOf offers spec rs held → AreOf offers spec qs more → AreOf offers spec (rs ++ qs) (held ++ more)
are-append offers spec [] qs [] more h k = k
are-append offers spec [] qs (a ∷ held) more h k = absurd h
are-append offers spec (r ∷ rs) qs [] more h k = absurd h
are-append offers spec (r ∷ rs) qs (a ∷ held) more h k = (h.0, are-append offers spec rs qs held more h.1 k)

-- Steps.

pub keeps-none : (offers : ℕ → Record → List Offer → Type 0) (dests : ℕ) (spec : SourceSpec) (s : SourceState) → IsReady dests spec s → KeepsRecords offers dests spec s s
keeps-none offers dests spec s ready = record {
  ready = ready;
  reads = λ done ups h. h;
  end = refl;
  advances = advances_refl s.feed;
  parts = omega arith;
}

pub keeps-then : (offers : ℕ → Record → List Offer → Type 0) (dests : ℕ) (spec : SourceSpec) (a b c : SourceState)
    → KeepsRecords offers dests spec a b → KeepsRecords offers dests spec b c → KeepsRecords offers dests spec a c
keeps-then offers dests spec a b c h k = record {
  ready = k.ready;
  reads = λ done ups read. k.reads done ups (h.reads done ups read);
  end = k.end ∙ h.end;
  advances = advances_trans a.feed b.feed c.feed h.advances k.advances;
  parts = omega (arith, h.parts, k.parts);
}

pub keeps-of : (offers : ℕ → Record → List Offer → Type 0) (dests : ℕ) (spec : SourceSpec) (a b : SourceState) → SourceRestsStill dests spec a b → KeepsRecords offers dests spec a b
keeps-of offers dests spec a b h = record {
  ready = h.ready;
  reads = (λ done ups read. (read.0, (subst (λ held. AreOf offers spec read.0 held) (sym h.held) read.1.0, h.reads (done ++ read.0) ups read.1.1)));
  end = h.end;
  advances = h.advances;
  parts = h.parts;
}

-- with a router that says the same
pub keeps-as : (old new : ℕ → Record → List Offer → Type 0) (dests : ℕ) (spec : SourceSpec) (a b : SourceState) → SameOffers old new
    → KeepsRecords new dests spec a b → KeepsRecords old dests spec a b
keeps-as old new dests spec a b same h = record {
  ready = h.ready;
  reads = λ done ups read. read-as new old spec same.back b done ups (h.reads done ups (read-as old new spec same.forth a done ups read));
  end = h.end;
  advances = h.advances;
  parts = h.parts;
}

rests-none : (dests : ℕ) (spec : SourceSpec) (s t : SourceState) → t ≡ s → IsReady dests spec s → SourceRestsStill dests spec s t
rests-none dests spec s t is ready = subst (λ t'. SourceRestsStill dests spec s t') (sym is) (record {
  ready = ready;
  reads = λ done ups h. h;
  held = refl;
  end = refl;
  advances = advances_refl s.feed;
  parts = omega arith;
})

rests-same : (dests : ℕ) (spec : SourceSpec) (feed : InletState) (buffer : List ℕ) (old new : Reader) → new ≡ old → IsReady dests spec (source feed old buffer)
    → SourceRestsStill dests spec (source feed old buffer) (source feed new buffer)
rests-same dests spec feed buffer old new is ready = rests-none dests spec (source feed old buffer) (source feed new buffer) (ap (λ r. source feed r buffer) is) ready

-- what was pulled was fed
pub rests-fed : (dests : ℕ) (spec : SourceSpec) (feed : InletState) (buffer : List ℕ) (old new : Reader) (pull : Pull) → FedBy buffer pull old new
    → IsReady dests spec (source feed old buffer) → SourceRestsStill dests spec (source feed old buffer) (source feed new buffer)
rests-fed dests spec feed buffer old new (Bytes len at) has ready = record {
  ready = ready-fed dests spec feed buffer old new has ready;
  reads = reads-fed feed buffer old new has;
  held = ap (λ r. r.held) has.rest;
  end = ap (λ r. r.end) has.rest;
  advances = advances_refl feed;
  parts = (let same : new.given_up ≡ old.given_up = ap (λ r. r.given_up) has.rest in rw same (omega arith));
}
rests-fed dests spec feed buffer old new Next has ready = rests-same dests spec feed buffer old new has ready
rests-fed dests spec feed buffer old new Idle has ready = rests-same dests spec feed buffer old new has ready
rests-fed dests spec feed buffer old new End has ready = rests-same dests spec feed buffer old new has ready

pub is-fed : (buffer : List ℕ) (old new : Reader) (pull : Pull) → old.pulled ≡ pull → FedBy buffer pull old new → IsFed new.pulled
is-fed buffer old new (Bytes len at) is has = let P : Pull → Type 0 = λ p. IsFed p in subst P (sym (ap (λ r. r.pulled) has.rest)) tt
is-fed buffer old new Next is has = let P : Pull → Type 0 = λ p. IsFed p in subst P (sym (ap (λ r. r.pulled) has ∙ is)) tt
is-fed buffer old new Idle is has = let P : Pull → Type 0 = λ p. IsFed p in subst P (sym (ap (λ r. r.pulled) has ∙ is)) tt
is-fed buffer old new End is has = let P : Pull → Type 0 = λ p. IsFed p in subst P (sym (ap (λ r. r.pulled) has ∙ is)) tt

-- the framer was asked
pub rests-looked : (dests : ℕ) (spec : SourceSpec) (feed : InletState) (buffer : List ℕ) (old new : Reader) (ahead : Framed) → old.ahead ≡ ahead → LooksBy ahead old new
    → IsReady dests spec (source feed old buffer) → SourceRestsStill dests spec (source feed old buffer) (source feed new buffer)
rests-looked dests spec feed buffer old new (Given text end at) is looks ready = rests-same dests spec feed buffer old new looks ready
rests-looked dests spec feed buffer old new More is looks ready = record {
  ready = ready-asked dests spec feed buffer old new is looks ready;
  reads = reads-asked feed buffer old new is looks;
  held = ap (λ r. r.held) looks.rest;
  end = ap (λ r. r.end) looks.rest;
  advances = advances_refl feed;
  parts = (let same : new.given_up ≡ old.given_up = ap (λ r. r.given_up) looks.rest in rw same (omega arith));
}
rests-looked dests spec feed buffer old new (BadFrame place) is looks ready = rests-same dests spec feed buffer old new looks ready

told-looked : (f f' : Framing) (ahead : Framed) → NextTells f f' (Ok ahead) → ahead ≡ More → IsLookedAhead f' More
told-looked f f' (Given text end at) told is = absurd (let differ : Given text end at ≡ More = is in cc)
told-looked f f' More told is = (let P : Framing → Type 0 = λ g. IsLookedAhead g More in subst P (sym told.0) (told.1, told.2))
told-looked f f' (BadFrame place) told is = absurd (let differ : BadFrame place ≡ More = is in cc)

-- where nothing is ahead then, no item is whole
pub looked-more : (old new : Reader) (ahead : Framed) → old.ahead ≡ ahead → LooksBy ahead old new → new.ahead ≡ More → IsLookedAhead new.framer More
looked-more old new (Given text end at) is looks none =
    absurd (let differ : Given text end at ≡ More = sym is ∙ sym (ap (λ r. r.ahead) looks) ∙ none in cc)
looked-more old new More is looks none = told-looked old.framer new.framer new.ahead looks.told none
looked-more old new (BadFrame place) is looks none =
    absurd (let differ : BadFrame place ≡ More = sym is ∙ sym (ap (λ r. r.ahead) looks) ∙ none in cc)

pub looked-rest : (f : Framing) (ahead : Framed) → ((text : List ℕ) (end : ℕ) (at : ℤ) → ahead ≡ Given text end at → ⊥) → (ahead ≡ More → IsLookedAhead f More) → IsLookedAhead f ahead
looked-rest f (Given text end at) none more = absurd (none text end at refl)
looked-rest f More none more = more refl
looked-rest f (BadFrame place) none more = tt

pub held-looked : (old new : Reader) (ahead : Framed) → LooksBy ahead old new → new.held ≡ old.held
held-looked old new (Given text end at) looks = ap (λ r. r.held) looks
held-looked old new More looks = ap (λ r. r.held) looks.rest
held-looked old new (BadFrame place) looks = ap (λ r. r.held) looks

-- Taking.

ends-at : (stored : Bool) (from end : ℕ) (r : Record) → r.item.end ≡ from + end → end_at stored from end ≡ end_of stored r
ends-at true from end r is = sym is
ends-at false from end r is = refl

ends-below : (stored : Bool) (from end : ℕ) → from + end < 2 ^ 63 → end_at stored from end < 2 ^ 63
ends-below true from end h = h
ends-below false from end h = omega arith

pub ahead-below : (dests : ℕ) (spec : SourceSpec) (s : SourceState) (text : List ℕ) (end : ℕ) (at : ℤ) → s.reader.ahead ≡ Given text end at → IsReady dests spec s
    → spec.from + end < 2 ^ 63
ahead-below dests spec s text end at is ready =
    let ahead = subst (λ a. IsFramedAhead s.reader.framer a) is ready.ahead in
    let place : s.feed.from + (fed s.reader.framer + length (bytes_pulled s.reader.pulled s.buffer)) ≡ s.feed.place = ready.place in
    omega (arith, ahead.1, ready.in_range, ready.from)

reads-taken : (feed : InletState) (buffer : List ℕ) (reader : Reader) (text : List ℕ) (end : ℕ) (at : ℤ) (held : List Admission) → reader.ahead ≡ Given text end at
    → (done behind : List Record) (ups : ℕ) → ReadsRecords (source feed reader buffer) (done ++ behind) ups
    → ReadsRecords (source feed (record reader { held = held; ahead = More }) buffer) (done ++ (behind ++ record_of feed.from feed.peer (record { text = text; at = at; end = end }) ∷ [])) ups
reads-taken feed buffer reader text end at held is done behind ups (bytes, (items, h)) =
    let item : Item = record { text = text; at = at; end = end } in
    let r : Record = record_of feed.from feed.peer item in
    let framed : HasFramed bytes (items ++ item ∷ []) reader.framer = subst (λ a. HasFramed bytes (items ++ items_ahead a) reader.framer) is h.framed in
    let read = read-taken reader.framer.kind reader.framer.limit feed.from feed.peer feed.told reader.given_up (done ++ behind) ups (bytes ++ bytes_pulled reader.pulled buffer) items item h.read in
    let joined : (done ++ behind) ++ r ∷ [] ≡ done ++ (behind ++ r ∷ []) = append_assoc done behind (r ∷ []) in (
      bytes,
      (
        items ++ item ∷ [],
        record {
          framed = subst (λ i. HasFramed bytes i reader.framer) (sym (append-nil (items ++ item ∷ []))) framed;
          read = subst (λ d. AreItemsRead reader.framer.kind reader.framer.limit feed.from feed.peer feed.told reader.given_up d ups (bytes ++ bytes_pulled reader.pulled buffer) (items ++ item ∷ [])) joined read;
          fewer = (let before : length (done ++ behind) + length (items_ahead reader.ahead) + length reader.framer.held + length (bytes_pulled reader.pulled buffer) ≤ feed.bytes = h.fewer in
              let one : length (items_ahead reader.ahead) ≡ 1 = ap (λ a. length (items_ahead a)) is in
              let more : length ((done ++ behind) ++ r ∷ []) ≡ length (done ++ behind) + 1 = length-append (done ++ behind) (r ∷ []) in
              let same : length (done ++ (behind ++ r ∷ [])) ≡ length ((done ++ behind) ++ r ∷ []) = ap length (sym joined) in
              omega arith);
        },
      ),
    )

still-going : (up : Bool) (ahead : Framed) (A : Type 0) (text : List ℕ) (end : ℕ) (at : ℤ) → ahead ≡ Given text end at → (up ≡ true → IsBadFrame ahead × A) → up ≡ false
still-going true ahead A text end at is h = absurd (subst IsBadFrame is (h refl).0)
still-going false ahead A text end at is h = refl

going-on : (dests : ℕ) (spec : SourceSpec) (feed : InletState) (buffer : List ℕ) (reader : Reader) (text : List ℕ) (end : ℕ) (at : ℤ) → reader.ahead ≡ Given text end at
    → IsReady dests spec (source feed reader buffer) → reader.given_up ≡ false
going-on dests spec feed buffer reader text end at is ready = still-going reader.given_up reader.ahead (reader.held ≡ []) text end at is ready.bad

-- the record of the item ahead is held
pub keeps-taken : (offers : ℕ → Record → List Offer → Type 0) (dests : ℕ) (spec : SourceSpec) (feed : InletState) (buffer : List ℕ) (reader : Reader) (text : List ℕ) (end : ℕ) (at : ℤ) (a : Admission)
    → reader.ahead ≡ Given text end at → a.end ≡ end_at spec.stored spec.from end → offers spec.inlet (record_at feed.peer text at) a.offers
    → length a.offers ≤ 1024 → AllWithin dests a.offers → length reader.held < spec.fetch → IsReady dests spec (source feed reader buffer)
    → KeepsRecords offers dests spec (source feed reader buffer) (source feed (record reader { held = reader.held ++ a ∷ []; ahead = More }) buffer)
keeps-taken offers dests spec feed buffer reader text end at a is ends offered few within room ready =
    let item : Item = record { text = text; at = at; end = end } in
    let r : Record = record_of feed.from feed.peer item in
    let from : feed.from ≡ spec.from = ready.from in
    let going = going-on dests spec feed buffer reader text end at is ready in
    let below = ahead-below dests spec (source feed reader buffer) text end at is ready in
    let may : MayEnter dests a = record { end = rw ends (ends-below spec.stored spec.from end below); few = few; dests = within } in
    let isof : IsOf offers spec r a = record { ends = ends ∙ ends-at spec.stored spec.from end r (ap (λ n. n + end) from); offered = offered } in
    record {
      ready = ready-taken dests spec feed buffer reader a going may room ready;
      reads = (λ done ups read. (
        read.0 ++ r ∷ [],
        (are-append offers spec read.0 (r ∷ []) reader.held (a ∷ []) read.1.0 (isof, tt), reads-taken feed buffer reader text end at (reader.held ++ a ∷ []) is done read.0 ups read.1.1),
      ));
      end = refl;
      advances = advances_refl feed;
      parts = omega arith;
    }

-- a step, and then one with a router that says the same
pub keeps-on : (offers offers' : ℕ → Record → List Offer → Type 0) (dests dests' : ℕ) (spec : SourceSpec) (feed : InletState) (a b c : Reader)
    → KeepsAll offers dests spec feed a b → SameOffers offers offers' → dests' ≡ dests → KeepsAll offers' dests' spec feed b c → KeepsAll offers dests spec feed a c
keeps-on offers offers' dests dests' spec feed a b c h same count k = λ buffer ready.
    let first = h buffer ready in
    let second = (subst (λ d. KeepsAll offers' d spec feed b c) count k) buffer first.ready in
    keeps-then offers dests spec (source feed a buffer) (source feed b buffer) (source feed c buffer) first (keeps-as offers offers' dests spec (source feed b buffer) (source feed c buffer) same second)

pub taken-then : (a b c : Reader) → HasTakenRecords a b → HasTakenRecords b c → HasTakenRecords a c
taken-then a b c h k = record {
  pulled = k.pulled ∙ h.pulled;
  ended = k.ended ∙ h.ended;
  failed = k.failed ∙ h.failed;
  given_up = k.given_up ∙ h.given_up;
}

pub takes-one : (E : Type 0) (old new : Reader) (took : Bool) → took ≡ true → TakesOne {E = E} old new (Ok took) → length new.held ≡ length old.held + 1
takes-one E old new true is h = h
takes-one E old new false is h = absurd (let differ : false ≡ true = is in cc)

-- what was read of what was pulled
pub keeps-whole : (offers : ℕ → Record → List Offer → Type 0) (dests : ℕ) (spec : SourceSpec) (feed : InletState) (buffer : List ℕ) (old mid new : Reader) → FedBy buffer old.pulled old mid
    → KeepsAll offers dests spec feed mid new → IsReady dests spec (source feed old buffer) → KeepsRecords offers dests spec (source feed old buffer) (source feed new buffer)
keeps-whole offers dests spec feed buffer old mid new fed k ready =
    let first = rests-fed dests spec feed buffer old mid old.pulled fed ready in
    keeps-then offers dests spec (source feed old buffer) (source feed mid buffer) (source feed new buffer) (keeps-of offers dests spec (source feed old buffer) (source feed mid buffer) first) (k buffer first.ready)

-- with a router that says the same
pub keeps-router : (offers offers' : ℕ → Record → List Offer → Type 0) (dests dests' : ℕ) (spec : SourceSpec) (a b : SourceState) → SameOffers offers offers' → dests' ≡ dests
    → KeepsRecords offers' dests' spec a b → KeepsRecords offers dests spec a b
keeps-router offers offers' dests dests' spec a b same count h = keeps-as offers offers' dests spec a b same (subst (λ d. KeepsRecords offers' d spec a b) count h)

fed-before : (buffer : List ℕ) (old new : Reader) (pull : Pull) → FedBy buffer pull old new → IsAsBefore old new
fed-before buffer old new (Bytes len at) has = record { ended = ap (λ r. r.ended) has.rest; failed = ap (λ r. r.failed) has.rest }
fed-before buffer old new Next has = record { ended = ap (λ r. r.ended) has; failed = ap (λ r. r.failed) has }
fed-before buffer old new Idle has = record { ended = ap (λ r. r.ended) has; failed = ap (λ r. r.failed) has }
fed-before buffer old new End has = record { ended = ap (λ r. r.ended) has; failed = ap (λ r. r.failed) has }

pub whole-before : (buffer : List ℕ) (old mid new : Reader) → FedBy buffer old.pulled old mid → HasTakenRecords mid new → IsAsBefore old new
whole-before buffer old mid new fed taken =
    let b = fed-before buffer old mid old.pulled fed in record { ended = taken.ended ∙ b.ended; failed = taken.failed ∙ b.failed }

fed-held : (buffer : List ℕ) (old new : Reader) (pull : Pull) → FedBy buffer pull old new → new.held ≡ old.held
fed-held buffer old new (Bytes len at) has = ap (λ r. r.held) has.rest
fed-held buffer old new Next has = ap (λ r. r.held) has
fed-held buffer old new Idle has = ap (λ r. r.held) has
fed-held buffer old new End has = ap (λ r. r.held) has

pub whole-few : (buffer : List ℕ) (old mid new : Reader) (most : ℕ) → FedBy buffer old.pulled old mid → length new.held ≤ max (length mid.held) most → length new.held ≤ max (length old.held) most
whole-few buffer old mid new most fed few = (let same : length mid.held ≡ length old.held = ap length (fed-held buffer old mid old.pulled fed) in omega arith)

pub whole-fed : (buffer : List ℕ) (old mid new : Reader) → FedBy buffer old.pulled old mid → HasTakenRecords mid new → IsFed new.pulled
whole-fed buffer old mid new fed taken =
    let P : Pull → Type 0 = λ p. IsFed p in subst P (sym taken.pulled) (is-fed buffer old mid old.pulled refl fed)
