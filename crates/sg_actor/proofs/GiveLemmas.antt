-- Parts that are given up, and records that are handed in.
use Rattle.std.proofs.Common.{arith, ◌≡◌, ◌≤◌, ◌<◌, ◌+◌, ℕ, Bool, true, false, List, [], ◌∷◌, length, refl, ap, sym, ◌∙◌, subst}
use Rattle.std.specs.Prelude.{not}
use Rattle.sg_device.specs.Inlet.{Stamped, InletState}
use Rattle.sg_device.proofs.Inlets.{advances_refl, advances_trans, advances_hangup}
use Rattle.sg_machine.specs.declared.event.Admission.{Admission}
use Rattle.sg_frame.specs.declared.kind.FrameKind.{FrameKind}
use Rattle.sg_frame.specs.declared.kind.FrameKind.TheVariants.{Lines, Counted}
use Rattle.sg_frame.specs.declared.framer.Framed.{Framed}
use Rattle.sg_frame.specs.declared.framer.Framed.TheVariants.{Item as Given, More, BadFrame}
use Rattle.sg_frame.specs.Items.{Text, Count, Bad, beginning, open_after}
use Rattle.sg_frame.specs.Framing.{Framing}
use Rattle.sg_frame.specs.Records.{Record}
use Rattle.sg_actor.specs.Reading.{one_if}
use Rattle.sg_actor.specs.Sources.{SourceState, source, ReadsRecords, IsFramedAhead, IsBadFrame, IsReady}
use Rattle.sg_actor.specs.Steps.{LooksBy, IsAsBefore, is_bad_frame, is_bad, GivesUp, parts_over}
use Rattle.sg_actor.specs.Bringing.{MayGiveUp, IsUnpulled}
use Rattle.sg_actor.specs.declared.reader.Reader.{Reader}
use Rattle.sg_actor.specs.declared.settings.SourceSpec.{SourceSpec}
use Rattle.sg_actor.proofs.FeedLemmas.{reads-up}
use Rattle.sg_actor.proofs.ReadyLemmas.{ready-up, ready-admitted}
use Rattle.sg_actor.proofs.FindLemmas.{both-of, not-of}
use Rattle.sg_actor.proofs.KeepLemmas.{rests-looked}

begins-sound : (kind : FrameKind) (place : ℕ) → beginning kind ≡ Bad place → ⊥
begins-sound Lines place is = (let differ : Text [] ≡ Bad place = is in cc)
begins-sound Counted place is = (let differ : Count 0 ≡ Bad place = is in cc)

-- a bad count stands among bytes
bad-some : (kind : FrameKind) (limit at place : ℕ) (held : List Stamped) → open_after limit at (beginning kind) held ≡ Bad place → 0 < length held
bad-some kind limit at place [] is = absurd (begins-sound kind place is)
bad-some kind limit at place (b ∷ held) is = omega arith

bad-is : (f : Framing) (ahead : Framed) → is_bad_frame ahead ≡ true → IsFramedAhead f ahead → 0 < length f.held
bad-is f (Given text end at) is h = absurd (let differ : false ≡ true = is in cc)
bad-is f More is h = absurd (let differ : false ≡ true = is in cc)
bad-is f (BadFrame place) is h = bad-some f.kind f.limit f.place place f.held h.1

bad-frame : (ahead : Framed) → is_bad_frame ahead ≡ true → IsBadFrame ahead
bad-frame (Given text end at) is = absurd (let differ : false ≡ true = is in cc)
bad-frame More is = absurd (let differ : false ≡ true = is in cc)
bad-frame (BadFrame place) is = tt

over-up : (up : Bool) (parts : ℕ) → up ≡ false → 0 < parts → 1 + parts_over up parts ≤ parts_over true parts
over-up true parts is some = absurd (let differ : true ≡ false = is in cc)
over-up false parts is some = omega arith

reads-none : (s t : SourceState) (done : List Record) (before : ℕ) → ReadsRecords t done before → ReadsRecords t done (before + 0)
reads-none s t done before h = (let same : before + 0 ≡ before = omega arith in rw same h)

unpulled-same : (s : SourceState) → IsUnpulled s s
unpulled-same s = record { bytes = refl; parts = refl; pulls = refl; idles = refl; ended = refl; failed = refl }

pub gives-none : (dests : ℕ) (spec : SourceSpec) (s : SourceState) → IsReady dests spec s → MayGiveUp dests spec s s 0
gives-none dests spec s ready = record {
  ready = ready;
  reads = λ done before h. reads-none s s done before h;
  advances = advances_refl s.feed;
  parts = omega arith;
  unpulled = unpulled-same s;
}

gives-up : (dests : ℕ) (spec : SourceSpec) (feed : InletState) (buffer : List ℕ) (old : Reader) → is_bad old ≡ true → old.held ≡ []
    → IsReady dests spec (source feed old buffer) → MayGiveUp dests spec (source feed old buffer) (source (record feed { hung = true }) (record old { given_up = true }) buffer) 1
gives-up dests spec feed buffer old is none ready =
    let both = both-of (is_bad_frame old.ahead) (not old.given_up) is in
    let up : old.given_up ≡ false = not-of old.given_up both.1 in
    let some : 0 < feed.parts = ready.begun (let h = bad-is old.framer old.ahead both.0 ready.ahead in omega arith) in
    record {
      ready = ready-up dests spec feed buffer old (bad-frame old.ahead both.0) none ready;
      reads = reads-up feed buffer old true up;
      advances = advances_hangup feed (record feed { hung = true }) refl;
      parts = over-up old.given_up feed.parts up some;
      unpulled = record { bytes = refl; parts = refl; pulls = refl; idles = refl; ended = refl; failed = refl };
    }

-- the present part is given up, or not
pub gives-by : (dests : ℕ) (spec : SourceSpec) (feed feed' : InletState) (buffer : List ℕ) (old new : Reader) (up : Bool) → GivesUp old feed new feed' up → old.held ≡ []
    → IsReady dests spec (source feed old buffer) → MayGiveUp dests spec (source feed old buffer) (source feed' new buffer) (one_if up)
gives-by dests spec feed feed' buffer old new true h none ready =
    subst (λ f. MayGiveUp dests spec (source feed old buffer) (source f new buffer) 1) (sym h.2)
    (subst (λ r. MayGiveUp dests spec (source feed old buffer) (source (record feed { hung = true }) r buffer) 1) (sym h.1) (gives-up dests spec feed buffer old h.0 none ready))
gives-by dests spec feed feed' buffer old new false h none ready =
    subst (λ f. MayGiveUp dests spec (source feed old buffer) (source f new buffer) 0) (sym h.2)
    (subst (λ r. MayGiveUp dests spec (source feed old buffer) (source feed r buffer) 0) (sym h.1) (gives-none dests spec (source feed old buffer) ready))

-- the records that were held are admitted
reads-held : (feed : InletState) (buffer : List ℕ) (old : Reader) (held : List Admission) (end : ℕ) (done : List Record) (ups : ℕ) → ReadsRecords (source feed old buffer) done ups
    → ReadsRecords (source feed (record old { held = held; end = end }) buffer) done ups
reads-held feed buffer old held end done ups (bytes, (items, h)) = (bytes, (items, record { framed = h.framed; read = h.read; fewer = h.fewer }))

pub gives-admitted : (dests : ℕ) (spec : SourceSpec) (feed : InletState) (buffer : List ℕ) (old : Reader) (end : ℕ) → IsReady dests spec (source feed old buffer)
    → MayGiveUp dests spec (source feed old buffer) (source feed (record old { held = []; end = end }) buffer) 0
gives-admitted dests spec feed buffer old end ready = record {
  ready = ready-admitted dests spec feed buffer old end ready;
  reads = (λ done before h. reads-none (source feed old buffer) (source feed (record old { held = []; end = end }) buffer) done before (reads-held feed buffer old [] end done before h));
  advances = advances_refl feed;
  parts = omega arith;
  unpulled = record { bytes = refl; parts = refl; pulls = refl; idles = refl; ended = refl; failed = refl };
}

-- the framer was asked
pub gives-looked : (dests : ℕ) (spec : SourceSpec) (feed : InletState) (buffer : List ℕ) (old new : Reader) → LooksBy old.ahead old new → IsAsBefore old new → IsReady dests spec (source feed old buffer)
    → MayGiveUp dests spec (source feed old buffer) (source feed new buffer) 0
gives-looked dests spec feed buffer old new looks before ready =
    let rests = rests-looked dests spec feed buffer old new old.ahead refl looks ready in
    record {
      ready = rests.ready;
      reads = (λ done ups h. reads-none (source feed old buffer) (source feed new buffer) done ups (rests.reads done ups h));
      advances = rests.advances;
      parts = omega (arith, rests.parts);
      unpulled = record { bytes = refl; parts = refl; pulls = refl; idles = refl; ended = before.ended; failed = before.failed };
    }

pub gives-then : (dests : ℕ) (spec : SourceSpec) (a b c : SourceState) (n : ℕ) → MayGiveUp dests spec a b 0 → MayGiveUp dests spec b c n → MayGiveUp dests spec a c n
gives-then dests spec a b c n h k = record {
  ready = k.ready;
  reads = (λ done before read. (let same : before + 0 + n ≡ before + n = omega arith in rw same at (k.reads done (before + 0) (h.reads done before read))));
  advances = advances_trans a.feed b.feed c.feed h.advances k.advances;
  parts = omega (arith, h.parts, k.parts);
  unpulled = record {
    bytes = k.unpulled.bytes ∙ h.unpulled.bytes;
    parts = k.unpulled.parts ∙ h.unpulled.parts;
    pulls = k.unpulled.pulls ∙ h.unpulled.pulls;
    idles = k.unpulled.idles ∙ h.unpulled.idles;
    ended = k.unpulled.ended ∙ h.unpulled.ended;
    failed = k.unpulled.failed ∙ h.unpulled.failed;
  };
}

pub looked-before : (old new : Reader) (ahead : Framed) → LooksBy ahead old new → IsAsBefore old new
looked-before old new (Given text end at) looks = record { ended = ap (λ r. r.ended) looks; failed = ap (λ r. r.failed) looks }
looked-before old new More looks = record { ended = ap (λ r. r.ended) looks.rest; failed = ap (λ r. r.failed) looks.rest }
looked-before old new (BadFrame place) looks = record { ended = ap (λ r. r.ended) looks; failed = ap (λ r. r.failed) looks }

pub end-looked : (old new : Reader) (ahead : Framed) → LooksBy ahead old new → new.end ≡ old.end
end-looked old new (Given text end at) looks = ap (λ r. r.end) looks
end-looked old new More looks = ap (λ r. r.end) looks.rest
end-looked old new (BadFrame place) looks = ap (λ r. r.end) looks

pub held-given : (feed feed' : InletState) (old new : Reader) (up : Bool) → GivesUp old feed new feed' up → (new.held ≡ old.held) × (new.end ≡ old.end)
held-given feed feed' old new true h = (ap (λ r. r.held) h.1, ap (λ r. r.end) h.1)
held-given feed feed' old new false h = (ap (λ r. r.held) h.1, ap (λ r. r.end) h.1)
