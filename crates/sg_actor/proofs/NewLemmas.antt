-- A source that read nothing yet.
use Rattle.std.proofs.Common.{arith, ◌≡◌, ◌<◌, ℕ, true, false, List, [], length, ap, sym, ◌∙◌, subst}
use Rattle.sg_device.specs.Inlet.{Stamped, InletState, IsFresh}
use Rattle.sg_device.specs.declared.inlet.Pull.{Pull}
use Rattle.sg_msg.specs.declared.offer.Offer.{Offer}
use Rattle.sg_machine.specs.declared.event.Admission.{Admission}
use Rattle.sg_frame.specs.declared.framer.Framed.{Framed}
use Rattle.sg_frame.specs.Framing.{HasFramed, fed}
use Rattle.sg_frame.specs.Records.{Record}
use Rattle.sg_counter.specs.Bringing.{AllMayEnter}
use Rattle.sg_actor.specs.Reading.{items_ahead, bytes_pulled, IsUnfed}
use Rattle.sg_actor.specs.Sources.{source, AreOf, HasRead, IsFramedAhead, IsReady}
use Rattle.sg_actor.specs.Steps.{IsReaderBegun}
use Rattle.sg_actor.specs.declared.reader.Reader.{Reader}
use Rattle.sg_actor.specs.declared.settings.SourceSpec.{SourceSpec}
use Rattle.sg_actor.proofs.ReadLemmas.{read-fresh}
use Rattle.sg_frame.specs.Timely.{AreTimely}

pub ready-new : (dests : ℕ) (spec : SourceSpec) (feed : InletState) (reader : Reader) (buffer : List ℕ) → IsReaderBegun spec.kind spec.limit spec.from reader → IsFresh feed → spec.from ≡ feed.from
    → 0 < length buffer → IsReady dests spec (source feed reader buffer)
ready-new dests spec feed reader buffer begun fresh from room =
    let none : fed reader.framer ≡ 0 = ap fed begun.framer in
    let held : length reader.framer.held ≡ 0 = ap (λ f. length f.held) begun.framer in
    let unfed : length (bytes_pulled reader.pulled buffer) ≡ 0 = ap (λ p. length (bytes_pulled p buffer)) begun.pulled in
    let B : List Stamped → Type 0 = λ bytes. AreTimely bytes in
    let P : Pull → Type 0 = λ p. IsUnfed (length buffer) p in
    let F : Framed → Type 0 = λ a. IsFramedAhead reader.framer a in
    let H : List Admission → Type 0 = λ as'. AllMayEnter dests as' in
    record {
      room = room;
      kind = ap (λ f. f.kind) begun.framer;
      limit = ap (λ f. f.limit) begun.framer;
      from = sym from;
      place = omega (arith, fresh.at_from);
      in_range = omega (arith, fresh.at_from, fresh.in_range);
      timely = subst B (sym (ap (λ f. f.held) begun.framer)) tt;
      unfed = subst P (sym begun.pulled) tt;
      ahead = subst F (sym begun.ahead) tt;
      held = subst H (sym begun.held) tt;
      few = (let n : length reader.held ≡ 0 = ap length begun.held in omega arith);
      begun = (λ some. absurd (omega arith));
      bad = (λ e. absurd (let differ : true ≡ false = sym e ∙ begun.given_up in cc));
      hung = fresh.hung ∙ sym begun.given_up;
      over = (λ e. absurd (let differ : true ≡ false = sym e ∙ begun.ended in cc));
    }

pub reads-new : (offers : ℕ → Record → List Offer → Type 0) (spec : SourceSpec) (feed : InletState) (reader : Reader) (buffer : List ℕ) → IsReaderBegun spec.kind spec.limit spec.from reader → IsFresh feed
    → HasRead offers spec (source feed reader buffer) [] 0
reads-new offers spec feed reader buffer begun fresh =
    let H : List Admission → Type 0 = λ as'. AreOf offers spec [] as' in
    let read = read-fresh reader.framer.kind reader.framer.limit feed.from feed.parts feed.peer feed.told fresh.one_part fresh.told in (
      [],
      (
        subst H (sym begun.held) tt,
        (
          [],
          (
            [],
            record {
              framed = subst (λ a. HasFramed [] (items_ahead a) reader.framer) (sym begun.ahead) begun.framed;
              read = rw (begun.given_up, begun.pulled) read;
              fewer = (let held : length reader.framer.held ≡ 0 = ap (λ f. length f.held) begun.framer in
                  let unfed : length (bytes_pulled reader.pulled buffer) ≡ 0 = ap (λ p. length (bytes_pulled p buffer)) begun.pulled in
                  let ahead : length (items_ahead reader.ahead) ≡ 0 = ap (λ a. length (items_ahead a)) begun.ahead in
                  omega arith);
            },
          ),
        ),
      ),
    )
