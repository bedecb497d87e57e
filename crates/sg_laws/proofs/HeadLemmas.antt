-- The texts of the first records of an inlet, over the calls of a run; and the turns of a destination as sendings.
use Rattle.std.proofs.Common.{◌≡◌, ℕ, ◌≤◌, List, [], ◌∷◌, ◌++◌, length, Some, None, Option, Result, Bool, true, false, refl, sym, ap, ◌∙◌, arith, take, subst, if◌then◌else◌, suc}
use Rattle.std.specs.Prelude.{slice_get, is_ok}
use Rattle.std.specs.Option.{option_map}
use Rattle.std.proofs.lemmas.List.{append-nil, length-map, length-take}
use Rattle.sg_list.proofs.ListLemmas.{some-same}
use Rattle.sg_device.specs.Inlet.{Part}
use Rattle.sg_device.specs.Outlet.{OutletState}
use Rattle.sg_msg.specs.Message.{Content}
use Rattle.sg_msg.specs.declared.offer.Offer.{Offer}
use Rattle.sg_frame.specs.Records.{Record, records}
use Rattle.sg_machine.specs.declared.state.Dest.{Dest}
use Rattle.sg_machine.specs.declared.state.State.{State}
use Rattle.sg_machine.specs.Runs.{after_all}
use Rattle.sg_machine.proofs.RunLemmas.{after_all-append, are_legal-parts}
use Rattle.sg_counter.specs.Exchanges.{Exchange}
use Rattle.sg_counter.specs.declared.calls.CoreCall.{CoreCall}
use Rattle.sg_counter.specs.declared.calls.CoreReply.{CoreReply}
use Rattle.sg_actor.specs.Sources.{AreOf}
use Rattle.sg_actor.specs.Rendering.{frame_by, frames_by, most_bytes, most_entries, sent_of}
use Rattle.sg_actor.specs.DestTurns.{shown_in, SendsWith}
use Rattle.sg_actor.specs.declared.outage.Outage.{Outage}
use Rattle.sg_actor.specs.declared.rendering.DestSpec.{DestSpec}
use Rattle.sg_actor.specs.declared.settings.SourceSpec.{SourceSpec}
use Rattle.sg_actor.specs.declared.turned.Turned.{Turned}
use Rattle.sg_actor.proofs.LawLemmas.{reads-first}
use Rattle.sg_laws.specs.Texts.{admissions_of, taken_from, AreFirstRecords, TakesTexts}
use Rattle.sg_laws.specs.Turns.{IsSending}
use Rattle.sg_laws.specs.Laws.{TextsAreFirst}
use Rattle.sg_laws.proofs.OwnEventLemmas.{takes-texts}
use Rattle.sg_laws.proofs.OwnLemmas.{are-own}
use Rattle.sg_actor.proofs.FrameLemmas.{until-few}

are-first : (spec : SourceSpec) (told : Option (List Part)) (done : List Record) → ((parts : List Part) → told ≡ Some parts → (rest : List Record) × (records spec.kind spec.limit spec.from parts ≡ done ++ rest))
    → AreFirstRecords done (option_map (records spec.kind spec.limit spec.from) told)
are-first spec None done h = tt
are-first spec (Some parts) done h = h parts refl

pub texts-first : (offers : ℕ → Record → List Offer → Type 0) → TextsAreFirst offers
texts-first offers old new made start before events d first last ran is frame spec done dests ups s are ready reads =
    let now = after_all start before in
    let legal = (are_legal-parts start before events ran.stands.legal).1 in
    let came : AreOf offers spec done (admissions_of spec.inlet events) = subst (AreOf offers spec done) (sym ((are-own made events ran.acts).admits spec.inlet)) are in
    let t = takes-texts offers frame now events spec done d first legal came is.at_first in
    let there : slice_get (after_all start (before ++ events)).dests d ≡ Some t.0 = ap (λ (x : State). slice_get x.dests d) (after_all-append start before events) ∙ t.1.0 in
    let same : t.0 ≡ last = some-same t.0 last (sym there ∙ is.at_last) in
    record {
      done = done;
      first = are-first spec s.feed.told done (λ parts told. reads-first offers dests spec s done ups parts ready reads told);
      takes = subst (λ (x : Dest). TakesTexts offers frame spec.inlet d done events (taken_from frame spec.inlet d first x) x.left) same t.1.1;
    }

-- Turns.

until-if : (b : Bool) (k n : ℕ) (f : List ℕ) (fs : List (List ℕ)) → length fs ≤ n → length (f ∷ (if b then [] else fs)) ≤ suc n
until-if true k n f fs h = omega arith
until-if false k n f fs h = omega (arith, h)

sent-few : (spec : DestSpec) (messages : List Content) → length (sent_of spec messages) ≤ length messages
sent-few spec messages =
    let most = until-few most_bytes (frames_by spec (take most_entries messages)) in
    let frames : length (frames_by spec (take most_entries messages)) ≡ length (take most_entries messages) = length-map (take most_entries messages) (frame_by spec) in
    let few = length-take most_entries messages in
    omega (arith, most, frames, few)

-- a turn of a destination that isn't given up, and one of one that is
pub sends-with : {S E : Type 0} (spec : DestSpec) (step : S → CoreCall → CoreReply → S → Type 0) (counter counter' : S) (old new : Outage) (drain drain' : OutletState) (result : Result Turned E) (made : List Exchange) (taken : ℕ)
    (refused : Bool) → SendsWith spec step counter counter' old new drain drain' result made taken refused → IsSending (frame_by spec) spec.dest (record { made = made; taken = taken; well = is_ok result }) drain drain'
sends-with spec step counter counter' old new drain drain' result made taken refused h = record {
  delivers = h.delivers;
  within = (let few = sent-few spec (shown_in made) in let within = h.within in omega (arith, few, within));
  takes = h.takes;
}

none-took : (told : Option (List (List ℕ))) (frames : List (List ℕ)) → told ≡ option_map (λ (before : List (List ℕ)). before ++ take 0 frames) told
none-took None frames = refl
none-took (Some zs) frames = ap Some (sym (append-nil zs))

pub sends-none : (frame : Content → List ℕ) (d : ℕ) (drain drain' : OutletState) → drain' ≡ drain → IsSending frame d (record { made = []; taken = 0; well = true }) drain drain'
sends-none frame d drain drain' same =
    let P : OutletState → Type 0 = λ o. IsSending frame d (record { made = []; taken = 0; well = true }) drain o in
    subst P (sym same) (record { delivers = refl; within = omega arith; takes = record { told = none-took drain.taken []; rose = omega arith; faults = omega arith } })
