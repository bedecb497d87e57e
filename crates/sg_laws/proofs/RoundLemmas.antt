-- What the calls of a quiet round tell of the state in which they leave the core.
use Rattle.std.proofs.Common.{◌≡◌, ℕ, true, List, [], ◌∷◌, ◌++◌, Some, None, Option, inl, inr, refl, sym, ap, ◌∙◌, slice_get, subst}
use Rattle.sg_list.proofs.ListLemmas.{some-same}
use Rattle.sg_machine.specs.declared.setup.BufferSetup.{BufferSetup}
use Rattle.sg_machine.specs.declared.setup.DestSetup.{DestSetup}
use Rattle.sg_machine.specs.declared.setup.Setup.{Setup}
use Rattle.sg_machine.specs.declared.setup.SourceSetup.{SourceSetup}
use Rattle.sg_machine.specs.declared.state.Dest.{Dest}
use Rattle.sg_machine.specs.declared.state.InletRecords.{InletRecords}
use Rattle.sg_machine.specs.declared.state.State.{State}
use Rattle.sg_machine.specs.Marks.{mark_of}
use Rattle.sg_machine.specs.Verdicts.{is_listed}
use Rattle.sg_counter.specs.Exchanges.{Exchange, Makes, OfSource, OfDest, calls_by}
use Rattle.sg_counter.specs.declared.answers.Stored.{Stored}
use Rattle.sg_counter.specs.declared.answers.Stored.TheVariants.{Unchanged}
use Rattle.sg_counter.specs.declared.calls.CoreReply.{CoreReply}
use Rattle.sg_counter.specs.declared.calls.CoreReply.TheVariants.{Credit as CreditReply, Admitted, Front as FrontReply, Settled as SettledReply, Refilled, Stored as StoredReply}
use Rattle.sg_sinks.specs.Laws.{is_listed_in}
use Rattle.sg_stores.proofs.GetLemmas.{get-map}
use Rattle.sg_standing.specs.States.{CoreState, setup_of}
use Rattle.sg_standing.specs.Standing.{IsAt, is_broken}
use Rattle.sg_standing.specs.declared.source.Source.{Source}
use Rattle.sg_core.specs.Calls.{Serves}
use Rattle.sg_core.proofs.PositionSteps.{behind}
use Rattle.sg_actor.specs.Bringing.{stored_by, stores_in, HasRefusal}
use Rattle.sg_actor.specs.DestTurns.{IsEmptyFront, IsShownEmpty}
use Rattle.sg_laws.specs.Resting.{HasNoCredit}
use Rattle.sg_laws.proofs.StepLemmas.{Has, has-own, moment, inlet-before, dest-before}
use Rattle.sg_laws.proofs.CalmLemmas.{AllCalm, with_failed, Stayed, CalmMoment, calm-moment}
use Rattle.sg_laws.proofs.AgreeLemmas.{inlet-there, agree-mark, agree-setup, agree-credit, agree-stored, dest-there, agree-broken, agree-left}
use Rattle.sg_laws.proofs.TurnLemmas.{HasFailure, HasBreakage}
use Rattle.sg_laws.proofs.AnswerLemmas.{refusal-in, refused-as, no-credit, same-stored, failed-store, none-left, breakage}
use Rattle.sg_laws.proofs.CreditLemmas.{NoneSentBack}

-- Rounds from one core to another, of which the last was quiet: that one's calls are these.
pub record Rounds (old new : CoreState) (made last : List Exchange) : Type 0 where
  pub first : State
  pub at_first : IsAt old first
  pub makes : Makes Serves old made new
  pub mid : CoreState
  pub state : State
  pub at_mid : IsAt mid state
  pub rest : Makes Serves mid last new
  pub within : (e : Exchange) → Has last e → Has made e
  pub calm : AllCalm last
  pub stayed : Stayed new state

-- the inlet of a setup
pub inlet-of-setup : (core : CoreState) (t : State) (setup : Setup) (i : ℕ) (s : SourceSetup) → IsAt core t → setup_of core ≡ setup → slice_get setup.sources i ≡ Some s → (x : InletRecords) × ((slice_get t.inlets i ≡ Some x) × (x.setup ≡ s))
inlet-of-setup core t setup i s at same h =
    let k = get-map (λ (x : Source). x.setup) core.sources i s (ap (λ (z : Setup). slice_get z.sources i) same ∙ h) in
    let b = behind core t i k.0 at k.1 in
    (b.inlet, (b.there, ap (λ (x : Source). x.setup) (sym b.shown) ∙ sym k.2))

-- Sources.

own-moment : {old new : CoreState} {made last : List Exchange} (q : Rounds old new made last) (e : Exchange) → Has last e → CalmMoment q.state e
own-moment {old} {new} {made} {last} q e h = calm-moment q.mid new last q.state e q.rest q.calm q.at_mid h

-- where it was refused credit, it has none at the end
pub source-credit : (old new : CoreState) (made last : List Exchange) (q : Rounds old new made last) (i : ℕ) (x : InletRecords) → slice_get (q.state).inlets i ≡ Some x → NoneSentBack i made → HasRefusal (calls_by (OfSource i) last) → HasNoCredit new i
source-credit old new made last q i x there unsent refused =
    let r = refusal-in (calls_by (OfSource i) last) refused in
    let e = r.0 in
    let own = has-own (OfSource i) last e r.1.0 in
    let m = own-moment q e own.0 in
    let t = with_failed q.state m.failed in
    let final = with_failed q.state (q.stayed).failed in
    elim (refused-as e.reply r.1.1) [
      | inl none ↦ (λ state at. sym (agree-credit new final state i x (q.stayed).at at there) ∙ no-credit m.first m.next e i t none m.serves own.1 m.at)
      | inr sent ↦ absurd (unsent e (q.within e own.0) own.1 sent)
    ]

-- an answer on a position
abbrev HasAnswer : List Exchange → Stored → Type 0
HasAnswer made answer = (e : Exchange) × (Has made e × (e.reply ≡ StoredReply answer))

answer-behind : (x : Exchange) (xs : List Exchange) (answer : Stored) → HasAnswer xs answer → HasAnswer (x ∷ xs) answer
answer-behind x xs answer h = (h.0, (inr h.1.0, h.1.1))

answer-by : (x : Exchange) (xs : List Exchange) (answer : Stored) (rest : List Stored) (reply : CoreReply) → x.reply ≡ reply → (stores_in xs ≡ answer ∷ rest → HasAnswer xs answer) → stored_by reply ++ stores_in xs ≡ answer ∷ rest → HasAnswer (x ∷ xs) answer
answer-by x xs answer rest (StoredReply a) is more h = (x, (inl refl, is ∙ ap StoredReply (some-same a answer (ap (λ (ss : List Stored). slice_get ss 0) h))))
answer-by x xs answer rest (CreditReply credit) is more h = answer-behind x xs answer (more h)
answer-by x xs answer rest (Admitted result) is more h = answer-behind x xs answer (more h)
answer-by x xs answer rest (FrontReply result) is more h = answer-behind x xs answer (more h)
answer-by x xs answer rest (SettledReply result) is more h = answer-behind x xs answer (more h)
answer-by x xs answer rest (Refilled result) is more h = answer-behind x xs answer (more h)

stored-in : (made : List Exchange) (answer : Stored) (rest : List Stored) → stores_in made ≡ answer ∷ rest → HasAnswer made answer
stored-in [] answer rest h = absurd (let wrong : [] ≡ answer ∷ rest = h in cc)
stored-in (x ∷ xs) answer rest h = answer-by x xs answer rest x.reply refl (stored-in xs answer rest) h

-- where it was told that the stored position is the mark, it is so at the end
pub source-stored : (old new : CoreState) (made last : List Exchange) (q : Rounds old new made last) (i u : ℕ) (state : State) (inlet : InletRecords) → stores_in (calls_by (OfSource i) last) ≡ Unchanged ∷ [] → IsAt new state → slice_get state.inlets i ≡ Some inlet
    → inlet.setup.store ≡ Some u → inlet.stored ≡ mark_of state.dests i inlet
source-stored old new made last q i u state inlet answered at there has =
    let final = with_failed q.state (q.stayed).failed in
    let at' : IsAt new final = (q.stayed).at in
    let x = inlet-there new final state i inlet at' at there in
    let has' : x.0.setup.store ≡ Some u = ap (λ (z : SourceSetup). z.store) (agree-setup new final state i x.0 inlet at' at x.1 there) ∙ has in
    let r = stored-in (calls_by (OfSource i) last) Unchanged [] answered in
    let e = r.0 in
    let own = has-own (OfSource i) last e r.1.0 in
    let m = own-moment q e own.0 in
    let marked = same-stored m.first m.next e i u (with_failed q.state m.failed) x.0 r.1.1 m.serves own.1 m.at x.1 has' in
    sym (agree-stored new final state i u x.0 inlet at' at x.1 there has).0 ∙ marked ∙ agree-mark new final state i x.0 inlet at' at x.1 there

-- where it was told that the store failed, that is one of the failed ones at the end
pub source-failed : (old new : CoreState) (made : List Exchange) (first : State) (i u : ℕ) (state : State) (inlet : InletRecords) → Makes Serves old made new → IsAt old first → HasFailure (calls_by (OfSource i) made) → IsAt new state → slice_get state.inlets i ≡ Some inlet
    → inlet.setup.store ≡ Some u → is_listed u state.failed ≡ true
source-failed old new made first i u state inlet makes at_first (e, (owned, is)) at there has =
    let own = has-own (OfSource i) made e owned in
    let m = moment old new made first e makes at_first own.0 in
    let last = (m.behind).at in
    let z = inlet-there new m.at_last state i inlet last at there in
    let y = inlet-before m.next new m.at_next m.at_last i z.0 m.behind z.1 in
    let x = inlet-before m.first m.next m.at_first m.at_next i y.0 m.meanwhile y.1.0 in
    let setup : y.0.setup ≡ inlet.setup = sym y.1.1 ∙ agree-setup new m.at_last state i z.0 inlet last at z.1 there in
    let has' : x.0.setup.store ≡ Some u = ap (λ (s : SourceSetup). s.store) (sym x.1.1 ∙ setup) ∙ has in
    let listed = failed-store m.first m.next e i u m.at_first m.at_next x.0 y.0 is m.serves own.1 (m.before).at (m.meanwhile).at x.1.0 y.1.0 x.1.1 has' in
    sym (agree-stored new m.at_last state i u z.0 inlet last at z.1 there has).1 ∙ (m.behind).kept u listed

-- Destinations.

shown-in : (made : List Exchange) → IsShownEmpty made → (e : Exchange) × (Has made e × IsEmptyFront e.reply)
shown-in [] h = absurd h
shown-in (f ∷ made) h = (f, (inl refl, h))

-- where it was shown that no entry is left, it is so at the end
pub dest-left : (old new : CoreState) (made last : List Exchange) (q : Rounds old new made last) (d : ℕ) (state : State) (dest : Dest) → IsShownEmpty (calls_by (OfDest d) last) → IsAt new state → slice_get state.dests d ≡ Some dest → dest.left ≡ []
dest-left old new made last q d state dest shown at there =
    let final = with_failed q.state (q.stayed).failed in
    let at' : IsAt new final = (q.stayed).at in
    let x = dest-there new final state d dest at' at there in
    let r = shown-in (calls_by (OfDest d) last) shown in
    let e = r.0 in
    let own = has-own (OfDest d) last e r.1.0 in
    let m = own-moment q e own.0 in
    let none = none-left m.first m.next e d (with_failed q.state m.failed) x.0 r.1.1 m.serves own.1 m.at x.1 in
    agree-left new final state d x.0 dest at' at x.1 there none

broken-kept : (o : Option BufferSetup) (f g : List ℕ) → ((u : ℕ) → is_listed u f ≡ true → is_listed u g ≡ true) → is_listed_in o f ≡ true → is_listed_in o g ≡ true
broken-kept None f g kept h = h
broken-kept (Some b) f g kept h = kept b.store h

-- where it was told that the store of its disk-buffer failed, that is one of the failed ones at the end
pub dest-broken : (old new : CoreState) (made : List Exchange) (first : State) (d : ℕ) (state : State) (dest : Dest) → Makes Serves old made new → IsAt old first → HasBreakage (calls_by (OfDest d) made) → IsAt new state → slice_get state.dests d ≡ Some dest
    → is_broken state.failed dest ≡ true
dest-broken old new made first d state dest makes at_first (e, (owned, is)) at there =
    let own = has-own (OfDest d) made e owned in
    let m = moment old new made first e makes at_first own.0 in
    let last = (m.behind).at in
    let z = dest-there new m.at_last state d dest last at there in
    let y = dest-before m.next new m.at_next m.at_last d z.0 m.behind z.1 in
    let broken = breakage m.first m.next e d m.at_next y.0 is m.serves own.1 (m.meanwhile).at y.1.0 in
    let later : is_listed_in z.0.setup.buffer m.at_last.failed ≡ true =
    subst (λ (s : DestSetup). is_listed_in s.buffer m.at_last.failed ≡ true) (sym y.1.1) (broken-kept y.0.setup.buffer m.at_next.failed m.at_last.failed (m.behind).kept broken) in
    sym (agree-broken new m.at_last state d z.0 dest last at z.1 there) ∙ later
