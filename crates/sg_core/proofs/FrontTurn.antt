-- A front that reads a disk-buffer, from what its parts did.
use Rattle.std.proofs.Common.{◌≡◌, ℕ, ◌+◌, ◌<◌, ◌≤◌, List, [], length, take, map, Some, None, true, false, refl, sym, ap, ◌∙◌, arith, slice_get, subst, Ok, Err}
use Rattle.std.specs.Prelude.{option_and_then, Result}
use Rattle.sg_list.specs.Lists.{change}
use Rattle.sg_list.proofs.ListLemmas.{get-change-same}
use Rattle.sg_msg.specs.Message.{Content}
use Rattle.sg_device.specs.Disk.{content, WhereTold}
use Rattle.sg_device.specs.Faults.{Rose}
use Rattle.sg_machine.specs.declared.event.Act.TheVariants.{Look}
use Rattle.sg_machine.specs.declared.setup.BufferSetup.{BufferSetup}
use Rattle.sg_machine.specs.declared.state.Dest.{Dest}
use Rattle.sg_machine.specs.declared.state.State.{State}
use Rattle.sg_machine.specs.Runs.{BufferedEntry}
use Rattle.sg_spool.specs.declared.answers.RewriteRefusal.{RewriteRefusal}
use Rattle.sg_spool.specs.declared.answers.RewriteRefusal.TheVariants.{DiskFault, NoMemory}
use Rattle.sg_sinks.specs.Runs.{run_of}
use Rattle.sg_sinks.specs.States.{SinkState, with_broken}
use Rattle.sg_stores.specs.Reading.{ReadsMessages, ReadsAt}
use Rattle.sg_stores.specs.Stores.{StoreState, HoldsEntries}
use Rattle.sg_counter.specs.declared.answers.CoreFront.TheVariants.{Entries, Broken}
use Rattle.sg_standing.specs.States.{CoreState}
use Rattle.sg_standing.specs.Standing.{IsAt, DoesAct}
use Rattle.sg_core.specs.Answers.{AnswersFrontAt, ShowsLeft, buffer_at}
use Rattle.sg_core.specs.Whole.{IsWholeCore}
use Rattle.sg_core.proofs.FrontCalls.{read-does, unread-does}
use Rattle.sg_core.proofs.FrontLemmas.{shows-spooled, at-both, run-some, shown-run, not-nil}

-- what is read
pub record FrontTurn (old : CoreState) (news : List StoreState) (d n most : ℕ) (result : Result (List Content) RewriteRefusal) : Type 0 where
  pub sink : SinkState
  pub buffer : BufferSetup
  pub there : slice_get old.sinks d ≡ Some sink
  pub has : sink.setup.buffer ≡ Some buffer
  pub works : sink.broken ≡ false
  pub some : 0 < length sink.lengths
  pub run : n ≡ run_of most sink.lengths
  pub few : n ≤ length sink.lengths
  pub reads : ReadsAt old.stores news buffer.store n result

as-ok : (old new : StoreState) (n : ℕ) (r : Result (List Content) RewriteRefusal) (messages : List Content) → r ≡ Ok messages → ReadsMessages old new n r → (new.failed ≡ false) × (length messages ≡ n) × WhereTold (content old.disk) (λ bytes. (list : List BufferedEntry) → HoldsEntries old list [] → messages ≡ map (λ (kept : BufferedEntry). kept.message) (take n list))
as-ok old new n r messages e h = subst (λ (x : Result (List Content) RewriteRefusal). ReadsMessages old new n x) e h

as-fault : (old new : StoreState) (n : ℕ) (r : Result (List Content) RewriteRefusal) → r ≡ Err DiskFault → ReadsMessages old new n r → (new.failed ≡ true) × Rose old.disk.faults new.disk.faults
as-fault old new n r e h = subst (λ (x : Result (List Content) RewriteRefusal). ReadsMessages old new n x) e h

as-memory : (old new : StoreState) (n : ℕ) (r : Result (List Content) RewriteRefusal) → r ≡ Err NoMemory → ReadsMessages old new n r → new.failed ≡ false
as-memory old new n r e h = subst (λ (x : Result (List Content) RewriteRefusal). ReadsMessages old new n x) e h

pub ok-does : (old new : CoreState) (d n most : ℕ) (r : Result (List Content) RewriteRefusal) (messages : List Content) → r ≡ Ok messages → FrontTurn old new.stores d n most r → new.sources ≡ old.sources → new.sinks ≡ old.sinks → new.calls ≡ old.calls + 1 → DoesAct old new Look
ok-does old new d n most r messages e t sources sinks calls =
    let a = t.reads in
    read-does old new d t.sink t.buffer a.old a.new t.there t.has t.works a.was a.others a.stays (as-ok a.old a.new n r messages e a.reads).0 sources sinks calls

pub memory-does : (old new : CoreState) (d n most : ℕ) (r : Result (List Content) RewriteRefusal) → r ≡ Err NoMemory → FrontTurn old new.stores d n most r → new.sources ≡ old.sources → new.sinks ≡ old.sinks → new.calls ≡ old.calls + 1 → DoesAct old new Look
memory-does old new d n most r e t sources sinks calls =
    let a = t.reads in
    read-does old new d t.sink t.buffer a.old a.new t.there t.has t.works a.was a.others a.stays (as-memory a.old a.new n r e a.reads) sources sinks calls

pub fault-does : (old new : CoreState) (d n most : ℕ) (r : Result (List Content) RewriteRefusal) (whole : IsWholeCore old) → r ≡ Err DiskFault → FrontTurn old new.stores d n most r → new.sources ≡ old.sources → new.sinks ≡ change old.sinks d with_broken → new.calls ≡ old.calls + 1 → DoesAct old new Look
fault-does old new d n most r whole e t sources sinks calls =
    let a = t.reads in
    let f = as-fault a.old a.new n r e a.reads in
    unread-does old new d t.sink t.buffer a.old a.new whole t.there t.has t.works a.was a.others a.stays f.0 f.1 sources sinks calls

pub ok-front : (old : CoreState) (news : List StoreState) (d n most place : ℕ) (r : Result (List Content) RewriteRefusal) (messages : List Content) → r ≡ Ok messages → (t : FrontTurn old news d n most r) → place ≡ (t.sink).taken → AnswersFrontAt (slice_get old.sinks d) (slice_get old.sinks d) most (Entries place messages)
ok-front old news d n most place r messages e t at =
    let a = t.reads in
    let o = as-ok a.old a.new n r messages e a.reads in
    let len : length messages ≡ run_of most (t.sink).lengths = o.1 ∙ t.run in
    let some = run-some most (t.sink).lengths t.some in
    at-both old.sinks old.sinks d most t.sink t.sink (Entries place messages) t.there t.there (refl, t.works, at, len ∙ sym (shown-run most t.sink t.some), omega (arith, len, some), λ none. absurd (not-nil (t.sink).lengths t.some none))

pub ok-shows : (old : CoreState) (news : List StoreState) (d n most place : ℕ) (r : Result (List Content) RewriteRefusal) (messages : List Content) → r ≡ Ok messages → FrontTurn old news d n most r → (s : State) (dest : Dest) → IsAt old s → slice_get s.dests d ≡ Some dest → ShowsLeft old.stores dest (Entries place messages)
ok-shows old news d n most place r messages e t s dest at get =
    let a = t.reads in
    let o = as-ok a.old a.new n r messages e a.reads in
    shows-spooled old s d n place t.sink dest t.buffer a.old messages at t.there get t.has t.works a.was t.few o.1 o.2

pub fault-front : (old : CoreState) (news : List StoreState) (sinks : List SinkState) (d n most : ℕ) (r : Result (List Content) RewriteRefusal) (t : FrontTurn old news d n most r) → sinks ≡ change old.sinks d with_broken → AnswersFrontAt (slice_get old.sinks d) (slice_get sinks d) most Broken
fault-front old news sinks d n most r t e =
    at-both old.sinks sinks d most t.sink (with_broken t.sink) Broken t.there (ap (λ ks. slice_get ks d) e ∙ get-change-same old.sinks d with_broken t.sink t.there) refl

-- there is a disk-buffer
pub no-queue : (old : CoreState) (news : List StoreState) (d n most : ℕ) (r : Result (List Content) RewriteRefusal) → FrontTurn old news d n most r → buffer_at old.sinks d ≡ None → ⊥
no-queue old news d n most r t none =
    let is : Some t.buffer ≡ None = sym t.has ∙ ap (λ o. option_and_then (λ (x : SinkState). x.setup.buffer) o) (sym t.there) ∙ none in
    cc
