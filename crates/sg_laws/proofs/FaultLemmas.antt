-- What the stores' flags, the replies and the drops of a run tell of faults.
use Rattle.std.proofs.Common.{◌≡◌, ℕ, true, Ok, List, Some, None, Option, refl, sym, ap, ◌∙◌, slice_get, subst}
use Rattle.std.specs.Prelude.{◌++◌, option_and_then}
use Rattle.std.specs.Option.{option_map_or}
use Rattle.sg_list.proofs.ListLemmas.{some-same, slice_get-map}
use Rattle.sg_device.specs.Disk.{DiskState}
use Rattle.sg_machine.specs.declared.event.Act.TheVariants.{Admit as AdmitAct}
use Rattle.sg_machine.specs.declared.event.Admission.{Admission}
use Rattle.sg_machine.specs.declared.event.Verdict.{Verdict}
use Rattle.sg_machine.specs.declared.setup.BufferSetup.{BufferSetup}
use Rattle.sg_machine.specs.declared.setup.DestSetup.{DestSetup}
use Rattle.sg_machine.specs.declared.setup.Setup.{Setup}
use Rattle.sg_machine.specs.declared.state.Dest.{Dest}
use Rattle.sg_machine.specs.declared.state.State.{State}
use Rattle.sg_machine.specs.Effects.{after_act, next_of}
use Rattle.sg_machine.specs.Runs.{opened, after_all}
use Rattle.sg_machine.specs.Verdicts.{claims_of, is_listed}
use Rattle.sg_counter.specs.Exchanges.{Exchange, Makes}
use Rattle.sg_counter.specs.declared.calls.CoreCall.TheVariants.{Admit}
use Rattle.sg_counter.specs.declared.calls.CoreReply.TheVariants.{Admitted}
use Rattle.sg_sinks.specs.States.{SinkState}
use Rattle.sg_stores.specs.Opening.{FailsByFaults, AllFailByFaults}
use Rattle.sg_stores.specs.Stores.{StoreState, AllGo}
use Rattle.sg_stores.proofs.StoreLemmas.{all_go_trans}
use Rattle.sg_standing.specs.States.{CoreState, setup_of}
use Rattle.sg_standing.specs.Standing.{IsAt, DoesAct}
use Rattle.sg_core.specs.Calls.{Serves}
use Rattle.sg_core.specs.Opening.{buffer_store_in}
use Rattle.sg_core.proofs.Faults.{serves-go, calls-go, fail-by-faults, tells-faults, listed-buffer}
use Rattle.sg_run_plan.specs.declared.plan.RunPlan.{RunPlan}
use Rattle.sg_serve.specs.Run.{CoreRun, Reached, HoldsCore}
use Rattle.sg_laws.specs.Drops.{HasBufferFailed}
use Rattle.sg_laws.specs.Failing.{DropsByFaults, ShowsFaults}
use Rattle.sg_laws.proofs.AgreeLemmas.{sink-at}
use Rattle.sg_laws.proofs.DueLemmas.{act-due, drop-due}
use Rattle.sg_laws.proofs.StepLemmas.{went-all}

-- the store of the disk-buffer of a destination that has one
failed-in : (buffer : Option BufferSetup) (failed : List ℕ) → HasBufferFailed buffer failed → (b : BufferSetup) × ((buffer ≡ Some b) × (is_listed b.store failed ≡ true))
failed-in None failed h = absurd h
failed-in (Some b) failed h = (b, (refl, h))

buffer-at : (core : CoreState) (t : State) (d : ℕ) (x : Dest) (b : BufferSetup) → IsAt core t → slice_get t.dests d ≡ Some x → x.setup.buffer ≡ Some b → buffer_store_in (setup_of core).dests d ≡ Some b.store
buffer-at core t d x b at there has =
    let setup = slice_get-map (λ (sink : SinkState). sink.setup) core.sinks d _ (sink-at core t d x at there) in
    ap (λ (o : Option DestSetup). option_and_then (λ (s : DestSetup). option_map_or (λ (c : BufferSetup). Some c.store) s.buffer None) o) setup
    ∙ ap (λ (o : Option BufferSetup). option_map_or (λ (c : BufferSetup). Some c.store) o None) has

-- a drop of a call tells of a fault
drops-by : (disks : List DiskState) (old new : CoreState) (t : State) (i : ℕ) (records : List Admission) (verdicts : List Verdict) → AllFailByFaults disks new.stores → IsAt old t → DoesAct old new (AdmitAct i records verdicts)
    → DropsByFaults disks old records verdicts new
drops-by disks old new t i records verdicts all at does d drop =
    let step = does.step t at in
    let failed = t.failed ++ does.failed in
    let due = drop-due i (next_of t i) t.dests failed (claims_of records) verdicts drop.place drop.claim (act-due t i records verdicts does.failed step.0) drop.claimed drop.dropped in
    let has = failed-in (due.0).setup.buffer failed due.1.1 in
    let b = has.0 in
    let there : slice_get t.dests d ≡ Some due.0 = ap (λ k. slice_get t.dests k) (sym drop.dest) ∙ due.1.0 in
    let stored = buffer-at old t d due.0 b at there has.1.0 in
    let stored_now : buffer_store_in (setup_of new).dests d ≡ Some b.store = ap (λ (s : Setup). buffer_store_in s.dests d) does.setup ∙ stored in (
      b.store,
      stored,
      λ disk store at_disk at_store.
          let flag : store.failed ≡ true = listed-buffer new (after_act t (AdmitAct i records verdicts) does.failed) d b.store store step.1 stored_now at_store ∙ has.1.1 in
          subst (λ f. FailsByFaults f disk store.disk) flag (all b.store disk store at_disk at_store),
    )

pub shows-faults : (plan : RunPlan) (reached : Reached) (run : CoreRun) → HoldsCore plan.setup reached run → Makes Serves run.begun run.made run.last → ShowsFaults reached run
shows-faults plan reached run core makes =
    let opens = core.opens in
    let state = after_all (opened plan.setup opens.opening) run.prelude in
    let begun = ((core.begins).stands plan.setup opens.opening opens.stands).at in
    let goes : (made : List Exchange) (now : CoreState) → Makes Serves run.begun made now → AllGo run.first.stores now.stores = λ made now makes. all_go_trans run.first.stores run.begun.stores now.stores (core.begins).goes (calls-go run.begun now made makes) in
    let flags : (made : List Exchange) (now : CoreState) → Makes Serves run.begun made now → AllFailByFaults reached.stores now.stores = λ made now makes. fail-by-faults plan.setup reached.stores run.first now opens (goes made now makes) in
    record {
      flags = flags;
      replies = λ made old new call reply makes serves.
          let went = went-all run.begun old made state makes begun in
          tells-faults plan.setup reached.stores run.first old new went.0 call reply opens (goes made old makes) (went.1).at serves;
      drops = λ made old new i records verdicts makes serves.
          let went = went-all run.begun old made state makes begun in
          let all = fail-by-faults plan.setup reached.stores run.first new opens (all_go_trans run.first.stores old.stores new.stores (goes made old makes) (serves-go old new (Admit i records) (Admitted (Ok verdicts)) serves)) in
          drops-by reached.stores old new went.0 i records verdicts all (went.1).at serves.does;
      closed = λ s store opened closed at_store at_opened at_closed.
          let same : closed ≡ store.disk = some-same closed store.disk (sym at_closed ∙ ap (λ ds. slice_get ds s) core.closed ∙ slice_get-map (λ (x : StoreState). x.disk) run.last.stores s store at_store) in
          subst (λ (disk : DiskState). FailsByFaults store.failed opened disk) (sym same) (flags run.made run.last makes s opened store at_opened at_store);
    }
