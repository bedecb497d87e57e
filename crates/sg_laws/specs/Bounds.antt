-- How many turns do something or are idle, and so how many rounds a run may have: each such turn is paid for by what devices and calls of
-- the core count.
use Rattle.std.specs.Prelude.{◌≡◌, ◌≤◌, ◌<◌, ℕ, ◌+◌, ◌-◌, ◌*◌, ◌^◌, not, Option, Some, None, List, length}
use Rattle.sg_device.specs.Inlet.{InletState}
use Rattle.sg_device.specs.Outlet.{OutletState}
use Rattle.sg_outside.specs.World.{WorldState, Files}
use Rattle.sg_msg.specs.declared.offer.Offer.{Offer}
use Rattle.sg_frame.specs.Records.{Record}
use Rattle.sg_machine.specs.Runs.{opened}
use Rattle.sg_counter.specs.Exchanges.{Exchange}
use Rattle.sg_core.specs.Opening.{IsOpen}
use Rattle.sg_actor.specs.Bringing.{admitted_in}
use Rattle.sg_actor.specs.Reading.{one_if}
use Rattle.sg_actor.specs.Sources.{SourceState}
use Rattle.sg_actor.specs.SourceTurns.{ActorState}
use Rattle.sg_actor.specs.Steps.{parts_over}
use Rattle.sg_actor.specs.declared.settings.SourceSpec.{SourceSpec}
use Rattle.sg_turns.specs.Turns.{Turn, calls_of, TookTurns}
use Rattle.sg_turns.specs.Serving.{busy_of}
use Rattle.sg_turns.specs.declared.ended.Ended.TheVariants.{Quiet, RoundsSpent, NoMemory}
use Rattle.sg_serve.specs.Plan.{IsRunnable}
use Rattle.sg_serve.specs.Run.{CoreRun, Reached, PlanRunHolds, RunsWith}
use Rattle.sg_serve.specs.declared.counts.Counts.{Counts}
use Rattle.sg_serve.specs.declared.ending.PlanEnded.{PlanEnded}
use Rattle.sg_serve.specs.declared.ending.PlanEnded.TheVariants.{Before, Ran}
use Rattle.sg_run_plan.specs.declared.plan.RunPlan.{RunPlan}
use Rattle.sg_laws.specs.Counts.{changes, writes_in, offers_of, left_in, bytes_in, parts_in, idles_in, inlet_faults, outlet_faults, laters_in}

-- A source.

-- the bytes and the parts that came meanwhile, the pulls that failed or were idle, and the parts that were closed or given up
abbrev pub brought : SourceState → SourceState → ℕ
brought old new =
    (new.feed.bytes - old.feed.bytes) + (new.feed.parts - old.feed.parts)
    + (new.feed.faults - old.feed.faults) + (new.feed.idles - old.feed.idles)
    +
    (parts_over new.reader.given_up new.feed.parts - parts_over old.reader.given_up old.feed.parts)

-- Each turn of a source that did something or was idle pulled bytes, a part or the end, which comes once, failed or was idle in its pull,
-- gave up a part, admitted a record, was told another credit than in the turn before, wrote its position, or found that the position store
-- has failed.
abbrev pub SourceIsBounded : (ℕ → Record → List Offer → Type 0) → ℕ → SourceSpec → ActorState
    → ActorState → List Turn → Type 0
SourceIsBounded offers dests spec old new turns =
    TookTurns offers dests spec old new turns → new.source.feed.faults < 2 ^ 64 - 1
    → busy_of turns ≤ brought old.source new.source + 1 + length (admitted_in (calls_of turns))
    + changes old.position.credit (calls_of turns) + writes_in (calls_of turns)
    + one_if (not old.position.broken)

-- A run.

-- the entries that the disk-buffers had at first, and the offers of the records that these calls brought in
abbrev pub recovered_in : (plan : RunPlan) (reached : Reached) (run : CoreRun)
    → IsOpen plan.setup reached.stores run.first → ℕ
recovered_in plan reached run opens = left_in (opened plan.setup opens.opening).dests

abbrev pub offered_in : List Exchange → ℕ
offered_in made = offers_of (admitted_in made)

-- So they are of a run, by its own calls: none were where no core was opened, and none came in before the rounds.

abbrev pub recovered_at : {R I O : Type 0} (feed : I → InletState) (drain : O → OutletState)
    (offers : R → ℕ → Record → List Offer → Type 0) (inlets dests : R → ℕ) (files : Option Files)
    (plan : RunPlan) (routers : List R) (rounds : ℕ) (reached : Reached)
    (core : Option CoreRun) (ending : PlanEnded)
    → PlanRunHolds feed drain offers inlets dests files plan routers rounds reached core ending → ℕ
recovered_at feed drain offers inlets dests files plan routers rounds reached None ending holds = 0
recovered_at feed drain offers inlets dests files plan routers rounds reached (Some run)
    (Before early) (holds, stays) =
    recovered_in plan reached run (holds.core).opens
recovered_at feed drain offers inlets dests files plan routers rounds reached (Some run)
    (Ran ended counts) (holds, served) =
    recovered_in plan reached run (holds.core).opens

abbrev pub offered_at : {R I O : Type 0} (feed : I → InletState) (drain : O → OutletState)
    (offers : R → ℕ → Record → List Offer → Type 0) (inlets dests : R → ℕ) (files : Option Files)
    (plan : RunPlan) (routers : List R) (rounds : ℕ) (reached : Reached)
    (core : Option CoreRun) (ending : PlanEnded)
    → PlanRunHolds feed drain offers inlets dests files plan routers rounds reached core ending → ℕ
offered_at feed drain offers inlets dests files plan routers rounds reached None ending holds = 0
offered_at feed drain offers inlets dests files plan routers rounds reached (Some run)
    (Before early) holds =
    0
offered_at feed drain offers inlets dests files plan routers rounds reached (Some run)
    (Ran ended counts) (holds, served) =
    offered_in run.made

abbrev pub recovered_by : {R I O : Type 0} {feed : I → InletState} {drain : O → OutletState}
    {offers : R → ℕ → Record → List Offer → Type 0} {inlets dests : R → ℕ} {old new : WorldState}
    {plan : RunPlan} {routers : List R} {rounds : ℕ} {ending : PlanEnded}
    {reached : Reached} → RunsWith feed drain offers inlets dests old new plan routers rounds ending
    reached → ℕ
recovered_by {R} {I} {O} {feed} {drain} {offers} {inlets} {dests} {old} {new} {plan} {routers}
    {rounds} {ending} {reached} runs =
    recovered_at feed drain offers inlets dests old.files plan routers rounds reached reached.core
    ending runs.holds

abbrev pub offered_by : {R I O : Type 0} {feed : I → InletState} {drain : O → OutletState}
    {offers : R → ℕ → Record → List Offer → Type 0} {inlets dests : R → ℕ} {old new : WorldState}
    {plan : RunPlan} {routers : List R} {rounds : ℕ} {ending : PlanEnded}
    {reached : Reached} → RunsWith feed drain offers inlets dests old new plan routers rounds ending
    reached → ℕ
offered_by {R} {I} {O} {feed} {drain} {offers} {inlets} {dests} {old} {new} {plan} {routers}
    {rounds} {ending} {reached} runs =
    offered_at feed drain offers inlets dests old.files plan routers rounds reached reached.core
    ending runs.holds

-- so many rounds at most
abbrev pub most_rounds : (recovered offered : ℕ) → Reached → ℕ
most_rounds recovered offered reached =
    4 * bytes_in reached.inlets_closed + 2 * parts_in reached.inlets_closed + 3
    * length reached.inlets + 2 * offered + recovered
    + inlet_faults reached.inlets reached.inlets_closed + 2
    * outlet_faults reached.outlets reached.outlets_closed
    + idles_in reached.inlets_closed + laters_in reached.outlets reached.outlets_closed

-- one, the bytes, the parts, the inlets, the offers and the recovered entries
abbrev pub given_rounds : (recovered offered : ℕ) → Reached → ℕ
given_rounds recovered offered reached = 1 + bytes_in reached.inlets_closed
    + parts_in reached.inlets_closed + length reached.inlets + offered + recovered

-- by how much the counts of faults rose
abbrev pub faults_in : Reached → ℕ
faults_in reached = inlet_faults reached.inlets reached.inlets_closed
    + outlet_faults reached.outlets reached.outlets_closed

-- the idle answers, and those that it was too early
abbrev pub waits_in : Reached → ℕ
waits_in reached = idles_in reached.inlets_closed + laters_in reached.outlets reached.outlets_closed

-- the rounds are few
pub record AreRoundsFew (recovered offered rounds : ℕ) (reached : Reached) : Type 0 where
  pub most : rounds ≤ most_rounds recovered offered reached
  pub below : rounds
      < 4 * (given_rounds recovered offered reached + faults_in reached) + waits_in reached

-- so they are where all of them were run, and the last one wasn't quiet
abbrev pub IsFew : (recovered offered rounds : ℕ) → Reached → PlanEnded → Type 0
IsFew recovered offered rounds reached (Before early) = Unit {0}
IsFew recovered offered rounds reached (Ran Quiet counts) = Unit {0}
IsFew recovered offered rounds reached (Ran RoundsSpent counts) =
    AreRoundsFew recovered offered rounds
    reached
IsFew recovered offered rounds reached (Ran NoMemory counts) = Unit {0}

abbrev pub RunsAreBounded : {R I O : Type 0} → (I → InletState) → (O → OutletState)
    → (R → ℕ → Record → List Offer → Type 0) → (R → ℕ) → (R → ℕ) → Type 0
RunsAreBounded {R} {I} {O} feed drain offers inlets dests =
    (old new : WorldState) (plan : RunPlan) (routers : List R) (rounds : ℕ) (ending : PlanEnded)
    (reached : Reached) → IsRunnable plan → rounds < 2 ^ 64
    → (runs : RunsWith feed drain offers inlets dests old new plan routers rounds ending reached)
    → IsFew (recovered_by runs) (offered_by runs) rounds reached ending

-- no count of faults rose, no inlet was idle, and it was never too early to reopen an outlet or to send to it
pub record RunsUntroubled (reached : Reached) : Type 0 where
  pub faults : faults_in reached ≡ 0
  pub waits : waits_in reached ≡ 0

-- An untroubled run that spent its rounds had fewer than so many: with as many or more it doesn't spend them.
abbrev pub UntroubledRunsEnd : {R I O : Type 0} → (I → InletState) → (O → OutletState)
    → (R → ℕ → Record → List Offer → Type 0) → (R → ℕ) → (R → ℕ) → Type 0
UntroubledRunsEnd {R} {I} {O} feed drain offers inlets dests =
    (old new : WorldState) (plan : RunPlan) (routers : List R) (rounds : ℕ) (counts : Option Counts)
    (reached : Reached) → IsRunnable plan → rounds < 2 ^ 64
    → (runs : RunsWith feed drain offers inlets dests old new plan routers rounds
    (Ran RoundsSpent counts) reached) → RunsUntroubled reached
    → rounds < 4 * given_rounds (recovered_by runs) (offered_by runs) reached
