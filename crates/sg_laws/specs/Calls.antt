-- The calls of a core and their events, seen by one source or one destination.
use Rattle.std.specs.Prelude.{◌≡◌, ℕ, ◌+◌, ◌==◌, if◌then◌else◌, List, [], ◌∷◌, ◌++◌, length, map}
use Rattle.sg_machine.specs.declared.event.Act.{Act}
use Rattle.sg_machine.specs.declared.event.Act.TheVariants.{Settle}
use Rattle.sg_machine.specs.declared.event.Event.{Event}
use Rattle.sg_machine.specs.declared.state.State.{State}
use Rattle.sg_counter.specs.Exchanges.{Exchange, Makes, OfSource, OfDest, calls_by}
use Rattle.sg_counter.specs.declared.calls.CoreCall.{CoreCall}
use Rattle.sg_counter.specs.declared.calls.CoreCall.TheVariants.{Settle as SettleCall}
use Rattle.sg_counter.specs.declared.calls.CoreReply.{CoreReply}
use Rattle.sg_counter.specs.declared.calls.CoreReply.TheVariants.{Settled}
use Rattle.sg_counter.specs.declared.answers.Settled.TheVariants.{Done, DiskFailed}
use Rattle.sg_standing.specs.States.{CoreState}
use Rattle.sg_standing.specs.Standing.{StandsFor, KeepsRows}
use Rattle.sg_core.specs.Calls.{Serves, acts_of}
use Rattle.sg_actor.specs.Bringing.{admitted_in}
use Rattle.sg_laws.specs.Texts.{admissions_of}

-- how many entries were settled at d, each time
abbrev pub settles_by : ℕ → Act → List ℕ
settles_by d (Settle e n) = if e == d then n ∷ [] else []
settles_by d _ = []

abbrev pub settles_of : ℕ → List Event → List ℕ
settles_of d [] = []
settles_of d (e ∷ es) = settles_by d e.act ++ settles_of d es

-- the same of calls: they were settled, also where the store of the disk-buffer has failed
abbrev pub settled_by : CoreCall → CoreReply → List ℕ
settled_by (SettleCall d place n count) (Settled Done) = n ∷ []
settled_by (SettleCall d place n count) (Settled DiskFailed) = n ∷ []
settled_by call reply = []

abbrev pub settled_in : List Exchange → List ℕ
settled_in [] = []
settled_in (e ∷ es) = settled_by e.call e.reply ++ settled_in es

abbrev pub sum : List ℕ → ℕ
sum [] = 0
sum (n ∷ ns) = n + sum ns

-- These calls were made, in this order, and are these events: the core, which stood for the events before them, stands for them too,
-- and the rows of its timetable so far stay.
pub record Ran (old new : CoreState) (made : List Exchange) (start : State)
    (before events : List Event) : Type 0 where
  pub makes : Makes Serves old made new
  pub stood : StandsFor old start before
  pub acts : map (λ e. e.act) events ≡ acts_of made
  pub stands : StandsFor new start (before ++ events)
  pub rows : KeepsRows (length before) stood.moments.rows stands.moments.rows

-- the records that came in of a source are those that it brought itself, and what a destination settled it settled itself
pub record AreOwn (made : List Exchange) (events : List Event) : Type 0 where
  pub admits : (i : ℕ) → admissions_of i events ≡ admitted_in (calls_by (OfSource i) made)
  pub settles : (d : ℕ) → settles_of d events ≡ settled_in (calls_by (OfDest d) made)
