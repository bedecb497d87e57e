-- What a turn of the work does.
use Rattle.std.specs.Prelude.{◌≡◌, ◌||◌, ℕ, Bool, true, false, List, [], ◌∷◌, ◌++◌, reverse, Option, Some, None, slice_get}
use Rattle.sg_msg.specs.Message.{Content}
use Rattle.sg_tree.specs.Walk.{WalkResult, walk, stopped, after_deliveries}
use Rattle.sg_table.specs.declared.pipe.Branch.{Branch}
use Rattle.sg_table.specs.declared.pipe.Pipe.{Pipe}
use Rattle.sg_table.specs.Table.{steps_at}
use Rattle.sg_pipes.specs.declared.frame.WalkFrame.{WalkFrame}
use Rattle.sg_pipes.specs.declared.frame.WalkFrame.TheVariants.{Walk, Try, Tried}
use Rattle.sg_pipes.specs.declared.frame.Passed.{Passed}
use Rattle.sg_pipes.specs.declared.frame.SiblingTrial.{SiblingTrial}
use Rattle.sg_pipes.specs.declared.frame.Passed.TheVariants.{On, Stopped, Arrived}
use Rattle.sg_pipes.specs.declared.work.WalkWork.{WalkWork}
use Rattle.sg_pipes.specs.Messages.{messages_of}
use Rattle.sg_pipes.specs.Frames.{run, does, group_of, delivered_by}

-- all that was left so far
abbrev pub now : WalkWork → WalkResult
now work = record {
  deliveries = work.offers.items;
  out = messages_of work.back.out;
  processed = work.back.processed;
}

-- the work came from what this makes of what was left last to frames that wait
pub record ComesToFrames (pipes : List Pipe) (made : WalkResult) (old new : WalkWork) : Type 0 where
  pub offered : new.offered ≡ old.offered
  pub more : List WalkFrame
  pub frames : new.frames.items ≡ old.frames.items ++ more
  pub comes : run pipes old.offered.items (reverse more) (now new) ≡ made

-- the same of the deliveries alone, where no one waits for what comes out
pub record DeliversOffers (pipes : List Pipe) (made : WalkResult)
    (old new : WalkWork) : Type 0 where
  pub offered : new.offered ≡ old.offered
  pub more : List WalkFrame
  pub frames : new.frames.items ≡ old.frames.items ++ more
  pub delivers : (run pipes old.offered.items (reverse more) (now new)).deliveries ≡ made.deliveries

abbrev pub WorkComesTo : Bool → List Pipe → WalkResult → WalkWork → WalkWork → Type 0
WorkComesTo true = DeliversOffers
WorkComesTo false = ComesToFrames

abbrev pub TurnsWalk : List Pipe → WalkFrame → WalkWork → WalkWork → Type 0
TurnsWalk pipes frame old new =
    ComesToFrames pipes (does pipes old.offered.items frame (now old)) old new

-- all that waited is done
pub record WorksWalk (pipes : List Pipe) (old new : WalkWork) : Type 0 where
  pub offered : new.offered ≡ old.offered
  pub frames : new.frames.items ≡ []
  pub done : run pipes old.offered.items (reverse old.frames.items) (now old) ≡ now new

-- the branches, behind one that waits, if any
abbrev pub behind : Option Branch → List Branch → List Branch
behind None more = more
behind (Some branch) more = branch ∷ more

-- no frame waits, and with what is still to be walked it delivers what it did with what was to be
abbrev pub DeliversWith : List Pipe → Content → Bool → WalkWork → List Branch → WalkWork
    → List Branch → Type 0
DeliversWith pipes m flow old before new after =
    (new.offered ≡ old.offered) × (new.frames.items ≡ [])
    × (new.offers.items ++ delivered_by (steps_at pipes) after m flow
    ≡ old.offers.items ++ delivered_by (steps_at pipes) before m flow)

-- a message at a pipe went on, was stopped, or is there still
abbrev pub PassesPipe : List Pipe → ℕ → Content → Content → Bool → WalkWork → WalkWork → Passed
    → Type 0
PassesPipe pipes at before after flow old new (On next) =
    (does pipes old.offered.items (Walk next after flow) (now new)
    ≡ does pipes old.offered.items (Walk at before flow) (now old))
    × (new.frames ≡ old.frames) × (new.offered ≡ old.offered)
PassesPipe pipes at before after flow old new Stopped =
    TurnsWalk pipes (Walk at before flow) old new
PassesPipe pipes at before after flow old new Arrived = (new ≡ old) × (after ≡ before)

-- what a filter does with the message, where one stands there
abbrev pub FiltersMessage : List Pipe → ℕ → Content → Passed → Type 0
FiltersMessage pipes at m (On next) = (flow : Bool)
    → walk (steps_at pipes next) m flow ≡ walk (steps_at pipes at) m flow
FiltersMessage pipes at m Stopped = (flow : Bool) → walk (steps_at pipes at) m flow ≡ stopped
FiltersMessage pipes at m Arrived = Unit {0}

-- where a list goes on for the message, None where it stops it
abbrev pub Enters : List Pipe → ℕ → Content → Option ℕ → Type 0
Enters pipes start m (Some next) = (flow : Bool)
    → walk (steps_at pipes next) m flow ≡ walk (steps_at pipes start) m flow
Enters pipes start m None = (flow : Bool) → walk (steps_at pipes start) m flow ≡ stopped

-- The next sibling that is walked, from where its list goes on, or none of the round: what is left then is what the siblings from the old place on leave.
abbrev pub Picks : List Pipe → List Branch → SiblingTrial → SiblingTrial → Option Branch → Type 0
Picks pipes offered old new (Some branch) = (new ≡ record old { index = new.index })
    × ((before : WalkResult) → does pipes offered (Tried new branch.is_final branch.drop_unmatched)
    (after_deliveries before.deliveries
    (walk (steps_at pipes branch.start) old.message (old.flow || branch.flow)))
    ≡ does pipes offered (Try old) before)
Picks pipes offered old new None = (new ≡ record old { index = new.index })
    × (slice_get (group_of offered pipes old.group) new.index ≡ None)
    × ((before : WalkResult) → does pipes offered (Try new) before
    ≡ does pipes offered (Try old) before)
