-- What the frames that wait come to.
use Rattle.std.specs.Prelude.{◌≡◌, ℕ, Bool, true, false, ◌&&◌, ◌||◌, List, [], ◌∷◌, ◌++◌, drop, reverse, Option, Some, slice_get, if◌then◌else◌}
use Rattle.std.specs.List.{list_any}
use Rattle.sg_msg.specs.Message.{Content}
use Rattle.sg_msg.specs.declared.offer.Offer.{Offer}
use Rattle.sg_pipes.specs.declared.gone.Gone.{Gone}
use Rattle.sg_pipes.specs.Messages.{messages_of}
use Rattle.sg_tree.specs.Walk.{WalkResult, Siblings, walk, round, each, then_each, both, two_rounds, after_deliveries}
use Rattle.sg_table.specs.declared.pipe.Branch.{Branch}
use Rattle.sg_table.specs.declared.pipe.Pipe.{Pipe}
use Rattle.sg_table.specs.declared.pipe.Pipe.TheVariants as pipe
use Rattle.sg_table.specs.Table.{StepsByPlace, siblings_of, branches_at, steps_at}
use Rattle.sg_pipes.specs.declared.frame.SiblingList.{SiblingList}
use Rattle.sg_pipes.specs.declared.frame.SiblingList.TheVariants.{Offered, At}
use Rattle.sg_pipes.specs.declared.frame.SiblingTrial.{SiblingTrial}
use Rattle.sg_pipes.specs.declared.frame.WaitingElements.{WaitingElements}
use Rattle.sg_pipes.specs.declared.frame.WalkFrame.{WalkFrame}
use Rattle.sg_pipes.specs.declared.frame.WalkFrame.TheVariants as frame

abbrev pub branches_of : Option Pipe → List Branch
branches_of (Some (pipe.Junction channels next)) = channels.items
branches_of (Some (pipe.Embedded logs)) = logs.items
branches_of _ = []

abbrev pub group_of : List Branch → List Pipe → SiblingList → List Branch
group_of offered pipes Offered = offered
group_of offered pipes (At place) = branches_of (slice_get pipes place)

-- one of them waits for the second round
abbrev pub has_fallback : List Branch → Bool
has_fallback branches = list_any (λ branch. branch.fallback) branches

-- for one of them it counts what the others leave
abbrev pub has_final_or_fallback : List Branch → Bool
has_final_or_fallback branches = list_any (λ branch. branch.is_final || branch.fallback) branches

-- what they deliver, each walked by itself
abbrev pub delivered_by : StepsByPlace → List Branch → Content → Bool → List Offer
delivered_by at [] m f = []
delivered_by at (branch ∷ more) m f =
    (walk (at branch.start) m (f || branch.flow)).deliveries ++ delivered_by at more m f

-- the first of the siblings is next, and nothing was left
abbrev pub IsFirstTrial : SiblingList → Content → Bool → SiblingTrial → Type 0
IsFirstTrial group message flow trial =
    (trial ≡ record {
      group = group;
      index = 0;
      late = false;
      message = message;
      flow = flow;
      left = trial.left;
    })
    × (messages_of trial.left.out ≡ []) × (trial.left.processed ≡ false)

-- what was left before, and what is left now; the deliveries so far are those of now
abbrev pub with_left : Gone → WalkResult → WalkResult
with_left gone now = record {
  deliveries = now.deliveries;
  out = messages_of gone.out ++ now.out;
  processed = gone.processed || now.processed;
}

-- the deliveries so far, and nothing else
abbrev pub only_deliveries : WalkResult → WalkResult
only_deliveries now = record { deliveries = now.deliveries; out = []; processed = false }

-- from these siblings of a round on
abbrev pub trying : Bool → WalkResult → Siblings → Siblings → Content → Bool → WalkResult
trying true so_far rest all m f = both so_far (round rest true m f)
trying false so_far rest all m f = two_rounds (both so_far (round rest false m f))
    (round all true m f)

module _ (pipes : List Pipe) (offered : List Branch) where
  abbrev pub from : SiblingList → ℕ → Siblings
  from group index = siblings_of
      (branches_at (steps_at pipes) (drop index (group_of offered pipes group)))

  -- no sibling is tried from there on
  abbrev pub IsWalkOver : SiblingList → ℕ → Bool → Type 0
  IsWalkOver group index late = (so_far : WalkResult) (m : Content) (f : Bool)
      → trying late so_far (from group index) (from group 0) m f ≡ so_far

  abbrev pub tries : SiblingTrial → WalkResult → WalkResult
  tries trial so_far = trying trial.late so_far (from trial.group trial.index) (from trial.group 0)
      trial.message trial.flow

  abbrev pub tried : SiblingTrial → Bool → WalkResult → WalkResult
  tried trial is_final mine =
      if mine.processed && is_final then with_left trial.left mine
      else tries trial (with_left trial.left mine)

  abbrev pub waits : WaitingElements → WalkResult → WalkResult
  waits wait now =
      let later = each (λ n. walk (steps_at pipes wait.next) n wait.flow)
      (reverse (messages_of wait.waiting)) in
      let so_far = with_left wait.left now in
      record {
        deliveries = now.deliveries ++ later.deliveries;
        out = so_far.out ++ later.out;
        processed = wait.counts && (so_far.processed || later.processed);
      }

  -- what a frame makes of what was left last
  abbrev pub does : WalkFrame → WalkResult → WalkResult
  does (frame.Walk at m f) now = after_deliveries now.deliveries (walk (steps_at pipes at) m f)
  does (frame.Try trial) now = tries trial (with_left trial.left (only_deliveries now))
  does (frame.Tried trial is_final drop_unmatched) now =
      tried trial is_final (record now { processed = now.processed || drop_unmatched })
  does (frame.Last left drop_unmatched) now =
      with_left left (record now { processed = now.processed || drop_unmatched })
  does (frame.Rest next f) now = then_each now (λ n. walk (steps_at pipes next) n f)
  does (frame.Each wait) now = waits wait now
  does (frame.Out m) now = record { deliveries = now.deliveries; out = m ∷ []; processed = true }

  -- the frames that wait, the first to be done first
  abbrev pub run : List WalkFrame → WalkResult → WalkResult
  run [] now = now
  run (one ∷ more) now = run more (does one now)
