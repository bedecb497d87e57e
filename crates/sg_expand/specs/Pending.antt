-- What the work that waits comes to.
use Rattle.std.specs.Prelude.{◌≡◌, List, [], ◌∷◌}
use Rattle.std.specs.FinMap as map
use Rattle.sg_outside.specs.World.{WorldState}
use Rattle.sg_expand.specs.declared.frame.BlockCall.{BlockCall}
use Rattle.sg_expand.specs.declared.frame.ExpandFrame.{ExpandFrame}
use Rattle.sg_expand.specs.declared.frame.ExpandFrame.TheVariants.{Expands, Binds}
use Rattle.sg_expand.specs.Expansion.{ExpansionState, ExpansionOutcome, Goes, Stops, ExpansionJob, Tokens, Binding, RunsJob, with_out}

-- what goes on from a state of the expansion and of the machine
abbrev pub Later : Type 1
Later = ExpansionState → WorldState → ExpansionOutcome → Type 0

-- behind an outcome, what waits goes on
abbrev pub FollowsOutcome : ExpansionOutcome → Later → ExpansionOutcome → Type 0
FollowsOutcome (Goes middle world) later outcome = later middle world outcome
FollowsOutcome (Stops refusal names world) later outcome = outcome ≡ Stops refusal names world

abbrev pub RunsThen : ExpansionJob → ExpansionState → WorldState → Later → ExpansionOutcome → Type 0
RunsThen job state world later outcome = (first : ExpansionOutcome)
    × (RunsJob job state world first × FollowsOutcome first later outcome)

abbrev pub job_of : BlockCall → ExpansionJob
job_of call = Binding call.context call.serial call.body call.left call.bound

-- the value that is whole now is bound
abbrev pub FrameThen : ExpandFrame → ExpansionState → WorldState → Later → ExpansionOutcome → Type 0
FrameThen (Expands rest) state world later outcome =
    RunsThen (Tokens rest.context rest.fresh rest.tokens) state world later outcome
FrameThen (Binds wait) state world later outcome =
    RunsThen (job_of (record wait.call { bound = map.insert wait.call.bound wait.name state.out }))
    (with_out wait.out state) world later outcome

-- the frames that wait, the first to be done first, come to this outcome
abbrev pub FramesLead : List ExpandFrame → ExpansionState → WorldState → ExpansionOutcome → Type 0
FramesLead [] state world outcome = outcome ≡ Goes state world
FramesLead (frame ∷ frames) state world outcome =
    FrameThen frame state world (FramesLead frames) outcome
