-- The headline by the log paths of a configuration.
use Rattle.std.proofs.Common.{◌≡◌, List, Option, Some, None, ◌++◌, map, subst}
use Rattle.sg_machine.specs.declared.event.Event.{Event}
use Rattle.sg_machine.specs.declared.state.State.{State}
use Rattle.sg_tree.specs.Offers.{Woods, AreOffers}
use Rattle.sg_pipes.specs.declared.pipes.Pipes.{Pipes}
use Rattle.sg_laws.specs.Texts.{taken_from, TakesFirstTexts}
use Rattle.sg_serve.specs.Run.{CoreRun, Reached}
use Rattle.sg_run_plan.specs.declared.plan.RunPlan.{RunPlan}
use Rattle.sg_laws.specs.Headline.{frame_at, records_of, TakesPrefixes, Headline, Delivers}
use Rattle.sg_laws.proofs.PreludeLemmas.{get-back}
use Rattle.sg_run.specs.Meaning.{paths_of}
use Rattle.sg_run.specs.Run.{offers_by}

texts-by : (plan : RunPlan) (routers : List Pipes) (reached : Reached) (start : State) (events : List Event) → TakesPrefixes offers_by plan routers reached start events
    → TakesPrefixes AreOffers plan (map paths_of routers) reached start events
texts-by plan routers reached start events texts i d inlet woods closed first last at_inlet at_woods at_closed is =
    let a = get-back paths_of routers i woods at_woods in
    let frame = frame_at plan.outlets.items in
    subst (λ (w : Woods). TakesFirstTexts (AreOffers w) frame i d (records_of inlet closed) events (taken_from frame i d first last) last.left) a.1.1
    (texts i d inlet a.0 closed first last at_inlet a.1.0 at_closed is)

headline-by : (plan : RunPlan) (routers : List Pipes) (reached : Reached) (run : CoreRun) → Headline offers_by plan routers reached run → Headline AreOffers plan (map paths_of routers) reached run
headline-by plan routers reached run h = record {
  opens = h.opens;
  later = h.later;
  ran = h.ran;
  accepted = h.accepted;
  faults = h.faults;
  holds = record {
    texts = texts-by plan routers reached _ (run.prelude ++ h.later) (h.holds).texts;
    taken = (h.holds).taken;
    by_path = (h.holds).by_path;
    legal = (h.holds).legal;
    due = (h.holds).due;
    windows = (h.holds).windows;
    stands = (h.holds).stands;
    begins = (h.holds).begins;
    stop = (h.holds).stop;
    stop_then = (h.holds).stop_then;
  };
}

pub delivers-by : (plan : RunPlan) (routers : List Pipes) (paths : List Woods) (reached : Reached) (core : Option CoreRun) → map paths_of routers ≡ paths → Delivers offers_by plan routers reached core
    → Delivers AreOffers plan paths reached core
delivers-by plan routers paths reached None are h = h
delivers-by plan routers paths reached (Some run) are h = subst (λ (ws : List Woods). Headline AreOffers plan ws reached run) are (headline-by plan routers reached run h)
