use denote.Param.Send.{sendable}
use Rattle.std.proofs.Common.{sym, subst, Ok, Err, arith}
use Rattle.sg_pipes.proofs.Sent.{pipes}
use Rattle.sg_loaded.specs.declared.loaded.Unloaded.TheVariants.{NoMemory}
use Rattle.sg_serve.specs.Plan.{IsRunnable, AllKnow}
use Rattle.sg_serve.specs.Run.{RunsPlan}
use Rattle.sg_run_plan.specs.declared.plan.RunPlan.{RunPlan}
use Rattle.sg_run.specs.Outcomes.{EndsSo}
use Rattle.sg_run.specs.Run.{offers_by, inlets_by, dests_by}
use Rattle.sg_run.proofs.PlanLemmas.{runnable, all-know}
use Rattle.sg_run.proofs.RunLemmas.{tells-by, runs-by, lines-by-plan}
use Rattle.sg_serve.specs.Exits.{way_of}
use Rattle.sg_run.proofs.running.run_by.Goals as goal

pub run_plan-ending-requires-send-R : goal.run_plan-ending-requires-send-R
run_plan-ending-requires-send-R g c κs lives = search (pipes, sendable) depth 30 fits 20000

pub run_plan-ending-requires-clause-plan : goal.run_plan-ending-requires-clause-plan
run_plan-ending-requires-clause-plan g c = λ κs lives.
    subst IsRunnable (sym c.plan_of-plan.ensures) (runnable c.args.config c.args.once c.requires.within)

pub run_plan-ending-requires-clause-routers : goal.run_plan-ending-requires-clause-routers
run_plan-ending-requires-clause-routers g c = λ κs lives.
    subst (λ (p : RunPlan). AllKnow inlets_by dests_by p c.args.routers.items) (sym c.plan_of-plan.ensures) (all-know c.args.config c.args.once c.args.routers.items c.requires.within c.requires.routers)

pub outcome_of-requires : goal.outcome_of-requires
outcome_of-requires g c =
    let feed = g.W.Feed.Inlet.state in
    let drain = (way_of g.W.Drain.Outlet.state g.W.Paths.Opener.state g.W.Store.Disk.state) in
    let old = g.W.Machine.state c.args.world.now in
    let new = g.W.Machine.state c.run_plan-ending.new.world in
    let ran = subst (λ (p : RunPlan). RunsPlan feed drain offers_by inlets_by dests_by old new p c.args.routers.items c.args.rounds c.run_plan-ending.result) c.plan_of-plan.ensures c.run_plan-ending.ensures in
    lines-by-plan feed drain old new c.args.config c.args.once c.args.rounds c.args.routers.items c.run_plan-ending.result c.args.lines c.requires.within c.requires.lines c.runs_deliver.ensures ran

pub returns-in-Ok-Some : goal.returns-in-Ok-Some
returns-in-Ok-Some g c =
    let feed = g.W.Feed.Inlet.state in
    let drain = (way_of g.W.Drain.Outlet.state g.W.Paths.Opener.state g.W.Store.Disk.state) in
    let old = g.W.Machine.state c.args.world.now in
    let new = g.W.Machine.state c.run_plan-ending.new.world in
    let ran = subst (λ (p : RunPlan). RunsPlan feed drain offers_by inlets_by dests_by old new p c.args.routers.items c.args.rounds c.run_plan-ending.result) c.plan_of-plan.ensures c.run_plan-ending.ensures in
    runs-by feed drain old new c.args.config c.args.once c.args.rounds c.args.routers.items c.run_plan-ending.result (Ok c.in-Ok-Some.outcome) c.requires.within c.requires.files c.requires.routers c.runs_deliver.ensures c.failed_stores_count.ensures c.quiet_runs_rest.ensures c.clean_runs_end.ensures c.runs_are_bounded.ensures c.plan_runs_happen.ensures c.plan_runs_cover.ensures c.plan_runs_end_clean.ensures c.plan_runs_rest.ensures (let most = c.requires.rounds in omega (arith, most)) ran
    (tells-by c.args.config c.args.once c.run_plan-ending.result c.args.lines c.in-Ok-Some.outcome c.requires.lines
    (subst (λ o. EndsSo c.args.lines c.run_plan-ending.result o) c.in-Ok-Some.field-0-is c.in-Ok-Some.ensures))

pub returns-in-Ok-None : goal.returns-in-Ok-None
returns-in-Ok-None g c =
    let feed = g.W.Feed.Inlet.state in
    let drain = (way_of g.W.Drain.Outlet.state g.W.Paths.Opener.state g.W.Store.Disk.state) in
    let old = g.W.Machine.state c.args.world.now in
    let new = g.W.Machine.state c.run_plan-ending.new.world in
    let ran = subst (λ (p : RunPlan). RunsPlan feed drain offers_by inlets_by dests_by old new p c.args.routers.items c.args.rounds c.run_plan-ending.result) c.plan_of-plan.ensures c.run_plan-ending.ensures in
    runs-by feed drain old new c.args.config c.args.once c.args.rounds c.args.routers.items c.run_plan-ending.result (Err NoMemory) c.requires.within c.requires.files c.requires.routers c.runs_deliver.ensures c.failed_stores_count.ensures c.quiet_runs_rest.ensures c.clean_runs_end.ensures c.runs_are_bounded.ensures c.plan_runs_happen.ensures c.plan_runs_cover.ensures c.plan_runs_end_clean.ensures c.plan_runs_rest.ensures (let most = c.requires.rounds in omega (arith, most)) ran tt

pub returns-in-Err : goal.returns-in-Err
returns-in-Err g c =
    let feed = g.W.Feed.Inlet.state in
    let drain = (way_of g.W.Drain.Outlet.state g.W.Paths.Opener.state g.W.Store.Disk.state) in
    let old = g.W.Machine.state c.args.world.now in
    let new = g.W.Machine.state c.run_plan-ending.new.world in
    let ran = subst (λ (p : RunPlan). RunsPlan feed drain offers_by inlets_by dests_by old new p c.args.routers.items c.args.rounds c.run_plan-ending.result) c.plan_of-plan.ensures c.run_plan-ending.ensures in
    runs-by feed drain old new c.args.config c.args.once c.args.rounds c.args.routers.items c.run_plan-ending.result (Err NoMemory) c.requires.within c.requires.files c.requires.routers c.runs_deliver.ensures c.failed_stores_count.ensures c.quiet_runs_rest.ensures c.clean_runs_end.ensures c.runs_are_bounded.ensures c.plan_runs_happen.ensures c.plan_runs_cover.ensures c.plan_runs_end_clean.ensures c.plan_runs_rest.ensures (let most = c.requires.rounds in omega (arith, most)) ran tt
