use Rattle.sg_run.proofs.FileLemmas.{reads-files}
use Rattle.sg_run.proofs.RunLemmas.{file-ran, file-left}
use Rattle.sg_serve.specs.Exits.{way_of}
use Rattle.sg_loaded.proofs.Loads.{loads-read}
use Rattle.sg_run.proofs.running.run_file.Goals as goal

pub returns-in-Ok : goal.returns-in-Ok
returns-in-Ok g c =
    let old = g.W.Machine.state c.args.world.now in
    let told = g.W.Machine.state c.tell_warnings.new.world in
    let read = g.W.Machine.state c.stats_freq-freq.new.files in
    file-ran g.W.Feed.Inlet.state (way_of g.W.Drain.Outlet.state g.W.Paths.Opener.state g.W.Store.Disk.state) old read (g.W.Machine.state c.run_config.new.world) c.args.file.now c.args.once c.args.rounds c.in-Ok.loaded
    c.run_config.result
    (loads-read old told read (loads-read old (g.W.Machine.state c.load_file.new.world) told c.load_file.ensures.only c.tell_warnings.ensures) c.stats_freq-freq.ensures)
    c.in-Ok.ensures.loads c.run_config.ensures

pub returns-in-Err : goal.returns-in-Err
returns-in-Err g c =
    file-left g.W.Feed.Inlet.state (way_of g.W.Drain.Outlet.state g.W.Paths.Opener.state g.W.Store.Disk.state) (g.W.Machine.state c.args.world.now) (g.W.Machine.state c.load_file.new.world) c.args.file.now c.args.once c.args.rounds c.in-Err.unloaded c.load_file.ensures.only c.in-Err.ensures.loads

pub run_config-requires-clause-within : goal.run_config-requires-clause-within
run_config-requires-clause-within g c = λ κs lives. c.texts_mean_one.ensures.within _ _ ((c.in-Ok.ensures.loads).configures).means

pub run_config-requires-clause-compiles : goal.run_config-requires-clause-compiles
run_config-requires-clause-compiles g c = λ κs lives. (c.in-Ok.ensures.loads).compiles

pub run_config-requires-clause-files : goal.run_config-requires-clause-files
run_config-requires-clause-files g c = λ κs lives. reads-files _ _ c.args.once ((c.in-Ok.ensures.loads).configures).means
