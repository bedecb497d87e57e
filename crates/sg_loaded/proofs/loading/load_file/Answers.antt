use Rattle.sg_loaded.proofs.Complete.{complete}
use Rattle.sg_loaded.proofs.loading.load_file.Goals as goal

pub returns-clause-complete : goal.returns-clause-complete
returns-clause-complete g c =
    complete c.expansions_are_one.ensures c.texts_mean_one.ensures.one c.texts_mean_one.ensures.none (g.W.Machine.state c.args.world.now) (g.W.Machine.state c.load_main.new.world) c.args.file.now c.load_main.result c.load_main.ensures.loads
