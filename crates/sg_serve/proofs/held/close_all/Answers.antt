use Rattle.std.proofs.Common.{◌++◌, map}
use Rattle.std.specs.Prelude.{option_map, option_to_list}
use Rattle.sg_serve.specs.Exits.{out_of, parts_out}
use Rattle.sg_serve.proofs.RunLemmas.{closes-all}
use Rattle.sg_serve.proofs.held.close_all.Goals as goal

pub returns : goal.returns
returns g c =
    closes-all (g.W.Machine.state c.args.world.now) (g.W.Machine.state c.close_stores.new.world) (g.W.Machine.state c.close_sources.new.world) (g.W.Machine.state c.close_ways.new.world)
    (map g.W.Store.Disk.state c.args.held.stores.items)
    (map (λ a. g.W.Feed.Inlet.state a.inlet) c.args.held.sources.items ++ option_to_list (option_map g.W.Feed.Inlet.state c.args.held.feed))
    (map (out_of g.W.Drain.Outlet.state g.W.Paths.Opener.state g.W.Store.Disk.state) c.args.held.ways.items
    ++ option_to_list (option_map (parts_out g.W.Drain.Outlet.state g.W.Paths.Opener.state g.W.Store.Disk.state) c.args.held.last))
    c.close_stores.ensures c.close_sources.ensures c.close_ways.ensures
