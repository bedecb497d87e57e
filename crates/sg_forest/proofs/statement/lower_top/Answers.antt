use Rattle.std.proofs.Common.{map}
use Rattle.sg_forest.proofs.Whole.{top-made}
use Rattle.sg_forest.proofs.statement.lower_top.Goals as goal

pub returns : goal.returns
returns c =
    top-made c.args.names.now c.args.ends.now (map (λ calls. calls.now) c.args.rewrites.now) c.in_ok-path.path c.args.log.now c.in_ok-sources.sources.items c.as_slice.result.now c.as_slice-outlets.result.now
    c.as_slice-2.result.now c.in_ok-path.ensures.sources c.in_ok-sources.ensures c.as_slice.ensures c.as_slice-2.ensures c.in_ok-path.ensures.catchall c.in_ok-path.ensures.line c.as_slice-outlets.ensures
    c.in_ok-path.ensures.means
