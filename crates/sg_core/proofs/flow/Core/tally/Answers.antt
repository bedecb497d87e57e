use Rattle.std.proofs.Common.{◌∙◌, ap, map}
use Rattle.sg_offers.specs.Rooms.{seen_in}
use Rattle.sg_core.specs.Tallying.{source_tally_of, sink_tally_of}
use Rattle.sg_core.proofs.Fits.{fits, tallies}
use Rattle.sg_core.proofs.flow.Core.tally.Goals as goal

pub tally_sources-requires : goal.tally_sources-requires
tally_sources-requires g c = rw c.as_slice.ensures (fits _ c.self.invariant.state c.self.invariant.at)

pub returns : goal.returns
returns g c =
    let sources = c.new.ensures ∙ c.in_ok-sources.ensures ∙ ap (map (source_tally_of c.self.inside.stores)) c.as_slice.ensures in
    let dests = c.new-2.ensures ∙ c.in_ok-dests.ensures ∙ ap (λ ks. map sink_tally_of (seen_in ks)) c.as_slice-2.ensures in
    rw (← c.self.view_is) (λ s at. tallies _ s _ _ at sources dests)
