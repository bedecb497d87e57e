use Rattle.std.proofs.Common.{◌∙◌, ◌||◌, ap}
use Rattle.sg_offers.specs.Payloads.{buffers_of}
use Rattle.sg_offers.specs.Rooms.{seen_in}
use Rattle.sg_core.specs.Admits.{is_staged}
use Rattle.sg_core.proofs.CommitSteps.{appended-all}
use Rattle.sg_core.proofs.appends.append_all.Goals as goal

pub returns : goal.returns
returns g c =
    appended-all c.args.stores.now c.stage_all.new.stores c.commit_all.new.stores (buffers_of (seen_in c.args.sinks.now)) c.args.payloads.now c.stage_all.new.staged c.commit_all.new.staged c.stage_all.ensures.stores
    (λ d. c.stage_all.ensures.flags d ∙ ap (λ b. b || is_staged d c.args.payloads.now) (c.requires.unset d)) c.commit_all.ensures c.requires.apart
