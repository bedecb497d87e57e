use Rattle.std.proofs.Common.{◌∙◌, sym, ap}
use Rattle.sg_machine.specs.declared.setup.DestSetup.{DestSetup}
use Rattle.sg_offers.specs.Payloads.{buffers_of}
use Rattle.sg_offers.specs.Rooms.{seen_in}
use Rattle.sg_core.proofs.AppendSteps.{buffer-of, stages-for, stages-unbacked}
use Rattle.sg_core.proofs.appends.stage_one.Goals as goal

pub stage-requires : goal.stage-requires
stage-requires g c =
    let buffer = buffer-of c.args.sinks.now c.args.payload.now.dest c.at.result.now c.at.ensures ∙ ap (λ (s : DestSetup). s.buffer) (sym c.setup.ensures) ∙ c.in-Some.is in
    c.requires.stores c.args.payload.now.dest c.in-Some.buffer buffer

pub returns-in_default : goal.returns-in_default
returns-in_default g c =
    let buffer = buffer-of c.args.sinks.now c.args.payload.now.dest c.at.result.now c.at.ensures ∙ ap (λ (s : DestSetup). s.buffer) (sym c.setup.ensures) ∙ c.in_default.is in
    stages-unbacked c.args.stores.now (buffers_of (seen_in c.args.sinks.now)) c.args.payload.now buffer

pub returns : goal.returns
returns g c =
    let buffer = buffer-of c.args.sinks.now c.args.payload.now.dest c.at.result.now c.at.ensures ∙ ap (λ (s : DestSetup). s.buffer) (sym c.setup.ensures) ∙ c.in-Some.is in
    stages-for c.args.stores.now c.stage.new.self (buffers_of (seen_in c.args.sinks.now)) c.args.payload.now c.in-Some.buffer c.in-Some-block.block c.stage.result buffer c.in-Some-block.is c.stage.ensures
