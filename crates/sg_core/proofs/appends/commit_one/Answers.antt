use Rattle.std.proofs.Common.{◌∙◌, sym, ap}
use Rattle.sg_machine.specs.declared.setup.DestSetup.{DestSetup}
use Rattle.sg_offers.specs.Payloads.{buffers_of}
use Rattle.sg_offers.specs.Rooms.{seen_in}
use Rattle.sg_core.proofs.AppendSteps.{buffer-of}
use Rattle.sg_core.proofs.CommitSteps.{commits-for, commits-none}
use Rattle.sg_core.proofs.appends.commit_one.Goals as goal

pub commit-requires : goal.commit-requires
commit-requires g c =
    let buffer = buffer-of c.args.sinks.now c.args.d c.at.result.now c.at.ensures ∙ ap (λ (s : DestSetup). s.buffer) (sym c.setup.ensures) ∙ c.in-Some.is in
    c.requires.stores c.args.d c.in-Some.buffer buffer

pub returns-in-Some : goal.returns-in-Some
returns-in-Some g c =
    let buffer = buffer-of c.args.sinks.now c.args.d c.at.result.now c.at.ensures ∙ ap (λ (s : DestSetup). s.buffer) (sym c.setup.ensures) ∙ c.in-Some.is in
    commits-for c.args.stores.now c.commit.new.self (buffers_of (seen_in c.args.sinks.now)) c.args.d c.in-Some.buffer c.commit.result buffer c.commit.ensures

pub returns-in-None : goal.returns-in-None
returns-in-None g c =
    let buffer = buffer-of c.args.sinks.now c.args.d c.at.result.now c.at.ensures ∙ ap (λ (s : DestSetup). s.buffer) (sym c.setup.ensures) ∙ c.in-None.is in
    commits-none c.args.stores.now (buffers_of (seen_in c.args.sinks.now)) c.args.d buffer
