-- Each call leaves a core at some state.
use Rattle.std.proofs.Common.{◌≡◌, List, Option, map, sym, ap, ◌∙◌, subst, refl, [], ◌∷◌}
use Rattle.sg_machine.specs.declared.event.Act.{Act}
use Rattle.sg_machine.specs.declared.setup.BufferSetup.{BufferSetup}
use Rattle.sg_machine.specs.declared.setup.DestSetup.{DestSetup}
use Rattle.sg_machine.specs.declared.setup.Setup.{Setup}
use Rattle.sg_machine.specs.Effects.{after_act}
use Rattle.sg_sinks.specs.States.{SinkState}
use Rattle.sg_offers.specs.Payloads.{buffers_of, AreSmall}
use Rattle.sg_standing.specs.States.{CoreState}
use Rattle.sg_standing.specs.Standing.{DoesAct}
use Rattle.sg_core.specs.Whole.{IsWholeCore}

-- the disk-buffers of a setup
abbrev buffers_in : Setup → List (Option BufferSetup)
buffers_in setup = map (λ (d : DestSetup). d.buffer) setup.dests

buffers-setup : (sinks : List SinkState) → map (λ (d : DestSetup). d.buffer) (map (λ (k : SinkState). k.setup) sinks) ≡ buffers_of sinks
buffers-setup [] = refl
buffers-setup (k ∷ sinks) = ap (λ (bs : List (Option BufferSetup)). k.setup.buffer ∷ bs) (buffers-setup sinks)

pub whole-still : (old new : CoreState) (act : Act) → IsWholeCore old → DoesAct old new act → IsWholeCore new
whole-still old new act whole does = record {
  state = after_act whole.state act does.failed;
  at = (does.step whole.state whole.at).1;
  small =
      let same : buffers_of old.sinks ≡ buffers_of new.sinks = sym (buffers-setup old.sinks) ∙ ap buffers_in (sym does.setup) ∙ buffers-setup new.sinks in
      subst AreSmall same whole.small;
}
