-- Destinations whose files are named by their messages: which texts stand under which path.
use Rattle.std.specs.Prelude.{◌≡◌, ℕ, List, [], length, map, drop, slice_get, Some, None, IfSome}
use Rattle.sg_device.specs.Paths.{PathsState, PathText}
use Rattle.sg_msg.specs.Message.{Content}
use Rattle.sg_macro.specs.declared.part.TemplatePart.{TemplatePart}
use Rattle.sg_outfmt.specs.declared.shape.Shape.TheVariants.{ByPath}
use Rattle.sg_dynfile.specs.ByPath.{texts_with_path}
use Rattle.sg_dynfile.specs.Texts.{texts_under}
use Rattle.sg_machine.specs.declared.event.Event.{Event}
use Rattle.sg_machine.specs.declared.state.Dest.{Dest}
use Rattle.sg_machine.specs.declared.state.State.{State}
use Rattle.sg_core.specs.Answers.{IsBufferTold}
use Rattle.sg_run_plan.specs.declared.outlet.OutletPlan.{OutletPlan}
use Rattle.sg_run_plan.specs.declared.plan.RunPlan.{RunPlan}
use Rattle.sg_serve.specs.Exits.{Out}
use Rattle.sg_serve.specs.Run.{CoreRun, Reached}
use Rattle.sg_laws.specs.Fronts.{IsDestThroughout}

-- under each path stand the texts of the messages with that path, in order, and no others
abbrev pub AreByPath : OutletPlan → List Content → List PathText → Type 0
AreByPath plan messages texts =
    (path text : List TemplatePart) (name : List ℕ) → plan.shape ≡ ByPath path text
    → texts_under name texts ≡ texts_with_path path text plan.env name messages

-- by path: where messages name the files and no frames are held back, the texts that the opener of a destination took under a path in
-- this run are those of the entries settled that have this path, in order
abbrev pub TakesByPath : RunPlan → Reached → CoreRun → State → List Event → Type 0
TakesByPath plan reached run start events =
    (d : ℕ) (outlet : OutletPlan) (out : Out) (opener : PathsState) (first last : Dest)
    → slice_get plan.outlets.items d ≡ Some outlet
    → slice_get reached.outs_closed d ≡ Some out → out.held ≡ None → out.opener ≡ Some opener
    → IsDestThroughout start [] events d first last
    → IsBufferTold run.first.stores first.setup.buffer → IfSome opener.taken
    (AreByPath outlet (map (λ e. e.message) (drop (length first.settled) last.settled)))
