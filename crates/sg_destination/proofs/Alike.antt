-- The options of a driver make one driver.
use Rattle.std.proofs.Common.{◌≡◌, ◌≤◌, ◌≤ℤ◌, pos, negsuc, Option, Some, None, Result, Ok, Err, List, ap, sym, ◌∙◌, refl}
use denote.Struct.Props.{props}
use mathlib.Core.HLevel.{is_prop→PathP}
use Rattle.std.specs.Option.{ForSome}
use Rattle.sg_macro.specs.declared.part.TemplatePart.{TemplatePart}
use Rattle.sg_macro.specs.declared.fault.TemplateFault.{TemplateFault}
use Rattle.sg_macro.specs.Reading.{parts_of}
use Rattle.sg_template.specs.declared.env.Env.{Env}
use Rattle.sg_outfmt.specs.declared.shape.DriverKind.{DriverKind}
use Rattle.sg_outfmt.specs.declared.shape.DriverKind.TheVariants.{File, Network, Syslog}
use Rattle.sg_outfmt.specs.declared.shape.Shape.{Shape}
use Rattle.sg_outfmt.specs.declared.shape.Shape.TheVariants.{Text, Counted5424, ByPath}
use Rattle.sg_outfmt.specs.Shape.{IsDefault}
use Rattle.sg_parse_base.specs.declared.spot.Spot.{Spot}
use Rattle.sg_parse_expr.specs.declared.tree.Call.{Call}
use Rattle.sg_options.specs.Settings.{last_value}
use Rattle.sg_driver.specs.declared.defaults.Defaults.{Defaults}
use Rattle.sg_driver.specs.Driver.{driver_kind, options_of}
use Rattle.sg_run_plan.specs.declared.outlet.OutletPlan.{OutletPlan}
use Rattle.sg_destination.specs.declared.outlet.DestinationDriver.{DestinationDriver}
use Rattle.sg_destination.specs.Templates.{Texts, template_words, text_named, IsTextShape, HasShape}
use Rattle.sg_destination.specs.ByPath.{path_parts, with_path}
use Rattle.sg_destination.specs.Outlets.{HasEnv, HasFrames, IsOutletPlan, IsDestination}

same_env : (a b : Env) → a.zone ≡ b.zone → a.digits ≡ b.digits → a.iso ≡ b.iso → a.old ≡ b.old → a ≡ b
same_env a b zone digits iso old = λ i. record {
  zone = zone i;
  digits = digits i;
  iso = iso i;
  old = old i;
  at_most_six = is_prop→PathP (λ j. digits j ≤ 6) (λ j. hlevel props) a.at_most_six b.at_most_six i;
  zone_in_range = is_prop→PathP (λ j. ForSome (zone j) (λ offset. (negsuc 1438 ≤ℤ offset) × (offset ≤ℤ pos 1439))) (λ j. hlevel props) a.zone_in_range b.zone_in_range i;
}

same_parts : (read : Result (List TemplatePart) TemplateFault) (p q : List TemplatePart) → read ≡ Ok p → read ≡ Ok q → p ≡ q
same_parts read p q e f = cc

default_is_one : (kind : DriverKind) (a b : Shape) → IsDefault kind a → IsDefault kind b → a ≡ b
default_is_one File (Text p) (Text q) e f = ap Text (same_parts _ p q e f)
default_is_one Network (Text p) (Text q) e f = ap Text (same_parts _ p q e f)
default_is_one Syslog Counted5424 Counted5424 e f = refl
default_is_one File Counted5424 b e f = absurd e
default_is_one File (ByPath p t) b e f = absurd e
default_is_one File (Text p) Counted5424 e f = absurd f
default_is_one File (Text p) (ByPath q t) e f = absurd f
default_is_one Network Counted5424 b e f = absurd e
default_is_one Network (ByPath p t) b e f = absurd e
default_is_one Network (Text p) Counted5424 e f = absurd f
default_is_one Network (Text p) (ByPath q t) e f = absurd f
default_is_one Syslog (Text p) b e f = absurd e
default_is_one Syslog (ByPath p t) b e f = absurd e
default_is_one Syslog Counted5424 (Text q) e f = absurd f
default_is_one Syslog Counted5424 (ByPath q t) e f = absurd f

text_is_one : (kind : DriverKind) (read : Result (List TemplatePart) TemplateFault) (a b : Shape) → IsTextShape kind read a → IsTextShape kind read b → a ≡ b
text_is_one kind (Ok parts) a b e f = e ∙ sym f
text_is_one kind (Err fault) a b e f = default_is_one kind a b e f

shape_is_one : (texts : Texts) (kind : DriverKind) (value : Option Spot) (a b : Shape) → HasShape texts kind value a → HasShape texts kind value b → a ≡ b
shape_is_one texts kind None a b e f = default_is_one kind a b e f
shape_is_one texts kind (Some spot) a b e f = text_is_one kind (parts_of (text_named (texts spot.token.text) spot)) a b e f

frames_are_one : (texts : Texts) (call : Call) (a b : Shape) → HasFrames texts call a → HasFrames texts call b → a ≡ b
frames_are_one texts call a b p q =
    let text : p.text ≡ q.text = shape_is_one texts (driver_kind call) (last_value template_words (options_of call)) p.text q.text p.has_text q.has_text in
    p.shape_is ∙ ap (with_path (path_parts call)) text ∙ sym q.shape_is

env_is_one : (defaults : Defaults) (call : Call) (a b : Env) → HasEnv defaults call a → HasEnv defaults call b → a ≡ b
env_is_one defaults call a b p q = same_env a b (p.zone ∙ sym q.zone) (p.digits ∙ sym q.digits) (p.iso ∙ sym q.iso) (p.old ∙ sym q.old)

same_plan : (a b : OutletPlan) → a.spec ≡ b.spec → a.shape ≡ b.shape → a.env ≡ b.env → a.overflow ≡ b.overflow → a ≡ b
same_plan a b spec shape env overflow = λ i. record { spec = spec i; shape = shape i; env = env i; overflow = overflow i }

plan_is_one : (defaults : Defaults) (texts : Texts) (call : Call) (a b : OutletPlan) → IsOutletPlan defaults texts call a → IsOutletPlan defaults texts call b → a ≡ b
plan_is_one defaults texts call a b p q =
    same_plan a b (p.spec ∙ sym q.spec)
    (frames_are_one texts call a.shape b.shape p.shape q.shape)
    (env_is_one defaults call a.env b.env p.env q.env)
    (p.overflow ∙ sym q.overflow)

same_destination : (a b : DestinationDriver) → a.plan ≡ b.plan → a.fifo ≡ b.fifo → a.buffer ≡ b.buffer → a ≡ b
same_destination a b plan fifo buffer = λ i. record { plan = plan i; fifo = fifo i; buffer = buffer i }

pub destinations_are_one : (defaults : Defaults) (texts : Texts) (call : Call) (a b : DestinationDriver)
    → IsDestination defaults texts call a → IsDestination defaults texts call b → a ≡ b
destinations_are_one defaults texts call a b p q =
    same_destination a b (plan_is_one defaults texts call a.plan b.plan p.plan q.plan) (p.fifo ∙ sym q.fifo) (p.buffer ∙ sym q.buffer)
