use Rattle.std.proofs.Common.{◌≡◌, drop}
use Rattle.sg_fault.specs.Faults.{earlier, least}
use Rattle.sg_options.specs.Settings.{calls_of}
use Rattle.sg_destination.specs.Templates.{template_faults}
use Rattle.sg_destination.proofs.templates.template_fault.Given as goal

abbrev pub invariant-loop-arg : goal.invariant-loop-arg
invariant-loop-arg g l =
    least (template_faults (g.T.Templates.texts l.templates) (calls_of l.args))
    ≡ earlier l.found (least (template_faults (g.T.Templates.texts l.templates) (calls_of (drop l.arg-index l.args))))
