use Rattle.std.proofs.Common.{Bool, refl, ap₂}
use Rattle.std.specs.Prelude.{◌&&◌}
use Rattle.sg_tree.specs.Plain.{marks}
use Rattle.sg_tree.proofs.Turning.{same-turn}
use Rattle.test_paths.proofs.plain.takes_part.Goals as goal

pub returns : goal.returns
returns c = λ named. ap₂ (λ (a b : Bool). a && b) (c.is_offered.ensures named) (same-turn c.args.late (marks c.args.path.now).fallback (marks c.args.path.now) refl)
