use Rattle.sg_driver.specs.Defaults.{AreDefaults}
use Rattle.test_configuration.proofs.driver.objects.defaults_of.Given as goal

abbrev pub invariant-loop-object : goal.invariant-loop-object
invariant-loop-object l = AreDefaults l.defaults
