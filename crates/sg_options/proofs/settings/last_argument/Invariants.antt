use Rattle.std.proofs.Common.{◌≡◌, map, drop}
use Rattle.std.specs.Option.{option_copied}
use Rattle.sg_options.specs.Settings.{later, last_option, calls_of}
use Rattle.sg_options.proofs.settings.last_argument.Given as goal

abbrev pub invariant-loop-arg : goal.invariant-loop-arg
invariant-loop-arg l =
    last_option (map (λ word. word.now) l.words) (calls_of l.args)
    ≡ later (last_option (map (λ word. word.now) l.words) (calls_of (drop l.arg-index l.args))) (option_copied l.last)
