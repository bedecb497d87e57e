use Rattle.std.proofs.Common.{◌≡◌, map, drop}
use Rattle.std.specs.Option.{option_copied}
use Rattle.sg_options.specs.Settings.{later, last_option}
use Rattle.sg_options.proofs.settings.last_option.Given as goal

abbrev pub invariant-loop-call : goal.invariant-loop-call
invariant-loop-call l =
    last_option (map (λ word. word.now) l.words) l.calls
    ≡ later (last_option (map (λ word. word.now) l.words) (drop l.call-index l.calls)) (option_copied l.last)
