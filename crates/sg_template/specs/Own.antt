-- How the templates of filters, rewrites and parsers are shown.
use Rattle.std.specs.Prelude.{ℕ, false, List, Option, None, Some, is_some}
use mathlib.Core.Path.{sym, ap}
use mathlib.Core.Bool.{true≢false}
use Prim.Native.Nat.{zero-le}
use Rattle.sg_template.specs.declared.env.Env.{Env}

-- each stamp at its own offset and without a fraction, STAMP as DATE, and this text for `$_`
abbrev pub own_env : Option (List ℕ) → Env
own_env old = record {
  zone = None;
  digits = 0;
  iso = false;
  old = old;
  at_most_six = zero-le;
  zone_in_range = λ offset is. absurd (true≢false (sym (ap is_some is)));
}
