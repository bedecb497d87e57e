-- The values of filters, and of rewrites but for their conditions.
use Rattle.std.specs.Prelude.{ℕ, if◌then◌else◌, List, [], ◌∷◌, ◌++◌, codes}
use Rattle.std.specs.List.{flat_map}
use Rattle.sg_parse_expr.specs.declared.tree.Call.{Call, out-Call}
use Rattle.sg_fault.specs.declared.placed.Placed.{Placed}
use Rattle.sg_options.specs.Settings.{args_of, is_called}
use Rattle.sg_values.specs.declared.range.Scale.TheVariants.{Facility, Level}
use Rattle.sg_values.specs.Ranges.{range_faults}
use Rattle.sg_values.specs.Settings.{missing, name_faults, hard_faults, glob_faults}
use Rattle.sg_values.specs.Patterns.{pattern_faults}

abbrev pub match_faults : Call → List Placed
match_faults call = (missing (codes "value") call ++ flat_map name_faults (args_of call))
    ++ pattern_faults (args_of call)

unfoldable pub filter_faults : Call → List Placed
filter_faults call =
    if is_called (codes "facility" ∷ []) call then flat_map (range_faults Facility) (args_of call)
    else (if is_called (codes "level" ∷ codes "severity" ∷ codes "priority" ∷ []) call
    then flat_map (range_faults Level) (args_of call)
    else (if is_called (codes "program" ∷ codes "host" ∷ codes "message" ∷ []) call
    then pattern_faults (args_of call)
    else (if is_called (codes "match" ∷ []) call then match_faults call
    else [])))

abbrev pub named_faults : Call → List Placed
named_faults call = (missing (codes "value") call ++ flat_map name_faults (args_of call))
    ++ flat_map (hard_faults (out-Call call).word) (args_of call)

abbrev pub subst_faults : Call → List Placed
subst_faults call = named_faults call ++ pattern_faults (args_of call)

abbrev pub group_faults : Call → List Placed
group_faults call = missing (codes "values") call ++ flat_map glob_faults (args_of call)

unfoldable pub own_faults : Call → List Placed
own_faults call =
    if is_called (codes "set" ∷ codes "unset" ∷ []) call then named_faults call
    else (if is_called (codes "subst" ∷ []) call then subst_faults call
    else (if is_called (codes "groupset" ∷ codes "groupunset" ∷ []) call then group_faults call
    else []))
