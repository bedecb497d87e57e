-- The first thing that is wrong with a configuration.
use Rattle.std.specs.Prelude.{◌≡◌, List, Option}
use Rattle.sg_parse_text.specs.declared.statement.Statement.{Statement}
use Rattle.sg_fault.specs.declared.placed.Placed.{Placed}
use Rattle.sg_fault.specs.Faults.{earlier, least}
use Rattle.sg_names.specs.Faults.{IsNamesFault}
use Rattle.sg_values.specs.Texts.{values_faults}
use Rattle.sg_resolve.specs.Templates.{templates_of}
use Rattle.sg_resolve.specs.Ends.{counted}
use Rattle.sg_resolve.specs.Globals.{globals_faults}
use Rattle.sg_resolve.specs.Places.{places_faults}

-- of names, of values, of drivers and of places
abbrev pub IsFirstFault : List Statement → Option Placed → Type 0
IsFirstFault statements fault =
    (names : Option Placed) × IsNamesFault statements names
    × (fault
    ≡ earlier names (earlier (earlier (least (values_faults statements))
    (least (globals_faults statements)))
    (earlier (counted (templates_of statements) statements).first
    (least (places_faults statements)))))
