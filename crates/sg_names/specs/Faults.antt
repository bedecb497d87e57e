-- What is wrong with the names of a configuration.
use Rattle.std.specs.Prelude.{◌≡◌, ℕ, ◌<◌, min, List, [], ◌∷◌, length, slice_get, slice_index, Option, Some, None}
use Rattle.std.specs.List.{flat_map}
use Rattle.sg_lex.specs.declared.fault.ConfigKind.TheVariants.{FilterCycle}
use Rattle.sg_lex.specs.declared.place.Line.{Line}
use Rattle.sg_parse_text.specs.declared.statement.Statement.{Statement}
use Rattle.sg_fault.specs.declared.placed.Placed.{Placed}
use Rattle.sg_fault.specs.Faults.{earlier, least}
use Rattle.sg_graph.specs.Graph.{IsFirstOnCycle}
use Rattle.sg_graph.specs.Sizes.{size_of}
use Rattle.sg_names.specs.declared.names.Names.{Names}
use Rattle.sg_names.specs.declared.part.NameUse.{NameUse}
use Rattle.sg_names.specs.declared.filters.Filters.{Filters}
use Rattle.sg_names.specs.Registers.{names_of, repeated}
use Rattle.sg_names.specs.Paths.{parts_of}
use Rattle.sg_names.specs.Filters.{filters_of}
use Rattle.sg_names.specs.Sizes.{most, rewrite_sizes, parser_sizes}
use Rattle.sg_names.specs.Unknown.{unknown}
use Rattle.sg_names.specs.Limits.{part_limits, total_faults}

-- the size of each filter statement's expression, with those of the filters that it names
abbrev pub AreFilterSizes : Filters → List ℕ → Type 0
AreFilterSizes filters sizes = (length sizes ≡ length filters.links)
    × ((i : ℕ) → slice_index sizes i ≡ min most (size_of filters.links filters.own i))

abbrev pub cycle_at : Option Line → Option Placed
cycle_at None = None
cycle_at (Some line) = Some (record { kind = FilterCycle; line = line })

-- an expression that is too large, or with which all become so
abbrev pub limits : Names → List ℕ → List Statement → List NameUse → Option Placed
limits names sizes statements parts = earlier (least (flat_map (part_limits sizes) parts))
    (least (total_faults sizes (rewrite_sizes names sizes statements) (parser_sizes statements) 0
    parts))

-- Sizes are looked at where no filter refers to itself.
abbrev pub HasRest : Names → Filters → List Statement → List NameUse → Option ℕ → Option Placed
    → Type 0
HasRest names filters statements parts (Some i) fault = fault ≡ cycle_at (slice_get filters.lines i)
HasRest names filters statements parts None fault = (sizes : List ℕ) × AreFilterSizes filters sizes
    × (fault ≡ limits names sizes statements parts)

-- the first filter statement that refers to itself, if any, and what else is wrong then
abbrev pub IsNamesRest : Names → Filters → List Statement → List NameUse → Option Placed → Type 0
IsNamesRest names filters statements parts fault = (cycle : Option ℕ)
    × IsFirstOnCycle filters.links cycle × HasRest names filters statements parts cycle fault

-- the first of all that is wrong
abbrev pub IsNamesFault : List Statement → Option Placed → Type 0
IsNamesFault statements fault =
    let names = names_of statements in
    let parts = parts_of names statements in
    (rest : Option Placed) × IsNamesRest names (filters_of names statements) statements parts rest
    × (fault ≡ earlier (earlier (repeated statements) (least (unknown parts))) rest)
