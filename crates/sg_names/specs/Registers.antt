-- Statements by their names.
use Rattle.std.specs.Prelude.{ℕ, ◌+◌, if◌then◌else◌, List, [], ◌∷◌, ◌++◌, Option, Some, None}
use Rattle.std.specs.FinMap as map
use Rattle.sg_lex.specs.declared.fault.ConfigKind.TheVariants.{DuplicateName}
use Rattle.sg_parse_base.specs.declared.spot.Spot.{Spot}
use Rattle.sg_parse_base.specs.Input.{spot_line}
use Rattle.sg_parse_text.specs.declared.statement.Statement.{Statement}
use Rattle.sg_fault.specs.declared.placed.Placed.{Placed}
use Rattle.sg_fault.specs.Faults.{earlier, least}
use Rattle.sg_names.specs.declared.kind.NameKind.{NameKind}
use Rattle.sg_names.specs.declared.kind.NameKind.TheVariants as kind
use Rattle.sg_names.specs.declared.register.Register.{Register}
use Rattle.sg_names.specs.declared.names.Names.{Names}
use Rattle.sg_names.specs.Kinds.{name_of}

abbrev pub empty_register : Register
empty_register = record { places = map.empty; count = 0 }

-- with a statement more: its name stands for it where no statement before has that name
abbrev pub entered : Register → Spot → Register
entered register spot = record {
  places = if map.contains_key register.places spot.token.text then register.places
      else map.insert register.places spot.token.text register.count;
  count = register.count + 1;
}

abbrev pub entered_if : Register → Option Spot → Register
entered_if register None = register
entered_if register (Some spot) = entered register spot

-- with all statements of a kind
abbrev pub registered : NameKind → Register → List Statement → Register
registered kind register [] = register
registered kind register (statement ∷ statements) = registered kind
    (entered_if register (name_of kind statement)) statements

-- "name defined twice": at the name of a statement where one before has it
abbrev pub repeat_of : Register → Spot → List Placed
repeat_of register spot =
    if map.contains_key register.places spot.token.text
    then (record { kind = DuplicateName; line = spot_line spot }) ∷ [] else []

abbrev pub repeat_if : Register → Option Spot → List Placed
repeat_if register None = []
repeat_if register (Some spot) = repeat_of register spot

abbrev pub repeats : NameKind → Register → List Statement → List Placed
repeats kind register [] = []
repeats kind register (statement ∷ statements) =
    repeat_if register (name_of kind statement)
    ++ repeats kind (entered_if register (name_of kind statement)) statements

-- ---- all kinds

unfoldable pub names_of : List Statement → Names
names_of statements = record {
  sources = registered kind.Source empty_register statements;
  destinations = registered kind.Destination empty_register statements;
  filters = registered kind.Filter empty_register statements;
  rewrites = registered kind.Rewrite empty_register statements;
  parsers = registered kind.Parser empty_register statements;
  templates = registered kind.Template empty_register statements;
}

abbrev pub first_repeat : List Statement → NameKind → Option Placed
first_repeat statements kind = least (repeats kind empty_register statements)

-- the first of all of them
unfoldable pub repeated : List Statement → Option Placed
repeated statements =
    earlier
    (earlier
    (earlier (first_repeat statements kind.Source) (first_repeat statements kind.Destination))
    (earlier (first_repeat statements kind.Filter) (first_repeat statements kind.Rewrite)))
    (earlier (first_repeat statements kind.Parser) (first_repeat statements kind.Template))

abbrev pub register_of : Names → NameKind → Register
register_of names kind.Source = names.sources
register_of names kind.Destination = names.destinations
register_of names kind.Filter = names.filters
register_of names kind.Rewrite = names.rewrites
register_of names kind.Parser = names.parsers
register_of names kind.Template = names.templates

-- the number of the first statement of a kind that has a name, among those of its kind
abbrev pub place_in : Names → NameKind → List ℕ → Option ℕ
place_in names kind name = map.get (register_of names kind).places name
