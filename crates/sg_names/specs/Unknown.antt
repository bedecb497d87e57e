-- Names that stand for nothing.
use Rattle.std.specs.Prelude.{ℕ, List, [], ◌∷◌, Option, Some, None}
use Rattle.std.specs.List.{flat_map}
use Rattle.sg_lex.specs.declared.fault.ConfigKind.TheVariants.{UnknownName}
use Rattle.sg_lex.specs.declared.place.Line.{Line}
use Rattle.sg_fault.specs.declared.placed.Placed.{Placed}
use Rattle.sg_names.specs.declared.reference.Reference.{Reference}
use Rattle.sg_names.specs.declared.reference.Term.{Term}
use Rattle.sg_names.specs.declared.part.NameUse.{NameUse}
use Rattle.sg_names.specs.declared.part.NameUse.TheVariants as part

abbrev pub unknown_at : Line → Option ℕ → List Placed
unknown_at line None = (record { kind = UnknownName; line = line }) ∷ []
unknown_at line (Some place) = []

-- "unknown name": at a reference
abbrev pub reference_faults : Reference → List Placed
reference_faults reference = unknown_at reference.line reference.place

abbrev pub reference_faults_if : Option Reference → List Placed
reference_faults_if None = []
reference_faults_if (Some reference) = reference_faults reference

abbrev pub term_faults : Term → List Placed
term_faults term = reference_faults_if term.filter

abbrev pub terms_faults : List Term → List Placed
terms_faults terms = flat_map term_faults terms

abbrev pub part_faults : NameUse → List Placed
part_faults (part.Expression terms) = terms_faults terms
part_faults (part.Rewrite word conditions) = flat_map terms_faults conditions
part_faults (part.Filter reference) = reference_faults reference
part_faults (part.Rewrites reference) = reference_faults reference
part_faults (part.Parser word) = []
part_faults (part.Parsers reference) = reference_faults reference
part_faults (part.End reference) = reference_faults reference

abbrev pub unknown : List NameUse → List Placed
unknown parts = flat_map part_faults parts
