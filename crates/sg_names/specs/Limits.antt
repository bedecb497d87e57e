-- Expressions that are too large.
use Rattle.std.specs.Prelude.{ℕ, ◌+◌, nat_lt, if◌then◌else◌, List, [], ◌∷◌, Option, Some, None}
use Rattle.std.specs.List.{flat_map}
use Rattle.sg_lex.specs.declared.fault.ConfigKind.TheVariants.{Limit}
use Rattle.sg_lex.specs.declared.place.Line.{Line}
use Rattle.sg_fault.specs.declared.placed.Placed.{Placed}
use Rattle.sg_names.specs.declared.reference.Term.{Term}
use Rattle.sg_names.specs.declared.part.NameUse.{NameUse}
use Rattle.sg_names.specs.declared.part.NameUse.TheVariants as part
use Rattle.sg_names.specs.Sizes.{terms_size, part_size}

abbrev pub limit_at : Option Line → List Placed
limit_at None = []
limit_at (Some line) = (record { kind = Limit; line = line }) ∷ []

-- where an expression begins
abbrev pub first_line : List Term → Option Line
first_line [] = None
first_line (term ∷ terms) = Some term.line

-- one expression has at most 4,096 calls and comparisons
abbrev pub large_faults : List ℕ → List Term → List Placed
large_faults sizes terms = if nat_lt 4096 (terms_size sizes terms) then limit_at (first_line terms)
    else []

abbrev pub part_limits : List ℕ → NameUse → List Placed
part_limits sizes (part.Expression terms) = large_faults sizes terms
part_limits sizes (part.Rewrite word conditions) = flat_map (large_faults sizes) conditions
part_limits sizes (part.Filter reference) = []
part_limits sizes (part.Rewrites reference) = []
part_limits sizes (part.Parser word) = []
part_limits sizes (part.Parsers reference) = []
part_limits sizes (part.End reference) = []

abbrev pub part_line : NameUse → Option Line
part_line (part.Expression terms) = first_line terms
part_line (part.Rewrite word conditions) = Some word
part_line (part.Filter reference) = Some reference.line
part_line (part.Rewrites reference) = Some reference.line
part_line (part.Parser word) = Some word
part_line (part.Parsers reference) = Some reference.line
part_line (part.End reference) = Some reference.line

-- all together have at most 65,536, in the order of the text
abbrev pub total_faults : List ℕ → List ℕ → List ℕ → ℕ → List NameUse → List Placed
total_faults sizes rewrites parsers sum [] = []
total_faults sizes rewrites parsers sum (p ∷ ps) =
    if nat_lt 65536 (sum + part_size sizes rewrites parsers p) then limit_at (part_line p)
    else total_faults sizes rewrites parsers (sum + part_size sizes rewrites parsers p) ps
