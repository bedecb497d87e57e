-- The fault of names is one.
use Rattle.std.proofs.Common.{◌≡◌, ◌∙◌, ℕ, min, List, length, get_or, Option, None, Some, refl, sym, ap, subst}
use Rattle.std.proofs.lemmas.List.{ext_get_or}
use Rattle.sg_parse_text.specs.declared.statement.Statement.{Statement}
use Rattle.sg_fault.specs.declared.placed.Placed.{Placed}
use Rattle.sg_fault.specs.Faults.{earlier, least}
use Rattle.sg_graph.proofs.Firsts.{firsts-same}
use Rattle.sg_names.specs.declared.names.Names.{Names}
use Rattle.sg_names.specs.declared.part.NameUse.{NameUse}
use Rattle.sg_names.specs.declared.filters.Filters.{Filters}
use Rattle.sg_names.specs.Registers.{names_of, repeated}
use Rattle.sg_names.specs.Paths.{parts_of}
use Rattle.sg_names.specs.Filters.{filters_of}
use Rattle.sg_names.specs.Unknown.{unknown}
use Rattle.sg_names.specs.Faults.{AreFilterSizes, HasRest, IsNamesRest, IsNamesFault, limits}

sizes-same : (filters : Filters) (a b : List ℕ) → AreFilterSizes filters a → AreFilterSizes filters b → a ≡ b
sizes-same filters a b x y = ext_get_or 0 a b (x.0 ∙ sym y.0) (λ i below. x.1 i ∙ sym (y.1 i))

rest-same : (names : Names) (filters : Filters) (statements : List Statement) (parts : List NameUse) (cycle : Option ℕ) (a b : Option Placed) → HasRest names filters statements parts cycle a → HasRest names filters statements parts cycle b → a ≡ b
rest-same names filters statements parts (Some i) a b x y = x ∙ sym y
rest-same names filters statements parts None a b x y = x.2 ∙ ap (λ sizes. limits names sizes statements parts) (sizes-same filters x.0 y.0 x.1 y.1) ∙ sym y.2

rests-same : (names : Names) (filters : Filters) (statements : List Statement) (parts : List NameUse) (a b : Option Placed) → IsNamesRest names filters statements parts a → IsNamesRest names filters statements parts b → a ≡ b
rests-same names filters statements parts a b x y =
    let P : Option ℕ → Type 0 = λ cycle. HasRest names filters statements parts cycle a in
    rest-same names filters statements parts y.0 a b (subst P (firsts-same filters.links x.0 y.0 x.1 y.1) x.2) y.2

pub faults-same : (statements : List Statement) (a b : Option Placed) → IsNamesFault statements a → IsNamesFault statements b → a ≡ b
faults-same statements a b x y =
    x.2 ∙ ap (λ rest. earlier (earlier (repeated statements) (least (unknown (parts_of (names_of statements) statements)))) rest) (rests-same (names_of statements) (filters_of (names_of statements) statements) statements (parts_of (names_of statements) statements) x.0 y.0 x.1 y.1) ∙ sym y.2
