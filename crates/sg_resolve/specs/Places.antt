-- What may stand in a top-level log statement alone.
use Rattle.std.specs.Prelude.{if◌then◌else◌, List, [], ◌∷◌, ◌++◌, codes}
use Rattle.std.specs.List.{flat_map}
use Rattle.sg_lex.specs.declared.fault.ConfigKind.{ConfigKind}
use Rattle.sg_lex.specs.declared.fault.ConfigKind.TheVariants.{BadValue, SourcePlace}
use Rattle.sg_parse_base.specs.declared.spot.Spot.{Spot}
use Rattle.sg_parse_base.specs.Input.{spot_line}
use Rattle.sg_parse_base.specs.Tokens.{same_keyword}
use Rattle.sg_parse_path.specs.declared.tree.RawElement.{RawElement, out-RawElement}
use Rattle.sg_parse_path.specs.declared.tree.RawElement.TheOpen.{RawElement-F}
use Rattle.sg_parse_path.specs.declared.tree.RawLog.{RawLog, out-RawLog}
use Rattle.sg_parse_path.specs.declared.tree.RawBranch.{RawBranch}
use Rattle.sg_parse_text.specs.declared.statement.Statement.{Statement}
use Rattle.sg_parse_text.specs.declared.statement.Statement.TheVariants as statement
use Rattle.sg_visit.specs.Leaves.{Leaf, element_leaves, log_leaves}
use Rattle.sg_fault.specs.declared.placed.Placed.{Placed}

abbrev pub placed : ConfigKind → Spot → Placed
placed kind spot = record { kind = kind; line = spot_line spot }

abbrev pub flag_faults : Spot → List Placed
flag_faults flag = if same_keyword flag.token.text (codes "catchall") then placed BadValue flag ∷ []
    else []

abbrev pub Faults : Type 0
Faults = List Placed

-- in a channel, a branch or an embedded statement
abbrev pub leaf_faults : Leaf → Faults
leaf_faults (Leaf.source word) = placed SourcePlace word ∷ []
leaf_faults (Leaf.flags words) = flat_map flag_faults words
leaf_faults _ = []

abbrev pub element_faults : RawElement → Faults
element_faults element = flat_map leaf_faults (element_leaves element)

abbrev pub top_at : Faults → RawElement-F RawElement RawBranch RawLog → Faults
top_at nested (RawElement-F.Source word source) = []
top_at nested _ = nested

-- a source may stand among the elements of a top-level statement
unfoldable pub top_element_faults : RawElement → Faults
top_element_faults element = top_at (element_faults element) (out-RawElement element)

unfoldable pub top_faults : RawLog → Faults
top_faults log = flat_map top_element_faults (out-RawLog log).elements
    ++ flat_map leaf_faults (flat_map log_leaves (out-RawLog log).embedded)

abbrev pub statement_faults : Statement → Faults
statement_faults (statement.Object object) = []
statement_faults (statement.Log log) = top_faults log

unfoldable pub places_faults : List Statement → Faults
places_faults statements = flat_map statement_faults statements
