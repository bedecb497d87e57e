-- What elements refer to: what is read, or the first fault.
use Rattle.std.specs.Prelude.{ℕ, if◌then◌else◌, List, codes, Option, Some, None, Ok, Err}
use Rattle.sg_lex.specs.declared.fault.ConfigKind.TheVariants.{Unexpected}
use Rattle.sg_parse_base.specs.declared.spot.Spot.{Spot}
use Rattle.sg_parse_base.specs.Input.{Parser, ◌>>=◌, any, sees, sees_word, symbol, name, fault_at}
use Rattle.sg_parse_obj.specs.declared.object.Object.{Object}
use Rattle.sg_parse_obj.specs.declared.object.Object.TheVariants as object
use Rattle.sg_parse_obj.specs.declared.driver.Side.TheVariants as side
use Rattle.sg_parse_obj.specs.Drivers.{drivers}
use Rattle.sg_parse_obj.specs.Objects.{filter_body, rewrites}
use Rattle.sg_parse_obj.specs.Parsers.{parser_calls}
use Rattle.sg_parse_path.specs.declared.tree.RawRef.{RawRef}
use Rattle.sg_parse_path.specs.declared.tree.RawRef.TheVariants.{Named, Inline}
use Rattle.sg_parse_path.specs.declared.tree.RawElement.{RawElement}
use Rattle.sg_parse_path.specs.declared.tree.RawElement.TheVariants as element
use Rattle.sg_parse_path.specs.declared.reference.ReferenceKind.{ReferenceKind}
use Rattle.sg_parse_path.specs.declared.reference.ReferenceKind.TheVariants as kind

-- what is read, made into something else
abbrev pub mapped : {A B : Type 0} → (A → B) → Parser A → Parser B
mapped f parse spots = parse spots >>= λ x. Ok (f x.0, x.1)

-- the body of a statement of this kind, in braces, under this name
unfoldable pub body_of : ℕ → ReferenceKind → Spot → Parser Object
body_of depth kind.Source called = mapped (λ found. object.Source called found)
    (drivers side.Source)
body_of depth kind.Destination called = mapped (λ found. object.Destination called found)
    (drivers side.Destination)
body_of depth kind.Filter called = mapped (λ found. object.Filter called found) (filter_body depth)
body_of depth kind.Rewrite called = mapped (λ found. object.Rewrite called found) (rewrites depth)
body_of depth kind.Parser called = mapped (λ found. object.Parser called found) parser_calls

-- the same, whose name is the brace that opens it
unfoldable pub inline : ℕ → ReferenceKind → Parser RawRef
inline depth kind spots = do
  brace ← any spots
  x ← body_of depth kind brace.0 spots
  Ok (Inline x.0, x.1)

-- "(" NAME ")"
unfoldable pub named : Parser RawRef
named spots = do
  opened ← symbol 40 spots
  called ← name opened.1
  closed ← symbol 41 called.1
  Ok (Named called.0, closed.1)

unfoldable pub reference : ℕ → ReferenceKind → Parser RawRef
reference depth kind spots =
    if sees 40 spots then named spots
    else (if sees 123 spots then inline depth kind spots
    else Err (fault_at Unexpected spots))

unfoldable pub element_of : ReferenceKind → Spot → RawRef → RawElement
element_of kind.Source word found = element.Source word found
element_of kind.Destination word found = element.Destination found
element_of kind.Filter word found = element.Filter found
element_of kind.Rewrite word found = element.Rewrite found
element_of kind.Parser word found = element.Parser found

-- an element of this kind, whose word stands there
unfoldable pub referring : ℕ → ReferenceKind → Parser RawElement
referring depth kind spots = do
  word ← any spots
  found ← reference depth kind word.1
  Ok (element_of kind word.0 found.0, found.1)

abbrev pub word_of : ReferenceKind → List ℕ
word_of kind.Source = codes "source"
word_of kind.Destination = codes "destination"
word_of kind.Filter = codes "filter"
word_of kind.Rewrite = codes "rewrite"
word_of kind.Parser = codes "parser"

-- the kind whose word stands there
unfoldable pub kind_of : List Spot → Option ReferenceKind
kind_of spots =
    if sees_word (codes "source") spots then Some kind.Source
    else (if sees_word (codes "destination") spots then Some kind.Destination
    else (if sees_word (codes "filter") spots then Some kind.Filter
    else (if sees_word (codes "rewrite") spots then Some kind.Rewrite
    else (if sees_word (codes "parser") spots then Some kind.Parser
    else None))))
