-- The shapes of frames where a configuration gives no template (syslog-ng's administration guide, "Default templates").
use Rattle.std.specs.Prelude.{◌≡◌, ℕ, List, Ok, codes}
use Rattle.sg_macro.specs.declared.part.TemplatePart.{TemplatePart}
use Rattle.sg_macro.specs.Reading.{parts_of}
use Rattle.sg_outfmt.specs.declared.shape.DriverKind.{DriverKind}
use Rattle.sg_outfmt.specs.declared.shape.DriverKind.TheVariants.{File, Network, Syslog}
use Rattle.sg_outfmt.specs.declared.shape.Shape.{Shape}
use Rattle.sg_outfmt.specs.declared.shape.Shape.TheVariants.{Text, Counted5424, ByPath}

abbrev pub file_text : List ℕ
file_text = codes "${STAMP} ${HOST} ${MSGHDR}${MSG}\n"

abbrev pub network_text : List ℕ
network_text = codes "<${PRI}>${STAMP} ${HOST} ${MSGHDR}${MSG}\n"

-- files get the plain line, TCP the same behind its PRI, and syslog the line of RFC 5424 behind its length
abbrev pub IsDefault : DriverKind → Shape → Type 0
IsDefault File (Text template) = parts_of file_text ≡ Ok template
IsDefault Network (Text template) = parts_of network_text ≡ Ok template
IsDefault Syslog Counted5424 = Unit {0}
IsDefault _ _ = ⊥

-- a template's text gets the path; a line of RFC 5424 has none, and a shape that has one keeps it
abbrev pub behind_path : List TemplatePart → Shape → Shape
behind_path path (Text text) = ByPath path text
behind_path path Counted5424 = Counted5424
behind_path path (ByPath other text) = ByPath other text
