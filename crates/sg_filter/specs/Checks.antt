-- What a filter asks of a message at a time (syslog-ng's administration guide, "Filter functions" and "Comparing macro values in filters").
use Rattle.std.specs.Prelude.{ℕ, ◌/◌, ◌%◌, Bool, ◌&&◌, nat_le, List, None}
use Rattle.std.specs.List.{list_any}
use Rattle.std.specs.declared.cmp.Ordering.{Ordering}
use Rattle.std.specs.Ordering.{is_eq, is_ne, is_lt, is_gt, is_le, is_ge}
use Rattle.sg_lex.specs.declared.place.Cmp.{Cmp}
use Rattle.sg_lex.specs.declared.place.Cmp.TheVariants as cmp
use Rattle.sg_msg.specs.Message.{Content, byte_order, has_tag}
use Rattle.sg_macro.specs.declared.part.TemplatePart.{TemplatePart}
use Rattle.sg_template.specs.Texts.{text_of}
use Rattle.sg_template.specs.Render.{render_of}
use Rattle.sg_template.specs.Own.{own_env}
use Rattle.sg_pattern.specs.Pattern.{is_found}
use Rattle.sg_filter.specs.declared.check.Predicate.{Predicate}
use Rattle.sg_filter.specs.declared.check.Predicate.TheVariants.{Facility, Level, Field, Tags, Compare}

-- the number is in a closed range
abbrev pub is_within : ℕ → ℕ × ℕ → Bool
is_within n range = nat_le range.0 n && nat_le n range.1

abbrev pub is_in_some : List (ℕ × ℕ) → ℕ → Bool
is_in_some ranges n = list_any (is_within n) ranges

-- one of these tags is set
abbrev pub has_any_tag : List (List ℕ) → List (List ℕ) → Bool
has_any_tag tags set = list_any (λ tag. has_tag tag set) tags

abbrev pub is_so : Cmp → Ordering → Bool
is_so cmp.Eq order = is_eq order
is_so cmp.Ne order = is_ne order
is_so cmp.Lt order = is_lt order
is_so cmp.Gt order = is_gt order
is_so cmp.Le order = is_le order
is_so cmp.Ge order = is_ge order

-- the texts of two templates, compared byte by byte
abbrev pub compares : List TemplatePart → Cmp → List TemplatePart → Content → Bool
compares left cmp right m = is_so cmp
    (byte_order (render_of left m (own_env None)) (render_of right m (own_env None)))

-- A range holds for the facility or severity of the PRI; a field without a value is the empty text.
unfoldable pub check_holds : Predicate → Content → Bool
check_holds (Facility ranges) m = is_in_some ranges (m.pri / 8)
check_holds (Level ranges) m = is_in_some ranges (m.pri % 8)
check_holds (Field search) m = is_found search.matcher (text_of search.name m.pairs)
check_holds (Tags tags) m = has_any_tag tags m.tags
check_holds (Compare left cmp right) m = compares left cmp right m
