-- What a rewrite makes of a message (syslog-ng's administration guide, "Modifying messages using rewrite rules").
use Rattle.std.specs.Prelude.{ℕ, Bool, if◌then◌else◌, List, [], ◌∷◌, Option, None, Some}
use Rattle.std.specs.List.{list_any}
use Rattle.sg_msg.specs.Message.{Content, NameValue, value_of, with_tag, without_tag}
use Rattle.sg_macro.specs.declared.part.TemplatePart.{TemplatePart}
use Rattle.sg_pattern.specs.Glob.{is_glob_match}
use Rattle.sg_pattern.specs.Pattern.{spans_of}
use Rattle.sg_rewrite.specs.Values.{with_value, without_value, text_over, replaced}
use Rattle.sg_rewrite.specs.declared.change.Substitution.{Substitution}
use Rattle.sg_rewrite.specs.declared.change.Change.{Change}
use Rattle.sg_rewrite.specs.declared.change.Change.TheVariants.{Set, Unset, Subst, GroupSet, GroupUnset, SetTag, ClearTag}

-- The name has these bytes, in which the spans were found: the template's text is put in their place. Where there are none, the
-- message stays as it is.
abbrev pub with_replaced : List ℕ → List TemplatePart → List ℕ → List (ℕ × ℕ) → Content → Content
with_replaced name parts bytes [] content = content
with_replaced name parts bytes (s ∷ ss) content = with_value name
    (replaced (s ∷ ss) bytes (text_over parts None content) 0) content

-- the value that the name has is searched; a name that isn't set stays so
abbrev pub substituted : Substitution → Option (List ℕ) → Content → Content
substituted search None content = content
substituted search (Some bytes) content = with_replaced search.name search.text bytes
    (spans_of search.matcher bytes) content

-- one of the globs matches the name
abbrev pub is_picked : List (List ℕ) → List ℕ → Bool
is_picked globs name = list_any (λ glob. is_glob_match glob name) globs

-- the name has the template's text over the message as it stands; `$_` is the value that it has there
abbrev pub with_text : List TemplatePart → List ℕ → Content → Content
with_text parts name content = with_value name
    (text_over parts (value_of name content.pairs) content) content

-- the names of these pairs that are picked are set, one after another
abbrev pub set_each : List (List ℕ) → List TemplatePart → List NameValue → Content → Content
set_each globs parts [] content = content
set_each globs parts (pair ∷ pairs) content =
    set_each globs parts pairs
    (if is_picked globs pair.name then with_text parts pair.name content else content)

-- the names of these pairs that are picked are unset, the last one first
abbrev pub unset_each : List (List ℕ) → List NameValue → Content → Content
unset_each globs [] content = content
unset_each globs (pair ∷ pairs) content =
    if is_picked globs pair.name then without_value pair.name (unset_each globs pairs content)
    else unset_each globs pairs content

-- the pairs whose names aren't picked
abbrev pub unpicked : List (List ℕ) → List NameValue → List NameValue
unpicked globs [] = []
unpicked globs (pair ∷ pairs) =
    if is_picked globs pair.name then unpicked globs pairs else pair ∷ unpicked globs pairs

-- Groups are of the names that the message has before it, in byte order.
unfoldable pub rewritten : Change → Content → Content
rewritten (Set name parts) content = with_value name (text_over parts None content) content
rewritten (Unset name) content = without_value name content
rewritten (Subst search) content = substituted search (value_of search.name content.pairs) content
rewritten (GroupSet globs parts) content = set_each globs parts content.pairs content
rewritten (GroupUnset globs) content = unset_each globs content.pairs content
rewritten (SetTag tag) content = record content { tags = with_tag tag content.tags }
rewritten (ClearTag tag) content = record content { tags = without_tag tag content.tags }
