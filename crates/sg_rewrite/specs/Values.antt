-- The values that rewrites set.
use Rattle.std.specs.Prelude.{ℕ, List, [], ◌∷◌, ◌++◌, take, drop, slice_range, Option}
use Rattle.sg_msg.specs.Message.{Content, with_pair, without_pair}
use Rattle.sg_macro.specs.declared.part.TemplatePart.{TemplatePart}
use Rattle.sg_template.specs.Own.{own_env}
use Rattle.sg_template.specs.Render.{render_of}

-- at most 1,048,576 bytes: what is longer is cut there
unfoldable pub cut : List ℕ → List ℕ
cut bytes = take 1048576 bytes

-- the message with this value of the name
abbrev pub with_value : List ℕ → List ℕ → Content → Content
with_value name value content = record content { pairs = with_pair name (cut value) content.pairs }

abbrev pub without_value : List ℕ → Content → Content
without_value name content = record content { pairs = without_pair name content.pairs }

-- a template's text over the message; `$_` is the old value
abbrev pub text_over : List TemplatePart → Option (List ℕ) → Content → List ℕ
text_over parts old content = render_of parts content (own_env old)

-- the bytes from a place on, with the text in the place of each span; the spans stand one behind the other
abbrev pub replaced : List (ℕ × ℕ) → List ℕ → List ℕ → ℕ → List ℕ
replaced [] bytes text at = drop at bytes
replaced (s ∷ ss) bytes text at = slice_range bytes at s.0 ++ text ++ replaced ss bytes text s.1
