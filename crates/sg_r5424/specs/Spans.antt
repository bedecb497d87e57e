-- Parts of an item by their places, and what they say.
use Rattle.std.specs.Prelude.{◌≡◌, ◌≤◌, ℕ, ◌+◌, ◌-◌, false, List, drop, length, slice_range, Option, option_map}
use Rattle.sg_r5424.specs.declared.take.Span.{Span}
use Rattle.sg_r5424.specs.declared.header.NameSpans.{NameSpans}
use Rattle.sg_r5424.specs.declared.values.ParamValue.{ParamValue}
use Rattle.sg_r5424.specs.declared.values.ParamValue.TheVariants.{Part, Spelled}
use Rattle.sg_r5424.specs.declared.params.ParamParts.{ParamParts}
use Rattle.sg_r5424.specs.Grammar.{HeaderNames}
use Rattle.sg_r5424.specs.Data.{Param}
use Rattle.sg_r5424.specs.Values.{unescaped_from}
use Rattle.sg_r5424.specs.Takes.{TakesValue}

abbrev pub span_text : List ℕ → Span → List ℕ
span_text item span = slice_range item span.from span.to

abbrev pub names_said : List ℕ → NameSpans → HeaderNames
names_said item names = record {
  host = span_text item names.host;
  program = span_text item names.program;
  pid = span_text item names.pid;
  msgid = span_text item names.msgid;
}

abbrev pub value_said : List ℕ → ParamValue → List ℕ
value_said item (Part span) = span_text item span
value_said item (Spelled value) = value

abbrev pub param_said : List ℕ → ParamParts → Param
param_said item param = record {
  name = span_text item param.name;
  value = value_said item param.value;
}

-- the part stands in an item of this length
pub record IsWithin (end : ℕ) (span : Span) : Type 0 where
  pub rises : span.from ≤ span.to
  pub ends : span.to ≤ end

pub record AreNamesWithin (end : ℕ) (names : NameSpans) : Type 0 where
  pub host : IsWithin end names.host
  pub program : IsWithin end names.program
  pub pid : IsWithin end names.pid
  pub msgid : IsWithin end names.msgid

abbrev pub IsValueWithin : ℕ → ParamValue → Type 0
IsValueWithin end (Part span) = IsWithin end span
IsValueWithin end (Spelled value) = Unit {0}

pub record IsParamWithin (end : ℕ) (param : ParamParts) : Type 0 where
  pub name : IsWithin end param.name
  pub value : IsValueWithin end param.value

-- the value that a part with this text spells
abbrev pub SpellsPart : List ℕ → Span → ParamValue → Type 0
SpellsPart text span value =
    (item : List ℕ) → span_text item span ≡ text → value_said item value ≡ unescaped_from false text

-- the text is what the item ends with
pub record EndsItem (item text : List ℕ) : Type 0 where
  pub shorter : length text ≤ length item
  pub rest : text ≡ drop (length item - length text) item

-- so many bytes are taken off a text that ends where the item does, at this place
pub record TakesSpan (end : ℕ) (old new : List ℕ) (len : ℕ) (span : Span) : Type 0 where
  pub from : span.from ≡ end - length old
  pub to : span.to ≡ span.from + len
  pub rest : new ≡ drop len old

-- what is taken off the end of any item of this length says this of the item
abbrev pub TakesSaid : {V W : Type 0} → (List ℕ → V → W) → (List ℕ → W → List ℕ → Type 0) → ℕ
    → List ℕ → List ℕ → Option V → Type 0
TakesSaid {V} {W} said Says end old new found = (item : List ℕ) → length item ≡ end
    → EndsItem item old → TakesValue Says old new (option_map (said item) found)
