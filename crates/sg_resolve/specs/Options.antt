-- The options of the grammar's tables beside those that are read and checked.
use Rattle.std.specs.Prelude.{◌≡◌, ℕ, Bool, true, false, ◌||◌, not, is_some, List, [], ◌∷◌, ◌++◌, codes, Option, Some, None}
use Rattle.std.specs.List.{list_all}
use Rattle.sg_parse_expr.specs.Classes.{is_one_of}
use Rattle.sg_parse_expr.specs.Forms.{row_of}
use Rattle.sg_parse_expr.specs.declared.class.Class.TheVariants as class
use Rattle.sg_parse_expr.specs.declared.form.Flat.{Flat}
use Rattle.sg_parse_expr.specs.declared.form.Flat.TheVariants as flat
use Rattle.sg_parse_expr.specs.declared.tree.Call.{Call}
use Rattle.sg_parse_obj.specs.declared.table.OptionForm.{OptionForm}
use Rattle.sg_parse_obj.specs.declared.table.OptionForm.TheVariants as option
use Rattle.sg_options.specs.Settings.{last_option}
use Rattle.sg_options.specs.declared.check.Check.{Check}
use Rattle.sg_driver.specs.Driver.{driver_kind, name_of, options_of}

abbrev pub Words : Type 0
Words = List (List ℕ)

-- what is read of all sources, and further of `network` and `syslog`
abbrev pub source_words : Words
source_words =
    codes "flags" ∷ codes "log-iw-size" ∷ codes "log-fetch-limit" ∷ codes "log-msg-size"
    ∷ codes "keep-hostname" ∷ codes "keep-timestamp" ∷ codes "recv-time-zone" ∷ codes "time-zone"
    ∷ codes "default-facility" ∷ codes "default-level" ∷ codes "default-priority" ∷ codes "tags"
    ∷ []

abbrev pub listener_words : Words
listener_words = codes "ip" ∷ codes "port" ∷ codes "localport" ∷ codes "max-connections" ∷ []

-- what is read of all destinations, of `file`, and of `network` and `syslog`
abbrev pub destination_words : Words
destination_words =
    codes "log-fifo-size" ∷ codes "disk-buffer" ∷ codes "time-zone" ∷ codes "frac-digits"
    ∷ codes "ts-format" ∷ codes "time-reopen" ∷ []

abbrev pub writer_words : Words
writer_words =
    codes "template" ∷ codes "fsync" ∷ codes "perm" ∷ codes "create-dirs" ∷ codes "dir-perm"
    ∷ codes "time-reap" ∷ []

abbrev pub sender_words : Words
sender_words = codes "port" ∷ []

-- `syslog` frames its messages itself
abbrev pub framed_words : Words
framed_words = codes "template" ∷ []

-- what is read of a disk-buffer, and of the global options
abbrev pub disk_words : Words
disk_words =
    codes "reliable" ∷ codes "disk-buf-size" ∷ codes "capacity-bytes" ∷ codes "dir"
    ∷ codes "prealloc" ∷ codes "mem-buf-length" ∷ []

abbrev pub global_words : Words
global_words =
    codes "log-fifo-size" ∷ codes "log-msg-size" ∷ codes "keep-hostname" ∷ codes "keep-timestamp"
    ∷ codes "recv-time-zone" ∷ codes "time-zone" ∷ codes "frac-digits" ∷ codes "ts-format"
    ∷ codes "time-reopen" ∷ codes "time-reap" ∷ codes "perm" ∷ codes "create-dirs"
    ∷ codes "dir-perm" ∷ []

-- `transport` has one value alone, which the driver's word means too
abbrev pub settled_words : Words
settled_words = codes "transport" ∷ []

abbrev pub is_skipped : Flat → Bool
is_skipped flat.Skipped = true
is_skipped form = false

abbrev pub has_effect : Option Flat → Bool
has_effect None = false
has_effect (Some form) = not (is_skipped form)

-- each option of a table is read, and each that is read is in it
abbrev pub AreOptionsRead : List (List ℕ × OptionForm) → Words → Type 0
AreOptionsRead rows words = (list_all (λ row. is_one_of row.0 words) rows ≡ true)
    × (list_all (λ word. is_some (row_of rows word)) words ≡ true)

-- the same of a table that has those without effect too
abbrev pub AreReadOrSkipped : List (List ℕ × Flat) → Words → Type 0
AreReadOrSkipped rows words =
    (list_all (λ row. is_skipped row.1 || is_one_of row.0 words) rows ≡ true)
    × (list_all (λ word. has_effect (row_of rows word)) words ≡ true)

-- a number, a facility or a severity has a range
abbrev pub has_range : Flat → Bool
has_range (flat.One class.Number) = true
has_range (flat.One class.Facility) = true
has_range (flat.One class.Level) = true
has_range form = false

abbrev pub form_has_range : OptionForm → Bool
form_has_range (option.Flat form) = has_range form
form_has_range option.Disk = false

-- a time zone and a mode are names of a form of their own
abbrev pub formed_words : Words
formed_words =
    codes "recv-time-zone" ∷ codes "time-zone" ∷ codes "perm" ∷ codes "dir-perm" ∷ []

-- each option of a table that has a range or such a form is checked, and each that is checked is in the table
abbrev pub AreChecked : List (List ℕ × OptionForm) → List (List ℕ × Check) → Type 0
AreChecked rows checks =
    (list_all (λ row. not (form_has_range row.1 || is_one_of row.0 formed_words)
    || is_some (row_of checks row.0)) rows ≡ true)
    × (list_all (λ row. is_some (row_of rows row.0)) checks ≡ true)

abbrev pub AreCheckedOrSkipped : List (List ℕ × Flat) → List (List ℕ × Check) → Type 0
AreCheckedOrSkipped rows checks =
    (list_all (λ row. not (has_range row.1 || is_one_of row.0 formed_words)
    || is_some (row_of checks row.0)) rows ≡ true)
    × (list_all (λ row. has_effect (row_of rows row.0)) checks ≡ true)

-- two drivers of one kind and name, with the same options of these words
pub record AreAlikeDrivers (words : Words) (a b : Call) : Type 0 where
  pub kind : driver_kind a ≡ driver_kind b
  pub name : name_of a ≡ name_of b
  pub same : (some : Words) → list_all (λ word. is_one_of word words) some ≡ true
      → last_option some (options_of a) ≡ last_option some (options_of b)
