-- The regular expressions that a builder keeps, and what is counted for them.
use Rattle.std.specs.Prelude.{◌≡◌, ℕ, ◌+◌, ◌*◌, Bool, true, false, not, ◌&&◌, if◌then◌else◌, List, [], ◌∷◌, ◌++◌, Option, Some, None, IsSome}
use Rattle.std.specs.List.{sum_by}
use Rattle.std.specs.Str.{bytes_eq}
use Rattle.regex.specs.Patterns.{Re}
use Rattle.sg_pattern.specs.Pattern.{regex_of}
use Rattle.sg_pattern.specs.declared.fault.BuildFault.{BuildFault}
use Rattle.sg_pattern.specs.declared.fault.BuildFault.TheVariants.{Syntax, TooLarge, NoMemory}

-- what an expression was made of, and the bytes that are counted for it
pub record Made : Type 0 where
  pub text : List ℕ
  pub ignore_case : Bool
  pub bytes : ℕ

abbrev pub same_case : Bool → Bool → Bool
same_case true other = other
same_case false other = not other

-- it was made of this text
abbrev pub is_of : List ℕ → Bool → Made → Bool
is_of text ignore_case one = bytes_eq one.text text && same_case ignore_case one.ignore_case

-- the first that was made of this text
abbrev pub made_of : List ℕ → Bool → List Made → Option Made
made_of text ignore_case [] = None
made_of text ignore_case (one ∷ more) =
    if is_of text ignore_case one then Some one else made_of text ignore_case more

-- the bytes that are counted for all of them together
abbrev pub bytes_of : List Made → ℕ
bytes_of = sum_by (λ one. one.bytes)

-- and the most that they may be: 256 MiB
abbrev pub most_bytes : ℕ
most_bytes = 268435456

-- what is counted for an expression whose tables were allowed so many bytes
abbrev pub counted : ℕ → ℕ
counted limit = 32768 + 14 * limit

-- one more was made, of this text
pub record HasOneMorePattern (text : List ℕ) (ignore_case : Bool)
    (old new : List Made) : Type 0 where
  pub bytes : ℕ
  pub is : new ≡ old ++ record { text = text; ignore_case = ignore_case; bytes = bytes } ∷ []

-- why no expression was made of a text: what is too large is one
abbrev pub IsNoneOf : Option Re → BuildFault → Type 0
IsNoneOf read Syntax = read ≡ None
IsNoneOf read TooLarge = IsSome read
IsNoneOf read NoMemory = Unit {0}

abbrev pub IsNotMade : Bool → List ℕ → BuildFault → Type 0
IsNotMade ignore_case text = IsNoneOf (regex_of ignore_case text)
