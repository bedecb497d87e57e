-- Laws of the first fault.
use Rattle.std.proofs.Common.{◌≡◌, ◌⊎◌, inl, inr, ℕ, ◌+◌, ◌*◌, ◌<◌, List, [], ◌∷◌, ◌++◌, Option, Some, None, refl, ap, sym, ◌∙◌, arith, lit<}
use Rattle.std.proofs.lemmas.Bool.{cases_order}
use Rattle.sg_lex.specs.declared.fault.ConfigKind.{ConfigKind}
use Rattle.sg_lex.specs.declared.fault.ConfigKind.TheVariants as kind
use Rattle.sg_fault.specs.declared.placed.Placed.{Placed}
use Rattle.sg_fault.specs.Faults.{number, earlier, least}

pub number-below : (k : ConfigKind) → number k < 32
unfolding number
number-below kind.OpenString = lit< tt
number-below kind.BadByte = lit< tt
number-below kind.Version = lit< tt
number-below kind.IncludeDepth = lit< tt
number-below kind.UnknownVariable = lit< tt
number-below kind.MissingArgument = lit< tt
number-below kind.UnknownArgument = lit< tt
number-below kind.TooLong = lit< tt
number-below kind.Unexpected = lit< tt
number-below kind.Unsupported = lit< tt
number-below kind.BadNumber = lit< tt
number-below kind.DepthOver64 = lit< tt
number-below kind.OpenBrace = lit< tt
number-below kind.Function = lit< tt
number-below kind.UnknownName = lit< tt
number-below kind.DuplicateName = lit< tt
number-below kind.MissingOption = lit< tt
number-below kind.BadValue = lit< tt
number-below kind.HardMacro = lit< tt
number-below kind.BadPattern = lit< tt
number-below kind.FilterCycle = lit< tt
number-below kind.SourcePlace = lit< tt
number-below kind.Limit = lit< tt
number-below kind.TooManyOffers = lit< tt
number-below kind.PatternTooLarge = lit< tt

-- numbers of two digits to the base of 32 are in the order of their digits
pub first_digit : (a b m n : ℕ) → m < 32 → n < 32 → a * 32 + m < b * 32 + n → (a < b) ⊎ ((a ≡ b) × (m < n))
first_digit a b m n hm hn h =
    elim (cases_order a b) [ inl e ↦ inr (e, omega arith) | inr (inl lt) ↦ inl lt | inr (inr gt) ↦ absurd (omega arith) ]

pub by_digits : (a b m n : ℕ) → m < 32 → n < 32 → (a < b) ⊎ ((a ≡ b) × (m < n)) → a * 32 + m < b * 32 + n
by_digits a b m n hm hn h = elim h [ inl lt ↦ omega arith | inr e ↦ omega (arith, e.0, e.1) ]

pub earlier_none : (p : Option Placed) → earlier p None ≡ p
earlier_none p = grind arith

pub earlier_grouped : (p q r : Option Placed) → earlier (earlier p q) r ≡ earlier p (earlier q r)
earlier_grouped p q r = grind arith

pub least_append : (ps qs : List Placed) → least (ps ++ qs) ≡ earlier (least ps) (least qs)
least_append [] qs = refl
least_append (p ∷ ps) qs = ap (earlier (Some p)) (least_append ps qs) ∙ sym (earlier_grouped (Some p) (least ps) (least qs))
