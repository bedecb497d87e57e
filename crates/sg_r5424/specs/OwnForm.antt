-- Structured data whose elements the names of its pairs tell: that of RFC 5424's own form, and more.
use Rattle.std.specs.Prelude.{◌≡◌, ℕ, ℤ, Bool, true, false, ◌&&◌, not, List, [], ◌∷◌, ◌++◌, bytes_eq, ◌⊎◌}
use mathlib.Core.Logic.{inl, inr}
use Rattle.std.specs.List.{All, AllPass, list_any, list_all}
use Rattle.sg_time.specs.declared.stamp.Stamp.{Stamp}
use Rattle.sg_msg.specs.Message.{NameValue, Content}
use Rattle.sg_template.specs.Elements.{is_no_dot, is_no_at, begins_with_digit}
use Rattle.sg_r3164.specs.declared.opts.ReadOpts.{ReadOpts}
use Rattle.sg_r3164.specs.Options.{received_at}
use Rattle.sg_r5424.specs.Data.{Param, Elements, IsData}
use Rattle.sg_r5424.specs.Data.Elements.{none, more}
use Rattle.sg_r5424.specs.Is5424.{without_end, ReadsSyslogMsg, Is5424}

-- an SD-ELEMENT
pub record SdElement : Type 0 where
  pub id : List ℕ
  pub params : List Param

-- the elements of a record, in their order
abbrev pub elements_of : (text : List ℕ) (pairs : List NameValue) (rest : List ℕ)
    → Elements text pairs rest → List SdElement
elements_of _ _ _ (none text stops) = []
elements_of _ _ _ (more text middle rest first pairs one others) =
    (record { id = one.id; params = one.params }) ∷ elements_of middle pairs rest others

abbrev pub data_elements : (text : List ℕ) (pairs : List NameValue) (rest : List ℕ)
    → IsData text pairs rest → List SdElement
data_elements [] pairs rest is = []
data_elements (b ∷ text) pairs rest (inl nil) = []
data_elements (b ∷ text) pairs rest (inr some) = elements_of (b ∷ text) pairs rest some.1

abbrev pub record_elements :
    (received : Stamp) (peer : List ℕ) (opts : ReadOpts) (item : List ℕ) (content : Content)
    → ReadsSyslogMsg received peer opts item content → List SdElement
record_elements received peer opts item content read = data_elements read.behind_names
    read.behind.pairs read.behind.rest read.behind.is_data

-- no `@` in the ID, as in those that IANA registers, and no dot; and none in the parameters' names
pub record IsRegistered (element : SdElement) : Type 0 where
  pub no_at : AllPass is_no_at element.id
  pub no_dot : AllPass is_no_dot element.id
  pub names : AllPass (λ param. list_all is_no_at param.name) element.params

-- each dot stands before a digit
abbrev pub HasDigitsBehindDots : List ℕ → Type 0
HasDigitsBehindDots [] = Unit {0}
HasDigitsBehindDots (b ∷ text) = (b ≡ 46 → begins_with_digit text ≡ true) × HasDigitsBehindDots text

-- `name@number`, the number perhaps with dots between its digits (section 7.2.2), and no parameter's name begins with a digit
pub record IsPrivate (element : SdElement) : Type 0 where
  pub name : List ℕ
  pub number : List ℕ
  pub is_id : element.id ≡ name ++ 64 ∷ number
  pub no_at : AllPass is_no_at name
  pub dots : HasDigitsBehindDots number
  pub names : AllPass (λ param. not (begins_with_digit param.name)) element.params

abbrev pub IsToldElement : SdElement → Type 0
IsToldElement element = IsRegistered element ⊎ IsPrivate element

-- an element of this ID without parameters, or with some
abbrev pub has_none : List Param → Bool
has_none [] = true
has_none (param ∷ params) = false

abbrev pub stands_alone : List ℕ → List SdElement → Bool
stands_alone id elements = list_any (λ element. bytes_eq element.id id && has_none element.params)
    elements

abbrev pub has_params : List ℕ → List SdElement → Bool
has_params id elements =
    list_any (λ element. bytes_eq element.id id && not (has_none element.params)) elements

-- each element is told, and no ID stands both with parameters and without; so where each ID stands once (section 6.3.2)
pub record HasOwnForm (elements : List SdElement) : Type 0 where
  pub told : All IsToldElement elements
  pub apart : (id : List ℕ) → stands_alone id elements ≡ true → has_params id elements ≡ false

-- the item is related to this message, and its elements have that form
abbrev pub ReadsOwnForm : List ℕ → ℤ → List ℕ → ReadOpts → Content → Type 0
ReadsOwnForm item at peer opts content =
    (read : Is5424 item at peer opts content)
    × HasOwnForm (record_elements (received_at at opts) peer opts (without_end item) content read)
