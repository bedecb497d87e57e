-- The syntax of structured data (RFC 5424, section 6.3), each part as what the front of a text says and what follows.
use Rattle.std.specs.Prelude.{◌≡◌, ℕ, ◌≤◌, ◌==◌, Bool, false, List, [], ◌∷◌, ◌++◌, length, codes, map, ◌⊎◌}
use Rattle.std.specs.List.{AllPass}
use Rattle.sg_msg.specs.Message.{NameValue}
use Rattle.sg_msg.specs.Sets.{is_sd_byte}
use Rattle.sg_r5424.specs.Values.{IsValue}

-- the text is at its end, or goes on with a byte that fails the test
abbrev pub StopsAtByte : (ℕ → Bool) → List ℕ → Type 0
StopsAtByte passes [] = Unit {0}
StopsAtByte passes (b ∷ text) = passes b ≡ false

-- SD-ID or PARAM-NAME: all of the 1 to 32 bytes of a name that stand at the front (sections 6.3.2 and 6.3.3)
pub record IsSdName (text name rest : List ℕ) : Type 0 where
  pub is_text : text ≡ name ++ rest
  pub some : 1 ≤ length name
  pub most : length name ≤ 32
  pub named : AllPass is_sd_byte name
  pub ends : StopsAtByte is_sd_byte rest

-- a parameter's name and value
pub record Param : Type 0 where
  pub name : List ℕ
  pub value : List ℕ

-- a space, a name, an equals sign and a value in quotes
pub record IsParam (text : List ℕ) (param : Param) (rest : List ℕ) : Type 0 where
  pub behind : List ℕ
  pub quoted : List ℕ
  pub space : text ≡ 32 ∷ behind
  pub name : IsSdName behind param.name (61 ∷ 34 ∷ quoted)
  pub value : IsValue quoted param.value rest

-- the parameters of an element, and the bracket that closes it
pub data Params : List ℕ → List Param → List ℕ → Type 0 where
  closed : (rest : List ℕ) → Params (93 ∷ rest) [] rest
  more : (text middle rest : List ℕ) (param : Param) (params : List Param)
      → IsParam text param middle → Params middle params rest → Params text (param ∷ params) rest

-- the names of the pairs that an element gives
abbrev pub element_name : List ℕ → List ℕ
element_name id = codes ".SDATA." ++ id

abbrev pub param_name : List ℕ → List ℕ → List ℕ
param_name id name = codes ".SDATA." ++ id ++ codes "." ++ name

abbrev pub param_pair : List ℕ → Param → NameValue
param_pair id param = record { name = param_name id param.name; value = param.value }

-- a pair for each parameter, or one for an element without any
abbrev pub element_pairs : List ℕ → List Param → List NameValue
element_pairs id [] = (record { name = element_name id; value = [] }) ∷ []
element_pairs id (param ∷ params) = param_pair id param ∷ map (param_pair id) params

-- SD-ELEMENT
pub record IsElement (text : List ℕ) (pairs : List NameValue) (rest : List ℕ) : Type 0 where
  pub id : List ℕ
  pub params : List Param
  pub behind : List ℕ
  pub behind_id : List ℕ
  pub opens : text ≡ 91 ∷ behind
  pub is_id : IsSdName behind id behind_id
  pub are_params : Params behind_id params rest
  pub are_pairs : pairs ≡ element_pairs id params

-- elements, up to where none begins
pub data Elements : List ℕ → List NameValue → List ℕ → Type 0 where
  none : (text : List ℕ) → StopsAtByte (λ b. b == 91) text → Elements text [] text
  more : (text middle rest : List ℕ) (first pairs : List NameValue) → IsElement text first middle
      → Elements middle pairs rest → Elements text (first ++ pairs) rest

-- STRUCTURED-DATA: nil, or one or more elements
abbrev pub IsData : List ℕ → List NameValue → List ℕ → Type 0
IsData [] pairs rest = ⊥
IsData (b ∷ text) pairs rest = ((b ≡ 45) × (pairs ≡ []) × (rest ≡ text))
    ⊎ ((b ≡ 91) × Elements (b ∷ text) pairs rest)

-- the pairs of parameters that a text has, up to the closing bracket
abbrev pub HasParams : List ℕ → List ℕ → List NameValue → List ℕ → Type 0
HasParams id text pairs rest = (params : List Param)
    × (Params text params rest × (pairs ≡ map (param_pair id) params))
