-- Structured data and the message of a line, read again.
use Rattle.std.proofs.Common.{◌≡◌, ℕ, ◌≤◌, Bool, true, false, ◌&&◌, ◌==◌, cond, nat_eq, nat_lt, Option, Some, None, List, [], ◌∷◌, ◌++◌, length, take, drop, codes, bytes_eq, refl, sym, ap, ◌∙◌, subst, arith, append_assoc, append-nil, inl}
use Rattle.std.specs.List.{AllPass, list_all, filter_map, cons_option}
use Rattle.std.specs.Option.{option_map}
use Rattle.std.proofs.lemmas.Bool.{false≢true, ne_eqb}
use Rattle.std.proofs.lemmas.List.Elements.{All-nil, All-cons}
use Rattle.sg_msg.specs.Message.{NameValue}
use Rattle.sg_msg.specs.Sets.{is_sd_byte, is_escaped}
use Rattle.std.proofs.lemmas.Bool.Decides.{nat_tests}
use Rattle.sg_template.specs.Elements.{SdName, SdItem, is_sd_name, is_param_name, split_name, checked, sd_name, item_of, escaped, param_text, opening_text, item_text, elements_text, sdata_text}
use Rattle.sg_r5424.specs.Data.{Param}
use Rattle.sg_r5424.specs.Grammar.{IsMsgPart, without_bom}
use Rattle.sg_r5424.specs.Data.{StopsAtByte, IsSdName, IsParam, Params, IsElement, Elements, IsData, element_pairs}
use Rattle.sg_r5424.specs.Data.Params.{closed, more as another}
use Rattle.sg_r5424.specs.Data.Elements.{none, more}
use Rattle.sg_r5424.specs.Values.{SpellsValue}
use Rattle.sg_r5424.specs.Values.SpellsValue.{none as nothing, escaped as behind_slash, plain}
use Rattle.sg_r5424.specs.Write.{message_text}
use Rattle.sg_r5424.specs.Is5424.{is_end_byte, without_end}
use Rattle.sg_r5424.proofs.RecordEnds.{kept_front}
use Rattle.sg_r5424.proofs.RunLemmas.{and_true}
use Rattle.sg_r5424.proofs.ElementLemmas.{some_data}

-- names
named : (name : List ℕ) → list_all is_sd_byte name ≡ true → AllPass is_sd_byte name
named [] e = All-nil (λ b. is_sd_byte b ≡ true)
named (b ∷ name) e =
    let both = and_true (is_sd_byte b) (list_all is_sd_byte name) e in
    All-cons (λ x. is_sd_byte x ≡ true) b name both.0 (named name both.1)

record IsGood (name : List ℕ) : Type 0 where
  some : 1 ≤ length name
  most : length name ≤ 32
  bytes : AllPass is_sd_byte name

good_if : (name : List ℕ) (none long : Bool) → nat_eq (length name) 0 ≡ none → nat_lt 32 (length name) ≡ long → cond none false (cond long false (list_all is_sd_byte name)) ≡ true → IsGood name
good_if name true long e f h = absurd (false≢true h)
good_if name false true e f h = absurd (false≢true h)
good_if name false false e f h = record { some = grind (arith, nat_tests); most = grind (arith, nat_tests); bytes = named name h }

good : (name : List ℕ) → is_sd_name name ≡ true → IsGood name
good name e = good_if name (nat_eq (length name) 0) (nat_lt 32 (length name)) refl refl e

name_read : (name rest : List ℕ) → is_sd_name name ≡ true → StopsAtByte is_sd_byte rest → IsSdName (name ++ rest) name rest
name_read name rest e stops = let g = good name e in record { is_text = refl; some = g.some; most = g.most; named = g.bytes; ends = stops }

-- values
escape_if : (b : ℕ) (test : Bool) (text value : List ℕ) → is_escaped b ≡ test → SpellsValue text value → SpellsValue (cond test (92 ∷ b ∷ []) (b ∷ []) ++ text) (b ∷ value)
escape_if b true text value e rest = behind_slash b text value e rest
escape_if b false text value e rest = plain b text value e rest

spelled : (value : List ℕ) → SpellsValue (escaped value) value
spelled [] = nothing
spelled (b ∷ value) = escape_if b (is_escaped b) (escaped value) value refl (spelled value)

-- the items of pairs have names of the grammar
abbrev AreItems : List SdItem → Type 0
AreItems [] = Unit {0}
AreItems (item ∷ items) = (is_sd_name item.id ≡ true) × (is_param_name item.param ≡ true) × AreItems items

checked_if : (found name : SdName) (test : Bool) → is_sd_name found.id && is_param_name found.param ≡ test → cond test (Some found) None ≡ Some name → (is_sd_name name.id ≡ true) × (is_param_name name.param ≡ true)
checked_if found name true e h =
    let same : found ≡ name = cc in
    let both = and_true (is_sd_name found.id) (is_param_name found.param) e in
    subst (λ (x : SdName). (is_sd_name x.id ≡ true) × (is_param_name x.param ≡ true)) same (both.0, both.1)
checked_if found name false e h = absurd (let wrong : None ≡ Some name = h in cc)

found_if : (text : List ℕ) (name : SdName) (test : Bool) → cond test (checked (split_name text)) None ≡ Some name → (is_sd_name name.id ≡ true) × (is_param_name name.param ≡ true)
found_if text name true h = let found = split_name text in checked_if found name (is_sd_name found.id && is_param_name found.param) refl h
found_if text name false h = absurd (let wrong : None ≡ Some name = h in cc)

sd_name_good : (text : List ℕ) (name : SdName) → sd_name text ≡ Some name → (is_sd_name name.id ≡ true) × (is_param_name name.param ≡ true)
unfolding sd_name
sd_name_good text name h = found_if (drop 7 text) name (bytes_eq (take 7 text) (codes ".SDATA.")) h

abbrev item_by : List ℕ → SdName → SdItem
item_by value found = record { id = found.id; param = found.param; value = value }

one_more : (name value : List ℕ) (found : Option SdName) (items : List SdItem) → sd_name name ≡ found → AreItems items → AreItems (cons_option (option_map (item_by value) found) items)
one_more name value None items e rest = rest
one_more name value (Some found) items e rest = let g = sd_name_good name found e in (g.0, g.1, rest)

pub are_items : (pairs : List NameValue) → AreItems (filter_map item_of pairs)
are_items [] = tt
are_items (pair ∷ pairs) = one_more pair.name pair.value (sd_name pair.name) (filter_map item_of pairs) refl (are_items pairs)

-- A text goes on with these parameters of an open element, and with elements of these pairs, up to this rest.
record Open (text : List ℕ) (params : List Param) (pairs : List NameValue) (rest : List ℕ) : Type 0 where
  middle : List ℕ
  are_params : Params text params middle
  others : Elements middle pairs rest

-- neither a bracket nor a space goes on with a name
stops : (text : List ℕ) (params : List Param) (rest : List ℕ) → Params text params rest → StopsAtByte is_sd_byte text
stops _ _ _ (closed rest) = refl
stops _ _ _ (another text middle rest param params first behind) = subst (λ (x : List ℕ). StopsAtByte is_sd_byte x) (sym first.space) refl

-- the parameter that an item is, if it is one
abbrev pub param_list : Option (List ℕ) → List ℕ → List Param
param_list None value = []
param_list (Some name) value = (record { name = name; value = value }) ∷ []

with_param : (param : Option (List ℕ)) (value text : List ℕ) (params : List Param) (pairs : List NameValue) (rest : List ℕ) → is_param_name param ≡ true → Open text params pairs rest → Open (param_text param value ++ text) (param_list param value ++ params) pairs rest
with_param None value text params pairs rest e o = o
with_param (Some name) value text params pairs rest e o =
    let quoted : List ℕ = escaped value ++ 34 ∷ text in
    let is_text : param_text (Some name) value ++ text ≡ 32 ∷ (name ++ 61 ∷ 34 ∷ quoted) = simp append_assoc in
    let first : IsParam (param_text (Some name) value ++ text) (record { name = name; value = value }) text = record {
      behind = name ++ 61 ∷ 34 ∷ quoted;
      quoted = quoted;
      space = is_text;
      name = name_read name (61 ∷ 34 ∷ quoted) e refl;
      value = record { spelled = escaped value; is_text = refl; spells = spelled value };
    } in
    record {
      middle = o.middle;
      are_params = another (param_text (Some name) value ++ text) text o.middle (record { name = name; value = value }) params first o.are_params;
      others = o.others;
    }

-- an element, and those behind it
element_read : (id text : List ℕ) (params : List Param) (pairs : List NameValue) (rest : List ℕ) → is_sd_name id ≡ true → Open text params pairs rest → Elements (91 ∷ (id ++ text)) (element_pairs id params ++ pairs) rest
element_read id text params pairs rest e o =
    let element : IsElement (91 ∷ (id ++ text)) (element_pairs id params) o.middle = record {
      id = id;
      params = params;
      behind = id ++ text;
      behind_id = text;
      opens = refl;
      is_id = name_read id text e (stops text params o.middle o.are_params);
      are_params = o.are_params;
      are_pairs = refl;
    } in
    more (91 ∷ (id ++ text)) o.middle rest (element_pairs id params) pairs element o.others

opened : (same : Bool) (id front text : List ℕ) (params : List Param) (pairs : List NameValue) (rest : List ℕ) → is_sd_name id ≡ true → Open (front ++ text) params pairs rest → Open (cond same [] (93 ∷ 91 ∷ id) ++ front ++ text) (cond same params []) (cond same pairs (element_pairs id params ++ pairs)) rest
opened true id front text params pairs rest e o = o
opened false id front text params pairs rest e o =
    let next = element_read id (front ++ text) params pairs rest e o in
    let is_text : (93 ∷ 91 ∷ id) ++ front ++ text ≡ 93 ∷ 91 ∷ (id ++ (front ++ text)) = append_assoc (93 ∷ 91 ∷ id) front text in
    subst (λ (x : List ℕ). Open x [] (element_pairs id params ++ pairs) rest) (sym is_text)
    (record { middle = 91 ∷ (id ++ (front ++ text)); are_params = closed (91 ∷ (id ++ (front ++ text))); others = next })

-- the parameters that go on an element of this ID, and the pairs of the elements behind it
abbrev pub open_params : List ℕ → List SdItem → List Param
open_params id [] = []
open_params id (item ∷ items) = cond (bytes_eq id item.id) (param_list item.param item.value ++ open_params item.id items) []

abbrev pub other_pairs : List ℕ → List SdItem → List NameValue
other_pairs id [] = []
other_pairs id (item ∷ items) = cond (bytes_eq id item.id) (other_pairs item.id items) (element_pairs item.id (param_list item.param item.value ++ open_params item.id items) ++ other_pairs item.id items)

abbrev pub written_pairs : List SdItem → List NameValue
written_pairs [] = []
written_pairs (item ∷ items) = element_pairs item.id (param_list item.param item.value ++ open_params item.id items) ++ other_pairs item.id items

open_read : (id : List ℕ) (items : List SdItem) (rest : List ℕ) → AreItems items → StopsAtByte (λ b. b == 91) rest → Open (elements_text (Some id) items ++ rest) (open_params id items) (other_pairs id items) rest
open_read id [] rest are end = record { middle = rest; are_params = closed rest; others = none rest end }
open_read id (item ∷ items) rest are end =
    let behind : List ℕ = elements_text (Some item.id) items ++ rest in
    let o = with_param item.param item.value behind (open_params item.id items) (other_pairs item.id items) rest are.1 (open_read item.id items rest are.2 end) in
    let is_text : elements_text (Some id) (item ∷ items) ++ rest ≡ opening_text (Some id) item.id ++ param_text item.param item.value ++ behind =
    append_assoc (opening_text (Some id) item.id ++ param_text item.param item.value) (elements_text (Some item.id) items) rest in
    subst (λ (x : List ℕ). Open x (open_params id (item ∷ items)) (other_pairs id (item ∷ items)) rest) (sym is_text)
    (opened (bytes_eq id item.id) item.id (param_text item.param item.value) behind (param_list item.param item.value ++ open_params item.id items) (other_pairs item.id items) rest are.0 o)

items_read : (items : List SdItem) (rest : List ℕ) → AreItems items → StopsAtByte (λ b. b == 91) rest → IsData (elements_text None items ++ rest) (written_pairs items) rest
items_read [] rest are end = inl (refl, refl, refl)
items_read (item ∷ items) rest are end =
    let behind : List ℕ = elements_text (Some item.id) items ++ rest in
    let front : List ℕ = param_text item.param item.value in
    let params : List Param = param_list item.param item.value ++ open_params item.id items in
    let o = with_param item.param item.value behind (open_params item.id items) (other_pairs item.id items) rest are.1 (open_read item.id items rest are.2 end) in
    let elements = element_read item.id (front ++ behind) params (other_pairs item.id items) rest are.0 o in
    let is_text : 91 ∷ (item.id ++ (front ++ behind)) ≡ elements_text None (item ∷ items) ++ rest =
    sym (append_assoc (91 ∷ item.id ++ front) (elements_text (Some item.id) items) rest ∙ append_assoc (91 ∷ item.id) front behind) in
    some_data (elements_text None (item ∷ items) ++ rest) (item.id ++ (front ++ behind)) (written_pairs (item ∷ items)) rest (sym is_text) (subst (λ (x : List ℕ). Elements x (written_pairs (item ∷ items)) rest) is_text elements)

pub data_read : (pairs : List NameValue) (rest : List ℕ) → StopsAtByte (λ b. b == 91) rest → IsData (sdata_text pairs ++ rest) (written_pairs (filter_map item_of pairs)) rest
unfolding sdata_text
data_read pairs rest end = items_read (filter_map item_of pairs) rest (are_items pairs) end

-- structured data ends in a byte of its own
pub record EndsIn (text : List ℕ) : Type 0 where
  pub init : List ℕ
  pub last : ℕ
  pub is_text : text ≡ init ++ last ∷ []
  pub inside : is_end_byte last ≡ false

open_ends : (id : List ℕ) (items : List SdItem) → EndsIn (elements_text (Some id) items)
open_ends id [] = record { init = []; last = 93; is_text = refl; inside = refl }
open_ends id (item ∷ items) =
    let rest = open_ends item.id items in
    record {
      init = item_text (Some id) item ++ rest.init;
      last = rest.last;
      is_text = ap (λ (t : List ℕ). item_text (Some id) item ++ t) rest.is_text ∙ sym (append_assoc (item_text (Some id) item) rest.init (rest.last ∷ []));
      inside = rest.inside;
    }

items_end : (items : List SdItem) → EndsIn (elements_text None items)
items_end [] = record { init = []; last = 45; is_text = refl; inside = refl }
items_end (item ∷ items) =
    let rest = open_ends item.id items in
    record {
      init = item_text None item ++ rest.init;
      last = rest.last;
      is_text = ap (λ (t : List ℕ). item_text None item ++ t) rest.is_text ∙ sym (append_assoc (item_text None item) rest.init (rest.last ∷ []));
      inside = rest.inside;
    }

pub data_ends : (pairs : List NameValue) → EndsIn (sdata_text pairs)
unfolding sdata_text
data_ends pairs = items_end (filter_map item_of pairs)

-- MSG, without the bytes that belong to no field
some_message : (b : ℕ) (text : List ℕ) → message_text (b ∷ text) ≡ 32 ∷ b ∷ text
some_message b text = ap (λ (t : Bool). cond t [] (32 ∷ b ∷ text)) (ne_eqb (length (b ∷ text)) 0 (λ e. omega (arith, e)))

abbrev pub ended_text : List ℕ → List ℕ
ended_text [] = []
ended_text (b ∷ text) = 32 ∷ without_end (b ∷ text)

-- what such a MSG says
abbrev pub said_text : List ℕ → List ℕ
said_text [] = []
said_text (b ∷ text) = without_bom (without_end (b ∷ text))

pub message_read : (text : List ℕ) → IsMsgPart (ended_text text) (said_text text)
message_read [] = refl
message_read (b ∷ text) = (refl, refl)

pub message_stops : (text : List ℕ) → StopsAtByte (λ b. b == 91) (ended_text text)
message_stops [] = tt
message_stops (b ∷ text) = refl

-- the end of a line
pub line_ended : (front : List ℕ) (pairs : List NameValue) (text : List ℕ) → without_end (front ++ (sdata_text pairs ++ message_text text)) ≡ front ++ (sdata_text pairs ++ ended_text text)
line_ended front pairs [] =
    let ends = data_ends pairs in
    let there : front ++ (sdata_text pairs ++ []) ≡ (front ++ ends.init) ++ ends.last ∷ [] =
    ap (λ (t : List ℕ). front ++ t) (append-nil (sdata_text pairs) ∙ ends.is_text) ∙ sym (append_assoc front ends.init (ends.last ∷ [])) in
    ap without_end there ∙ (kept_front (front ++ ends.init) [] ends.last ends.inside ∙ sym there)
line_ended front pairs (b ∷ text) =
    let there : front ++ (sdata_text pairs ++ message_text (b ∷ text)) ≡ (front ++ sdata_text pairs) ++ 32 ∷ b ∷ text =
    ap (λ (t : List ℕ). front ++ (sdata_text pairs ++ t)) (some_message b text) ∙ sym (append_assoc front (sdata_text pairs) (32 ∷ b ∷ text)) in
    ap without_end there ∙ (kept_front (front ++ sdata_text pairs) (b ∷ text) 32 refl ∙ append_assoc front (sdata_text pairs) (32 ∷ without_end (b ∷ text)))
