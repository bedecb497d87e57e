-- Structured data that a line has a place for is read again.
use Rattle.std.proofs.Common.{◌≡◌, ℕ, suc, ◌+◌, ◌≤◌, ◌⊎◌, inl, inr, Bool, true, false, ◌&&◌, not, cond, nat_eq, Option, Some, None, is_some, List, [], ◌∷◌, ◌++◌, length, take, drop, codes, map, bytes_eq, refl, sym, ap, subst, ◌∙◌, arith, append_assoc, length-drop}
use Rattle.std.specs.List.{filter_map, prefix_len, cons_option}
use Rattle.std.specs.Option.{option_map}
use Rattle.std.proofs.lemmas.Bool.{true≢false, eqb-true, eq-eqb}
use Rattle.std.proofs.lemmas.Slice.Eq.{bytes_eq-Decides}
use Rattle.std.proofs.lemmas.List.Sums.{prefix_len-le-length}
use Rattle.std.proofs.lemmas.List.{take-append-drop, drop-drop}
use Rattle.sg_msg.specs.Message.{NameValue}
use Rattle.sg_template.specs.Elements.{SdName, SdItem, is_sd_name, is_param_name, is_no_dot, is_no_at, begins_with_digit, before_dot, id_length, split_name, checked, sd_name, item_of}
use Rattle.sg_r5424.specs.Data.{Param}
use Rattle.sg_r5424.specs.Data.{element_name, param_name, param_pair, element_pairs}
use Rattle.sg_r5424.specs.Again.{is_data, data_pairs, begin_with, AreNamed, HasPlace, HavePlaces, KeepsData}
use Rattle.sg_r5424.proofs.RunLemmas.{and_true}
use Rattle.sg_r5424.proofs.NamedValues.{AreData}
use Rattle.sg_r5424.proofs.WrittenData.{param_list, open_params, other_pairs, written_pairs}

-- what a name says, as a name again
abbrev pub name_by : List ℕ → Option (List ℕ) → List ℕ
name_by id None = element_name id
name_by id (Some param) = param_name id param

abbrev pub pair_of : SdItem → NameValue
pair_of item = record { name = name_by item.id item.param; value = item.value }

same_bytes : (x y : List ℕ) → bytes_eq x y ≡ true → x ≡ y
same_bytes x y e = (bytes_eq-Decides x y).0 e

same_number : (n : ℕ) → nat_eq n n ≡ true
same_number n = eq-eqb n n refl

-- Where a name is split, a dot stands.
abbrev IsCut : ℕ → List ℕ → Type 0
IsCut n text = (n ≡ length text) ⊎ (drop n text ≡ 46 ∷ drop (n + 1) text)

prefix_if : (test : Bool) (b : ℕ) (text : List ℕ) (n : ℕ) → nat_eq b 46 ≡ test → IsCut n text → IsCut (cond (not test) (1 + n) 0) (b ∷ text)
prefix_if true b text n e at = inr (ap (λ (x : ℕ). x ∷ text) (eqb-true b 46 e))
prefix_if false b text n e (inl all) = inl (omega (arith, all))
prefix_if false b text n e (inr dot) =
    let one : 1 + n ≡ suc n = omega arith in
    let two : 1 + n + 1 ≡ suc (n + 1) = omega arith in
    inr (ap (λ (k : ℕ). drop k (b ∷ text)) one ∙ (dot ∙ ap (λ (k : ℕ). 46 ∷ drop k (b ∷ text)) (sym two)))

prefix_at : (text : List ℕ) → IsCut (prefix_len is_no_dot text) text
prefix_at [] = inl refl
prefix_at (b ∷ text) = prefix_if (nat_eq b 46) b text (prefix_len is_no_dot text) refl (prefix_at text)

before_if : (test : Bool) (b : ℕ) (digit : Bool) (text : List ℕ) (n : ℕ) → nat_eq b 46 && not digit ≡ test → IsCut n text → IsCut (cond test 0 (n + 1)) (b ∷ text)
before_if true b digit text n e at = inr (ap (λ (x : ℕ). x ∷ text) (eqb-true b 46 (and_true (nat_eq b 46) (not digit) e).0))
before_if false b digit text n e (inl all) = inl (omega (arith, all))
before_if false b digit text n e (inr dot) =
    let one : n + 1 ≡ suc n = omega arith in
    let two : n + 1 + 1 ≡ suc (n + 1) = omega arith in
    inr (ap (λ (k : ℕ). drop k (b ∷ text)) one ∙ (dot ∙ ap (λ (k : ℕ). 46 ∷ drop k (b ∷ text)) (sym two)))

before_at : (text : List ℕ) → IsCut (before_dot text) text
before_at [] = inl refl
before_at (b ∷ text) = before_if (nat_eq b 46 && not (begins_with_digit text)) b (begins_with_digit text) text (before_dot text) refl (before_at text)

behind_at : (text : List ℕ) (at n : ℕ) → at ≤ length text → IsCut n (drop at text) → IsCut (at + n) text
behind_at text at n le (inl all) = inl (omega (arith, all, length-drop at text))
behind_at text at n le (inr dot) =
    let next : at + n + 1 ≡ at + (n + 1) = omega arith in
    inr (sym (drop-drop n at text) ∙ (dot ∙ (ap (λ (t : List ℕ). 46 ∷ t) (drop-drop (n + 1) at text) ∙ ap (λ (k : ℕ). 46 ∷ drop k text) (sym next))))

id_if : (text : List ℕ) (at : ℕ) (test : Bool) → at ≤ length text → IsCut (cond test (prefix_len is_no_dot text) (at + before_dot (drop at text))) text
id_if text at true le = prefix_at text
id_if text at false le = behind_at text at (before_dot (drop at text)) le (before_at (drop at text))

id_at : (text : List ℕ) → IsCut (id_length text) text
id_at text = id_if text (prefix_len is_no_at text) (nat_eq (prefix_len is_no_at text) (length text)) (prefix_len-le-length is_no_at text)

-- a name that is split is put together again
abbrev pub split_by : List ℕ → ℕ → Bool → SdName
split_by text n test = cond test (record { id = text; param = None }) (record { id = take n text; param = Some (drop (n + 1) text) })

back_if : (text : List ℕ) (n : ℕ) (test : Bool) → nat_eq n (length text) ≡ test → IsCut n text → name_by (split_by text n test).id (split_by text n test).param ≡ codes ".SDATA." ++ text
back_if text n true e at = refl
back_if text n false e (inl all) = absurd (true≢false (sym (ap (λ (k : ℕ). nat_eq k (length text)) all ∙ same_number (length text)) ∙ e))
back_if text n false e (inr dot) =
    append_assoc (codes ".SDATA." ++ take n text) (46 ∷ []) (drop (n + 1) text)
    ∙ (append_assoc (codes ".SDATA.") (take n text) (46 ∷ drop (n + 1) text)
    ∙ ap (λ (t : List ℕ). codes ".SDATA." ++ t) (ap (λ (t : List ℕ). take n text ++ t) (sym dot) ∙ take-append-drop n text))

put_together : (text : List ℕ) → name_by (split_name text).id (split_name text).param ≡ codes ".SDATA." ++ text
put_together text = back_if text (id_length text) (nat_eq (id_length text) (length text)) refl (id_at text)

checked_same : (found name : SdName) (test : Bool) → cond test (Some found) None ≡ Some name → found ≡ name
checked_same found name true e = cc
checked_same found name false e = absurd (let wrong : None ≡ Some name = e in cc)

-- a name of structured data is the one that its parts give
named_if : (name : List ℕ) (found : SdName) (test : Bool) → bytes_eq (take 7 name) (codes ".SDATA.") ≡ test → cond test (checked (split_name (drop 7 name))) None ≡ Some found → (bytes_eq (take 7 name) (codes ".SDATA.") ≡ true) × (name_by found.id found.param ≡ name)
named_if name found true e h =
    let split = split_name (drop 7 name) in
    let same = checked_same split found (is_sd_name split.id && is_param_name split.param) h in (
      e,
      subst (λ (x : SdName). name_by x.id x.param ≡ name) same
          (put_together (drop 7 name) ∙ (ap (λ (t : List ℕ). t ++ drop 7 name) (sym (same_bytes (take 7 name) (codes ".SDATA.") e)) ∙ take-append-drop 7 name)),
    )
named_if name found false e h = absurd (let wrong : None ≡ Some found = h in cc)

named_back : (name : List ℕ) (found : SdName) → sd_name name ≡ Some found → (bytes_eq (take 7 name) (codes ".SDATA.") ≡ true) × (name_by found.id found.param ≡ name)
unfolding sd_name
named_back name found h = named_if name found (bytes_eq (take 7 name) (codes ".SDATA.")) refl h

-- the pairs of the items are those of structured data
abbrev item_by : List ℕ → SdName → SdItem
item_by value found = record { id = found.id; param = found.param; value = value }

one_back : (pair : NameValue) (pairs : List NameValue) (found : Option SdName) (test : Bool) → sd_name pair.name ≡ found → is_data pair ≡ test → (test ≡ true → is_some found ≡ true) → map pair_of (filter_map item_of pairs) ≡ data_pairs pairs
    → map pair_of (cons_option (option_map (item_by pair.value) found) (filter_map item_of pairs)) ≡ cond test (pair ∷ data_pairs pairs) (data_pairs pairs)
one_back pair pairs None true e is named rest = absurd (true≢false (sym (named refl)))
one_back pair pairs None false e is named rest = rest
one_back pair pairs (Some found) true e is named rest =
    let back = named_back pair.name found e in
    ap (λ (n : List ℕ). (record { name = n; value = pair.value }) ∷ map pair_of (filter_map item_of pairs)) back.1 ∙ ap (λ (l : List NameValue). pair ∷ l) rest
one_back pair pairs (Some found) false e is named rest = absurd (true≢false (sym (named_back pair.name found e).0 ∙ is))

pub items_back : (pairs : List NameValue) → AreNamed pairs → map pair_of (filter_map item_of pairs) ≡ data_pairs pairs
items_back [] named = refl
items_back (pair ∷ pairs) named =
    one_back pair pairs (sd_name pair.name) (is_data pair) refl refl named.0 (items_back pairs named.1)

-- the pairs that a line says of items that have places are the items' own
abbrev SaidData : List ℕ → List SdItem → Type 0
SaidData id items = map (param_pair id) (open_params id items) ++ other_pairs id items ≡ map pair_of items

none_open : (id : List ℕ) (items : List SdItem) → begin_with id items ≡ false → open_params id items ≡ []
none_open id [] e = refl
none_open id (item ∷ items) e = rw e refl

one_said : (before : Option (List ℕ)) (id : List ℕ) (param : Option (List ℕ)) (value : List ℕ) (items : List SdItem) → HasPlace before id param value items → SaidData id items
    → element_pairs id (param_list param value ++ open_params id items) ++ other_pairs id items ≡ pair_of (record { id = id; param = param; value = value }) ∷ map pair_of items
one_said before id (Some name) value items place rest = ap (λ (l : List NameValue). param_pair id (record { name = name; value = value }) ∷ l) rest
one_said before id None value items place rest =
    let none = none_open id items place.ends in
    let behind : other_pairs id items ≡ map pair_of items = ap (λ (l : List Param). map (param_pair id) l ++ other_pairs id items) (sym none) ∙ rest in
    ap (λ (l : List Param). element_pairs id l ++ other_pairs id items) none
    ∙ (ap (λ (l : List NameValue). (record { name = element_name id; value = [] }) ∷ l) behind
    ∙ ap (λ (v : List ℕ). (record { name = element_name id; value = v }) ∷ map pair_of items) (sym place.empty))

open_said : (current id : List ℕ) (param : Option (List ℕ)) (value : List ℕ) (items : List SdItem) (test : Bool) → bytes_eq current id ≡ test → HasPlace (Some current) id param value items → SaidData id items
    → map (param_pair current) (cond test (param_list param value ++ open_params id items) []) ++ cond test (other_pairs id items) (element_pairs id (param_list param value ++ open_params id items) ++ other_pairs id items)
    ≡ pair_of (record { id = id; param = param; value = value }) ∷ map pair_of items
open_said current id param value items false e place rest = one_said (Some current) id param value items place rest
open_said current id None value items true e place rest = absurd (true≢false (sym e ∙ place.begins))
open_said current id (Some name) value items true e place rest =
    ap (λ (x : List ℕ). map (param_pair x) ((record { name = name; value = value }) ∷ open_params id items) ++ other_pairs id items) (same_bytes current id e)
    ∙ ap (λ (l : List NameValue). param_pair id (record { name = name; value = value }) ∷ l) rest

said_behind : (id : List ℕ) (items : List SdItem) → HavePlaces (Some id) items → SaidData id items
said_behind id [] places = refl
said_behind id (item ∷ items) places = open_said id item.id item.param item.value items (bytes_eq id item.id) refl places.0 (said_behind item.id items places.1)

pub items_said : (items : List SdItem) → HavePlaces None items → written_pairs items ≡ map pair_of items
items_said [] places = refl
items_said (item ∷ items) places = one_said None item.id item.param item.value items places.0 (said_behind item.id items places.1)

-- and all are structured data
map_data : (id : List ℕ) (params : List Param) → AreData (map (param_pair id) params)
map_data id [] = tt
map_data id (param ∷ params) = (refl, map_data id params)

pub element_data : (id : List ℕ) (params : List Param) → AreData (element_pairs id params)
element_data id [] = (refl, tt)
element_data id (param ∷ params) = (refl, map_data id params)

pub data_both : (first second : List NameValue) → AreData first → AreData second → AreData (first ++ second)
data_both [] second a b = b
data_both (pair ∷ first) second a b = (a.0, data_both first second a.1 b)

either_data : (test : Bool) (first second : List NameValue) → AreData first → AreData second → AreData (cond test first second)
either_data true first second a b = a
either_data false first second a b = b

other_data : (id : List ℕ) (items : List SdItem) → AreData (other_pairs id items)
other_data id [] = tt
other_data id (item ∷ items) =
    let rest = other_data item.id items in
    let params : List Param = param_list item.param item.value ++ open_params item.id items in
    either_data (bytes_eq id item.id) (other_pairs item.id items) (element_pairs item.id params ++ other_pairs item.id items) rest
    (data_both (element_pairs item.id params) (other_pairs item.id items) (element_data item.id params) rest)

pub written_data : (items : List SdItem) → AreData (written_pairs items)
written_data [] = tt
written_data (item ∷ items) =
    let params : List Param = param_list item.param item.value ++ open_params item.id items in
    data_both (element_pairs item.id params) (other_pairs item.id items) (element_data item.id params) (other_data item.id items)

-- what a line says of structured data that it has a place for
pub data_again : (pairs : List NameValue) → KeepsData pairs → written_pairs (filter_map item_of pairs) ≡ data_pairs pairs
data_again pairs keeps = items_said (filter_map item_of pairs) keeps.places ∙ items_back pairs keeps.named
