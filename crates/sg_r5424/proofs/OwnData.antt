-- The message of a record whose structured data has its own form has a place for all of it.
use Rattle.std.proofs.Common.{◌≡◌, ℕ, ◌⊎◌, inl, inr, Bool, true, false, ◌&&◌, ◌||◌, not, Option, Some, None, is_some, List, [], ◌∷◌, ◌++◌, take, codes, map, bytes_eq, refl, sym, ap, subst, ◌∙◌}
use Rattle.std.specs.List.{All, filter_map}
use Rattle.std.specs.declared.cmp.Ordering.{Ordering}
use Rattle.std.specs.declared.cmp.Ordering.TheVariants.{Less, Equal, Greater}
use Rattle.std.proofs.lemmas.Bool.{true≢false}
use Rattle.std.proofs.lemmas.Slice.Eq.{bytes_eq-Decides}
use Rattle.std.proofs.lemmas.List.Elements.{All-head, All-tail}
use Rattle.sg_time.specs.declared.stamp.Stamp.{Stamp}
use Rattle.sg_msg.specs.Message.{NameValue, Content, byte_order, with_pair, with_all, IsNameBelow, IsAscending}
use Rattle.sg_msg.specs.Build.{some_pair}
use Rattle.sg_msg.proofs.ByteOrder.{test-same, test-less}
use Rattle.sg_msg.proofs.ManyPairs.{ascending-all}
use Rattle.sg_r3164.specs.declared.opts.ReadOpts.{ReadOpts}
use Rattle.sg_r3164.specs.Options.{host_of}
use Rattle.sg_template.specs.Elements.{SdItem, is_sd_name, sd_name, item_of}
use Rattle.sg_r5424.specs.Data.{Param}
use Rattle.sg_r5424.specs.Grammar.{HeaderNames}
use Rattle.sg_r5424.specs.Grammar.{unless_nil}
use Rattle.sg_r5424.specs.Data.{Elements, IsData, param_pair, element_pairs}
use Rattle.sg_r5424.specs.Data.Elements.{none, more}
use Rattle.sg_r5424.specs.Is5424.{message_pair, name_pairs, ReadsSyslogMsg}
use Rattle.sg_r5424.specs.Again.{is_data, is_open, begin_with, AreNamed, HasPlace, HavePlaces, KeepsData}
use Rattle.sg_r5424.specs.OwnForm.{SdElement, elements_of, data_elements, record_elements, IsToldElement, has_none, stands_alone, has_params, HasOwnForm}
use Rattle.sg_r5424.proofs.DataAgain.{name_by}
use Rattle.sg_r5424.proofs.OwnNames.{AreNamesSplit, IsNameSplit, told, named_alone, named_two, good_name, AreGood, params_good}

-- an element of these that a pair may come from
abbrev HasSource : List SdElement → List ℕ → Option (List ℕ) → List ℕ → Type 0
HasSource elements id None value = (stands_alone id elements ≡ true) × (value ≡ [])
HasSource elements id (Some name) value = has_params id elements ≡ true

record ComesOwn (elements : List SdElement) (pair : NameValue) : Type 0 where
  id : List ℕ
  param : Option (List ℕ)
  is_name : pair.name ≡ name_by id param
  named : sd_name pair.name ≡ Some (record { id = id; param = param })
  source : HasSource elements id param pair.value

-- pairs of these elements, among others that are no structured data
abbrev MayStand : List SdElement → NameValue → Type 0
MayStand elements pair = (is_data pair ≡ false) ⊎ ComesOwn elements pair

abbrev AllStand : List SdElement → List NameValue → Type 0
AllStand elements [] = Unit {0}
AllStand elements (pair ∷ pairs) = MayStand elements pair × AllStand elements pairs

stand_both : (elements : List SdElement) (first second : List NameValue) → AllStand elements first → AllStand elements second → AllStand elements (first ++ second)
stand_both elements [] second a b = b
stand_both elements (pair ∷ first) second a b = (a.0, stand_both elements first second a.1 b)

-- setting pairs one after another puts no other pair
stand_with : (elements : List SdElement) (pair : NameValue) (pairs : List NameValue) → MayStand elements pair → AllStand elements pairs → AllStand elements (with_pair pair.name pair.value pairs)
stand_with elements pair [] one all = (one, tt)
stand_with elements pair (first ∷ pairs) one all = by (stand_with elements pair pairs one all.1) (byte_order first.name pair.name) refl
  where
    by : AllStand elements (with_pair pair.name pair.value pairs) → (o : Ordering) → byte_order first.name pair.name ≡ o → AllStand elements (with_pair pair.name pair.value (first ∷ pairs))
    by rest Less is = rw is (all.0, rest)
    by rest Equal is = rw is (one, all.1)
    by rest Greater is = rw is (one, all)

stand_all : (elements : List SdElement) (put pairs : List NameValue) → AllStand elements put → AllStand elements pairs → AllStand elements (with_all put pairs)
stand_all elements [] pairs a b = b
stand_all elements (pair ∷ put) pairs a b = stand_all elements put (with_pair pair.name pair.value pairs) a.1 (stand_with elements pair pairs a.0 b)

-- the pairs of an element come from it
or_true : (p q : Bool) → q ≡ true → p || q ≡ true
or_true true q e = refl
or_true false q e = e

source_behind : (first : SdElement) (elements : List SdElement) (id : List ℕ) (param : Option (List ℕ)) (value : List ℕ) → HasSource elements id param value → HasSource (first ∷ elements) id param value
source_behind first elements id None value is = (or_true (bytes_eq first.id id && has_none first.params) (stands_alone id elements) is.0, is.1)
source_behind first elements id (Some name) value is = or_true (bytes_eq first.id id && not (has_none first.params)) (has_params id elements) is

stand_one : (first : SdElement) (elements : List SdElement) (pair : NameValue) → MayStand elements pair → MayStand (first ∷ elements) pair
stand_one first elements pair (inl other) = inl other
stand_one first elements pair (inr comes) = inr (record {
  id = comes.id;
  param = comes.param;
  is_name = comes.is_name;
  named = comes.named;
  source = source_behind first elements comes.id comes.param pair.value comes.source;
})

stand_behind : (first : SdElement) (elements : List SdElement) (pairs : List NameValue) → AllStand elements pairs → AllStand (first ∷ elements) pairs
stand_behind first elements [] all = tt
stand_behind first elements (pair ∷ pairs) all = (stand_one first elements pair all.0, stand_behind first elements pairs all.1)

params_stand : (elements : List SdElement) (id : List ℕ) (params : List Param) → has_params id elements ≡ true → is_sd_name id ≡ true → AreGood params → AreNamesSplit id params → AllStand elements (map (param_pair id) params)
params_stand elements id [] has good names split = tt
params_stand elements id (param ∷ params) has good names split = (
  inr (record {
    id = id;
    param = Some param.name;
    is_name = refl;
    named = named_two id param.name good names.0 split.0;
    source = has;
  }),
  params_stand elements id params has good names.1 split.1,
)

element_stands : (id : List ℕ) (params : List Param) (elements : List SdElement) → is_sd_name id ≡ true → AreGood params → IsNameSplit (record { id = id; params = params }) → AllStand ((record { id = id; params = params }) ∷ elements) (element_pairs id params)
element_stands id [] elements good names split = (
  inr (record {
    id = id;
    param = None;
    is_name = refl;
    named = named_alone id good split.alone;
    source = (rw (test-same id id refl) refl, refl);
  }),
  tt,
)
element_stands id (param ∷ params) elements good names split =
    let has : has_params id ((record { id = id; params = param ∷ params }) ∷ elements) ≡ true = rw (test-same id id refl) refl in
    params_stand ((record { id = id; params = param ∷ params }) ∷ elements) id (param ∷ params) has good names split.params

elements_stand : (text : List ℕ) (pairs : List NameValue) (rest : List ℕ) (is : Elements text pairs rest) → All IsToldElement (elements_of text pairs rest is) → AllStand (elements_of text pairs rest is) pairs
elements_stand _ _ _ (none text stops) all = tt
elements_stand _ _ _ (more text middle rest first pairs one others) all =
    let element : SdElement = record { id = one.id; params = one.params } in
    let elements : List SdElement = elements_of middle pairs rest others in
    let is = told element (All-head IsToldElement element elements all) in
    let here = element_stands one.id one.params elements (good_name one.behind one.id one.behind_id one.is_id) (params_good one.behind_id one.params middle one.are_params) is in
    stand_both (element ∷ elements) first pairs (subst (AllStand (element ∷ elements)) (sym one.are_pairs) here)
    (stand_behind element elements pairs (elements_stand middle pairs rest others (All-tail IsToldElement element elements all)))

data_stand : (text : List ℕ) (pairs : List NameValue) (rest : List ℕ) (is : IsData text pairs rest) → All IsToldElement (data_elements text pairs rest is) → AllStand (data_elements text pairs rest is) pairs
data_stand [] pairs rest is all = absurd is
data_stand (b ∷ text) pairs rest (inl nil) all = rw nil.1 tt
data_stand (b ∷ text) pairs rest (inr some) all = elements_stand (b ∷ text) pairs rest some.1 all

-- the other pairs of a record are no structured data
some_stand : (elements : List SdElement) (name : List ℕ) (value : Option (List ℕ)) → bytes_eq (take 7 name) (codes ".SDATA.") ≡ false → AllStand elements (some_pair name value)
some_stand elements name None e = tt
some_stand elements name (Some value) e = (inl e, tt)

names_stand : (elements : List SdElement) (opts : ReadOpts) (peer : List ℕ) (names : HeaderNames) → AllStand elements (name_pairs opts peer names)
names_stand elements opts peer names =
    let host : List NameValue = (record { name = codes "HOST"; value = host_of opts (unless_nil names.host) peer }) ∷ [] in
    let program : List NameValue = some_pair (codes "PROGRAM") (unless_nil names.program) in
    let pid : List NameValue = some_pair (codes "PID") (unless_nil names.pid) in
    let msgid : List NameValue = some_pair (codes "MSGID") (unless_nil names.msgid) in
    stand_both elements (host ++ program ++ pid) msgid
    (stand_both elements (host ++ program) pid
    (stand_both elements host program (inl refl, tt) (some_stand elements (codes "PROGRAM") (unless_nil names.program) refl))
    (some_stand elements (codes "PID") (unless_nil names.pid) refl))
    (some_stand elements (codes "MSGID") (unless_nil names.msgid) refl)

-- their names are of the grammar
named_stand : (elements : List SdElement) (pair : NameValue) → MayStand elements pair → is_data pair ≡ true → is_some (sd_name pair.name) ≡ true
named_stand elements pair (inl other) is = absurd (true≢false (sym is ∙ other))
named_stand elements pair (inr comes) is = ap is_some comes.named

all_named : (elements : List SdElement) (pairs : List NameValue) → AllStand elements pairs → AreNamed pairs
all_named elements [] all = tt
all_named elements (pair ∷ pairs) all = (named_stand elements pair all.0, all_named elements pairs all.1)

-- Two items of one ID are both parameters.
abbrev IsApart : List ℕ → Option (List ℕ) → SdItem → Type 0
IsApart id None item = bytes_eq id item.id ≡ false
IsApart id (Some name) item = item.param ≡ None → bytes_eq id item.id ≡ false

abbrev AllApart : List ℕ → Option (List ℕ) → List SdItem → Type 0
AllApart id param [] = Unit {0}
AllApart id param (item ∷ items) = IsApart id param item × AllApart id param items

abbrev IsEmpty : Option (List ℕ) → List ℕ → Type 0
IsEmpty None value = value ≡ []
IsEmpty (Some name) value = Unit {0}

abbrev ArePlaced : List SdItem → Type 0
ArePlaced [] = Unit {0}
ArePlaced (item ∷ items) = IsEmpty item.param item.value × AllApart item.id item.param items × ArePlaced items

empty_source : (elements : List SdElement) (id : List ℕ) (param : Option (List ℕ)) (value : List ℕ) → HasSource elements id param value → IsEmpty param value
empty_source elements id None value is = is.1
empty_source elements id (Some name) value is = tt

module _ (elements : List SdElement) (apart : (id : List ℕ) → stands_alone id elements ≡ true → has_params id elements ≡ false) where
  same_bytes : (x y : List ℕ) → bytes_eq x y ≡ true → x ≡ y
  same_bytes x y e = (bytes_eq-Decides x y).0 e

  never_both : (a b : List ℕ) → bytes_eq a b ≡ true → stands_alone a elements ≡ true → has_params b elements ≡ true → ⊥
  never_both a b e alone has =
      let same : b ≡ a = sym (same_bytes a b e) in
      true≢false (sym (subst (λ (x : List ℕ). has_params x elements ≡ true) same has) ∙ apart a alone)

  differ_if : (test : Bool) (id other : List ℕ) → bytes_eq id other ≡ test → (bytes_eq id other ≡ true → ⊥) → bytes_eq id other ≡ false
  differ_if true id other e never = absurd (never e)
  differ_if false id other e never = e

  none_twice : (id other : List ℕ) → byte_order (name_by id None) (name_by other None) ≡ Less → bytes_eq id other ≡ true → ⊥
  none_twice id other less e =
      true≢false (sym (test-same (name_by id None) (name_by other None) (ap (λ (x : List ℕ). name_by x None) (same_bytes id other e))) ∙ test-less (name_by id None) (name_by other None) less)

  two_apart : (id : List ℕ) (param : Option (List ℕ)) (value : List ℕ) (item : SdItem) → HasSource elements id param value → HasSource elements item.id item.param item.value
      → byte_order (name_by id param) (name_by item.id item.param) ≡ Less → IsApart id param item
  two_apart id None value item is also less = by item.param refl
    where
      by : (param : Option (List ℕ)) → item.param ≡ param → bytes_eq id item.id ≡ false
      by None e = differ_if (bytes_eq id item.id) id item.id refl (none_twice id item.id (subst (λ (p : Option (List ℕ)). byte_order (name_by id None) (name_by item.id p) ≡ Less) e less))
      by (Some name) e = differ_if (bytes_eq id item.id) id item.id refl (λ same. never_both id item.id same is.0 (subst (λ (p : Option (List ℕ)). HasSource elements item.id p item.value) e also))
  two_apart id (Some name) value item is also less = λ e.
      let alone = subst (λ (p : Option (List ℕ)). HasSource elements item.id p item.value) e also in
      differ_if (bytes_eq id item.id) id item.id refl
      (λ same. never_both item.id id (test-same item.id id (sym (same_bytes id item.id same))) alone.0 is)

  -- an item and those of pairs behind its own
  no_item : (pair : NameValue) → is_data pair ≡ false → item_of pair ≡ None
  unfolding sd_name
  no_item pair e = rw e refl

  some_item : (pair : NameValue) (comes : ComesOwn elements pair) → item_of pair ≡ Some (record { id = comes.id; param = comes.param; value = pair.value })
  some_item pair comes = rw comes.named refl

  apart_behind : (id : List ℕ) (param : Option (List ℕ)) (value : List ℕ) (pairs : List NameValue) → HasSource elements id param value → IsNameBelow (name_by id param) pairs → AllStand elements pairs → AllApart id param (filter_map item_of pairs)
  apart_behind id param value [] is below all = tt
  apart_behind id param value (pair ∷ pairs) is below all = by all.0 (apart_behind id param value pairs is below.1 all.1)
    where
      by : MayStand elements pair → AllApart id param (filter_map item_of pairs) → AllApart id param (filter_map item_of (pair ∷ pairs))
      by (inl other) rest = rw (no_item pair other) rest
      by (inr comes) rest =
          let item : SdItem = record { id = comes.id; param = comes.param; value = pair.value } in
          let less = subst (λ (n : List ℕ). byte_order (name_by id param) n ≡ Less) comes.is_name below.0 in
          rw (some_item pair comes) (two_apart id param value item is comes.source less, rest)

  all_placed : (pairs : List NameValue) → IsAscending pairs → AllStand elements pairs → ArePlaced (filter_map item_of pairs)
  all_placed [] up all = tt
  all_placed (pair ∷ pairs) up all = by all.0 (all_placed pairs up.1 all.1)
    where
      by : MayStand elements pair → ArePlaced (filter_map item_of pairs) → ArePlaced (filter_map item_of (pair ∷ pairs))
      by (inl other) rest = rw (no_item pair other) rest
      by (inr comes) rest =
          let below = subst (λ (n : List ℕ). IsNameBelow n pairs) comes.is_name up.0 in
          rw (some_item pair comes) (
            empty_source elements comes.id comes.param pair.value comes.source,
            apart_behind comes.id comes.param pair.value pairs comes.source below all.1,
            rest,
          )

-- so each item has its place
not_next : (id : List ℕ) (items : List SdItem) → AllApart id None items → begin_with id items ≡ false
not_next id [] apart = refl
not_next id (item ∷ items) apart = apart.0

not_before : (id : List ℕ) (param : Option (List ℕ)) (item : SdItem) → IsApart id param item → item.param ≡ None → bytes_eq id item.id ≡ false
not_before id None item apart e = apart
not_before id (Some name) item apart e = apart e

place_one : (before : Option (List ℕ)) (id : List ℕ) (param : Option (List ℕ)) (value : List ℕ) (items : List SdItem) → (param ≡ None → is_open before id ≡ false) → IsEmpty param value → AllApart id param items → HasPlace before id param value items
place_one before id None value items begins empty apart = record { empty = empty; begins = begins refl; ends = not_next id items apart }
place_one before id (Some name) value items begins empty apart = tt

places_behind : (id : List ℕ) (param : Option (List ℕ)) (items : List SdItem) → AllApart id param items → ArePlaced items → HavePlaces (Some id) items
places_behind id param [] apart placed = tt
places_behind id param (item ∷ items) apart placed = (
  place_one (Some id) item.id item.param item.value items (not_before id param item apart.0) placed.0 placed.1,
  places_behind item.id item.param items placed.1 placed.2,
)

places : (items : List SdItem) → ArePlaced items → HavePlaces None items
places [] placed = tt
places (item ∷ items) placed = (
  place_one None item.id item.param item.value items (λ e. refl) placed.0 placed.1,
  places_behind item.id item.param items placed.1 placed.2,
)

pub keeps_data : (received : Stamp) (peer : List ℕ) (opts : ReadOpts) (item : List ℕ) (content : Content) (read : ReadsSyslogMsg received peer opts item content) → HasOwnForm (record_elements received peer opts item content read) → KeepsData content.pairs
keeps_data received peer opts item content read form =
    let elements : List SdElement = record_elements received peer opts item content read in
    let names : List NameValue = name_pairs opts peer read.names in
    let behind = read.behind in
    let put : List NameValue = names ++ behind.pairs ++ message_pair behind.message ∷ [] in
    let put_stand : AllStand elements put =
    stand_both elements (names ++ behind.pairs) (message_pair behind.message ∷ [])
    (stand_both elements names behind.pairs (names_stand elements opts peer read.names) (data_stand read.behind_names behind.pairs behind.rest behind.is_data form.told))
    (inl refl, tt) in
    let stand : AllStand elements (with_all put []) = stand_all elements put [] put_stand tt in
    let up : IsAscending (with_all put []) = ascending-all put [] tt in
    subst (λ (x : Content). KeepsData x.pairs) (sym behind.is_content)
    (record { named = all_named elements (with_all put []) stand; places = places (filter_map item_of (with_all put [])) (all_placed elements form.apart (with_all put []) up stand) })
