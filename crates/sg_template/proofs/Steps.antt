-- Loops that append a text for each item, one item on.
use Rattle.std.proofs.Common.{◌≡◌, ℕ, ◌+◌, ◌<◌, List, [], ◌∷◌, ◌++◌, length, get_or, take, drop, refl, sym, ap, ◌∙◌, Option, Some, None, slice_get, option_map}
use Rattle.std.specs.List.{flat_map, filter_map, cons_option}
use Rattle.std.proofs.lemmas.List.{append_assoc, flat_map_more, take_more}
use Rattle.sg_list.proofs.ListLemmas.{drop-get, slice_get-all}
use Rattle.sg_msg.specs.Message.{NameValue}
use Rattle.sg_template.specs.Texts.{later_tag, tags_text}
use Rattle.sg_template.specs.Elements.{SdName, SdItem, sd_name, item_of, item_text, opening_text, param_text, elements_text}

-- a text for each item so far
pub flat_map-step : {X : Type 0} (f : X → List ℕ) (xs : List X) (k : ℕ) (x : X) (first out new : List ℕ) → k < length xs → x ≡ get_or xs k x → out ≡ first ++ flat_map f (take k xs) → new ≡ out ++ f x → new ≡ first ++ flat_map f (take (k + 1) xs)
flat_map-step {X} f xs k x first out new within is before more =
    more
    ∙ (ap (λ (t : List ℕ). t ++ f x) before
    ∙ (flat_map_more f first (take k xs) x
    ∙ ap (λ (ys : List X). first ++ flat_map f ys) (ap (λ (y : X). take k xs ++ y ∷ []) is ∙ sym (take_more xs k x within))))

-- two texts more, of what is left
pub two_more : (out mid new front back rest whole : List ℕ) → mid ≡ out ++ front → new ≡ mid ++ back → out ++ ((front ++ back) ++ rest) ≡ whole → new ++ rest ≡ whole
two_more out mid new front back rest whole first second left =
    let regroup : ((out ++ front) ++ back) ++ rest ≡ out ++ ((front ++ back) ++ rest) = simp append_assoc in
    ap (λ (t : List ℕ). t ++ rest) (second ∙ ap (λ (t : List ℕ). t ++ back) first) ∙ (regroup ∙ left)

pub later-step : (tags : List (List ℕ)) (k : ℕ) (tag : List ℕ) → Some tag ≡ slice_get tags k → flat_map later_tag (drop k tags) ≡ later_tag tag ++ flat_map later_tag (drop (k + 1) tags)
later-step tags k tag e = rw (drop-get tags k tag (sym e)) refl

pub later-end : (tags : List (List ℕ)) (k : ℕ) → None ≡ slice_get tags k → flat_map later_tag (drop k tags) ≡ []
later-end tags k e = rw (slice_get-all tags k (sym e)) refl

pub tags_text-first : (tags : List (List ℕ)) (first : List ℕ) → Some first ≡ slice_get tags 0 → tags_text tags ≡ first ++ flat_map later_tag (drop 1 tags)
tags_text-first [] first e = cc
tags_text-first (tag ∷ tags) first e =
    let same : tag ≡ first = cc in
    ap (λ (t : List ℕ). t ++ flat_map later_tag tags) same

pub tags_text-none : (tags : List (List ℕ)) → None ≡ slice_get tags 0 → tags_text tags ≡ []
tags_text-none [] e = refl
tags_text-none (tag ∷ tags) e = cc

abbrev pub items : List NameValue → List SdItem
items pairs = filter_map item_of pairs

pub items-step : (pairs : List NameValue) (k : ℕ) (name value : List ℕ) → Some (record { name = name; value = value }) ≡ slice_get pairs k → items (drop k pairs) ≡ cons_option (item_of (record { name = name; value = value })) (items (drop (k + 1) pairs))
items-step pairs k name value e =
    let pair : NameValue = record { name = name; value = value } in
    rw (drop-get pairs k pair (sym e)) refl

pub items-end : (pairs : List NameValue) (k : ℕ) → None ≡ slice_get pairs k → items (drop k pairs) ≡ []
items-end pairs k e = rw (slice_get-all pairs k (sym e)) refl

pub elements-more : (current : Option (List ℕ)) (item : SdItem) (rest : List SdItem) → elements_text current (item ∷ rest) ≡ item_text current item ++ elements_text (Some item.id) rest
elements-more None item rest = refl
elements-more (Some id) item rest = refl

-- a pair that is an item
pub item-more : (current : Option (List ℕ)) (name value : List ℕ) (found : SdName) (out mid new : List ℕ) → Some found ≡ sd_name name → mid ≡ out ++ opening_text current found.id → new ≡ mid ++ param_text found.param value → (rest : List SdItem) → new ++ elements_text (Some found.id) rest ≡ out ++ elements_text current (cons_option (item_of (record { name = name; value = value })) rest)
item-more current name value found out mid new is first second rest =
    let item : SdItem = record { id = found.id; param = found.param; value = value } in
    let whole : List SdItem = cons_option (item_of (record { name = name; value = value })) rest in
    let more : cons_option (item_of (record { name = name; value = value })) rest ≡ item ∷ rest =
    ap (λ (o : Option SdName). cons_option (option_map (λ (f : SdName). record { id = f.id; param = f.param; value = value }) o) rest) (sym is) in
    two_more out mid new (opening_text current found.id) (param_text found.param value) (elements_text (Some found.id) rest) (out ++ elements_text current whole) first second
    (ap (λ (t : List ℕ). out ++ t) (sym (ap (elements_text current) more ∙ elements-more current item rest)))

-- and one that isn't
pub item-passed : (current : Option (List ℕ)) (name value out : List ℕ) → None ≡ sd_name name → (rest : List SdItem) → out ++ elements_text current rest ≡ out ++ elements_text current (cons_option (item_of (record { name = name; value = value })) rest)
item-passed current name value out is rest =
    ap (λ (o : Option SdName). out ++ elements_text current (cons_option (option_map (λ (f : SdName). record { id = f.id; param = f.param; value = value }) o) rest)) is
