-- Arguments one after the other.
use Rattle.std.proofs.Common.{◌≡◌, ℕ, zero, suc, ◌+◌, ◌≤◌, Bool, true, false, cond, ◌||◌, not, List, [], ◌∷◌, ◌++◌, length, take, drop, Option, Some, is_some, refl, ap, sym, ◌∙◌, arith, subst, append_assoc}
use Rattle.std.specs.Str.{bytes_eq}
use Rattle.std.specs.Ordering.{eq_by_cmp}
use Rattle.std.specs.Cmp.Lexicographic.{nat_list_cmp_total}
use Rattle.std.specs.FinMap.{FinMap, get, insert, empty, contains_key, get-insert, get-empty}
use Rattle.std.proofs.lemmas.Map.Text.{is_eq-slice_cmp}
use Rattle.std.proofs.lemmas.List.{length-append}
use Rattle.sg_block.specs.declared.argument.Argument.{Argument}
use Rattle.sg_block.specs.Arguments.{HasNames, AddsName, has_name, lacks, is_missing, is_unknown, last_named, defaults}
use Rattle.sg_block.proofs.Names.{names_cmp}
use Rattle.sg_list.proofs.ListLemmas.{drop-front}

pub names-none : HasNames empty []
names-none name = ap is_some (get-empty {X = Bool} names_cmp name)

or-else : (b : Bool) (o : Option Bool) → is_some (cond b (Some true) o) ≡ (b || is_some o)
or-else true o = refl
or-else false o = refl

pub names-more : (names : FinMap names_cmp Bool) (argument : Argument) (others : List Argument) → HasNames names others → HasNames (insert names argument.name true) (argument ∷ others)
names-more names argument others h name =
    ap is_some (get-insert nat_list_cmp_total names argument.name true name)
    ∙ or-else (eq_by_cmp names_cmp name argument.name) (get names name)
    ∙ ap (λ (b : Bool). b || contains_key names name) (is_eq-slice_cmp name argument.name)
    ∙ ap (λ (b : Bool). bytes_eq name argument.name || b) (h name)

-- the place of an argument, one step on
pub last_named-known : (argument : Argument) (others : List Argument) → has_name argument.name others ≡ true → last_named others ≡ last_named (argument ∷ others)
last_named-known argument others h = ap (λ (b : Bool). cond b (last_named others) (argument ∷ last_named others)) (sym h)

pub last_named-new : (argument : Argument) (others : List Argument) → has_name argument.name others ≡ false → argument ∷ last_named others ≡ last_named (argument ∷ others)
last_named-new argument others h = ap (λ (b : Bool). cond b (last_named others) (argument ∷ last_named others)) (sym h)

pub is_missing-more : (parameter : Argument) (others given : List Argument) → lacks parameter given ≡ false → is_missing (parameter ∷ others) given ≡ is_missing others given
is_missing-more parameter others given h = ap (λ (b : Bool). b || is_missing others given) h

pub is_missing-here : (parameter : Argument) (others given : List Argument) → lacks parameter given ≡ true → is_missing (parameter ∷ others) given ≡ true
is_missing-here parameter others given h = ap (λ (b : Bool). b || is_missing others given) h

pub is_unknown-more : (parameters : List Argument) (argument : Argument) (others : List Argument) → has_name argument.name parameters ≡ true → is_unknown parameters (argument ∷ others) ≡ is_unknown parameters others
is_unknown-more parameters argument others h = ap (λ (b : Bool). not b || is_unknown parameters others) h

pub is_unknown-here : (parameters : List Argument) (argument : Argument) (others : List Argument) → has_name argument.name parameters ≡ false → is_unknown parameters (argument ∷ others) ≡ true
is_unknown-here parameters argument others h = ap (λ (b : Bool). not b || is_unknown parameters others) h

pub defaults-known : (parameter : Argument) (others given : List Argument) → has_name parameter.name given ≡ true → defaults (parameter ∷ others) given ≡ defaults others given
defaults-known parameter others given h = ap (λ (b : Bool). cond b (defaults others given) (parameter ∷ defaults others given)) h

pub defaults-new : (parameter : Argument) (others given : List Argument) → has_name parameter.name given ≡ false → defaults (parameter ∷ others) given ≡ parameter ∷ defaults others given
defaults-new parameter others given h = ap (λ (b : Bool). cond b (defaults others given) (parameter ∷ defaults others given)) h

pub last_named-step : (argument : Argument) (others : List Argument) (known : Bool) (old new : List Argument) → new ≡ cond known old (argument ∷ old) → old ≡ last_named others → known ≡ has_name argument.name others → new ≡ last_named (argument ∷ others)
last_named-step argument others known old new is kept same =
    is ∙ ap (λ (b : Bool). cond b old (argument ∷ old)) same ∙ ap (λ (xs : List Argument). cond (has_name argument.name others) xs (argument ∷ xs)) kept

default-by : (b : Bool) (parameter : Argument) (rest left : List Argument) → left ++ cond b rest (parameter ∷ rest) ≡ cond b left (left ++ parameter ∷ []) ++ rest
default-by true parameter rest left = refl
default-by false parameter rest left = sym (append_assoc left (parameter ∷ []) rest)

pub defaults-step : (parameter : Argument) (rest given : List Argument) (known : Bool) (left new : List Argument) → new ≡ cond known left (left ++ parameter ∷ []) → known ≡ has_name parameter.name given → left ++ defaults (parameter ∷ rest) given ≡ new ++ defaults rest given
defaults-step parameter rest given known left new is same =
    default-by (has_name parameter.name given) parameter (defaults rest given) left
    ∙ ap (λ (xs : List Argument). xs ++ defaults rest given) (sym (is ∙ ap (λ (b : Bool). cond b left (left ++ parameter ∷ [])) same))

-- what a list is, once its last is taken off
take-front : {A : Type 0} (xs ys : List A) → take (length xs) (xs ++ ys) ≡ xs
take-front [] ys = refl
take-front (x ∷ xs) ys = ap (λ zs. x ∷ zs) (take-front xs ys)

whole : {A : Type 0} (n : ℕ) (xs : List A) → xs ≡ take n xs ++ drop n xs
whole zero xs = refl
whole (suc n) [] = refl
whole (suc n) (x ∷ xs) = ap (λ zs. x ∷ zs) (whole n xs)

pub popped : {A : Type 0} (all old new : List A) (x : A) → old ≡ take (length old) all → length old ≤ length all → old ≡ new ++ x ∷ [] → (new ≡ take (length new) all) × (length new ≤ length all) × (length old ≡ length new + 1) × (drop (length new) all ≡ x ∷ drop (length old) all)
popped all old new x left within is =
    let size : length old ≡ length new + 1 = ap length is ∙ length-append new (x ∷ []) in
    let split : all ≡ new ++ x ∷ drop (length old) all = whole (length old) all ∙ ap (λ zs. zs ++ drop (length old) all) (sym left ∙ is) ∙ append_assoc new (x ∷ []) (drop (length old) all) in
    (sym (ap (take (length new)) split ∙ take-front new (x ∷ drop (length old) all)), omega arith, size, ap (drop (length new)) split ∙ drop-front new (x ∷ drop (length old) all))

pub all-taken : {A : Type 0} (xs : List A) → xs ≡ take (length xs) xs
all-taken [] = refl
all-taken (x ∷ xs) = ap (λ zs. x ∷ zs) (all-taken xs)

pub all-dropped : {A : Type 0} (xs : List A) → drop (length xs) xs ≡ []
all-dropped [] = refl
all-dropped (x ∷ xs) = all-dropped xs

-- the names of the arguments from a place on
pub names-step : (old new : FinMap names_cmp Bool) (argument : Argument) (all : List Argument) (place next : ℕ) → AddsName old new argument → HasNames old (drop next all) → drop place all ≡ argument ∷ drop next all → HasNames new (drop place all)
names-step old new argument all place next adds h is =
    subst (λ (xs : List Argument). HasNames new xs) (sym is) (subst (λ (m : FinMap names_cmp Bool). HasNames m (argument ∷ drop next all)) (sym adds) (names-more old argument (drop next all) h))

pub names-start : (all : List Argument) (names : FinMap names_cmp Bool) → names ≡ empty → HasNames names (drop (length all) all)
names-start all names is = subst (λ (m : FinMap names_cmp Bool). HasNames m (drop (length all) all)) (sym is) (subst (λ (xs : List Argument). HasNames empty xs) (sym (all-dropped all)) names-none)
