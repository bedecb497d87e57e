-- The name of a pair tells an element's ID and a parameter's name, where they are of RFC 5424's own form.
use Rattle.std.proofs.Common.{◌≡◌, ℕ, ◌+◌, inl, inr, Bool, true, false, ◌&&◌, not, cond, nat_eq, nat_lt, Some, None, List, [], ◌∷◌, ◌++◌, length, take, drop, codes, refl, sym, ap, subst, ◌∙◌, arith, append_assoc, append-nil, length-append}
use Rattle.std.specs.List.{AllPass, list_all, prefix_len}
use Rattle.std.proofs.Math.Seq.{take-append_seam, drop-append_seam, drop-append-add}
use Rattle.std.proofs.lemmas.Bool.{true≢false, eqb-true, eq-eqb, ne_eqb, not-true}
use Rattle.std.proofs.lemmas.Bool.Decides.{nat_tests}
use Rattle.std.proofs.lemmas.List.Elements.{All-cons, All-head, All-tail}
use Rattle.std.proofs.lemmas.List.Sums.{list_all-from_AllPass, AllPass-from_list_all}
use Rattle.std.proofs.lemmas.List.Folds.{list_all-append}
use Rattle.sg_msg.specs.Sets.{is_sd_byte}
use Rattle.sg_template.specs.Elements.{SdName, is_sd_name, is_param_name, is_no_dot, is_no_at, begins_with_digit, before_dot, id_length, split_name, checked, sd_name}
use Rattle.sg_r5424.specs.Data.{Param}
use Rattle.sg_r5424.specs.Data.{IsSdName, Params, element_name, param_name}
use Rattle.sg_r5424.specs.Data.Params.{closed, more}
use Rattle.sg_r5424.specs.OwnForm.{SdElement, IsToldElement, HasDigitsBehindDots}
use Rattle.sg_r5424.proofs.RunLemmas.{run_len}
use Rattle.sg_r5424.proofs.DataAgain.{split_by}

same_number : (n : ℕ) → nat_eq n n ≡ true
same_number n = eq-eqb n n refl

all_over : (passes : ℕ → Bool) (xs ys : List ℕ) → AllPass passes xs → AllPass passes ys → AllPass passes (xs ++ ys)
all_over passes xs ys first second =
    AllPass-from_list_all passes (xs ++ ys) (list_all-append passes xs ys ∙ rw (list_all-from_AllPass passes xs first, list_all-from_AllPass passes ys second) refl)

run_all : (passes : ℕ → Bool) (xs : List ℕ) → AllPass passes xs → prefix_len passes xs ≡ length xs
run_all passes xs all = ap (prefix_len passes) (sym (append-nil xs)) ∙ run_len passes xs [] all tt

-- the dots of a number aren't the one that parts
no_test : (b : ℕ) (digit test : Bool) → nat_eq b 46 ≡ test → (b ≡ 46 → digit ≡ true) → test && not digit ≡ false
no_test b digit true e dots = ap not (dots (eqb-true b 46 e))
no_test b digit false e dots = refl

not_cut : (b : ℕ) (text : List ℕ) → (b ≡ 46 → begins_with_digit text ≡ true) → before_dot (b ∷ text) ≡ before_dot text + 1
not_cut b text dots = ap (λ (t : Bool). cond t 0 (before_dot text + 1)) (no_test b (begins_with_digit text) (nat_eq b 46) refl dots)

digit_front : (text rest : List ℕ) → begins_with_digit text ≡ true → begins_with_digit (text ++ rest) ≡ true
digit_front [] rest e = absurd (true≢false (sym e))
digit_front (b ∷ text) rest e = e

no_cut : (number : List ℕ) → HasDigitsBehindDots number → before_dot number ≡ length number
no_cut [] dots = refl
no_cut (b ∷ number) dots = not_cut b number dots.0 ∙ (let rest = no_cut number dots.1 in omega (arith, rest))

cut_at : (number name : List ℕ) → HasDigitsBehindDots number → begins_with_digit name ≡ false → before_dot (number ++ 46 ∷ name) ≡ length number
cut_at [] name dots e = ap (λ (t : Bool). cond (not t) 0 (before_dot name + 1)) e
cut_at (b ∷ number) name dots e =
    not_cut b (number ++ 46 ∷ name) (λ dot. digit_front number (46 ∷ name) (dots.0 dot))
    ∙ (let rest = cut_at number name dots.1 e in omega (arith, rest))

-- the length of an ID without an `@`, and of one with it
abbrev length_by : List ℕ → ℕ → Bool → ℕ
length_by text at test = cond test (prefix_len is_no_dot text) (at + before_dot (drop at text))

without_at : (text : List ℕ) → AllPass is_no_at text → id_length text ≡ prefix_len is_no_dot text
without_at text all =
    ap (λ (k : ℕ). length_by text k (nat_eq k (length text))) (run_all is_no_at text all)
    ∙ ap (length_by text (length text)) (same_number (length text))

with_at : (name behind : List ℕ) → AllPass is_no_at name → id_length (name ++ 64 ∷ behind) ≡ length name + (before_dot behind + 1)
with_at name behind all =
    let text : List ℕ = name ++ 64 ∷ behind in
    let size = length-append name (64 ∷ behind) in
    let differ : nat_eq (length name) (length text) ≡ false = ne_eqb (length name) (length text) (λ e. omega (arith, e, size)) in
    ap (λ (k : ℕ). length_by text k (nat_eq k (length text))) (run_len is_no_at name (64 ∷ behind) all refl)
    ∙ (ap (length_by text (length name)) differ
    ∙ ap (λ (t : List ℕ). length name + before_dot t) (drop-append_seam name (64 ∷ behind)))

-- an ID alone isn't split, and one with a parameter's name behind it is, between them
abbrev pub AreNamesSplit : List ℕ → List Param → Type 0
AreNamesSplit id [] = Unit {0}
AreNamesSplit id (param ∷ params) = (id_length (id ++ 46 ∷ param.name) ≡ length id) × AreNamesSplit id params

pub record IsNameSplit (element : SdElement) : Type 0 where
  pub alone : id_length element.id ≡ length element.id
  pub params : AreNamesSplit element.id element.params

registered_alone : (id : List ℕ) → AllPass is_no_at id → AllPass is_no_dot id → id_length id ≡ length id
registered_alone id at dot = without_at id at ∙ run_all is_no_dot id dot

registered_two : (id name : List ℕ) → AllPass is_no_at id → AllPass is_no_dot id → list_all is_no_at name ≡ true → id_length (id ++ 46 ∷ name) ≡ length id
registered_two id name at dot none =
    let behind : AllPass is_no_at (46 ∷ name) = All-cons (λ b. is_no_at b ≡ true) 46 name refl (AllPass-from_list_all is_no_at name none) in
    without_at (id ++ 46 ∷ name) (all_over is_no_at id (46 ∷ name) at behind) ∙ run_len is_no_dot id (46 ∷ name) dot refl

registered_params : (id : List ℕ) (params : List Param) → AllPass is_no_at id → AllPass is_no_dot id → AllPass (λ param. list_all is_no_at param.name) params → AreNamesSplit id params
registered_params id [] at dot all = tt
registered_params id (param ∷ params) at dot all =
    let test : Param → Type 0 = λ x. list_all is_no_at x.name ≡ true in
    (registered_two id param.name at dot (All-head test param params all), registered_params id params at dot (All-tail test param params all))

private_alone : (name number : List ℕ) → AllPass is_no_at name → HasDigitsBehindDots number → id_length (name ++ 64 ∷ number) ≡ length (name ++ 64 ∷ number)
private_alone name number at dots =
    let rest = no_cut number dots in
    let size = length-append name (64 ∷ number) in
    with_at name number at ∙ omega (arith, rest, size)

private_two : (name number param : List ℕ) → AllPass is_no_at name → HasDigitsBehindDots number → begins_with_digit param ≡ false → id_length ((name ++ 64 ∷ number) ++ 46 ∷ param) ≡ length (name ++ 64 ∷ number)
private_two name number param at dots digit =
    let rest = cut_at number param dots digit in
    let size = length-append name (64 ∷ number) in
    ap id_length (append_assoc name (64 ∷ number) (46 ∷ param)) ∙ (with_at name (number ++ 46 ∷ param) at ∙ omega (arith, rest, size))

private_params : (name number : List ℕ) (params : List Param) → AllPass is_no_at name → HasDigitsBehindDots number → AllPass (λ param. not (begins_with_digit param.name)) params → AreNamesSplit (name ++ 64 ∷ number) params
private_params name number [] at dots all = tt
private_params name number (param ∷ params) at dots all =
    let test : Param → Type 0 = λ x. not (begins_with_digit x.name) ≡ true in (
      private_two name number param.name at dots (not-true (begins_with_digit param.name) (All-head test param params all)),
      private_params name number params at dots (All-tail test param params all),
    )

split_by_id : (id other : List ℕ) (params : List Param) → id ≡ other → (id_length other ≡ length other) × AreNamesSplit other params → IsNameSplit (record { id = id; params = params })
split_by_id id other params e both =
    let here = subst (λ (x : List ℕ). (id_length x ≡ length x) × AreNamesSplit x params) (sym e) both in
    record { alone = here.0; params = here.1 }

pub told : (element : SdElement) → IsToldElement element → IsNameSplit element
told element (inl is) = record { alone = registered_alone element.id is.no_at is.no_dot; params = registered_params element.id element.params is.no_at is.no_dot is.names }
told element (inr is) =
    split_by_id element.id (is.name ++ 64 ∷ is.number) element.params is.is_id
    (private_alone is.name is.number is.no_at is.dots, private_params is.name is.number element.params is.no_at is.dots is.names)

-- what the names of pairs say
split_alone : (id : List ℕ) → id_length id ≡ length id → split_name id ≡ record { id = id; param = None }
split_alone id e =
    ap (λ (k : ℕ). split_by id k (nat_eq k (length id))) e ∙ ap (split_by id (length id)) (same_number (length id))

split_two : (id name : List ℕ) → id_length (id ++ 46 ∷ name) ≡ length id → split_name (id ++ 46 ∷ name) ≡ record { id = id; param = Some name }
split_two id name e =
    let text : List ℕ = id ++ 46 ∷ name in
    let size = length-append id (46 ∷ name) in
    let differ : nat_eq (length id) (length text) ≡ false = ne_eqb (length id) (length text) (λ e. omega (arith, e, size)) in
    let front : SdName = record { id = take (length id) text; param = Some (drop (length id + 1) text) } in
    let both : front ≡ record { id = id; param = Some name } =
    ap (λ (i : List ℕ). record { id = i; param = Some (drop (length id + 1) text) }) (take-append_seam id (46 ∷ name))
    ∙ ap (λ (n : List ℕ). record { id = id; param = Some n }) (drop-append-add id (46 ∷ name) 1) in
    ap (λ (k : ℕ). split_by text k (nat_eq k (length text))) e ∙ (ap (split_by text (length id)) differ ∙ both)

checked_good : (found : SdName) → is_sd_name found.id ≡ true → is_param_name found.param ≡ true → checked found ≡ Some found
checked_good found id param = rw (id, param) refl

pub named_alone : (id : List ℕ) → is_sd_name id ≡ true → id_length id ≡ length id → sd_name (element_name id) ≡ Some (record { id = id; param = None })
unfolding sd_name
named_alone id good e = ap checked (split_alone id e) ∙ checked_good (record { id = id; param = None }) good refl

pub named_two : (id name : List ℕ) → is_sd_name id ≡ true → is_sd_name name ≡ true → id_length (id ++ 46 ∷ name) ≡ length id → sd_name (param_name id name) ≡ Some (record { id = id; param = Some name })
unfolding sd_name
named_two id name good also e =
    ap (λ (t : List ℕ). checked (split_name t)) (append_assoc id (codes ".") name)
    ∙ (ap checked (split_two id name e) ∙ checked_good (record { id = id; param = Some name }) good also)

-- names that were read are of the grammar
pub good_name : (text name rest : List ℕ) → IsSdName text name rest → is_sd_name name ≡ true
good_name text name rest is =
    let some = is.some in
    let most = is.most in
    let not_none : nat_eq (length name) 0 ≡ false = ne_eqb (length name) 0 (λ e. omega (arith, e, some)) in
    let not_long : nat_lt 32 (length name) ≡ false = grind (arith, nat_tests) in
    rw (not_none, not_long, list_all-from_AllPass is_sd_byte name is.named) refl

abbrev pub AreGood : List Param → Type 0
AreGood [] = Unit {0}
AreGood (param ∷ params) = (is_sd_name param.name ≡ true) × AreGood params

pub params_good : (text : List ℕ) (params : List Param) (rest : List ℕ) → Params text params rest → AreGood params
params_good _ _ _ (closed rest) = tt
params_good _ _ _ (more text middle rest param params first behind) =
    (good_name first.behind param.name (61 ∷ 34 ∷ first.quoted) first.name, params_good middle params rest behind)
