-- Names, one statement after another.
use Rattle.std.proofs.Common.{◌≡◌, ◌∙◌, ℕ, ◌+◌, ◌<◌, ◌≤◌, List, [], ◌∷◌, length, get_or, drop, Option, None, Some, refl, sym, ap, arith}
use Rattle.std.proofs.lemmas.List.{drop_more, drop_all}
use Rattle.sg_parse_base.specs.declared.spot.Spot.{Spot}
use Rattle.sg_parse_text.specs.declared.statement.Statement.{Statement}
use Rattle.sg_fault.specs.declared.placed.Placed.{Placed}
use Rattle.sg_fault.specs.Faults.{earlier, least}
use Rattle.sg_fault.proofs.Least.{least_append, earlier_grouped, earlier_none}
use Rattle.sg_names.specs.declared.kind.NameKind.{NameKind}
use Rattle.sg_names.specs.declared.register.Register.{Register}
use Rattle.sg_names.specs.Kinds.{name_of}
use Rattle.sg_names.specs.Registers.{empty_register, entered_if, registered, repeat_if, repeats}

pub registered-on : (kind : NameKind) (r new whole : Register) (xs : List Statement) (i : ℕ) (s : Statement) → i < length xs → s ≡ get_or xs i s → new ≡ entered_if r (name_of kind s) → registered kind r (drop i xs) ≡ whole → registered kind new (drop (i + 1) xs) ≡ whole
registered-on kind r new whole xs i s within item enters so =
    ap (λ x. registered kind x (drop (i + 1) xs)) (enters ∙ ap (λ x. entered_if r (name_of kind x)) item)
    ∙ ap (registered kind r) (sym (drop_more xs i s within)) ∙ so

pub repeats-on : (kind : NameKind) (r new : Register) (first found whole : Option Placed) (xs : List Statement) (i : ℕ) (s : Statement) → i < length xs → s ≡ get_or xs i s → new ≡ entered_if r (name_of kind s) → found ≡ least (repeat_if r (name_of kind s)) → earlier first (least (repeats kind r (drop i xs))) ≡ whole → earlier (earlier first found) (least (repeats kind new (drop (i + 1) xs))) ≡ whole
repeats-on kind r new first found whole xs i s within item enters finds so =
    let here : Statement = get_or xs i s in
    let rest : List Placed = repeats kind (entered_if r (name_of kind here)) (drop (i + 1) xs) in
    ap (λ x. earlier (earlier first found) (least (repeats kind x (drop (i + 1) xs)))) (enters ∙ ap (λ x. entered_if r (name_of kind x)) item)
    ∙ earlier_grouped first found (least rest)
    ∙ ap (λ x. earlier first (earlier x (least rest))) (finds ∙ ap (λ x. least (repeat_if r (name_of kind x))) item)
    ∙ ap (earlier first) (sym (least_append (repeat_if r (name_of kind here)) rest))
    ∙ ap (λ x. earlier first (least (repeats kind r x))) (sym (drop_more xs i s within))
    ∙ so

pub few-on : (r new : Register) (n : ℕ) (name : Option Spot) → new ≡ entered_if r name → r.count ≤ n → new.count ≤ n + 1
few-on r new n None enters few = omega (arith, ap (λ (x : Register). x.count) enters, few)
few-on r new n (Some spot) enters few = omega (arith, ap (λ (x : Register). x.count) enters, few)

pub registered-end : (kind : NameKind) (r whole : Register) (xs : List Statement) (i : ℕ) → length xs ≤ i → registered kind r (drop i xs) ≡ whole → r ≡ whole
registered-end kind r whole xs i past so = ap (registered kind r) (sym (drop_all i xs past)) ∙ so

pub repeats-end : (kind : NameKind) (r : Register) (first whole : Option Placed) (xs : List Statement) (i : ℕ) → length xs ≤ i → earlier first (least (repeats kind r (drop i xs))) ≡ whole → first ≡ whole
repeats-end kind r first whole xs i past so =
    sym (earlier_none first) ∙ ap (λ x. earlier first (least (repeats kind r x))) (sym (drop_all i xs past)) ∙ so
