-- One turn of the loops over options.
use Rattle.std.proofs.Common.{◌≡◌, ℕ, ◌+◌, ◌<◌, suc, List, [], ◌∷◌, length, drop, get_or, Option, Some, None, refl, ap, sym, ◌∙◌, drop-cons, add-one, append-nil}
use Rattle.sg_parse_expr.specs.declared.tree.Arg.{Arg}
use Rattle.sg_parse_expr.specs.declared.tree.Call.{Call}
use Rattle.sg_fault.specs.declared.placed.Placed.{Placed}
use Rattle.sg_fault.specs.Faults.{earlier, least}
use Rattle.sg_fault.proofs.Least.{least_append, earlier_grouped}
use Rattle.sg_options.specs.Settings.{calls_of, with_call, nested_of}
use Rattle.sg_options.specs.Checks.{faults_of}

-- what is left begins with the item at the index
pub drop_item : {A : Type 0} (xs : List A) (i : ℕ) (x : A) → i < length xs → x ≡ get_or xs i x → drop i xs ≡ x ∷ drop (i + 1) xs
drop_item xs i x h e = rw add-one (drop-cons xs i x h ∙ ap (λ y. y ∷ drop (suc i) xs) (sym e))

-- one more option
pub option_turn : (faults : Call → List Placed) (calls : List Call) (i : ℕ) (call : Call) (found fault : Option Placed)
    → i < length calls → call ≡ get_or calls i call → fault ≡ least (faults call)
    → earlier found (least (faults_of faults (drop i calls))) ≡ earlier (earlier found fault) (least (faults_of faults (drop (i + 1) calls)))
option_turn faults calls i call found fault h e is =
    ap (λ rest. earlier found (least (faults_of faults rest))) (drop_item calls i call h e)
    ∙ ap (earlier found) (least_append (faults call) (faults_of faults (drop (i + 1) calls)))
    ∙ sym (earlier_grouped found (least (faults call)) (least (faults_of faults (drop (i + 1) calls))))
    ∙ ap (λ f. earlier (earlier found f) (least (faults_of faults (drop (i + 1) calls)))) (sym is)

with_call-parts : (faults : Call → List Placed) (option : Option Call) (calls : List Call)
    → least (faults_of faults (with_call option calls)) ≡ earlier (least (faults_of faults (with_call option []))) (least (faults_of faults calls))
with_call-parts faults None calls = refl
with_call-parts faults (Some call) calls =
    least_append (faults call) (faults_of faults calls)
    ∙ ap (λ f. earlier (least f) (least (faults_of faults calls))) (sym (append-nil (faults call)))

-- one more argument
pub argument_turn : (faults : Call → List Placed) (args : List Arg) (i : ℕ) (arg : Arg) (found fault : Option Placed)
    → i < length args → arg ≡ get_or args i arg → fault ≡ least (faults_of faults (calls_of (arg ∷ [])))
    → earlier found (least (faults_of faults (calls_of (drop i args)))) ≡ earlier (earlier found fault) (least (faults_of faults (calls_of (drop (i + 1) args))))
argument_turn faults args i arg found fault h e is =
    ap (λ rest. earlier found (least (faults_of faults (calls_of rest)))) (drop_item args i arg h e)
    ∙ ap (earlier found) (with_call-parts faults (nested_of arg) (calls_of (drop (i + 1) args)))
    ∙ sym (earlier_grouped found (least (faults_of faults (with_call (nested_of arg) []))) (least (faults_of faults (calls_of (drop (i + 1) args)))))
    ∙ ap (λ f. earlier (earlier found f) (least (faults_of faults (calls_of (drop (i + 1) args))))) (sym is)
