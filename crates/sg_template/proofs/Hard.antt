-- The names of macros are the hard names.
use Rattle.std.proofs.Common.{◌≡◌, ℕ, Bool, true, false, ◌||◌, List, [], ◌∷◌, ◌++◌, map, codes, bytes_eq, refl, ap, ◌∙◌, Option, Some, is_some, cond}
use Rattle.std.specs.List.{list_any}
use Rattle.std.proofs.lemmas.List.Folds.{list_any-append}
use Rattle.sg_msg.specs.Macros.{is_hard, is_any, date_macros, other_macros}
use Rattle.sg_macro.specs.declared.macros.Macro.{Macro}
use Rattle.sg_macro.specs.Macros.{macros, macro_of, row_of}

abbrev pub has_name : List ℕ → List ℕ → Bool
has_name name listed = bytes_eq listed name

is_some-cond : (b : Bool) (kind : Macro) (rest : Option Macro) → is_some (cond b (Some kind) rest) ≡ (b || is_some rest)
is_some-cond true kind rest = refl
is_some-cond false kind rest = refl

-- a row is found where one has the name
is_some-row_of : (name : List ℕ) (rows : List (List ℕ × Macro)) → is_some (row_of name rows) ≡ list_any (has_name name) (map (λ (row : List ℕ × Macro). row.0) rows)
is_some-row_of name [] = refl
is_some-row_of name (row ∷ rows) =
    is_some-cond (bytes_eq row.0 name) row.1 (row_of name rows) ∙ ap (λ (b : Bool). bytes_eq row.0 name || b) (is_some-row_of name rows)

-- a test of names behind a prefix
any-prefixed : (prefix name : List ℕ) (dates : List (List ℕ)) → list_any (has_name name) (map (λ (date : List ℕ). prefix ++ date) dates) ≡ list_any (λ (date : List ℕ). bytes_eq (prefix ++ date) name) dates
any-prefixed prefix name [] = refl
any-prefixed prefix name (date ∷ dates) = ap (λ (b : Bool). bytes_eq (prefix ++ date) name || b) (any-prefixed prefix name dates)

-- the names of the table, in its order
names : map (λ (row : List ℕ × Macro). row.0) macros ≡ other_macros ++ (date_macros ++ (map (λ (date : List ℕ). codes "S_" ++ date) date_macros ++ map (λ (date : List ℕ). codes "R_" ++ date) date_macros))
unfolding macros other_macros date_macros
names = refl

pub macro_of-is_hard : (name : List ℕ) → is_some (macro_of name) ≡ is_hard name
unfolding macro_of is_hard
macro_of-is_hard name =
    let sent = map (λ (date : List ℕ). codes "S_" ++ date) date_macros in
    let received = map (λ (date : List ℕ). codes "R_" ++ date) date_macros in
    is_some-row_of name macros
    ∙ (ap (list_any (has_name name)) names
    ∙ (list_any-append (has_name name) other_macros (date_macros ++ (sent ++ received))
    ∙ ap (λ (b : Bool). is_any other_macros name || b)
    (list_any-append (has_name name) date_macros (sent ++ received)
    ∙ ap (λ (b : Bool). is_any date_macros name || b)
    (list_any-append (has_name name) sent received
    ∙ (ap (λ (b : Bool). b || list_any (has_name name) received) (any-prefixed (codes "S_") name date_macros)
    ∙ ap (λ (b : Bool). list_any (λ (date : List ℕ). bytes_eq (codes "S_" ++ date) name) date_macros || b) (any-prefixed (codes "R_") name date_macros))))))
