-- Looking up a row of a table of names.
use Rattle.std.proofs.Common.{◌≡◌, ℕ, ◌+◌, ◌<◌, List, ◌∷◌, map, drop, length, get_or, cond, sym, ap, ◌∙◌, Some, Bor}
use Rattle.std.specs.Prelude.{bytes_eq}
use Rattle.std.proofs.lemmas.List.{at_drop_more}
use Rattle.sg_macro.specs.declared.macros.Macro.{Macro}
use Rattle.sg_macro.specs.Macros.{row_of}

abbrev pub row_view : (Bor (List ℕ) × Macro) → (List ℕ × Macro)
row_view row = (row.0.now, row.1)

-- the row at a place decides, or those behind it do
pub row_of-step : (name : List ℕ) (rows : List (Bor (List ℕ) × Macro)) (place : ℕ) (row : Bor (List ℕ) × Macro) → place < length rows → row ≡ get_or rows place row → row_of name (map row_view (drop place rows)) ≡ cond (bytes_eq row.0.now name) (Some row.1) (row_of name (map row_view (drop (place + 1) rows)))
row_of-step name rows place row within is =
    at_drop_more (λ (rest : List (Bor (List ℕ) × Macro)). row_of name (map row_view rest)) rows place row within
    ∙ ap (λ (first : Bor (List ℕ) × Macro). row_of name (map row_view (first ∷ drop (place + 1) rows))) (sym is)
