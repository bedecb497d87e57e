-- Reading a text part by part.
use Rattle.std.proofs.Common.{◌≡◌, ℕ, zero, suc, ◌-◌, ◌<◌, List, [], ◌∷◌, ◌++◌, drop, length, refl, ap, ◌∙◌, sym, arith, Result, Ok, Err}
use Rattle.std.proofs.lemmas.List.{append-nil, append_assoc}
use Rattle.sg_macro.specs.declared.part.TemplatePart.{TemplatePart}
use Rattle.sg_macro.specs.declared.cut.CutPart.{CutPart}
use Rattle.sg_macro.specs.declared.fault.TemplateFault.{TemplateFault}
use Rattle.sg_macro.specs.declared.fault.TemplateFault.TheVariants.{OpenBrace, Function, NoMemory}
use Rattle.sg_macro.specs.Reading.{first_cut, with_cut, parts_behind, parts_of, RefusesTemplate}

-- the parts behind these
abbrev pub ahead : List TemplatePart → Result (List TemplatePart) TemplateFault → Result (List TemplatePart) TemplateFault
ahead before (Ok parts) = Ok (before ++ parts)
ahead before (Err fault) = Err fault

pub ahead-none : (reading : Result (List TemplatePart) TemplateFault) → reading ≡ ahead [] reading
ahead-none (Ok parts) = refl
ahead-none (Err fault) = refl

-- what is passed over is no part
pub parts_behind-drop : (skip : ℕ) (text : List ℕ) → parts_behind skip text ≡ parts_behind 0 (drop skip text)
parts_behind-drop zero [] = refl
parts_behind-drop zero (b ∷ bytes) = refl
parts_behind-drop (suc skip) [] = refl
parts_behind-drop (suc skip) (b ∷ bytes) = parts_behind-drop skip bytes

drop-positive : (n : ℕ) (b : ℕ) (bytes : List ℕ) → 0 < n → drop n (b ∷ bytes) ≡ drop (n - 1) bytes
drop-positive zero b bytes h = absurd (omega arith)
drop-positive (suc n) b bytes h = ap (λ (k : ℕ). drop k bytes) (omega arith)

pub parts_behind-first : (text : List ℕ) (found : CutPart) → 0 < length text → first_cut text ≡ Ok found → 0 < found.len → parts_behind 0 text ≡ with_cut (Ok found) (parts_behind 0 (drop found.len text))
parts_behind-first [] found some is positive = absurd (omega arith)
parts_behind-first (b ∷ bytes) found some is positive =
    rw is (ap (with_cut (Ok found)) (parts_behind-drop (found.len - 1) bytes ∙ ap (parts_behind 0) (sym (drop-positive found.len b bytes positive))))

pub parts_behind-fault : (text : List ℕ) (fault : TemplateFault) → 0 < length text → first_cut text ≡ Err fault → parts_behind 0 text ≡ Err fault
parts_behind-fault [] fault some is = absurd (omega arith)
parts_behind-fault (b ∷ bytes) fault some is = rw is refl

pub ahead-with_cut : (before : List TemplatePart) (found : CutPart) (reading : Result (List TemplatePart) TemplateFault) → ahead before (with_cut (Ok found) reading) ≡ ahead (before ++ found.part ∷ []) reading
ahead-with_cut before found (Ok parts) = ap Ok (sym (append_assoc before (found.part ∷ []) parts))
ahead-with_cut before found (Err fault) = refl

-- one part more
pub ahead-more : (text rest : List ℕ) (parts : List TemplatePart) (found : CutPart) → 0 < length rest → first_cut rest ≡ Ok found → 0 < found.len → parts_behind 0 text ≡ ahead parts (parts_behind 0 rest) → parts_behind 0 text ≡ ahead (parts ++ found.part ∷ []) (parts_behind 0 (drop found.len rest))
ahead-more text rest parts found some is positive so_far =
    so_far ∙ (ap (ahead parts) (parts_behind-first rest found some is positive) ∙ ahead-with_cut parts found (parts_behind 0 (drop found.len rest)))

pub ahead-all : (text : List ℕ) (parts : List TemplatePart) → parts_behind 0 text ≡ ahead parts (parts_behind 0 []) → parts_of text ≡ Ok parts
unfolding parts_of
ahead-all text parts so_far = so_far ∙ ap Ok (append-nil parts)

pub ahead-fault : (text rest : List ℕ) (parts : List TemplatePart) (fault : TemplateFault) → 0 < length rest → parts_behind 0 text ≡ ahead parts (parts_behind 0 rest) → RefusesTemplate (first_cut rest) fault → RefusesTemplate (parts_of text) fault
unfolding parts_of
ahead-fault text rest parts NoMemory some so_far is = tt
ahead-fault text rest parts OpenBrace some so_far is = so_far ∙ ap (ahead parts) (parts_behind-fault rest OpenBrace some is)
ahead-fault text rest parts Function some so_far is = so_far ∙ ap (ahead parts) (parts_behind-fault rest Function some is)
