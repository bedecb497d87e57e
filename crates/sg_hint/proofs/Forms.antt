-- Hints are printable, and aren't long.
use Rattle.std.proofs.Common.{◌≡◌, ◌≤◌, ◌<◌, ◌+◌, ◌^◌, ◌-◌, ◌∙◌, ◌++◌, refl, sym, ap, subst, arith, min, nat_le, true, ℕ, List, [], length, map, take, drop, replicate, codes, decimal, Option, Some, None, IfSome}
use Rattle.std.specs.List.{list_all}
use Rattle.std.proofs.lemmas.Grind.{common_steps}
use Rattle.std.proofs.lemmas.List.{length-take}
use Rattle.sg_lex.specs.declared.fault.ConfigFault.{ConfigFault}
use Rattle.sg_lex.specs.declared.fault.ConfigKind.{ConfigKind}
use Rattle.sg_lex.specs.declared.fault.ConfigKind.TheVariants.{OpenString}
use Rattle.sg_report.specs.Fault.{kind_text_of, name_at}
use Rattle.sg_hint.specs.Shown.{is_told, shown_byte, IsTellable}
use Rattle.sg_hint.specs.Text.{place_text, kind_line, hidden_before, shown_part, excerpt, suggestion, caret, marked, behind_place, hint_text}
use Rattle.sg_hint.specs.Hint.{HasHintForm}
use Rattle.sg_hint.specs.declared.written.Spotted.{Spotted}
use Rattle.sg_hint.proofs.Plain.{told-both, told-bytes, told-blanks, told-decimal, told-more, bytes-told}
use Rattle.sg_hint.proofs.Briefs.{IsShortText}
use Rattle.sg_hint.proofs.Spots.{IsBrief}

kind-plain : (kind : ConfigKind) → list_all is_told (kind_text_of kind) ≡ true
kind-plain OpenString = refl
kind-plain _ = refl

kind-fits : (kind : ConfigKind) → nat_le (length (kind_text_of kind)) 30 ≡ true
kind-fits OpenString = refl
kind-fits _ = refl

told-kind : (fault : ConfigFault) → IsTellable 33 (kind_line fault)
told-kind fault = told-both (codes ": ") (kind_text_of fault.kind ++ codes "\n") 2 31 33 (refl, omega arith)
    (told-both (kind_text_of fault.kind) (codes "\n") 30 1 31
    (kind-plain fault.kind, (let fits = kind-fits fault.kind in grind (arith, common_steps, fits))) (refl, omega arith) (omega arith)) (omega arith)

told-excerpt : (line : List ℕ) (hidden : ℕ) → IsTellable 125 (excerpt line hidden)
told-excerpt line hidden = told-both (codes "    ") (map shown_byte (shown_part line hidden) ++ codes "\n") 4 121 125 (refl, omega arith)
    (told-both (map shown_byte (shown_part line hidden)) (codes "\n") 120 1 121
    (told-bytes (shown_part line hidden) 120 (let most = length-take 120 (drop hidden line) in omega (arith, most)))
    (refl, omega arith) (omega arith)) (omega arith)

told-suggestion : (meant : Option (List ℕ)) → IsShortText meant → IsTellable 81 (suggestion meant)
told-suggestion None short = (refl, omega arith)
told-suggestion (Some name) short = told-both (codes " did you mean `") (map shown_byte name ++ codes "`?") 15 66 81 (refl, omega arith)
    (told-both (map shown_byte name) (codes "`?") 64 2 66 (told-bytes name 64 short) (refl, omega arith) (omega arith)) (omega arith)

told-caret : (before : ℕ) (meant : Option (List ℕ)) → IsShortText meant → IsTellable 207 (caret before meant)
told-caret before meant short = told-both (codes "    ") (replicate (min before 120) 32 ++ (codes "^" ++ (suggestion meant ++ codes "\n"))) 4 203 207 (refl, omega arith)
    (told-both (replicate (min before 120) 32) (codes "^" ++ (suggestion meant ++ codes "\n")) 120 83 203
    (told-blanks (min before 120) 120 (omega arith))
    (told-both (codes "^") (suggestion meant ++ codes "\n") 1 82 83 (refl, omega arith)
    (told-both (suggestion meant) (codes "\n") 81 1 82 (told-suggestion meant short) (refl, omega arith) (omega arith)) (omega arith))
    (omega arith)) (omega arith)

told-marked : (line : List ℕ) (at : ℕ) (meant : Option (List ℕ)) → IsShortText meant → IsTellable 332 (marked line at meant)
told-marked line at meant short = told-both (excerpt line (hidden_before (length line) at)) (caret (at - hidden_before (length line) at) meant)
    125 207 332 (told-excerpt line _) (told-caret _ meant short) (omega arith)

told-number : (number : ℕ) → number < 2 ^ 32 → IsTellable 11 (codes ":" ++ decimal number)
told-number number small = told-both (codes ":") (decimal number) 1 10 11 (refl, omega arith) (told-decimal number small) (omega arith)

told-behind : (fault : ConfigFault) (line : List ℕ) (spotted : Option Spotted) → IfSome spotted (λ token. token.column < 2 ^ 32)
    → IsBrief spotted → IsTellable 400 (behind_place fault line spotted)
told-behind fault line None small brief = told-both (kind_line fault) (excerpt line 0) 33 125 400 (told-kind fault) (told-excerpt line 0) (omega arith)
told-behind fault line (Some token) small brief =
    told-both (codes ":" ++ decimal token.column) (kind_line fault ++ marked line (token.column - 1) token.meant) 11 365 400
    (told-number token.column small)
    (told-both (kind_line fault) (marked line (token.column - 1) token.meant) 33 332 365 (told-kind fault)
    (told-marked line (token.column - 1) token.meant brief) (omega arith)) (omega arith)

told-place : (fault : ConfigFault) (names : List (List ℕ)) → fault.line < 2 ^ 32
    → IsTellable (length (name_at names fault.file) + 11) (place_text fault names)
told-place fault names small = told-both (map shown_byte (name_at names fault.file)) (codes ":" ++ decimal fault.line)
    (length (name_at names fault.file)) 11 _ (told-bytes (name_at names fault.file) _ (omega arith)) (told-number fault.line small) (omega arith)

pub has-form : (fault : ConfigFault) (names : List (List ℕ)) (line text : List ℕ) (spotted : Option Spotted) → fault.line < 2 ^ 32
    → IfSome spotted (λ token. token.column < 2 ^ 32) → IsBrief spotted → text ≡ hint_text fault names line spotted
    → HasHintForm fault names text
has-form fault names line text spotted small columns brief is =
    let rest = told-behind fault line spotted columns brief in
    let place = told-place fault names small in
    let all = told-both (place_text fault names) (behind_place fault line spotted) (length (name_at names fault.file) + 11) 400
    (length (name_at names fault.file) + 411) place rest (omega arith) in
    record {
      begins = (behind_place fault line spotted, (is, rest.1));
      plain = subst (λ bytes. list_all is_told bytes ≡ true) (sym is) all.0;
    }
