use Rattle.std.proofs.Common.{◌≡◌, ◌∙◌, ◌++◌, ap, append_assoc, map, ℕ, List}
use Rattle.sg_hint.specs.Shown.{shown_byte}
use Rattle.sg_hint.proofs.written.append_name.Goals as goal

-- three texts behind one another
behind-three : (out one two three a b c : List ℕ) → one ≡ out ++ a → two ≡ one ++ b → three ≡ two ++ c
    → three ≡ out ++ (a ++ (b ++ c))
behind-three out one two three a b c h i j = rw (← append_assoc, ← append_assoc) (cc)

pub returns : goal.returns
returns c = behind-three _ _ _ _ _ _ _ c.in_ok-append_text.ensures
    (c.in_ok-append_shown.ensures ∙ ap (λ (text : List ℕ). c.append_text.new.out.items ++ map shown_byte text) c.bytes.ensures)
    c.in_ok-append_text-2.ensures
