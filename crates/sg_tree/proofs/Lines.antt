-- A text in one line has no byte that ends a line, and tags leave the pairs.
use Rattle.std.proofs.Common.{◌≡◌, ℕ, Bool, true, false, List, [], ◌∷◌, refl, sym, ap, ◌∙◌, subst}
use Rattle.std.specs.Prelude.{◌||◌, if◌then◌else◌, codes}
use Rattle.std.specs.List.{list_any}
use Rattle.sg_msg.specs.Macros.{is_hard, date_macros, other_macros}
use Rattle.sg_msg.specs.Message.{NameValue, Content, value_of}
use Rattle.sg_tree.specs.Readings.{ends_line, without_lines, with_tags, IsLine}

-- MESSAGE is no macro
pub message-soft : is_hard (codes "MESSAGE") ≡ false
unfolding is_hard date_macros other_macros
message-soft = refl

byte-ends : (b : ℕ) (e : Bool) → ends_line b ≡ e → ends_line (if e then 32 else b) ≡ false
byte-ends b true is = refl
byte-ends b false is = is

pub no-lines : (text : List ℕ) → list_any ends_line (without_lines text) ≡ false
no-lines [] = refl
no-lines (b ∷ text) = (λ i. byte-ends b (ends_line b) refl i || no-lines text i)

pub tags-keep : (tags : List (List ℕ)) (content : Content) → (with_tags tags content).pairs ≡ content.pairs
tags-keep [] content = refl
tags-keep (tag ∷ tags) content = tags-keep tags _

pub line-stays : (flag : Bool) (tags : List (List ℕ)) (old new : Content) → new ≡ with_tags tags old
    → IsLine flag (value_of (codes "MESSAGE") old.pairs) → IsLine flag (value_of (codes "MESSAGE") new.pairs)
line-stays flag tags old new is line =
    let same : new.pairs ≡ old.pairs = ap (λ (m : Content). m.pairs) is ∙ tags-keep tags old in
    subst (λ (pairs : List NameValue). IsLine flag (value_of (codes "MESSAGE") pairs)) (sym same) line
