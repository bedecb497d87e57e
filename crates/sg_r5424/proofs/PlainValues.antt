-- Values of parameters that have no backslash.
use Rattle.std.proofs.Common.{◌≡◌, ◌≤◌, ℕ, ◌+◌, ◌-◌, Bool, true, false, not, List, [], ◌∷◌, ◌++◌, length, take, drop, refl, sym, ap, subst, ◌∙◌, arith}
use Rattle.std.specs.List.{AllPass, prefix_len}
use Rattle.std.proofs.lemmas.Bool.{false≢true}
use Rattle.std.proofs.lemmas.List.{take-append-drop, take_all, drop-drop, length-drop}
use Rattle.std.proofs.lemmas.List.Elements.{All-head, All-tail}
use Rattle.sg_msg.specs.Sets.{is_escaped}
use Rattle.sg_r5424.specs.Values.{is_plain, EndsPlain, SpellsValue, IsValue}
use Rattle.sg_r5424.specs.Values.SpellsValue.{none, plain}
use Rattle.sg_r5424.proofs.RunLemmas.{run_passes}

not_true : (test : Bool) → not test ≡ true → test ≡ false
not_true false e = refl
not_true true e = absurd (false≢true e)

plain_spells : (text : List ℕ) → AllPass is_plain text → SpellsValue text text
plain_spells [] all = none
plain_spells (b ∷ text) all =
    plain b text text (not_true (is_escaped b) (All-head (λ x. is_plain x ≡ true) b text all)) (plain_spells text (All-tail (λ x. is_plain x ≡ true) b text all))

-- the quote that stands behind them
pub plain_ends : (text : List ℕ) (place : ℕ) → place ≡ prefix_len is_plain text → place ≤ length text
    → take (length text - place) (drop place text) ≡ 34 ∷ drop 1 (take (length text - place) (drop place text)) → EndsPlain text place
plain_ends text place is within first =
    let size = length-drop place text in
    let whole : take (length text - place) (drop place text) ≡ drop place text = take_all (length text - place) (drop place text) (omega (arith, size)) in
    let quote : drop place text ≡ 34 ∷ drop (place + 1) text =
    subst (λ (t : List ℕ). t ≡ 34 ∷ drop 1 t) whole first ∙ ap (λ (t : List ℕ). 34 ∷ t) (drop-drop 1 place text) in
    let longer = ap length quote in
    record {
      within = omega (arith, size, longer);
      plain = rw is (run_passes is_plain text);
      quote = quote;
    }

-- the value is the text before it
pub plain_found : (text : List ℕ) (place : ℕ) → EndsPlain text place → IsValue text (take place text) (drop (place + 1) text)
plain_found text place ends = record {
  spelled = take place text;
  is_text = sym (take-append-drop place text) ∙ ap (λ (t : List ℕ). take place text ++ t) ends.quote;
  spells = plain_spells (take place text) ends.plain;
}
