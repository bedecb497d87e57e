-- What a search makes of a message.
use Rattle.std.proofs.Common.{◌≡◌, ℕ, ◌<◌, List, [], ◌∷◌, length, Option, None, Some, refl, ap, ◌∙◌, arith}
use Rattle.sg_msg.specs.Message.{Content, value_of}
use Rattle.sg_macro.specs.declared.part.TemplatePart.{TemplatePart}
use Rattle.sg_pattern.specs.Pattern.{spans_of}
use Rattle.sg_rewrite.specs.declared.change.Substitution.{Substitution}
use Rattle.sg_rewrite.specs.Values.{cut, with_value, text_over, replaced}
use Rattle.sg_rewrite.specs.Rewritten.{with_replaced, substituted}
use Rattle.sg_rewrite.proofs.Cuts.{cut_cut}

with_spans : (name : List ℕ) (parts : List TemplatePart) (bytes value : List ℕ) (spans : List (ℕ × ℕ)) (content : Content) →
    0 < length spans → value ≡ cut (replaced spans bytes (text_over parts None content) 0) →
    with_value name value content ≡ with_replaced name parts bytes spans content
with_spans name parts bytes value [] content some is = absurd (omega (arith, some))
with_spans name parts bytes value (s ∷ ss) content some is = rw (is, cut_cut (replaced (s ∷ ss) bytes (text_over parts None content) 0)) refl

without_spans : (name : List ℕ) (parts : List TemplatePart) (bytes : List ℕ) (spans : List (ℕ × ℕ)) (content : Content) →
    length spans ≡ 0 → content ≡ with_replaced name parts bytes spans content
without_spans name parts bytes [] content none = refl
without_spans name parts bytes (s ∷ ss) content none = absurd (omega (arith, none))

module _ (search : Substitution) (content : Content) (bytes : List ℕ) (spans : List (ℕ × ℕ)) where
  pub found : (value : List ℕ) → Some bytes ≡ value_of search.name content.pairs → spans ≡ spans_of search.matcher bytes →
      0 < length spans → value ≡ cut (replaced spans bytes (text_over search.text None content) 0) →
      with_value search.name value content ≡ substituted search (value_of search.name content.pairs) content
  found value has are some is =
      with_spans search.name search.text bytes value spans content some is
      ∙ ap (λ (ss : List (ℕ × ℕ)). with_replaced search.name search.text bytes ss content) are
      ∙ ap (λ (o : Option (List ℕ)). substituted search o content) has

  pub not_found : Some bytes ≡ value_of search.name content.pairs → spans ≡ spans_of search.matcher bytes →
      length spans ≡ 0 → content ≡ substituted search (value_of search.name content.pairs) content
  not_found has are none =
      without_spans search.name search.text bytes spans content none
      ∙ ap (λ (ss : List (ℕ × ℕ)). with_replaced search.name search.text bytes ss content) are
      ∙ ap (λ (o : Option (List ℕ)). substituted search o content) has
