-- A change keeps tags distinct.
use Rattle.std.proofs.Common.{◌≡◌, ℕ, Bool, true, false, ◌||◌, List, [], ◌∷◌, ◌++◌, bytes_eq, refl, ◌∙◌}
use Rattle.sg_msg.specs.Message.{Content, has_tag, with_tag, without_tag, AreDistinct, IsMessage}
use Rattle.sg_msg.proofs.ByteOrder.{test-back}
use Rattle.std.proofs.lemmas.Bool.{true≢false}

-- neither of two, so not the first, and not the second
pub or-first : (a b : Bool) → (a || b) ≡ false → a ≡ false
or-first true b e = e
or-first false b e = refl

pub or-second : (a b : Bool) → (a || b) ≡ false → b ≡ false
or-second true b e = absurd (cc)
or-second false b e = e

module _ (tag : List ℕ) where
  not_has-push : (other : List ℕ) (tags : List (List ℕ)) → has_tag other tags ≡ false → bytes_eq tag other ≡ false → has_tag other (tags ++ tag ∷ []) ≡ false
  not_has-push other [] e f = rw f refl
  not_has-push other (first ∷ tags) e f = rw (or-first (bytes_eq first other) (has_tag other tags) e) (not_has-push other tags (or-second (bytes_eq first other) (has_tag other tags) e) f)

  distinct-push : (tags : List (List ℕ)) → has_tag tag tags ≡ false → AreDistinct tags → AreDistinct (tags ++ tag ∷ [])
  distinct-push [] e distinct = (refl, tt)
  distinct-push (first ∷ tags) e distinct = (not_has-push first tags distinct.0 (test-back tag first ∙ or-first (bytes_eq first tag) (has_tag tag tags) e), distinct-push tags (or-second (bytes_eq first tag) (has_tag tag tags) e) distinct.1)

  pub distinct-with : (tags : List (List ℕ)) → AreDistinct tags → AreDistinct (with_tag tag tags)
  distinct-with tags distinct = by (has_tag tag tags) refl
    where
      by : (b : Bool) → has_tag tag tags ≡ b → AreDistinct (with_tag tag tags)
      by true is = rw is distinct
      by false is = rw is (distinct-push tags is distinct)

  not_has-without : (other : List ℕ) (tags : List (List ℕ)) → has_tag other tags ≡ false → has_tag other (without_tag tag tags) ≡ false
  not_has-without other [] e = refl
  not_has-without other (first ∷ tags) e = by (not_has-without other tags (or-second (bytes_eq first other) (has_tag other tags) e)) (bytes_eq first tag) refl
    where
      by : has_tag other (without_tag tag tags) ≡ false → (b : Bool) → bytes_eq first tag ≡ b → has_tag other (without_tag tag (first ∷ tags)) ≡ false
      by rest true is = rw is (or-second (bytes_eq first other) (has_tag other tags) e)
      by rest false is = rw (is, or-first (bytes_eq first other) (has_tag other tags) e) rest

  distinct-without : (tags : List (List ℕ)) → AreDistinct tags → AreDistinct (without_tag tag tags)
  distinct-without [] distinct = tt
  distinct-without (first ∷ tags) distinct = by (distinct-without tags distinct.1) (bytes_eq first tag) refl
    where
      by : AreDistinct (without_tag tag tags) → (b : Bool) → bytes_eq first tag ≡ b → AreDistinct (without_tag tag (first ∷ tags))
      by rest true is = rw is distinct.1
      by rest false is = rw is (not_has-without first tags distinct.0, rest)

  pub message-with_tag : (content : Content) → IsMessage content → IsMessage (record content { tags = with_tag tag content.tags })
  message-with_tag content is = record { pri = is.pri; sent = is.sent; received = is.received; ascending = is.ascending; names = is.names; tags = distinct-with content.tags is.tags }

  pub message-without_tag : (content : Content) → IsMessage content → IsMessage (record content { tags = without_tag tag content.tags })
  message-without_tag content is = record { pri = is.pri; sent = is.sent; received = is.received; ascending = is.ascending; names = is.names; tags = distinct-without content.tags is.tags }

pub or_false : (p q : Bool) → p || q ≡ false → (p ≡ false) × (q ≡ false)
or_false true q e = absurd (true≢false e)
or_false false q e = (refl, e)
