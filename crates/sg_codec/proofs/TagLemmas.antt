-- Distinct tags, and one more behind them.
use Rattle.std.proofs.Common.{◌≡◌, ℕ, Bool, true, false, ◌||◌, List, [], ◌∷◌, ◌++◌, bytes_eq, refl, ◌∙◌}
use Rattle.std.specs.Cmp.Lexicographic.{nat_list_eq_equiv}
use Rattle.sg_msg.specs.Message.{has_tag, AreDistinct}
use Rattle.sg_msg.proofs.KeptTags.{or-first, or-second}

neither : (a b : Bool) → a ≡ false → b ≡ false → (a || b) ≡ false
neither true b e f = e
neither false b e f = f

not_has-front : (tag : List ℕ) (before after : List (List ℕ)) → has_tag tag (before ++ after) ≡ false → has_tag tag after ≡ false
not_has-front tag [] after e = e
not_has-front tag (first ∷ before) after e = not_has-front tag before after (or-second (bytes_eq first tag) (has_tag tag (before ++ after)) e)

-- a tag among distinct ones isn't among those before it
pub not_before : (tag : List ℕ) (before after : List (List ℕ)) → AreDistinct (before ++ tag ∷ after) → has_tag tag before ≡ false
not_before tag [] after distinct = refl
not_before tag (first ∷ before) after distinct =
    let others = not_has-front first before (tag ∷ after) distinct.0 in
    neither (bytes_eq first tag) (has_tag tag before) (nat_list_eq_equiv.symm first tag ∙ or-first (bytes_eq tag first) (has_tag first after) others) (not_before tag before after distinct.1)

not_has-push : (other tag : List ℕ) (tags : List (List ℕ)) → has_tag other tags ≡ false → bytes_eq tag other ≡ false → has_tag other (tags ++ tag ∷ []) ≡ false
not_has-push other tag [] e f = rw f refl
not_has-push other tag (first ∷ tags) e f = rw (or-first (bytes_eq first other) (has_tag other tags) e) (not_has-push other tag tags (or-second (bytes_eq first other) (has_tag other tags) e) f)

pub distinct-push : (tag : List ℕ) (tags : List (List ℕ)) → has_tag tag tags ≡ false → AreDistinct tags → AreDistinct (tags ++ tag ∷ [])
distinct-push tag [] e distinct = (refl, tt)
distinct-push tag (first ∷ tags) e distinct =
    (not_has-push first tag tags distinct.0 (nat_list_eq_equiv.symm tag first ∙ or-first (bytes_eq first tag) (has_tag tag tags) e), distinct-push tag tags (or-second (bytes_eq first tag) (has_tag tag tags) e) distinct.1)
