-- Messages made anew: their pairs and tags gone over one after another.
use Rattle.std.proofs.Common.{◌≡◌, ◌<◌, ◌+◌, ℕ, List, [], ◌∷◌, ◌++◌, length, get_or, drop, slice_get, Some, refl, sym, ap, ◌∙◌, append_assoc}
use Rattle.std.proofs.lemmas.List.{drop_more}
use Rattle.sg_msg.specs.Message.{Content, NameValue, with_pair, with_all, IsAscending}
use Rattle.sg_msg.specs.Build.{Build, built}
use Rattle.sg_msg.proofs.ManyPairs.{all-ascending}
use Rattle.sg_msg.proofs.PairWalks.{pair-next}

-- one pair on, in what is made anew
pub pair-on : (old new : Build) (pairs : List NameValue) (place : ℕ) (name value : List ℕ) →
    Some (record { name = name; value = value }) ≡ slice_get pairs place →
    new ≡ record old { put = old.put ++ (record { name = name; value = value }) ∷ [] } →
    record new { put = new.put ++ drop (place + 1) pairs } ≡ record old { put = old.put ++ drop place pairs }
pair-on old new pairs place name value e is =
    let pair : NameValue = record { name = name; value = value } in
    ap (λ (b : Build). record b { put = b.put ++ drop (place + 1) pairs }) is
    ∙ ap (λ (ps : List NameValue). record old { put = ps }) (append_assoc old.put (pair ∷ []) (drop (place + 1) pairs) ∙ ap (λ (ps : List NameValue). old.put ++ ps) (sym (pair-next pairs place name value e)))

-- setting the pairs of two lists
all-append : (first second pairs : List NameValue) → with_all (first ++ second) pairs ≡ with_all second (with_all first pairs)
all-append [] second pairs = refl
all-append (pair ∷ first) second pairs = all-append first second (with_pair pair.name pair.value pairs)

pub made-anew : (content : Content) (pairs : List NameValue) (build : Build) → IsAscending content.pairs →
    build ≡ record { pri = content.pri; sent = content.sent; received = content.received; item = []; put = content.pairs ++ pairs; tags = content.tags } →
    built build ≡ record content { pairs = with_all pairs content.pairs }
made-anew content pairs build up is =
    ap (λ (b : Build). built b) is
    ∙ ap (λ (ps : List NameValue). record content { pairs = ps }) (all-append content.pairs pairs [] ∙ ap (λ (ps : List NameValue). with_all pairs ps) (all-ascending content.pairs up))

-- an item read from a list
from-here : {A : Type 0} (xs : List A) (k : ℕ) (x : A) → k < length xs → x ≡ get_or xs k x → drop k xs ≡ x ∷ drop (k + 1) xs
from-here xs k x h e = drop_more xs k x h ∙ ap (λ y. y ∷ drop (k + 1) xs) (sym e)

-- one pair set on
pub set-on : (old new : Content) (pairs : List NameValue) (k : ℕ) (pair : NameValue) → k < length pairs → pair ≡ get_or pairs k pair →
    new ≡ record old { pairs = with_pair pair.name pair.value old.pairs } →
    record new { pairs = with_all (drop (k + 1) pairs) new.pairs } ≡ record old { pairs = with_all (drop k pairs) old.pairs }
set-on old new pairs k pair h e is =
    ap (λ (c : Content). record c { pairs = with_all (drop (k + 1) pairs) c.pairs }) is
    ∙ ap (λ (ps : List NameValue). record old { pairs = with_all ps old.pairs }) (sym (from-here pairs k pair h e))

-- one pair put on
pub put-on : (old new : Build) (pairs : List NameValue) (k : ℕ) (pair : NameValue) → k < length pairs → pair ≡ get_or pairs k pair →
    new ≡ record old { put = old.put ++ pair ∷ [] } →
    record new { put = new.put ++ drop (k + 1) pairs } ≡ record old { put = old.put ++ drop k pairs }
put-on old new pairs k pair h e is =
    ap (λ (b : Build). record b { put = b.put ++ drop (k + 1) pairs }) is
    ∙ ap (λ (ps : List NameValue). record old { put = ps }) (append_assoc old.put (pair ∷ []) (drop (k + 1) pairs) ∙ ap (λ (ps : List NameValue). old.put ++ ps) (sym (from-here pairs k pair h e)))
