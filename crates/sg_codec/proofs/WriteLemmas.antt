-- What is written, one item on, and how long it is.
use Rattle.std.proofs.Common.{◌≡◌, ℕ, ◌+◌, ◌^◌, ◌<◌, ◌≤◌, Bool, true, false, List, [], ◌∷◌, ◌++◌, length, drop, Some, None, refl, sym, ap, ◌∙◌, append_assoc, arith, slice_get, of_z}
use Rattle.std.specs.Int.{w16, w32, w64}
use Rattle.std.proofs.lemmas.List.{length-append, append-nil}
use Rattle.sg_list.proofs.ListLemmas.{drop-get, slice_get-all}
use Rattle.sg_time.specs.declared.stamp.Stamp.{Stamp}
use Rattle.sg_msg.specs.Message.{NameValue, HaveNames}
use Rattle.sg_codec.specs.declared.kept.Kept.{Kept}
use Rattle.sg_msg.specs.Length.{tag_lengths, pair_lengths, encoded_len}
use Rattle.sg_codec.specs.Spelling.{number_bytes, flag_bytes, stamp_bytes, text_bytes, tags_bytes, pairs_bytes, tag_list, pair_list, head_bytes, spelling2, AreTexts, HaveValues}

pub tags_bytes-step : (tags : List (List ℕ)) (k : ℕ) (tag : List ℕ) → Some tag ≡ slice_get tags k → tags_bytes (drop k tags) ≡ text_bytes tag ++ tags_bytes (drop (k + 1) tags)
tags_bytes-step tags k tag e = rw (drop-get tags k tag (let r : slice_get tags k ≡ Some tag = cc in r)) refl

pub tags_bytes-end : (tags : List (List ℕ)) (k : ℕ) → None ≡ slice_get tags k → tags_bytes (drop k tags) ≡ []
tags_bytes-end tags k e = rw (slice_get-all tags k (let r : slice_get tags k ≡ None = cc in r)) refl

pub texts-step : (tags : List (List ℕ)) (k : ℕ) (tag : List ℕ) → Some tag ≡ slice_get tags k → AreTexts (drop k tags) → (length tag < 2 ^ 32) × AreTexts (drop (k + 1) tags)
texts-step tags k tag e texts = rw (drop-get tags k tag (let r : slice_get tags k ≡ Some tag = cc in r)) at texts

pub pairs_bytes-step : (pairs : List NameValue) (k : ℕ) (name value : List ℕ) → Some (record { name = name; value = value }) ≡ slice_get pairs k
    → pairs_bytes (drop k pairs) ≡ text_bytes name ++ (text_bytes value ++ pairs_bytes (drop (k + 1) pairs))
pairs_bytes-step pairs k name value e =
    let pair : NameValue = record { name = name; value = value } in
    let found : slice_get pairs k ≡ Some pair = cc in
    rw (drop-get pairs k pair found) refl

pub pairs_bytes-end : (pairs : List NameValue) (k : ℕ) → None ≡ slice_get pairs k → pairs_bytes (drop k pairs) ≡ []
pairs_bytes-end pairs k e = rw (slice_get-all pairs k (let r : slice_get pairs k ≡ None = cc in r)) refl

pub names-step : (pairs : List NameValue) (k : ℕ) (name value : List ℕ) → Some (record { name = name; value = value }) ≡ slice_get pairs k → HaveNames (drop k pairs)
    → (length name ≤ 255) × HaveNames (drop (k + 1) pairs)
names-step pairs k name value e names =
    let pair : NameValue = record { name = name; value = value } in
    let found : slice_get pairs k ≡ Some pair = cc in
    let split = rw (drop-get pairs k pair found) at names in
    (split.0.1, split.1)

pub values-step : (pairs : List NameValue) (k : ℕ) (name value : List ℕ) → Some (record { name = name; value = value }) ≡ slice_get pairs k → HaveValues (drop k pairs)
    → (length value < 2 ^ 32) × HaveValues (drop (k + 1) pairs)
values-step pairs k name value e values =
    let pair : NameValue = record { name = name; value = value } in
    let found : slice_get pairs k ≡ Some pair = cc in
    rw (drop-get pairs k pair found) at values

-- the parts of a short entry are short
pub texts_fit : (tags : List (List ℕ)) → tag_lengths tags < 2 ^ 32 → AreTexts tags
texts_fit [] h = tt
texts_fit (tag ∷ tags) h = (omega arith, texts_fit tags (omega arith))

pub values_fit : (pairs : List NameValue) → pair_lengths pairs < 2 ^ 32 → HaveValues pairs
values_fit [] h = tt
values_fit (pair ∷ pairs) h = (omega arith, values_fit pairs (omega arith))

-- lengths

length-flag : (flag : Bool) → length (flag_bytes flag) ≡ 1
length-flag false = refl
length-flag true = refl

length-16 : (number : ℕ) → length (number_bytes w16 number) ≡ 2
unfolding number_bytes
length-16 number = refl

length-32 : (number : ℕ) → length (number_bytes w32 number) ≡ 4
unfolding number_bytes
length-32 number = refl

length-64 : (number : ℕ) → length (number_bytes w64 number) ≡ 8
unfolding number_bytes
length-64 number = refl

length-stamp : (stamp : Stamp) → length (stamp_bytes stamp) ≡ 10
length-stamp stamp = rw (length-append (number_bytes w64 (of_z w64 stamp.at)) (number_bytes w16 (of_z w16 stamp.offset)), length-64 (of_z w64 stamp.at), length-16 (of_z w16 stamp.offset)) refl

length-text : (text : List ℕ) → length (text_bytes text) ≡ 4 + length text
length-text text = rw (length-append (number_bytes w32 (length text)) text, length-32 (length text)) refl

length-tags : (tags : List (List ℕ)) → length (tags_bytes tags) ≡ tag_lengths tags
length-tags [] = refl
length-tags (tag ∷ tags) = rw (length-append (text_bytes tag) (tags_bytes tags), length-text tag, length-tags tags) refl

length-pairs : (pairs : List NameValue) → length (pairs_bytes pairs) ≡ pair_lengths pairs
length-pairs [] = refl
length-pairs (pair ∷ pairs) =
    omega (arith, length-append (text_bytes pair.name) (text_bytes pair.value ++ pairs_bytes pairs), length-append (text_bytes pair.value) (pairs_bytes pairs), length-text pair.name, length-text pair.value, length-pairs pairs)

length-head : (kept : Kept) → length (head_bytes kept) ≡ 24
length-head kept =
    let last = kept.message.pri ∷ stamp_bytes kept.message.sent in
    omega (arith, length-append (flag_bytes kept.flow) (number_bytes w32 kept.source ++ (number_bytes w64 kept.end ++ last)), length-append (number_bytes w32 kept.source) (number_bytes w64 kept.end ++ last), length-append (number_bytes w64 kept.end) last, length-flag kept.flow, length-32 kept.source, length-64 kept.end, length-stamp kept.message.sent)

pub length-spelling : (kept : Kept) → length (spelling2 kept) ≡ encoded_len kept.message
length-spelling kept =
    let message = kept.message in
    omega (arith, length-append (head_bytes kept) (stamp_bytes message.received ++ (tag_list message.tags ++ pair_list message.pairs)), length-append (stamp_bytes message.received) (tag_list message.tags ++ pair_list message.pairs), length-append (tag_list message.tags) (pair_list message.pairs), length-append (number_bytes w32 (length message.tags)) (tags_bytes message.tags), length-append (number_bytes w32 (length message.pairs)) (pairs_bytes message.pairs), length-head kept, length-stamp message.received, length-32 (length message.tags), length-32 (length message.pairs), length-tags message.tags, length-pairs message.pairs)

-- what was written and what is left make the whole
pub written-step : (out text out' tail tail' whole : List ℕ) → out' ≡ out ++ text → tail ≡ text ++ tail' → out ++ tail ≡ whole → out' ++ tail' ≡ whole
written-step out text out' tail tail' whole e f h = rw e (append_assoc out text tail' ∙ ap (λ (r : List ℕ). out ++ r) (sym f) ∙ h)

pub written-steps : (out first out' second out'' tail tail' whole : List ℕ) → out' ≡ out ++ first → out'' ≡ out' ++ second → tail ≡ first ++ (second ++ tail') → out ++ tail ≡ whole → out'' ++ tail' ≡ whole
written-steps out first out' second out'' tail tail' whole e f g h =
    written-step out' second out'' (second ++ tail') tail' whole f refl (written-step out first out' tail (second ++ tail') whole e g h)

pub written-end : (out tail whole : List ℕ) → tail ≡ [] → out ++ tail ≡ whole → out ≡ whole
written-end out tail whole e h = sym (append-nil out) ∙ ap (λ (r : List ℕ). out ++ r) (sym e) ∙ h

-- the parts of a spelling, written one after the other
pub joined : (made tagged headed stamped counted tagged_on paired written head stamp tag_count tags pair_count pairs : List ℕ)
    → made ≡ [] → tagged ≡ made ++ 2 ∷ [] → headed ≡ tagged ++ head → stamped ≡ headed ++ stamp → counted ≡ stamped ++ tag_count → tagged_on ≡ counted ++ tags → paired ≡ tagged_on ++ pair_count → written ≡ paired ++ pairs
    → written ≡ 2 ∷ (head ++ (stamp ++ ((tag_count ++ tags) ++ (pair_count ++ pairs))))
joined made tagged headed stamped counted tagged_on paired written head stamp tag_count tags pair_count pairs a b d e f g h i = rw (i, h, g, f, e, d, b, a) (simp append_assoc)
