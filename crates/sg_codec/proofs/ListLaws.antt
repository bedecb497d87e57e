-- Tags and pairs that are read are those that were written, and what was written is read again.
use Rattle.std.proofs.Common.{◌≡◌, ℕ, zero, suc, ◌^◌, ◌<◌, cond, List, [], ◌∷◌, ◌++◌, length, Ok, Err, refl, sym, ap, subst, ◌∙◌, append_assoc, arith}
use Rattle.std.proofs.lemmas.List.{append-nil}
use Rattle.std.specs.Int.{w32}
use Rattle.sg_msg.specs.Message.{NameValue, has_tag, AreDistinct, IsAscending, HaveNames}
use Rattle.sg_codec.specs.Spelling.{number_bytes, text_bytes, tags_bytes, pairs_bytes, tag_list, pair_list, AreTexts, HaveValues}
use Rattle.sg_codec.specs.Reading.{◌>>=◌, number_at, text_at, name_at, tags_at, pairs_at, tag_list_at, pair_list_at, last_name}
use Rattle.sg_codec.proofs.FieldLaws.{AreBytes, TakesField, Takes-then, step_ok, guard_ok, ok_is, wide32, number_takes, number_again, text_takes, text_again, name_takes, name_again, may_follow-parts, may_follow-from}
use Rattle.sg_codec.proofs.PairLemmas.{IsChain, chain-ascends, chain-all, last_name-append}
use Rattle.sg_codec.proofs.TagLemmas.{not_before, distinct-push}

-- tags

-- what was read behind the tags before it
pub record TakesTags (count : ℕ) (before : List (List ℕ)) (bytes : List ℕ) (all : List (List ℕ)) (rest : List ℕ) : Type 0 where
  pub more : List (List ℕ)
  pub all_is : all ≡ before ++ more
  pub count_is : length more ≡ count
  pub takes : TakesField bytes (tags_bytes more) rest
  pub texts : AreTexts more
  pub distinct : AreDistinct all

pub tags_take : (count : ℕ) (before : List (List ℕ)) (bytes : List ℕ) (x : List (List ℕ) × List ℕ) → AreBytes bytes → AreDistinct before → tags_at count before bytes ≡ Ok x → TakesTags count before bytes x.0 x.1
unfolding tags_at
tags_take zero before bytes x fits distinct e =
    subst (λ (y : List (List ℕ) × List ℕ). TakesTags 0 before bytes y.0 y.1) (ok_is (before, bytes) x e)
    (record { more = []; all_is = sym (append-nil before); count_is = refl; takes = record { parts = refl; rest_fits = fits }; texts = tt; distinct = distinct })
tags_take (suc count) before bytes x fits distinct e =
    let a = step_ok (text_at bytes) (λ tag. cond (has_tag tag.0 before) (Err (length bytes)) (tags_at count (before ++ tag.0 ∷ []) tag.1)) x e in
    let g = guard_ok (has_tag a.0.0 before) (length bytes) (tags_at count (before ++ a.0.0 ∷ []) a.0.1) x a.2 in
    let t = text_takes bytes a.0 fits a.1 in
    let others = tags_take count (before ++ a.0.0 ∷ []) a.0.1 x t.0.rest_fits (distinct-push a.0.0 before g.0 distinct) g.1 in
    record {
      more = a.0.0 ∷ others.more;
      all_is = others.all_is ∙ append_assoc before (a.0.0 ∷ []) others.more;
      count_is = ap suc others.count_is;
      takes = Takes-then bytes (text_bytes a.0.0) a.0.1 (tags_bytes others.more) x.1 t.0 others.takes;
      texts = (t.1, others.texts);
      distinct = others.distinct;
    }

pub tags_again : (tags before : List (List ℕ)) (rest : List ℕ) → AreTexts tags → AreDistinct (before ++ tags) → tags_at (length tags) before (tags_bytes tags ++ rest) ≡ Ok (before ++ tags, rest)
unfolding tags_at
tags_again [] before rest texts distinct = ap (λ (ts : List (List ℕ)). Ok (ts, rest)) (sym (append-nil before))
tags_again (tag ∷ tags) before rest texts distinct =
    let regrouped : tags_bytes (tag ∷ tags) ++ rest ≡ text_bytes tag ++ (tags_bytes tags ++ rest) = append_assoc (text_bytes tag) (tags_bytes tags) rest in
    let one : before ++ tag ∷ tags ≡ (before ++ tag ∷ []) ++ tags = sym (append_assoc before (tag ∷ []) tags) in
    ap (tags_at (suc (length tags)) before) regrouped
    ∙ rw (text_again tag (tags_bytes tags ++ rest) texts.0, not_before tag before tags distinct) (tags_again tags (before ++ tag ∷ []) rest texts.1 (subst AreDistinct one distinct) ∙ ap (λ (ts : List (List ℕ)). Ok (ts, rest)) (sym one))

pub record TagsFit (tags : List (List ℕ)) : Type 0 where
  pub count : length tags < 2 ^ 32
  pub texts : AreTexts tags
  pub distinct : AreDistinct tags

pub tag_list_takes : (bytes : List ℕ) (x : List (List ℕ) × List ℕ) → AreBytes bytes → tag_list_at bytes ≡ Ok x → TakesField bytes (tag_list x.0) x.1 × TagsFit x.0
unfolding tag_list_at
tag_list_takes bytes x fits e =
    let a = step_ok (number_at w32 bytes) (λ count. tags_at count.0 [] count.1) x e in
    let n = number_takes w32 (2 ^ 32) wide32 bytes a.0.0 a.0.1 fits a.1 in
    let t = tags_take a.0.0 [] a.0.1 x n.0.rest_fits tt a.2 in
    let both = Takes-then bytes (number_bytes w32 a.0.0) a.0.1 (tags_bytes t.more) x.1 n.0 t.takes in
    let counted : TakesField bytes (tag_list t.more) x.1 = subst (λ (k : ℕ). TakesField bytes (number_bytes w32 k ++ tags_bytes t.more) x.1) (sym t.count_is) both in (
      subst (λ (ts : List (List ℕ)). TakesField bytes (tag_list ts) x.1) (sym t.all_is) counted,
      record { count = rw t.all_is (omega (arith, t.count_is, n.1)); texts = subst AreTexts (sym t.all_is) t.texts; distinct = t.distinct },
    )

pub tag_list_again : (tags : List (List ℕ)) (rest : List ℕ) → TagsFit tags → tag_list_at (tag_list tags ++ rest) ≡ Ok (tags, rest)
unfolding tag_list_at
tag_list_again tags rest fits =
    ap tag_list_at (append_assoc (number_bytes w32 (length tags)) (tags_bytes tags) rest)
    ∙ rw (number_again w32 (2 ^ 32) wide32 (length tags) (tags_bytes tags ++ rest) fits.count) (tags_again tags [] rest fits.texts fits.distinct)

-- pairs

pub record TakesPairs (count : ℕ) (before : List NameValue) (bytes : List ℕ) (all : List NameValue) (rest : List ℕ) : Type 0 where
  pub more : List NameValue
  pub all_is : all ≡ before ++ more
  pub count_is : length more ≡ count
  pub takes : TakesField bytes (pairs_bytes more) rest
  pub chain : IsChain (last_name before) more
  pub names : HaveNames more
  pub values : HaveValues more

pub pairs_take : (count : ℕ) (before : List NameValue) (bytes : List ℕ) (x : List NameValue × List ℕ) → AreBytes bytes → pairs_at count before bytes ≡ Ok x → TakesPairs count before bytes x.0 x.1
unfolding pairs_at
pairs_take zero before bytes x fits e =
    subst (λ (y : List NameValue × List ℕ). TakesPairs 0 before bytes y.0 y.1) (ok_is (before, bytes) x e)
    (record { more = []; all_is = sym (append-nil before); count_is = refl; takes = record { parts = refl; rest_fits = fits }; chain = tt; names = tt; values = tt })
pairs_take (suc count) before bytes x fits e =
    let a = step_ok (name_at (last_name before) bytes) (λ name. text_at name.1 >>= λ value. pairs_at count (before ++ (record { name = name.0; value = value.0 }) ∷ []) value.1) x e in
    let b = step_ok (text_at a.0.1) (λ value. pairs_at count (before ++ (record { name = a.0.0; value = value.0 }) ∷ []) value.1) x a.2 in
    let pair : NameValue = record { name = a.0.0; value = b.0.0 } in
    let n = name_takes (last_name before) bytes a.0 fits a.1 in
    let v = text_takes a.0.1 b.0 n.0.rest_fits b.1 in
    let others = pairs_take count (before ++ pair ∷ []) b.0.1 x v.0.rest_fits b.2 in
    let follows = may_follow-parts (last_name before) a.0.0 n.3 in
    record {
      more = pair ∷ others.more;
      all_is = others.all_is ∙ append_assoc before (pair ∷ []) others.more;
      count_is = ap suc others.count_is;
      takes = Takes-then bytes (text_bytes a.0.0) a.0.1 (text_bytes b.0.0 ++ pairs_bytes others.more) x.1 n.0 (Takes-then a.0.1 (text_bytes b.0.0) b.0.1 (pairs_bytes others.more) x.1 v.0 others.takes);
      chain = (follows.0, subst (λ (last : List ℕ). IsChain last others.more) (last_name-append before pair) others.chain);
      names = ((n.1, n.2, follows.1), others.names);
      values = (v.1, others.values);
    }

pub pairs_again : (pairs before : List NameValue) (rest : List ℕ) → IsChain (last_name before) pairs → HaveNames pairs → HaveValues pairs → pairs_at (length pairs) before (pairs_bytes pairs ++ rest) ≡ Ok (before ++ pairs, rest)
unfolding pairs_at
pairs_again [] before rest chain names values = ap (λ (ps : List NameValue). Ok (ps, rest)) (sym (append-nil before))
pairs_again (pair ∷ pairs) before rest chain names values =
    let regrouped : pairs_bytes (pair ∷ pairs) ++ rest ≡ text_bytes pair.name ++ (text_bytes pair.value ++ (pairs_bytes pairs ++ rest)) =
    append_assoc (text_bytes pair.name) (text_bytes pair.value ++ pairs_bytes pairs) rest ∙ ap (λ (r : List ℕ). text_bytes pair.name ++ r) (append_assoc (text_bytes pair.value) (pairs_bytes pairs) rest) in
    let one : before ++ pair ∷ pairs ≡ (before ++ pair ∷ []) ++ pairs = sym (append_assoc before (pair ∷ []) pairs) in
    let next : IsChain (last_name (before ++ pair ∷ [])) pairs = subst (λ (last : List ℕ). IsChain last pairs) (sym (last_name-append before pair)) chain.1 in
    ap (pairs_at (suc (length pairs)) before) regrouped
    ∙ rw (name_again (last_name before) pair.name (text_bytes pair.value ++ (pairs_bytes pairs ++ rest)) names.0.0 names.0.1 (may_follow-from (last_name before) pair.name chain.0 names.0.2), text_again pair.value (pairs_bytes pairs ++ rest) values.0)
    (pairs_again pairs (before ++ pair ∷ []) rest next names.1 values.1 ∙ ap (λ (ps : List NameValue). Ok (ps, rest)) (sym one))

pub record PairsFit (pairs : List NameValue) : Type 0 where
  pub count : length pairs < 2 ^ 32
  pub ascending : IsAscending pairs
  pub names : HaveNames pairs
  pub values : HaveValues pairs

pub pair_list_takes : (bytes : List ℕ) (x : List NameValue × List ℕ) → AreBytes bytes → pair_list_at bytes ≡ Ok x → TakesField bytes (pair_list x.0) x.1 × PairsFit x.0
unfolding pair_list_at
pair_list_takes bytes x fits e =
    let a = step_ok (number_at w32 bytes) (λ count. pairs_at count.0 [] count.1) x e in
    let n = number_takes w32 (2 ^ 32) wide32 bytes a.0.0 a.0.1 fits a.1 in
    let t = pairs_take a.0.0 [] a.0.1 x n.0.rest_fits a.2 in
    let both = Takes-then bytes (number_bytes w32 a.0.0) a.0.1 (pairs_bytes t.more) x.1 n.0 t.takes in
    let counted : TakesField bytes (pair_list t.more) x.1 = subst (λ (k : ℕ). TakesField bytes (number_bytes w32 k ++ pairs_bytes t.more) x.1) (sym t.count_is) both in
    let fit : PairsFit t.more = record { count = omega (arith, t.count_is, n.1); ascending = chain-ascends [] t.more t.chain; names = t.names; values = t.values } in
    (subst (λ (ps : List NameValue). TakesField bytes (pair_list ps) x.1) (sym t.all_is) counted, subst PairsFit (sym t.all_is) fit)

pub pair_list_again : (pairs : List NameValue) (rest : List ℕ) → PairsFit pairs → pair_list_at (pair_list pairs ++ rest) ≡ Ok (pairs, rest)
unfolding pair_list_at
pair_list_again pairs rest fits =
    ap pair_list_at (append_assoc (number_bytes w32 (length pairs)) (pairs_bytes pairs) rest)
    ∙ rw (number_again w32 (2 ^ 32) wide32 (length pairs) (pairs_bytes pairs ++ rest) fits.count) (pairs_again pairs [] rest (chain-all pairs fits.ascending fits.names) fits.names fits.values)
