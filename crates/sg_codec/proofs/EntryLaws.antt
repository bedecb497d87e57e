-- An entry that is read is spelled by its bytes, and what is spelled is read.
use Rattle.std.proofs.Common.{◌≡◌, ℕ, zero, suc, ◌^◌, ◌<◌, ◌≤◌, cond, ltb, List, [], ◌∷◌, ◌++◌, length, Result, Ok, Err, refl, sym, ap, subst, ◌∙◌, append_assoc, arith, inl, inr}
use Rattle.std.proofs.lemmas.Bool.{ltb-false}
use Rattle.std.proofs.lemmas.List.{append-nil, nil_from_length}
use Rattle.std.specs.Int.{w32, w64}
use Rattle.sg_time.specs.Stamp.{IsValidStamp}
use Rattle.sg_time.specs.declared.stamp.Stamp.{Stamp}
use Rattle.sg_msg.specs.Message.{NameValue}
use Rattle.sg_codec.specs.declared.kept.Kept.{Kept}
use Rattle.sg_codec.specs.declared.kept.KeptPrefix.{KeptPrefix}
use Rattle.sg_codec.specs.Spelling.{number_bytes, flag_bytes, stamp_bytes, tag_list, pair_list, head_bytes, IsSpellable, IsStoredForm, Spells1, Spells2, Spells}
use Rattle.sg_codec.specs.Reading.{◌>>=◌, number_at, flag_at, end_at, pri_at, stamp_at, tag_list_at, pair_list_at, head_at, kept_of, last_at, format1_at, format2_at, entry_at, placed, reading}
use Rattle.sg_codec.proofs.FieldLaws.{AreBytes, AreBytes-rest, TakesField, Takes-then, step_ok, guard_ok, ok_is, wide32, number_takes, number_again, flag_takes, flag_again, end_takes, end_again, pri_takes, pri_again}
use Rattle.sg_codec.proofs.StampLaws.{stamp_takes, stamp_again}
use Rattle.sg_codec.proofs.ListLaws.{TagsFit, tag_list_takes, tag_list_again, PairsFit, pair_list_takes, pair_list_again}

abbrev head_text : KeptPrefix → List ℕ
head_text head = flag_bytes head.flow ++ (number_bytes w32 head.source ++ (number_bytes w64 head.end ++ (head.pri ∷ stamp_bytes head.sent)))

record HeadFits (head : KeptPrefix) : Type 0 where
  pub source : head.source < 2 ^ 32
  pub end : head.end < 2 ^ 63
  pub pri : head.pri ≤ 191
  pub sent : IsValidStamp head.sent

head_takes : (bytes : List ℕ) (x : KeptPrefix × List ℕ) → AreBytes bytes → head_at bytes ≡ Ok x → TakesField bytes (head_text x.0) x.1 × HeadFits x.0
unfolding head_at
head_takes bytes x fits e =
    let a = step_ok (flag_at bytes) (λ flow. number_at w32 flow.1 >>= λ source. end_at source.1 >>= λ end. pri_at end.1 >>= λ pri. stamp_at pri.1 >>= λ sent. Ok (record { flow = flow.0; source = source.0; end = end.0; pri = pri.0; sent = sent.0 }, sent.1)) x e in
    let b = step_ok (number_at w32 a.0.1) (λ source. end_at source.1 >>= λ end. pri_at end.1 >>= λ pri. stamp_at pri.1 >>= λ sent. Ok (record { flow = a.0.0; source = source.0; end = end.0; pri = pri.0; sent = sent.0 }, sent.1)) x a.2 in
    let c = step_ok (end_at b.0.1) (λ end. pri_at end.1 >>= λ pri. stamp_at pri.1 >>= λ sent. Ok (record { flow = a.0.0; source = b.0.0; end = end.0; pri = pri.0; sent = sent.0 }, sent.1)) x b.2 in
    let d = step_ok (pri_at c.0.1) (λ pri. stamp_at pri.1 >>= λ sent. Ok (record { flow = a.0.0; source = b.0.0; end = c.0.0; pri = pri.0; sent = sent.0 }, sent.1)) x c.2 in
    let s = step_ok (stamp_at d.0.1) (λ sent. Ok (record { flow = a.0.0; source = b.0.0; end = c.0.0; pri = d.0.0; sent = sent.0 }, sent.1)) x d.2 in
    let t0 = flag_takes bytes a.0 fits a.1 in
    let t1 = number_takes w32 (2 ^ 32) wide32 a.0.1 b.0.0 b.0.1 t0.rest_fits b.1 in
    let t2 = end_takes b.0.1 c.0 t1.0.rest_fits c.1 in
    let t3 = pri_takes c.0.1 d.0 t2.0.rest_fits d.1 in
    let t4 = stamp_takes d.0.1 s.0 t3.0.rest_fits s.1 in
    let e3 = Takes-then c.0.1 (d.0.0 ∷ []) d.0.1 (stamp_bytes s.0.0) s.0.1 t3.0 t4.0 in
    let e2 = Takes-then b.0.1 (number_bytes w64 c.0.0) c.0.1 (d.0.0 ∷ stamp_bytes s.0.0) s.0.1 t2.0 e3 in
    let e1 = Takes-then a.0.1 (number_bytes w32 b.0.0) b.0.1 (number_bytes w64 c.0.0 ++ (d.0.0 ∷ stamp_bytes s.0.0)) s.0.1 t1.0 e2 in
    let e0 = Takes-then bytes (flag_bytes a.0.0) a.0.1 (number_bytes w32 b.0.0 ++ (number_bytes w64 c.0.0 ++ (d.0.0 ∷ stamp_bytes s.0.0))) s.0.1 t0 e1 in
    let made : KeptPrefix × List ℕ = (record { flow = a.0.0; source = b.0.0; end = c.0.0; pri = d.0.0; sent = s.0.0 }, s.0.1) in
    subst (λ (y : KeptPrefix × List ℕ). TakesField bytes (head_text y.0) y.1 × HeadFits y.0) (ok_is made x s.2) (e0, record { source = t1.1; end = t2.1; pri = t3.1; sent = t4.1 })

head_again : (head : KeptPrefix) (rest : List ℕ) → HeadFits head → head_at (head_text head ++ rest) ≡ Ok (head, rest)
unfolding head_at
head_again head rest fits =
    let last = head.pri ∷ (stamp_bytes head.sent ++ rest) in
    let with_end = number_bytes w64 head.end ++ last in
    let with_source = number_bytes w32 head.source ++ with_end in
    let regrouped : head_text head ++ rest ≡ flag_bytes head.flow ++ with_source =
    append_assoc (flag_bytes head.flow) (number_bytes w32 head.source ++ (number_bytes w64 head.end ++ (head.pri ∷ stamp_bytes head.sent))) rest
    ∙ ap (λ (r : List ℕ). flag_bytes head.flow ++ r) (append_assoc (number_bytes w32 head.source) (number_bytes w64 head.end ++ (head.pri ∷ stamp_bytes head.sent)) rest
    ∙ ap (λ (r : List ℕ). number_bytes w32 head.source ++ r) (append_assoc (number_bytes w64 head.end) (head.pri ∷ stamp_bytes head.sent) rest)) in
    ap head_at regrouped
    ∙ rw (flag_again head.flow with_source, number_again w32 (2 ^ 32) wide32 head.source with_end fits.source, end_again head.end last fits.end, pri_again head.pri (stamp_bytes head.sent ++ rest) fits.pri, stamp_again head.sent rest fits.sent) refl

-- the pairs, behind which nothing follows

record ClosesEntry (head : KeptPrefix) (received : Stamp) (tags : List (List ℕ)) (bytes : List ℕ) (kept : Kept) : Type 0 where
  pub is : kept ≡ kept_of head received tags kept.message.pairs
  pub spelled : bytes ≡ pair_list kept.message.pairs
  pub fits : PairsFit kept.message.pairs

last_takes : (head : KeptPrefix) (received : Stamp) (tags : List (List ℕ)) (bytes : List ℕ) (kept : Kept) → AreBytes bytes → last_at head received tags bytes ≡ Ok kept → ClosesEntry head received tags bytes kept
unfolding last_at
last_takes head received tags bytes kept fits e =
    let a = step_ok (pair_list_at bytes) (λ pairs. cond (ltb 0 (length pairs.1)) (Err (length pairs.1)) (Ok (kept_of head received tags pairs.0))) kept e in
    let g = guard_ok (ltb 0 (length a.0.1)) (length a.0.1) (Ok (kept_of head received tags a.0.0)) kept a.2 in
    let nothing : a.0.1 ≡ [] = nil_from_length a.0.1 (omega (arith, ltb-false 0 (length a.0.1) g.0)) in
    let t = pair_list_takes bytes a.0 fits a.1 in
    let whole : bytes ≡ pair_list a.0.0 = t.0.parts ∙ ap (λ (r : List ℕ). pair_list a.0.0 ++ r) nothing ∙ append-nil (pair_list a.0.0) in
    subst (λ (k : Kept). ClosesEntry head received tags bytes k) (ok_is (kept_of head received tags a.0.0) kept g.1) (record { is = refl; spelled = whole; fits = t.1 })

last_again : (head : KeptPrefix) (received : Stamp) (tags : List (List ℕ)) (pairs : List NameValue) → PairsFit pairs → last_at head received tags (pair_list pairs) ≡ Ok (kept_of head received tags pairs)
unfolding last_at
last_again head received tags pairs fits =
    let read : pair_list_at (pair_list pairs) ≡ Ok (pairs, []) = ap pair_list_at (sym (append-nil (pair_list pairs))) ∙ pair_list_again pairs [] fits in
    rw read refl

-- the formats

abbrev head_of : Kept → KeptPrefix
head_of kept = record { flow = kept.flow; source = kept.source; end = kept.end; pri = kept.message.pri; sent = kept.message.sent }

made_fits : (head : KeptPrefix) (received : Stamp) (tags : List (List ℕ)) (pairs : List NameValue) → HeadFits head → IsValidStamp received → TagsFit tags → PairsFit pairs → IsSpellable (kept_of head received tags pairs)
made_fits head received tags pairs h r t p = record {
  source = h.source;
  end = h.end;
  message = record { pri = h.pri; sent = h.sent; received = r; ascending = p.ascending; names = p.names; tags = t.distinct };
  tag_count = t.count;
  tags = t.texts;
  pair_count = p.count;
  values = p.values;
}

pairs_fit : (kept : Kept) → IsSpellable kept → PairsFit kept.message.pairs
pairs_fit kept fits = record { count = fits.pair_count; ascending = fits.message.ascending; names = fits.message.names; values = fits.values }

tags_fit : (kept : Kept) → IsSpellable kept → TagsFit kept.message.tags
tags_fit kept fits = record { count = fits.tag_count; texts = fits.tags; distinct = fits.message.tags }

head_fits : (kept : Kept) → IsSpellable kept → HeadFits (head_of kept)
head_fits kept fits = record { source = fits.source; end = fits.end; pri = fits.message.pri; sent = fits.message.sent }

format1_takes : (bytes : List ℕ) (kept : Kept) → AreBytes bytes → format1_at bytes ≡ Ok kept → Spells1 kept (1 ∷ bytes)
unfolding format1_at
format1_takes bytes kept fits e =
    let a = step_ok (head_at bytes) (λ head. last_at head.0 head.0.sent [] head.1) kept e in
    let t = head_takes bytes a.0 fits a.1 in
    let c = last_takes a.0.0 a.0.0.sent [] a.0.1 kept t.0.rest_fits a.2 in
    let pairs = kept.message.pairs in
    let made : Kept = kept_of a.0.0 a.0.0.sent [] pairs in
    let none : TagsFit [] = record { count = omega arith; texts = tt; distinct = tt } in
    let spelled : Spells1 made (1 ∷ bytes) = record {
      fits = made_fits a.0.0 a.0.0.sent [] pairs t.1 t.1.sent none c.fits;
      stored = record { tags = refl; received = refl };
      spelled = ap (λ (bs : List ℕ). 1 ∷ bs) (t.0.parts ∙ ap (λ (r : List ℕ). head_text a.0.0 ++ r) c.spelled);
    } in
    subst (λ (k : Kept). Spells1 k (1 ∷ bytes)) (sym c.is) spelled

format2_takes : (bytes : List ℕ) (kept : Kept) → AreBytes bytes → format2_at bytes ≡ Ok kept → Spells2 kept (2 ∷ bytes)
unfolding format2_at
format2_takes bytes kept fits e =
    let a = step_ok (head_at bytes) (λ head. stamp_at head.1 >>= λ received. tag_list_at received.1 >>= λ tags. last_at head.0 received.0 tags.0 tags.1) kept e in
    let b = step_ok (stamp_at a.0.1) (λ received. tag_list_at received.1 >>= λ tags. last_at a.0.0 received.0 tags.0 tags.1) kept a.2 in
    let d = step_ok (tag_list_at b.0.1) (λ tags. last_at a.0.0 b.0.0 tags.0 tags.1) kept b.2 in
    let t = head_takes bytes a.0 fits a.1 in
    let r = stamp_takes a.0.1 b.0 t.0.rest_fits b.1 in
    let s = tag_list_takes b.0.1 d.0 r.0.rest_fits d.1 in
    let c = last_takes a.0.0 b.0.0 d.0.0 d.0.1 kept s.0.rest_fits d.2 in
    let pairs = kept.message.pairs in
    let made : Kept = kept_of a.0.0 b.0.0 d.0.0 pairs in
    let tail : d.0.1 ≡ pair_list pairs = c.spelled in
    let with_tags : b.0.1 ≡ tag_list d.0.0 ++ pair_list pairs = s.0.parts ∙ ap (λ (x : List ℕ). tag_list d.0.0 ++ x) tail in
    let with_stamp : a.0.1 ≡ stamp_bytes b.0.0 ++ (tag_list d.0.0 ++ pair_list pairs) = r.0.parts ∙ ap (λ (x : List ℕ). stamp_bytes b.0.0 ++ x) with_tags in
    let spelled : Spells2 made (2 ∷ bytes) = record {
      fits = made_fits a.0.0 b.0.0 d.0.0 pairs t.1 r.1 s.1 c.fits;
      spelled = ap (λ (bs : List ℕ). 2 ∷ bs) (t.0.parts ∙ ap (λ (x : List ℕ). head_text a.0.0 ++ x) with_stamp);
    } in
    subst (λ (k : Kept). Spells2 k (2 ∷ bytes)) (sym c.is) spelled

format1_again : (kept : Kept) → IsSpellable kept → IsStoredForm kept.message → format1_at (head_bytes kept ++ pair_list kept.message.pairs) ≡ Ok kept
unfolding format1_at
format1_again kept fits stored =
    rw (head_again (head_of kept) (pair_list kept.message.pairs) (head_fits kept fits), last_again (head_of kept) kept.message.sent [] kept.message.pairs (pairs_fit kept fits), ← stored.received, ← stored.tags) refl

format2_again : (kept : Kept) → IsSpellable kept → format2_at (head_bytes kept ++ (stamp_bytes kept.message.received ++ (tag_list kept.message.tags ++ pair_list kept.message.pairs))) ≡ Ok kept
unfolding format2_at
format2_again kept fits =
    let message = kept.message in
    rw (head_again (head_of kept) (stamp_bytes message.received ++ (tag_list message.tags ++ pair_list message.pairs)) (head_fits kept fits), stamp_again message.received (tag_list message.tags ++ pair_list message.pairs) fits.message.received, tag_list_again message.tags (pair_list message.pairs) (tags_fit kept fits), last_again (head_of kept) message.received message.tags message.pairs (pairs_fit kept fits)) refl

-- entries

entry_takes : (bytes : List ℕ) (kept : Kept) → AreBytes bytes → entry_at bytes ≡ Ok kept → Spells kept bytes
unfolding entry_at
entry_takes [] kept fits e = absurd cc
entry_takes (zero ∷ bytes) kept fits e = absurd cc
entry_takes (suc zero ∷ bytes) kept fits e = inr (format1_takes bytes kept (AreBytes-rest 1 bytes fits) e)
entry_takes (suc (suc zero) ∷ bytes) kept fits e = inl (format2_takes bytes kept (AreBytes-rest 2 bytes fits) e)
entry_takes (suc (suc (suc other)) ∷ bytes) kept fits e = absurd cc

entry_again : (bytes : List ℕ) (kept : Kept) → Spells kept bytes → entry_at bytes ≡ Ok kept
unfolding entry_at
entry_again bytes kept (inl two) = ap entry_at two.spelled ∙ format2_again kept two.fits
entry_again bytes kept (inr one) = ap entry_at one.spelled ∙ format1_again kept one.fits one.stored

placed_ok : (count : ℕ) (r : Result Kept ℕ) (kept : Kept) → placed count r ≡ Ok kept → r ≡ Ok kept
placed_ok count (Ok k) kept e = e
placed_ok count (Err left) kept e = absurd cc

-- what is read is spelled so
pub reading_takes : (bytes : List ℕ) (kept : Kept) → AreBytes bytes → reading bytes ≡ Ok kept → Spells kept bytes
unfolding reading
reading_takes bytes kept fits e = entry_takes bytes kept fits (placed_ok (length bytes) (entry_at bytes) kept e)

-- what is spelled so is read
pub reading_again : (bytes : List ℕ) (kept : Kept) → Spells kept bytes → reading bytes ≡ Ok kept
unfolding reading
reading_again bytes kept spells = ap (placed (length bytes)) (entry_again bytes kept spells)
