-- A walk makes no more offers than its elements may.
use Rattle.std.proofs.Common.{◌≡◌, ℕ, ◌+◌, ◌*◌, ◌≤◌, Bool, true, false, List, [], ◌∷◌, length, refl, sym, ap, ap₂, ◌∙◌, subst, length-append, arith, inl, inr}
use Rattle.std.specs.Prelude.{◌&&◌, ◌||◌, cond, max}
use Rattle.std.proofs.lemmas.Bool.{cases_order}
use Rattle.std.proofs.lemmas.Nat.{mul-le}
use Rattle.sg_msg.specs.Message.{Content}
use Rattle.sg_msg.specs.declared.offer.Offer.{Offer}
use Rattle.sg_frame.specs.Records.{Record}
use Rattle.sg_filter.specs.Decisions.{decides}
use Rattle.sg_tree.specs.Rules.{rewritten_by}
use Rattle.sg_parsers.specs.Parsed.{rule_takes, rule_parsed}
use Rattle.sg_tree.specs.Walk.{WalkResult, Steps, Siblings, Choice, none_left, filter, rewrite, parse, deliver, junction, choose, embedded, no_siblings, sibling, otherwise, test, stopped, both, each, deliveries_to, counted, up_to_final, two_rounds, walk, round, chosen, branches}
use Rattle.sg_tree.specs.Readings.{InletReading}
use Rattle.sg_tree.specs.Offers.{TopStatement, Woods, is_offered, offered, is_skipped, AreOffersUnless}
use Rattle.sg_tree.specs.Bounds.{reach, reach_all, reach_each, all_offers, OffersAreBounded}

-- the greatest of two, so many times
second-times : (n a b : ℕ) → a ≤ b → max (n * a) (n * b) ≡ n * max a b
second-times n a b h =
    let more : n * a ≤ n * b = mul-le n a n b (omega arith) h in
    let is : max a b ≡ b = omega arith in
    let left : max (n * a) (n * b) ≡ n * b = omega arith in
    left ∙ sym (ap (λ x. n * x) is)

first-times : (n a b : ℕ) → b ≤ a → max (n * a) (n * b) ≡ n * max a b
first-times n a b h =
    let more : n * b ≤ n * a = mul-le n b n a (omega arith) h in
    let is : max a b ≡ a = omega arith in
    let left : max (n * a) (n * b) ≡ n * a = omega arith in
    left ∙ sym (ap (λ x. n * x) is)

greatest-times : (n a b : ℕ) → max (n * a) (n * b) ≡ n * max a b
greatest-times n a b =
    elim (cases_order a b) [
      | inl same ↦ second-times n a b (omega arith)
      | inr (inl less) ↦ second-times n a b (omega arith)
      | inr (inr more) ↦ first-times n a b (omega arith)
    ]

-- so many times the messages have so many times the offers, and as many come out
mutual
  offers-times : (s : Steps) (n k : ℕ) → (reach s (n * k)).offers ≡ n * (reach s k).offers
  offers-times none_left n k = omega arith
  offers-times (filter e rest) n k = offers-times rest n k
  offers-times (rewrite r rest) n k = offers-times rest n k
  offers-times (parse r rest) n k = offers-times rest n k
  offers-times (deliver ds rest) n k = omega (arith, offers-times rest n k)
  offers-times (junction cs rest) n k =
      let first = offers-times-all cs n k in
      let later = ap (λ (x : ℕ). (reach rest x).offers) (out-times-all cs n k) ∙ offers-times rest n (reach_all cs k).out in
      omega (arith, first, later)
  offers-times (choose c rest) n k =
      let first = offers-times-each c n k in
      let later = ap (λ (x : ℕ). (reach rest x).offers) (out-times-each c n k) ∙ offers-times rest n (reach_each c k).out in
      omega (arith, first, later)
  offers-times (embedded logs) n k = offers-times-all logs n k

  offers-times-all : (s : Siblings) (n k : ℕ) → (reach_all s (n * k)).offers ≡ n * (reach_all s k).offers
  offers-times-all no_siblings n k = omega arith
  offers-times-all (sibling mark steps more) n k = omega (arith, offers-times steps n k, offers-times-all more n k)

  offers-times-each : (c : Choice) (n k : ℕ) → (reach_each c (n * k)).offers ≡ n * (reach_each c k).offers
  offers-times-each (otherwise steps) n k = offers-times steps n k
  offers-times-each (test e steps more) n k = ap₂ max (offers-times steps n k) (offers-times-each more n k) ∙ greatest-times n (reach steps k).offers (reach_each more k).offers

  out-times : (s : Steps) (n k : ℕ) → (reach s (n * k)).out ≡ n * (reach s k).out
  out-times none_left n k = refl
  out-times (filter e rest) n k = out-times rest n k
  out-times (rewrite r rest) n k = out-times rest n k
  out-times (parse r rest) n k = out-times rest n k
  out-times (deliver ds rest) n k = out-times rest n k
  out-times (junction cs rest) n k = ap (λ (x : ℕ). (reach rest x).out) (out-times-all cs n k) ∙ out-times rest n (reach_all cs k).out
  out-times (choose c rest) n k = ap (λ (x : ℕ). (reach rest x).out) (out-times-each c n k) ∙ out-times rest n (reach_each c k).out
  out-times (embedded logs) n k = refl

  out-times-all : (s : Siblings) (n k : ℕ) → (reach_all s (n * k)).out ≡ n * (reach_all s k).out
  out-times-all no_siblings n k = omega arith
  out-times-all (sibling mark steps more) n k = omega (arith, out-times steps n k, out-times-all more n k)

  out-times-each : (c : Choice) (n k : ℕ) → (reach_each c (n * k)).out ≡ n * (reach_each c k).out
  out-times-each (otherwise steps) n k = out-times steps n k
  out-times-each (test e steps more) n k = ap₂ max (out-times steps n k) (out-times-each more n k) ∙ greatest-times n (reach steps k).out (reach_each more k).out

offers-of : (s : Steps) (n : ℕ) → (reach s n).offers ≡ n * (reach s 1).offers
offers-of s n = let one : n ≡ n * 1 = omega arith in ap (λ (x : ℕ). (reach s x).offers) one ∙ offers-times s n 1

out-of : (s : Steps) (n : ℕ) → (reach s n).out ≡ n * (reach s 1).out
out-of s n = let one : n ≡ n * 1 = omega arith in ap (λ (x : ℕ). (reach s x).out) one ∙ out-times s n 1

-- a size that adds up
module _ (size : WalkResult → ℕ) (none : size stopped ≡ 0) (sum : (a b : WalkResult) → size (both a b) ≡ size a + size b) where
  pub each-few : (rest : Content → WalkResult) (d : ℕ) → ((n : Content) → size (rest n) ≤ d) → (ms : List Content) → size (each rest ms) ≤ length ms * d
  each-few rest d h [] = omega (arith, none)
  each-few rest d h (m ∷ ms) = omega (arith, sum (rest m) (each rest ms), h m, each-few rest d h ms)

  pick-few : (b : Bool) (x y : WalkResult) → size (cond b x (both x y)) ≤ size x + size y
  pick-few true x y = omega arith
  pick-few false x y = omega (arith, sum x y)

  pub two-few : (a b : WalkResult) → size (two_rounds a b) ≤ size a + size b
  two-few a b = pick-few a.processed a b

  pub final-few : (is_final : Bool) (mine more : WalkResult) → size (up_to_final is_final mine more) ≤ size mine + size more
  final-few is_final mine more = pick-few (mine.processed && is_final) mine more

  -- a sibling walks in one of the rounds alone
  pub sides-few : (b : Bool) (mine rest : ℕ) (x y early late : WalkResult) → size x ≤ mine + size early → size y ≤ mine + size late → size early + size late ≤ rest
      → size (cond (cond b false true) x early) + size (cond b y late) ≤ mine + rest
  sides-few true mine rest x y early late hx hy h = omega (arith, hy, h)
  sides-few false mine rest x y early late hx hy h = omega (arith, hx, h)

abbrev made : WalkResult → ℕ
made w = length w.deliveries

made-sum : (a b : WalkResult) → made (both a b) ≡ made a + made b
made-sum a b = length-append a.deliveries b.deliveries

abbrev left : WalkResult → ℕ
left w = length w.out

left-sum : (a b : WalkResult) → left (both a b) ≡ left a + left b
left-sum a b = length-append a.out b.out

cond-few : (size : WalkResult → ℕ) (b : Bool) (x y : WalkResult) (n : ℕ) → size x ≤ n → size y ≤ n → size (cond b x y) ≤ n
cond-few size true x y n hx hy = hx
cond-few size false x y n hx hy = hy

made-drivers : (ds : List ℕ) (m : Content) (f : Bool) → length (deliveries_to ds m f) ≡ length ds
made-drivers [] m f = refl
made-drivers (d ∷ ds) m f = omega (arith, made-drivers ds m f)

-- at most so many messages come out
mutual
  left-walk : (s : Steps) (m : Content) (f : Bool) → left (walk s m f) ≤ (reach s 1).out
  left-walk none_left m f = omega arith
  left-walk (filter e rest) m f = cond-few left (decides e m) (walk rest m f) stopped (reach rest 1).out (left-walk rest m f) (omega arith)
  left-walk (rewrite r rest) m f = left-walk rest (rewritten_by r m) f
  left-walk (parse r rest) m f = cond-few left (rule_takes r m) (walk rest (rule_parsed r m) f) stopped (reach rest 1).out (left-walk rest (rule_parsed r m) f) (omega arith)
  left-walk (deliver ds rest) m f = left-walk rest m f
  left-walk (junction cs rest) m f =
      let n = (reach_all cs 1).out in
      let d = (reach rest 1).out in
      let outs = (branches cs m f).out in
      let few : length outs ≤ n = omega (arith, two-few left refl left-sum (round cs false m f) (round cs true m f), left-rounds cs m f) in
      omega (arith, each-few left refl left-sum (λ x. walk rest x f) d (λ x. left-walk rest x f) outs, mul-le (length outs) d n d few (omega arith), out-of rest n)
  left-walk (choose c rest) m f =
      let n = (reach_each c 1).out in
      let d = (reach rest 1).out in
      let outs = (chosen c m f).out in
      omega (arith, each-few left refl left-sum (λ x. walk rest x f) d (λ x. left-walk rest x f) outs, mul-le (length outs) d n d (left-chosen c m f) (omega arith), out-of rest n)
  left-walk (embedded logs) m f = omega arith

  left-rounds : (s : Siblings) (m : Content) (f : Bool) → left (round s false m f) + left (round s true m f) ≤ (reach_all s 1).out
  left-rounds no_siblings m f = omega arith
  left-rounds (sibling mark steps more) m f =
      let mine = counted mark (walk steps m (f || mark.flow)) in
      let early = round more false m f in
      let late = round more true m f in
      let own : left mine ≤ (reach steps 1).out = left-walk steps m (f || mark.flow) in
      sides-few left refl left-sum mark.fallback (reach steps 1).out (reach_all more 1).out (up_to_final mark.is_final mine early) (up_to_final mark.is_final mine late) early late
      (omega (arith, own, final-few left refl left-sum mark.is_final mine early)) (omega (arith, own, final-few left refl left-sum mark.is_final mine late)) (left-rounds more m f)

  left-chosen : (c : Choice) (m : Content) (f : Bool) → left (chosen c m f) ≤ (reach_each c 1).out
  left-chosen (otherwise steps) m f = left-walk steps m f
  left-chosen (test e steps more) m f =
      cond-few left (decides e m) (walk steps m f) (chosen more m f) (max (reach steps 1).out (reach_each more 1).out) (omega (arith, left-walk steps m f)) (omega (arith, left-chosen more m f))

-- at most so many offers are made
mutual
  made-walk : (s : Steps) (m : Content) (f : Bool) → made (walk s m f) ≤ (reach s 1).offers
  made-walk none_left m f = omega arith
  made-walk (filter e rest) m f = cond-few made (decides e m) (walk rest m f) stopped (reach rest 1).offers (made-walk rest m f) (omega arith)
  made-walk (rewrite r rest) m f = made-walk rest (rewritten_by r m) f
  made-walk (parse r rest) m f = cond-few made (rule_takes r m) (walk rest (rule_parsed r m) f) stopped (reach rest 1).offers (made-walk rest (rule_parsed r m) f) (omega arith)
  made-walk (deliver ds rest) m f =
      omega (arith, length-append (deliveries_to ds m f) (walk rest m f).deliveries, made-drivers ds m f, made-walk rest m f)
  made-walk (junction cs rest) m f =
      let n = (reach_all cs 1).out in
      let d = (reach rest 1).offers in
      let first = branches cs m f in
      let few : length first.out ≤ n = omega (arith, two-few left refl left-sum (round cs false m f) (round cs true m f), left-rounds cs m f) in
      let own : made first ≤ (reach_all cs 1).offers = omega (arith, two-few made refl made-sum (round cs false m f) (round cs true m f), made-rounds cs m f) in
      omega (
        arith,
        length-append first.deliveries (each (λ x. walk rest x f) first.out).deliveries,
        own,
        each-few made refl made-sum (λ x. walk rest x f) d (λ x. made-walk rest x f) first.out,
        mul-le (length first.out) d n d few (omega arith),
        offers-of rest n,
      )
  made-walk (choose c rest) m f =
      let n = (reach_each c 1).out in
      let d = (reach rest 1).offers in
      let first = chosen c m f in
      omega (
        arith,
        length-append first.deliveries (each (λ x. walk rest x f) first.out).deliveries,
        made-chosen c m f,
        each-few made refl made-sum (λ x. walk rest x f) d (λ x. made-walk rest x f) first.out,
        mul-le (length first.out) d n d (left-chosen c m f) (omega arith),
        offers-of rest n,
      )
  made-walk (embedded logs) m f = omega (arith, two-few made refl made-sum (round logs false m f) (round logs true m f), made-rounds logs m f)

  made-rounds : (s : Siblings) (m : Content) (f : Bool) → made (round s false m f) + made (round s true m f) ≤ (reach_all s 1).offers
  made-rounds no_siblings m f = omega arith
  made-rounds (sibling mark steps more) m f =
      let mine = counted mark (walk steps m (f || mark.flow)) in
      let early = round more false m f in
      let late = round more true m f in
      let own : made mine ≤ (reach steps 1).offers = made-walk steps m (f || mark.flow) in
      sides-few made refl made-sum mark.fallback (reach steps 1).offers (reach_all more 1).offers (up_to_final mark.is_final mine early) (up_to_final mark.is_final mine late) early late
      (omega (arith, own, final-few made refl made-sum mark.is_final mine early)) (omega (arith, own, final-few made refl made-sum mark.is_final mine late)) (made-rounds more m f)

  made-chosen : (c : Choice) (m : Content) (f : Bool) → made (chosen c m f) ≤ (reach_each c 1).offers
  made-chosen (otherwise steps) m f = made-walk steps m f
  made-chosen (test e steps more) m f =
      cond-few made (decides e m) (walk steps m f) (chosen more m f) (max (reach steps 1).offers (reach_each more 1).offers) (omega (arith, made-walk steps m f)) (omega (arith, made-chosen more m f))

either-few : (b : Bool) (x y : Siblings) (own n : ℕ) → (reach_all x 1).offers ≤ own + n → (reach_all y 1).offers ≤ n → (reach_all (cond b x y) 1).offers ≤ own + n
either-few true x y own n hx hy = hx
either-few false x y own n hx hy = omega (arith, hy)

offered-few : (i : ℕ) (tops : List TopStatement) → (reach_all (offered i tops) 1).offers ≤ all_offers tops
offered-few i [] = omega arith
offered-few i (top ∷ tops) =
    either-few (is_offered i top) (sibling top.marks top.steps (offered i tops)) (offered i tops) (reach top.steps 1).offers (all_offers tops)
    (omega (arith, offered-few i tops)) (offered-few i tops)

few-unless : (b : Bool) (woods : Woods) (inlet : InletReading) (i : ℕ) (of_record : Record) (offers : List Offer)
    → AreOffersUnless b woods inlet i of_record offers → length offers ≤ all_offers woods.tops
few-unless true woods inlet i of_record offers e = subst (λ (os : List Offer). length os ≤ all_offers woods.tops) (sym e) (omega arith)
few-unless false woods inlet i of_record offers u =
    let siblings = offered i woods.tops in
    let few : made (branches siblings u.0 false) ≤ all_offers woods.tops =
    omega (arith, two-few made refl made-sum (round siblings false u.0 false) (round siblings true u.0 false), made-rounds siblings u.0 false, offered-few i woods.tops) in
    subst (λ (os : List Offer). length os ≤ all_offers woods.tops) (sym u.1.1) few

pub are-bounded : OffersAreBounded
are-bounded woods i of_record offers are =
    few-unless (is_skipped are.0 of_record.item.text) woods are.0 i of_record offers are.1.1
