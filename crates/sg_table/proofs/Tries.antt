-- Patterns that are tried one after another.
use Rattle.std.proofs.Common.{◌≡◌, ◌≤◌, ◌+◌, ◌<◌, ℕ, zero, suc, Bool, List, [], ◌∷◌, ◌++◌, map, take, drop, Bor, length, get_or, Option, Some, None, IsSome, Err, refl, sym, ap, ◌∙◌, subst, arith, inl, inr}
use Rattle.std.proofs.lemmas.List.{append_assoc, drop_more, map-append, take-append-drop}
use Rattle.std.proofs.lemmas.List.Elements.{All-from_recursion, recursion_from_All}
use Rattle.std.proofs.lemmas.List.Sorted.{All-permutation, IsPermutation-sym}
use Rattle.std.specs.List.{AllByRecursion}
use Rattle.std.specs.List.Sorted.{IsPermutation, IsNonDecreasingBy}
use Rattle.sg_device.specs.Faults.{Rose}
use Rattle.sg_lex.specs.declared.place.Line.{Line}
use Rattle.sg_outside.specs.World.{WorldState, OnlyBuilds}
use Rattle.sg_pattern.specs.Builds.{BuilderCalls, MakesOne, RefusesLarge, RefusesNone, calls_by, machine_calls, makes_kind}
use Rattle.sg_pattern.specs.Pattern.{Pattern, pattern_of, regex_of, IsValidPattern, IsNoPattern}
use Rattle.sg_pattern.specs.declared.pattern.Kind.{Kind}
use Rattle.sg_pattern.specs.declared.pattern.Kind.TheVariants.{Regex, Text, Glob}
use Rattle.sg_pattern.specs.declared.text.PatternText.{PatternText}
use Rattle.sg_pattern.proofs.Built.{valid}
use Rattle.sg_filter.specs.Patterns.{AreValid, IsPatternAmong, IsBadAt, IsLargeAt}
use Rattle.sg_filter.proofs.Turning.{only-more, only-none}
use Rattle.sg_tree.specs.declared.refusal.PathRefusal.{PathRefusal}
use Rattle.sg_tree.specs.declared.refusal.PathRefusal.TheVariants.{BadPattern, PatternTooLarge, TooManyOffers, NoMemory}
use Rattle.sg_table.specs.Patterns.{PatternTexts}
use Rattle.sg_table.specs.Refused.{NoneIsBefore, IsFirstBadPattern}
use Rattle.sg_table.specs.Tried.{HasLarge, HasTried, IsBadIn, IsBadOne, IsRefusedIn, IsTextOrder, MakesEach, LinesRise, Tries, TriesList, first_of}
use Rattle.sg_table.proofs.Patterned.{valid-append}

-- ---- lists in other orders

all-pick : (P : PatternText → Type 0) (ps : PatternTexts) (p : PatternText) (qs : PatternTexts) → AllByRecursion P (ps ++ p ∷ qs) → P p
all-pick P [] p qs h = h.0
all-pick P (x ∷ ps) p qs h = all-pick P ps p qs h.1

all-front : (P : PatternText → Type 0) (ps qs : PatternTexts) → AllByRecursion P (ps ++ qs) → AllByRecursion P ps
all-front P [] qs h = tt
all-front P (x ∷ ps) qs h = (h.0, all-front P ps qs h.1)

all-append : (P : PatternText → Type 0) (ps qs : PatternTexts) → AllByRecursion P ps → AllByRecursion P qs → AllByRecursion P (ps ++ qs)
all-append P [] qs hp hq = hq
all-append P (x ∷ ps) qs hp hq = (hp.0, all-append P ps qs hp.1 hq)

-- what holds of all in one order holds of all in the other
pub all-order : (P : PatternText → Type 0) (patterns order : PatternTexts) → IsPermutation patterns order → AllByRecursion P order → AllByRecursion P patterns
all-order P patterns order same h = recursion_from_All P patterns (All-permutation P order patterns (IsPermutation-sym patterns order same) (All-from_recursion P order h))

all-among : (front behind : PatternTexts) → AllByRecursion (IsPatternAmong (front ++ behind)) behind
all-among front [] = tt
all-among front (p ∷ more) =
    (record { before = front; after = more; is = refl }, subst (λ (xs : PatternTexts). AllByRecursion (IsPatternAmong xs) more) (append_assoc front (p ∷ []) more) (all-among (front ++ p ∷ []) more))

pub among-order : (patterns order : PatternTexts) (one : PatternText) → IsPermutation patterns order → IsPatternAmong patterns one → IsPatternAmong order one
among-order patterns order one same a =
    all-pick (IsPatternAmong order) a.before one a.after (subst (AllByRecursion (IsPatternAmong order)) a.is (all-order (IsPatternAmong order) patterns order same (all-among [] order)))

pub among-back : (patterns order : PatternTexts) (one : PatternText) → IsPermutation patterns order → IsPatternAmong order one → IsPatternAmong patterns one
among-back patterns order one same a = among-order order patterns one (IsPermutation-sym patterns order same) a

pub map-split : {A B : Type 0} (f : A → B) (xs : List A) (i : ℕ) (x : A) → i < length xs → x ≡ get_or xs i x → map f xs ≡ map f (take i xs) ++ f x ∷ map f (drop (i + 1) xs)
map-split f xs i x less is =
    ap (map f) (sym (take-append-drop i xs) ∙ ap (λ ys. take i xs ++ ys) (drop_more xs i x less ∙ ap (λ y. y ∷ drop (i + 1) xs) (sym is)))
    ∙ map-append f (take i xs) (x ∷ drop (i + 1) xs)

-- what a sort gives

later-all : (x : Bor PatternText) (xs : List (Bor PatternText)) → ((k : ℕ) (d : Bor PatternText) → k < length xs → x.now.line.at ≤ (get_or xs k d).now.line.at)
    → AllByRecursion (λ (next : PatternText). x.now.line.at ≤ next.line.at) (map (λ (b : Bor PatternText). b.now) xs)
later-all x [] h = tt
later-all x (y ∷ xs) h = (h zero y (omega arith), later-all x xs (λ k d less. h (suc k) d (omega arith)))

pub rises-sorted : (xs : List (Bor PatternText)) → IsNonDecreasingBy (λ (b : Bor PatternText). b.now.line.at) xs → LinesRise (map (λ (b : Bor PatternText). b.now) xs)
rises-sorted [] h = tt
rises-sorted (x ∷ xs) h =
    (later-all x xs (λ k d less. h zero (suc k) d (omega arith) (omega arith)), rises-sorted xs (λ i j d le less. h (suc i) (suc j) d (omega arith) (omega arith)))

rises-behind : (front : PatternTexts) (one : PatternText) (behind : PatternTexts) → LinesRise (front ++ one ∷ behind) → AllByRecursion (λ (next : PatternText). one.line.at ≤ next.line.at) behind
rises-behind [] one behind h = h.0
rises-behind (p ∷ front) one behind h = rises-behind front one behind h.1

-- ---- a pattern, and one that is none

not-none : (p : Pattern) → IsValidPattern p → IsNoPattern p → ⊥
not-none p valid bad = let wrong = subst (λ r. IsSome r) bad.1 (valid bad.0) in cc

pub not-valid : (ps : PatternTexts) (line : Line) → IsBadAt ps line → AreValid ps → ⊥
not-valid ps line bad valid =
    let whole : AreValid (bad.among.before ++ bad.one ∷ bad.among.after) = subst AreValid bad.among.is valid in
    not-none (pattern_of bad.one) (all-pick (λ p. IsValidPattern (pattern_of p)) bad.among.before bad.one bad.among.after whole) bad.bad

pub valid-among : (ps : PatternTexts) (one : PatternText) → AreValid ps → IsPatternAmong ps one → IsValidPattern (pattern_of one)
valid-among ps one valid a = all-pick (λ p. IsValidPattern (pattern_of p)) a.before one a.after (subst AreValid a.is valid)

none-valid : (line : Line) (ps : PatternTexts) → AreValid ps → NoneIsBefore line ps
none-valid line [] valid = tt
none-valid line (p ∷ ps) valid = ((λ bad. absurd (not-none (pattern_of p) valid.0 bad)), none-valid line ps valid.1)

none-later : (line : Line) (one : PatternText) (ps : PatternTexts) → one.line ≡ line → AllByRecursion (λ (next : PatternText). one.line.at ≤ next.line.at) ps → NoneIsBefore line ps
none-later line one [] is h = tt
none-later line one (p ∷ ps) is h = let low = h.0 in ((λ bad. omega (arith, low, ap (λ (l : Line). l.at) is)), none-later line one ps is h.1)

-- the first that is none in the order of the text
pub bad-first : (patterns order : PatternTexts) (line : Line) → IsTextOrder patterns order → IsBadIn order line → IsFirstBadPattern patterns line
bad-first patterns order line sorted b =
    let rises : LinesRise (b.front ++ b.one ∷ b.behind) = subst LinesRise b.is sorted.rises in
    let here : line.at ≤ b.one.line.at = omega (arith, ap (λ (l : Line). l.at) b.at) in
    let none : NoneIsBefore line (b.front ++ b.one ∷ b.behind) =
    all-append (λ (p : PatternText). IsNoPattern (pattern_of p) → line.at ≤ p.line.at) b.front (b.one ∷ b.behind) (none-valid line b.front b.valid)
    ((λ bad. here), none-later line b.one b.behind b.at (rises-behind b.front b.one b.behind rises)) in
    record {
      bad = record { one = b.one; among = among-back patterns order b.one sorted.same (record { before = b.front; after = b.behind; is = b.is }); at = b.at; bad = b.bad };
      first = all-order (λ (p : PatternText). IsNoPattern (pattern_of p) → line.at ≤ p.line.at) patterns order sorted.same (subst (NoneIsBefore line) (sym b.is) none);
    }

pub valid-order : (patterns order : PatternTexts) → IsTextOrder patterns order → AreValid order → AreValid patterns
valid-order patterns order sorted h = all-order (λ p. IsValidPattern (pattern_of p)) patterns order sorted.same h

-- ---- one that is made

machine-stay : (kind : Kind) (old new : WorldState) (text : List ℕ) (ignore_case : Bool) → makes_kind machine_calls kind old text ignore_case new → RefusesNone old new
machine-stay Regex old new text ignore_case h = h.1.2
machine-stay Text old new text ignore_case h = ap (λ (w : WorldState). w.build_faults) h
machine-stay Glob old new text ignore_case h = ap (λ (w : WorldState). w.build_faults) h

pub machine-stays : (old : WorldState) (ps : PatternTexts) (new : WorldState) → MakesEach machine_calls old ps new → RefusesNone old new
machine-stays old [] new h = ap (λ (w : WorldState). w.build_faults) h
machine-stays old (p ∷ ps) new h = machine-stays h.0 ps new h.2 ∙ machine-stay p.kind old h.0 p.text p.flags.ignore_case h.1

module _ {S : Type 0} (state : S → WorldState) (step : BuilderCalls S) where
  abbrev calls : BuilderCalls S
  calls = calls_by state step

  kind-only : (kind : Kind) (old new : S) (text : List ℕ) (ignore_case : Bool) → makes_kind calls kind old text ignore_case new → OnlyBuilds (state old) (state new)
  kind-only Regex old new text ignore_case h = h.1.1.0
  kind-only Text old new text ignore_case h = subst (λ (s : S). OnlyBuilds (state old) (state s)) (sym h) (only-none (state old))
  kind-only Glob old new text ignore_case h = subst (λ (s : S). OnlyBuilds (state old) (state s)) (sym h) (only-none (state old))

  kind-stays : (kind : Kind) (old new : S) (text : List ℕ) (ignore_case : Bool) → makes_kind calls kind old text ignore_case new → RefusesNone (state old) (state new)
  kind-stays Regex old new text ignore_case h = h.1.1.2
  kind-stays Text old new text ignore_case h = ap (λ (s : S). (state s).build_faults) h
  kind-stays Glob old new text ignore_case h = ap (λ (s : S). (state s).build_faults) h

  kind-valid : (kind : Kind) (old new : S) (text : List ℕ) (ignore_case : Bool) → makes_kind calls kind old text ignore_case new → kind ≡ Regex → IsSome (regex_of ignore_case text)
  kind-valid Regex old new text ignore_case h is = valid ignore_case text _ h.1.1.1
  kind-valid Text old new text ignore_case h is = absurd cc
  kind-valid Glob old new text ignore_case h is = absurd cc

  kind-machine : (kind : Kind) (old new : S) (text : List ℕ) (ignore_case : Bool) → makes_kind calls kind old text ignore_case new → makes_kind machine_calls kind (state old) text ignore_case (state new)
  kind-machine Regex old new text ignore_case h = (h.0, h.1.1)
  kind-machine Text old new text ignore_case h = ap state h
  kind-machine Glob old new text ignore_case h = ap state h

  -- ---- several that are made

  pub each-only : (old : S) (ps : PatternTexts) (new : S) → MakesEach calls old ps new → OnlyBuilds (state old) (state new)
  each-only old [] new h = subst (λ (s : S). OnlyBuilds (state old) (state s)) (sym h) (only-none (state old))
  each-only old (p ∷ ps) new h = only-more _ _ _ (kind-only p.kind old h.0 p.text p.flags.ignore_case h.1) (each-only h.0 ps new h.2)

  pub each-stays : (old : S) (ps : PatternTexts) (new : S) → MakesEach calls old ps new → RefusesNone (state old) (state new)
  each-stays old [] new h = ap (λ (s : S). (state s).build_faults) h
  each-stays old (p ∷ ps) new h = each-stays h.0 ps new h.2 ∙ kind-stays p.kind old h.0 p.text p.flags.ignore_case h.1

  pub each-valid : (old : S) (ps : PatternTexts) (new : S) → MakesEach calls old ps new → AreValid ps
  each-valid old [] new h = tt
  each-valid old (p ∷ ps) new h = ((λ is. kind-valid p.kind old h.0 p.text p.flags.ignore_case h.1 is), each-valid h.0 ps new h.2)

  pub each-machine : (old : S) (ps : PatternTexts) (new : S) → MakesEach calls old ps new → MakesEach machine_calls (state old) ps (state new)
  each-machine old [] new h = ap state h
  each-machine old (p ∷ ps) new h = (state h.0, kind-machine p.kind old h.0 p.text p.flags.ignore_case h.1, each-machine h.0 ps new h.2)

  each-last : (old : S) (ps : PatternTexts) (mid new : S) (p : PatternText) → MakesEach calls old ps mid → MakesOne calls mid p new → MakesEach calls old (ps ++ p ∷ []) new
  each-last old [] mid new p h one = (new, subst (λ (s : S). MakesOne calls s p new) h one, refl)
  each-last old (q ∷ ps) mid new p h one = (h.0, h.1, each-last h.0 ps mid new p h.2 one)

  -- those in front of one
  pub record SplitTries (old : S) (ps qs : PatternTexts) (new : S) : Type 0 where
    pub mid : S
    pub front : MakesEach calls old ps mid
    pub behind : MakesEach calls mid qs new

  pub each-split : (old : S) (ps qs : PatternTexts) (new : S) → MakesEach calls old (ps ++ qs) new → SplitTries old ps qs new
  each-split old [] qs new h = record { mid = old; front = refl; behind = h }
  each-split old (p ∷ ps) qs new h = let rest = each-split h.0 ps qs new h.2 in record { mid = rest.mid; front = (h.0, h.1, rest.front); behind = rest.behind }

  -- ---- one more that is tried

  large-more : (begun old new : S) (ps : PatternTexts) (p : PatternText) (line : Line) → OnlyBuilds (state old) (state new) → IsRefusedIn state calls ps line begun old → IsRefusedIn state calls (ps ++ p ∷ []) line begun new
  large-more begun old new ps p line o h = record {
    front = h.front;
    one = h.one;
    behind = h.behind ++ p ∷ [];
    is = ap (λ (xs : PatternTexts). xs ++ p ∷ []) h.is ∙ append_assoc h.front (h.one ∷ h.behind) (p ∷ []);
    at = h.at;
    between = h.between;
    made = h.made;
    after = h.after;
    refused = h.refused;
    rest = only-more _ _ _ h.rest o;
  }

  large-made : (begun old new : S) (ps : PatternTexts) (p : PatternText) (large : Option Line) → MakesOne calls old p new → HasLarge state calls begun old ps large → HasLarge state calls begun new (ps ++ p ∷ []) large
  large-made begun old new ps p None one h = each-last begun ps old new p h one
  large-made begun old new ps p (Some line) one h = large-more begun old new ps p line (kind-only p.kind old new p.text p.flags.ignore_case one) h

  large-refused : (begun old new : S) (ps : PatternTexts) (p : PatternText) (large : Option Line) (line : Line) → line ≡ p.line → RefusesLarge calls old p new → HasLarge state calls begun old ps large
      → HasLarge state calls begun new (ps ++ p ∷ []) (first_of large line)
  large-refused begun old new ps p None line is r h = record {
    front = ps;
    one = p;
    behind = [];
    is = refl;
    at = sym is;
    between = old;
    made = h;
    after = new;
    refused = r;
    rest = only-none (state new);
  }
  large-refused begun old new ps p (Some first) line is r h = large-more begun old new ps p first r.1.1.0 h

  pub tries-made : (old new : S) (p : PatternText) (large : Option Line) → MakesOne calls old p new → Tries state calls old new (p ∷ []) large large
  tries-made old new p large one = λ begun ps h. record {
    only = only-more _ _ _ h.only (kind-only p.kind old new p.text p.flags.ignore_case one);
    valid = valid-append ps (p ∷ []) h.valid ((λ is. kind-valid p.kind old new p.text p.flags.ignore_case one is), tt);
    large = large-made begun old new ps p large one h.large;
  }

  pub tries-large : (old new : S) (p : PatternText) (large after : Option Line) (line : Line) → line ≡ p.line → RefusesLarge calls old p new → after ≡ first_of large line
      → Tries state calls old new (p ∷ []) large after
  tries-large old new p large after line is r first = λ begun ps h. record {
    only = only-more _ _ _ h.only r.1.1.0;
    valid = valid-append ps (p ∷ []) h.valid ((λ kind. r.1.1.2), tt);
    large = subst (HasLarge state calls begun new (ps ++ p ∷ [])) (sym first) (large-refused begun old new ps p large line is r h.large);
  }

  pub tried-as : (old new : S) (ps qs : PatternTexts) (large : Option Line) → ps ≡ qs → HasTried state calls old new ps large → HasTried state calls old new qs large
  tried-as old new ps qs large is h = subst (λ (xs : PatternTexts). HasTried state calls old new xs large) is h

  pub list-bad : (old new : S) (front : PatternTexts) (p : PatternText) (behind ps : PatternTexts) (why : PathRefusal) → ps ≡ front ++ p ∷ behind → AreValid front → IsBadOne p why
      → TriesList state calls old new ps (Err why)
  list-bad old new front p behind ps (BadPattern line) is v b = record { front = front; one = p; behind = behind; is = is; at = sym b.0; valid = v; bad = b.1 }
  list-bad old new front p behind ps (PatternTooLarge line) is v b = absurd b
  list-bad old new front p behind ps (TooManyOffers line) is v b = absurd b
  list-bad old new front p behind ps NoMemory is v b = tt
