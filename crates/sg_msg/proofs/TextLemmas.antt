-- Texts that a message keeps stay where they are when more are kept.
use Rattle.std.proofs.Common.{◌≡◌, ◌≤◌, ◌⊎◌, inl, inr, ◌<◌, ℕ, zero, suc, true, false, Bool, if◌then◌else◌, List, [], ◌∷◌, ◌++◌, length, get_or, Option, Some, None, codes, bytes_eq, true≢false, refl, sym, ap, subst, ◌∙◌, append_assoc, arith}
use Rattle.std.specs.List.{All}
use Rattle.std.specs.declared.cmp.Ordering.{Ordering}
use Rattle.std.specs.declared.cmp.Ordering.TheVariants.{Less, Equal, Greater}
use Rattle.sg_msg.specs.Message.{NameValue, byte_order}
use Rattle.sg_msg.specs.Parts.{known_name, own_text, part_text, name_in, value_in, pair_in, pairs_in, IsNameIn, IsTextIn, IsPairIn, AreIn, Extends, KeepsText}
use Rattle.sg_msg.specs.declared.pair.Name.{Name}
use Rattle.sg_msg.specs.declared.pair.Name.TheVariants.{Host, Message, MessageId, Pid, Program, Own as OwnName}
use Rattle.sg_msg.specs.declared.pair.Text.{Text}
use Rattle.sg_msg.specs.declared.pair.Text.TheVariants.{Part, Own, OwnPart}
use Rattle.sg_msg.specs.declared.pair.Pair.{Pair}
use Rattle.sg_msg.proofs.ByteOrder.{same-from_equal, test-same, test-less, test-greater}

pub own-stays : (own more : List (List ℕ)) (k : ℕ) → k < length own → own_text (own ++ more) k ≡ own_text own k
own-stays [] more k lt = absurd (omega arith)
own-stays (text ∷ own) more zero lt = refl
own-stays (text ∷ own) more (suc k) lt = own-stays own more k (omega arith)

pub own-last : (own : List (List ℕ)) (text : List ℕ) → own_text (own ++ text ∷ []) (length own) ≡ text
own-last [] text = refl
own-last (first ∷ own) text = own-last own text

longer : (own more : List (List ℕ)) (k : ℕ) → k < length own → k < length (own ++ more)
longer [] more k lt = absurd (omega arith)
longer (text ∷ own) more zero lt = omega arith
longer (text ∷ own) more (suc k) lt = let further = longer own more k (omega arith) in omega (arith, further)

name-stays : (own more : List (List ℕ)) (name : Name) → IsNameIn own name → name_in (own ++ more) name ≡ name_in own name
name-stays own more Host there = refl
name-stays own more Message there = refl
name-stays own more MessageId there = refl
name-stays own more Pid there = refl
name-stays own more Program there = refl
name-stays own more (OwnName k) there = own-stays own more k there.0

name-there : (own more : List (List ℕ)) (name : Name) → IsNameIn own name → IsNameIn (own ++ more) name
name-there own more Host there = tt
name-there own more Message there = tt
name-there own more MessageId there = tt
name-there own more Pid there = tt
name-there own more Program there = tt
name-there own more (OwnName k) there = (longer own more k there.0, ap known_name (own-stays own more k there.0) ∙ there.1)

value-stays : (item : List ℕ) (own more : List (List ℕ)) (value : Text) → IsTextIn own value → value_in item (own ++ more) value ≡ value_in item own value
value-stays item own more (Part from to) there = refl
value-stays item own more (Own k) there = own-stays own more k there
value-stays item own more (OwnPart k from to) there = ap (λ (t : List ℕ). part_text t from to) (own-stays own more k there)

value-there : (own more : List (List ℕ)) (value : Text) → IsTextIn own value → IsTextIn (own ++ more) value
value-there own more (Part from to) there = tt
value-there own more (Own k) there = longer own more k there
value-there own more (OwnPart k from to) there = longer own more k there

pair-stays : (item : List ℕ) (own more : List (List ℕ)) (pair : Pair) → IsPairIn own pair → pair_in item (own ++ more) pair ≡ pair_in item own pair
pair-stays item own more pair there =
    ap (λ (n : List ℕ). record { name = n; value = value_in item (own ++ more) pair.value }) (name-stays own more pair.name there.name)
    ∙ ap (λ (v : List ℕ). record { name = name_in own pair.name; value = v }) (value-stays item own more pair.value there.value)

pub all-tail : {X : Type 0} (P : X → Type 0) (first : X) (xs : List X) → All P (first ∷ xs) → All P xs
all-tail P first xs all k d lt = all (suc k) d (omega arith)

pub all-first : {X : Type 0} (P : X → Type 0) (first : X) (xs : List X) → All P (first ∷ xs) → P first
all-first P first xs all = all 0 first (omega arith)

pub all-with : {X : Type 0} (P : X → Type 0) (first : X) (xs : List X) → P first → All P xs → All P (first ∷ xs)
all-with P first xs holds all zero d lt = holds
all-with P first xs holds all (suc k) d lt = all k d (omega arith)

pairs-stay-more : (item : List ℕ) (own more : List (List ℕ)) (pairs : List Pair) → AreIn own pairs → pairs_in item (own ++ more) pairs ≡ pairs_in item own pairs
pairs-stay-more item own more [] all = refl
pairs-stay-more item own more (pair ∷ pairs) all =
    ap (λ (p : NameValue). p ∷ pairs_in item (own ++ more) pairs) (pair-stays item own more pair (all-first (IsPairIn own) pair pairs all))
    ∙ ap (λ (ps : List NameValue). pair_in item own pair ∷ ps) (pairs-stay-more item own more pairs (all-tail (IsPairIn own) pair pairs all))

-- pairs say the same when more texts are kept
pub pairs-stay : (item : List ℕ) (old new : List (List ℕ)) (pairs : List Pair) → Extends old new → AreIn old pairs → pairs_in item new pairs ≡ pairs_in item old pairs
pairs-stay item old new pairs extends all = rw extends.1 (pairs-stay-more item old extends.0 pairs all)

pub pairs-there : (old new : List (List ℕ)) (pairs : List Pair) → Extends old new → AreIn old pairs → AreIn new pairs
pairs-there old new pairs extends all k d lt =
    let pair = get_or pairs k d in
    let there = all k d lt in
    rw extends.1 (record { name = name-there old extends.0 pair.name there.name; value = value-there old extends.0 pair.value there.value })

pub extends-text : (old new : List (List ℕ)) (place : ℕ) (text : List ℕ) → KeepsText old new place text → Extends old new
extends-text old new place text kept = (text ∷ [], kept.texts)

pub name-keeps : (old new : List (List ℕ)) (name : Name) → Extends old new → IsNameIn old name → name_in new name ≡ name_in old name
name-keeps old new name extends there = rw extends.1 (name-stays old extends.0 name there)

pub name-keeps-there : (old new : List (List ℕ)) (name : Name) → Extends old new → IsNameIn old name → IsNameIn new name
name-keeps-there old new name extends there = rw extends.1 (name-there old extends.0 name there)

pub value-keeps : (item : List ℕ) (old new : List (List ℕ)) (value : Text) → Extends old new → IsTextIn old value → value_in item new value ≡ value_in item old value
value-keeps item old new value extends there = rw extends.1 (value-stays item old extends.0 value there)

pub value-keeps-there : (old new : List (List ℕ)) (value : Text) → Extends old new → IsTextIn old value → IsTextIn new value
value-keeps-there old new value extends there = rw extends.1 (value-there old extends.0 value there)

pub text-keeps : (old new : List (List ℕ)) (k : ℕ) → Extends old new → k < length old → own_text new k ≡ own_text old k
text-keeps old new k extends lt = rw extends.1 (own-stays old extends.0 k lt)

pub text-keeps-there : (old new : List (List ℕ)) (k : ℕ) → Extends old new → k < length old → k < length new
text-keeps-there old new k extends lt = rw extends.1 (longer old extends.0 k lt)

pub extends-two : (old middle new : List (List ℕ)) → Extends old middle → Extends middle new → Extends old new
extends-two old middle new first second = (first.0 ++ second.0, second.1 ∙ ap (λ (l : List (List ℕ)). l ++ second.0) first.1 ∙ append_assoc old first.0 second.0)

pub extends-none : (own : List (List ℕ)) → Extends own own
extends-none own = ([], sym (append-nil own))
  where
    append-nil : (l : List (List ℕ)) → l ++ [] ≡ l
    append-nil [] = refl
    append-nil (x ∷ l) = ap (λ (r : List (List ℕ)). x ∷ r) (append-nil l)

-- the text that was kept is the one of its number
pub kept-text : (old new : List (List ℕ)) (place : ℕ) (text : List ℕ) → KeepsText old new place text → own_text new place ≡ text
kept-text old new place text kept = rw (kept.texts, kept.number) (own-last old text)

pub kept-within : (old new : List (List ℕ)) (place : ℕ) (text : List ℕ) → KeepsText old new place text → place < length new
kept-within old new place text kept = rw (kept.texts, kept.number) (within old)
  where
    within : (own : List (List ℕ)) → length own < length (own ++ text ∷ [])
    within [] = omega arith
    within (first ∷ own) = let further = within own in omega (arith, further)

test-is : (x y : List ℕ) → bytes_eq x y ≡ true → x ≡ y
test-is x y e = by (byte_order x y) refl
  where
    by : (o : Ordering) → byte_order x y ≡ o → x ≡ y
    by Less is = absurd (true≢false (sym e ∙ test-less x y is))
    by Equal is = same-from_equal x y is
    by Greater is = absurd (true≢false (sym e ∙ test-greater x y is))

-- a name of another length isn't one that most records have
module _ (name : List ℕ) (other : (length name < 3) ⊎ (7 < length name)) where
  unlike : (text : List ℕ) → 3 ≤ length text → length text ≤ 7 → bytes_eq name text ≡ false
  unlike text long short = by (bytes_eq name text) refl other
    where
      by : (t : Bool) → bytes_eq name text ≡ t → (length name < 3) ⊎ (7 < length name) → bytes_eq name text ≡ false
      by false is which = is
      by true is (inl under) = absurd (omega (arith, ap length (test-is name text is), long, under))
      by true is (inr over) = absurd (omega (arith, ap length (test-is name text is), short, over))

  pub known-none : known_name name ≡ None
  known-none =
      rw (unlike (codes "HOST") (omega arith) (omega arith), unlike (codes "MESSAGE") (omega arith) (omega arith), unlike (codes "MSGID") (omega arith) (omega arith), unlike (codes "PID") (omega arith) (omega arith), unlike (codes "PROGRAM") (omega arith) (omega arith)) refl

-- a name that most records have says what was looked for
module _ (own : List (List ℕ)) (name : List ℕ) where
  abbrev IsKept : Name → Type 0
  IsKept n = IsNameIn own n × (name_in own n ≡ name)

  one-of : (text : List ℕ) (is : Name) (others : Option Name) (n : Name) → (bytes_eq name text ≡ true → IsKept is) → (others ≡ Some n → IsKept n) → (if bytes_eq name text then Some is else others) ≡ Some n → IsKept n
  one-of text is others n kept rest e = by (bytes_eq name text) refl e
    where
      by : (b : Bool) → bytes_eq name text ≡ b → (if b then Some is else others) ≡ Some n → IsKept n
      by true t f = let same : is ≡ n = cc in subst IsKept same (kept t)
      by false t f = rest f

  pub known-kept : (n : Name) → known_name name ≡ Some n → IsKept n
  known-kept n e =
      one-of (codes "HOST") Host _ n (λ t. (tt, sym (test-is name _ t)))
      (one-of (codes "MESSAGE") Message _ n (λ t. (tt, sym (test-is name _ t)))
      (one-of (codes "MSGID") MessageId _ n (λ t. (tt, sym (test-is name _ t)))
      (one-of (codes "PID") Pid _ n (λ t. (tt, sym (test-is name _ t)))
      (one-of (codes "PROGRAM") Program None n (λ t. (tt, sym (test-is name _ t))) (λ f. absurd (cc))))))
      e

abbrev known_of : Name → Option Name
known_of Host = Some Host
known_of Message = Some Message
known_of MessageId = Some MessageId
known_of Pid = Some Pid
known_of Program = Some Program
known_of (OwnName k) = None

canonical : (own : List (List ℕ)) (n : Name) → IsNameIn own n → known_name (name_in own n) ≡ known_of n
canonical own Host there = refl
canonical own Message there = refl
canonical own MessageId there = refl
canonical own Pid there = refl
canonical own Program there = refl
canonical own (OwnName k) there = there.1

known-some : (n k : Name) → known_of n ≡ Some k → n ≡ k
known-some Host k e = cc
known-some Message k e = cc
known-some MessageId k e = cc
known-some Pid k e = cc
known-some Program k e = cc
known-some (OwnName i) k e = absurd (cc)

-- a name in the texts has this text where it is the known name
pub known-test : (own : List (List ℕ)) (n known : Name) (name : List ℕ) (b : Bool) → IsNameIn own n → known_name name ≡ Some known → (b ≡ true → n ≡ known) → (n ≡ known → b ≡ true) → bytes_eq (name_in own n) name ≡ b
known-test own n known name true there e to from =
    test-same (name_in own n) name (ap (name_in own) (to refl) ∙ (known-kept own name known e).1)
known-test own n known name false there e to from = by (bytes_eq (name_in own n) name) refl
  where
    by : (t : Bool) → bytes_eq (name_in own n) name ≡ t → bytes_eq (name_in own n) name ≡ false
    by false is = is
    by true is =
        let same : known_of n ≡ Some known = sym (canonical own n there) ∙ ap known_name (test-is (name_in own n) name is) ∙ e in
        absurd (true≢false (sym (from (known-some n known same))))
