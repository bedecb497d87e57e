-- A field that is read is the field that was written, and what was written is read again.
use Rattle.std.proofs.Common.{◌≡◌, ℕ, zero, suc, ◌+◌, ◌^◌, ◌<◌, ◌≤◌, Bool, true, false, cond, ltb, leb, List, [], ◌∷◌, ◌++◌, length, get_or, take, drop, Result, Ok, Err, refl, sym, ap, subst, ◌∙◌, append_assoc, arith, inl, inr}
use Rattle.std.specs.Int.{Width, w16, w32, w64, byte_len, from_be_bytes, to_be_bytes}
use Rattle.std.proofs.lemmas.Bool.{cases_lt, ltb-false, ltb-true, lt-ltb, le-ltb, leb-true, le-leb, and_parts, and_from}
use Rattle.std.proofs.lemmas.List.{take_at, drop_at, take-append-drop, length-append, length-take, get_or-drop, get_or-take, get_or_past}
use Rattle.std.proofs.lemmas.Nat.{be_bytes_2, be_bytes_4, be_bytes_8, from_be_bytes-to_be_bytes_2, from_be_bytes-to_be_bytes_4, from_be_bytes-to_be_bytes_8}
use Rattle.std.specs.Prelude.{◌&&◌, not}
use Rattle.std.specs.Ordering.{is_lt}
use Rattle.std.specs.declared.cmp.Ordering.{Ordering}
use Rattle.std.specs.declared.cmp.Ordering.TheVariants.{Less, Equal, Greater}
use Rattle.sg_msg.specs.Macros.{is_hard}
use Rattle.sg_msg.specs.Message.{byte_order}
use Rattle.sg_codec.specs.Spelling.{number_bytes, flag_bytes, text_bytes}
use Rattle.sg_codec.specs.Reading.{◌>>=◌, bytes_at, number_at, flag_at, end_at, pri_at, text_at, name_size_at, may_follow, name_at}

abbrev pub AreBytes : List ℕ → Type 0
AreBytes bytes = (i : ℕ) → get_or bytes i 0 < 256

pub AreBytes-drop : (n : ℕ) (bytes : List ℕ) → AreBytes bytes → AreBytes (drop n bytes)
AreBytes-drop n bytes h i = rw get_or-drop (h (n + i))

AreBytes-take : (n : ℕ) (bytes : List ℕ) → AreBytes bytes → AreBytes (take n bytes)
AreBytes-take n bytes h i =
    elim (cases_lt i n) [
      | inl lt ↦ rw (get_or-take n bytes i 0 lt) (h i)
      | inr le ↦ rw (get_or_past (take n bytes) i 0 (omega (arith, length-take n bytes))) (omega arith)
    ]

pub AreBytes-rest : (b : ℕ) (bytes : List ℕ) → AreBytes (b ∷ bytes) → AreBytes bytes
AreBytes-rest b bytes h i = h (suc i)

-- the value of a step that wasn't damaged
pub step_ok : {A B : Type 0} (r : Result A ℕ) (f : A → Result B ℕ) (y : B) → (r >>= f) ≡ Ok y → (x : A) × (r ≡ Ok x) × (f x ≡ Ok y)
step_ok (Ok x) f y e = (x, refl, e)
step_ok (Err d) f y e = absurd cc

-- a test for damage that didn't fire
pub guard_ok : {A : Type 0} (b : Bool) (d : ℕ) (r : Result A ℕ) (y : A) → cond b (Err d) r ≡ Ok y → (b ≡ false) × (r ≡ Ok y)
guard_ok true d r y e = absurd cc
guard_ok false d r y e = (refl, e)

-- a test that passed
pub test_ok : {A : Type 0} (b : Bool) (d : ℕ) (r : Result A ℕ) (y : A) → cond b r (Err d) ≡ Ok y → (b ≡ true) × (r ≡ Ok y)
test_ok true d r y e = (refl, e)
test_ok false d r y e = absurd cc

abbrev pub done : {A : Type 0} → A → Result A ℕ
done x = Ok x

pub ok_is : {A : Type 0} (x y : A) → done x ≡ done y → x ≡ y
ok_is x y e = cc

-- what was taken off the front
pub record TakesField (bytes text rest : List ℕ) : Type 0 where
  pub parts : bytes ≡ text ++ rest
  pub rest_fits : AreBytes rest

pub Takes-then : (a x b y c : List ℕ) → TakesField a x b → TakesField b y c → TakesField a (x ++ y) c
Takes-then a x b y c p q = record { parts = p.parts ∙ ap (λ (t : List ℕ). x ++ t) q.parts ∙ sym (append_assoc x y c); rest_fits = q.rest_fits }

-- numbers

pub record IsWide (w : Width) (limit : ℕ) : Type 0 where
  pub len : (n : ℕ) → length (to_be_bytes w n) ≡ byte_len w
  pub back : (bytes : List ℕ) → length bytes ≡ byte_len w → AreBytes bytes → to_be_bytes w (from_be_bytes w bytes) ≡ bytes
  pub again : (n : ℕ) → n < limit → from_be_bytes w (to_be_bytes w n) ≡ n
  pub below : (bytes : List ℕ) → AreBytes bytes → from_be_bytes w bytes < limit

pub wide16 : IsWide w16 (2 ^ 16)
wide16 = record {
  len = λ n. refl;
  back = λ bytes len fits. be_bytes_2 bytes _ len fits refl;
  again = λ n lt. from_be_bytes-to_be_bytes_2 n lt;
  below = λ bytes fits. omega (arith, fits 0, fits 1);
}

pub wide32 : IsWide w32 (2 ^ 32)
wide32 = record {
  len = λ n. refl;
  back = λ bytes len fits. be_bytes_4 bytes _ len fits refl;
  again = λ n lt. from_be_bytes-to_be_bytes_4 n lt;
  below = λ bytes fits. omega (arith, fits 0, fits 1, fits 2, fits 3);
}

pub wide64 : IsWide w64 (2 ^ 64)
wide64 = record {
  len = λ n. refl;
  back = λ bytes len fits. be_bytes_8 bytes _ len fits refl;
  again = λ n lt. from_be_bytes-to_be_bytes_8 n lt;
  below = λ bytes fits. omega (arith, fits 0, fits 1, fits 2, fits 3, fits 4, fits 5, fits 6, fits 7);
}

pub number_takes : (w : Width) (limit : ℕ) (wide : IsWide w limit) (bytes : List ℕ) (n : ℕ) (rest : List ℕ) → AreBytes bytes → number_at w bytes ≡ Ok (n, rest) → TakesField bytes (number_bytes w n) rest × (n < limit)
unfolding number_at number_bytes
number_takes w limit wide bytes n rest fits e =
    let g = guard_ok (ltb (length bytes) (byte_len w)) (length bytes) (Ok (from_be_bytes w (take (byte_len w) bytes), drop (byte_len w) bytes)) (n, rest) e in
    let both = ok_is (from_be_bytes w (take (byte_len w) bytes), drop (byte_len w) bytes) (n, rest) g.1 in
    let long : byte_len w ≤ length bytes = ltb-false _ _ g.0 in
    let n-is : from_be_bytes w (take (byte_len w) bytes) ≡ n = ap (λ (p : ℕ × List ℕ). p.0) both in
    let rest-is : drop (byte_len w) bytes ≡ rest = ap (λ (p : ℕ × List ℕ). p.1) both in
    let front : to_be_bytes w n ≡ take (byte_len w) bytes = rw (← n-is) (wide.back (take (byte_len w) bytes) (omega (arith, length-take (byte_len w) bytes)) (AreBytes-take (byte_len w) bytes fits)) in
    (record { parts = rw (front, ← rest-is) (sym (take-append-drop (byte_len w) bytes)); rest_fits = rw (← rest-is) (AreBytes-drop (byte_len w) bytes fits) }, rw (← n-is) (wide.below (take (byte_len w) bytes) (AreBytes-take (byte_len w) bytes fits)))

pub number_again : (w : Width) (limit : ℕ) (wide : IsWide w limit) (n : ℕ) (rest : List ℕ) → n < limit → number_at w (number_bytes w n ++ rest) ≡ Ok (n, rest)
unfolding number_at number_bytes
number_again w limit wide n rest lt =
    let len = wide.len n in
    let long : ltb (length (to_be_bytes w n ++ rest)) (byte_len w) ≡ false = le-ltb _ _ (omega (arith, length-append (to_be_bytes w n) rest)) in
    rw (long, take_at (to_be_bytes w n) rest (byte_len w) len, drop_at (to_be_bytes w n) rest (byte_len w) len, wide.again n lt) refl

-- single bytes

pub flag_takes : (bytes : List ℕ) (x : Bool × List ℕ) → AreBytes bytes → flag_at bytes ≡ Ok x → TakesField bytes (flag_bytes x.0) x.1
unfolding flag_at
flag_takes [] x fits e = absurd cc
flag_takes (zero ∷ rest) x fits e =
    subst (λ (y : Bool × List ℕ). TakesField (0 ∷ rest) (flag_bytes y.0) y.1) (ok_is (false, rest) x e) (record { parts = refl; rest_fits = AreBytes-rest 0 rest fits })
flag_takes (suc zero ∷ rest) x fits e =
    subst (λ (y : Bool × List ℕ). TakesField (1 ∷ rest) (flag_bytes y.0) y.1) (ok_is (true, rest) x e) (record { parts = refl; rest_fits = AreBytes-rest 1 rest fits })
flag_takes (suc (suc other) ∷ rest) x fits e = absurd cc

pub flag_again : (flag : Bool) (rest : List ℕ) → flag_at (flag_bytes flag ++ rest) ≡ Ok (flag, rest)
unfolding flag_at
flag_again false rest = refl
flag_again true rest = refl

pub pri_takes : (bytes : List ℕ) (x : ℕ × List ℕ) → AreBytes bytes → pri_at bytes ≡ Ok x → TakesField bytes (x.0 ∷ []) x.1 × (x.0 ≤ 191)
unfolding pri_at
pri_takes [] x fits e = absurd cc
pri_takes (pri ∷ rest) x fits e =
    let t = test_ok (leb pri 191) (suc (length rest)) (Ok (pri, rest)) x e in
    subst (λ (y : ℕ × List ℕ). TakesField (pri ∷ rest) (y.0 ∷ []) y.1 × (y.0 ≤ 191)) (ok_is (pri, rest) x t.1) (record { parts = refl; rest_fits = AreBytes-rest pri rest fits }, leb-true pri 191 t.0)

pub pri_again : (pri : ℕ) (rest : List ℕ) → pri ≤ 191 → pri_at (pri ∷ rest) ≡ Ok (pri, rest)
unfolding pri_at
pri_again pri rest le = rw (le-leb pri 191 le) refl

pub end_takes : (bytes : List ℕ) (x : ℕ × List ℕ) → AreBytes bytes → end_at bytes ≡ Ok x → TakesField bytes (number_bytes w64 x.0) x.1 × (x.0 < 2 ^ 63)
unfolding end_at
end_takes bytes x fits e =
    let a = step_ok (number_at w64 bytes) (λ end. cond (ltb end.0 (2 ^ 63)) (Ok end) (Err (length bytes))) x e in
    let t = test_ok (ltb a.0.0 (2 ^ 63)) (length bytes) (Ok a.0) x a.2 in
    let n = number_takes w64 (2 ^ 64) wide64 bytes a.0.0 a.0.1 fits a.1 in
    subst (λ (y : ℕ × List ℕ). TakesField bytes (number_bytes w64 y.0) y.1 × (y.0 < 2 ^ 63)) (ok_is a.0 x t.1) (n.0, ltb-true a.0.0 (2 ^ 63) t.0)

pub end_again : (end : ℕ) (rest : List ℕ) → end < 2 ^ 63 → end_at (number_bytes w64 end ++ rest) ≡ Ok (end, rest)
unfolding end_at
end_again end rest lt = rw (number_again w64 (2 ^ 64) wide64 end rest (omega arith), lt-ltb end (2 ^ 63) lt) refl

-- texts

pub bytes_takes : (count : ℕ) (bytes : List ℕ) (x : List ℕ × List ℕ) → AreBytes bytes → bytes_at count bytes ≡ Ok x → TakesField bytes x.0 x.1 × (length x.0 ≡ count)
unfolding bytes_at
bytes_takes count bytes x fits e =
    let g = guard_ok (ltb (length bytes) count) (length bytes) (Ok (take count bytes, drop count bytes)) x e in
    let long : count ≤ length bytes = ltb-false _ _ g.0 in
    subst (λ (y : List ℕ × List ℕ). TakesField bytes y.0 y.1 × (length y.0 ≡ count)) (ok_is (take count bytes, drop count bytes) x g.1)
    (record { parts = sym (take-append-drop count bytes); rest_fits = AreBytes-drop count bytes fits }, omega (arith, length-take count bytes))

pub bytes_again : (text rest : List ℕ) → bytes_at (length text) (text ++ rest) ≡ Ok (text, rest)
unfolding bytes_at
bytes_again text rest =
    let long : ltb (length (text ++ rest)) (length text) ≡ false = le-ltb _ _ (omega (arith, length-append text rest)) in
    rw (long, take_at text rest (length text) refl, drop_at text rest (length text) refl) refl

-- a length, and that many bytes
sized : (bytes : List ℕ) (size : ℕ) (after text rest : List ℕ) → TakesField bytes (number_bytes w32 size) after → TakesField after text rest → length text ≡ size → TakesField bytes (text_bytes text) rest
sized bytes size after text rest a b len =
    subst (λ (k : ℕ). TakesField bytes (number_bytes w32 k ++ text) rest) (sym len) (Takes-then bytes (number_bytes w32 size) after text rest a b)

pub text_takes : (bytes : List ℕ) (x : List ℕ × List ℕ) → AreBytes bytes → text_at bytes ≡ Ok x → TakesField bytes (text_bytes x.0) x.1 × (length x.0 < 2 ^ 32)
unfolding text_at
text_takes bytes x fits e =
    let a = step_ok (number_at w32 bytes) (λ size. bytes_at size.0 size.1) x e in
    let n = number_takes w32 (2 ^ 32) wide32 bytes a.0.0 a.0.1 fits a.1 in
    let t = bytes_takes a.0.0 a.0.1 x n.0.rest_fits a.2 in
    (sized bytes a.0.0 a.0.1 x.0 x.1 n.0 t.0 t.1, omega (arith, t.1, n.1))

pub text_again : (text rest : List ℕ) → length text < 2 ^ 32 → text_at (text_bytes text ++ rest) ≡ Ok (text, rest)
unfolding text_at
text_again text rest lt =
    ap text_at (append_assoc (number_bytes w32 (length text)) text rest) ∙ rw (number_again w32 (2 ^ 32) wide32 (length text) (text ++ rest) lt) (bytes_again text rest)

-- names

pub may_follow-parts : (last name : List ℕ) → may_follow last name ≡ true → (byte_order last name ≡ Less) × (is_hard name ≡ false)
may_follow-parts last name e =
    let parts = and_parts (is_lt (byte_order last name)) (not (is_hard name)) e in
    (less (byte_order last name) parts.0, soft (is_hard name) parts.1)
  where
    less : (o : Ordering) → is_lt o ≡ true → o ≡ Less
    less Less e = refl
    less Equal e = absurd cc
    less Greater e = absurd cc

    soft : (b : Bool) → not b ≡ true → b ≡ false
    soft true e = absurd cc
    soft false e = refl

pub may_follow-from : (last name : List ℕ) → byte_order last name ≡ Less → is_hard name ≡ false → may_follow last name ≡ true
may_follow-from last name below soft = rw (below, soft) refl

pub name_takes : (last bytes : List ℕ) (x : List ℕ × List ℕ) → AreBytes bytes → name_at last bytes ≡ Ok x → TakesField bytes (text_bytes x.0) x.1 × (1 ≤ length x.0) × (length x.0 ≤ 255) × (may_follow last x.0 ≡ true)
unfolding name_at name_size_at
name_takes last bytes x fits e =
    let s = step_ok (name_size_at bytes) (λ size. bytes_at size.0 size.1 >>= λ name. cond (may_follow last name.0) (Ok name) (Err (length size.1))) x e in
    let b = step_ok (bytes_at s.0.0 s.0.1) (λ name. cond (may_follow last name.0) (Ok name) (Err (length s.0.1))) x s.2 in
    let f = test_ok (may_follow last b.0.0) (length s.0.1) (Ok b.0) x b.2 in
    let a = step_ok (number_at w32 bytes) (λ size. cond (leb 1 size.0 && leb size.0 255) (Ok size) (Err (length bytes))) s.0 s.1 in
    let t = test_ok (leb 1 a.0.0 && leb a.0.0 255) (length bytes) (Ok a.0) s.0 a.2 in
    let same : a.0 ≡ s.0 = ok_is a.0 s.0 t.1 in
    let size_is : a.0.0 ≡ s.0.0 = ap (λ (p : ℕ × List ℕ). p.0) same in
    let range = and_parts (leb 1 a.0.0) (leb a.0.0 255) t.0 in
    let n = number_takes w32 (2 ^ 32) wide32 bytes a.0.0 a.0.1 fits a.1 in
    let n' : TakesField bytes (number_bytes w32 s.0.0) s.0.1 = subst (λ (y : ℕ × List ℕ). TakesField bytes (number_bytes w32 y.0) y.1) same n.0 in
    let text = bytes_takes s.0.0 s.0.1 b.0 n'.rest_fits b.1 in
    let low = leb-true 1 a.0.0 range.0 in
    let high = leb-true a.0.0 255 range.1 in
    subst (λ (y : List ℕ × List ℕ). TakesField bytes (text_bytes y.0) y.1 × (1 ≤ length y.0) × (length y.0 ≤ 255) × (may_follow last y.0 ≡ true)) (ok_is b.0 x f.1)
    (sized bytes s.0.0 s.0.1 b.0.0 b.0.1 n' text.0 text.1, omega (arith, text.1, size_is, low), omega (arith, text.1, size_is, high), f.0)

pub name_again : (last name rest : List ℕ) → 1 ≤ length name → length name ≤ 255 → may_follow last name ≡ true → name_at last (text_bytes name ++ rest) ≡ Ok (name, rest)
unfolding name_at name_size_at
name_again last name rest low high follows =
    let range : (leb 1 (length name) && leb (length name) 255) ≡ true = and_from _ _ (le-leb 1 (length name) low) (le-leb (length name) 255 high) in
    ap (name_at last) (append_assoc (number_bytes w32 (length name)) name rest)
    ∙ rw (number_again w32 (2 ^ 32) wide32 (length name) (name ++ rest) (omega arith), range, bytes_again name rest, follows) refl
