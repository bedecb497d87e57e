-- How many bytes a field takes.
use Rattle.std.proofs.Common.{◌≡◌, ℕ, zero, suc, ◌+◌, ◌^◌, ◌≤◌, Bool, true, false, cond, ltb, leb, List, [], ◌∷◌, ◌++◌, length, take, drop, Result, Ok, Err, refl, subst, arith}
use Rattle.std.specs.Prelude.{◌&&◌}
use Rattle.std.specs.Int.{Width, w16, w32, w64, byte_len, from_be_bytes, cast_signed}
use Rattle.std.proofs.lemmas.Bool.{ltb-false}
use Rattle.std.proofs.lemmas.List.{length-drop, length-take}
use Rattle.sg_time.specs.declared.stamp.Stamp.{Stamp}
use Rattle.sg_msg.specs.Message.{NameValue}
use Rattle.sg_codec.specs.declared.kept.Kept.{Kept}
use Rattle.sg_msg.specs.Length.{pair_lengths, encoded_len}
use Rattle.sg_codec.specs.Reading.{◌>>=◌, bytes_at, number_at, flag_at, end_at, pri_at, is_valid, stamp_at, text_at, name_size_at, may_follow, name_at, last_name, pairs_at, pair_list_at, head_at, last_at, format1_at}

-- what holds of the value of a field that isn't damaged
abbrev HoldsLengths : {X : Type 0} → (X → Type 0) → Result X ℕ → Type 0
HoldsLengths P (Ok x) = P x
HoldsLengths P (Err left) = Unit {0}

-- a field, and what follows it
step : {X Y : Type 0} (P : X → Type 0) (Q : Y → Type 0) (r : Result X ℕ) (f : X → Result Y ℕ) → HoldsLengths P r → ((x : X) → P x → HoldsLengths Q (f x)) → HoldsLengths Q (r >>= f)
step P Q (Ok x) f h g = g x h
step P Q (Err left) f h g = tt

-- a test for damage
unless : {X : Type 0} (Q : X → Type 0) (test : Bool) (left : ℕ) (r : Result X ℕ) → (test ≡ false → HoldsLengths Q r) → HoldsLengths Q (cond test (Err left) r)
unless Q true left r h = tt
unless Q false left r h = h refl

-- a test that has to pass
provided : {X : Type 0} (Q : X → Type 0) (test : Bool) (left : ℕ) (r : Result X ℕ) → HoldsLengths Q r → HoldsLengths Q (cond test r (Err left))
provided Q true left r h = h
provided Q false left r h = tt

weaker : {X : Type 0} (P Q : X → Type 0) (r : Result X ℕ) → HoldsLengths P r → ((x : X) → P x → Q x) → HoldsLengths Q r
weaker P Q (Ok x) h f = f x h
weaker P Q (Err left) h f = tt

abbrev done : {A : Type 0} → A → Result A ℕ
done x = Ok x

value : {X : Type 0} (P : X → Type 0) (r : Result X ℕ) (x : X) → HoldsLengths P r → r ≡ Ok x → P x
value P (Ok y) x h e = let same : done y ≡ done x = e in let is : y ≡ x = cc in subst P is h
value P (Err left) x h e = absurd cc

-- what each field takes

abbrev LeavesLengths : {X : Type 0} → ℕ → List ℕ → X × List ℕ → Type 0
LeavesLengths count bytes x = length bytes ≡ count + length x.1

number_takes : (w : Width) (bytes : List ℕ) → HoldsLengths (LeavesLengths (byte_len w) bytes) (number_at w bytes)
unfolding number_at
number_takes w bytes =
    unless (LeavesLengths (byte_len w) bytes) (ltb (length bytes) (byte_len w)) (length bytes) (Ok (from_be_bytes w (take (byte_len w) bytes), drop (byte_len w) bytes)) (λ e.
    let long : byte_len w ≤ length bytes = ltb-false _ _ e in
    omega (arith, long, length-drop (byte_len w) bytes))

flag_takes : (bytes : List ℕ) → HoldsLengths (LeavesLengths 1 bytes) (flag_at bytes)
unfolding flag_at
flag_takes [] = tt
flag_takes (zero ∷ rest) = omega arith
flag_takes (suc zero ∷ rest) = omega arith
flag_takes (suc (suc other) ∷ rest) = tt

end_takes : (bytes : List ℕ) → HoldsLengths (LeavesLengths 8 bytes) (end_at bytes)
unfolding end_at
end_takes bytes = step (LeavesLengths 8 bytes) (LeavesLengths 8 bytes) (number_at w64 bytes) _ (number_takes w64 bytes) (λ end h. provided (LeavesLengths 8 bytes) (ltb end.0 (2 ^ 63)) (length bytes) (Ok end) h)

pri_takes : (bytes : List ℕ) → HoldsLengths (LeavesLengths 1 bytes) (pri_at bytes)
unfolding pri_at
pri_takes [] = tt
pri_takes (pri ∷ rest) = provided (LeavesLengths 1 (pri ∷ rest)) (leb pri 191) (suc (length rest)) (Ok (pri, rest)) (omega arith)

stamp_takes : (bytes : List ℕ) → HoldsLengths (LeavesLengths 10 bytes) (stamp_at bytes)
unfolding stamp_at
stamp_takes bytes =
    step (LeavesLengths 8 bytes) (LeavesLengths 10 bytes) (number_at w64 bytes) _ (number_takes w64 bytes) (λ at a.
    step (LeavesLengths 2 at.1) (LeavesLengths 10 bytes) (number_at w16 at.1) _ (number_takes w16 at.1) (λ offset b.
    let stamp : Stamp = record { at = cast_signed w64 at.0; offset = cast_signed w16 offset.0 } in
    provided (LeavesLengths 10 bytes) (is_valid stamp) (length at.1) (Ok (stamp, offset.1)) (omega (arith, a, b))))

-- a text, with so many bytes before it
abbrev TextLengths : ℕ → List ℕ → List ℕ × List ℕ → Type 0
TextLengths count bytes x = length bytes ≡ count + length x.0 + length x.1

bytes_take : (count : ℕ) (bytes : List ℕ) → HoldsLengths (TextLengths 0 bytes) (bytes_at count bytes)
unfolding bytes_at
bytes_take count bytes =
    unless (TextLengths 0 bytes) (ltb (length bytes) count) (length bytes) (Ok (take count bytes, drop count bytes)) (λ e.
    let long : count ≤ length bytes = ltb-false _ _ e in
    omega (arith, long, length-take count bytes, length-drop count bytes))

text_takes : (bytes : List ℕ) → HoldsLengths (TextLengths 4 bytes) (text_at bytes)
unfolding text_at
text_takes bytes =
    step (LeavesLengths 4 bytes) (TextLengths 4 bytes) (number_at w32 bytes) _ (number_takes w32 bytes) (λ size a.
    weaker (TextLengths 0 size.1) (TextLengths 4 bytes) (bytes_at size.0 size.1) (bytes_take size.0 size.1) (λ x b. omega (arith, a, b)))

size_takes : (bytes : List ℕ) → HoldsLengths (LeavesLengths 4 bytes) (name_size_at bytes)
unfolding name_size_at
size_takes bytes = step (LeavesLengths 4 bytes) (LeavesLengths 4 bytes) (number_at w32 bytes) _ (number_takes w32 bytes) (λ size a. provided (LeavesLengths 4 bytes) (leb 1 size.0 && leb size.0 255) (length bytes) (Ok size) a)

name_takes : (last bytes : List ℕ) → HoldsLengths (TextLengths 4 bytes) (name_at last bytes)
unfolding name_at
name_takes last bytes =
    step (LeavesLengths 4 bytes) (TextLengths 4 bytes) (name_size_at bytes) _ (size_takes bytes) (λ size a.
    step (TextLengths 0 size.1) (TextLengths 4 bytes) (bytes_at size.0 size.1) _ (bytes_take size.0 size.1) (λ name b.
    provided (TextLengths 4 bytes) (may_follow last name.0) (length size.1) (Ok name) (omega (arith, a, b))))

-- a pair behind others
pair_lengths-more : (pairs : List NameValue) (pair : NameValue) → pair_lengths (pairs ++ pair ∷ []) ≡ pair_lengths pairs + (8 + length pair.name + length pair.value)
pair_lengths-more [] pair = omega arith
pair_lengths-more (first ∷ pairs) pair = omega (arith, pair_lengths-more pairs pair)

-- pairs behind others, with so many bytes before them
abbrev LengthPairs : ℕ → List NameValue → List ℕ → List NameValue × List ℕ → Type 0
LengthPairs count before bytes x = pair_lengths before + length bytes ≡ count + pair_lengths x.0 + length x.1

pairs_take : (count : ℕ) (before : List NameValue) (bytes : List ℕ) → HoldsLengths (LengthPairs 0 before bytes) (pairs_at count before bytes)
unfolding pairs_at
pairs_take zero before bytes = omega arith
pairs_take (suc count) before bytes =
    step (TextLengths 4 bytes) (LengthPairs 0 before bytes) (name_at (last_name before) bytes) _ (name_takes (last_name before) bytes) (λ name a.
    step (TextLengths 4 name.1) (LengthPairs 0 before bytes) (text_at name.1) _ (text_takes name.1) (λ value b.
    let pair : NameValue = record { name = name.0; value = value.0 } in
    weaker (LengthPairs 0 (before ++ pair ∷ []) value.1) (LengthPairs 0 before bytes) (pairs_at count (before ++ pair ∷ []) value.1) (pairs_take count (before ++ pair ∷ []) value.1) (λ x c. omega (arith, a, b, c, pair_lengths-more before pair))))

pair_list_takes : (bytes : List ℕ) → HoldsLengths (LengthPairs 4 [] bytes) (pair_list_at bytes)
unfolding pair_list_at
pair_list_takes bytes =
    step (LeavesLengths 4 bytes) (LengthPairs 4 [] bytes) (number_at w32 bytes) _ (number_takes w32 bytes) (λ count a.
    weaker (LengthPairs 0 [] count.1) (LengthPairs 4 [] bytes) (pairs_at count.0 [] count.1) (pairs_take count.0 [] count.1) (λ x b. omega (arith, a, b)))

head_takes : (bytes : List ℕ) → HoldsLengths (LeavesLengths 24 bytes) (head_at bytes)
unfolding head_at
head_takes bytes =
    step (LeavesLengths 1 bytes) (LeavesLengths 24 bytes) (flag_at bytes) _ (flag_takes bytes) (λ flow a.
    step (LeavesLengths 4 flow.1) (LeavesLengths 24 bytes) (number_at w32 flow.1) _ (number_takes w32 flow.1) (λ source b.
    step (LeavesLengths 8 source.1) (LeavesLengths 24 bytes) (end_at source.1) _ (end_takes source.1) (λ end c.
    step (LeavesLengths 1 end.1) (LeavesLengths 24 bytes) (pri_at end.1) _ (pri_takes end.1) (λ pri d.
    step (LeavesLengths 10 pri.1) (LeavesLengths 24 bytes) (stamp_at pri.1) _ (stamp_takes pri.1) (λ sent f. omega (arith, a, b, c, d, f))))))

-- the bytes behind the first one
abbrev Short : List ℕ → Kept → Type 0
Short bytes kept = encoded_len kept.message ≤ length bytes + 15

format1_takes : (bytes : List ℕ) → HoldsLengths (Short bytes) (format1_at bytes)
unfolding format1_at last_at
format1_takes bytes =
    step (LeavesLengths 24 bytes) (Short bytes) (head_at bytes) _ (head_takes bytes) (λ head a.
    step (LengthPairs 4 [] head.1) (Short bytes) (pair_list_at head.1) _ (pair_list_takes head.1) (λ pairs b.
    unless (Short bytes) (ltb 0 (length pairs.1)) (length pairs.1) _ (λ _. omega (arith, a, b))))

-- an entry of format 1 has at most 14 bytes more in format 2
pub format1-len : (bytes : List ℕ) (kept : Kept) → format1_at bytes ≡ Ok kept → Short bytes kept
format1-len bytes kept e = value (Short bytes) (format1_at bytes) kept (format1_takes bytes) e
