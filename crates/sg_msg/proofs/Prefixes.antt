-- Tests of names behind a prefix.
use Rattle.std.proofs.Common.{◌≡◌, ℕ, Bool, true, false, ◌&&◌, List, [], ◌∷◌, ◌++◌, length, take, drop, bytes_eq, nat_eq, refl, ap, ◌∙◌}
use Rattle.std.specs.List.{list_any}
use Rattle.sg_msg.proofs.ByteOrder.{test-back}

and-assoc : (a b c : Bool) → (a && (b && c)) ≡ ((a && b) && c)
and-assoc true b c = refl
and-assoc false b c = refl

-- a text behind a prefix is tested part by part
test-parts : (prefix m name : List ℕ) → bytes_eq (prefix ++ m) name ≡ (bytes_eq prefix (take (length prefix) name) && bytes_eq m (drop (length prefix) name))
test-parts [] m name = refl
test-parts (x ∷ prefix) m [] = refl
test-parts (x ∷ prefix) m (y ∷ name) = ap (λ (b : Bool). nat_eq x y && b) (test-parts prefix m name) ∙ and-assoc (nat_eq x y) (bytes_eq prefix (take (length prefix) name)) (bytes_eq m (drop (length prefix) name))

pub any-behind : (prefix name : List ℕ) (ms : List (List ℕ)) → bytes_eq (take (length prefix) name) prefix ≡ true → list_any (λ m. bytes_eq (prefix ++ m) name) ms ≡ list_any (λ m. bytes_eq m (drop (length prefix) name)) ms
any-behind prefix name [] is = refl
any-behind prefix name (m ∷ ms) is =
    let front = test-back prefix (take (length prefix) name) ∙ is in
    rw (test-parts prefix m name, front, any-behind prefix name ms is) refl

pub none-behind : (prefix name : List ℕ) (ms : List (List ℕ)) → bytes_eq (take (length prefix) name) prefix ≡ false → list_any (λ m. bytes_eq (prefix ++ m) name) ms ≡ false
none-behind prefix name [] is = refl
none-behind prefix name (m ∷ ms) is =
    let front = test-back prefix (take (length prefix) name) ∙ is in
    rw (test-parts prefix m name, front, none-behind prefix name ms is) refl
