-- A stamp that is read is the stamp that was written, and what was written is read again.
use Rattle.std.proofs.Common.{◌≡◌, ℕ, ℤ, pos, negsuc, ◌^◌, ◌≤ℤ◌, Bool, true, false, cond, List, ◌++◌, length, Ok, Err, refl, ap, subst, ◌∙◌, append_assoc, arith, to_z, of_z}
use Rattle.std.specs.Int.{w16, w64}
use Rattle.std.specs.Prelude.{FitsSigned, int_le, ◌&&◌}
use Rattle.std.proofs.lemmas.Bool.{and_parts, and_from}
use Rattle.std.proofs.lemmas.Int.{of_z-to_z, to_z-of_z, ints}
use Rattle.sg_time.specs.Stamp.{local_of, IsValidStamp}
use Rattle.sg_time.specs.declared.stamp.Stamp.{Stamp}
use Rattle.sg_codec.specs.Spelling.{number_bytes, stamp_bytes}
use Rattle.sg_codec.specs.Reading.{◌>>=◌, number_at, is_valid, stamp_at}
use Rattle.sg_codec.proofs.FieldLaws.{AreBytes, TakesField, Takes-then, step_ok, test_ok, ok_is, wide16, wide64, number_takes, number_again}

-- the test of the order, and the order
test-from : (a b : ℤ) → a ≤ℤ b → int_le a b ≡ true
test-from a b h = grind (arith, ints)

from-test : (a b : ℤ) → int_le a b ≡ true → a ≤ℤ b
from-test a b h = grind (arith, ints)

pub valid-test : (stamp : Stamp) → IsValidStamp stamp → is_valid stamp ≡ true
unfolding is_valid
valid-test stamp v =
    and_from _ _ (and_from _ _ (and_from _ _ (test-from _ _ v.east) (test-from _ _ v.west)) (test-from _ _ v.begins)) (test-from _ _ v.ends)

pub valid-from : (stamp : Stamp) → is_valid stamp ≡ true → IsValidStamp stamp
unfolding is_valid
valid-from stamp e =
    let a = and_parts (int_le (negsuc 1438) stamp.offset && int_le stamp.offset (pos 1439) && int_le (negsuc 62167219199999999) (local_of stamp)) (int_le (local_of stamp) (pos 253402300799999999)) e in
    let b = and_parts (int_le (negsuc 1438) stamp.offset && int_le stamp.offset (pos 1439)) (int_le (negsuc 62167219199999999) (local_of stamp)) a.0 in
    let c = and_parts (int_le (negsuc 1438) stamp.offset) (int_le stamp.offset (pos 1439)) b.0 in
    record { east = from-test _ _ c.0; west = from-test _ _ c.1; begins = from-test _ _ b.1; ends = from-test _ _ a.1 }

-- the moment and the offset of a valid stamp are numbers of eight and two bytes
at_fits : (stamp : Stamp) → IsValidStamp stamp → FitsSigned w64 stamp.at
at_fits stamp v = omega (arith, ints)

offset_fits : (stamp : Stamp) → IsValidStamp stamp → FitsSigned w16 stamp.offset
offset_fits stamp v = omega (arith, ints)

pub stamp_takes : (bytes : List ℕ) (x : Stamp × List ℕ) → AreBytes bytes → stamp_at bytes ≡ Ok x → TakesField bytes (stamp_bytes x.0) x.1 × IsValidStamp x.0
unfolding stamp_at
stamp_takes bytes x fits e =
    let a = step_ok (number_at w64 bytes) (λ at. number_at w16 at.1 >>= λ offset. cond (is_valid (record { at = to_z w64 at.0; offset = to_z w16 offset.0 })) (Ok (record { at = to_z w64 at.0; offset = to_z w16 offset.0 }, offset.1)) (Err (length at.1))) x e in
    let b = step_ok (number_at w16 a.0.1) (λ offset. cond (is_valid (record { at = to_z w64 a.0.0; offset = to_z w16 offset.0 })) (Ok (record { at = to_z w64 a.0.0; offset = to_z w16 offset.0 }, offset.1)) (Err (length a.0.1))) x a.2 in
    let made : Stamp = record { at = to_z w64 a.0.0; offset = to_z w16 b.0.0 } in
    let t = test_ok (is_valid made) (length a.0.1) (Ok (made, b.0.1)) x b.2 in
    let n = number_takes w64 (2 ^ 64) wide64 bytes a.0.0 a.0.1 fits a.1 in
    let m = number_takes w16 (2 ^ 16) wide16 a.0.1 b.0.0 b.0.1 n.0.rest_fits b.1 in
    let at_back : of_z w64 (to_z w64 a.0.0) ≡ a.0.0 = of_z-to_z w64 a.0.0 n.1 in
    let offset_back : of_z w16 (to_z w16 b.0.0) ≡ b.0.0 = of_z-to_z w16 b.0.0 m.1 in
    let both = Takes-then bytes (number_bytes w64 a.0.0) a.0.1 (number_bytes w16 b.0.0) b.0.1 n.0 m.0 in
    subst (λ (y : Stamp × List ℕ). TakesField bytes (stamp_bytes y.0) y.1 × IsValidStamp y.0) (ok_is (made, b.0.1) x t.1) (rw (at_back, offset_back) both, valid-from made t.0)

pub stamp_again : (stamp : Stamp) (rest : List ℕ) → IsValidStamp stamp → stamp_at (stamp_bytes stamp ++ rest) ≡ Ok (stamp, rest)
unfolding stamp_at
stamp_again stamp rest v =
    let at = at_fits stamp v in
    let offset = offset_fits stamp v in
    let regrouped : stamp_bytes stamp ++ rest ≡ number_bytes w64 (of_z w64 stamp.at) ++ (number_bytes w16 (of_z w16 stamp.offset) ++ rest) = append_assoc (number_bytes w64 (of_z w64 stamp.at)) (number_bytes w16 (of_z w16 stamp.offset)) rest in
    ap stamp_at regrouped
    ∙ rw (number_again w64 (2 ^ 64) wide64 (of_z w64 stamp.at) (number_bytes w16 (of_z w16 stamp.offset) ++ rest) (omega (arith, ints, at)), number_again w16 (2 ^ 16) wide16 (of_z w16 stamp.offset) rest (omega (arith, ints, offset)), to_z-of_z w64 stamp.at at, to_z-of_z w16 stamp.offset offset, valid-test stamp v) refl

-- what a reader of the two numbers gives
pub stamp-valid : (bytes : List ℕ) (n m : ℕ) (after rest : List ℕ) (stamp : Stamp) → number_at w64 bytes ≡ Ok (n, after) → number_at w16 after ≡ Ok (m, rest) → stamp.at ≡ to_z w64 n → stamp.offset ≡ to_z w16 m → IsValidStamp stamp → stamp_at bytes ≡ Ok (stamp, rest)
unfolding stamp_at
stamp-valid bytes n m after rest stamp e f at offset v = rw (e, f, ← at, ← offset, valid-test stamp v) refl

pub stamp-damaged : (bytes : List ℕ) (n m : ℕ) (after rest : List ℕ) (stamp : Stamp) → number_at w64 bytes ≡ Ok (n, after) → number_at w16 after ≡ Ok (m, rest) → stamp.at ≡ to_z w64 n → stamp.offset ≡ to_z w16 m → is_valid stamp ≡ false → stamp_at bytes ≡ Err (length after)
unfolding stamp_at
stamp-damaged bytes n m after rest stamp e f at offset v = rw (e, f, ← at, ← offset, v) refl

-- a test that tells that the stamp isn't valid
pub invalid-test : (stamp : Stamp) (b : Bool) → (IsValidStamp stamp → b ≡ true) → b ≡ false → is_valid stamp ≡ false
invalid-test stamp b tells fails = by (is_valid stamp) refl
  where
    by : (v : Bool) → is_valid stamp ≡ v → is_valid stamp ≡ false
    by false is = is
    by true is = let yes : b ≡ true = tells (valid-from stamp is) in absurd cc
