-- What the order of bytes tells of two texts.
use Rattle.std.proofs.Common.{◌≡◌, ℕ, true, false, List, bytes_eq, ap, subst, ◌∙◌}
use Rattle.std.specs.declared.cmp.Ordering.TheVariants.{Less, Equal, Greater}
use Rattle.std.specs.Ordering.{is_eq, ordering_reverse}
use Rattle.std.specs.Cmp.{tied_itself}
use Rattle.std.specs.Cmp.Lexicographic.{nat_list_cmp_total, nat_list_eq_equiv, texts_ties}
use Rattle.std.specs.FinMap.{slice_cmp-IsAntisymmetric, nat_cmp-IsAntisymmetric}
use Rattle.sg_msg.specs.Message.{byte_order}

-- equal in the order, so the same
pub same-from_equal : (x y : List ℕ) → byte_order x y ≡ Equal → x ≡ y
same-from_equal x y e = slice_cmp-IsAntisymmetric nat_cmp-IsAntisymmetric x y e

pub equal-from_same : (x y : List ℕ) → x ≡ y → byte_order x y ≡ Equal
equal-from_same x y e = subst (λ (z : List ℕ). byte_order x z ≡ Equal) e (tied_itself nat_list_cmp_total x)

pub less-back : (x y : List ℕ) → byte_order x y ≡ Greater → byte_order y x ≡ Less
less-back x y e = nat_list_cmp_total.antisymm y x ∙ ap ordering_reverse e

pub less-trans : (x y z : List ℕ) → byte_order x y ≡ Less → byte_order y z ≡ Less → byte_order x z ≡ Less
less-trans x y z e f = nat_list_cmp_total.trans x y z e f

-- the test of bytes, by the order
pub test-same : (x y : List ℕ) → x ≡ y → bytes_eq x y ≡ true
test-same x y e = texts_ties x y ∙ ap is_eq (equal-from_same x y e)

pub test-less : (x y : List ℕ) → byte_order x y ≡ Less → bytes_eq x y ≡ false
test-less x y e = texts_ties x y ∙ ap is_eq e

pub test-greater : (x y : List ℕ) → byte_order x y ≡ Greater → bytes_eq x y ≡ false
test-greater x y e = texts_ties x y ∙ ap is_eq e

pub test-back : (x y : List ℕ) → bytes_eq x y ≡ bytes_eq y x
test-back x y = nat_list_eq_equiv.symm x y
