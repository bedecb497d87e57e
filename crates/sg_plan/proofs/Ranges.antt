-- Numbers of options are in their ranges.
use Rattle.std.proofs.Common.{◌≡◌, ℕ, ◌+◌, ◌*◌, ◌-◌, ◌≤◌, Bool, true, false, nat_lt, nat_le, ◌&&◌, if◌then◌else◌, List, [], ◌∷◌, Option, Some, None, unwrap_or, refl, subst}
use Rattle.std.proofs.lemmas.Option.{none-some, cond_some}
use Rattle.std.proofs.lemmas.Bool.{leb-true}
use Rattle.sg_parse_base.specs.declared.spot.Spot.{Spot}
use Rattle.sg_options.specs.declared.numbers.Range.{Range}
use Rattle.sg_options.specs.Numbers.{number_behind, digits_behind, number_to, at_least, number_in}
use Rattle.sg_options.specs.Values.{number_or}
use Rattle.sg_driver.specs.Defaults.{IsWithinRange}

behind : (c d : Bool) (x m : ℕ) → (if c then (if d then Some x else None) else None) ≡ Some m → (d ≡ true) × (x ≡ m)
behind false d x m e = absurd (none-some m e)
behind true d x m e = cond_some d x m e

number-behind-below : (base high n b m : ℕ) → number_behind base high n b ≡ Some m → m ≤ high
number-behind-below base high n b m e =
    let p = behind (nat_le 48 b && nat_lt b (48 + base)) (nat_le (n * base + (b - 48)) high) (n * base + (b - 48)) m e in
    subst (λ k. k ≤ high) p.1 (leb-true (n * base + (b - 48)) high p.0)

digits-below : (base high : ℕ) (o : Option ℕ) (text : List ℕ) (n : ℕ) → ((m : ℕ) → o ≡ Some m → m ≤ high) → digits_behind base high o text ≡ Some n → n ≤ high
digits-below base high None text n h e = absurd (none-some n e)
digits-below base high (Some m) [] n h e = h n e
digits-below base high (Some m) (b ∷ text) n h e = digits-below base high (number_behind base high m b) text n (λ k f. number-behind-below base high m b k f) e

number-to-below : (base high : ℕ) (text : List ℕ) (n : ℕ) → number_to base high text ≡ Some n → n ≤ high
number-to-below base high [] n e = absurd (none-some n e)
number-to-below base high (b ∷ text) n e = digits-below base high (number_behind base high 0 b) text n (λ k f. number-behind-below base high 0 b k f) e

at-least-within : (low high : ℕ) (o : Option ℕ) (n : ℕ) → ((m : ℕ) → o ≡ Some m → m ≤ high) → at_least low o ≡ Some n → (low ≤ n) × (n ≤ high)
at-least-within low high None n h e = absurd (none-some n e)
at-least-within low high (Some m) n h e =
    let p = cond_some (nat_le low m) m n e in
    (subst (λ k. low ≤ k) p.1 (leb-true low m p.0), subst (λ k. k ≤ high) p.1 (h m refl))

number-in-within : (range : Range) (text : List ℕ) (n : ℕ) → number_in range text ≡ Some n → IsWithinRange range n
number-in-within range text n e = at-least-within range.low range.high (number_to 10 range.high text) n (λ m f. number-to-below 10 range.high text m f) e

unwrapped-within : (range : Range) (o : Option ℕ) (default : ℕ) → ((n : ℕ) → o ≡ Some n → IsWithinRange range n) → IsWithinRange range default → IsWithinRange range (unwrap_or o default)
unwrapped-within range None default h d = d
unwrapped-within range (Some n) default h d = h n refl

pub number-or-within : (range : Range) (value : Option Spot) (default : ℕ) → IsWithinRange range default → IsWithinRange range (number_or value range default)
number-or-within range None default d = d
number-or-within range (Some spot) default d = unwrapped-within range (number_in range spot.token.text) default (λ n e. number-in-within range spot.token.text n e) d
