-- The texts of macros and values in paths are parts of names.
use Rattle.std.proofs.Common.{◌≡◌, ◌≢◌, ℕ, Bool, true, false, ◌&&◌, ◌||◌, List, [], ◌∷◌, map, refl, ap, ◌∙◌, arith}
use Rattle.std.specs.Prelude.{◌==◌}
use Rattle.std.specs.List.{list_all}
use Rattle.std.proofs.lemmas.Bool.{eqb-false}
use Rattle.sg_template.specs.Path.{is_inner, name_byte, first_byte, name_text}

byte_by : (e : Bool) (b : ℕ) → ((b == 47) || (b == 0)) ≡ e → is_inner (name_byte b) ≡ true
byte_by true b h = rw h refl
byte_by false b h = rw (h, h) refl

byte : (b : ℕ) → is_inner (name_byte b) ≡ true
byte b = byte_by ((b == 47) || (b == 0)) b refl

bytes_inner : (bytes : List ℕ) → list_all is_inner (map name_byte bytes) ≡ true
bytes_inner [] = refl
bytes_inner (b ∷ bytes) = ap (λ (t : Bool). t && list_all is_inner (map name_byte bytes)) (byte b) ∙ bytes_inner bytes

first_by : (d : Bool) (b : ℕ) → (b == 46) ≡ d → is_inner (first_byte b) ≡ true
first_by true b h = rw h refl
first_by false b h = rw h (byte b)

pub all_inner : (text : List ℕ) → list_all is_inner (name_text text) ≡ true
all_inner [] = refl
all_inner (b ∷ bytes) = ap (λ (t : Bool). t && list_all is_inner (map name_byte bytes)) (first_by (b == 46) b refl) ∙ bytes_inner bytes

dotless_by : (d e : Bool) (b : ℕ) → (b == 46) ≡ d → ((b == 47) || (b == 0)) ≡ e → first_byte b ≢ 46
dotless_by true e b h k is = let wrong = rw h at is in absurd (omega (arith, wrong))
dotless_by false true b h k is = let wrong = rw (h, k) at is in absurd (omega (arith, wrong))
dotless_by false false b h k is = eqb-false b 46 h (rw (h, k) at is)

pub no_dot : (text bytes : List ℕ) → name_text text ≢ 46 ∷ bytes
no_dot [] bytes e = cc
no_dot (b ∷ text) bytes e =
    let same : first_byte b ≡ 46 = cc in
    dotless_by (b == 46) ((b == 47) || (b == 0)) b refl refl same
